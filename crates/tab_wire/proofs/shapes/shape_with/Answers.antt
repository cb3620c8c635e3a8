use Rattle.std.proofs.Common.{rules, ◌≡◌, length}
use Rattle.tab_wire.proofs.Shaped.{shape_is}
use Rattle.tab_wire.proofs.shapes.shape_with.Goals as goal

pub returns-clause-value : goal.returns-clause-value
returns-clause-value c =
    let row = c.args.row in
    let two : length row.handles ≡ 2 = search rules in
    shape_is row.code row.authorized c.tag_of.result c.handle_or_0.result c.handle_or_0-2.result c.presence.result c.presence-2.result c.from.result row.handles row.response_handle c.args.bytes.now
    two c.in_ok-whole.ensures c.in_ok-whole-2.ensures c.in_ok-of_kind.ensures c.in_ok-of_kind-2.ensures c.tag_of.ensures c.handle_or_0.ensures c.handle_or_0-2.ensures
    c.presence.ensures.value c.presence-2.ensures.value c.from.ensures
