use Rattle.std.proofs.Common.{◌≡◌, ◌≤◌, List, ℕ, length, take, subst, sym, arith}
use Rattle.std.proofs.lemmas.List.{length-take}
use Rattle.link_port.specs.Port.{Pulled}
use Rattle.connection_core.proofs.Cutting.{fed_all, pulled_front, pulled_taken}
use Rattle.connection_core.proofs.intake.Intake.pull.Goals as goal

pub returns-in-Ok-clause-round : goal.returns-in-Ok-clause-round
returns-in-Ok-clause-round g c frame =
    let piece = take c.in-Ok.count c.deref.result.now in
    let whole : length c.pull.new.into ≡ c.args.self.now.block.len = omega arith in
    let front = pulled_front c.in-Ok.count c.args.self.now.block.len c.pull.new.into c.args.self.now.block.items c.deref.result.now c.deref.ensures.value whole in
    let small : length piece ≤ 4096 = omega (arith, length-take c.in-Ok.count c.deref.result.now, c.in-Ok.ensures.bound) in
    let pulled = subst (λ (l : List ℕ). Pulled (g.S.Source.left c.args.source.now) (g.S.Source.left c.pull.new.self) (length c.deref_mut.result.now) l) (sym front) c.in-Ok.ensures.pulled in (
      c.requires,
      record {
        piece = piece;
        took = pulled_taken (g.S.Source.left c.args.source.now) (g.S.Source.left c.pull.new.self) (length c.deref_mut.result.now) piece pulled;
        kept_is = fed_all c.args.self.now.framer c.feed.new.self piece c.feed.result c.requires.none c.requires.sound small c.feed.ensures.count c.feed.ensures.fed;
      },
    )
