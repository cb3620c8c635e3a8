use Rattle.std.proofs.Common.{◌∙◌, ap, sym, subst, arith}
use Rattle.std.specs.Prelude.{slice_get}
use Rattle.session_swap.specs.Items.{IsLeftAt, SessionsView}
use Rattle.session_swap.proofs.Orphans.{left_below, left_named}
use Rattle.session_swap.proofs.sessions.Sessions.left_at.Goals as goal

pub index-record-requires : goal.index-record-requires
index-record-requires c =
    let inside = c.self.inside in
    omega (
      arith,
      left_below inside.records.items inside.order inside.left inside.held c.args.place c.in_ok-number.number c.self.invariant
          (ap (slice_get inside.left) (sym c.from.ensures) ∙ sym c.at.ensures ∙ c.in_ok-number.was),
    )

pub returns : goal.returns
returns c =
    let inside = c.self.inside in
    let r = c.index-record.result.now in
    subst (λ (v : SessionsView). IsLeftAt v c.args.place r.handle) c.self.view_is
    (left_named inside.numbers inside.records.items inside.next inside.order inside.left inside.held c.args.place c.in_ok-number.number r c.self.invariant
    (ap (slice_get inside.left) (sym c.from.ensures) ∙ sym c.at.ensures ∙ c.in_ok-number.was) c.index-record.ensures)
