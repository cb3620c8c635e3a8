use Rattle.std.proofs.Common.{◌∙◌, sym, subst, arith}
use Rattle.session_swap.specs.Items.{IsFirst, SessionsView}
use Rattle.session_swap.specs.Records.{IsSoundView}
use Rattle.session_swap.proofs.Firsts.{first_below, first_named, first_oldest}
use Rattle.session_swap.proofs.Listing.{sound_view}
use Rattle.session_swap.proofs.sessions.Sessions.oldest_by.Goals as goal

pub index-requires : goal.index-requires
index-requires g c =
    let inside = c.self.inside in
    omega (
      arith,
      first_below inside.records.items inside.order c.in_ok-number.number c.self.invariant.listed
          (sym c.first_saved.ensures.first ∙ c.in_ok-number.was),
    )

pub returns-clause-least : goal.returns-clause-least
returns-clause-least g c rise =
    let inside = c.self.inside in
    let view = c.args.self.now in
    let sound = subst (λ (v : SessionsView). IsSoundView v) c.self.view_is
    (sound_view inside.numbers inside.records.items inside.next inside.held inside.order inside.left c.self.invariant) in
    let first = subst (λ (v : SessionsView). IsFirst v c.index.result.now.handle) c.self.view_is
    (first_named inside.numbers inside.records.items inside.next inside.held inside.order inside.left c.in_ok-number.number c.index.result.now c.self.invariant
    (sym c.first_saved.ensures.first ∙ c.in_ok-number.was) c.index.ensures) in
    first_oldest view c.index.result.now.handle sound.saved rise first

pub returns-clause-oldest : goal.returns-clause-oldest
returns-clause-oldest g c =
    let inside = c.self.inside in
    subst (λ (v : SessionsView). IsFirst v c.index.result.now.handle) c.self.view_is
    (first_named inside.numbers inside.records.items inside.next inside.held inside.order inside.left c.in_ok-number.number c.index.result.now c.self.invariant
    (sym c.first_saved.ensures.first ∙ c.in_ok-number.was) c.index.ensures)
