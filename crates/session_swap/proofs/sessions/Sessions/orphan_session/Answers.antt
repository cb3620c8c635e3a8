use Rattle.std.proofs.Common.{◌<◌, ◌∙◌, ℕ, List, length, set, refl, ap, sym, subst, arith}
use Rattle.std.proofs.lemmas.List.{length-map}
use Rattle.device_port.specs.Use.{without_one}
use Rattle.session_swap.specs.Items.{ListsThose, Names, SessionsView, disowned, is_held, is_left, item_at}
use Rattle.session_swap.specs.Records.{item_of_record, items_of}
use Rattle.session_swap.proofs.Holders.{altered_view, disowned_there, kept_altered}
use Rattle.session_swap.proofs.Listing.{lists_without}
use Rattle.session_swap.proofs.Making.{named_record, read_there}
use Rattle.session_swap.proofs.Owners.{disowned_unheld, disowned_unleft, held_less, held_most}
use Rattle.session_swap.proofs.sessions.Sessions.orphan_session.Goals as goal

pub less_one-self-inside-requires : goal.less_one-self-inside-requires
less_one-self-inside-requires c =
    let records = c.self.inside.records.items in
    let number = c.number_of-number.result in
    let named : Names (items_of records) c.args.handle =
    subst (λ (v : SessionsView). Names v.items c.args.handle) (sym c.self.view_is) c.requires in
    let inside : number < length records = omega (arith, named_record records c.args.handle named, c.number_of-number.ensures) in
    let was = ap is_held (read_there records number c.index_mut-record.result.now inside c.index_mut-record.ensures.value) in
    omega (
      arith,
      c.self.invariant.held_is,
      held_most (items_of records) number c.is_held-was_held.result (omega (arith, inside, length-map records item_of_record))
          (was ∙ sym c.is_held-was_held.ensures),
    )

pub invariant_of-self : goal.invariant_of-self
invariant_of-self c =
    let records = c.self.inside.records.items in
    let items = items_of records in
    let number = c.number_of-number.result in
    let named : Names items c.args.handle =
    subst (λ (v : SessionsView). Names v.items c.args.handle) (sym c.self.view_is) c.requires in
    let inside : number < length records = omega (arith, named_record records c.args.handle named, c.number_of-number.ensures) in
    let d = c.index_mut-record.result.now in
    let is = c.index_mut-record.ensures.value in
    let item = disowned (item_at items number) in
    let was = ap is_held (read_there records number d inside is) ∙ sym c.is_held-was_held.ensures in
    kept_altered records c.self.inside.order c.self.inside.left c.remove.new.self c.self.inside.held c.less_one-self-inside.result number d _ _ item
    c.self.invariant (disowned_there records number d inside is)
    (subst (λ (l : List ℕ). ListsThose is_left l (set items number item)) (sym c.remove.ensures)
    (lists_without is_left refl items c.self.inside.left number item c.self.invariant.left_are (disowned_unleft (item_at items number))))
    (omega (
      arith,
      c.less_one-self-inside.ensures,
      c.self.invariant.held_is,
      held_less items number item c.is_held-was_held.result (omega (arith, inside, length-map records item_of_record)) was
          (disowned_unheld (item_at items number)),
    ))

pub returns : goal.returns
returns c =
    let records = c.self.inside.records.items in
    let number = c.number_of-number.result in
    let named : Names (items_of records) c.args.handle =
    subst (λ (v : SessionsView). Names v.items c.args.handle) (sym c.self.view_is) c.requires in
    let inside : number < length records = omega (arith, named_record records c.args.handle named, c.number_of-number.ensures) in
    altered_view disowned without_one c.self.inside.numbers records c.self.inside.next c.self.inside.order c.self.inside.left c.remove.new.self
    c.args.self.now number _ c.index_mut-record.result.now _ _ c.self.view_is c.number_of-number.ensures
    (disowned_there records number c.index_mut-record.result.now inside c.index_mut-record.ensures.value) c.remove.ensures
