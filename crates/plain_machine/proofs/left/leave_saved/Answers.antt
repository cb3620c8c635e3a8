use Rattle.std.proofs.Common.{◌≡◌, ◌≤◌, ◌+◌, ◌<◌, ◌∙◌, ◌++◌, ◌∷◌, [], Bool, List, Option, drop, get_or, length, sym, ap, arith, vec_capacity}
use Rattle.std.specs.Prelude.{option_map, set, if◌then◌else◌}
use Rattle.std.proofs.lemmas.Bool.{cond-false, cond-true}
use Rattle.std.proofs.lemmas.List.{get_or-map, length-map, length-set, map-set}
use Rattle.std.proofs.lemmas.List.Edits.{map_over_more}
use Rattle.world_spec.specs.World.{Owned, is_saved_by, left_place, saved_numbers}
use Rattle.plain_machine.specs.Owners.{owned_of, owners_of}
use Rattle.plain_machine.proofs.Numbers.{listed_length, saved_on, walk_reads}
use Rattle.plain_machine.proofs.left.leave_saved.Goals as goal
use Rattle.plain_machine.proofs.left.leave_saved.Goals.{then-leave_place, else-leave_place}

pub loop-number-preserved : goal.loop-number-preserved
loop-number-preserved c =
    let kept = option_map owned_of in
    let client = c.args.client in
    let places = c.loop-number.places in
    let number = c.loop-number.number in
    let old = c.index-places-number.result in
    let before = owners_of c.args.places.now in
    let numbers = c.loop-number.numbers.items in
    let invariant = c.loop-number.invariant in
    let within : number < length places = omega (arith, invariant.4) in
    let whole : number < length before = omega (arith, invariant.4, length-map c.args.places.now kept) in
    let found : kept old ≡ get_or (owners_of places) number (kept old) =
    ap kept c.index-places-number.is ∙ sym (get_or-map kept places number old (kept old) within) in
    let left : kept c.leave_place.new.place ≡ left_place client (kept old) =
    c.leave_place.ensures.place ∙ sym (ap (λ place. left_place client (kept place)) c.index-places-number.is) in
    let saved : c.leave_place.result ≡ is_saved_by client (kept old) =
    c.leave_place.ensures.saved ∙ sym (ap (λ place. is_saved_by client (kept place)) c.index-places-number.is) in
    let more : c.if-leave_place.numbers.items ≡ (if c.leave_place.result then numbers ++ number ∷ [] else numbers) =
    elim c.if-leave_place.branch [
      | then-leave_place w ↦
          ap (λ v. v.items) w.numbers-is ∙ (rw w.unwrap.ensures at w.push.ensures.items)
          ∙ sym (cond-true c.leave_place.result (numbers ++ number ∷ []) numbers w.if-leave_place.true)
      | else-leave_place w ↦
          ap (λ v. v.items) w.numbers-is
          ∙ sym (cond-false c.leave_place.result (numbers ++ number ∷ []) numbers w.if-leave_place.false)
    ] in
    let room : vec_capacity c.loop-number.numbers ≤ vec_capacity c.if-leave_place.numbers =
    elim c.if-leave_place.branch [
      | then-leave_place w ↦ omega (arith, w.push.ensures.capacity, ap (λ v. vec_capacity v) w.numbers-is)
      | else-leave_place w ↦ omega (arith, ap (λ v. vec_capacity v) w.numbers-is)
    ] in
    let rest : drop number before ≡ kept old ∷ drop (number + 1) before =
    walk_reads (left_place client) before (owners_of places) number (kept old) whole invariant.0 found in (
      map-set kept places number c.leave_place.new.place
          ∙ ap (λ (place : Option Owned). set (owners_of places) number place) left
          ∙ map_over_more (left_place client) before (owners_of places) number (kept old) whole invariant.0 found,
      saved_on client number (kept old) (drop (number + 1) before) numbers c.if-leave_place.numbers.items
          (more ∙ ap (λ (left : Bool). if left then numbers ++ number ∷ [] else numbers) saved)
          ∙ ap (λ (places : List (Option Owned)). numbers ++ saved_numbers client number places) (sym rest) ∙ invariant.1,
      omega (arith, invariant.2, listed_length c.leave_place.result number numbers c.if-leave_place.numbers.items more),
      omega (arith, invariant.3, room),
      omega (arith, invariant.4, length-set places number c.leave_place.new.place),
    )
