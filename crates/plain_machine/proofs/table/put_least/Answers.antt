use Rattle.std.proofs.Common.{◌≡◌, ◌∙◌, ◌++◌, ◌∷◌, [], ap, sym, arith}
use Rattle.std.specs.Prelude.{ℕ, Some, length, option_map, set}
use Rattle.std.proofs.lemmas.List.{length-map, map-set, map_push}
use Rattle.history_spec.specs.Table.{least_free}
use Rattle.tab_values.specs.Views.{object_of}
use Rattle.plain_machine.specs.Views.{objects_of}
use Rattle.plain_machine.proofs.Places.{least_below, put_behind, put_within}
use Rattle.plain_machine.proofs.table.put_least.Goals as goal

pub returns-then-number-len-clause-items : goal.returns-then-number-len-clause-items
returns-then-number-len-clause-items c =
    let number : c.least_free-number.result ≡ least_free (objects_of c.args.places.now.items) =
    c.least_free-number.ensures ∙ ap (λ places. least_free (objects_of places)) c.deref.ensures.value in
    let items = c.args.places.now.items in
    let kept = option_map object_of in
    map-set kept items c.least_free-number.result (Some c.args.object)
    ∙ ap (λ (n : ℕ). set (objects_of items) n (Some (object_of c.args.object))) number
    ∙ sym (put_within (object_of c.args.object) (objects_of items) (omega (arith, number, length-map items kept, c.args.places.now.ok)))

pub returns-else-number-len-clause-items : goal.returns-else-number-len-clause-items
returns-else-number-len-clause-items c =
    let number : c.least_free-number.result ≡ least_free (objects_of c.args.places.now.items) =
    c.least_free-number.ensures ∙ ap (λ places. least_free (objects_of places)) c.deref.ensures.value in
    let items = c.args.places.now.items in
    let kept = option_map object_of in
    let pushed : c.push.new.self.items ≡ items ++ Some c.args.object ∷ [] = rw c.unwrap.ensures at c.push.ensures.items in
    ap objects_of pushed ∙ map_push kept items (Some c.args.object)
    ∙ sym (put_behind (object_of c.args.object) (objects_of items) (omega (arith, number, length-map items kept, c.args.places.now.ok)))

pub returns-else-number-len-clause-below : goal.returns-else-number-len-clause-below
returns-else-number-len-clause-below c =
    let number : c.least_free-number.result ≡ least_free (objects_of c.args.places.now.items) =
    c.least_free-number.ensures ∙ ap (λ places. least_free (objects_of places)) c.deref.ensures.value in
    omega (arith, number, least_below (objects_of c.args.places.now.items) c.requires.few)

pub returns-else-number-len-clause-most : goal.returns-else-number-len-clause-most
returns-else-number-len-clause-most c =
    let number : c.least_free-number.result ≡ least_free (objects_of c.args.places.now.items) =
    c.least_free-number.ensures ∙ ap (λ places. least_free (objects_of places)) c.deref.ensures.value in
    let items = c.args.places.now.items in
    let pushed : c.push.new.self.items ≡ items ++ Some c.args.object ∷ [] = rw c.unwrap.ensures at c.push.ensures.items in
    omega (arith, number, least_below (objects_of items) c.requires.few, ap length pushed, c.args.places.now.ok)
