-- A session that its client saved is left by it: it is listed last, and no more are listed than there are numbers.
use Rattle.std.proofs.Common.{◌≡◌, ◌<◌, ℕ, true, List, [], ◌∷◌, ◌++◌, length, get_or, set, refl, ap, subst, sym, ◌∙◌, arith, length-append, length-set}
use Rattle.std.specs.Prelude.{None}
use Rattle.std.proofs.lemmas.List.{length-map}
use Rattle.std.proofs.lemmas.List.Sums.{count_by-le-length}
use Rattle.tab_spec.specs.Shape.{number_of_session}
use Rattle.tab_spec.specs.declared.TheConstants.{SESSION_NUMBERS}
use Rattle.tab_spec.specs.declared.numbers.Numbers.{Numbers}
use Rattle.tab_spec.specs.declared.contexts.ContextLimits.{ContextLimits}
use Rattle.session_swap.specs.declared.record.Record.{Record}
use Rattle.session_swap.specs.Items.{ListsThose, SessionsView, is_held, is_left, is_saved_for_owner, item_at, item_of, left_behind}
use Rattle.session_swap.specs.Records.{AreListed, OrderView, item_of_record, items_of, whole_view}
use Rattle.session_swap.proofs.Among.{some_inside}
use Rattle.session_swap.proofs.Holders.{altered, altered_view, behind_there, kept_altered, with_holder}
use Rattle.session_swap.proofs.Listing.{lists_pushed}
use Rattle.session_swap.proofs.Owners.{behind_counts, behind_left, count_unchanged, owner_held, owner_unleft, saved_owner, saved_there, saved_whole}

-- a number at the end of a list
abbrev pub at_end : ℕ → List ℕ → List ℕ
at_end number numbers = numbers ++ number ∷ []

module _ {contexts : ContextLimits} (numbers : Numbers) (records : List Record) (next : ℕ) (order : OrderView) (left : List ℕ) (held : ℕ)
    (view : SessionsView) (handle n : ℕ)
    (kept : AreListed contexts numbers records order left held) (view_is : whole_view numbers records next order left contexts ≡ view)
    (saved : is_saved_for_owner (item_of view.items handle) ≡ true) (number_is : n ≡ number_of_session handle) where
  was_saved : is_saved_for_owner (item_at (items_of records) n) ≡ true
  was_saved =
      ap (λ (v : SessionsView). is_saved_for_owner (item_at v.items n)) view_is
      ∙ ap (λ (k : ℕ). is_saved_for_owner (item_at view.items k)) number_is ∙ saved_whole view.items handle saved

  inside_items : n < length (items_of records)
  inside_items = some_inside (items_of records) n (saved_there (item_at (items_of records) n) was_saved)

  inside : n < length records
  inside = omega (arith, inside_items, length-map records item_of_record)

  all_listed : ListsThose is_left (left ++ n ∷ []) (set (items_of records) n (left_behind (item_at (items_of records) n)))
  all_listed =
      let item = item_at (items_of records) n in
      lists_pushed is_left refl (items_of records) left n (left_behind item) kept.left_are (owner_unleft item (saved_owner item was_saved)) inside_items
      (behind_left item was_saved)

  pub few_left : length left < SESSION_NUMBERS
  few_left =
      let items = items_of records in
      let item = left_behind (item_at items n) in
      omega (
        arith,
        all_listed.count,
        length-append left (n ∷ []),
        count_by-le-length is_left (set items n item),
        length-set items n item,
        length-map records item_of_record,
        kept.sound.count,
      )

  pub leaves_kept : (new_left : List ℕ) (r : Record) → r ≡ get_or records n r → new_left ≡ left ++ n ∷ []
      → AreListed contexts numbers (set records n (with_holder None r.in_use r)) order new_left held
  leaves_kept new_left r there is =
      let items = items_of records in
      let item = left_behind (item_at items n) in
      kept_altered records order left new_left held held n r None r.in_use item kept (behind_there records n r inside there)
      (subst (λ (l : List ℕ). ListsThose is_left l (set items n item)) (sym is) all_listed)
      (kept.held_is
      ∙ sym (count_unchanged is_held items n item
      (behind_counts (item_at items n) was_saved ∙ sym (owner_held (item_at items n) (saved_owner (item_at items n) was_saved)))))

  pub leaves_view : (new_left : List ℕ) (r : Record) → r ≡ get_or records n r → new_left ≡ left ++ n ∷ []
      → whole_view numbers (set records n (with_holder None r.in_use r)) next order new_left contexts
      ≡ altered left_behind at_end (number_of_session handle) view
  leaves_view new_left r there is =
      altered_view left_behind at_end numbers records next order left new_left view n (number_of_session handle) r None r.in_use view_is number_is
      (behind_there records n r inside there) is
