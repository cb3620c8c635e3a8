-- The sessions stand over a client's command, which changes those that it names, and may end one or start one.
use Rattle.std.proofs.Common.{◌≡◌, ◌≢◌, inl, inr, ◌+◌, ◌<◌, ◌≤◌, ℕ, Bool, true, false, List, [], length, get_or, set, refl, ap, sym, ◌∙◌, subst, arith}
use Rattle.std.specs.Prelude.{◌==◌, Option, Some, None, is_some, IfSome, if◌then◌else◌}
use Rattle.std.specs.List.{AllByRecursion}
use Rattle.std.proofs.lemmas.Bool.{cases_eq, eq-eqb, eqb-true, ne_eqb, true≢false}
use Rattle.std.proofs.lemmas.List.{get_or-set_same, get_or-set_other}
use Rattle.tab_spec.specs.declared.numbers.Numbers.{Numbers}
use Rattle.tab_spec.specs.Session.{Session}
use Rattle.tab_spec.specs.Shape.{number_of_session, octet_of}
use Rattle.effect_spec.specs.Operands.{Operand, Operands, a_session, absent, an_object, operand_at, plain, with_authorization, with_operand}
use Rattle.device_spec.specs.Slots.{IsSlots, SessionPlace, SlotState, gap_from, gap_of, inactive, loaded, saved, is_loaded, loaded_count, loaded_under, older, place_of, session_in_place, sessions_left}
use Rattle.client_laws.specs.Ready.{IsAmong}
use Rattle.session_swap.specs.declared.TheConstants.{NEEDED_MOST}
use Rattle.session_swap.specs.Items.{AreAlike, HasGapRoom, Item, SessionsStand, SessionsView, flag, is_loaded_item, is_saved_item, item_at, loaded_items, new_item, number_of_item, oldest_number, renewal_gap}
use Rattle.session_swap.proofs.Counts.{count_set, flag_false, flag_most}
use Rattle.session_swap.proofs.Moved.{ending, item_inside, item_stands, moved, stands_moved}
use Rattle.session_swap.proofs.Numbers.{oldest_more}
use Rattle.session_swap.proofs.Oldest.{gap_told}
use Rattle.session_swap.proofs.PlaceSet.{any_set}
use Rattle.session_swap.proofs.Rising.{rise_gone}
use Rattle.session_swap.proofs.Standing.{alike_same, stands_changed}
use Rattle.session_swap.proofs.Told.{loaded_told}
use Rattle.client_machine.proofs.SessionsAfter.{AreOwn, IsAuthorized, IsOwn, between_length, items_ended, one_among, operand_length, own_session, places_between}

-- ---- places that are alike

abbrev pub AreAllAlike : List SessionPlace → List SessionPlace → Type 0
AreAllAlike old new = (number : ℕ) → AreAlike (get_or old number inactive) (get_or new number inactive)

octet_by : (octet handle : ℕ) (s : Session) (test : Bool) → (octet == octet_of handle) ≡ test → is_some (if test then Some s else None) ≡ true
    → octet ≡ octet_of handle
octet_by octet handle s true is there = eqb-true octet (octet_of handle) is
octet_by octet handle s false is there = absurd cc

loaded_alike : (seed : List ℕ) (handle : ℕ) (s : Session) (place : SessionPlace) → is_loaded place ≡ true
    → is_some (session_in_place seed handle place None) ≡ true → AreAlike place (loaded (octet_of handle) s)
loaded_alike seed handle s inactive is there = absurd cc
loaded_alike seed handle s (saved octet number) is there = absurd cc
loaded_alike seed handle s (loaded octet old) is there =
    (refl, eq-eqb (octet_of handle) octet (sym (octet_by octet handle old (octet == octet_of handle) refl there)))

-- a loaded session of the client's may be another one
own_alike : (slots : SlotState) (view : SessionsView) (others : List ℕ) (client handle : ℕ) (s : Session) → SessionsStand slots view others
    → IsOwn view.items client handle → AreAlike (place_of slots handle) (loaded (octet_of handle) s)
own_alike slots view others client handle s stand own =
    let stands = item_stands slots view others (number_of_session handle) (new_item client handle) stand own in
    loaded_alike slots.persist.seed handle s (place_of slots handle) stands.place stands.there

alike_set : (old new : List SessionPlace) (n : ℕ) (place : SessionPlace) → AreAllAlike old new → n < length new → AreAlike (get_or old n inactive) place
    → AreAllAlike old (set new n place)
alike_set old new n place alike inside here = λ number.
    elim (cases_eq number n) [
      | inl same ↦
          subst (λ (m : ℕ). AreAlike (get_or old m inactive) (get_or (set new n place) m inactive)) (sym same)
          (subst (λ (p : SessionPlace). AreAlike (get_or old n inactive) p) (sym (get_or-set_same new n place inactive inside)) here)
      | inr apart ↦
          subst (λ (p : SessionPlace). AreAlike (get_or old number inactive) p) (sym (get_or-set_other new n number place inactive apart)) (alike number)
    ]

alike_both : (old new : List SessionPlace) (n : ℕ) (place : SessionPlace) → AreAllAlike old new → n < length old → n < length new
    → AreAllAlike (set old n place) (set new n place)
alike_both old new n place alike inside here = λ number.
    elim (cases_eq number n) [
      | inl same ↦
          subst (λ (m : ℕ). AreAlike (get_or (set old n place) m inactive) (get_or (set new n place) m inactive)) (sym same)
          (subst (λ (p : SessionPlace). AreAlike p (get_or (set new n place) n inactive)) (sym (get_or-set_same old n place inactive inside))
          (subst (λ (p : SessionPlace). AreAlike place p) (sym (get_or-set_same new n place inactive here)) (alike_same place)))
      | inr apart ↦
          subst (λ (p : SessionPlace). AreAlike p (get_or (set new n place) number inactive)) (sym (get_or-set_other old n number place inactive apart))
          (subst (λ (p : SessionPlace). AreAlike (get_or old number inactive) p) (sym (get_or-set_other new n number place inactive apart)) (alike number))
    ]

operand_alike : (slots : SlotState) (view : SessionsView) (others : List ℕ) (client : ℕ) (named : List ℕ) (places : List SessionPlace) (operand : Operand)
    → SessionsStand slots view others → AllByRecursion (λ handle. IsOwn view.items client handle) named → IsAmong named operand
    → length places ≡ length view.items → AreAllAlike slots.sessions places → AreAllAlike slots.sessions (with_operand loaded_under places operand)
operand_alike slots view others client named places absent stand own among long alike = alike
operand_alike slots view others client named places (plain handle) stand own among long alike = alike
operand_alike slots view others client named places (an_object o) stand own among long alike = alike
operand_alike slots view others client named places (a_session handle s) stand own among long alike =
    let is = one_among (λ handle. IsOwn view.items client handle) named handle own among in
    alike_set slots.sessions places (number_of_session handle) (loaded_under handle s) alike
    (omega (arith, item_inside view.items (number_of_session handle) (new_item client handle) is, long)) (own_alike slots view others client handle s stand is)

between_alike : (slots : SlotState) (view : SessionsView) (others : List ℕ) (client handle : ℕ) (ended : Bool) (operands : Operands)
    → SessionsStand slots view others → AreOwn view.items client handle ended operands → AreAllAlike slots.sessions (places_between slots.sessions operands)
between_alike slots view others client handle ended operands stand are =
    let first = operand_at operands.handles 0 in
    let long : length slots.sessions ≡ length view.items = stand.sound.numbers ∙ sym stand.count in
    operand_alike slots view others client are.named (with_operand loaded_under slots.sessions first) (operand_at operands.handles 1) stand are.own are.among.second
    (operand_length slots.sessions first ∙ long)
    (operand_alike slots view others client are.named slots.sessions first stand are.own are.among.first long
    (λ number. alike_same (get_or slots.sessions number inactive)))

-- ---- they stand

same_places : (old new places : List SessionPlace) → new ≡ places → AreAllAlike old places → AreAllAlike old new
same_places old new places is alike = subst (λ (l : List SessionPlace). AreAllAlike old l) (sym is) alike

pub without_stand : (slots : SlotState) (view : SessionsView) (others : List ℕ) (client handle : ℕ) → SessionsStand slots view others → IsOwn view.items client handle
    → SessionsStand (moved slots (number_of_session handle) inactive slots.counter) (record view { items = set view.items (number_of_session handle) None }) others
without_stand slots view others client handle stand own =
    let n = number_of_session handle in
    stands_moved slots view others n inactive slots.counter None view.next view.order view.saved view.left view.contexts stand (ending slots view others n (new_item client handle) stand own)
    (λ some. stand.next (any_set is_saved_item view.items n None refl some)) (rise_gone view.items n None view.saved refl stand.rise)

stand_by : (slots after : SlotState) (view : SessionsView) (others : List ℕ) (client handle : ℕ) (ended : Bool) (session : Option (ℕ × Session)) (places : List SessionPlace)
    → SessionsStand slots view others → after.started ≡ true → IsSlots after → after.counter ≡ slots.counter → after.persist.seed ≡ slots.persist.seed
    → after.numbers ≡ slots.numbers
    → AreAllAlike slots.sessions places → length places ≡ length view.items → IfSome session (λ held. IsOwn view.items client held.0) → IsAuthorized handle ended session
    → after.sessions ≡ with_authorization loaded_under inactive places ended session
    → SessionsStand after (record view { items = items_ended view.items handle ended }) others
stand_by slots after view others client handle true None places stand started sound counter seed numbers alike long own is sessions = absurd (let no = is.there refl in cc)
stand_by slots after view others client handle false None places stand started sound counter seed numbers alike long own is sessions =
    stands_changed slots after view others stand started sound counter seed numbers (same_places slots.sessions after.sessions places sessions alike)
stand_by slots after view others client handle true (Some held) places stand started sound counter seed numbers alike long own is sessions =
    let n = number_of_session held.0 in
    let inside = item_inside view.items n (new_item client held.0) own in
    let few : n < length slots.sessions = omega (arith, inside, stand.sound.numbers, stand.count) in
    subst (λ (handle : ℕ). SessionsStand after (record view { items = set view.items (number_of_session handle) None }) others) is.handle_is
    (stands_changed (moved slots n inactive slots.counter) after (record view { items = set view.items n None }) others
    (without_stand slots view others client held.0 stand own) started sound counter seed numbers
    (same_places (set slots.sessions n inactive) after.sessions (set places n inactive) sessions
    (alike_both slots.sessions places n inactive alike few (omega (arith, inside, long)))))
stand_by slots after view others client handle false (Some held) places stand started sound counter seed numbers alike long own is sessions =
    let n = number_of_session held.0 in
    let inside = item_inside view.items n (new_item client held.0) own in
    stands_changed slots after view others stand started sound counter seed numbers
    (same_places slots.sessions after.sessions (set places n (loaded_under held.0 held.1)) sessions
    (alike_set slots.sessions places n (loaded_under held.0 held.1) alike (omega (arith, inside, long))
    (own_alike slots view others client held.0 held.1 stand own)))

pub left_stand : (slots after : SlotState) (view : SessionsView) (others : List ℕ) (client handle : ℕ) (ended : Bool) (operands : Operands)
    → SessionsStand slots view others → after.started ≡ true → IsSlots after → after.counter ≡ slots.counter → after.persist.seed ≡ slots.persist.seed
    → after.numbers ≡ slots.numbers
    → AreOwn view.items client handle ended operands → after.sessions ≡ sessions_left slots.sessions operands ended
    → SessionsStand after (record view { items = items_ended view.items handle ended }) others
left_stand slots after view others client handle ended operands stand started sound counter seed numbers are sessions =
    stand_by slots after view others client handle ended operands.session (places_between slots.sessions operands) stand started sound counter seed numbers
    (between_alike slots view others client handle ended operands stand are)
    (between_length slots.sessions operands ∙ stand.sound.numbers ∙ sym stand.count)
    (own_session view.items client are.named operands.session are.own are.among.authorization) are.authorized sessions

-- ---- room below the device's gap

-- another session of a number, which isn't saved, as the one before it isn't
oldest_set : (items : List (Option Item)) (n : ℕ) (item : Option Item) → n < length items → number_of_item item ≡ None → number_of_item (item_at items n) ≡ None
    → oldest_number (set items n item) ≡ oldest_number items
oldest_set items n item inside none was =
    oldest_more items n item inside was ∙ ap (λ (number : Option ℕ). older number (oldest_number items)) none

-- the gap depends on what is kept, and is the same over other sessions that are loaded
gap_over : (slots after : SlotState) (view new_view : SessionsView) → SessionsStand slots view [] → SessionsStand after new_view [] → new_view.next ≡ view.next
    → oldest_number new_view.items ≡ oldest_number view.items → gap_of after ≡ gap_of slots
gap_over slots after view new_view stand new next oldest =
    sym (gap_told after new_view new) ∙ (λ i. gap_from (next i) (oldest i)) ∙ gap_told slots view stand

-- the device of the same numbers
numbers_over : (slots after : SlotState) (view new_view : SessionsView) → SessionsStand slots view [] → SessionsStand after new_view []
    → new_view.numbers ≡ view.numbers → slots.numbers ≡ after.numbers
numbers_over slots after view new_view stand new same = stand.numbers ∙ sym same ∙ sym new.numbers

not_full : (full few many : ℕ) (test : Bool) → (many == full) ≡ test → few ≤ many → many ≤ full → flag (few == full) ≤ flag test
not_full full few many true is less most = flag_most (few == full)
not_full full few many false is less most =
    let apart : few ≢ full = λ same. absurd (true≢false (sym (eq-eqb many full (omega (arith, same, less, most))) ∙ is)) in
    omega (arith, flag_false (few == full) (ne_eqb few full apart))

-- room on a device of these numbers
abbrev HasRoomOf : SlotState → Numbers → Type 0
HasRoomOf slots n = gap_of slots + flag (loaded_count slots.sessions == n.loaded) ≤ renewal_gap n + NEEDED_MOST

-- no more are loaded than before
pub room_left : (slots after : SlotState) (view new_view : SessionsView) → SessionsStand slots view [] → SessionsStand after new_view []
    → new_view.numbers ≡ view.numbers → new_view.next ≡ view.next
    → oldest_number new_view.items ≡ oldest_number view.items → loaded_items new_view.items ≤ loaded_items view.items → HasGapRoom (Some slots) → HasGapRoom (Some after)
room_left slots after view new_view stand new same next oldest fewer room =
    let full = slots.numbers.loaded in
    subst (λ (n : Numbers). HasRoomOf after n) (numbers_over slots after view new_view stand new same)
    (omega (
      arith,
      room,
      gap_over slots after view new_view stand new next oldest,
      not_full full (loaded_count after.sessions) (loaded_count slots.sessions) (loaded_count slots.sessions == full) refl
          (omega (arith, fewer, loaded_told slots view stand, loaded_told after new_view new)) stand.sound.loaded,
    ))

-- one more may be, where the gap has the room
pub room_more : (slots after : SlotState) (view new_view : SessionsView) → SessionsStand slots view [] → SessionsStand after new_view []
    → new_view.numbers ≡ view.numbers → new_view.next ≡ view.next
    → oldest_number new_view.items ≡ oldest_number view.items → gap_of slots < renewal_gap slots.numbers + NEEDED_MOST → HasGapRoom (Some after)
room_more slots after view new_view stand new same next oldest room =
    subst (λ (n : Numbers). HasRoomOf after n) (numbers_over slots after view new_view stand new same)
    (omega (
      arith,
      room,
      gap_over slots after view new_view stand new next oldest,
      flag_most (loaded_count after.sessions == slots.numbers.loaded),
    ))

pub without_oldest : (items : List (Option Item)) (client handle : ℕ) → IsOwn items client handle
    → oldest_number (set items (number_of_session handle) None) ≡ oldest_number items
without_oldest items client handle own =
    let n = number_of_session handle in
    oldest_set items n None (item_inside items n (new_item client handle) own) refl (ap number_of_item own)

pub without_loaded : (items : List (Option Item)) (client handle : ℕ) → IsOwn items client handle
    → loaded_items (set items (number_of_session handle) None) ≤ loaded_items items
without_loaded items client handle own =
    let n = number_of_session handle in
    omega (arith, count_set is_loaded_item items n None None (item_inside items n (new_item client handle) own), ap (λ (item : Option Item). flag (is_loaded_item item)) own)

pub with_oldest : (items : List (Option Item)) (client handle : ℕ) → item_at items (number_of_session handle) ≡ None → number_of_session handle < length items
    → oldest_number (set items (number_of_session handle) (Some (new_item client handle))) ≡ oldest_number items
with_oldest items client handle none inside =
    oldest_set items (number_of_session handle) (Some (new_item client handle)) inside refl (ap number_of_item none)

-- the room is left where a session ended, and where none did
pub room_ended : (slots after : SlotState) (view : SessionsView) (client handle : ℕ) (ended : Bool) → SessionsStand slots view []
    → SessionsStand after (record view { items = items_ended view.items handle ended }) [] → (ended ≡ true → IsOwn view.items client handle)
    → HasGapRoom (Some slots) → HasGapRoom (Some after)
room_ended slots after view client handle true stand new own room =
    room_left slots after view (record view { items = set view.items (number_of_session handle) None }) stand new refl refl
    (without_oldest view.items client handle (own refl)) (without_loaded view.items client handle (own refl)) room
room_ended slots after view client handle false stand new own room = room_left slots after view view stand new refl refl refl (omega arith) room
