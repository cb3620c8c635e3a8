-- A session that a client's command started: the device gives it a number that no session has, and it becomes an item under its handle.
use Rattle.std.proofs.Common.{◌≡◌, ◌+◌, ◌*◌, ◌^◌, ◌<◌, ◌≤◌, ℕ, suc, Bool, true, false, List, [], ◌∷◌, length, get_or, set, refl, ap, sym, ◌∙◌, arith}
use Rattle.std.specs.Prelude.{◌==◌, ◌&&◌, ◌||◌, not, nat_le, nat_lt, Option, Some, None, is_some, IfSome, if◌then◌else◌}
use Rattle.std.specs.List.{count_by, list_any}
use Rattle.std.proofs.lemmas.Bool.{le-ltb, leb-false, lt-leb, lt-ltb, or_parts}
use Rattle.tab_spec.specs.declared.TheConstants.{HEADER_BYTES, SESSION_NUMBERS}
use Rattle.tab_spec.specs.declared.SessionKind.{SessionKind}
use Rattle.tab_spec.specs.declared.SessionKind.TheVariants as kinds
use Rattle.tab_spec.specs.Admission.{is_session_handle}
use Rattle.tab_spec.specs.Session.{Session, kind_octet}
use Rattle.tab_spec.specs.Shape.{number_of_session, octet_of}
use Rattle.effect_spec.specs.Operands.{Operand, Operands, a_session, absent, an_object, operand_at, plain, sessions_after, with_authorization, with_operand}
use Rattle.device_spec.specs.Answers.{is_word, word_at}
use Rattle.device_spec.specs.Slots.{IsSlots, SessionPlace, SlotState, free_number, gap_of, inactive, is_active, loaded, saved}
use Rattle.client_laws.specs.Ready.{IsAmong, SessionsAreAmong}
use Rattle.session_swap.specs.declared.TheConstants.{NEEDED_MOST}
use Rattle.session_swap.specs.Items.{HasGapRoom, Item, SessionsStand, SessionsView, flag, is_held, item_at, new_item, place_at, renewal_gap}
use Rattle.session_swap.proofs.Standing.{stands_begun}
use Rattle.history_laws.proofs.Tables.{get_or_mapped}
use Rattle.world_spec.specs.World.{Owned, is_unused, own_place}
use Rattle.client_machine.specs.Moves.{number_taken, told_handle}
use Rattle.client_machine.specs.Settled.{owned_in, sessions_in}
use Rattle.client_machine.proofs.SessionsAfter.{numbered, sessions_with}
use Rattle.client_machine.proofs.SessionsStanding.{room_more, with_oldest}

-- ---- a command that names no session leaves all as they were

no_operand : {P : Type 0} (place : ℕ → Session → P) (places : List P) (operand : Operand) → IsAmong [] operand → with_operand place places operand ≡ places
no_operand place places absent among = refl
no_operand place places (plain handle) among = refl
no_operand place places (an_object o) among = refl
no_operand place places (a_session handle s) among = absurd cc

no_authorization : {P : Type 0} (place : ℕ → Session → P) (unused : P) (places : List P) (ended : Bool) (session : Option (ℕ × Session))
    → IfSome session (λ held. list_any (λ other. other == held.0) [] ≡ true) → with_authorization place unused places ended session ≡ places
no_authorization place unused places ended None among = refl
no_authorization place unused places ended (Some held) among = absurd cc

pub none_after : {P : Type 0} (place : ℕ → Session → P) (unused : P) (places : List P) (operands : Operands) (ended : Bool) → SessionsAreAmong [] operands
    → sessions_after place unused places operands ended ≡ places
none_after place unused places operands ended among =
    let first = operand_at operands.handles 0 in
    let second = operand_at operands.handles 1 in
    no_authorization place unused (with_operand place (with_operand place places first) second) ended operands.session among.authorization
    ∙ no_operand place (with_operand place places first) second among.second
    ∙ no_operand place places first among.first

-- ---- the least number that is unused

pub free_most : (places : List SessionPlace) → free_number places ≤ length places
free_most [] = omega arith
free_most (inactive ∷ places) = omega arith
free_most (loaded octet s ∷ places) = omega (arith, free_most places)
free_most (saved octet number ∷ places) = omega (arith, free_most places)

later_free : (place : SessionPlace) (places : List SessionPlace) → get_or places (free_number places) inactive ≡ inactive
    → get_or (place ∷ places) (1 + free_number places) inactive ≡ inactive
later_free place places is =
    let next : 1 + free_number places ≡ suc (free_number places) = omega arith in
    ap (λ (n : ℕ). get_or (place ∷ places) n inactive) next ∙ is

pub free_is : (places : List SessionPlace) → get_or places (free_number places) inactive ≡ inactive
free_is [] = refl
free_is (inactive ∷ places) = refl
free_is (loaded octet s ∷ places) = later_free (loaded octet s) places (free_is places)
free_is (saved octet number ∷ places) = later_free (saved octet number) places (free_is places)

octet_small : (kind : SessionKind) → kind_octet kind < 2 ^ 7
octet_small kinds.Hmac = omega arith
octet_small kinds.Policy = omega arith
octet_small kinds.Trial = omega arith

-- a handle of this octet and number
pub record IsMadeOf (handle octet number : ℕ) : Type 0 where
  pub fits : handle < 2 ^ 32
  pub octet_is : octet_of handle ≡ octet
  pub number_is : number_of_session handle ≡ number

made_of : (octet number : ℕ) → octet < 2 ^ 7 → number < 2 ^ 24 → IsMadeOf (octet * 2 ^ 24 + number) octet number
made_of octet number few small = record {
  fits = omega (arith, few, small);
  octet_is = omega (arith, few, small);
  number_is = omega (arith, few, small);
}

pub new_handle : (kind : SessionKind) (places : List SessionPlace) → length places ≡ SESSION_NUMBERS
    → IsMadeOf (kind_octet kind * 2 ^ 24 + free_number places) (kind_octet kind) (free_number places)
new_handle kind places long = made_of (kind_octet kind) (free_number places) (octet_small kind) (omega (arith, free_most places, long))

-- ---- no session has it

unused_by : (item : Option Item) → flag (is_some item) + 0 ≡ flag (is_active inactive) → item ≡ None
unused_by None is = refl
unused_by (Some item) is = absurd (omega (arith, is))

pub unused_item : (slots : SlotState) (view : SessionsView) (number : ℕ) → SessionsStand slots view [] → place_at slots number ≡ inactive
    → item_at view.items number ≡ None
unused_item slots view number stand free =
    unused_by (item_at view.items number) (stand.owned number ∙ ap (λ (p : SessionPlace). flag (is_active p)) free)

word_by : (low : Bool) (word : ℕ) → low ≡ false → (if low then None else Some word) ≡ Some word
word_by low word is = rw is refl

word_told : (reply : List ℕ) → 14 ≤ length reply → word_at HEADER_BYTES reply ≡ Some (told_handle reply)
word_told reply long = word_by (nat_lt (length reply) 14) (told_handle reply) (le-ltb (length reply) 14 long)

-- whether no new session can have this handle
abbrev is_taken : SessionsView → ℕ → Bool
is_taken view handle = nat_le view.numbers.active (count_by is_held view.items) || is_some (item_at view.items (number_of_session handle))

taken_told : (view : SessionsView) (reply : List ℕ) → 14 ≤ length reply → number_taken view reply ≡ is_taken view (told_handle reply)
taken_told view reply long = ap (is_word (is_taken view)) (word_told reply long)

neither : (one other : Bool) → one ≡ false → other ≡ false → (one || other) ≡ false
neither one other is also = rw (is, also) refl

-- one that is under no session's number can, where clients have fewer than may be active
pub free_told : (view : SessionsView) (reply : List ℕ) → 14 ≤ length reply → count_by is_held view.items < view.numbers.active
    → item_at view.items (number_of_session (told_handle reply)) ≡ None → number_taken view reply ≡ false
free_told view reply long few none =
    taken_told view reply long
    ∙ neither (nat_le view.numbers.active (count_by is_held view.items)) (is_some (item_at view.items (number_of_session (told_handle reply))))
    (lt-leb view.numbers.active (count_by is_held view.items) few) (ap (λ (item : Option Item). is_some item) none)

none_by : (item : Option Item) → is_some item ≡ false → item ≡ None
none_by None is = refl
none_by (Some item) is = absurd cc

-- and then it is so
pub record IsFree (view : SessionsView) (handle : ℕ) : Type 0 where
  pub few : count_by is_held view.items < view.numbers.active
  pub none : item_at view.items (number_of_session handle) ≡ None

pub none_told : (view : SessionsView) (reply : List ℕ) → 14 ≤ length reply → number_taken view reply ≡ false → IsFree view (told_handle reply)
none_told view reply long free =
    let item = item_at view.items (number_of_session (told_handle reply)) in
    let owned = count_by is_held view.items in
    let parts = or_parts (nat_le view.numbers.active owned) (is_some item) (sym (taken_told view reply long) ∙ free) in
    record { few = leb-false view.numbers.active owned parts.0; none = none_by item parts.1 }

-- ---- it becomes an item

unused_here : (few there : Bool) → few ≡ true → there ≡ false → (few && not there) ≡ true
unused_here few there is none = rw (is, none) refl

-- the device and the items with a session that was started under this handle
pub record Started (slots after : SlotState) (view : SessionsView) (client handle : ℕ) (s : Session) : Type 0 where
  pub stand : SessionsStand after (record view { items = set view.items (number_of_session handle) (Some (new_item client handle)) }) []
  pub gap : HasGapRoom (Some after)
  pub sessions : sessions_in after (set view.items (number_of_session handle) (Some (new_item client handle)))
      ≡ set (sessions_in slots view.items) (number_of_session handle) (own_place client handle s)
  pub unused : is_unused (sessions_in slots view.items) (number_of_session handle) ≡ true

pub started : (slots after : SlotState) (view : SessionsView) (client handle : ℕ) (s : Session) → SessionsStand slots view [] → after.started ≡ true → IsSlots after
    → after.counter ≡ slots.counter → after.persist.seed ≡ slots.persist.seed → after.numbers ≡ slots.numbers
    → is_session_handle handle ≡ true → number_of_session handle < SESSION_NUMBERS
    → place_at slots (number_of_session handle) ≡ inactive → after.sessions ≡ set slots.sessions (number_of_session handle) (loaded (octet_of handle) s)
    → gap_of slots < renewal_gap slots.numbers + NEEDED_MOST → Started slots after view client handle s
started slots after view client handle s stand is_started sound counter seed numbers session fits free sessions gap =
    let number = number_of_session handle in
    let none = unused_item slots view number stand free in
    let new = stands_begun slots after view [] client handle s stand is_started sound counter seed numbers none session fits free sessions in
    record {
      stand = new;
      gap = room_more slots after view (record view { items = set view.items number (Some (new_item client handle)) }) stand new refl refl
          (with_oldest view.items client handle none (omega (arith, fits, stand.count))) gap;
      sessions = sessions_with slots after view.items client handle s seed sessions (numbered slots view [] stand)
          (omega (arith, fits, stand.sound.numbers));
      unused = unused_here (nat_lt number SESSION_NUMBERS) (is_some (get_or (sessions_in slots view.items) number None))
          (lt-ltb number SESSION_NUMBERS fits)
          (ap (λ (o : Option Owned). is_some o) (get_or_mapped (owned_in slots) view.items number refl ∙ ap (owned_in slots) none));
    }
