-- A device that is ready for StartAuthSession has room for a session where the plain machine has.
use Rattle.std.proofs.Common.{◌≡◌, ◌<◌, ◌≤◌, ◌⊎◌, inl, inr, ℕ, Bool, true, false, List, refl, ap, sym, ◌∙◌, arith}
use Rattle.std.specs.Prelude.{Option, Some, None, Result, Ok, Err, nat_le, ◌==◌, ◌||◌, if◌then◌else◌}
use Rattle.std.proofs.lemmas.Bool.{le-leb, leb-true, lt-leb}
use Rattle.tab_spec.specs.declared.TheConstants.{CC_START_AUTH_SESSION, RC_SESSION_HANDLES, RC_SESSION_MEMORY, SESSION_NUMBERS}
use Rattle.effect_spec.specs.Sessions.{StartParameters, start_check}
use Rattle.world_spec.specs.World as world
use Rattle.device_spec.specs.Slots as device
use Rattle.device_spec.specs.Slots.{IsSlots, SlotState, active_count, loaded_count}
use Rattle.client_laws.specs.Ready.{HasSessionRoom}

-- on any device each active session has a number
pub active_in_range : (slots : SlotState) → IsSlots slots → slots.numbers.active ≤ SESSION_NUMBERS
active_in_range slots sound = sound.range.active_most

-- ---- the device has a place for another session, or as many as may be

abbrev pub HasPlace : SlotState → Type 0
HasPlace slots = (loaded_count slots.sessions < slots.numbers.loaded) ⊎ (slots.numbers.active ≤ active_count slots.sessions)

here_by : (places most world_most loaded active plain : ℕ) → world_most ≡ most → active ≡ plain → (loaded < places) ⊎ (world_most ≤ plain)
    → (loaded < places) ⊎ (most ≤ active)
here_by places most world_most loaded active plain most_is same (inl place) = inl place
here_by places most world_most loaded active plain most_is same (inr all) = inr (omega (arith, most_is, same, all))

pub has_place : (slots : SlotState) (state : world.ClientState) → state.most ≡ slots.numbers.active → HasSessionRoom slots state → HasPlace slots
has_place slots state most room =
    here_by slots.numbers.loaded slots.numbers.active state.most (loaded_count slots.sessions) (active_count slots.sessions) (world.active state.sessions) most
    room.same room.place

-- ---- both refuse a session by the same code

full_by : (active loaded : Bool) (handles memory : ℕ) → active ≡ true
    → (if active then Some handles else if loaded then Some memory else None) ≡ (if active then Some handles else None)
full_by active loaded handles memory is = rw is refl

place_by : (active loaded : Bool) (handles memory : ℕ) → loaded ≡ false
    → (if active then Some handles else if loaded then Some memory else None) ≡ (if active then Some handles else None)
place_by active loaded handles memory is = ap (λ (full : Bool). if active then Some handles else if full then Some memory else None) is

or_same : (first second : Bool) → (second ≡ true → first ≡ true) → (first || second) ≡ first
or_same true second so = refl
or_same false true so = sym (so refl)
or_same false false so = refl

-- where no more may be active than there are numbers, the numbers don't run out before
no_more : (most active : ℕ) → most ≤ SESSION_NUMBERS → (nat_le most active || nat_le SESSION_NUMBERS active) ≡ nat_le most active
no_more most active few =
    or_same (nat_le most active) (nat_le SESSION_NUMBERS active)
    (λ all. le-leb most active (omega (arith, few, leb-true SESSION_NUMBERS active all)))

room_by : (places most loaded active : ℕ) → (loaded < places) ⊎ (most ≤ active)
    → (if nat_le most active then Some RC_SESSION_HANDLES else if nat_le places loaded then Some RC_SESSION_MEMORY else None)
    ≡ (if nat_le most active then Some RC_SESSION_HANDLES else None)
room_by places most loaded active (inl few) =
    place_by (nat_le most active) (nat_le places loaded) RC_SESSION_HANDLES RC_SESSION_MEMORY (lt-leb places loaded few)
room_by places most loaded active (inr all) =
    full_by (nat_le most active) (nat_le places loaded) RC_SESSION_HANDLES RC_SESSION_MEMORY (le-leb most active all)

too_many_same : (slots : SlotState) (state : world.ClientState) (check : Result StartParameters ℕ) → slots.numbers.active ≤ SESSION_NUMBERS
    → state.most ≡ slots.numbers.active → HasSessionRoom slots state → device.session_too_many slots check ≡ world.session_too_many state check
too_many_same slots state (Err code) few most room = refl
too_many_same slots state (Ok b) few most room =
    let active = active_count slots.sessions in
    let loaded = loaded_count slots.sessions in
    ap (λ (full : Bool). if full then Some RC_SESSION_HANDLES else if nat_le slots.numbers.loaded loaded then Some RC_SESSION_MEMORY else None)
    (no_more slots.numbers.active active few)
    ∙ room_by slots.numbers.loaded slots.numbers.active loaded active (has_place slots state most room)
    ∙ λ i. if nat_le (sym most i) (room.same i) then Some RC_SESSION_HANDLES else None

where_starts : (start : Bool) (device plain : Option ℕ) → (start ≡ true → device ≡ plain) → (if start then device else None) ≡ (if start then plain else None)
where_starts true device plain same = same refl
where_starts false device plain same = refl

-- where the device has room as the plain machine has
pub same_room : (slots : SlotState) (state : world.ClientState) (code : ℕ) (params : List ℕ) → slots.numbers.active ≤ SESSION_NUMBERS
    → state.most ≡ slots.numbers.active → ((code == CC_START_AUTH_SESSION) ≡ true → HasSessionRoom slots state)
    → device.room_for slots code params ≡ world.room_for state code params
same_room slots state code params few most room =
    where_starts (code == CC_START_AUTH_SESSION) (device.session_too_many slots (start_check params)) (world.session_too_many state (start_check params))
    (λ so. too_many_same slots state (start_check params) few most (room so))
