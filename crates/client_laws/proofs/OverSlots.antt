-- What a device that is ready for a client's command does with it over its slots.
use Rattle.std.proofs.Common.{◌≡◌, ℕ, Bool, true, false, List, drop, get_or, refl, ◌∙◌}
use Rattle.std.specs.Prelude.{Option, Some, None, Ok}
use Rattle.tab_spec.specs.declared.Admitted.{Admitted}
use Rattle.tab_spec.specs.Admission.{Tables, admitted, admitted_by, client_admitted}
use Rattle.tab_spec.specs.Commands.{row_of}
use Rattle.tab_spec.specs.Persist.{Persist}
use Rattle.tab_spec.specs.Reply.{error_reply}
use Rattle.tab_spec.specs.Shape.{row_in}
use Rattle.tab_spec.specs.Values.{AreBytes}
use Rattle.tab_spec.specs.declared.contexts.TheConstants.{PROFILE_CONTEXTS}
use Rattle.effect_spec.specs.Effect.{Effect, effect_of}
use Rattle.effect_spec.specs.Operands.{Operands}
use Rattle.world_spec.specs.World.{ClientState, room_for, tables_of}
use Rattle.device_spec.specs.Answers.{takes}
use Rattle.device_spec.specs.Slots.{SlotState, IsSlots, effect_by, slot_step, slot_tables}
use Rattle.tab_laws.specs.OtherHandles.{admitted_handled}
use Rattle.tab_laws.proofs.Handled.{client_is, handled_admitted}
use Rattle.device_laws.specs.Effects.{is_managed, is_of_effects}
use Rattle.device_laws.proofs.Answering.{answers_rightly}
use Rattle.client_laws.specs.Ready.{IsReady, client_effect, sent_for, starts_session}
use Rattle.client_laws.proofs.Agreeing.{runs}
use Rattle.client_laws.proofs.Commands.{unmanaged}
use Rattle.client_laws.proofs.Made.{of_effects_only}
use Rattle.client_laws.proofs.Room.{HasPlace, active_in_range, has_place, same_room}
use Rattle.client_laws.proofs.Running.{IsRun, over_run, run_with}
use Rattle.client_laws.proofs.Starting.{start_taken}

-- ---- the step

is_run : (tables : Tables) (bytes : List ℕ) (a : Admitted) → client_admitted tables bytes ≡ Ok a → is_managed a.shape.row.code ≡ false
    → IsRun a.shape.row.code
is_run tables bytes a e managed =
    let is = unmanaged a.shape.row.code managed in
    record { startup = (client_is tables bytes a e).other; save = is.save; load = is.load; flush = is.flush; capability = is.capability }

-- it does what the plain machine does, over its slots
sent_step : (slots : SlotState) (client : ℕ) (state : ClientState) (bytes : List ℕ) (a : Admitted) (first : ℕ) (full : Option ℕ)
    → client_admitted (tables_of client state) bytes ≡ Ok a → is_managed a.shape.row.code ≡ false → AreBytes bytes
    → IsReady slots client state a bytes first → room_for state a.shape.row.code (drop a.auths.params bytes) ≡ full
    → slot_step slots (sent_for bytes a first) ≡ run_with slots (client_effect client state a bytes) full
sent_step slots client state bytes a first full e managed all ready room =
    let tables = tables_of client state in
    let params = drop a.auths.params bytes in
    let run = runs slots client state bytes a first e all ready in
    let same = same_room slots state a.shape.row.code params (active_in_range slots ready.sound) ready.most ready.place in
    let effect : Persist → Operands → Effect = λ persist operands. effect_of persist operands a.shape a.auths bytes in
    over_run slots tables bytes a first (get_or a.shape.handles 1 0) ready.started run.whole run.are run.there (is_run tables bytes a e managed)
    ∙ λ i. run_with slots (effect (ready.persist i) (run.operands i)) ((same ∙ room) i)

pub command_full : (slots : SlotState) (client : ℕ) (state : ClientState) (bytes : List ℕ) (a : Admitted) (first code : ℕ)
    → client_admitted (tables_of client state) bytes ≡ Ok a → is_managed a.shape.row.code ≡ false → AreBytes bytes
    → IsReady slots client state a bytes first → room_for state a.shape.row.code (drop a.auths.params bytes) ≡ Some code
    → slot_step slots (sent_for bytes a first) ≡ (slots, error_reply code)
command_full slots client state bytes a first code e managed all ready room = sent_step slots client state bytes a first (Some code) e managed all ready room

pub command_run : (slots : SlotState) (client : ℕ) (state : ClientState) (bytes : List ℕ) (a : Admitted) (first : ℕ)
    → client_admitted (tables_of client state) bytes ≡ Ok a → is_managed a.shape.row.code ≡ false → AreBytes bytes
    → IsReady slots client state a bytes first → room_for state a.shape.row.code (drop a.auths.params bytes) ≡ None
    → slot_step slots (sent_for bytes a first) ≡ effect_by slots (client_effect client state a bytes)
command_run slots client state bytes a first e managed all ready room = sent_step slots client state bytes a first None e managed all ready room

-- ---- its response is taken

admitted_here : (tables : Tables) (bytes : List ℕ) (a : Admitted) → admitted row_of tables bytes ≡ Ok a → admitted_by tables (row_in row_of bytes) bytes ≡ Ok a
unfolding admitted
admitted_here tables bytes a e = e

-- of StartAuthSession, and of any other
sort_taken : (slots : SlotState) (sent : List ℕ) (a : Admitted) (start : Bool) → starts_session a ≡ start → IsSlots slots → slots.started ≡ true
    → admitted row_of (slot_tables slots) sent ≡ Ok a → (starts_session a ≡ false → is_of_effects a.shape.row.code ≡ true)
    → (starts_session a ≡ true → HasPlace slots) → takes PROFILE_CONTEXTS false false sent (slot_step slots sent).1 ≡ true
sort_taken slots sent a true is sound started here only place = start_taken slots sent a sound started here is (place is)
sort_taken slots sent a false is sound started here only place =
    answers_rightly slots sent a sound started (admitted_here (slot_tables slots) sent a here) (only is)

pub command_taken : (slots : SlotState) (client : ℕ) (state : ClientState) (bytes : List ℕ) (a : Admitted) (first : ℕ)
    → client_admitted (tables_of client state) bytes ≡ Ok a → is_managed a.shape.row.code ≡ false → AreBytes bytes
    → IsReady slots client state a bytes first → takes PROFILE_CONTEXTS false false (sent_for bytes a first) (slot_step slots (sent_for bytes a first)).1 ≡ true
command_taken slots client state bytes a first e managed all ready =
    let tables = tables_of client state in
    let run = runs slots client state bytes a first e all ready in
    let second = get_or a.shape.handles 1 0 in
    let sent = sent_for bytes a first in
    let over = admitted_handled a first second in
    let here : admitted row_of (slot_tables slots) sent ≡ Ok over =
    handled_admitted tables (slot_tables slots) bytes a first second run.whole run.are run.there in
    sort_taken slots sent over (starts_session a) refl ready.sound ready.started here (of_effects_only tables bytes a e managed)
    (λ so. has_place slots state ready.most (ready.place so))
