-- What an admission looks up, and what a client's command does on the plain machine.
use Rattle.std.proofs.Common.{◌≡◌, ℕ, Bool, true, false, List, drop, get_or, refl, ap, ◌∙◌}
use Rattle.std.specs.Prelude.{Option, Some, None, Result, Ok, Err, ◌==◌, if◌then◌else◌}
use Rattle.std.proofs.lemmas.Bool.{eqb-true}
use Rattle.tab_spec.specs.declared.TheConstants.{CC_CONTEXT_LOAD, CC_CONTEXT_SAVE, CC_FLUSH_CONTEXT, CC_GET_CAPABILITY}
use Rattle.tab_spec.specs.declared.Admitted.{Admitted}
use Rattle.tab_spec.specs.Admission.{Tables, client_admitted}
use Rattle.history_spec.specs.declared.Pick.{Pick}
use Rattle.world_spec.specs.World.{ClientState, ClientStep, admitted_step, capability_step, choosing_nothing, client_capability, client_step, effect_step, flush_handle, flush_step, load_parameters, load_step, refused_step, room_for, save_parameters, save_step, tables_of, unless_full}
use Rattle.device_laws.specs.Effects.{is_managed}
use Rattle.client_laws.specs.Ready.{client_effect}
use Rattle.client_laws.proofs.Commands.{unmanaged}

pub looked_up : (tables other : Tables) (bytes : List ℕ) → ((handle : ℕ) → tables.has_object handle ≡ other.has_object handle)
    → ((handle : ℕ) → tables.has_session handle ≡ other.has_session handle) → tables.is_full ≡ other.is_full → tables.contexts ≡ other.contexts
    → client_admitted tables bytes ≡ client_admitted other bytes
looked_up tables other bytes objects sessions full contexts =
    let same : tables ≡ other =
    λ i. record { has_object = λ handle. objects handle i; has_session = λ handle. sessions handle i; is_full = full i; contexts = contexts i } in
    ap (λ (t : Tables). client_admitted t bytes) same

-- ---- the sorts of steps

stepped : (client : ℕ) (state : ClientState) (bytes : List ℕ) (pick : Pick) (found : Result Admitted ℕ)
    → client_admitted (tables_of client state) bytes ≡ found → client_step client state bytes pick ≡ admitted_step client state found bytes pick
unfolding client_step
stepped client state bytes pick found e = ap (λ (found : Result Admitted ℕ). admitted_step client state found bytes pick) e

pub step_refused : (client : ℕ) (state : ClientState) (bytes : List ℕ) (pick : Pick) (code : ℕ)
    → client_admitted (tables_of client state) bytes ≡ Err code → client_step client state bytes pick ≡ choosing_nothing (refused_step state code) pick
step_refused client state bytes pick code e = stepped client state bytes pick (Err code) e

-- what each of the four does, and what another command does where there is no room, or where there is
abbrev flushed : ℕ → ClientState → Admitted → List ℕ → Pick → Option ClientStep
flushed client state a bytes pick = choosing_nothing (flush_step client state (flush_handle (drop a.auths.params bytes))) pick

abbrev saved : ℕ → ClientState → Admitted → List ℕ → Pick → Option ClientStep
saved client state a bytes pick = save_step client state (get_or a.shape.handles 0 0) (save_parameters (drop a.auths.params bytes)) pick

abbrev loaded : ℕ → ClientState → Admitted → List ℕ → Pick → Option ClientStep
loaded client state a bytes pick =
    let params = drop a.auths.params bytes in
    choosing_nothing (load_step client state params (load_parameters params)) pick

abbrev listed : ℕ → ClientState → Admitted → List ℕ → Pick → Option ClientStep
listed client state a bytes pick = choosing_nothing (capability_step state (client_capability client state (drop a.auths.params bytes))) pick

abbrev run_in : ℕ → ClientState → Admitted → List ℕ → Pick → Option ℕ → Option ClientStep
run_in client state a bytes pick full = unless_full state full (effect_step client state (client_effect client state a bytes)) pick

abbrev run : ℕ → ClientState → Admitted → List ℕ → Pick → Option ClientStep
run client state a bytes pick = run_in client state a bytes pick (room_for state a.shape.row.code (drop a.auths.params bytes))

abbrev by_code : ℕ → ClientState → Admitted → List ℕ → Pick → ℕ → Option ClientStep
by_code client state a bytes pick code =
    if code == CC_FLUSH_CONTEXT then flushed client state a bytes pick
    else if code == CC_CONTEXT_SAVE then saved client state a bytes pick
    else if code == CC_CONTEXT_LOAD then loaded client state a bytes pick
    else if code == CC_GET_CAPABILITY then listed client state a bytes pick
    else run client state a bytes pick

goes : (client : ℕ) (state : ClientState) (bytes : List ℕ) (pick : Pick) (a : Admitted) → client_admitted (tables_of client state) bytes ≡ Ok a
    → client_step client state bytes pick ≡ by_code client state a bytes pick a.shape.row.code
goes client state bytes pick a e = stepped client state bytes pick (Ok a) e

-- where the code is known
goes_so : (client : ℕ) (state : ClientState) (bytes : List ℕ) (pick : Pick) (a : Admitted) (code : ℕ) → client_admitted (tables_of client state) bytes ≡ Ok a
    → (a.shape.row.code == code) ≡ true → client_step client state bytes pick ≡ by_code client state a bytes pick code
goes_so client state bytes pick a code e is =
    goes client state bytes pick a e ∙ ap (by_code client state a bytes pick) (eqb-true a.shape.row.code code is)

pub step_flushed : (client : ℕ) (state : ClientState) (bytes : List ℕ) (pick : Pick) (a : Admitted)
    → client_admitted (tables_of client state) bytes ≡ Ok a → (a.shape.row.code == CC_FLUSH_CONTEXT) ≡ true
    → client_step client state bytes pick ≡ choosing_nothing (flush_step client state (flush_handle (drop a.auths.params bytes))) pick
step_flushed client state bytes pick a e is = goes_so client state bytes pick a CC_FLUSH_CONTEXT e is

pub step_saved : (client : ℕ) (state : ClientState) (bytes : List ℕ) (pick : Pick) (a : Admitted)
    → client_admitted (tables_of client state) bytes ≡ Ok a → (a.shape.row.code == CC_CONTEXT_SAVE) ≡ true
    → client_step client state bytes pick
    ≡ save_step client state (get_or a.shape.handles 0 0) (save_parameters (drop a.auths.params bytes)) pick
step_saved client state bytes pick a e is = goes_so client state bytes pick a CC_CONTEXT_SAVE e is

pub step_loaded : (client : ℕ) (state : ClientState) (bytes : List ℕ) (pick : Pick) (a : Admitted)
    → client_admitted (tables_of client state) bytes ≡ Ok a → (a.shape.row.code == CC_CONTEXT_LOAD) ≡ true
    → client_step client state bytes pick
    ≡ choosing_nothing (load_step client state (drop a.auths.params bytes) (load_parameters (drop a.auths.params bytes))) pick
step_loaded client state bytes pick a e is = goes_so client state bytes pick a CC_CONTEXT_LOAD e is

pub step_listed : (client : ℕ) (state : ClientState) (bytes : List ℕ) (pick : Pick) (a : Admitted)
    → client_admitted (tables_of client state) bytes ≡ Ok a → (a.shape.row.code == CC_GET_CAPABILITY) ≡ true
    → client_step client state bytes pick
    ≡ choosing_nothing (capability_step state (client_capability client state (drop a.auths.params bytes))) pick
step_listed client state bytes pick a e is = goes_so client state bytes pick a CC_GET_CAPABILITY e is

last_of : (flush save load list : Bool) (a b c d e : Option ClientStep) → flush ≡ false → save ≡ false → load ≡ false → list ≡ false
    → (if flush then a else if save then b else if load then c else if list then d else e) ≡ e
last_of flush save load list a b c d e one two three four = rw (one, two, three, four) refl

other_step : (client : ℕ) (state : ClientState) (bytes : List ℕ) (pick : Pick) (a : Admitted) (full : Option ℕ)
    → client_admitted (tables_of client state) bytes ≡ Ok a → is_managed a.shape.row.code ≡ false
    → room_for state a.shape.row.code (drop a.auths.params bytes) ≡ full
    → client_step client state bytes pick ≡ run_in client state a bytes pick full
other_step client state bytes pick a full e managed room =
    let code = a.shape.row.code in
    let is = unmanaged code managed in
    goes client state bytes pick a e
    ∙ last_of (code == CC_FLUSH_CONTEXT) (code == CC_CONTEXT_SAVE) (code == CC_CONTEXT_LOAD) (code == CC_GET_CAPABILITY)
    (flushed client state a bytes pick) (saved client state a bytes pick) (loaded client state a bytes pick) (listed client state a bytes pick)
    (run client state a bytes pick) is.flush is.save is.load is.capability
    ∙ ap (run_in client state a bytes pick) room

pub step_full : (client : ℕ) (state : ClientState) (bytes : List ℕ) (pick : Pick) (a : Admitted) (code : ℕ)
    → client_admitted (tables_of client state) bytes ≡ Ok a → is_managed a.shape.row.code ≡ false
    → room_for state a.shape.row.code (drop a.auths.params bytes) ≡ Some code
    → client_step client state bytes pick ≡ choosing_nothing (refused_step state code) pick
step_full client state bytes pick a code e managed room = other_step client state bytes pick a (Some code) e managed room

pub step_run : (client : ℕ) (state : ClientState) (bytes : List ℕ) (pick : Pick) (a : Admitted)
    → client_admitted (tables_of client state) bytes ≡ Ok a → is_managed a.shape.row.code ≡ false
    → room_for state a.shape.row.code (drop a.auths.params bytes) ≡ None
    → client_step client state bytes pick ≡ effect_step client state (client_effect client state a bytes) pick
step_run client state bytes pick a e managed room = other_step client state bytes pick a None e managed room
