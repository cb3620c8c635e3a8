-- A ContextLoad that is admitted has room for the object of its context.
use Rattle.std.proofs.Common.{◌≡◌, ◌≤◌, ℕ, Bool, true, false, List, length, take, drop, drop-drop, length-drop, refl, sym, ◌∙◌, ap, subst, arith}
use Rattle.std.specs.Prelude.{◌==◌, ◌||◌, ◌&&◌, not, nat_lt, Option, Some, None, Result, Ok, Err, if◌then◌else◌}
use Rattle.std.specs.Int.{w32, from_be_bytes}
use Rattle.std.proofs.lemmas.Bool.{and_from, cond_both, eq-eqb, eqb-true, le-ltb, ltb-false}
use Rattle.tab_spec.specs.declared.Kind.TheVariants.{Absent}
use Rattle.tab_spec.specs.declared.TheConstants.{CC_CONTEXT_LOAD, RC_AUTH_CONTEXT, RC_AUTH_MISSING, RC_INSUFFICIENT, RC_OBJECT_MEMORY, RC_SIZE, ST_SESSIONS, TRANSIENT_FIRST, TRANSIENT_ST_CLEAR}
use Rattle.tab_spec.specs.declared.contexts.ContextLimits.{ContextLimits}
use Rattle.tab_spec.specs.declared.Admitted.{Admitted}
use Rattle.tab_spec.specs.declared.Auths.{Auths}
use Rattle.tab_spec.specs.declared.CommandRow.{CommandRow}
use Rattle.tab_spec.specs.declared.Shape.{Shape}
use Rattle.tab_spec.specs.Admission.{Tables, client_admitted}
use Rattle.tab_spec.specs.Auths.{area_at, auths_of, has_no_area}
use Rattle.tab_spec.specs.Commands.{command_row, row_of}
use Rattle.tab_spec.specs.Contexts.{is_saved_object}
use Rattle.tab_spec.specs.Object.{Object}
use Rattle.tab_spec.specs.Parameters.{in_parameter, when_read}
use Rattle.tab_spec.specs.Shape.{IsShape, loads_object, rest_of}
use Rattle.tab_spec.specs.Values.{Reading, fixed_bytes, number32, number64, require, sized}
use Rattle.tab_laws.proofs.Handled.{Passed, client_is, passed}
use Rattle.tab_laws.proofs.OneSpelling.{Leaves, leaves_next}
use Rattle.effect_spec.specs.Contexts.{Context, blob_fits, context_of}
use Rattle.history_spec.specs.Table.{is_full}
use Rattle.world_spec.specs.World.{load_parameters}
use Rattle.plain_machine.specs.Views.{HasLoadRoom}

-- ---- where its parameters stand

load_row : CommandRow
load_row = command_row CC_CONTEXT_LOAD Absent Absent 0 true

row_is : (shape : Shape) → IsShape shape → (shape.row.code == CC_CONTEXT_LOAD) ≡ true → shape.row ≡ load_row
unfolding load_row
row_is shape is so =
    let known : row_of CC_CONTEXT_LOAD ≡ Some load_row = refl in
    let found : row_of CC_CONTEXT_LOAD ≡ Some shape.row =
    subst (λ (code : ℕ). row_of code ≡ Some shape.row) (eqb-true shape.row.code CC_CONTEXT_LOAD so) is.row in
    let same : Some shape.row ≡ Some load_row = sym found ∙ known in
    cc

params_by : (sessions bare lacks : Bool) (area : Result Auths ℕ) (made auths : Auths) → bare ≡ true
    → (if sessions then if bare then Err RC_AUTH_CONTEXT else area else if lacks then Err RC_AUTH_MISSING else Ok made) ≡ Ok auths
    → auths.params ≡ made.params
params_by true true lacks area made auths none is = absurd cc
params_by true false lacks area made auths none is = absurd cc
params_by false bare true area made auths none is = absurd cc
params_by false bare false area made auths none is = let same : made ≡ auths = cc in ap (λ (a : Auths). a.params) (sym same)

-- those of a command that never has authorizations stand behind its handles
params_behind : (bytes : List ℕ) (shape : Shape) (auths : Auths) → has_no_area shape.row.code ≡ true → auths_of bytes shape ≡ Ok auths
    → auths.params ≡ shape.rest
unfolding auths_of
params_behind bytes shape auths bare is =
    params_by (shape.tag == ST_SESSIONS) (has_no_area shape.row.code) (nat_lt 0 shape.row.authorized) (area_at bytes shape.rest) _ auths bare is

load_params : (tables : Tables) (bytes : List ℕ) (a : Admitted) → Passed tables bytes a → IsShape a.shape → (a.shape.row.code == CC_CONTEXT_LOAD) ≡ true
    → a.auths.params ≡ 10
unfolding load_row
load_params tables bytes a p is so =
    let bare : has_no_area a.shape.row.code ≡ true = ap has_no_area (eqb-true a.shape.row.code CC_CONTEXT_LOAD so) in
    params_behind bytes a.shape a.auths bare p.given.auths_are
    ∙ ap (λ (s : Shape). s.rest) p.shape
    ∙ ap rest_of (row_is a.shape is so)

-- ---- what stands in them

abbrev IsCut : ℕ → List ℕ → List ℕ → List ℕ → Type 0
IsCut size bytes read rest = (size ≤ length bytes) × (read ≡ take size bytes) × (rest ≡ drop size bytes)

fixed_cut : (size code : ℕ) (bytes : List ℕ) → Leaves (IsCut size bytes) (fixed_bytes size code bytes)
fixed_cut size code bytes =
    cond_both (nat_lt (length bytes) size) (Err code) (Ok (take size bytes, drop size bytes)) (Leaves (IsCut size bytes)) (λ short. tt)
    (λ long. (ltb-false (length bytes) size long, refl, refl))

abbrev Behind : List ℕ → ℕ → List ℕ → Type 0
Behind bytes sequence rest = (8 ≤ length bytes) × (rest ≡ drop 8 bytes)

sequence_there : (bytes : List ℕ) → Leaves (Behind bytes) (number64 RC_INSUFFICIENT bytes)
sequence_there bytes =
    leaves_next (IsCut 8 bytes) (Behind bytes) (fixed_bytes 8 RC_INSUFFICIENT bytes) _ (fixed_cut 8 RC_INSUFFICIENT bytes)
    (λ read rest cut. (cut.0, cut.2))

abbrev IsNumber : List ℕ → ℕ → List ℕ → Type 0
IsNumber bytes n rest = (4 ≤ length bytes) × (n ≡ from_be_bytes w32 (take 4 bytes))

number_there : (bytes : List ℕ) → Leaves (IsNumber bytes) (number32 RC_INSUFFICIENT bytes)
number_there bytes =
    leaves_next (IsCut 4 bytes) (IsNumber bytes) (fixed_bytes 4 RC_INSUFFICIENT bytes) _ (fixed_cut 4 RC_INSUFFICIENT bytes)
    (λ read rest cut. (cut.0, ap (from_be_bytes w32) cut.1))

leaves_any : {X : Type 0} (r : Reading X) → Leaves (λ read rest. Unit {0}) r
leaves_any (Err code) = tt
leaves_any (Ok read) = tt

-- a context's savedHandle stands behind its sequence
abbrev HasHandle : List ℕ → Context → Type 0
HasHandle bytes c = (12 ≤ length bytes) × (c.saved_handle ≡ from_be_bytes w32 (take 4 (drop 8 bytes)))

handle_there : (bytes : List ℕ) → Leaves (λ c rest. HasHandle bytes c) (context_of bytes)
handle_there bytes =
    let Ends : Context → List ℕ → Type 0 = λ c rest. HasHandle bytes c in
    leaves_next (Behind bytes) Ends (number64 RC_INSUFFICIENT bytes) _ (sequence_there bytes) (λ sequence on1 behind.
    leaves_next (IsNumber on1) Ends (number32 RC_INSUFFICIENT on1) _ (number_there on1) (λ saved_handle on2 number.
    leaves_next (λ read rest. Unit {0}) Ends (number32 RC_INSUFFICIENT on2) _ (leaves_any (number32 RC_INSUFFICIENT on2)) (λ hierarchy on3 any.
    leaves_next (λ read rest. Unit {0}) Ends (sized RC_INSUFFICIENT on3) _ (leaves_any (sized RC_INSUFFICIENT on3)) (λ blob rest any. (
      omega (arith, number.0, behind.0, ap length behind.1, length-drop 8 bytes),
      number.1 ∙ ap (λ (on : List ℕ). from_be_bytes w32 (take 4 on)) behind.1,
    )))))

whole_of : (P : Context → Type 0) (whole : Bool) (c context : Context) → P c → ◌≡◌ {A = Result Context ℕ} (if whole then Ok c else Err RC_SIZE) (Ok context)
    → P context
whole_of P true c context p is = let same : c ≡ context = cc in subst P same p
whole_of P false c context p is = absurd cc

found_of : (P : Context → Type 0) (fits : Bool) (read : Context × List ℕ) (context : Context) → P read.0
    → when_read (in_parameter 1 (if fits then Ok read else Err RC_SIZE)) (λ c. Ok c) ≡ Ok context → P context
found_of P true read context p is = whole_of P (length read.1 == 0) read.0 context p is
found_of P false read context p is = absurd cc

parameter_of : (P : Context → Type 0) (r : Reading Context) (context : Context) → Leaves (λ c rest. P c) r
    → when_read (in_parameter 1 (require blob_fits RC_SIZE r)) (λ c. Ok c) ≡ Ok context → P context
parameter_of P (Err code) context leaves is = absurd cc
parameter_of P (Ok read) context leaves is = found_of P (blob_fits read.0) read context leaves is

either : (a b : Bool) → b ≡ true → (a || b) ≡ true
either true b is = refl
either false b is = is

-- so the command is one that loads an object, where they have the context of an object
loads : (contexts : ContextLimits) (bytes : List ℕ) (context : Context) → load_parameters (drop 10 bytes) ≡ Ok context → context.saved_handle ≡ TRANSIENT_FIRST
    → loads_object contexts bytes ≡ true
loads contexts bytes context is transient =
    let params = drop 10 bytes in
    let there = parameter_of (HasHandle params) (context_of params) context (handle_there params) is in
    let long : 22 ≤ length bytes = omega (arith, there.0, length-drop 10 bytes) in
    let handle = from_be_bytes w32 (take 4 (drop 18 bytes)) in
    and_from (not (nat_lt (length bytes) 22)) (is_saved_object contexts handle) (ap not (le-ltb (length bytes) 22 long))
    (either (contexts.st_clear && handle == TRANSIENT_ST_CLEAR) (handle == TRANSIENT_FIRST)
    (eq-eqb handle TRANSIENT_FIRST
    (ap (λ (on : List ℕ). from_be_bytes w32 (take 4 on)) (sym (drop-drop 8 10 bytes)) ∙ sym there.1 ∙ transient)))

-- ---- the room

room_by : (maker load loading full : Bool) → ◌≡◌ {A = Option ℕ} (if (maker || (load && loading)) && full then Some RC_OBJECT_MEMORY else None) None
    → load ≡ true → loading ≡ true → full ≡ false
room_by maker load loading false few is so = refl
room_by true load loading true few is so = absurd cc
room_by false true true true few is so = absurd cc
room_by false true false true few is so = absurd cc
room_by false false loading true few is so = absurd cc

pub room_to_load : (tables : Tables) (bytes : List ℕ) (a : Admitted) (objects : List (Option Object)) → client_admitted tables bytes ≡ Ok a → IsShape a.shape
    → tables.is_full ≡ is_full objects → (a.shape.row.code == CC_CONTEXT_LOAD) ≡ true → HasLoadRoom (drop a.auths.params bytes) objects
room_to_load tables bytes a objects admitted is full so = λ context read transient.
    let p = passed tables bytes a (client_is tables bytes a admitted).whole in
    let behind : drop a.auths.params bytes ≡ drop 10 bytes = ap (λ (n : ℕ). drop n bytes) (load_params tables bytes a p is so) in
    let read_there : load_parameters (drop 10 bytes) ≡ Ok context = ap load_parameters (sym behind) ∙ read in
    sym full ∙ room_by _ _ (loads_object tables.contexts bytes) tables.is_full p.given.room so (loads tables.contexts bytes context read_there transient)
