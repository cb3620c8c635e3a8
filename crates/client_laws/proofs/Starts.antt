-- What StartAuthSession makes: a session of the type that it is given.
use Rattle.std.proofs.Common.{◌≡◌, ◌+◌, ◌*◌, ℕ, Bool, true, false, List, [], ◌∷◌, length, drop, refl, ap, sym, subst}
use Rattle.std.specs.Prelude.{Option, Some, None, Result, Ok, Err, IfOk, not, nat_le, ◌==◌, if◌then◌else◌}
use Rattle.std.proofs.lemmas.Bool.{cond_both, eqb-true}
use Rattle.tab_spec.specs.declared.TheConstants.{CC_START_AUTH_SESSION, RC_1, RC_INSUFFICIENT, RC_P, RC_SIZE, RC_VALUE}
use Rattle.tab_spec.specs.declared.Auths.{Auths}
use Rattle.tab_spec.specs.declared.Shape.{Shape}
use Rattle.tab_spec.specs.Admission.{unless_fault}
use Rattle.tab_spec.specs.Object.{Object}
use Rattle.tab_spec.specs.Parameters.{in_parameter, when_read}
use Rattle.tab_spec.specs.Persist.{Persist, drawn}
use Rattle.tab_spec.specs.Session.{Session, is_kind_number, is_nonce, kind_of}
use Rattle.tab_spec.specs.Values.{Reading, number8, number16, require, sized, then_read}
use Rattle.effect_spec.specs.Effect.{RowOutcome, authorization_fault, effect_row, making_session, outcome_of, row_by}
use Rattle.effect_spec.specs.Nv.{undefined_index}
use Rattle.effect_spec.specs.Operands.{Created, Operand, Operands, new_object, new_session, nothing, number_of, object_in, operand_at, policy_session_in}
use Rattle.effect_spec.specs.Sessions.{StartParameters, initial_session_with, session_started, start_check, start_parameters_fault, start_parameters_of, started_session}
use Rattle.device_spec.specs.Answers.{session_type_of}
use Rattle.tab_laws.proofs.OneSpelling.{Leaves, leaves_next}

-- ---- its outcome

-- the session that was made, of the type that the parameters say
abbrev pub IsStarted : List ℕ → Created → Type 0
IsStarted params nothing = ⊥
IsStarted params (new_object o) = ⊥
IsStarted params (new_session s) = (b : StartParameters) × ((start_check params ≡ Ok b) × (s.kind ≡ kind_of b.kind))

-- and no policy session is changed
abbrev pub StartsIn : List ℕ → Result RowOutcome ℕ → Type 0
StartsIn params (Err code) = Unit
StartsIn params (Ok done) = (done.policy ≡ None) × IsStarted params done.created

begun_in : (params : List ℕ) (b : StartParameters) (draw : Result (List ℕ × Persist) ℕ) → start_check params ≡ Ok b
    → StartsIn params (making_session (started_session (initial_session_with (kind_of b.kind) draw)))
begun_in params b (Err code) is = tt
begun_in params b (Ok nonce) is = (refl, (b, (is, refl)))

checked_in : (persist : Persist) (params : List ℕ) (check : Result StartParameters ℕ) → start_check params ≡ check
    → StartsIn params (making_session (session_started persist check))
checked_in persist params (Err code) is = tt
checked_in persist params (Ok b) is = begun_in params b (drawn persist (length b.nonce)) is

row_in : (persist : Persist) (operands : List Operand) (policy : Option Session) (item : Option Object) (params : List ℕ)
    → StartsIn params (row_by CC_START_AUTH_SESSION persist operands policy item params)
row_in persist operands (Some s) item params = tt
row_in persist operands None (Some item) params = tt
row_in persist operands None None params = checked_in persist params (start_check params) refl

faultless_in : (params : List ℕ) (fault : Option ℕ) (row : Result RowOutcome ℕ) → StartsIn params row → StartsIn params (unless_fault fault row)
faultless_in params None row starts = starts
faultless_in params (Some code) row starts = tt

pub outcome_starts : (persist : Persist) (operands : Operands) (shape : Shape) (auths : Auths) (bytes : List ℕ)
    → (shape.row.code == CC_START_AUTH_SESSION) ≡ true → StartsIn (drop auths.params bytes) (outcome_of persist operands shape auths bytes)
outcome_starts persist operands shape auths bytes is =
    let first = operand_at operands.handles 0 in
    let second = operand_at operands.handles 1 in
    let params = drop auths.params bytes in
    let policy = policy_session_in operands.handles in
    let fault = authorization_fault persist operands shape auths bytes in
    let row = effect_row shape.row.code persist operands.handles params in
    faultless_in params (undefined_index persist.nv 1 (number_of first ∷ number_of second ∷ [])) (unless_fault fault row)
    (faultless_in params fault row
    (subst (λ (code : ℕ). StartsIn params (row_by code persist operands.handles policy (object_in first) params))
    (sym (eqb-true shape.row.code CC_START_AUTH_SESSION is)) (row_in persist operands.handles policy (object_in first) params)))

-- ---- the type that it is given

-- the type is read at the third place, whatever the two before it have to be
abbrev IsType : Reading ℕ → StartParameters → List ℕ → Type 0
IsType read b rest = (left : List ℕ) × (read ≡ Ok (b.kind, left))

typed_by : (kind : ℕ) (rest : List ℕ) (last : Reading StartParameters) → Leaves (λ b left. b.kind ≡ kind) last → Leaves (IsType (Ok (kind, rest))) last
typed_by kind rest (Err code) is = tt
typed_by kind rest (Ok read) is = (rest, ap (λ (k : ℕ). let found : Reading ℕ = Ok (k, rest) in found) (sym is))

typed : (third : Reading ℕ) (next : ℕ → List ℕ → Reading StartParameters) → ((kind : ℕ) (rest : List ℕ) → Leaves (λ b left. b.kind ≡ kind) (next kind rest))
    → Leaves (IsType third) (then_read (in_parameter 3 third) next)
typed (Err code) next kinds = tt
typed (Ok read) next kinds = typed_by read.0 read.1 (next read.0 read.1) (kinds read.0 read.1)

salted : (test : List ℕ → Bool) (second : Reading (List ℕ)) (third : List ℕ → Reading ℕ) (next : List ℕ → List ℕ → Reading StartParameters)
    → ((salt rest : List ℕ) → Leaves (IsType (third rest)) (next salt rest))
    → Leaves (IsType (then_read second (λ salt rest. third rest))) (then_read (in_parameter 2 (require test RC_SIZE second)) next)
salted test (Err code) third next types = tt
salted test (Ok read) third next types =
    cond_both (test read.0) (Ok read) (Err RC_SIZE) (λ (second : Reading (List ℕ)). Leaves (IsType (third read.1)) (then_read (in_parameter 2 second) next))
    (λ so. types read.0 read.1) (λ not. tt)

nonced : (test : List ℕ → Bool) (first : Reading (List ℕ)) (behind : List ℕ → Reading ℕ) (next : List ℕ → List ℕ → Reading StartParameters)
    → ((nonce rest : List ℕ) → Leaves (IsType (behind rest)) (next nonce rest))
    → Leaves (IsType (then_read first (λ nonce rest. behind rest))) (then_read (in_parameter 1 (require test RC_SIZE first)) next)
nonced test (Err code) behind next types = tt
nonced test (Ok read) behind next types =
    cond_both (test read.0) (Ok read) (Err RC_SIZE) (λ (first : Reading (List ℕ)). Leaves (IsType (behind read.1)) (then_read (in_parameter 1 first) next))
    (λ so. types read.0 read.1) (λ not. tt)

any : {X : Type 0} (r : Reading X) → Leaves (λ read rest. Unit) r
any (Err code) = tt
any (Ok read) = tt

type_read : (params : List ℕ) → Leaves (IsType (session_type_of params)) (start_parameters_of params)
type_read params =
    nonced (λ nonce. nat_le (length nonce) 64) (sized RC_INSUFFICIENT params) _ _ (λ nonce on1.
    salted (λ salt. nat_le (length salt) 256) (sized RC_INSUFFICIENT on1) _ _ (λ salt on2.
    typed (number8 RC_INSUFFICIENT on2) _ (λ kind on3.
    leaves_next (λ read rest. Unit) (λ b left. b.kind ≡ kind) (in_parameter 4 (number16 RC_INSUFFICIENT on3)) _ (any (in_parameter 4 (number16 RC_INSUFFICIENT on3)))
    (λ symmetric on4 so.
    leaves_next (λ read rest. Unit) (λ b left. b.kind ≡ kind) (in_parameter 5 (number16 RC_INSUFFICIENT on4)) _ (any (in_parameter 5 (number16 RC_INSUFFICIENT on4)))
    (λ hash on5 so. refl)))))

-- ---- what is checked of it

abbrev pub IsChecked : List ℕ → StartParameters → Type 0
IsChecked params b = (is_kind_number b.kind ≡ true) × ((left : List ℕ) × (session_type_of params ≡ Ok (b.kind, left)))

-- the third test of five
third_by : (one two kind : Bool) (a b c : ℕ) (more : Option ℕ) → (if one then Some a else if two then Some b else if not kind then Some c else more) ≡ None
    → kind ≡ true
third_by true two kind a b c more e = absurd cc
third_by false true kind a b c more e = absurd cc
third_by false false true a b c more e = refl
third_by false false false a b c more e = absurd cc

kind_checked : (b : StartParameters) → start_parameters_fault b ≡ None → is_kind_number b.kind ≡ true
kind_checked b e =
    third_by (not (is_nonce b.nonce)) (not (length b.salt == 0)) (is_kind_number b.kind) (RC_SIZE + RC_P + RC_1) (RC_VALUE + RC_P + RC_1 * 2)
    (RC_VALUE + RC_P + RC_1 * 3) _ e

checked_by : (params : List ℕ) (b : StartParameters) (fault : Option ℕ) → start_parameters_fault b ≡ fault → (left : List ℕ) × (session_type_of params ≡ Ok (b.kind, left))
    → IfOk (unless_fault fault (Ok b)) (IsChecked params)
checked_by params b None is type = (kind_checked b is, type)
checked_by params b (Some code) is type = tt

checked_read : (params : List ℕ) (read : Reading StartParameters) → Leaves (IsType (session_type_of params)) read
    → IfOk (when_read read (λ b. unless_fault (start_parameters_fault b) (Ok b))) (IsChecked params)
checked_read params (Err code) type = tt
checked_read params (Ok read) type =
    cond_both (length read.1 == 0) (unless_fault (start_parameters_fault read.0) (Ok read.0)) (Err RC_SIZE)
    (λ (check : Result StartParameters ℕ). IfOk check (IsChecked params)) (λ so. checked_by params read.0 (start_parameters_fault read.0) refl type) (λ not. tt)

checked : (params : List ℕ) → IfOk (start_check params) (IsChecked params)
checked params = checked_read params (start_parameters_of params) (type_read params)

-- the type of a session that starts
pub type_checked : (params : List ℕ) (b : StartParameters) → start_check params ≡ Ok b → IsChecked params b
type_checked params b is = subst (λ (check : Result StartParameters ℕ). IfOk check (IsChecked params)) is (checked params)
