-- Which authorizations name a session that isn't there, or one that was named before: an authorization at a time.
use Rattle.std.proofs.Common.{◌≡◌, ◌+◌, ◌*◌, ◌<◌, ℕ, zero, suc, Bool, true, false, List, [], ◌∷◌, take, drop, length, get_or, refl, ap, sym, ◌∙◌, drop-cons, add-one, arith}
use Rattle.std.specs.Prelude.{Option, Some, None, not, ◌==◌, ◌||◌, ◌&&◌, if◌then◌else◌}
use Rattle.std.specs.List.{list_any}
use Rattle.tab_spec.specs.declared.Auth.{Auth}
use Rattle.tab_spec.specs.declared.TheConstants.{RS_PW, RC_VALUE, RC_HANDLE, RC_S, RC_1, RC_REFERENCE_S0}
use Rattle.tab_spec.specs.Auths.{no_auth}
use Rattle.tab_spec.specs.Admission.{Tables, is_session_handle, missing_session, repeated_session}

-- ---- sessions that aren't there

passes_on : (password session there : Bool) (x y : ℕ) (more : Option ℕ)
    → (if password then None else if not session then Some x else if not there then Some y else None) ≡ None
    → (if password then more else if not session then Some x else if not there then Some y else more) ≡ more
passes_on true session there x y more is = refl
passes_on false false there x y more is = absurd cc
passes_on false true false x y more is = absurd cc
passes_on false true true x y more is = refl

refuses : (password session there : Bool) (x y code : ℕ) (more : Option ℕ)
    → (if password then None else if not session then Some x else if not there then Some y else None) ≡ Some code
    → (if password then more else if not session then Some x else if not there then Some y else more) ≡ Some code
refuses true session there x y code more is = absurd cc
refuses false false there x y code more is = is
refuses false true false x y code more is = is
refuses false true true x y code more is = absurd cc

-- the authorization of this index is in order
pub there_at : (tables : Tables) (auths : List Auth) (i : ℕ) → i < length auths → missing_session tables i (get_or auths i no_auth ∷ []) ≡ None
    → missing_session tables i (drop i auths) ≡ missing_session tables (i + 1) (drop (i + 1) auths)
there_at tables auths i lt none =
    let auth = get_or auths i no_auth in
    let more = missing_session tables (i + 1) (drop (suc i) auths) in
    ap (missing_session tables i) (drop-cons auths i no_auth lt)
    ∙ passes_on (auth.session == RS_PW) (is_session_handle auth.session) (tables.has_session auth.session) (RC_VALUE + RC_S + RC_1 * (i + 1)) (RC_REFERENCE_S0 + i) more none
    ∙ ap (λ (n : ℕ). missing_session tables (i + 1) (drop n auths)) (sym (add-one i))

-- the authorization of this index is refused
pub missing_at : (tables : Tables) (auths : List Auth) (i code : ℕ) → i < length auths → missing_session tables i (get_or auths i no_auth ∷ []) ≡ Some code
    → missing_session tables i (drop i auths) ≡ Some code
missing_at tables auths i code lt some =
    let auth = get_or auths i no_auth in
    let more = missing_session tables (i + 1) (drop (suc i) auths) in
    ap (missing_session tables i) (drop-cons auths i no_auth lt)
    ∙ refuses (auth.session == RS_PW) (is_session_handle auth.session) (tables.has_session auth.session) (RC_VALUE + RC_S + RC_1 * (i + 1)) (RC_REFERENCE_S0 + i) code more some

-- ---- sessions that are named twice

-- the handles and then the sessions that were named, the last one first
abbrev pub named_by : List ℕ → List Auth → List ℕ
named_by named [] = named
named_by named (auth ∷ auths) = named_by (auth.session ∷ named) auths

named_more : (named : List ℕ) (auths : List Auth) (i : ℕ) → i < length auths
    → named_by named (take (suc i) auths) ≡ (get_or auths i no_auth).session ∷ named_by named (take i auths)
named_more named [] i lt = absurd (omega arith)
named_more named (auth ∷ auths) zero lt = refl
named_more named (auth ∷ auths) (suc i) lt = named_more (auth.session ∷ named) auths i (omega arith)

or_swaps : (a b c : Bool) → ((a || b) || c) ≡ (b || (a || c))
or_swaps true true c = refl
or_swaps true false c = refl
or_swaps false true c = refl
or_swaps false false c = refl

or_false : (b : Bool) → b ≡ (b || false)
or_false true = refl
or_false false = refl

-- a session is among them where it is among the handles or among those of the authorizations
is_among : (session : ℕ) (named : List ℕ) (auths : List Auth)
    → list_any (λ handle. handle == session) (named_by named auths) ≡ (list_any (λ handle. handle == session) named || list_any (λ auth. auth.session == session) auths)
is_among session named [] = or_false (list_any (λ handle. handle == session) named)
is_among session named (auth ∷ auths) =
    is_among session (auth.session ∷ named) auths
    ∙ or_swaps (auth.session == session) (list_any (λ handle. handle == session) named) (list_any (λ auth. auth.session == session) auths)

-- the authorizations from this index on are looked at with those before them
abbrev pub repeated_from : List ℕ → List Auth → ℕ → Option ℕ
repeated_from handles auths i = repeated_session (named_by handles (take i auths)) (i + 1) (drop i auths)

-- whether the session of this index was named before
abbrev pub is_repeated : List ℕ → List Auth → ℕ → Bool
is_repeated handles auths i =
    let session = (get_or auths i no_auth).session in
    not (session == RS_PW) && (list_any (λ handle. handle == session) handles || list_any (λ auth. auth.session == session) (take i auths))

repeated_here : (handles : List ℕ) (auths : List Auth) (i : ℕ) → i < length auths
    → repeated_from handles auths i ≡ (if is_repeated handles auths i then Some (RC_HANDLE + RC_S + RC_1 * (i + 1)) else repeated_from handles auths (i + 1))
repeated_here handles auths i lt =
    let auth = get_or auths i no_auth in
    let named = named_by handles (take i auths) in
    let here = λ (any : Bool) (more : Option ℕ). if not (auth.session == RS_PW) && any then Some (RC_HANDLE + RC_S + RC_1 * (i + 1)) else more in
    let any = list_any (λ handle. handle == auth.session) handles || list_any (λ (a : Auth). a.session == auth.session) (take i auths) in
    ap (repeated_session named (i + 1)) (drop-cons auths i no_auth lt)
    ∙ ap (λ (b : Bool). here b (repeated_session (auth.session ∷ named) (i + 1 + 1) (drop (suc i) auths))) (is_among auth.session handles (take i auths))
    ∙ ap (λ (list : List ℕ). here any (repeated_session list (i + 1 + 1) (drop (suc i) auths))) (sym (named_more handles auths i lt))
    ∙ ap (λ (n : ℕ). here any (repeated_session (named_by handles (take n auths)) (i + 1 + 1) (drop n auths))) (sym (add-one i))

pub is_new_at : (handles : List ℕ) (auths : List Auth) (i : ℕ) → i < length auths → is_repeated handles auths i ≡ false
    → repeated_from handles auths i ≡ repeated_from handles auths (i + 1)
is_new_at handles auths i lt new =
    repeated_here handles auths i lt ∙ ap (λ (b : Bool). if b then Some (RC_HANDLE + RC_S + RC_1 * (i + 1)) else repeated_from handles auths (i + 1)) new

pub is_repeated_at : (handles : List ℕ) (auths : List Auth) (i : ℕ) → i < length auths → is_repeated handles auths i ≡ true
    → repeated_from handles auths i ≡ Some (RC_HANDLE + RC_S + RC_1 * (i + 1))
is_repeated_at handles auths i lt is =
    repeated_here handles auths i lt ∙ ap (λ (b : Bool). if b then Some (RC_HANDLE + RC_S + RC_1 * (i + 1)) else repeated_from handles auths (i + 1)) is
