-- What a context gives, where its integrity value is right and where it is wrong.
use Rattle.std.proofs.Common.{◌≡◌, ◌<◌, ℕ, Bool, true, false, List, [], ◌∷◌, length, Ok, Err, refl, ap, sym, ◌∙◌, arith}
use Rattle.std.specs.Prelude.{not, Option, Some, None, ◌==◌, bytes_eq}
use Rattle.std.proofs.lemmas.Bool.{cond_both, eqb-true}
use Rattle.effect_spec.specs.Contexts.{Context, context_encrypted, context_integrity, revealed, object_within, session_within, whole_object, whole_session}
use Rattle.tab_spec.specs.Object.{object_of, Object}
use Rattle.tab_spec.specs.Session.{session_of, Session}
use Rattle.tab_spec.specs.Values.{Reading, sized}
use Rattle.tab_spec.specs.declared.TheConstants.{RC_SIZE}
use Rattle.tab_laws.proofs.Objects.{object_short}
use Rattle.tab_laws.proofs.Sessions.{session_short}
use Rattle.context_blob.proofs.Framing.{length_hidden}

-- the integrity value in front, and the encrypted bytes after it
pub code_read : (blob from code left bytes : List ℕ) → from ≡ blob → sized RC_SIZE from ≡ Ok (code, left) → bytes ≡ left
    → sized RC_SIZE blob ≡ Ok (code, bytes)
code_read blob from code left bytes same reads behind = ap (sized RC_SIZE) (sym same) ∙ reads ∙ ap (λ (rest : List ℕ). Ok (code, rest)) (sym behind)

other_by : (test : Bool) → true ≡ not test → test ≡ false
other_by true is = cc
other_by false is = refl

same_by : (test : Bool) → false ≡ not test → test ≡ true
same_by true is = refl
same_by false is = cc

-- a wrong integrity value, and then nothing is revealed
pub other_code : (seed : List ℕ) (c : Context) (r : Reading (List ℕ)) (code bytes wanted : List ℕ) → r ≡ Ok (code, bytes)
    → wanted ≡ context_integrity seed c.sequence c.saved_handle c.hierarchy bytes → true ≡ not (bytes_eq code wanted) → revealed seed c r ≡ None
other_code seed c r code bytes wanted is wanted_is other =
    let fails : bytes_eq code (context_integrity seed c.sequence c.saved_handle c.hierarchy bytes) ≡ false =
    ap (bytes_eq code) (sym wanted_is) ∙ other_by (bytes_eq code wanted) other in
    ap (revealed seed c) is ∙ rw fails refl

pub same_code : (seed : List ℕ) (c : Context) (r : Reading (List ℕ)) (code bytes wanted : List ℕ) → r ≡ Ok (code, bytes)
    → wanted ≡ context_integrity seed c.sequence c.saved_handle c.hierarchy bytes → false ≡ not (bytes_eq code wanted)
    → revealed seed c r ≡ Some (context_encrypted seed c.sequence c.saved_handle bytes)
same_code seed c r code bytes wanted is wanted_is same =
    let passes : bytes_eq code (context_integrity seed c.sequence c.saved_handle c.hierarchy bytes) ≡ true =
    ap (bytes_eq code) (sym wanted_is) ∙ same_by (bytes_eq code wanted) same in
    ap (revealed seed c) is ∙ rw passes refl

-- nothing is no bytes
pub none_fits : (found : Option (List ℕ)) (plain : List ℕ) → found ≡ None → found ≡ Some plain → 318 < length plain
none_fits found plain none some = cc

-- too many bytes were encrypted
pub too_long : (seed : List ℕ) (sequence saved_handle : ℕ) (bytes plain : List ℕ) (found : Option (List ℕ))
    → found ≡ Some (context_encrypted seed sequence saved_handle bytes) → 318 < length bytes → found ≡ Some plain → 318 < length plain
too_long seed sequence saved_handle bytes plain found hides long is =
    let same : context_encrypted seed sequence saved_handle bytes ≡ plain = cc in
    omega (arith, ap length same, length_hidden seed sequence saved_handle bytes)

empty : (bytes : List ℕ) → length bytes ≡ 0 → bytes ≡ []
empty [] none = refl
empty (x ∷ bytes) some = absurd (omega arith)

-- no object is that long
long_by : (plain : List ℕ) (r : Reading Object) → object_of plain ≡ r → 318 < length plain → whole_object r ≡ None
long_by plain (Err code) is long = refl
long_by plain (Ok read) is long =
    cond_both (length read.1 == 0) (Some read.0) None (λ (o : Option Object). o ≡ None)
    (λ whole.
    let behind : read.1 ≡ [] = empty read.1 (eqb-true (length read.1) 0 whole) in
    let reads : object_of plain ≡ Ok (read.0, []) = is ∙ ap (λ (rest : List ℕ). Ok (read.0, rest)) behind in
    absurd (omega (arith, object_short plain read.0 reads)))
    (λ more. refl)

-- where nothing that is short enough is there, there is no object
pub none_within : (found : Option (List ℕ)) → ((plain : List ℕ) → found ≡ Some plain → 318 < length plain) → object_within found ≡ None
none_within None long = refl
none_within (Some plain) long = long_by plain (object_of plain) refl (long plain refl)

-- nor is a session
no_session_by : (plain : List ℕ) (r : Reading Session) → session_of plain ≡ r → 318 < length plain → whole_session r ≡ None
no_session_by plain (Err code) is long = refl
no_session_by plain (Ok read) is long =
    cond_both (length read.1 == 0) (Some read.0) None (λ (s : Option Session). s ≡ None)
    (λ whole.
    let after : read.1 ≡ [] = empty read.1 (eqb-true (length read.1) 0 whole) in
    let reads : session_of plain ≡ Ok (read.0, []) = is ∙ ap (λ (rest : List ℕ). Ok (read.0, rest)) after in
    absurd (omega (arith, session_short plain read.0 reads)))
    (λ more. refl)

-- where nothing that is short enough is there, there is no session
pub no_session_within : (found : Option (List ℕ)) → ((plain : List ℕ) → found ≡ Some plain → 318 < length plain) → session_within found ≡ None
no_session_within None long = refl
no_session_within (Some plain) long = no_session_by plain (session_of plain) refl (long plain refl)
