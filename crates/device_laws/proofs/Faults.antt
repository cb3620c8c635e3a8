-- Which codes commands fail with: none of a device's own rows tells a code that a broker hides.
use Rattle.std.proofs.Common.{◌≡◌, ◌+◌, ◌*◌, ◌^◌, ◌<◌, ◌≤◌, ℕ, Bool, true, false, List, [], ◌∷◌, length, refl, arith}
use Rattle.std.specs.Prelude.{Option, Some, None, IfSome, Result, Ok, Err, not, nat_lt, nat_le, ◌==◌, ◌&&◌}
use Rattle.std.proofs.lemmas.Bool.{cond_both, leb-true, ltb-true, lt-ltb, ne_eqb, and_parts}
use Rattle.tab_spec.specs.declared.TheConstants.{RC_SUCCESS, RC_BAD_TAG, RC_P, RC_1, RC_SIZE, RC_VALUE, RC_HASH, RC_TYPE, RC_ATTRIBUTES, RC_INSUFFICIENT, RC_INITIALIZE, RC_CANCELED, RC_CONTEXT_GAP, RC_OBJECT_MEMORY, RC_SESSION_MEMORY, RC_REFERENCE_H0, RC_REFERENCE_S0, RC_MEMORY, RC_DEVICE_FAULT, RC_JOURNAL_FULL, RC_DEVICE_ANSWER}
use Rattle.tab_spec.specs.Values.{Reading, fixed_bytes, number8, number16, number32, sized, then_read, require, filling, words, auth_of, public_of, sensitive_of, nv_public_of, selection_of, selection_with, is_form, is_policy, is_nv_size, are_attributes, are_nv_attributes, parameter_words}
use Rattle.tab_spec.specs.Admission.{unless_fault}
use Rattle.tab_spec.specs.Parameters.{in_parameter, when_read}
use Rattle.device_spec.specs.Answers.{is_hidden}

-- ---- codes

-- a code that a device may tell of any command, in a response with the usual tag
abbrev pub is_plain : ℕ → Bool
is_plain code = not (code == RC_SUCCESS) && not (code == RC_BAD_TAG) && not (is_hidden code) && nat_lt code (2 ^ 32)

abbrev pub IsPlain : ℕ → Type 0
IsPlain code = is_plain code ≡ true

-- the code of a fault as readers tell it, before the number of its parameter is added
abbrev pub IsBare : ℕ → Type 0
IsBare code = (nat_le 128 code && nat_lt code 192) ≡ true

no_both : (a b : Bool) → (a ≡ true → b ≡ true → ⊥) → (a && b) ≡ false
no_both true true never = absurd (never refl refl)
no_both true false never = refl
no_both false b never = refl

outside : (low high code : ℕ) → (low ≤ code → code ≤ high → ⊥) → (nat_le low code && nat_le code high) ≡ false
outside low high code never =
    no_both (nat_le low code) (nat_le code high) (λ above below. never (leb-true low code above) (leb-true code high below))

-- the codes whose last byte is 128 or more
pub format_one : (base number : ℕ) → 128 ≤ base → base < 256 → nat_lt number 16 ≡ true → IsPlain (base + 256 * number)
format_one base number low high few =
    let code = base + 256 * number in
    rw (
      ne_eqb code RC_SUCCESS (λ e. omega (arith, e, low)),
      ne_eqb code RC_BAD_TAG (λ e. omega (arith, e, low)),
      ne_eqb RC_INITIALIZE code (λ e. omega (arith, e, low, high)),
      ne_eqb RC_CANCELED code (λ e. omega (arith, e, low, high)),
      ne_eqb RC_CONTEXT_GAP code (λ e. omega (arith, e, low, high)),
      ne_eqb RC_OBJECT_MEMORY code (λ e. omega (arith, e, low, high)),
      ne_eqb RC_SESSION_MEMORY code (λ e. omega (arith, e, low, high)),
      ne_eqb RC_MEMORY code (λ e. omega (arith, e, low, high)),
      ne_eqb RC_DEVICE_FAULT code (λ e. omega (arith, e, low, high)),
      ne_eqb RC_JOURNAL_FULL code (λ e. omega (arith, e, low, high)),
      ne_eqb RC_DEVICE_ANSWER code (λ e. omega (arith, e, low, high)),
      outside RC_REFERENCE_H0 (RC_REFERENCE_H0 + 6) code (λ above below. omega (arith, above, below, low, high)),
      outside RC_REFERENCE_S0 (RC_REFERENCE_S0 + 6) code (λ above below. omega (arith, above, below, low, high)),
      lt-ltb code (2 ^ 32) (omega (arith, high, ltb-true number 16 few)),
    ) refl

pub parameter_code : (code number : ℕ) → IsBare code → nat_lt number 16 ≡ true → IsPlain (code + RC_P + RC_1 * number)
parameter_code code number bare few =
    let parts = and_parts (nat_le 128 code) (nat_lt code 192) bare in
    format_one (code + RC_P) number (omega (arith, leb-true 128 code parts.0)) (omega (arith, ltb-true code 192 parts.1)) few

-- ---- what fails

-- the code of an outcome that fails
abbrev pub Fails : {X : Type 0} → (ℕ → Type 0) → Result X ℕ → Type 0
Fails P (Err code) = P code
Fails P (Ok x) = Unit

pub fails_then : {X Y : Type 0} (P : ℕ → Type 0) (reading : Reading X) (next : X → List ℕ → Reading Y) → Fails P reading
    → ((x : X) (rest : List ℕ) → Fails P (next x rest)) → Fails P (then_read reading next)
fails_then P (Err code) next fails goes = fails
fails_then P (Ok read) next fails goes = goes read.0 read.1

pub fails_test : {X : Type 0} (P : ℕ → Type 0) (test : X → Bool) (code : ℕ) (reading : Reading X) → P code → Fails P reading
    → Fails P (require test code reading)
fails_test P test code (Err fault) own fails = fails
fails_test P test code (Ok read) own fails = cond_both (test read.0) (Ok read) (Err code) (Fails P) (λ passes. tt) (λ none. own)

pub fails_fixed : (P : ℕ → Type 0) (size lacking : ℕ) (bytes : List ℕ) → P lacking → Fails P (fixed_bytes size lacking bytes)
fails_fixed P size lacking bytes own = cond_both (nat_lt (length bytes) size) (Err lacking) _ (Fails P) (λ few. own) (λ enough. tt)

pub fails_8 : (P : ℕ → Type 0) (lacking : ℕ) (bytes : List ℕ) → P lacking → Fails P (number8 lacking bytes)
fails_8 P lacking bytes own = fails_then P (fixed_bytes 1 lacking bytes) _ (fails_fixed P 1 lacking bytes own) (λ read rest. tt)

pub fails_16 : (P : ℕ → Type 0) (lacking : ℕ) (bytes : List ℕ) → P lacking → Fails P (number16 lacking bytes)
fails_16 P lacking bytes own = fails_then P (fixed_bytes 2 lacking bytes) _ (fails_fixed P 2 lacking bytes own) (λ read rest. tt)

pub fails_32 : (P : ℕ → Type 0) (lacking : ℕ) (bytes : List ℕ) → P lacking → Fails P (number32 lacking bytes)
fails_32 P lacking bytes own = fails_then P (fixed_bytes 4 lacking bytes) _ (fails_fixed P 4 lacking bytes own) (λ read rest. tt)

pub fails_sized : (P : ℕ → Type 0) (lacking : ℕ) (bytes : List ℕ) → P lacking → Fails P (sized lacking bytes)
fails_sized P lacking bytes own =
    fails_then P (number16 lacking bytes) _ (fails_16 P lacking bytes own) (λ size rest. fails_fixed P size lacking rest own)

fails_filling : {X : Type 0} (P : ℕ → Type 0) (rest : List ℕ) (reading : Reading X) → P RC_SIZE → Fails P reading → Fails P (filling rest reading)
fails_filling P rest (Err code) own fails = fails
fails_filling P rest (Ok read) own fails = cond_both (length read.1 == 0) (Ok (read.0, rest)) (Err RC_SIZE) (Fails P) (λ whole. tt) (λ more. own)

-- a structure that fills a TPM2B
pub fails_enclosed : {X : Type 0} (P : ℕ → Type 0) (reader : List ℕ → Reading X) (outer : Reading (List ℕ)) → P RC_SIZE → Fails P outer
    → ((inside : List ℕ) → Fails P (reader inside)) → Fails P (then_read outer (λ inside rest. filling rest (reader inside)))
fails_enclosed P reader outer own fails goes = fails_then P outer _ fails (λ inside rest. fails_filling P rest (reader inside) own (goes inside))

-- the numbers of parameters are told
pub fails_parameter : {X : Type 0} (number : ℕ) (reading : Reading X) → nat_lt number 16 ≡ true → Fails IsBare reading
    → Fails IsPlain (in_parameter number reading)
fails_parameter number (Err code) few bare = parameter_code code number bare few
fails_parameter number (Ok read) few bare = tt

-- what comes of parameters that are read
pub fails_read : {X Y : Type 0} (reading : Reading X) (next : X → Result Y ℕ) → Fails IsPlain reading → ((x : X) → Fails IsPlain (next x))
    → Fails IsPlain (when_read reading next)
fails_read (Err code) next fails goes = fails
fails_read (Ok read) next fails goes = cond_both (length read.1 == 0) (next read.0) (Err RC_SIZE) (Fails IsPlain) (λ whole. goes read.0) (λ more. refl)

-- and of a fault before them
pub fails_unless : {Y : Type 0} (fault : Option ℕ) (row : Result Y ℕ) → IfSome fault IsPlain → Fails IsPlain row → Fails IsPlain (unless_fault fault row)
fails_unless (Some code) row plain fails = plain
fails_unless None row plain fails = fails

-- ---- what is read

pub fails_auth : (lacking : ℕ) (bytes : List ℕ) → IsBare lacking → Fails IsBare (auth_of lacking bytes)
fails_auth lacking bytes own =
    fails_then IsBare (require (λ auth. nat_le (length auth) 32) RC_SIZE (sized lacking bytes)) _
    (fails_test IsBare _ RC_SIZE (sized lacking bytes) refl (fails_sized IsBare lacking bytes own)) (λ auth rest. tt)

pub fails_words : (all bytes : List ℕ) → Fails IsBare (words all bytes)
fails_words [] bytes = tt
fails_words (word ∷ more) bytes =
    fails_then IsBare (require (λ read. read == word) RC_VALUE (number16 RC_SIZE bytes)) _
    (fails_test IsBare _ RC_VALUE (number16 RC_SIZE bytes) refl (fails_16 IsBare RC_SIZE bytes refl)) (λ read rest. fails_words more rest)

pub fails_public : (bytes : List ℕ) → Fails IsBare (public_of bytes)
fails_public bytes =
    fails_then IsBare (require is_form RC_TYPE (number16 RC_SIZE bytes)) _ (fails_test IsBare is_form RC_TYPE _ refl (fails_16 IsBare RC_SIZE bytes refl)) (λ form rest.
    fails_then IsBare _ _ (fails_test IsBare _ RC_HASH (number16 RC_SIZE rest) refl (fails_16 IsBare RC_SIZE rest refl)) (λ hash rest.
    fails_then IsBare _ _ (fails_test IsBare (are_attributes form) RC_ATTRIBUTES (number32 RC_SIZE rest) refl (fails_32 IsBare RC_SIZE rest refl)) (λ attributes rest.
    fails_then IsBare _ _ (fails_test IsBare is_policy RC_SIZE (sized RC_SIZE rest) refl (fails_sized IsBare RC_SIZE rest refl)) (λ policy rest.
    fails_then IsBare _ _ (fails_words (parameter_words form attributes) rest) (λ read rest.
    fails_then IsBare _ _ (fails_test IsBare _ RC_SIZE (sized RC_SIZE rest) refl (fails_sized IsBare RC_SIZE rest refl)) (λ unique rest. tt))))))

pub fails_sensitive : (bytes : List ℕ) → Fails IsBare (sensitive_of bytes)
fails_sensitive bytes =
    fails_then IsBare (auth_of RC_SIZE bytes) _ (fails_auth RC_SIZE bytes refl) (λ auth rest.
    fails_then IsBare _ _ (fails_test IsBare _ RC_SIZE (sized RC_SIZE rest) refl (fails_sized IsBare RC_SIZE rest refl)) (λ content rest. tt))

pub fails_nv_public : (bytes : List ℕ) → Fails IsBare (nv_public_of bytes)
fails_nv_public bytes =
    fails_then IsBare _ _ (fails_test IsBare _ RC_VALUE (number32 RC_SIZE bytes) refl (fails_32 IsBare RC_SIZE bytes refl)) (λ index rest.
    fails_then IsBare _ _ (fails_test IsBare _ RC_HASH (number16 RC_SIZE rest) refl (fails_16 IsBare RC_SIZE rest refl)) (λ hash rest.
    fails_then IsBare _ _ (fails_test IsBare are_nv_attributes RC_ATTRIBUTES (number32 RC_SIZE rest) refl (fails_32 IsBare RC_SIZE rest refl)) (λ attributes rest.
    fails_then IsBare _ _ (fails_test IsBare is_policy RC_SIZE (sized RC_SIZE rest) refl (fails_sized IsBare RC_SIZE rest refl)) (λ policy rest.
    fails_then IsBare _ _ (fails_test IsBare (is_nv_size attributes) RC_SIZE (number16 RC_SIZE rest) refl (fails_16 IsBare RC_SIZE rest refl)) (λ size rest. tt)))))

fails_selected : (count : ℕ) (bytes : List ℕ) → Fails IsBare (selection_with count bytes)
fails_selected count bytes =
    cond_both (count == 0) _ _ (Fails IsBare) (λ none. tt) (λ one.
    fails_then IsBare _ _ (fails_test IsBare _ RC_HASH (number16 RC_INSUFFICIENT bytes) refl (fails_16 IsBare RC_INSUFFICIENT bytes refl)) (λ hash rest.
    fails_then IsBare _ _ (fails_test IsBare _ RC_VALUE (number8 RC_INSUFFICIENT rest) refl (fails_8 IsBare RC_INSUFFICIENT rest refl)) (λ size rest.
    fails_then IsBare (fixed_bytes 3 RC_INSUFFICIENT rest) _ (fails_fixed IsBare 3 RC_INSUFFICIENT rest refl) (λ bits rest. tt))))

pub fails_selection : (bytes : List ℕ) → Fails IsBare (selection_of bytes)
fails_selection bytes =
    fails_then IsBare _ selection_with (fails_test IsBare _ RC_SIZE (number32 RC_INSUFFICIENT bytes) refl (fails_32 IsBare RC_INSUFFICIENT bytes refl))
    (λ count rest. fails_selected count rest)

-- a parameter that is a TPM2B with a test
pub fails_tested : (number : ℕ) (test : List ℕ → Bool) (bytes : List ℕ) → nat_lt number 16 ≡ true
    → Fails IsPlain (in_parameter number (require test RC_SIZE (sized RC_INSUFFICIENT bytes)))
fails_tested number test bytes few =
    fails_parameter number _ few (fails_test IsBare test RC_SIZE (sized RC_INSUFFICIENT bytes) refl (fails_sized IsBare RC_INSUFFICIENT bytes refl))

pub fails_parameter_16 : (number : ℕ) (bytes : List ℕ) → nat_lt number 16 ≡ true → Fails IsPlain (in_parameter number (number16 RC_INSUFFICIENT bytes))
fails_parameter_16 number bytes few = fails_parameter number (number16 RC_INSUFFICIENT bytes) few (fails_16 IsBare RC_INSUFFICIENT bytes refl)

pub fails_parameter_32 : (number : ℕ) (bytes : List ℕ) → nat_lt number 16 ≡ true → Fails IsPlain (in_parameter number (number32 RC_INSUFFICIENT bytes))
fails_parameter_32 number bytes few = fails_parameter number (number32 RC_INSUFFICIENT bytes) few (fails_32 IsBare RC_INSUFFICIENT bytes refl)
