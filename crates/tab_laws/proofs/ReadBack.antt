-- What is written of a value is read again, whatever follows, and what is read is a value of its kind.
use Rattle.std.proofs.Common.{◌≡◌, ℕ, ◌^◌, ◌<◌, ◌≤◌, Bool, true, false, List, [], ◌∷◌, ◌++◌, length, take, drop, Option, Some, None, Ok, Err, refl, ap, subst, ◌∙◌, append_assoc, arith, length-append, length-take, take_at, drop_at}
use Rattle.std.specs.Prelude.{IfSome, nat_lt, nat_le, ◌==◌, ◌&&◌, if◌then◌else◌}
use Rattle.std.specs.List.{AllByRecursion}
use Rattle.std.specs.Int.{w16, w32, to_be_bytes}
use Rattle.std.specs.Int.Bits.{bit_and}
use Rattle.std.proofs.lemmas.Bool.{ltb-false, le-ltb, leb-true, le-leb, eqb-true, eq-eqb, cond_both, and_parts}
use Rattle.std.proofs.lemmas.Bool.Decides.{nat_tests}
use Rattle.std.proofs.lemmas.Nat.{from_be_bytes-to_be_bytes_2, from_be_bytes-to_be_bytes_4, and_le_l}
use Rattle.tab_spec.specs.declared.TheConstants.{ALG_SHA256, ALG_NULL, ALG_HMAC, ALG_SYMCIPHER, HT_NV_INDEX, RC_TYPE, RC_HASH, RC_ATTRIBUTES, RC_VALUE, RC_SIZE, RC_INSUFFICIENT}
use Rattle.tab_spec.specs.Shape.{octet_of}
use Rattle.tab_spec.specs.Values.{Reading, then_read, require, fixed_bytes, number8, number16, number32, sized, words, sized_bytes, word_bytes, is_form, has_known_bits, is_fixed_or_not, fits_form, are_attributes, signs, parameter_words, is_policy, Public, public_of, public_bytes, IsPublic, nv_type, are_nv_attributes, is_nv_size, NvPublic, nv_public_of, nv_public_bytes, IsNvPublic, PcrSelection, selection_with, selection_of, selected_bytes, selection_bytes, IsPcrSelection}

-- ---- what is written of a part is read again

pub fixed_bytes_again : (size lacking : ℕ) (bytes more : List ℕ) → length bytes ≡ size → fixed_bytes size lacking (bytes ++ more) ≡ Ok (bytes, more)
fixed_bytes_again size lacking bytes more is =
    let enough : nat_lt (length (bytes ++ more)) size ≡ false = le-ltb _ _ (omega (arith, length-append bytes more)) in
    rw (enough, take_at bytes more size is, drop_at bytes more size is) refl

pub number8_again : (lacking n : ℕ) (more : List ℕ) → number8 lacking (n ∷ more) ≡ Ok (n, more)
number8_again lacking n more = rw (fixed_bytes_again 1 lacking (n ∷ []) more refl) refl

number16_again : (lacking n : ℕ) (more : List ℕ) → n < 2 ^ 16 → number16 lacking (to_be_bytes w16 n ++ more) ≡ Ok (n, more)
number16_again lacking n more fits = rw (fixed_bytes_again 2 lacking (to_be_bytes w16 n) more refl, from_be_bytes-to_be_bytes_2 n fits) refl

pub number32_again : (lacking n : ℕ) (more : List ℕ) → n < 2 ^ 32 → number32 lacking (to_be_bytes w32 n ++ more) ≡ Ok (n, more)
number32_again lacking n more fits = rw (fixed_bytes_again 4 lacking (to_be_bytes w32 n) more refl, from_be_bytes-to_be_bytes_4 n fits) refl

-- what was read passes the test
pub where_true : {X : Type 0} (test : X → Bool) (code : ℕ) (r : Reading X) (x : X) (rest : List ℕ)
    → r ≡ Ok (x, rest) → test x ≡ true → require test code r ≡ Ok (x, rest)
where_true test code r x rest is passes = ap (require test code) is ∙ rw passes refl

pub sized_again : (lacking : ℕ) (bytes more : List ℕ) → length bytes < 2 ^ 16 → sized lacking (sized_bytes bytes ++ more) ≡ Ok (bytes, more)
sized_again lacking bytes more fits =
    ap (sized lacking) (append_assoc (to_be_bytes w16 (length bytes)) bytes more)
    ∙ rw (number16_again lacking (length bytes) (bytes ++ more) fits) (fixed_bytes_again (length bytes) lacking bytes more refl)

words_again : (ws more : List ℕ) → AllByRecursion (λ word. word < 2 ^ 16) ws → words ws (word_bytes ws ++ more) ≡ Ok ([], more)
words_again [] more fit = refl
words_again (word ∷ ws) more fit =
    let on = word_bytes ws ++ more in
    let first = where_true (λ read. read == word) RC_VALUE (number16 RC_SIZE (to_be_bytes w16 word ++ on)) word on
    (number16_again RC_SIZE word on fit.0) (eq-eqb word word refl) in
    ap (words (word ∷ ws)) (append_assoc (to_be_bytes w16 word) (word_bytes ws) more) ∙ rw first (words_again ws more fit.1)

-- a policy has no bytes or 32
pub policy_short : (policy : List ℕ) → is_policy policy ≡ true → length policy ≤ 32
policy_short policy known = grind (arith, nat_tests)

policy_again : (policy more : List ℕ) → is_policy policy ≡ true
    → require is_policy RC_SIZE (sized RC_SIZE (sized_bytes policy ++ more)) ≡ Ok (policy, more)
policy_again policy more known =
    let short = policy_short policy known in
    where_true is_policy RC_SIZE (sized RC_SIZE (sized_bytes policy ++ more)) policy more
    (sized_again RC_SIZE policy more (omega arith)) known

hash_again : (more : List ℕ)
    → require (λ hash. hash == ALG_SHA256) RC_HASH (number16 RC_SIZE (to_be_bytes w16 ALG_SHA256 ++ more)) ≡ Ok (ALG_SHA256, more)
hash_again more =
    where_true (λ hash. hash == ALG_SHA256) RC_HASH (number16 RC_SIZE (to_be_bytes w16 ALG_SHA256 ++ more)) ALG_SHA256 more
    (number16_again RC_SIZE ALG_SHA256 more (omega arith)) refl

-- ---- what is written of a public area is read again

parameters_fit : (form attributes : ℕ) → AllByRecursion (λ word. word < 2 ^ 16) (parameter_words form attributes)
parameters_fit form attributes =
    let Fit : List ℕ → Type 0 = AllByRecursion (λ word. word < 2 ^ 16) in
    let others = if signs attributes then ALG_HMAC ∷ ALG_SHA256 ∷ [] else ALG_NULL ∷ [] in
    cond_both (form == ALG_SYMCIPHER) (0x0006 ∷ 0x0080 ∷ 0x0043 ∷ []) others Fit
    (λ cipher. (omega arith, (omega arith, (omega arith, tt))))
    (λ other. cond_both (signs attributes) (ALG_HMAC ∷ ALG_SHA256 ∷ []) (ALG_NULL ∷ []) Fit
    (λ hmac. (omega arith, (omega arith, tt))) (λ sealed. (omega arith, tt)))

pub public_parts : (a b c d e f more : List ℕ) → a ++ b ++ c ++ d ++ e ++ f ++ more ≡ a ++ (b ++ (c ++ (d ++ (e ++ (f ++ more)))))
public_parts a b c d e f more = simp append_assoc

pub public_again : (p : Public) (more : List ℕ) → IsPublic p → public_of (public_bytes p ++ more) ≡ Ok (p, more)
public_again p more is =
    let unique_on = sized_bytes p.unique ++ more in
    let words_on = word_bytes (parameter_words p.form p.attributes) ++ unique_on in
    let policy_on = sized_bytes p.policy ++ words_on in
    let attributes_on = to_be_bytes w32 p.attributes ++ policy_on in
    let hash_on = to_be_bytes w16 ALG_SHA256 ++ attributes_on in
    let form_on = to_be_bytes w16 p.form ++ hash_on in
    let form_read = where_true is_form RC_TYPE (number16 RC_SIZE form_on) p.form hash_on
    (number16_again RC_SIZE p.form hash_on is.form_fits) is.form_known in
    let attributes_read = where_true (are_attributes p.form) RC_ATTRIBUTES (number32 RC_SIZE attributes_on) p.attributes policy_on
    (number32_again RC_SIZE p.attributes policy_on is.attributes_fit) is.attributes_agree in
    let policy_read = policy_again p.policy words_on is.policy_known in
    let words_read = words_again (parameter_words p.form p.attributes) unique_on (parameters_fit p.form p.attributes) in
    let short = is.unique_short in
    let unique_read = where_true (λ unique. nat_le (length unique) 32) RC_SIZE (sized RC_SIZE unique_on) p.unique more
    (sized_again RC_SIZE p.unique more (omega arith)) (le-leb (length p.unique) 32 short) in
    ap public_of (public_parts (to_be_bytes w16 p.form) (to_be_bytes w16 ALG_SHA256) (to_be_bytes w32 p.attributes)
    (sized_bytes p.policy) (word_bytes (parameter_words p.form p.attributes)) (sized_bytes p.unique) more)
    ∙ rw (form_read, hash_again attributes_on, attributes_read, policy_read, words_read, unique_read) refl

-- ---- what is written of the public area of an NV index is read again

pub nv_parts : (a b c d e more : List ℕ) → a ++ b ++ c ++ d ++ e ++ more ≡ a ++ (b ++ (c ++ (d ++ (e ++ more))))
nv_parts a b c d e more = simp append_assoc

pub nv_public_again : (p : NvPublic) (more : List ℕ) → IsNvPublic p → nv_public_of (nv_public_bytes p ++ more) ≡ Ok (p, more)
nv_public_again p more is =
    let size_on = to_be_bytes w16 p.size ++ more in
    let policy_on = sized_bytes p.policy ++ size_on in
    let attributes_on = to_be_bytes w32 p.attributes ++ policy_on in
    let hash_on = to_be_bytes w16 ALG_SHA256 ++ attributes_on in
    let index_on = to_be_bytes w32 p.index ++ hash_on in
    let index_read = where_true (λ index. octet_of index == HT_NV_INDEX) RC_VALUE (number32 RC_SIZE index_on) p.index hash_on
    (number32_again RC_SIZE p.index hash_on is.index_fits) (eq-eqb (octet_of p.index) HT_NV_INDEX is.index_known) in
    let attributes_read = where_true are_nv_attributes RC_ATTRIBUTES (number32 RC_SIZE attributes_on) p.attributes policy_on
    (number32_again RC_SIZE p.attributes policy_on is.attributes_fit) is.attributes_agree in
    let policy_read = policy_again p.policy size_on is.policy_known in
    let size_read = where_true (is_nv_size p.attributes) RC_SIZE (number16 RC_SIZE size_on) p.size more
    (number16_again RC_SIZE p.size more is.size_fits) is.size_allowed in
    ap nv_public_of (nv_parts (to_be_bytes w32 p.index) (to_be_bytes w16 ALG_SHA256) (to_be_bytes w32 p.attributes)
    (sized_bytes p.policy) (to_be_bytes w16 p.size) more)
    ∙ rw (index_read, hash_again attributes_on, attributes_read, policy_read, size_read) refl

-- ---- what is written of a selection of PCRs is read again

selected_again : (bits : Option (List ℕ)) (more : List ℕ) → IfSome bits (λ bits. length bits ≡ 3)
    → selection_of (selected_bytes bits ++ more) ≡ Ok (record { bits = bits }, more)
selected_again None more is = rw (number32_again RC_INSUFFICIENT 0 more (omega arith)) refl
selected_again (Some bits) more is =
    let hash = number16_again RC_INSUFFICIENT ALG_SHA256 (3 ∷ (bits ++ more)) (omega arith) in
    let count = number32_again RC_INSUFFICIENT 1 (to_be_bytes w16 ALG_SHA256 ++ 3 ∷ (bits ++ more)) (omega arith) in
    rw (count, hash, number8_again RC_INSUFFICIENT 3 (bits ++ more), fixed_bytes_again 3 RC_INSUFFICIENT bits more is) refl

pub selection_again : (s : PcrSelection) (more : List ℕ) → IsPcrSelection s → selection_of (selection_bytes s ++ more) ≡ Ok (s, more)
selection_again s more is = selected_again s.bits more is

-- ---- what a reader gives

-- what was read, where there was no fault, is so
abbrev pub Gives : {X : Type 0} → (X → Type 0) → Reading X → Type 0
Gives P (Err code) = Unit
Gives P (Ok read) = P read.0

pub given : {X : Type 0} (P : X → Type 0) (r : Reading X) (x : X) (rest : List ℕ) → Gives P r → r ≡ Ok (x, rest) → P x
given P r x rest gives is = subst (Gives P) is gives

-- what comes next gives it, whatever was read before
pub gives_next : {X Y : Type 0} (P : Y → Type 0) (r : Reading X) (next : X → List ℕ → Reading Y)
    → ((x : X) (rest : List ℕ) → Gives P (next x rest)) → Gives P (then_read r next)
gives_next P (Err code) next then_gives = tt
gives_next P (Ok read) next then_gives = then_gives read.0 read.1

-- it knows that what was read before passed its test
pub gives_where : {X Y : Type 0} (P : Y → Type 0) (test : X → Bool) (code : ℕ) (r : Reading X) (next : X → List ℕ → Reading Y)
    → ((x : X) (rest : List ℕ) → test x ≡ true → Gives P (next x rest)) → Gives P (then_read (require test code r) next)
gives_where P test code (Err fault) next then_gives = tt
gives_where P test code (Ok read) next then_gives =
    cond_both (test read.0) (Ok read) (Err code) (λ r. Gives P (then_read r next))
    (λ passes. then_gives read.0 read.1 passes) (λ fails. tt)

-- it knows how many bytes were read before
gives_fixed_bytes : {Y : Type 0} (P : Y → Type 0) (size lacking : ℕ) (bytes : List ℕ) (next : List ℕ → List ℕ → Reading Y)
    → ((read rest : List ℕ) → length read ≡ size → Gives P (next read rest)) → Gives P (then_read (fixed_bytes size lacking bytes) next)
gives_fixed_bytes P size lacking bytes next then_gives =
    cond_both (nat_lt (length bytes) size) (Err lacking) (Ok (take size bytes, drop size bytes)) (λ r. Gives P (then_read r next))
    (λ short. tt)
    (λ enough. then_gives (take size bytes) (drop size bytes) (omega (arith, length-take size bytes, ltb-false (length bytes) size enough)))

gives_either : {X : Type 0} (P : X → Type 0) (test : Bool) (a b : Reading X) → Gives P a → Gives P b → Gives P (if test then a else b)
gives_either P true a b a_gives b_gives = a_gives
gives_either P false a b a_gives b_gives = b_gives

-- ---- what is read of a public area is one

form_fits : (form : ℕ) → is_form form ≡ true → form < 2 ^ 16
form_fits form known = grind (arith, nat_tests)

-- attributes without bits beyond those of a mask are no larger than it
bits_fit : (mask attributes : ℕ) → mask < 2 ^ 32 → (bit_and mask attributes == attributes) ≡ true → attributes < 2 ^ 32
bits_fit mask attributes small known = omega (arith, and_le_l mask attributes, eqb-true (bit_and mask attributes) attributes known)

attributes_fit : (form attributes : ℕ) → are_attributes form attributes ≡ true → attributes < 2 ^ 32
attributes_fit form attributes agree =
    let bits = (and_parts (has_known_bits attributes && is_fixed_or_not attributes) (fits_form form attributes) agree).0 in
    bits_fit 0x000704f2 attributes (omega arith) (and_parts (has_known_bits attributes) (is_fixed_or_not attributes) bits).0

public_from : (form attributes : ℕ) (policy unique : List ℕ)
    → is_form form ≡ true → are_attributes form attributes ≡ true → is_policy policy ≡ true → nat_le (length unique) 32 ≡ true
    → IsPublic (record { form = form; attributes = attributes; policy = policy; unique = unique })
public_from form attributes policy unique form_known attributes_agree policy_known short = record {
  form_fits = form_fits form form_known;
  form_known = form_known;
  attributes_fit = attributes_fit form attributes attributes_agree;
  attributes_agree = attributes_agree;
  policy_known = policy_known;
  unique_short = leb-true (length unique) 32 short;
}

pub public_gives : (bytes : List ℕ) → Gives IsPublic (public_of bytes)
public_gives bytes =
    gives_where IsPublic is_form RC_TYPE (number16 RC_SIZE bytes) _ (λ form rest form_known.
    gives_where IsPublic (λ hash. hash == ALG_SHA256) RC_HASH (number16 RC_SIZE rest) _ (λ hash rest _.
    gives_where IsPublic (are_attributes form) RC_ATTRIBUTES (number32 RC_SIZE rest) _ (λ attributes rest attributes_agree.
    gives_where IsPublic is_policy RC_SIZE (sized RC_SIZE rest) _ (λ policy rest policy_known.
    gives_next IsPublic (words (parameter_words form attributes) rest) _ (λ read rest.
    gives_where IsPublic (λ unique. nat_le (length unique) 32) RC_SIZE (sized RC_SIZE rest) _ (λ unique rest short.
    public_from form attributes policy unique form_known attributes_agree policy_known short))))))

pub public_read : (bytes : List ℕ) (p : Public) (rest : List ℕ) → public_of bytes ≡ Ok (p, rest) → IsPublic p
public_read bytes p rest is = given IsPublic (public_of bytes) p rest (public_gives bytes) is

-- ---- what is read of the public area of an NV index is one

nv_attributes_fit : (attributes : ℕ) → are_nv_attributes attributes ≡ true → attributes < 2 ^ 32
nv_attributes_fit attributes agree = bits_fit 0x220600f6 attributes (omega arith) (grind (arith, and_parts))

nv_size_fits : (attributes size : ℕ) → is_nv_size attributes size ≡ true → size < 2 ^ 16
nv_size_fits attributes size allowed =
    cond_both (nv_type attributes == 0x10) (size == 8) (nat_le size 2048) (λ test. test ≡ true → size < 2 ^ 16)
    (λ counts is. omega (arith, eqb-true size 8 is)) (λ holds is. omega (arith, leb-true size 2048 is)) allowed

nv_public_from : (index attributes : ℕ) (policy : List ℕ) (size : ℕ) → (octet_of index == HT_NV_INDEX) ≡ true
    → are_nv_attributes attributes ≡ true → is_policy policy ≡ true → is_nv_size attributes size ≡ true
    → IsNvPublic (record { index = index; attributes = attributes; policy = policy; size = size })
nv_public_from index attributes policy size index_is attributes_agree policy_known size_allowed =
    let index_known : octet_of index ≡ HT_NV_INDEX = eqb-true (octet_of index) HT_NV_INDEX index_is in
    record {
      index_fits = omega arith;
      index_known = index_known;
      attributes_fit = nv_attributes_fit attributes attributes_agree;
      attributes_agree = attributes_agree;
      policy_known = policy_known;
      size_fits = nv_size_fits attributes size size_allowed;
      size_allowed = size_allowed;
    }

pub nv_public_gives : (bytes : List ℕ) → Gives IsNvPublic (nv_public_of bytes)
nv_public_gives bytes =
    gives_where IsNvPublic (λ index. octet_of index == HT_NV_INDEX) RC_VALUE (number32 RC_SIZE bytes) _ (λ index rest index_is.
    gives_where IsNvPublic (λ hash. hash == ALG_SHA256) RC_HASH (number16 RC_SIZE rest) _ (λ hash rest _.
    gives_where IsNvPublic are_nv_attributes RC_ATTRIBUTES (number32 RC_SIZE rest) _ (λ attributes rest attributes_agree.
    gives_where IsNvPublic is_policy RC_SIZE (sized RC_SIZE rest) _ (λ policy rest policy_known.
    gives_where IsNvPublic (is_nv_size attributes) RC_SIZE (number16 RC_SIZE rest) _ (λ size rest size_allowed.
    nv_public_from index attributes policy size index_is attributes_agree policy_known size_allowed)))))

pub nv_public_read : (bytes : List ℕ) (p : NvPublic) (rest : List ℕ) → nv_public_of bytes ≡ Ok (p, rest) → IsNvPublic p
nv_public_read bytes p rest is = given IsNvPublic (nv_public_of bytes) p rest (nv_public_gives bytes) is

-- ---- what is read of a selection of PCRs is one

selection_gives_with : (count : ℕ) (bytes : List ℕ) → Gives IsPcrSelection (selection_with count bytes)
selection_gives_with count bytes =
    gives_either IsPcrSelection (count == 0) (Ok (record { bits = None }, bytes)) _ tt
    (gives_where IsPcrSelection (λ hash. hash == ALG_SHA256) RC_HASH (number16 RC_INSUFFICIENT bytes) _ (λ hash rest _.
    gives_where IsPcrSelection (λ size. size == 3) RC_VALUE (number8 RC_INSUFFICIENT rest) _ (λ size rest _.
    gives_fixed_bytes IsPcrSelection 3 RC_INSUFFICIENT rest _ (λ bits rest three. three))))

pub selection_gives : (bytes : List ℕ) → Gives IsPcrSelection (selection_of bytes)
selection_gives bytes =
    gives_where IsPcrSelection (λ count. nat_le count 1) RC_SIZE (number32 RC_INSUFFICIENT bytes) selection_with
    (λ count rest _. selection_gives_with count rest)

pub selection_read : (bytes : List ℕ) (s : PcrSelection) (rest : List ℕ) → selection_of bytes ≡ Ok (s, rest) → IsPcrSelection s
selection_read bytes s rest is = given IsPcrSelection (selection_of bytes) s rest (selection_gives bytes) is
