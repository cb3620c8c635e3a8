-- What is written of an object is read again, whatever follows; what is read is an object, and it has one spelling.
use Rattle.std.proofs.Common.{◌≡◌, ℕ, ◌^◌, ◌<◌, ◌≤◌, ◌+◌, Bool, true, List, [], ◌∷◌, ◌++◌, length, Ok, Err, refl, ap, subst, sym, ◌∙◌, append_assoc, arith, length-append, length-take, length-drop}
use Rattle.std.specs.Prelude.{nat_lt, nat_le, take, drop, ◌==◌, bytes_eq, if◌then◌else◌}
use Rattle.std.specs.Int.{w16, to_be_bytes}
use Rattle.std.proofs.lemmas.Bool.{ltb-false, leb-true, le-leb, eqb-true, eq-eqb, cond_both}
use Rattle.std.proofs.lemmas.List.{append-nil}
use Rattle.std.proofs.lemmas.Slice.Eq.{bytes_eq-Decides}
use Rattle.tab_spec.specs.declared.TheConstants.{ALG_SHA256, ALG_NULL, ALG_HMAC, ALG_SYMCIPHER, RC_TYPE, RC_HASH, RC_ATTRIBUTES, RC_VALUE, RC_SIZE}
use Rattle.tab_spec.specs.Object.{object_of, object_bytes, IsObject, Object}
use Rattle.tab_spec.specs.Values.{sized_exactly, sized_within, AreBytes, Reading, then_read, require, fixed_bytes, number16, number32, sized, words, filling, enclosed, sized_bytes, word_bytes, without_zeros, signs, is_form, are_attributes, is_policy, parameter_words, Public, public_of, public_bytes, IsPublic}
use Rattle.tab_laws.proofs.ReadBack.{where_true, sized_again, policy_short, public_again, Gives, given, gives_next, public_gives}
use Rattle.tab_laws.proofs.OneSpelling.{bytes_front, bytes_back, Leaves, Fronts, left_so, leaves_next, leaves_where, leaves_weaker, then_front, sized_fronts, public_fronts}

-- ---- how many bytes it takes

words_few : (form attributes : ℕ) → length (word_bytes (parameter_words form attributes)) ≤ 6
words_few form attributes =
    let Few : List ℕ → Type 0 = λ ws. length (word_bytes ws) ≤ 6 in
    let others = if signs attributes then ALG_HMAC ∷ ALG_SHA256 ∷ [] else ALG_NULL ∷ [] in
    cond_both (form == ALG_SYMCIPHER) (0x0006 ∷ 0x0080 ∷ 0x0043 ∷ []) others Few (λ cipher. omega arith)
    (λ other. cond_both (signs attributes) (ALG_HMAC ∷ ALG_SHA256 ∷ []) (ALG_NULL ∷ []) Few (λ hmac. omega arith) (λ sealed. omega arith))

pub length-sized : (bytes : List ℕ) → length (sized_bytes bytes) ≡ 2 + length bytes
length-sized bytes = omega (arith, length-append (to_be_bytes w16 (length bytes)) bytes)

pub public_small : (p : Public) → IsPublic p → length (public_bytes p) ≤ 82
public_small p is =
    let words = word_bytes (parameter_words p.form p.attributes) in
    let few = words_few p.form p.attributes in
    let policy = policy_short p.policy is.policy_known in
    let unique = is.unique_short in
    omega (arith, length-append (p.policy ++ words) (sized_bytes p.unique), length-append p.policy words)

-- five parts one after the other, and their lengths
pub parts_length : (a b c d e : List ℕ) → length (a ++ b ++ c ++ d ++ e) ≡ length a + length b + length c + length d + length e
parts_length a b c d e =
    omega (arith, length-append (a ++ b ++ c ++ d) e, length-append (a ++ b ++ c) d, length-append (a ++ b) c, length-append a b)

pub object_small : (o : Object) → IsObject o → length (object_bytes o) ≤ 318
object_small o is =
    let area = public_bytes o.public in
    let public = public_small o.public is.public in
    let auth = is.auth_short in
    let seed = is.seed in
    let secret = is.secret in
    let name = is.qualified_name in
    omega (
      arith,
      parts_length (sized_bytes area) (sized_bytes o.auth) (sized_bytes o.seed) (sized_bytes o.secret) (sized_bytes o.qualified_name),
      length-sized area,
      length-sized o.auth,
      length-sized o.seed,
      length-sized o.secret,
      length-sized o.qualified_name,
    )

-- ---- what is written of an object is read again

object_parts : (a b c d e more : List ℕ) → a ++ b ++ c ++ d ++ e ++ more ≡ a ++ (b ++ (c ++ (d ++ (e ++ more))))
object_parts a b c d e more = simp append_assoc

enclosed_again : {X : Type 0} (reader : List ℕ → Reading X) (lacking : ℕ) (x : X) (bytes more : List ℕ) → length bytes < 2 ^ 16
    → reader bytes ≡ Ok (x, []) → enclosed reader lacking (sized_bytes bytes ++ more) ≡ Ok (x, more)
enclosed_again reader lacking x bytes more fits reads = rw (sized_again lacking bytes more fits, reads) refl

area_again : (p : Public) (more : List ℕ) → IsPublic p → enclosed public_of RC_SIZE (sized_bytes (public_bytes p) ++ more) ≡ Ok (p, more)
area_again p more is =
    let small = public_small p is in
    let reads : public_of (public_bytes p) ≡ Ok (p, []) = ap public_of (sym (append-nil (public_bytes p))) ∙ public_again p [] is in
    enclosed_again public_of RC_SIZE p (public_bytes p) more (omega arith) reads

within_again : (most : ℕ) (bytes more : List ℕ) → most < 2 ^ 16 → length bytes ≤ most
    → sized_within most (sized_bytes bytes ++ more) ≡ Ok (bytes, more)
within_again most bytes more small short =
    where_true (λ read. nat_le (length read) most) RC_SIZE (sized RC_SIZE (sized_bytes bytes ++ more)) bytes more
    (sized_again RC_SIZE bytes more (omega arith)) (le-leb (length bytes) most short)

exactly_again : (size : ℕ) (bytes more : List ℕ) → size < 2 ^ 16 → length bytes ≡ size
    → sized_exactly size (sized_bytes bytes ++ more) ≡ Ok (bytes, more)
exactly_again size bytes more small is =
    where_true (λ read. length read == size) RC_SIZE (sized RC_SIZE (sized_bytes bytes ++ more)) bytes more
    (sized_again RC_SIZE bytes more (omega arith)) (eq-eqb (length bytes) size is)

bare_again : (auth more : List ℕ) → length auth ≤ 32 → without_zeros auth ≡ auth
    → require (λ auth. bytes_eq (without_zeros auth) auth) RC_SIZE (sized_within 32 (sized_bytes auth ++ more)) ≡ Ok (auth, more)
bare_again auth more short bare =
    where_true (λ auth. bytes_eq (without_zeros auth) auth) RC_SIZE (sized_within 32 (sized_bytes auth ++ more)) auth more
    (within_again 32 auth more (omega arith) short) ((bytes_eq-Decides (without_zeros auth) auth).1 bare)

pub object_again : (o : Object) (more : List ℕ) → IsObject o → object_of (object_bytes o ++ more) ≡ Ok (o, more)
object_again o more is =
    let name_on = sized_bytes o.qualified_name ++ more in
    let secret_on = sized_bytes o.secret ++ name_on in
    let seed_on = sized_bytes o.seed ++ secret_on in
    let auth_on = sized_bytes o.auth ++ seed_on in
    ap object_of (object_parts (sized_bytes (public_bytes o.public)) (sized_bytes o.auth) (sized_bytes o.seed) (sized_bytes o.secret)
    (sized_bytes o.qualified_name) more)
    ∙ rw (
      area_again o.public auth_on is.public,
      bare_again o.auth seed_on is.auth_short is.auth_bare,
      exactly_again 32 o.seed secret_on (omega arith) is.seed,
      within_again 128 o.secret name_on (omega arith) is.secret,
      exactly_again 34 o.qualified_name more (omega arith) is.qualified_name,
    ) refl

-- ---- what is read of an object is one

pub gives_after : {X Y : Type 0} (P : X → Type 0) (Q : Y → Type 0) (r : Reading X) (next : X → List ℕ → Reading Y) → Gives P r
    → ((x : X) (rest : List ℕ) → P x → Gives Q (next x rest)) → Gives Q (then_read r next)
gives_after P Q (Err code) next gives then_gives = tt
gives_after P Q (Ok read) next gives then_gives = then_gives read.0 read.1 gives

-- what passed a test
pub gives_required : {X : Type 0} (P : X → Type 0) (test : X → Bool) (code : ℕ) (r : Reading X) → Gives P r
    → Gives (λ x. P x × (test x ≡ true)) (require test code r)
gives_required P test code (Err fault) gives = tt
gives_required P test code (Ok read) gives =
    cond_both (test read.0) (Ok read) (Err code) (Gives (λ x. P x × (test x ≡ true))) (λ passes. (gives, passes)) (λ fails. tt)

pub gives_weaker : {X : Type 0} (P Q : X → Type 0) (r : Reading X) → ((x : X) → P x → Q x) → Gives P r → Gives Q r
gives_weaker P Q (Err code) weaker gives = tt
gives_weaker P Q (Ok read) weaker gives = weaker read.0 gives

gives_anything : {X : Type 0} (r : Reading X) → Gives (λ x. Unit) r
gives_anything (Err code) = tt
gives_anything (Ok read) = tt

gives_filling : {X : Type 0} (P : X → Type 0) (rest : List ℕ) (r : Reading X) → Gives P r → Gives P (filling rest r)
gives_filling P rest (Err code) gives = tt
gives_filling P rest (Ok read) gives =
    cond_both (length read.1 == 0) (Ok (read.0, rest)) (Err RC_SIZE) (Gives P) (λ whole. gives) (λ more. tt)

area_gives : (bytes : List ℕ) → Gives IsPublic (enclosed public_of RC_SIZE bytes)
area_gives bytes =
    gives_next IsPublic (sized RC_SIZE bytes) (λ inside rest. filling rest (public_of inside))
    (λ inside rest. gives_filling IsPublic rest (public_of inside) (public_gives inside))

pub within_gives : (most : ℕ) (bytes : List ℕ) → Gives (λ read. length read ≤ most) (sized_within most bytes)
within_gives most bytes =
    let Short : List ℕ → Type 0 = λ read. Unit × (nat_le (length read) most ≡ true) in
    gives_weaker Short (λ read. length read ≤ most) (sized_within most bytes) (λ read short. leb-true (length read) most short.1)
    (gives_required (λ read. Unit) (λ read. nat_le (length read) most) RC_SIZE (sized RC_SIZE bytes) (gives_anything (sized RC_SIZE bytes)))

pub exactly_gives : (size : ℕ) (bytes : List ℕ) → Gives (λ read. length read ≡ size) (sized_exactly size bytes)
exactly_gives size bytes =
    let Exact : List ℕ → Type 0 = λ read. Unit × ((length read == size) ≡ true) in
    gives_weaker Exact (λ read. length read ≡ size) (sized_exactly size bytes) (λ read exact. eqb-true (length read) size exact.1)
    (gives_required (λ read. Unit) (λ read. length read == size) RC_SIZE (sized RC_SIZE bytes) (gives_anything (sized RC_SIZE bytes)))

-- an auth value as an object has it
abbrev IsAuth : List ℕ → Type 0
IsAuth auth = (length auth ≤ 32) × (without_zeros auth ≡ auth)

auth_gives : (bytes : List ℕ) → Gives IsAuth (require (λ auth. bytes_eq (without_zeros auth) auth) RC_SIZE (sized_within 32 bytes))
auth_gives bytes =
    let bare : List ℕ → Bool = λ auth. bytes_eq (without_zeros auth) auth in
    let Bare : List ℕ → Type 0 = λ auth. (length auth ≤ 32) × (bare auth ≡ true) in
    gives_weaker Bare IsAuth (require bare RC_SIZE (sized_within 32 bytes))
    (λ auth is. (is.0, (bytes_eq-Decides (without_zeros auth) auth).0 is.1))
    (gives_required (λ auth. length auth ≤ 32) bare RC_SIZE (sized_within 32 bytes) (within_gives 32 bytes))

object_gives : (bytes : List ℕ) → Gives IsObject (object_of bytes)
object_gives bytes =
    gives_after IsPublic IsObject (enclosed public_of RC_SIZE bytes) _ (area_gives bytes) (λ public rest public_is.
    gives_after IsAuth IsObject (require (λ auth. bytes_eq (without_zeros auth) auth) RC_SIZE (sized_within 32 rest)) _
    (auth_gives rest) (λ auth rest auth_is.
    gives_after (λ seed. length seed ≡ 32) IsObject (sized_exactly 32 rest) _ (exactly_gives 32 rest) (λ seed rest seed_is.
    gives_after (λ secret. length secret ≤ 128) IsObject (sized_within 128 rest) _ (within_gives 128 rest) (λ secret rest secret_is.
    gives_after (λ name. length name ≡ 34) IsObject (sized_exactly 34 rest) _ (exactly_gives 34 rest) (λ name rest name_is.
    record {
      public = public_is;
      auth_short = auth_is.0;
      auth_bare = auth_is.1;
      seed = seed_is;
      secret = secret_is;
      qualified_name = name_is;
    })))))

pub object_read : (bytes : List ℕ) (o : Object) (rest : List ℕ) → object_of bytes ≡ Ok (o, rest) → IsObject o
object_read bytes o rest is = given IsObject (object_of bytes) o rest (object_gives bytes) is

-- ---- an object has one spelling

leaves_required : {X : Type 0} (P : X → List ℕ → Type 0) (test : X → Bool) (code : ℕ) (r : Reading X) → Leaves P r
    → Leaves P (require test code r)
leaves_required P test code (Err fault) leaves = tt
leaves_required P test code (Ok read) leaves =
    cond_both (test read.0) (Ok read) (Err code) (Leaves P) (λ passes. leaves) (λ fails. tt)

pub nothing_behind : (front rest : List ℕ) → length rest ≡ 0 → front ++ rest ≡ front
nothing_behind front [] none = append-nil front
nothing_behind front (x ∷ rest) some = absurd (omega arith)

-- a structure that fills a TPM2B is all of its bytes
fills : {X : Type 0} (write : X → List ℕ) (inside rest : List ℕ) (r : Reading X) → Leaves (Fronts write inside) r
    → Leaves (λ x left. (inside ≡ write x) × (left ≡ rest)) (filling rest r)
fills write inside rest (Err code) leaves = tt
fills {X} write inside rest (Ok read) leaves =
    let Whole : X → List ℕ → Type 0 = λ x left. (inside ≡ write x) × (left ≡ rest) in
    cond_both (length read.1 == 0) (Ok (read.0, rest)) (Err RC_SIZE) (Leaves Whole)
    (λ whole. (leaves.0 ∙ nothing_behind (write read.0) read.1 (eqb-true (length read.1) 0 whole), refl)) (λ more. tt)

area_fronts : (bytes : List ℕ) → AreBytes bytes → Leaves (Fronts (λ p. sized_bytes (public_bytes p)) bytes) (enclosed public_of RC_SIZE bytes)
area_fronts bytes all =
    let Ends = Fronts (λ p. sized_bytes (public_bytes p)) bytes in
    leaves_next (Fronts sized_bytes bytes) Ends (sized RC_SIZE bytes) (λ inside rest. filling rest (public_of inside))
    (sized_fronts RC_SIZE bytes all) (λ inside rest front.
    let these = bytes_front (sized_bytes inside) rest (subst AreBytes front.0 all) in
    let within = bytes_back (to_be_bytes w16 (length inside)) inside these in
    leaves_weaker (λ p left. (inside ≡ public_bytes p) × (left ≡ rest)) Ends (filling rest (public_of inside))
    (λ p left whole. (
      front.0 ∙ ap (λ area. sized_bytes area ++ rest) whole.0 ∙ ap (λ on. sized_bytes (public_bytes p) ++ on) (sym whole.1),
      subst AreBytes (sym whole.1) front.1,
    ))
    (fills public_bytes inside rest (public_of inside) (public_fronts inside within)))

within_fronts : (most : ℕ) (bytes : List ℕ) → AreBytes bytes → Leaves (Fronts sized_bytes bytes) (sized_within most bytes)
within_fronts most bytes all =
    leaves_required (Fronts sized_bytes bytes) (λ read. nat_le (length read) most) RC_SIZE (sized RC_SIZE bytes) (sized_fronts RC_SIZE bytes all)

exactly_fronts : (size : ℕ) (bytes : List ℕ) → AreBytes bytes → Leaves (Fronts sized_bytes bytes) (sized_exactly size bytes)
exactly_fronts size bytes all =
    leaves_required (Fronts sized_bytes bytes) (λ read. length read == size) RC_SIZE (sized RC_SIZE bytes) (sized_fronts RC_SIZE bytes all)

auth_fronts : (bytes : List ℕ) → AreBytes bytes
    → Leaves (Fronts sized_bytes bytes) (require (λ auth. bytes_eq (without_zeros auth) auth) RC_SIZE (sized_within 32 bytes))
auth_fronts bytes all =
    leaves_required (Fronts sized_bytes bytes) (λ auth. bytes_eq (without_zeros auth) auth) RC_SIZE (sized_within 32 bytes)
    (within_fronts 32 bytes all)

object_fronts : (bytes : List ℕ) → AreBytes bytes → Leaves (Fronts object_bytes bytes) (object_of bytes)
object_fronts bytes all =
    let Ends = Fronts object_bytes bytes in
    leaves_next (Fronts (λ p. sized_bytes (public_bytes p)) bytes) Ends (enclosed public_of RC_SIZE bytes) _
    (area_fronts bytes all) (λ public on1 public_front.
    leaves_next (Fronts sized_bytes on1) Ends (require (λ auth. bytes_eq (without_zeros auth) auth) RC_SIZE (sized_within 32 on1)) _
    (auth_fronts on1 public_front.1) (λ auth on2 auth_front.
    leaves_next (Fronts sized_bytes on2) Ends (sized_exactly 32 on2) _
    (exactly_fronts 32 on2 auth_front.1) (λ seed on3 seed_front.
    leaves_next (Fronts sized_bytes on3) Ends (sized_within 128 on3) _
    (within_fronts 128 on3 seed_front.1) (λ secret on4 secret_front.
    leaves_next (Fronts sized_bytes on4) Ends (sized_exactly 34 on4) _
    (exactly_fronts 34 on4 secret_front.1) (λ name rest name_front. (
      then_front bytes (sized_bytes (public_bytes public)) on1 _ public_front.0
          (then_front on1 (sized_bytes auth) on2 _ auth_front.0
          (then_front on2 (sized_bytes seed) on3 _ seed_front.0
          (then_front on3 (sized_bytes secret) on4 _ secret_front.0 name_front.0)))
          ∙ sym (object_parts (sized_bytes (public_bytes public)) (sized_bytes auth) (sized_bytes seed) (sized_bytes secret)
          (sized_bytes name) rest),
      name_front.1,
    ))))))

pub object_spelling : (bytes : List ℕ) (o : Object) (rest : List ℕ) → AreBytes bytes → object_of bytes ≡ Ok (o, rest)
    → bytes ≡ object_bytes o ++ rest
object_spelling bytes o rest all is =
    (left_so (Fronts object_bytes bytes) (object_of bytes) o rest (object_fronts bytes all) is).0

-- ---- how many bytes are read of an object

-- no more than so many bytes are read, whatever they are
abbrev pub Takes : {X : Type 0} → ℕ → List ℕ → X → List ℕ → Type 0
Takes most bytes read rest = length bytes ≤ most + length rest

pub fixed_bytes_take : (size lacking : ℕ) (bytes : List ℕ)
    → Leaves (λ read rest. (length read ≡ size) × (length bytes ≤ size + length rest)) (fixed_bytes size lacking bytes)
fixed_bytes_take size lacking bytes =
    let Cut : List ℕ → List ℕ → Type 0 = λ read rest. (length read ≡ size) × (length bytes ≤ size + length rest) in
    cond_both (nat_lt (length bytes) size) (Err lacking) (Ok (take size bytes, drop size bytes)) (Leaves Cut)
    (λ short. tt)
    (λ enough. (
      omega (arith, length-take size bytes, ltb-false (length bytes) size enough),
      omega (arith, length-drop size bytes, ltb-false (length bytes) size enough),
    ))

number16_takes : (lacking : ℕ) (bytes : List ℕ) → Leaves (Takes 2 bytes) (number16 lacking bytes)
number16_takes lacking bytes =
    leaves_next (λ read rest. (length read ≡ 2) × (length bytes ≤ 2 + length rest)) (Takes 2 bytes) (fixed_bytes 2 lacking bytes) _
    (fixed_bytes_take 2 lacking bytes) (λ read rest cut. cut.1)

pub number32_takes : (lacking : ℕ) (bytes : List ℕ) → Leaves (Takes 4 bytes) (number32 lacking bytes)
number32_takes lacking bytes =
    leaves_next (λ read rest. (length read ≡ 4) × (length bytes ≤ 4 + length rest)) (Takes 4 bytes) (fixed_bytes 4 lacking bytes) _
    (fixed_bytes_take 4 lacking bytes) (λ read rest cut. cut.1)

-- a TPM2B is its size and what is read
abbrev pub TakesSized : List ℕ → List ℕ → List ℕ → Type 0
TakesSized bytes read rest = length bytes ≤ 2 + length read + length rest

pub sized_takes : (lacking : ℕ) (bytes : List ℕ) → Leaves (TakesSized bytes) (sized lacking bytes)
sized_takes lacking bytes =
    leaves_next (Takes 2 bytes) (TakesSized bytes) (number16 lacking bytes) _ (number16_takes lacking bytes) (λ size on number.
    leaves_weaker (λ read rest. (length read ≡ size) × (length on ≤ size + length rest)) (TakesSized bytes) (fixed_bytes size lacking on)
    (λ read rest cut. let here = cut.0 in let behind = cut.1 in omega arith)
    (fixed_bytes_take size lacking on))

words_take : (ws bytes : List ℕ) → Leaves (Takes (length (word_bytes ws)) bytes) (words ws bytes)
words_take [] bytes = omega arith
words_take (word ∷ ws) bytes =
    leaves_where (Takes 2 bytes) (Takes (length (word_bytes (word ∷ ws))) bytes) (λ read. read == word) RC_VALUE
    (number16 RC_SIZE bytes) _ (number16_takes RC_SIZE bytes) (λ read on number is.
    leaves_weaker (Takes (length (word_bytes ws)) on) (Takes (length (word_bytes (word ∷ ws))) bytes) (words ws on)
    (λ none rest more. omega (arith, length-append (to_be_bytes w16 word) (word_bytes ws)))
    (words_take ws on))

public_takes : (bytes : List ℕ) → Leaves (Takes 82 bytes) (public_of bytes)
public_takes bytes =
    let Ends = Takes 82 bytes in
    leaves_where (Takes 2 bytes) Ends is_form RC_TYPE (number16 RC_SIZE bytes) _
    (number16_takes RC_SIZE bytes) (λ form on1 form_takes form_known.
    leaves_where (Takes 2 on1) Ends (λ hash. hash == ALG_SHA256) RC_HASH (number16 RC_SIZE on1) _
    (number16_takes RC_SIZE on1) (λ hash on2 hash_takes hash_is.
    leaves_where (Takes 4 on2) Ends (are_attributes form) RC_ATTRIBUTES (number32 RC_SIZE on2) _
    (number32_takes RC_SIZE on2) (λ attributes on3 attributes_take agree.
    leaves_where (TakesSized on3) Ends is_policy RC_SIZE (sized RC_SIZE on3) _
    (sized_takes RC_SIZE on3) (λ policy on4 policy_takes known.
    leaves_next (Takes (length (word_bytes (parameter_words form attributes))) on4) Ends (words (parameter_words form attributes) on4) _
    (words_take (parameter_words form attributes) on4) (λ read on5 words_taken.
    leaves_where (TakesSized on5) Ends (λ unique. nat_le (length unique) 32) RC_SIZE (sized RC_SIZE on5) _
    (sized_takes RC_SIZE on5) (λ unique rest unique_takes short.
    omega (arith, policy_short policy known, words_few form attributes, leb-true (length unique) 32 short)))))))

-- what passed a test
leaves_passed : {X : Type 0} (P Q : X → List ℕ → Type 0) (test : X → Bool) (code : ℕ) (r : Reading X)
    → ((x : X) (rest : List ℕ) → P x rest → test x ≡ true → Q x rest) → Leaves P r → Leaves Q (require test code r)
leaves_passed P Q test code (Err fault) passed leaves = tt
leaves_passed P Q test code (Ok read) passed leaves =
    cond_both (test read.0) (Ok read) (Err code) (Leaves Q) (λ passes. passed read.0 read.1 leaves passes) (λ fails. tt)

within_takes : (most : ℕ) (bytes : List ℕ) → Leaves (Takes (2 + most) bytes) (sized_within most bytes)
within_takes most bytes =
    leaves_passed (TakesSized bytes) (Takes (2 + most) bytes) (λ read. nat_le (length read) most) RC_SIZE (sized RC_SIZE bytes)
    (λ read rest takes passes. omega (arith, leb-true (length read) most passes)) (sized_takes RC_SIZE bytes)

exactly_takes : (size : ℕ) (bytes : List ℕ) → Leaves (Takes (2 + size) bytes) (sized_exactly size bytes)
exactly_takes size bytes =
    leaves_passed (TakesSized bytes) (Takes (2 + size) bytes) (λ read. length read == size) RC_SIZE (sized RC_SIZE bytes)
    (λ read rest takes passes. omega (arith, eqb-true (length read) size passes)) (sized_takes RC_SIZE bytes)

-- a structure that fills a TPM2B takes as many bytes as it can take
filling_takes : {X : Type 0} (most : ℕ) (inside rest : List ℕ) (r : Reading X) → Leaves (Takes most inside) r
    → Leaves (λ x left. (length inside ≤ most) × (left ≡ rest)) (filling rest r)
filling_takes most inside rest (Err code) leaves = tt
filling_takes {X} most inside rest (Ok read) leaves =
    let Whole : X → List ℕ → Type 0 = λ x left. (length inside ≤ most) × (left ≡ rest) in
    cond_both (length read.1 == 0) (Ok (read.0, rest)) (Err RC_SIZE) (Leaves Whole)
    (λ whole. (omega (arith, eqb-true (length read.1) 0 whole), refl)) (λ more. tt)

area_takes : (bytes : List ℕ) → Leaves (Takes 84 bytes) (enclosed public_of RC_SIZE bytes)
area_takes bytes =
    leaves_next (TakesSized bytes) (Takes 84 bytes) (sized RC_SIZE bytes) (λ inside rest. filling rest (public_of inside))
    (sized_takes RC_SIZE bytes) (λ inside rest takes.
    leaves_weaker (λ p left. (length inside ≤ 82) × (left ≡ rest)) (Takes 84 bytes) (filling rest (public_of inside))
    (λ p left whole. let few = whole.0 in omega (arith, ap length whole.1))
    (filling_takes 82 inside rest (public_of inside) (public_takes inside)))

object_takes : (bytes : List ℕ) → Leaves (Takes 318 bytes) (object_of bytes)
object_takes bytes =
    let Ends = Takes 318 bytes in
    leaves_next (Takes 84 bytes) Ends (enclosed public_of RC_SIZE bytes) _ (area_takes bytes) (λ public on1 public_taken.
    leaves_where (Takes 34 on1) Ends (λ auth. bytes_eq (without_zeros auth) auth) RC_SIZE (sized_within 32 on1) _
    (within_takes 32 on1) (λ auth on2 auth_takes bare.
    leaves_next (Takes 34 on2) Ends (sized_exactly 32 on2) _ (exactly_takes 32 on2) (λ seed on3 seed_takes.
    leaves_next (Takes 130 on3) Ends (sized_within 128 on3) _ (within_takes 128 on3) (λ secret on4 secret_takes.
    leaves_next (Takes 36 on4) Ends (sized_exactly 34 on4) _ (exactly_takes 34 on4) (λ name rest name_takes. omega arith)))))

pub object_short : (bytes : List ℕ) (o : Object) → object_of bytes ≡ Ok (o, []) → length bytes ≤ 318
object_short bytes o is =
    let takes : length bytes ≤ 318 + 0 = left_so (Takes 318 bytes) (object_of bytes) o [] (object_takes bytes) is in omega arith
