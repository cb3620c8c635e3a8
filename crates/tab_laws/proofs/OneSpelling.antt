-- What is read of bytes is what stood in front of the rest: a value has one spelling.
use Rattle.std.proofs.Common.{◌≡◌, ℕ, zero, suc, ◌<◌, Bool, true, false, List, [], ◌∷◌, ◌++◌, length, take, drop, Some, None, Ok, Err, refl, ap, subst, sym, ◌∙◌, append_assoc, arith, length-take}
use Rattle.std.specs.Prelude.{nat_lt, nat_le, ◌==◌}
use Rattle.std.specs.Int.{w8, w16, w32, w64, to_be_bytes, from_be_bytes}
use Rattle.std.proofs.Math.ListN.{get_or}
use Rattle.std.proofs.lemmas.Bool.{ltb-false, eqb-true, cond_both}
use Rattle.std.proofs.lemmas.Bool.Decides.{nat_tests}
use Rattle.std.proofs.lemmas.List.{take-append-drop}
use Rattle.std.proofs.lemmas.Nat.{be_bytes_2, be_bytes_4, be_bytes_8}
use Rattle.tab_spec.specs.declared.TheConstants.{ALG_SHA256, HT_NV_INDEX, RC_TYPE, RC_HASH, RC_ATTRIBUTES, RC_VALUE, RC_SIZE, RC_INSUFFICIENT}
use Rattle.tab_spec.specs.Shape.{octet_of}
use Rattle.tab_spec.specs.Values.{AreBytes, Reading, then_read, require, fixed_bytes, number8, number16, number32, number64, sized, words, sized_bytes, word_bytes, is_form, are_attributes, parameter_words, is_policy, Public, public_of, public_bytes, are_nv_attributes, is_nv_size, NvPublic, nv_public_of, nv_public_bytes, PcrSelection, selection_with, selection_of, selection_bytes}
use Rattle.tab_laws.proofs.ReadBack.{public_parts, nv_parts}

-- ---- bytes

pub bytes_front : (a b : List ℕ) → AreBytes (a ++ b) → AreBytes a
bytes_front [] b all = tt
bytes_front (x ∷ a) b all = (all.0, bytes_front a b all.1)

pub bytes_back : (a b : List ℕ) → AreBytes (a ++ b) → AreBytes b
bytes_back [] b all = all
bytes_back (x ∷ a) b all = bytes_back a b all.1

pub byte_at : (bytes : List ℕ) → AreBytes bytes → (i : ℕ) → get_or bytes i 0 < 256
byte_at [] all i = omega arith
byte_at (x ∷ bytes) all zero = all.0
byte_at (x ∷ bytes) all (suc i) = byte_at bytes all.1 i

-- ---- what a reader leaves

-- what was read and what is left, where there was no fault, are so
abbrev pub Leaves : {X : Type 0} → (X → List ℕ → Type 0) → Reading X → Type 0
Leaves P (Err code) = Unit
Leaves P (Ok read) = P read.0 read.1

-- what was read is what stood in front of the rest, which is bytes again
abbrev pub Fronts : {X : Type 0} → (X → List ℕ) → List ℕ → X → List ℕ → Type 0
Fronts write bytes read rest = (bytes ≡ write read ++ rest) × AreBytes rest

pub left_so : {X : Type 0} (P : X → List ℕ → Type 0) (r : Reading X) (x : X) (rest : List ℕ) → Leaves P r → r ≡ Ok (x, rest) → P x rest
left_so P r x rest leaves is = subst (Leaves P) is leaves

pub leaves_next : {X Y : Type 0} (P : X → List ℕ → Type 0) (Q : Y → List ℕ → Type 0) (r : Reading X) (next : X → List ℕ → Reading Y)
    → Leaves P r → ((x : X) (rest : List ℕ) → P x rest → Leaves Q (next x rest)) → Leaves Q (then_read r next)
leaves_next P Q (Err code) next leaves then_leaves = tt
leaves_next P Q (Ok read) next leaves then_leaves = then_leaves read.0 read.1 leaves

-- it knows that what was read before passed its test
pub leaves_where : {X Y : Type 0} (P : X → List ℕ → Type 0) (Q : Y → List ℕ → Type 0) (test : X → Bool) (code : ℕ) (r : Reading X)
    (next : X → List ℕ → Reading Y) → Leaves P r
    → ((x : X) (rest : List ℕ) → P x rest → test x ≡ true → Leaves Q (next x rest)) → Leaves Q (then_read (require test code r) next)
leaves_where P Q test code (Err fault) next leaves then_leaves = tt
leaves_where P Q test code (Ok read) next leaves then_leaves =
    cond_both (test read.0) (Ok read) (Err code) (λ r. Leaves Q (then_read r next))
    (λ passes. then_leaves read.0 read.1 leaves passes) (λ fails. tt)

pub leaves_weaker : {X : Type 0} (P Q : X → List ℕ → Type 0) (r : Reading X) → ((x : X) (rest : List ℕ) → P x rest → Q x rest)
    → Leaves P r → Leaves Q r
leaves_weaker P Q (Err code) weaker leaves = tt
leaves_weaker P Q (Ok read) weaker leaves = weaker read.0 read.1 leaves

-- a front stays where what follows it is written in another way
pub then_front : (bytes front on more : List ℕ) → bytes ≡ front ++ on → on ≡ more → bytes ≡ front ++ more
then_front bytes front on more is goes_on = is ∙ ap (λ after. front ++ after) goes_on

-- ---- one reader each

-- so many bytes, as they stood in front
abbrev pub Cut : ℕ → List ℕ → List ℕ → List ℕ → Type 0
Cut size bytes read rest = (bytes ≡ read ++ rest) × ((length read ≡ size) × (AreBytes read × AreBytes rest))

pub fixed_bytes_cut : (size lacking : ℕ) (bytes : List ℕ) → AreBytes bytes → Leaves (Cut size bytes) (fixed_bytes size lacking bytes)
fixed_bytes_cut size lacking bytes all =
    let cut : take size bytes ++ drop size bytes ≡ bytes = take-append-drop size bytes in
    let parts : AreBytes (take size bytes ++ drop size bytes) = subst AreBytes (sym cut) all in
    cond_both (nat_lt (length bytes) size) (Err lacking) (Ok (take size bytes, drop size bytes)) (Leaves (Cut size bytes))
    (λ short. tt)
    (λ enough. (
      sym cut,
      (
        omega (arith, length-take size bytes, ltb-false (length bytes) size enough),
        (bytes_front (take size bytes) (drop size bytes) parts, bytes_back (take size bytes) (drop size bytes) parts),
      ),
    ))

one_byte : (read : List ℕ) → length read ≡ 1 → read ≡ from_be_bytes w8 read ∷ []
one_byte [] is = absurd (omega arith)
one_byte (x ∷ []) is = refl
one_byte (x ∷ (y ∷ more)) is = absurd (omega arith)

pub number8_fronts : (lacking : ℕ) (bytes : List ℕ) → AreBytes bytes → Leaves (Fronts (λ n. n ∷ []) bytes) (number8 lacking bytes)
number8_fronts lacking bytes all =
    leaves_next (Cut 1 bytes) (Fronts (λ n. n ∷ []) bytes) (fixed_bytes 1 lacking bytes) _ (fixed_bytes_cut 1 lacking bytes all) (λ read rest cut.
    (cut.0 ∙ ap (λ front. front ++ rest) (one_byte read cut.1.0), cut.1.1.1))

number16_fronts : (lacking : ℕ) (bytes : List ℕ) → AreBytes bytes → Leaves (Fronts (to_be_bytes w16) bytes) (number16 lacking bytes)
number16_fronts lacking bytes all =
    leaves_next (Cut 2 bytes) (Fronts (to_be_bytes w16) bytes) (fixed_bytes 2 lacking bytes) _ (fixed_bytes_cut 2 lacking bytes all) (λ read rest cut.
    let back : to_be_bytes w16 (from_be_bytes w16 read) ≡ read =
    be_bytes_2 read (from_be_bytes w16 read) cut.1.0 (byte_at read cut.1.1.0) refl in
    (cut.0 ∙ ap (λ front. front ++ rest) (sym back), cut.1.1.1))

pub number32_fronts : (lacking : ℕ) (bytes : List ℕ) → AreBytes bytes → Leaves (Fronts (to_be_bytes w32) bytes) (number32 lacking bytes)
number32_fronts lacking bytes all =
    leaves_next (Cut 4 bytes) (Fronts (to_be_bytes w32) bytes) (fixed_bytes 4 lacking bytes) _ (fixed_bytes_cut 4 lacking bytes all) (λ read rest cut.
    let back : to_be_bytes w32 (from_be_bytes w32 read) ≡ read =
    be_bytes_4 read (from_be_bytes w32 read) cut.1.0 (byte_at read cut.1.1.0) refl in
    (cut.0 ∙ ap (λ front. front ++ rest) (sym back), cut.1.1.1))

pub number64_fronts : (lacking : ℕ) (bytes : List ℕ) → AreBytes bytes → Leaves (Fronts (to_be_bytes w64) bytes) (number64 lacking bytes)
number64_fronts lacking bytes all =
    leaves_next (Cut 8 bytes) (Fronts (to_be_bytes w64) bytes) (fixed_bytes 8 lacking bytes) _ (fixed_bytes_cut 8 lacking bytes all) (λ read rest cut.
    let back : to_be_bytes w64 (from_be_bytes w64 read) ≡ read =
    be_bytes_8 read (from_be_bytes w64 read) cut.1.0 (byte_at read cut.1.1.0) refl in
    (cut.0 ∙ ap (λ front. front ++ rest) (sym back), cut.1.1.1))

-- the number in front is another that equals it
number16_is : (bytes on : List ℕ) (n is : ℕ) → bytes ≡ to_be_bytes w16 n ++ on → n ≡ is → bytes ≡ to_be_bytes w16 is ++ on
number16_is bytes on n is front same = front ∙ ap (λ n. to_be_bytes w16 n ++ on) same

number32_is : (bytes on : List ℕ) (n is : ℕ) → bytes ≡ to_be_bytes w32 n ++ on → n ≡ is → bytes ≡ to_be_bytes w32 is ++ on
number32_is bytes on n is front same = front ∙ ap (λ n. to_be_bytes w32 n ++ on) same

pub sized_fronts : (lacking : ℕ) (bytes : List ℕ) → AreBytes bytes → Leaves (Fronts sized_bytes bytes) (sized lacking bytes)
sized_fronts lacking bytes all =
    leaves_next (Fronts (to_be_bytes w16) bytes) (Fronts sized_bytes bytes) (number16 lacking bytes) _ (number16_fronts lacking bytes all)
    (λ size on number.
    leaves_weaker (Cut size on) (Fronts sized_bytes bytes) (fixed_bytes size lacking on)
    (λ read rest cut.
    let size_is = number16_is bytes on size (length read) number.0 (sym cut.1.0) in (
      then_front bytes (to_be_bytes w16 (length read)) on (read ++ rest) size_is cut.0
          ∙ sym (append_assoc (to_be_bytes w16 (length read)) read rest),
      cut.1.1.1,
    ))
    (fixed_bytes_cut size lacking on number.1))

words_fronts : (ws bytes : List ℕ) → AreBytes bytes → Leaves (Fronts (λ read. word_bytes ws) bytes) (words ws bytes)
words_fronts [] bytes all = (refl, all)
words_fronts (word ∷ ws) bytes all =
    leaves_where (Fronts (to_be_bytes w16) bytes) (Fronts (λ read. word_bytes (word ∷ ws)) bytes) (λ read. read == word) RC_VALUE
    (number16 RC_SIZE bytes) _ (number16_fronts RC_SIZE bytes all) (λ read on number is.
    leaves_weaker (Fronts (λ read. word_bytes ws) on) (Fronts (λ read. word_bytes (word ∷ ws)) bytes) (words ws on)
    (λ none rest more.
    let word_is = number16_is bytes on read word number.0 (eqb-true read word is) in (
      then_front bytes (to_be_bytes w16 word) on (word_bytes ws ++ rest) word_is more.0
          ∙ sym (append_assoc (to_be_bytes w16 word) (word_bytes ws) rest),
      more.1,
    ))
    (words_fronts ws on number.1))

-- ---- a selection of PCRs has one spelling

is_one : (count : ℕ) → nat_le count 1 ≡ true → (count == 0) ≡ false → count ≡ 1
is_one count small some = grind (arith, nat_tests)

selection_fronts_with : (bytes : List ℕ) (count : ℕ) (on : List ℕ) → Fronts (to_be_bytes w32) bytes count on → nat_le count 1 ≡ true
    → Leaves (Fronts selection_bytes bytes) (selection_with count on)
selection_fronts_with bytes count on number small =
    let others =
    then_read (require (λ hash. hash == ALG_SHA256) RC_HASH (number16 RC_INSUFFICIENT on)) (λ hash rest.
    then_read (require (λ size. size == 3) RC_VALUE (number8 RC_INSUFFICIENT rest)) (λ size rest.
    then_read (fixed_bytes 3 RC_INSUFFICIENT rest) (λ bits rest. Ok (record { bits = Some bits }, rest)))) in
    cond_both (count == 0) (Ok (record { bits = None }, on)) others (Leaves (Fronts selection_bytes bytes))
    (λ none. (number32_is bytes on count 0 number.0 (eqb-true count 0 none), number.1))
    (λ some.
    leaves_where (Fronts (to_be_bytes w16) on) (Fronts selection_bytes bytes) (λ hash. hash == ALG_SHA256) RC_HASH
    (number16 RC_INSUFFICIENT on) _ (number16_fronts RC_INSUFFICIENT on number.1) (λ hash on2 hash_front hash_is.
    leaves_where (Fronts (λ n. n ∷ []) on2) (Fronts selection_bytes bytes) (λ size. size == 3) RC_VALUE
    (number8 RC_INSUFFICIENT on2) _ (number8_fronts RC_INSUFFICIENT on2 hash_front.1) (λ size on3 size_front size_is.
    leaves_next (Cut 3 on3) (Fronts selection_bytes bytes) (fixed_bytes 3 RC_INSUFFICIENT on3) _
    (fixed_bytes_cut 3 RC_INSUFFICIENT on3 size_front.1) (λ bits rest cut.
    let count_one = number32_is bytes on count 1 number.0 (is_one count small some) in
    let hash_known = number16_is on on2 hash ALG_SHA256 hash_front.0 (eqb-true hash ALG_SHA256 hash_is) in
    let size_three : on2 ≡ 3 ∷ on3 = size_front.0 ∙ ap (λ n. n ∷ on3) (eqb-true size 3 size_is) in (
      then_front bytes (to_be_bytes w32 1) on (to_be_bytes w16 ALG_SHA256 ++ (3 ∷ (bits ++ rest))) count_one
          (then_front on (to_be_bytes w16 ALG_SHA256) on2 (3 ∷ (bits ++ rest)) hash_known (size_three ∙ ap (λ t. 3 ∷ t) cut.0)),
      cut.1.1.1,
    )))))

selection_fronts : (bytes : List ℕ) → AreBytes bytes → Leaves (Fronts selection_bytes bytes) (selection_of bytes)
selection_fronts bytes all =
    leaves_where (Fronts (to_be_bytes w32) bytes) (Fronts selection_bytes bytes) (λ count. nat_le count 1) RC_SIZE
    (number32 RC_INSUFFICIENT bytes) selection_with (number32_fronts RC_INSUFFICIENT bytes all)
    (λ count on number small. selection_fronts_with bytes count on number small)

pub selection_spelling : (bytes : List ℕ) (s : PcrSelection) (rest : List ℕ) → AreBytes bytes → selection_of bytes ≡ Ok (s, rest)
    → bytes ≡ selection_bytes s ++ rest
selection_spelling bytes s rest all is =
    (left_so (Fronts selection_bytes bytes) (selection_of bytes) s rest (selection_fronts bytes all) is).0

-- ---- the public area of an NV index has one spelling

nv_public_fronts : (bytes : List ℕ) → AreBytes bytes → Leaves (Fronts nv_public_bytes bytes) (nv_public_of bytes)
nv_public_fronts bytes all =
    let Ends = Fronts nv_public_bytes bytes in
    leaves_where (Fronts (to_be_bytes w32) bytes) Ends (λ index. octet_of index == HT_NV_INDEX) RC_VALUE (number32 RC_SIZE bytes) _
    (number32_fronts RC_SIZE bytes all) (λ index on1 index_front index_is.
    leaves_where (Fronts (to_be_bytes w16) on1) Ends (λ hash. hash == ALG_SHA256) RC_HASH (number16 RC_SIZE on1) _
    (number16_fronts RC_SIZE on1 index_front.1) (λ hash on2 hash_front hash_is.
    leaves_where (Fronts (to_be_bytes w32) on2) Ends are_nv_attributes RC_ATTRIBUTES (number32 RC_SIZE on2) _
    (number32_fronts RC_SIZE on2 hash_front.1) (λ attributes on3 attributes_front agree.
    leaves_where (Fronts sized_bytes on3) Ends is_policy RC_SIZE (sized RC_SIZE on3) _
    (sized_fronts RC_SIZE on3 attributes_front.1) (λ policy on4 policy_front known.
    leaves_where (Fronts (to_be_bytes w16) on4) Ends (is_nv_size attributes) RC_SIZE (number16 RC_SIZE on4) _
    (number16_fronts RC_SIZE on4 policy_front.1) (λ size rest size_front allowed.
    let hash_known = number16_is on1 on2 hash ALG_SHA256 hash_front.0 (eqb-true hash ALG_SHA256 hash_is) in (
      then_front bytes (to_be_bytes w32 index) on1 _ index_front.0
          (then_front on1 (to_be_bytes w16 ALG_SHA256) on2 _ hash_known
          (then_front on2 (to_be_bytes w32 attributes) on3 _ attributes_front.0
          (then_front on3 (sized_bytes policy) on4 _ policy_front.0 size_front.0)))
          ∙ sym (nv_parts (to_be_bytes w32 index) (to_be_bytes w16 ALG_SHA256) (to_be_bytes w32 attributes) (sized_bytes policy)
          (to_be_bytes w16 size) rest),
      size_front.1,
    ))))))

pub nv_public_spelling : (bytes : List ℕ) (p : NvPublic) (rest : List ℕ) → AreBytes bytes → nv_public_of bytes ≡ Ok (p, rest)
    → bytes ≡ nv_public_bytes p ++ rest
nv_public_spelling bytes p rest all is =
    (left_so (Fronts nv_public_bytes bytes) (nv_public_of bytes) p rest (nv_public_fronts bytes all) is).0

-- ---- a public area has one spelling

pub public_fronts : (bytes : List ℕ) → AreBytes bytes → Leaves (Fronts public_bytes bytes) (public_of bytes)
public_fronts bytes all =
    let Ends = Fronts public_bytes bytes in
    leaves_where (Fronts (to_be_bytes w16) bytes) Ends is_form RC_TYPE (number16 RC_SIZE bytes) _
    (number16_fronts RC_SIZE bytes all) (λ form on1 form_front form_known.
    leaves_where (Fronts (to_be_bytes w16) on1) Ends (λ hash. hash == ALG_SHA256) RC_HASH (number16 RC_SIZE on1) _
    (number16_fronts RC_SIZE on1 form_front.1) (λ hash on2 hash_front hash_is.
    leaves_where (Fronts (to_be_bytes w32) on2) Ends (are_attributes form) RC_ATTRIBUTES (number32 RC_SIZE on2) _
    (number32_fronts RC_SIZE on2 hash_front.1) (λ attributes on3 attributes_front agree.
    leaves_where (Fronts sized_bytes on3) Ends is_policy RC_SIZE (sized RC_SIZE on3) _
    (sized_fronts RC_SIZE on3 attributes_front.1) (λ policy on4 policy_front known.
    leaves_next (Fronts (λ read. word_bytes (parameter_words form attributes)) on4) Ends (words (parameter_words form attributes) on4) _
    (words_fronts (parameter_words form attributes) on4 policy_front.1) (λ read on5 words_front.
    leaves_where (Fronts sized_bytes on5) Ends (λ unique. nat_le (length unique) 32) RC_SIZE (sized RC_SIZE on5) _
    (sized_fronts RC_SIZE on5 words_front.1) (λ unique rest unique_front short.
    let hash_known = number16_is on1 on2 hash ALG_SHA256 hash_front.0 (eqb-true hash ALG_SHA256 hash_is) in (
      then_front bytes (to_be_bytes w16 form) on1 _ form_front.0
          (then_front on1 (to_be_bytes w16 ALG_SHA256) on2 _ hash_known
          (then_front on2 (to_be_bytes w32 attributes) on3 _ attributes_front.0
          (then_front on3 (sized_bytes policy) on4 _ policy_front.0
          (then_front on4 (word_bytes (parameter_words form attributes)) on5 _ words_front.0 unique_front.0))))
          ∙ sym (public_parts (to_be_bytes w16 form) (to_be_bytes w16 ALG_SHA256) (to_be_bytes w32 attributes) (sized_bytes policy)
          (word_bytes (parameter_words form attributes)) (sized_bytes unique) rest),
      unique_front.1,
    )))))))

pub public_spelling : (bytes : List ℕ) (p : Public) (rest : List ℕ) → AreBytes bytes → public_of bytes ≡ Ok (p, rest)
    → bytes ≡ public_bytes p ++ rest
public_spelling bytes p rest all is =
    (left_so (Fronts public_bytes bytes) (public_of bytes) p rest (public_fronts bytes all) is).0
