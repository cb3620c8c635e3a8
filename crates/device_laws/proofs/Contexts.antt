-- What is encrypted twice is as it was, so that an object's context is opened as the object. What is opened is an object, and no other
-- bytes are opened as it than those with the right integrity value.
use Rattle.std.proofs.Common.{◌≡◌, ℕ, zero, suc, ◌^◌, ◌<◌, ◌≤◌, ◌+◌, ◌*◌, ◌/◌, List, [], ◌∷◌, ◌++◌, length, take, drop, Option, Some, None, Ok, Err, refl, ap, subst, sym, ◌∙◌, append_assoc, arith, length-append, length-take}
use Rattle.std.specs.Prelude.{◌==◌, ◌%◌, IfSome, bytes_eq, slice_index}
use Rattle.std.specs.Int.{w16, w32, w64, byte_at, bytes_high_first, to_be_bytes}
use Rattle.std.specs.Int.Bits.{bit_xor, xor_assoc, xor_self, xor_zero_r}
use Rattle.std.proofs.lemmas.Bool.{cond_both, eqb-true}
use Rattle.std.proofs.lemmas.List.{append-nil, take-append-drop}
use Rattle.std.proofs.lemmas.Nat.{from_be_bytes-to_be_bytes_8, xor_of_8}
use Rattle.std.proofs.lemmas.Option.{IfSome_then}
use Rattle.std.proofs.lemmas.Slice.Eq.{bytes_eq-Decides}
use Rattle.sha2.specs.Sha256.{initial_hash_256, final_hash, digest_bytes, sha256}
use Rattle.sha2.proofs.Facts256.{length-sha256}
use Rattle.tab_spec.specs.declared.TheConstants.{RC_SIZE, RC_INSUFFICIENT, RH_OWNER, TRANSIENT_FIRST}
use Rattle.tab_spec.specs.Hash.{kdfa_block, kdfa_blocks, kdfa, xor_bytes, masked}
use Rattle.tab_spec.specs.Values.{AreBytes, Reading, number32, number64, sized, sized_bytes}
use Rattle.tab_spec.specs.Object.{Object, object_bytes, object_of, IsObject}
use Rattle.effect_spec.specs.Contexts.{Context, context_head, context_of, context_encrypted, context_integrity, context_bytes, revealed, opened_by, opened_context, object_context, whole_object, object_within, opened_object}
use Rattle.tab_laws.proofs.ReadBack.{fixed_bytes_again, number32_again, sized_again}
use Rattle.tab_laws.proofs.OneSpelling.{bytes_front, bytes_back, Leaves, Fronts, leaves_next, then_front, number32_fronts, number64_fronts, sized_fronts}
use Rattle.tab_laws.proofs.Objects.{length-sized, object_small, object_again, object_read, nothing_behind, object_spelling}

-- ---- what is encrypted twice is as it was

blocks_length : (key label u v : List ℕ) (bits number count : ℕ) → length (kdfa_blocks key label u v bits number count) ≡ 32 * count
unfolding kdfa_blocks
blocks_length key label u v bits number zero = refl
blocks_length key label u v bits number (suc more) =
    let block = kdfa_block key label u v bits number in
    let rest = kdfa_blocks key label u v bits (number + 1) more in
    let first : length block ≡ 32 = length-sha256 _ in
    omega (arith, length-append block rest, blocks_length key label u v bits (number + 1) more)

kdfa_length : (key label u v : List ℕ) (count : ℕ) → length (kdfa key label u v count) ≡ count
kdfa_length key label u v count =
    let blocks = kdfa_blocks key label u v (8 * count) 1 ((count + 31) / 32) in
    omega (arith, length-take count blocks, blocks_length key label u v (8 * count) 1 ((count + 31) / 32))

xor_twice : (a m : ℕ) → bit_xor (bit_xor a m) m ≡ a
xor_twice a m = xor_assoc a m m ∙ ap (bit_xor a) (xor_self m) ∙ xor_zero_r a

xor_bytes_length : (a m : List ℕ) → length m ≡ length a → length (xor_bytes a m) ≡ length a
xor_bytes_length [] m same = refl
xor_bytes_length (x ∷ a) [] same = absurd (omega arith)
xor_bytes_length (x ∷ a) (y ∷ m) same = ap suc (xor_bytes_length a m (omega arith))

xor_bytes_twice : (a m : List ℕ) → length m ≡ length a → xor_bytes (xor_bytes a m) m ≡ a
xor_bytes_twice [] m same = refl
xor_bytes_twice (x ∷ a) [] same = absurd (omega arith)
xor_bytes_twice (x ∷ a) (y ∷ m) same =
    ap (λ z. z ∷ xor_bytes (xor_bytes a m) m) (xor_twice x y) ∙ ap (λ z. x ∷ z) (xor_bytes_twice a m (omega arith))

pub masked_length : (key label u v bytes : List ℕ) → length (masked key label u v bytes) ≡ length bytes
masked_length key label u v bytes = xor_bytes_length bytes (kdfa key label u v (length bytes)) (kdfa_length key label u v (length bytes))

pub masked_twice : (key label u v bytes : List ℕ) → masked key label u v (masked key label u v bytes) ≡ bytes
masked_twice key label u v bytes =
    let mask = kdfa key label u v (length bytes) in
    ap (λ n. xor_bytes (masked key label u v bytes) (kdfa key label u v n)) (masked_length key label u v bytes)
    ∙ xor_bytes_twice bytes mask (kdfa_length key label u v (length bytes))

-- ---- a context is read again

number64_again : (lacking n : ℕ) (more : List ℕ) → n < 2 ^ 64 → number64 lacking (to_be_bytes w64 n ++ more) ≡ Ok (n, more)
number64_again lacking n more fits = rw (fixed_bytes_again 8 lacking (to_be_bytes w64 n) more refl, from_be_bytes-to_be_bytes_8 n fits) refl

head_parts : (a b c d : List ℕ) → a ++ b ++ c ++ d ≡ a ++ (b ++ (c ++ d))
head_parts a b c d = simp append_assoc

pub context_again : (c : Context) → c.sequence < 2 ^ 64 → c.saved_handle < 2 ^ 32 → c.hierarchy < 2 ^ 32 → length c.blob < 2 ^ 16
    → context_of (context_head c.sequence c.saved_handle c.hierarchy ++ sized_bytes c.blob) ≡ Ok (c, [])
context_again c sequence_fits handle_fits hierarchy_fits blob_fits =
    let hierarchy_on = to_be_bytes w32 c.hierarchy ++ sized_bytes c.blob in
    let handle_on = to_be_bytes w32 c.saved_handle ++ hierarchy_on in
    let blob_read : sized RC_INSUFFICIENT (sized_bytes c.blob) ≡ Ok (c.blob, []) =
    ap (sized RC_INSUFFICIENT) (sym (append-nil (sized_bytes c.blob))) ∙ sized_again RC_INSUFFICIENT c.blob [] blob_fits in
    ap context_of (head_parts (to_be_bytes w64 c.sequence) (to_be_bytes w32 c.saved_handle) (to_be_bytes w32 c.hierarchy) (sized_bytes c.blob))
    ∙ rw (
      number64_again RC_INSUFFICIENT c.sequence handle_on sequence_fits,
      number32_again RC_INSUFFICIENT c.saved_handle hierarchy_on handle_fits,
      number32_again RC_INSUFFICIENT c.hierarchy (sized_bytes c.blob) hierarchy_fits,
      blob_read,
    ) refl

-- the integrity value in front is the right one
revealed_by : (seed : List ℕ) (c : Context) (code bytes : List ℕ) → code ≡ context_integrity seed c.sequence c.saved_handle c.hierarchy bytes
    → revealed seed c (Ok (code, bytes)) ≡ Some (context_encrypted seed c.sequence c.saved_handle bytes)
revealed_by seed c code bytes integrity_value =
    rw ((bytes_eq-Decides code (context_integrity seed c.sequence c.saved_handle c.hierarchy bytes)).1 integrity_value) refl

blob_revealed : (seed : List ℕ) (c : Context) (code bytes : List ℕ) → c.blob ≡ sized_bytes code ++ bytes → length code < 2 ^ 16
    → code ≡ context_integrity seed c.sequence c.saved_handle c.hierarchy bytes
    → revealed seed c (sized RC_SIZE c.blob) ≡ Some (context_encrypted seed c.sequence c.saved_handle bytes)
blob_revealed seed c code bytes blob_is short integrity_value =
    ap (λ blob. revealed seed c (sized RC_SIZE blob)) blob_is ∙ ap (revealed seed c) (sized_again RC_SIZE code bytes short)
    ∙ revealed_by seed c code bytes integrity_value

opened_again : (seed : List ℕ) (c : Context) (code bytes plain : List ℕ)
    → c.sequence < 2 ^ 64 → c.saved_handle < 2 ^ 32 → c.hierarchy < 2 ^ 32 → length plain < 2 ^ 15
    → c.blob ≡ sized_bytes code ++ bytes
    → code ≡ context_integrity seed c.sequence c.saved_handle c.hierarchy bytes
    → bytes ≡ context_encrypted seed c.sequence c.saved_handle plain
    → opened_context seed (context_head c.sequence c.saved_handle c.hierarchy ++ sized_bytes c.blob) ≡ Some plain
opened_again seed c code bytes plain sequence_fits handle_fits hierarchy_fits small blob_is integrity_value encrypted =
    let code_long : length code ≡ 32 = ap length integrity_value ∙ length-sha256 _ in
    let bytes_long : length bytes ≡ length plain = ap length encrypted ∙ masked_length seed _ _ _ plain in
    let blob_fits : length c.blob < 2 ^ 16 = omega (arith, ap length blob_is, length-append (sized_bytes code) bytes, length-sized code) in
    ap (opened_by seed) (context_again c sequence_fits handle_fits hierarchy_fits blob_fits)
    ∙ blob_revealed seed c code bytes blob_is (omega arith) integrity_value
    ∙ ap (λ bytes. Some (context_encrypted seed c.sequence c.saved_handle bytes)) encrypted
    ∙ ap Some (masked_twice seed _ _ _ plain)

pub context_opened : (seed : List ℕ) (sequence saved_handle hierarchy : ℕ) (plain : List ℕ)
    → sequence < 2 ^ 64 → saved_handle < 2 ^ 32 → hierarchy < 2 ^ 32 → length plain < 2 ^ 15
    → opened_context seed (context_bytes seed sequence saved_handle hierarchy plain) ≡ Some plain
context_opened seed sequence saved_handle hierarchy plain sequence_fits handle_fits hierarchy_fits small =
    let bytes = context_encrypted seed sequence saved_handle plain in
    let code = context_integrity seed sequence saved_handle hierarchy bytes in
    let c : Context = record { sequence = sequence; saved_handle = saved_handle; hierarchy = hierarchy; blob = sized_bytes code ++ bytes } in
    opened_again seed c code bytes plain sequence_fits handle_fits hierarchy_fits small refl refl refl

-- ---- how many bytes a context takes

pub context_length : (seed : List ℕ) (sequence saved_handle hierarchy : ℕ) (plain : List ℕ)
    → length (context_bytes seed sequence saved_handle hierarchy plain) ≡ 52 + length plain
context_length seed sequence saved_handle hierarchy plain =
    let bytes = context_encrypted seed sequence saved_handle plain in
    let code = context_integrity seed sequence saved_handle hierarchy bytes in
    let blob = sized_bytes code ++ bytes in
    let code_long : length code ≡ 32 = length-sha256 _ in
    let bytes_long : length bytes ≡ length plain = masked_length seed _ _ _ plain in
    omega (
      arith,
      length-append (context_head sequence saved_handle hierarchy) (sized_bytes blob),
      length-sized blob,
      length-append (sized_bytes code) bytes,
      length-sized code,
    )

-- ---- objects

pub object_context_small : (seed : List ℕ) (sequence : ℕ) (o : Object) → IsObject o → length (object_context seed sequence o) ≤ 370
object_context_small seed sequence o is =
    omega (arith, context_length seed sequence TRANSIENT_FIRST RH_OWNER (object_bytes o), object_small o is)

-- the whole of an object's bytes
object_whole : (o : Object) (plain : List ℕ) → IsObject o → plain ≡ object_bytes o → whole_object (object_of plain) ≡ Some o
object_whole o plain is bytes =
    ap whole_object (ap object_of (bytes ∙ sym (append-nil (object_bytes o))) ∙ object_again o [] is)

pub object_opened : (seed : List ℕ) (sequence : ℕ) (o : Object) → IsObject o → sequence < 2 ^ 64
    → opened_object seed (object_context seed sequence o) ≡ Some o
unfolding opened_object
object_opened seed sequence o is fits =
    let small : length (object_bytes o) < 2 ^ 15 = omega (arith, object_small o is) in
    ap object_within (context_opened seed sequence TRANSIENT_FIRST RH_OWNER (object_bytes o) fits (omega arith) (omega arith) small)
    ∙ object_whole o (object_bytes o) is refl

-- ---- what is opened is an object

whole_is : (plain : List ℕ) (r : Reading Object) → r ≡ object_of plain → IfSome (whole_object r) IsObject
whole_is plain (Err code) is = tt
whole_is plain (Ok read) is =
    cond_both (length read.1 == 0) (Some read.0) None (λ found. IfSome found IsObject)
    (λ whole. object_read plain read.0 read.1 (sym is)) (λ more. tt)

within_is : (plain : Option (List ℕ)) → IfSome (object_within plain) IsObject
within_is None = tt
within_is (Some plain) = whole_is plain (object_of plain) refl

if_found : (P : Object → Type 0) (found : Option Object) (o : Object) → IfSome found P → found ≡ Some o → P o
if_found P found o all is = subst (λ found. IfSome found P) is all

pub opened_is : (seed bytes : List ℕ) (o : Object) → opened_object seed bytes ≡ Some o → IsObject o
unfolding opened_object
opened_is seed bytes o is = if_found IsObject (object_within (opened_context seed bytes)) o (within_is (opened_context seed bytes)) is

-- ---- encrypted bytes are bytes

below_256 : (n : ℕ) → n % 256 < 256
below_256 n = omega arith

byte_small : (i n : ℕ) → byte_at i n < 256
byte_small zero n = below_256 n
byte_small (suc i) n = below_256 (n / 256 ^ suc i)

number_bytes : (count n : ℕ) → AreBytes (bytes_high_first count n)
number_bytes zero n = tt
number_bytes (suc count) n = (byte_small count n, number_bytes count n)

bytes_joined : (a b : List ℕ) → AreBytes a → AreBytes b → AreBytes (a ++ b)
bytes_joined [] b first second = second
bytes_joined (x ∷ a) b first second = (first.0, bytes_joined a b first.1 second)

digest_are_bytes : (h : List ℕ) (count : ℕ) → AreBytes (digest_bytes h count)
unfolding digest_bytes
digest_are_bytes h zero = tt
digest_are_bytes h (suc count) =
    bytes_joined (digest_bytes h count) (to_be_bytes w32 (slice_index h count)) (digest_are_bytes h count) (number_bytes 4 (slice_index h count))

hash_bytes : (m : List ℕ) → AreBytes (sha256 m)
unfolding sha256
hash_bytes m = digest_are_bytes (final_hash initial_hash_256 m) 8

blocks_are_bytes : (key label u v : List ℕ) (bits number count : ℕ) → AreBytes (kdfa_blocks key label u v bits number count)
unfolding kdfa_blocks
blocks_are_bytes key label u v bits number zero = tt
blocks_are_bytes key label u v bits number (suc more) =
    let block = kdfa_block key label u v bits number in
    let rest = kdfa_blocks key label u v bits (number + 1) more in
    let first : AreBytes block = hash_bytes _ in
    bytes_joined block rest first (blocks_are_bytes key label u v bits (number + 1) more)

kdfa_are_bytes : (key label u v : List ℕ) (count : ℕ) → AreBytes (kdfa key label u v count)
kdfa_are_bytes key label u v count =
    let blocks = kdfa_blocks key label u v (8 * count) 1 ((count + 31) / 32) in
    bytes_front (take count blocks) (drop count blocks)
    (subst AreBytes (sym (take-append-drop count blocks)) (blocks_are_bytes key label u v (8 * count) 1 ((count + 31) / 32)))

xor_are_bytes : (a m : List ℕ) → AreBytes a → AreBytes m → AreBytes (xor_bytes a m)
xor_are_bytes [] m first second = tt
xor_are_bytes (x ∷ a) [] first second = tt
xor_are_bytes (x ∷ a) (y ∷ m) first second = (xor_of_8 x y first.0 second.0, xor_are_bytes a m first.1 second.1)

masked_are_bytes : (key label u v bytes : List ℕ) → AreBytes bytes → AreBytes (masked key label u v bytes)
masked_are_bytes key label u v bytes all =
    xor_are_bytes bytes (kdfa key label u v (length bytes)) all (kdfa_are_bytes key label u v (length bytes))

-- ---- no other bytes are opened

-- what is written of a context
abbrev pub context_written : Context → List ℕ
context_written c = context_head c.sequence c.saved_handle c.hierarchy ++ sized_bytes c.blob

context_parts : (a b c d more : List ℕ) → a ++ b ++ c ++ d ++ more ≡ a ++ (b ++ (c ++ (d ++ more)))
context_parts a b c d more = simp append_assoc

pub context_fronts : (bytes : List ℕ) → AreBytes bytes → Leaves (Fronts context_written bytes) (context_of bytes)
context_fronts bytes all =
    let Ends = Fronts context_written bytes in
    leaves_next (Fronts (to_be_bytes w64) bytes) Ends (number64 RC_INSUFFICIENT bytes) _
    (number64_fronts RC_INSUFFICIENT bytes all) (λ sequence on1 sequence_front.
    leaves_next (Fronts (to_be_bytes w32) on1) Ends (number32 RC_INSUFFICIENT on1) _
    (number32_fronts RC_INSUFFICIENT on1 sequence_front.1) (λ saved_handle on2 handle_front.
    leaves_next (Fronts (to_be_bytes w32) on2) Ends (number32 RC_INSUFFICIENT on2) _
    (number32_fronts RC_INSUFFICIENT on2 handle_front.1) (λ hierarchy on3 hierarchy_front.
    leaves_next (Fronts sized_bytes on3) Ends (sized RC_INSUFFICIENT on3) _
    (sized_fronts RC_INSUFFICIENT on3 hierarchy_front.1) (λ blob rest blob_front. (
      then_front bytes (to_be_bytes w64 sequence) on1 _ sequence_front.0
          (then_front on1 (to_be_bytes w32 saved_handle) on2 _ handle_front.0
          (then_front on2 (to_be_bytes w32 hierarchy) on3 _ hierarchy_front.0 blob_front.0))
          ∙ sym (context_parts (to_be_bytes w64 sequence) (to_be_bytes w32 saved_handle) (to_be_bytes w32 hierarchy) (sized_bytes blob) rest),
      blob_front.1,
    )))))

-- the blob is the one of these bytes, which are bytes
abbrev Encrypts : List ℕ → Context → List ℕ → Type 0
Encrypts seed c plain =
    (context_written c ≡ context_bytes seed c.sequence c.saved_handle c.hierarchy plain) × AreBytes plain

blob_encrypts : (seed : List ℕ) (c : Context) (code encrypted plain : List ℕ) → Fronts sized_bytes c.blob code encrypted
    → code ≡ context_integrity seed c.sequence c.saved_handle c.hierarchy encrypted
    → plain ≡ context_encrypted seed c.sequence c.saved_handle encrypted → Encrypts seed c plain
blob_encrypts seed c code encrypted plain front integrity_value shown =
    let head = context_head c.sequence c.saved_handle c.hierarchy in
    let twice : context_encrypted seed c.sequence c.saved_handle (context_encrypted seed c.sequence c.saved_handle encrypted) ≡ encrypted =
    masked_twice seed _ _ _ encrypted in
    let back : encrypted ≡ context_encrypted seed c.sequence c.saved_handle plain =
    sym twice ∙ ap (context_encrypted seed c.sequence c.saved_handle) (sym shown) in
    let these : AreBytes (context_encrypted seed c.sequence c.saved_handle encrypted) = masked_are_bytes seed _ _ _ encrypted front.1 in (
      ap (λ blob. head ++ sized_bytes blob) front.0
          ∙ ap (λ code. head ++ sized_bytes (sized_bytes code ++ encrypted)) integrity_value
          ∙ ap (λ encrypted. head ++ sized_bytes (sized_bytes (context_integrity seed c.sequence c.saved_handle c.hierarchy encrypted) ++ encrypted)) back,
      subst AreBytes (sym shown) these,
    )

revealed_encrypts : (seed : List ℕ) (c : Context) (r : Reading (List ℕ)) → Leaves (Fronts sized_bytes c.blob) r
    → IfSome (revealed seed c r) (Encrypts seed c)
revealed_encrypts seed c (Err code) fronts = tt
revealed_encrypts seed c (Ok blob) fronts =
    let integrity_value = context_integrity seed c.sequence c.saved_handle c.hierarchy blob.1 in
    let plain = context_encrypted seed c.sequence c.saved_handle blob.1 in
    cond_both (bytes_eq blob.0 integrity_value) (Some plain) None (λ found. IfSome found (Encrypts seed c))
    (λ same. blob_encrypts seed c blob.0 blob.1 plain fronts ((bytes_eq-Decides blob.0 integrity_value).0 same) refl) (λ other. tt)

-- the bytes are a context of these bytes, which are bytes
abbrev pub Holds : List ℕ → List ℕ → List ℕ → Type 0
Holds seed bytes plain = (c : Context) × ((bytes ≡ context_bytes seed c.sequence c.saved_handle c.hierarchy plain) × AreBytes plain)

blob_bytes : (bytes head blob : List ℕ) → AreBytes bytes → bytes ≡ head ++ sized_bytes blob → AreBytes blob
blob_bytes bytes head blob all is =
    bytes_back (to_be_bytes w16 (length blob)) blob (bytes_back head (sized_bytes blob) (subst AreBytes is all))

context_holds : (seed bytes : List ℕ) (c : Context) → AreBytes bytes → bytes ≡ context_written c
    → IfSome (revealed seed c (sized RC_SIZE c.blob)) (Holds seed bytes)
context_holds seed bytes c all is =
    let these = blob_bytes bytes (context_head c.sequence c.saved_handle c.hierarchy) c.blob all is in
    IfSome_then (revealed seed c (sized RC_SIZE c.blob)) {P = Encrypts seed c} {Q = Holds seed bytes}
    (revealed_encrypts seed c (sized RC_SIZE c.blob) (sized_fronts RC_SIZE c.blob these))
    (λ plain encrypts. (c, (is ∙ encrypts.0, encrypts.1)))

pub opened_holds : (seed bytes : List ℕ) (r : Reading Context) → AreBytes bytes → Leaves (Fronts context_written bytes) r
    → IfSome (opened_by seed r) (Holds seed bytes)
opened_holds seed bytes (Err code) all fronts = tt
opened_holds seed bytes (Ok read) all fronts =
    cond_both (length read.1 == 0) (revealed seed read.0 (sized RC_SIZE read.0.blob)) None (λ found. IfSome found (Holds seed bytes))
    (λ whole.
    context_holds seed bytes read.0 all
    (fronts.0 ∙ nothing_behind (context_written read.0) read.1 (eqb-true (length read.1) 0 whole)))
    (λ more. tt)

-- the bytes are a context of the object
abbrev pub HoldsObject : List ℕ → List ℕ → Object → Type 0
HoldsObject seed bytes o = (c : Context) × (bytes ≡ context_bytes seed c.sequence c.saved_handle c.hierarchy (object_bytes o))

object_held : (seed bytes plain : List ℕ) (o : Object) → Holds seed bytes plain → plain ≡ object_bytes o → HoldsObject seed bytes o
object_held seed bytes plain o holds is =
    let c = holds.0 in
    (c, holds.1.0 ∙ ap (context_bytes seed c.sequence c.saved_handle c.hierarchy) is)

whole_held : (seed bytes plain : List ℕ) (r : Reading Object) → Holds seed bytes plain → r ≡ object_of plain
    → IfSome (whole_object r) (HoldsObject seed bytes)
whole_held seed bytes plain (Err code) holds is = tt
whole_held seed bytes plain (Ok read) holds is =
    cond_both (length read.1 == 0) (Some read.0) None (λ found. IfSome found (HoldsObject seed bytes))
    (λ whole.
    object_held seed bytes plain read.0 holds
    (object_spelling plain read.0 read.1 holds.1.1 (sym is)
    ∙ nothing_behind (object_bytes read.0) read.1 (eqb-true (length read.1) 0 whole)))
    (λ more. tt)

within_held : (seed bytes : List ℕ) (plain : Option (List ℕ)) → IfSome plain (Holds seed bytes)
    → IfSome (object_within plain) (HoldsObject seed bytes)
within_held seed bytes None holds = tt
within_held seed bytes (Some plain) holds = whole_held seed bytes plain (object_of plain) holds refl

pub opened_spelling : (seed bytes : List ℕ) (o : Object) → AreBytes bytes → opened_object seed bytes ≡ Some o → HoldsObject seed bytes o
unfolding opened_object
opened_spelling seed bytes o all is =
    if_found (HoldsObject seed bytes) (object_within (opened_context seed bytes)) o
    (within_held seed bytes (opened_context seed bytes) (opened_holds seed bytes (context_of bytes) all (context_fronts bytes all))) is
