-- Values and their bytes (Part 2). Which values there are, and in which order a reader looks at them, is this project's own
-- profile.
use Rattle.std.specs.Prelude.{◌≡◌, ℕ, ◌^◌, ◌<◌, ◌≤◌, ◌==◌, ◌||◌, ◌&&◌, not, nat_lt, nat_le, Bool, true, List, [], ◌∷◌, ◌++◌, length, take, drop, Option, Some, None, IfSome, Result, Ok, Err, if◌then◌else◌, get_or, bit_and, zero, suc, ◌/◌, ◌%◌}
use Rattle.std.specs.Int.{w8, w16, w32, w64, to_be_bytes, from_be_bytes}
use Rattle.std.specs.Int.Bits.{bit_and}
use Rattle.std.specs.List.{AllByRecursion}
use Rattle.tab_spec.specs.declared.TheConstants.{ALG_SHA256, ALG_NULL, ALG_HMAC, ALG_KEYEDHASH, ALG_SYMCIPHER, HT_NV_INDEX, MOST_NV_BYTES, OBJECT_KNOWN, OBJECT_FIXED, OBJECT_SIGN, OBJECT_SENSITIVE_DATA_ORIGIN, NV_KNOWN, NV_TYPE, NV_COUNTER, NV_WRITERS, NV_READERS, RC_TYPE, RC_HASH, RC_ATTRIBUTES, RC_VALUE, RC_SIZE, RC_INSUFFICIENT}
use Rattle.tab_spec.specs.Shape.{octet_of}

-- each of them is a byte
abbrev pub AreBytes : List ℕ → Type 0
AreBytes bytes = AllByRecursion (λ byte. byte < 256) bytes

-- ---- reading

-- what was read and what is left, or the code of the first fault
abbrev pub Reading : Type 0 → Type 0
Reading X = Result (X × List ℕ) ℕ

-- what the next step makes of a result that isn't a fault. In `do`, `x ← result` names it, and
-- `(x, rest) ← reading` what was read and the bytes after it
infixl 10 ◌>>=◌
abbrev pub ◌>>=◌ : {X Y : Type 0} → Result X ℕ → (X → Result Y ℕ) → Result Y ℕ
Err code >>= next = Err code
Ok x >>= next = next x

abbrev pub then_read : {X Y : Type 0} → Reading X → (X → List ℕ → Reading Y) → Reading Y
then_read reading next = reading >>= (λ read. next read.0 read.1)

-- what was read, where it passes a test
abbrev pub require : {X : Type 0} → (X → Bool) → ℕ → Reading X → Reading X
require test code (Err fault) = Err fault
require test code (Ok read) = if test read.0 then Ok read else Err code

-- so many bytes; this code for too few
abbrev pub fixed_bytes : ℕ → ℕ → List ℕ → Reading (List ℕ)
fixed_bytes size lacking bytes = if nat_lt (length bytes) size then Err lacking else Ok (take size bytes, drop size bytes)

-- numbers of one, two, four and eight bytes
abbrev pub number8 : ℕ → List ℕ → Reading ℕ
number8 lacking bytes = then_read (fixed_bytes 1 lacking bytes) (λ read rest. Ok (from_be_bytes w8 read, rest))

abbrev pub number16 : ℕ → List ℕ → Reading ℕ
number16 lacking bytes = then_read (fixed_bytes 2 lacking bytes) (λ read rest. Ok (from_be_bytes w16 read, rest))

abbrev pub number32 : ℕ → List ℕ → Reading ℕ
number32 lacking bytes = then_read (fixed_bytes 4 lacking bytes) (λ read rest. Ok (from_be_bytes w32 read, rest))

abbrev pub number64 : ℕ → List ℕ → Reading ℕ
number64 lacking bytes = then_read (fixed_bytes 8 lacking bytes) (λ read rest. Ok (from_be_bytes w64 read, rest))

-- a TPM2B: a size and that many bytes
abbrev pub sized : ℕ → List ℕ → Reading (List ℕ)
sized lacking bytes = then_read (number16 lacking bytes) (λ size rest. fixed_bytes size lacking rest)

-- a structure that fills a TPM2B
abbrev pub filling : {X : Type 0} → List ℕ → Reading X → Reading X
filling rest (Err code) = Err code
filling rest (Ok read) = if length read.1 == 0 then Ok (read.0, rest) else Err RC_SIZE

abbrev pub enclosed : {X : Type 0} → (List ℕ → Reading X) → ℕ → List ℕ → Reading X
enclosed reader lacking bytes = then_read (sized lacking bytes) (λ inside rest. filling rest (reader inside))

-- a TPM2B of exactly so many bytes
abbrev pub sized_exactly : ℕ → List ℕ → Reading (List ℕ)
sized_exactly size bytes = require (λ read. length read == size) RC_SIZE (sized RC_SIZE bytes)

abbrev pub sized_within : ℕ → List ℕ → Reading (List ℕ)
sized_within most bytes = require (λ read. nat_le (length read) most) RC_SIZE (sized RC_SIZE bytes)

-- these words, one after the other
abbrev pub words : List ℕ → List ℕ → Reading (List ℕ)
words [] bytes = Ok ([], bytes)
words (word ∷ more) bytes = do
  (read, rest) ← require (λ read. read == word) RC_VALUE (number16 RC_SIZE bytes)
  words more rest

-- ---- writing

abbrev pub sized_bytes : List ℕ → List ℕ
sized_bytes bytes = to_be_bytes w16 (length bytes) ++ bytes

abbrev pub word_bytes : List ℕ → List ℕ
word_bytes [] = []
word_bytes (word ∷ more) = to_be_bytes w16 word ++ word_bytes more

-- ---- public areas (Part 2, "TPMT_PUBLIC")

pub record Public : Type 0 where
  -- the type of the object
  pub form : ℕ
  pub attributes : ℕ
  pub policy : List ℕ
  pub unique : List ℕ

-- whether only attributes are set that this profile has (Part 2, "TPMA_OBJECT"); `OBJECT_KNOWN` has a bit for each of them
abbrev pub has_known_bits : ℕ → Bool
has_known_bits attributes = bit_and OBJECT_KNOWN attributes == attributes

-- fixedTPM equals fixedParent
abbrev pub is_fixed_or_not : ℕ → Bool
is_fixed_or_not attributes = bit_and OBJECT_FIXED attributes == 0 || bit_and OBJECT_FIXED attributes == OBJECT_FIXED

abbrev pub signs : ℕ → Bool
signs attributes = bit_and OBJECT_SIGN attributes == OBJECT_SIGN

-- sensitiveDataOrigin: the device makes the secret (Part 2, "TPMA_OBJECT")
abbrev pub makes_secret : Public → Bool
makes_secret public = bit_and OBJECT_SENSITIVE_DATA_ORIGIN public.attributes == OBJECT_SENSITIVE_DATA_ORIGIN

-- what the bits tell of a storage parent, of an HMAC key and of sealed bytes
abbrev pub fits_form : ℕ → ℕ → Bool
fits_form form attributes =
    if form == ALG_SYMCIPHER then bit_and 0x00070032 attributes == 0x00030032
    else if signs attributes then bit_and 0x00030000 attributes == 0
    else bit_and 0x00070020 attributes == 0

abbrev pub are_attributes : ℕ → ℕ → Bool
are_attributes form attributes = has_known_bits attributes && is_fixed_or_not attributes && fits_form form attributes

abbrev pub is_form : ℕ → Bool
is_form form = form == ALG_KEYEDHASH || form == ALG_SYMCIPHER

-- the words of the parameters: of AES with 128 bits in CFB mode, of HMAC with SHA-256, or none
abbrev pub parameter_words : ℕ → ℕ → List ℕ
parameter_words form attributes =
    if form == ALG_SYMCIPHER then 0x0006 ∷ 0x0080 ∷ 0x0043 ∷ []
    else if signs attributes then ALG_HMAC ∷ ALG_SHA256 ∷ []
    else ALG_NULL ∷ []

abbrev pub is_policy : List ℕ → Bool
is_policy policy = length policy == 0 || length policy == 32

abbrev pub public_of : List ℕ → Reading Public
public_of bytes = do
  (form, rest) ← require is_form RC_TYPE (number16 RC_SIZE bytes)
  (hash, rest) ← require (λ hash. hash == ALG_SHA256) RC_HASH (number16 RC_SIZE rest)
  (attributes, rest) ← require (are_attributes form) RC_ATTRIBUTES (number32 RC_SIZE rest)
  (policy, rest) ← require is_policy RC_SIZE (sized RC_SIZE rest)
  (read, rest) ← words (parameter_words form attributes) rest
  (unique, rest) ← require (λ unique. nat_le (length unique) 32) RC_SIZE (sized RC_SIZE rest)
  Ok (record { form = form; attributes = attributes; policy = policy; unique = unique }, rest)

abbrev pub public_bytes : Public → List ℕ
public_bytes p =
    to_be_bytes w16 p.form ++ to_be_bytes w16 ALG_SHA256 ++ to_be_bytes w32 p.attributes ++ sized_bytes p.policy
    ++ word_bytes (parameter_words p.form p.attributes) ++ sized_bytes p.unique

-- a public area that there can be
pub record IsPublic (p : Public) : Type 0 where
  pub form_fits : p.form < 2 ^ 16
  pub form_known : is_form p.form ≡ true
  pub attributes_fit : p.attributes < 2 ^ 32
  pub attributes_agree : are_attributes p.form p.attributes ≡ true
  pub policy_known : is_policy p.policy ≡ true
  pub unique_short : length p.unique ≤ 32

-- ---- secrets (Part 2, "TPMS_SENSITIVE_CREATE")

-- trailing zeros of an auth value don't count (Part 1, "Authorization Values")
abbrev pub before_zeros : ℕ → List ℕ → List ℕ
before_zeros byte [] = if byte == 0 then [] else byte ∷ []
before_zeros byte (next ∷ more) = byte ∷ next ∷ more

abbrev pub without_zeros : List ℕ → List ℕ
without_zeros [] = []
without_zeros (byte ∷ bytes) = before_zeros byte (without_zeros bytes)

pub record Sensitive : Type 0 where
  pub auth : List ℕ
  pub content : List ℕ

-- an auth value in a TPM2B; this code for too few bytes
abbrev pub auth_of : ℕ → List ℕ → Reading (List ℕ)
auth_of lacking bytes = do
  (auth, rest) ← require (λ auth. nat_le (length auth) 32) RC_SIZE (sized lacking bytes)
  Ok (without_zeros auth, rest)

abbrev pub sensitive_of : List ℕ → Reading Sensitive
sensitive_of bytes = do
  (auth, rest) ← auth_of RC_SIZE bytes
  (content, rest) ← require (λ content. nat_le (length content) 128) RC_SIZE (sized RC_SIZE rest)
  Ok (record { auth = auth; content = content }, rest)

-- ---- NV indexes (Part 2, "TPMS_NV_PUBLIC")

pub record NvPublic : Type 0 where
  pub index : ℕ
  pub attributes : ℕ
  pub policy : List ℕ
  pub size : ℕ

-- the bits of TPMA_NV that are there: OWNERWRITE 1, AUTHWRITE 2, the type in 4 to 7, OWNERREAD 17, AUTHREAD 18, NO_DA 25,
-- WRITTEN 29
abbrev pub has_known_nv_bits : ℕ → Bool
has_known_nv_bits attributes = bit_and NV_KNOWN attributes == attributes

-- an ordinary index or a counter
abbrev pub nv_type : ℕ → ℕ
nv_type attributes = bit_and NV_TYPE attributes

abbrev pub are_nv_attributes : ℕ → Bool
are_nv_attributes attributes =
    has_known_nv_bits attributes && nat_le (nv_type attributes) NV_COUNTER
    && not (bit_and NV_WRITERS attributes == 0) && not (bit_and NV_READERS attributes == 0)

abbrev pub is_nv_size : ℕ → ℕ → Bool
is_nv_size attributes size = if nv_type attributes == NV_COUNTER then size == 8 else nat_le size MOST_NV_BYTES

abbrev pub nv_public_of : List ℕ → Reading NvPublic
nv_public_of bytes = do
  (index, rest) ← require (λ index. octet_of index == HT_NV_INDEX) RC_VALUE (number32 RC_SIZE bytes)
  (hash, rest) ← require (λ hash. hash == ALG_SHA256) RC_HASH (number16 RC_SIZE rest)
  (attributes, rest) ← require are_nv_attributes RC_ATTRIBUTES (number32 RC_SIZE rest)
  (policy, rest) ← require is_policy RC_SIZE (sized RC_SIZE rest)
  (size, rest) ← require (is_nv_size attributes) RC_SIZE (number16 RC_SIZE rest)
  Ok (record { index = index; attributes = attributes; policy = policy; size = size }, rest)

abbrev pub nv_public_bytes : NvPublic → List ℕ
nv_public_bytes p =
    to_be_bytes w32 p.index ++ to_be_bytes w16 ALG_SHA256 ++ to_be_bytes w32 p.attributes ++ sized_bytes p.policy ++ to_be_bytes w16 p.size

-- the public area of an NV index that there can be
pub record IsNvPublic (p : NvPublic) : Type 0 where
  pub index_fits : p.index < 2 ^ 32
  pub index_known : octet_of p.index ≡ HT_NV_INDEX
  pub attributes_fit : p.attributes < 2 ^ 32
  pub attributes_agree : are_nv_attributes p.attributes ≡ true
  pub policy_known : is_policy p.policy ≡ true
  pub size_fits : p.size < 2 ^ 16
  pub size_allowed : is_nv_size p.attributes p.size ≡ true

-- ---- selections of PCRs (Part 2, "TPML_PCR_SELECTION")

-- nothing, or three bytes: bit i of byte j is PCR 8 j + i
pub record PcrSelection : Type 0 where
  pub bits : Option (List ℕ)

abbrev pub selection_with : ℕ → List ℕ → Reading PcrSelection
selection_with count bytes =
    if count == 0 then Ok (record { bits = None }, bytes)
    else do
      (hash, rest) ← require (λ hash. hash == ALG_SHA256) RC_HASH (number16 RC_INSUFFICIENT bytes)
      (size, rest) ← require (λ size. size == 3) RC_VALUE (number8 RC_INSUFFICIENT rest)
      (bits, rest) ← fixed_bytes 3 RC_INSUFFICIENT rest
      Ok (record { bits = Some bits }, rest)

abbrev pub selection_of : List ℕ → Reading PcrSelection
selection_of bytes = then_read (require (λ count. nat_le count 1) RC_SIZE (number32 RC_INSUFFICIENT bytes)) selection_with

abbrev pub selected_bytes : Option (List ℕ) → List ℕ
selected_bytes None = to_be_bytes w32 0
selected_bytes (Some bits) = to_be_bytes w32 1 ++ to_be_bytes w16 ALG_SHA256 ++ 3 ∷ bits

abbrev pub selection_bytes : PcrSelection → List ℕ
selection_bytes s = selected_bytes s.bits

-- a selection that there can be
abbrev pub IsPcrSelection : PcrSelection → Type 0
IsPcrSelection s = IfSome s.bits (λ bits. length bits ≡ 3)

-- bit i of byte j is PCR 8 j + i
abbrev pub is_selected : List ℕ → ℕ → Bool
is_selected bits pcr = (get_or bits (pcr / 8) 0 / 2 ^ (pcr % 8)) % 2 == 1

-- the selected PCRs below a number, upwards
abbrev pub selected_below : List ℕ → ℕ → List ℕ
selected_below bits zero = []
selected_below bits (suc pcr) = selected_below bits pcr ++ (if is_selected bits pcr then pcr ∷ [] else [])
