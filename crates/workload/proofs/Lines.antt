-- What is read in lines of replies.
use Rattle.std.proofs.Common.{◌≡◌, ◌<◌, ◌≤◌, ◌+◌, ◌/◌, ◌%◌, ◌++◌, ◌^◌, ℕ, zero, suc, Bool, true, false, cond, eqb, ltb, List, [], ◌∷◌, length, refl, sym, ap, ◌∙◌, arith, append_assoc, subst, zero-add}
use Rattle.std.specs.Prelude.{slice_index, flat_map}
use Rattle.std.specs.List.{AllByRecursion, count_by, fold}
use Rattle.std.specs.Fmt.{decimal, digit_glyph, digits, digits_onto}
use Rattle.std.proofs.lemmas.Bool.{ne_eqb}
use Rattle.std.proofs.lemmas.Grind.{fold-append}
use Rattle.std.proofs.lemmas.List.{append-nil}
use Rattle.std.proofs.lemmas.List.Sums.{sum_by-cons}
use Rattle.hex.specs.Hex.{IsBytes, encode_lower, encode_with, hex_digit_value, lower_digits}
use Rattle.hex.proofs.HexLemmas.{IsDigits-lower_digits, decode_of-encode_lower}
use Rattle.tab_spec.specs.Count.{largest_count, one_more}
use Rattle.tab_spec.specs.Values.{AreBytes}
use Rattle.script_spec.specs.Plays.{reply_line}
use Rattle.script_spec.specs.Summary.{HaveBytes, Reply, has_code_0, reply_lines}
use Rattle.tab_hash.specs.declared.sum.Sum.{Sum}
use Rattle.tab_hash.specs.Adding.{HasAdded}
use Rattle.workload.specs.declared.part.Part.{Part}
use Rattle.workload.specs.declared.part.Part.TheVariants.{Label, High, Low}
use Rattle.workload.specs.Reading.{Read, byte_of, counted_if, ended, first_of, IsTallied, read_by, read_of}

-- ---- labels

abbrev pub NoSpace : List ℕ → Type 0
NoSpace text = AllByRecursion (λ c. eqb c 32 ≡ false) text

glyph_no_space : (d : ℕ) → eqb (digit_glyph false d) 32 ≡ false
glyph_no_space d = elim (ltb d 10) as (λ b. eqb (cond b (48 + d) (87 + d)) 32 ≡ false) [
  | true ↦ ne_eqb (48 + d) 32 (λ e. omega arith)
  | false ↦ ne_eqb (87 + d) 32 (λ e. omega arith)
]

digits_no_space : (k n : ℕ) (more : List ℕ) → NoSpace more → NoSpace (digits_onto k 10 false n more)
digits_no_space zero n more none = none
digits_no_space (suc k) n more none =
    let next : List ℕ = digit_glyph false (n % 10) ∷ more in
    let still : NoSpace next = (glyph_no_space (n % 10), none) in
    elim (eqb (n / 10) 0) as (λ b. NoSpace (cond b next (digits_onto k 10 false (n / 10) next))) [
      | true ↦ still
      | false ↦ digits_no_space k (n / 10) next still
    ]

pub decimal_no_space : (n : ℕ) → NoSpace (decimal n)
unfolding digits
decimal_no_space n = digits_no_space 64 n [] tt

-- before a line
abbrev pub before_line : List ℕ → ℕ → ℕ → Read
before_line all count count_0 = record { part = Label; reply = []; all = all; count = count; count_0 = count_0 }

-- within a reply
abbrev pub in_reply : List ℕ → List ℕ → ℕ → ℕ → Read
in_reply reply all count count_0 = record { part = High; reply = reply; all = all; count = count; count_0 = count_0 }

label_read : (label all : List ℕ) (count count_0 : ℕ) → NoSpace label → fold read_by (before_line all count count_0) label ≡ before_line all count count_0
label_read [] all count count_0 none = refl
label_read (c ∷ label) all count count_0 none =
    ap (λ (b : Bool). fold read_by (record { part = cond b High Label; reply = []; all = all; count = count; count_0 = count_0 }) label) none.0
    ∙ label_read label all count count_0 none.1

-- ---- bytes

pub are_bytes : (bytes : List ℕ) → AreBytes bytes → IsBytes bytes
are_bytes [] are i = omega arith
are_bytes (b ∷ bytes) are zero = are.0
are_bytes (b ∷ bytes) are (suc i) = are_bytes bytes are.1 i

-- the two digits of a byte spell it
digits_spell : (b : ℕ) → b < 256 → byte_of (slice_index lower_digits (b / 16)) (slice_index lower_digits (b % 16)) ≡ b
unfolding encode_with
digits_spell b below = ap first_of (decode_of-encode_lower (b ∷ []) (are_bytes (b ∷ []) (below, tt)))

-- a digit is no newline
pub digit_no_newline : (d : ℕ) → d < 16 → eqb (slice_index lower_digits d) 10 ≡ false
digit_no_newline d below = ne_eqb (slice_index lower_digits d) 10 (λ e. let some = IsDigits-lower_digits d below in cc (some, ap hex_digit_value e))

bytes_read : (bytes reply all : List ℕ) (count count_0 : ℕ) → AreBytes bytes
    → fold read_by (in_reply reply all count count_0) (encode_lower bytes) ≡ in_reply (reply ++ bytes) (all ++ bytes) count count_0
unfolding encode_with
bytes_read [] reply all count count_0 are = rw (append-nil reply, append-nil all) refl
bytes_read (b ∷ bytes) reply all count count_0 are =
    let high = slice_index lower_digits (b / 16) in
    let low = slice_index lower_digits (b % 16) in
    let begun : Read = record { part = Low high; reply = reply; all = all; count = count; count_0 = count_0 } in
    let below : b < 256 = are.0 in
    let first = digit_no_newline (b / 16) (omega arith) in
    ap (λ (t : Bool). fold read_by (read_by (cond t (ended (in_reply reply all count count_0)) begun) low) (encode_with lower_digits bytes)) first
    ∙ ap (λ (byte : ℕ). fold read_by (in_reply (reply ++ byte ∷ []) (all ++ byte ∷ []) count count_0) (encode_with lower_digits bytes)) (digits_spell b below)
    ∙ bytes_read bytes (reply ++ b ∷ []) (all ++ b ∷ []) count count_0 are.1
    ∙ (λ i. in_reply (append_assoc reply (b ∷ []) bytes i) (append_assoc all (b ∷ []) bytes i) count count_0)

-- ---- lines

line_read : (label : ℕ) (bytes all : List ℕ) (count count_0 : ℕ) → AreBytes bytes
    → fold read_by (before_line all count count_0) (reply_line label bytes) ≡ before_line (all ++ bytes) (one_more count) (counted_if (has_code_0 bytes) count_0)
line_read label bytes all count count_0 are =
    let start = before_line all count count_0 in
    let digits : List ℕ = 32 ∷ encode_lower bytes in
    fold-append read_by start (decimal label ++ digits) (10 ∷ [])
    ∙ ap (λ (r : Read). fold read_by r (10 ∷ [])) (
    fold-append read_by start (decimal label) digits
    ∙ ap (λ (r : Read). fold read_by r digits) (label_read (decimal label) all count count_0 (decimal_no_space label))
    ∙ bytes_read bytes [] all count count_0 are)

counted : (more : Bool) (count : ℕ) → count < largest_count → counted_if more count ≡ count + cond more 1 0
counted true count below = omega arith
counted false count below = omega arith

at_most_one : (b : Bool) → cond {A = ℕ} b 1 0 ≤ 1
at_most_one true = omega arith
at_most_one false = omega arith

lines_read : (replies : List Reply) (all : List ℕ) (count count_0 : ℕ) → HaveBytes replies → count + length replies ≤ largest_count → count_0 ≤ count
    → fold read_by (before_line all count count_0) (reply_lines replies)
    ≡ before_line (all ++ flat_map (λ r. r.bytes) replies) (count + length replies) (count_0 + count_by (λ r. has_code_0 r.bytes) replies)
lines_read [] all count count_0 have few fewer =
    let same : count ≡ count + 0 = omega arith in
    let same_0 : count_0 ≡ count_0 + 0 = omega arith in
    λ i. before_line (sym (append-nil all) i) (same i) (same_0 i)
lines_read (r ∷ replies) all count count_0 have few fewer =
    let code = has_code_0 r.bytes in
    let some : ℕ = cond code 1 0 in
    let more : ℕ = count_by (λ x. has_code_0 x.bytes) replies in
    let bytes : List ℕ = flat_map (λ x. x.bytes) replies in
    let one : one_more count ≡ count + 1 = omega arith in
    let one_0 : counted_if code count_0 ≡ count_0 + some = counted code count_0 (omega arith) in
    let most : some ≤ 1 = at_most_one code in
    let all_0 : count_by (λ x. has_code_0 x.bytes) (r ∷ replies) ≡ some + more = sum_by-cons (λ (x : Reply). cond (has_code_0 x.bytes) 1 0) r replies in
    let counts : count + 1 + length replies ≡ count + length (r ∷ replies) = omega arith in
    let counts_0 : count_0 + some + more ≡ count_0 + count_by (λ x. has_code_0 x.bytes) (r ∷ replies) = omega (arith, all_0) in
    fold-append read_by (before_line all count count_0) (reply_line r.label r.bytes) (reply_lines replies)
    ∙ ap (λ (read : Read). fold read_by read (reply_lines replies)) (line_read r.label r.bytes all count count_0 have.0)
    ∙ (λ i. fold read_by (before_line (all ++ r.bytes) (one i) (one_0 i)) (reply_lines replies))
    ∙ lines_read replies (all ++ r.bytes) (count + 1) (count_0 + some) have.1 (omega (arith, few)) (omega (arith, most, fewer))
    ∙ (λ i. before_line (append_assoc all r.bytes bytes i) (counts i) (counts_0 i))

-- what a tally has of whole lines
pub summed_up : (sum : Sum) (front written : List ℕ) (part : Part) (count count_0 : ℕ) (replies : List Reply) → IsTallied sum front part count count_0 (read_of written)
    → written ≡ reply_lines replies → HaveBytes replies → length replies < 2 ^ 64
    → HasAdded sum (flat_map (λ r. r.bytes) replies) × (count ≡ length replies) × (count_0 ≡ count_by (λ r. has_code_0 r.bytes) replies)
unfolding read_of
summed_up sum front written part count count_0 replies tallied is have few =
    let read : read_of written ≡ before_line (flat_map (λ r. r.bytes) replies) (length replies) (count_by (λ r. has_code_0 r.bytes) replies) =
    ap read_of is ∙ lines_read replies [] 0 0 have (omega (arith, few)) (omega arith) ∙ (λ i. before_line (flat_map (λ r. r.bytes) replies) (zero-add (length replies) i) (zero-add (count_by (λ r. has_code_0 r.bytes) replies) i)) in (
      subst (λ (all : List ℕ). HasAdded sum all) (ap (λ (r : Read). r.all) read) tallied.added,
      tallied.count_is ∙ ap (λ (r : Read). r.count) read,
      tallied.count_0_is ∙ ap (λ (r : Read). r.count_0) read,
    )
