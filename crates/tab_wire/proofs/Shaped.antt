-- What the shape of a command says of its bytes.
use Rattle.std.proofs.Common.{◌≡◌, ◌+◌, ◌*◌, ◌<◌, ◌≤◌, ℕ, zero, suc, Bool, true, false, List, [], ◌∷◌, ◌++◌, length, take, get_or, refl, ap, sym, subst, ◌∙◌, arith, append_assoc, length-append}
use Rattle.std.specs.Prelude.{Option, Some, None, Result, Ok, Err, not, nat_lt, nat_le, ◌==◌, ◌&&◌, if◌then◌else◌}
use Rattle.std.specs.Int.{w32, to_be_bytes}
use Rattle.std.specs.List.{find, list_all}
use Rattle.std.proofs.lemmas.Bool.{eqb-true, leb-true, and_parts, cond_both, ltb-false}
use Rattle.std.proofs.lemmas.Option.{same_Some}
use Rattle.tab_spec.specs.declared.Kind.{Kind}
use Rattle.tab_spec.specs.declared.Kind.TheVariants.{Absent}
use Rattle.tab_spec.specs.declared.CommandRow.{CommandRow}
use Rattle.tab_spec.specs.declared.Shape.{Shape}
use Rattle.tab_spec.specs.declared.TheConstants.{HEADER_BYTES, MOST_BYTES, RC_COMMAND_SIZE, RC_BAD_TAG, RC_INSUFFICIENT, RC_1}
use Rattle.tab_spec.specs.Frame.{is_size, is_frame, tag_of, size_of, code_of}
use Rattle.tab_spec.specs.Commands.{row_of, all_commands}
use Rattle.tab_spec.specs.Shape.{is_command_tag, is_present, is_of_kind, handle_at, count_in, cut_handle, wrong_handle, handles_in, rest_of, shape_from, shape_with, shape_by, shape_of, known_row, row_in, handle_bytes}

-- the handles lie within the command, and there are at most two
pub record Shaped (bytes : List ℕ) (shape : Shape) : Type 0 where
  pub few : shape.count ≤ 2
  pub behind : shape.rest ≡ 10 + 4 * shape.count
  pub within : shape.rest ≤ length bytes
  pub most : length bytes ≤ 4096

cut_parts : (present cut : Bool) (code : ℕ) (more : Option ℕ) → (if present && cut then Some code else more) ≡ None → (present ≡ true → cut ≡ false) × (more ≡ None)
cut_parts true true code more is = cc
cut_parts true false code more is = (λ here. refl, is)
cut_parts false cut code more is = (λ here. cc, is)

whole_step : (present : Bool) (n m count size : ℕ) → m < n → 10 + 4 * m ≤ size → (present ≡ true → 10 + 4 * n ≤ size)
    → ((k : ℕ) → k < n + 1 → 10 + 4 * k ≤ size → 10 + 4 * (k + count) ≤ size) → 10 + 4 * (m + ((if present then 1 else 0) + count)) ≤ size
whole_step true n m count size lt room whole more =
    let here : 10 + 4 * n ≤ size = whole refl in
    let all : 10 + 4 * ((m + 1) + count) ≤ size = more (m + 1) (omega arith) (omega arith) in omega arith
whole_step false n m count size lt room whole more =
    let all : 10 + 4 * (m + count) ≤ size = more m (omega arith) room in omega arith

-- as many whole handles as are present lie in the command
whole_handles : (kinds : List Kind) (n m : ℕ) (bytes : List ℕ) → m < n → 10 + 4 * m ≤ length bytes → cut_handle kinds n bytes ≡ None → 10 + 4 * (m + count_in kinds) ≤ length bytes
whole_handles [] n m bytes lt room none = omega arith
whole_handles (kind ∷ kinds) n m bytes lt room none =
    let parts = cut_parts (is_present kind) (nat_lt (length bytes) (HEADER_BYTES + 4 * n)) (RC_INSUFFICIENT + RC_1 * n) (cut_handle kinds (n + 1) bytes) none in
    whole_step (is_present kind) n m (count_in kinds) (length bytes) lt room (λ here. ltb-false (length bytes) (HEADER_BYTES + 4 * n) (parts.0 here))
    (λ k below enough. whole_handles kinds (n + 1) k bytes below enough parts.1)

count_step : (present : Bool) (count size : ℕ) → count ≤ size → (if present then 1 else 0) + count ≤ suc size
count_step true count size most = omega arith
count_step false count size most = omega arith

count_most : (kinds : List Kind) → count_in kinds ≤ length kinds
count_most [] = omega arith
count_most (kind ∷ kinds) = count_step (is_present kind) (count_in kinds) (length kinds) (count_most kinds)

shape_parts : (row : CommandRow) (bytes : List ℕ) (cut wrong : Option ℕ) (shape : Shape) → shape_from row bytes cut wrong ≡ Ok shape
    → (cut ≡ None) × (shape.count ≡ count_in row.handles) × (shape.rest ≡ rest_of row)
shape_parts row bytes (Some code) wrong shape is = cc
shape_parts row bytes None (Some code) shape is = cc
shape_parts row bytes None None shape is =
    let same : record {
      row = row;
      tag = tag_of bytes;
      handles = handles_in row.handles 1 bytes;
      count = count_in row.handles;
      rest = rest_of row;
    } ≡ shape = cc in (refl, sym (ap (λ (s : Shape). s.count) same), sym (ap (λ (s : Shape). s.rest) same))

pub rest_within : (row : CommandRow) (bytes : List ℕ) (shape : Shape) → 10 ≤ length bytes → shape_with row bytes ≡ Ok shape → shape.rest ≤ length bytes
rest_within row bytes shape least is =
    let parts = shape_parts row bytes (cut_handle row.handles 1 bytes) (wrong_handle row.handles 1 bytes) shape is in
    let whole : 10 + 4 * (0 + count_in row.handles) ≤ length bytes = whole_handles row.handles 1 0 bytes (omega arith) (omega arith) parts.0 in
    let rest : shape.rest ≡ 10 + 4 * count_in row.handles = parts.2 in omega arith

-- the shape of a command whose two handles are whole and of their kinds
pub shape_is : (code authorized tag first second one two count : ℕ) (kinds : List Kind) (has_handle : Bool) (bytes : List ℕ) → length kinds ≡ 2
    → (is_present (get_or kinds 0 Absent) && nat_lt (length bytes) 14) ≡ false → (is_present (get_or kinds 1 Absent) && nat_lt (length bytes) 18) ≡ false
    → is_of_kind (get_or kinds 0 Absent) (handle_at 1 bytes) ≡ true → is_of_kind (get_or kinds 1 Absent) (handle_at 2 bytes) ≡ true
    → tag ≡ tag_of bytes
    → first ≡ (if is_present (get_or kinds 0 Absent) then handle_at 1 bytes else 0) → second ≡ (if is_present (get_or kinds 1 Absent) then handle_at 2 bytes else 0)
    → one ≡ (if is_present (get_or kinds 0 Absent) then 1 else 0) → two ≡ (if is_present (get_or kinds 1 Absent) then 1 else 0) → count ≡ one + two
    → (let row : CommandRow = record { code = code; handles = kinds; authorized = authorized; response_handle = has_handle } in
    Ok (record { row = row; tag = tag; handles = first ∷ second ∷ []; count = one + two; rest = 10 + 4 * count }) ≡ shape_with row bytes)
shape_is code authorized tag first second one two count (a ∷ b ∷ []) has_handle bytes long whole1 whole2 kind1 kind2 tag_is first_is second_is one_is two_is count_is =
    let sum : one + two ≡ count_in (a ∷ b ∷ []) = omega (arith, one_is, two_is) in
    let same : count ≡ count_in (a ∷ b ∷ []) = count_is ∙ sum in
    rw (whole1, whole2, kind1, kind2) (λ i. Ok (record {
      row = record { code = code; handles = a ∷ b ∷ []; authorized = authorized; response_handle = has_handle };
      tag = tag_is i;
      handles = first_is i ∷ second_is i ∷ [];
      count = sum i;
      rest = 10 + 4 * same i;
    }))
shape_is code authorized tag first second one two count [] has_handle bytes long whole1 whole2 kind1 kind2 tag_is first_is second_is one_is two_is count_is = absurd (omega arith)
shape_is code authorized tag first second one two count (a ∷ []) has_handle bytes long whole1 whole2 kind1 kind2 tag_is first_is second_is one_is two_is count_is = absurd (omega arith)
shape_is code authorized tag first second one two count (a ∷ b ∷ k ∷ kinds) has_handle bytes long whole1 whole2 kind1 kind2 tag_is first_is second_is one_is two_is count_is = absurd (omega arith)

found_in : (good test : CommandRow → Bool) (rows : List CommandRow) (row : CommandRow) → list_all good rows ≡ true → find test rows ≡ Some row → good row ≡ true
found_in good test [] row all is = cc
found_in good test (first ∷ rows) row all is =
    let parts = and_parts (good first) (list_all good rows) all in
    cond_both (test first) (Some first) (find test rows) (λ (found : Option CommandRow). found ≡ Some row → good row ≡ true)
    (λ hit same. subst (λ (r : CommandRow). good r ≡ true) (same_Some first row same) parts.0) (λ missed same. found_in good test rows row parts.1 same) is

two_kinds : (code : ℕ) (row : CommandRow) → row_of code ≡ Some row → length row.handles ≡ 2
two_kinds code row is = eqb-true (length row.handles) 2 (found_in (λ (r : CommandRow). length r.handles == 2) (λ (r : CommandRow). r.code == code) all_commands row refl is)

-- one more handle
pub handle_bytes_more : (handles : List ℕ) (i : ℕ) → i < length handles → handle_bytes (i + 1) handles ≡ handle_bytes i handles ++ to_be_bytes w32 (get_or handles i 0)
handle_bytes_more [] i lt = absurd (omega arith)
handle_bytes_more (handle ∷ handles) zero lt = refl
handle_bytes_more (handle ∷ handles) (suc i) lt =
    let one : suc i + 1 ≡ suc (i + 1) = omega arith in
    ap (λ (n : ℕ). handle_bytes n (handle ∷ handles)) one
    ∙ ap (λ (more : List ℕ). to_be_bytes w32 handle ++ more) (handle_bytes_more handles i (omega arith))

pub handle_bytes_taken : (n : ℕ) (handles : List ℕ) → handle_bytes n (take n handles) ≡ handle_bytes n handles
handle_bytes_taken zero handles = refl
handle_bytes_taken (suc n) [] = refl
handle_bytes_taken (suc n) (handle ∷ handles) = ap (λ (more : List ℕ). to_be_bytes w32 handle ++ more) (handle_bytes_taken n handles)

row_parts : (frame tag : Bool) (found : Option CommandRow) (row : CommandRow)
    → (if not frame then Err RC_COMMAND_SIZE else if not tag then Err RC_BAD_TAG else known_row found) ≡ Ok row → (frame ≡ true) × (found ≡ Some row)
row_parts false tag found row is = cc
row_parts true false found row is = cc
row_parts true true None row is = cc
row_parts true true (Some first) row is = let same : first ≡ row = cc in (refl, ap (λ (r : CommandRow). let some : Option CommandRow = Some r in some) same)

-- a command that was found is a frame
pub frame_of_row : (rows : ℕ → Option CommandRow) (bytes : List ℕ) (row : CommandRow) → row_in rows bytes ≡ Ok row → is_frame bytes ≡ true
frame_of_row rows bytes row is = (row_parts (is_frame bytes) (is_command_tag (tag_of bytes)) (rows (code_of bytes)) row is).0

-- how long a frame is
pub record Sized (bytes : List ℕ) : Type 0 where
  pub least : 10 ≤ length bytes
  pub most : length bytes ≤ 4096

pub frame_sized : (bytes : List ℕ) → is_frame bytes ≡ true → Sized bytes
frame_sized bytes is =
    let size = (and_parts (is_size (length bytes)) (size_of bytes == length bytes) is).0 in
    let parts = and_parts (nat_le HEADER_BYTES (length bytes)) (nat_le (length bytes) MOST_BYTES) size in
    record { least = leb-true HEADER_BYTES (length bytes) parts.0; most = leb-true (length bytes) MOST_BYTES parts.1 }

shaped_by : (found : Result CommandRow ℕ) (bytes : List ℕ) (shape : Shape) → row_in row_of bytes ≡ found → shape_by found bytes ≡ Ok shape → Shaped bytes shape
shaped_by (Err code) bytes shape from is = cc
shaped_by (Ok row) bytes shape from is =
    let found = row_parts (is_frame bytes) (is_command_tag (tag_of bytes)) (row_of (code_of bytes)) row from in
    let sized = frame_sized bytes found.0 in
    let parts = shape_parts row bytes (cut_handle row.handles 1 bytes) (wrong_handle row.handles 1 bytes) shape is in
    let two : length row.handles ≡ 2 = two_kinds (code_of bytes) row found.1 in
    let most : count_in row.handles ≤ length row.handles = count_most row.handles in
    let count : shape.count ≡ count_in row.handles = parts.1 in
    let rest : shape.rest ≡ 10 + 4 * count_in row.handles = parts.2 in
    record { few = omega arith; behind = omega arith; within = rest_within row bytes shape sized.least is; most = sized.most }

pub shaped : (bytes : List ℕ) (shape : Shape) → shape_of bytes ≡ Ok shape → Shaped bytes shape
unfolding shape_of
shaped bytes shape is = shaped_by (row_in row_of bytes) bytes shape refl is

-- one more handle was written
pub record Written (head new handles : List ℕ) (i : ℕ) : Type 0 where
  pub bytes : new ≡ head ++ handle_bytes i handles
  pub many : length new ≡ 10 + 4 * i

pub one_more : (head out new handles : List ℕ) (i : ℕ) → i < length handles → new ≡ out ++ to_be_bytes w32 (get_or handles i 0) → Written head out handles i
    → Written head new handles (i + 1)
one_more head out new handles i lt is from =
    let more : handle_bytes (i + 1) handles ≡ handle_bytes i handles ++ to_be_bytes w32 (get_or handles i 0) = handle_bytes_more handles i lt in
    let before : out ≡ head ++ handle_bytes i handles = from.bytes in
    let many : length out ≡ 10 + 4 * i = from.many in
    record { bytes = rw (is, before, more) (simp append_assoc); many = omega (arith, simp length-append at (ap length is)) }
