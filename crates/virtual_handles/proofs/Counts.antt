-- How many places of each block are taken, and what this says of the first place that is free, or taken.
use Rattle.std.proofs.Common.{◌≡◌, ◌+◌, ◌-◌, ◌*◌, ◌/◌, ◌%◌, ◌≤◌, ◌<◌, ◌≢◌, ℕ, zero, suc, cond, List, [], ◌∷◌, ◌++◌, Option, Some, None, length, take, drop, set, get_or, min, sym, ◌∙◌, ap, subst, ⊎_elim, arith, length-append, length-drop}
use Rattle.std.specs.Prelude.{is_some}
use Rattle.std.proofs.lemmas.List.{drop_all, drop-drop, length-take, take_all, take_min, get_or-take, get_or-drop, drop-append-le, take-append-le, take-set-le, drop-set-lt, drop-set-add}
use Rattle.std.proofs.Math.Seq.{take-set-lt}
use Rattle.std.proofs.lemmas.List.Sums.{sum_by-set, sum_by_push}
use Rattle.std.proofs.lemmas.Bool.{cases_lt}
use Rattle.history_spec.specs.Table.{least_free, first_taken, put_least, count_held}
use Rattle.virtual_handles.specs.Blocks.{held_in_block, CountsBlocks}
use Rattle.virtual_handles.proofs.Walks.{FullFront, full_front, open_front, empty_front, held_front, first_taken_from, first_taken_past, count_le_length, least_le_count, put_within, put_behind, least_is_free}

pub held_le_block : {A : Type 0} (block : ℕ) (places : List (Option A)) → held_in_block block places ≤ 64
unfolding held_in_block
held_le_block block places =
    omega (arith, count_le_length (take 64 (drop (64 * block) places)), length-take 64 (drop (64 * block) places))

pub held_in_nothing : (A : Type 0) (block : ℕ) → held_in_block {A = A} block [] ≡ 0
unfolding held_in_block
held_in_nothing A block = ap (λ rest. count_held (take 64 rest)) (drop_all {X = Option A} (64 * block) [] (omega arith))

-- ---- whole blocks at the front

next_block : {A : Type 0} (n : ℕ) (places : List (Option A)) → drop 64 (drop (64 * n) places) ≡ drop (64 * suc n) places
next_block n places = drop-drop 64 (64 * n) places ∙ ap (λ k. drop k places) (omega arith)

pub full_blocks : {A : Type 0} (n : ℕ) (places : List (Option A)) → ((k : ℕ) → k < n → 64 ≤ held_in_block k places) → FullFront (64 * n) places
unfolding held_in_block
full_blocks zero places full = full_front 0 places (omega arith)
full_blocks (suc n) places full =
    let before : FullFront (64 * n) places = full_blocks n places (λ k below. full k (omega arith)) in
    let here : FullFront 64 (drop (64 * n) places) = full_front 64 (drop (64 * n) places) (full n (omega arith)) in
    let least : least_free (drop (64 * n) places) ≡ 64 + least_free (drop (64 * suc n) places) =
    here.least ∙ ap (λ rest. 64 + least_free rest) (next_block n places) in
    let count : count_held (drop (64 * n) places) ≡ 64 + count_held (drop (64 * suc n) places) =
    here.count ∙ ap (λ rest. 64 + count_held rest) (next_block n places) in
    record {
      fits = omega (arith, before.fits, here.fits, length-drop (64 * n) places);
      least = omega (arith, before.least, least);
      count = omega (arith, before.count, count);
    }

pub empty_blocks : {A : Type 0} (n from : ℕ) (places : List (Option A)) → ((k : ℕ) → from ≤ k → k < from + n → held_in_block k places ≡ 0)
    → first_taken (64 * from) (drop (64 * from) places) ≡ first_taken (64 * (from + n)) (drop (64 * (from + n)) places)
unfolding held_in_block
empty_blocks zero from places empty = ap (λ k. first_taken (64 * k) (drop (64 * k) places)) (omega arith)
empty_blocks (suc n) from places empty =
    let before : first_taken (64 * from) (drop (64 * from) places) ≡ first_taken (64 * (from + n)) (drop (64 * (from + n)) places) =
    empty_blocks n from places (λ k low below. empty k low (omega arith)) in
    let here : first_taken (64 * (from + n)) (drop (64 * (from + n)) places) ≡ first_taken (64 * (from + n) + 64) (drop 64 (drop (64 * (from + n)) places)) =
    empty_front 64 (64 * (from + n)) (drop (64 * (from + n)) places) (empty (from + n) (omega arith) (omega arith)) in
    let e : from + suc n ≡ suc (from + n) = omega arith in
    let there : 64 * (from + n) + 64 ≡ 64 * suc (from + n) = omega arith in
    before ∙ here ∙ ap (λ rest. first_taken (64 * (from + n) + 64) rest) (next_block (from + n) places)
    ∙ ap (λ k. first_taken k (drop (64 * suc (from + n)) places)) there
    ∙ sym (ap (λ k. first_taken (64 * k) (drop (64 * k) places)) e)

-- ---- one place is another

abbrev pub one_if : {A : Type 0} → Option A → ℕ
one_if place = cond (is_some place) 1 0

block_behind : (block n : ℕ) → block ≢ n / 64 → 64 * block ≤ n → 64 * block + 64 ≤ n
block_behind block n other above = omega arith

-- a block of other places
pub other_block : {A : Type 0} (block n : ℕ) (place : Option A) (places : List (Option A)) → (n < 64 * block) → held_in_block block (set places n place) ≡ held_in_block block places
unfolding held_in_block
other_block block n place places below = ap (λ rest. count_held (take 64 rest)) (drop-set-lt (64 * block) places n place below)

earlier_block : {A : Type 0} (block n : ℕ) (place : Option A) (places : List (Option A)) → 64 * block + 64 ≤ n → held_in_block block (set places n place) ≡ held_in_block block places
unfolding held_in_block
earlier_block block n place places behind =
    let e : n ≡ 64 * block + (n - 64 * block) = omega arith in
    ap (λ k. count_held (take 64 (drop (64 * block) (set places k place)))) e
    ∙ ap (λ rest. count_held (take 64 rest)) (drop-set-add (64 * block) places (n - 64 * block) place)
    ∙ ap count_held (take-set-le 64 (drop (64 * block) places) (n - 64 * block) place (omega arith))

same_block : {A : Type 0} (block i : ℕ) (place : Option A) (places : List (Option A)) → i < 64 → 64 * block + i < length places
    → held_in_block block (set places (64 * block + i) place) + one_if (get_or places (64 * block + i) None) ≡ held_in_block block places + one_if place
unfolding held_in_block
same_block {A} block i place places low within =
    let rest : List (Option A) = drop (64 * block) places in
    let set_is : take 64 (drop (64 * block) (set places (64 * block + i) place)) ≡ set (take 64 rest) i place =
    ap (take 64) (drop-set-add (64 * block) places i place) ∙ take-set-lt 64 rest i place low in
    let get_is : get_or (take 64 rest) i None ≡ get_or places (64 * block + i) None =
    get_or-take 64 rest i None low ∙ get_or-drop (64 * block) places i None in
    let sums : count_held (set (take 64 rest) i place) + one_if (get_or (take 64 rest) i None) ≡ count_held (take 64 rest) + one_if place =
    sum_by-set one_if (take 64 rest) i place None (omega (arith, length-take 64 rest, length-drop (64 * block) places)) in
    rw (set_is, ← get_is) sums

pub set_elsewhere : {A : Type 0} (block n : ℕ) (place : Option A) (places : List (Option A)) → block ≢ n / 64 → held_in_block block (set places n place) ≡ held_in_block block places
set_elsewhere block n place places other =
    ⊎_elim (λ (below : n < 64 * block). other_block block n place places below)
    (λ (above : 64 * block ≤ n). earlier_block block n place places (block_behind block n other above))
    (cases_lt n (64 * block))

pub set_here : {A : Type 0} (n : ℕ) (place : Option A) (places : List (Option A)) → n < length places
    → held_in_block (n / 64) (set places n place) + one_if (get_or places n None) ≡ held_in_block (n / 64) places + one_if place
set_here n place places within =
    let e : 64 * (n / 64) + n % 64 ≡ n = omega arith in
    subst (λ (k : ℕ). held_in_block (n / 64) (set places k place) + one_if (get_or places k None) ≡ held_in_block (n / 64) places + one_if place) e
    (same_block (n / 64) (n % 64) place places (omega arith) (omega arith))

-- ---- one more place

pub push_elsewhere : {A : Type 0} (block : ℕ) (place : Option A) (places : List (Option A)) → block ≢ length places / 64
    → held_in_block block (places ++ place ∷ []) ≡ held_in_block block places
unfolding held_in_block
push_elsewhere {A} block place places other =
    ⊎_elim
    (λ (below : length places < 64 * block).
    ap (λ rest. count_held (take 64 rest))
    (drop_all (64 * block) (places ++ place ∷ []) (omega (arith, length-append places (place ∷ [])))
    ∙ sym (drop_all (64 * block) places (omega arith))))
    (λ (above : 64 * block ≤ length places).
    let behind : 64 * block + 64 ≤ length places = block_behind block (length places) other above in
    ap (λ rest. count_held (take 64 rest)) (drop-append-le (64 * block) places (place ∷ []) above)
    ∙ ap count_held (take-append-le 64 (drop (64 * block) places) (place ∷ []) (omega (arith, length-drop (64 * block) places))))
    (cases_lt (length places) (64 * block))

pub push_here : {A : Type 0} (place : Option A) (places : List (Option A))
    → held_in_block (length places / 64) (places ++ place ∷ []) ≡ held_in_block (length places / 64) places + one_if place
unfolding held_in_block
push_here {A} place places =
    let block : ℕ = length places / 64 in
    let start : ℕ = 64 * block in
    let low : start ≤ length places = omega arith in
    let high : length places < start + 64 = omega arith in
    let rest : List (Option A) = drop start places in
    let whole : take 64 (drop start (places ++ place ∷ [])) ≡ rest ++ place ∷ [] =
    ap (take 64) (drop-append-le start places (place ∷ []) low)
    ∙ take_all 64 (rest ++ place ∷ []) (omega (arith, length-append rest (place ∷ []), length-drop start places)) in
    let before : take 64 rest ≡ rest = take_all 64 rest (omega (arith, length-drop start places)) in
    ap count_held whole ∙ sum_by_push one_if rest place ∙ ap (λ xs. count_held xs + one_if place) (sym before)

-- ---- one more object

pub put_elsewhere : {A : Type 0} (block : ℕ) (x : A) (places : List (Option A)) → block ≢ least_free places / 64
    → held_in_block block (put_least x places) ≡ held_in_block block places
put_elsewhere block x places other =
    ⊎_elim
    (λ (within : least_free places < length places).
    ap (held_in_block block) (put_within x places within) ∙ set_elsewhere block (least_free places) (Some x) places other)
    (λ (behind : length places ≤ least_free places).
    let end : least_free places ≡ length places = omega (arith, least_le_count places, count_le_length places) in
    ap (held_in_block block) (put_behind x places behind)
    ∙ push_elsewhere block (Some x) places (subst (λ (k : ℕ). block ≢ k / 64) end other))
    (cases_lt (least_free places) (length places))

pub put_here : {A : Type 0} (x : A) (places : List (Option A))
    → held_in_block (least_free places / 64) (put_least x places) ≡ held_in_block (least_free places / 64) places + 1
put_here x places =
    ⊎_elim
    (λ (within : least_free places < length places).
    let here : held_in_block (least_free places / 64) (set places (least_free places) (Some x)) + one_if (get_or places (least_free places) None) ≡ held_in_block (least_free places / 64) places + 1 =
    set_here (least_free places) (Some x) places within in
    let free : one_if (get_or places (least_free places) None) ≡ 0 = ap one_if (least_is_free places) in
    ap (held_in_block (least_free places / 64)) (put_within x places within) ∙ omega (arith, here, free))
    (λ (behind : length places ≤ least_free places).
    let end : length places ≡ least_free places = omega (arith, least_le_count places, count_le_length places) in
    ap (held_in_block (least_free places / 64)) (put_behind x places behind)
    ∙ subst (λ (k : ℕ). held_in_block (k / 64) (places ++ Some x ∷ []) ≡ held_in_block (k / 64) places + 1) end (push_here (Some x) places))
    (cases_lt (least_free places) (length places))

-- ---- from the counts

pub full_until : (places : List (Option ℕ)) (taken : List ℕ) (block : ℕ) → CountsBlocks places taken → block ≤ length taken
    → ((k : ℕ) → k < block → 64 ≤ get_or taken k 0) → FullFront (64 * block) places
full_until places taken block counts within full =
    full_blocks block places (λ k below. subst (λ (n : ℕ). 64 ≤ n) (counts k (omega arith)) (full k below))

pub empty_until : (places : List (Option ℕ)) (taken : List ℕ) (from block : ℕ) → CountsBlocks places taken → from ≤ block → block ≤ length taken
    → ((k : ℕ) → from ≤ k → k < block → get_or taken k 0 ≡ 0) → first_taken (64 * from) (drop (64 * from) places) ≡ first_taken (64 * block) (drop (64 * block) places)
empty_until places taken from block counts order within empty =
    let e : from + (block - from) ≡ block = omega arith in
    empty_blocks (block - from) from places (λ k low below. sym (counts k (omega arith)) ∙ empty k low (omega arith))
    ∙ ap (λ k. first_taken (64 * k) (drop (64 * k) places)) e

-- the first free place lies in the first block that isn't full
pub least_in_block : (places : List (Option ℕ)) (taken : List ℕ) (block : ℕ) → CountsBlocks places taken → length taken ≡ 64 → length places ≤ 4096
    → (block < length taken → get_or taken block 0 < 64) → block ≤ length taken
    → least_free (take 64 (drop (64 * block) places)) ≡ least_free (drop (64 * block) places)
unfolding held_in_block
least_in_block places taken block counts blocks most found within =
    ⊎_elim
    (λ (inside : block < length taken).
    let room : count_held (take 64 (drop (64 * block) places)) < 64 = omega (arith, counts block inside, found inside) in
    open_front 64 (drop (64 * block) places) room)
    (λ (past : length taken ≤ block).
    ap least_free (take_all 64 (drop (64 * block) places) (omega (arith, length-drop (64 * block) places))))
    (cases_lt block (length taken))

pub least_found : (places : List (Option ℕ)) (taken : List ℕ) (block end : ℕ) → CountsBlocks places taken → length taken ≡ 64 → length places ≤ 4096
    → block ≤ length taken → ((k : ℕ) → k < block → 64 ≤ get_or taken k 0) → (block < length taken → get_or taken block 0 < 64)
    → end ≡ min (length places) (64 * block + 64)
    → 64 * block + least_free (take (end - 64 * block) (drop (64 * block) places)) ≡ least_free places
least_found places taken block end counts blocks most within full found end_is =
    let front = full_until places taken block counts within full in
    let size : end - 64 * block ≡ min 64 (length (drop (64 * block) places)) = omega (arith, length-drop (64 * block) places) in
    let part : take (end - 64 * block) (drop (64 * block) places) ≡ take 64 (drop (64 * block) places) =
    ap (λ n. take n (drop (64 * block) places)) size ∙ take_min 64 (drop (64 * block) places) in
    ap (λ xs. 64 * block + least_free xs) part
    ∙ ap (λ n. 64 * block + n) (least_in_block places taken block counts blocks most found within)
    ∙ sym front.least

-- where the first block that isn't empty has no place that is taken, there is no such block
pub none_in_block : (places : List (Option ℕ)) (taken : List ℕ) (block : ℕ) → CountsBlocks places taken → length taken ≡ 64 → length places ≤ 4096
    → (block < length taken → 0 < get_or taken block 0) → block ≤ length taken
    → first_taken (64 * block) (drop (64 * block) places) ≡ first_taken (64 * block + 64) (drop (64 * block + 64) places)
    → first_taken (64 * block) (drop (64 * block) places) ≡ None
unfolding held_in_block
none_in_block places taken block counts blocks most found within walked =
    ⊎_elim
    (λ (inside : block < length taken).
    let some : 0 < count_held (take 64 (drop (64 * block) places)) = omega (arith, counts block inside, found inside) in
    let first = held_front 64 (64 * block) (drop (64 * block) places) some in
    let later : 64 * block + 64 ≤ first.0 =
    first_taken_from (64 * block + 64) first.0 (drop (64 * block + 64) places) (sym walked ∙ first.1) in
    absurd (omega (arith, first.2, later)))
    (λ (past : length taken ≤ block). first_taken_past (64 * block) places (omega arith))
    (cases_lt block (length taken))
