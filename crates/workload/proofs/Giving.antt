-- How a workload's source gives its lines.
use Rattle.std.proofs.Common.{◌≡◌, ◌<◌, ◌≤◌, ◌+◌, ◌-◌, ◌++◌, ℕ, zero, suc, List, [], length, take, drop, Some, refl, sym, ap, ◌∙◌, arith, drop_of_length-le, append_assoc}
use Rattle.std.proofs.lemmas.List.{take-append-drop, length-take-le, take_at, drop-drop, nil_from_length}
use Rattle.rand_chacha.specs.ChaCha.{ChaCha, key_of, of_seed}
use Rattle.link_port.specs.Port.{TookNext}
use Rattle.script_spec.specs.Workload.{line_at, lines_from, workload_key}

-- where lines are to come, the first of them comes next
pub first_line : (key : List ℕ) (place lines : ℕ) → 0 < lines → lines_from key place lines ≡ line_at key place ++ lines_from key (place + 3) (lines - 1)
unfolding lines_from
first_line key place zero some = absurd (omega arith)
first_line key place (suc count) some = let one : suc count - 1 ≡ count = omega arith in rw one refl

-- the first line of a new workload
pub begun : (start lines : ℕ) (seed line : List ℕ) (words after : ChaCha) → 0 < lines → words ≡ of_seed seed → key_of seed ≡ workload_key start
    → line ≡ line_at words.key words.word_pos → after ≡ record words { word_pos = words.word_pos + 3 }
    → line ++ lines_from after.key after.word_pos (lines - 1) ≡ lines_from (workload_key start) 0 lines
begun start lines seed line words after some seeded key made moved = rw (made, moved, seeded, key) (sym (first_line (workload_key start) 0 lines some))

-- a copy of what fits of a line takes the next bytes, where more come behind the line unless it was given whole
pub gave : (line more text into copied left : List ℕ) (given count : ℕ) → text ≡ drop given line ++ more → left ≡ drop (given + count) line ++ more
    → count ≤ length (drop given line) → (0 < length into → count ≡ 0 → length (drop given line) ≡ 0) → copied ≡ take count (drop given line)
    → (length (drop given line) ≡ 0 → more ≡ []) → TookNext text (Some left) (length into) (take count (copied ++ drop count into))
gave line more text into copied left given count whole after fits none copy last =
    let rest = drop given line in
    let size : length copied ≡ count = ap length copy ∙ length-take-le count rest fits in
    let front : take count (copied ++ drop count into) ≡ take count rest = take_at _ _ count size ∙ copy in
    let cut : take count rest ++ drop (given + count) line ≡ rest = rw (← drop-drop count given line) (take-append-drop count rest) in
    record {
      rest = left;
      next = rw (front, after, whole, ← append_assoc, cut) refl;
      left = refl;
      end = λ room ended.
          let zero_given : count ≡ 0 = omega (arith, size, ap length copy, ap length front, ap length ended) in
          let used : length rest ≡ 0 = none room zero_given in
          rw (whole, nil_from_length rest used, last used) refl;
    }

-- where a line was given whole, the next one comes
pub next_comes : (line next : List ℕ) (words after : ChaCha) (lines given : ℕ) → length line ≤ given → 0 < lines → next ≡ line_at words.key words.word_pos
    → after ≡ record words { word_pos = words.word_pos + 3 }
    → next ++ lines_from after.key after.word_pos (lines - 1) ≡ drop given line ++ lines_from words.key words.word_pos lines
next_comes line next words after lines given all some made moved =
    rw (made, moved, drop_of_length-le line all) (sym (first_line words.key words.word_pos lines some))

-- no line comes any more
pub no_line : (key : List ℕ) (place lines : ℕ) → lines ≡ 0 → lines_from key place lines ≡ []
unfolding lines_from
no_line key place lines none = rw none refl
