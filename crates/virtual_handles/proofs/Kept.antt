-- What is counted stays right.
use Rattle.std.proofs.Common.{◌≡◌, ◌+◌, ◌-◌, ◌/◌, ◌≤◌, ◌<◌, ◌≢◌, ℕ, Bool, true, false, List, [], Option, Some, None, length, set, get_or, replicate, refl, sym, ◌∙◌, ap, ⊎_elim, arith}
use Rattle.std.specs.Prelude.{is_some, nat_lt, if◌then◌else◌}
use Rattle.std.proofs.lemmas.List.{length-set, get_or-set_same, get_or-set_other, get_or-replicate, get_or_past}
use Rattle.std.proofs.lemmas.List.Sums.{sum_by-set}
use Rattle.std.proofs.lemmas.Bool.{cases_eq, cases_lt}
use Rattle.std.proofs.lemmas.Bool.Decides.{nat_tests}
use Rattle.history_spec.specs.Table.{least_free, put_least, count_held, is_full, held_under, number_of_object}
use Rattle.tab_spec.specs.declared.TheConstants.{TRANSIENT_FIRST}
use Rattle.virtual_handles.specs.Blocks.{held_in_block, PlacesAreCounted}
use Rattle.virtual_handles.proofs.Walks.{least_le_count, count_put, length_put}
use Rattle.virtual_handles.proofs.Counts.{one_if, held_le_block, held_in_nothing, put_here, put_elsewhere, set_here, set_elsewhere}

pub counted_nothing : PlacesAreCounted [] (replicate 64 0) 0
counted_nothing = record {
  most = omega arith;
  blocks = λ block low. get_or-replicate 64 block 0 0 low ∙ sym (held_in_nothing ℕ block);
  all = refl;
}

-- each number is below 4,096 where a client has fewer objects than it may
pub room_for_one : (places : List (Option ℕ)) (taken : List ℕ) (held : ℕ) → PlacesAreCounted places taken held → held < 4096 → least_free places < 4096
room_for_one places taken held counted few = omega (arith, least_le_count places, counted.all)

-- a count of a block is at most 64
pub count_most : (places : List (Option ℕ)) (taken : List ℕ) (held block : ℕ) → PlacesAreCounted places taken held → block < length taken → get_or taken block 0 ≤ 64
count_most places taken held block counted low = omega (arith, counted.blocks block low, held_le_block block places)

pub counted_put : (x : ℕ) (places : List (Option ℕ)) (taken : List ℕ) (held : ℕ) → PlacesAreCounted places taken held → length taken ≡ 64 → held < 4096
    → PlacesAreCounted (put_least x places) (set taken (least_free places / 64) (get_or taken (least_free places / 64) 0 + 1)) (held + 1)
counted_put x places taken held counted blocks few =
    let number : ℕ = least_free places in
    let low : number < 4096 = room_for_one places taken held counted few in
    let inside : number / 64 < length taken = omega arith in
    record {
      most = length_put x places 4096 counted.most low;
      blocks = λ block within.
          let low_block : block < length taken = omega (arith, length-set taken (number / 64) (get_or taken (number / 64) 0 + 1)) in
          ⊎_elim
          (λ (same : block ≡ number / 64).
          ap (λ k. get_or (set taken (number / 64) (get_or taken (number / 64) 0 + 1)) k 0) same
          ∙ get_or-set_same taken (number / 64) (get_or taken (number / 64) 0 + 1) 0 inside
          ∙ ap (λ n. n + 1) (counted.blocks (number / 64) inside)
          ∙ sym (put_here x places)
          ∙ ap (λ k. held_in_block k (put_least x places)) (sym same))
          (λ (other : block ≢ number / 64).
          get_or-set_other taken (number / 64) block (get_or taken (number / 64) 0 + 1) 0 other
          ∙ counted.blocks block low_block
          ∙ sym (put_elsewhere block x places other))
          (cases_eq block (number / 64));
      all = ap (λ n. n + 1) counted.all ∙ sym (count_put x places);
    }

-- what is told of a taken place
pub record Taken (places : List (Option ℕ)) (taken : List ℕ) (held number : ℕ) : Type 0 where
  pub block : number / 64 < length taken
  pub count : 1 ≤ get_or taken (number / 64) 0
  pub one : 1 ≤ held

taken_one : (place : Option ℕ) → is_some place ≡ true → one_if place ≡ 1
taken_one None taken = cc
taken_one (Some x) taken = refl

pub is_taken : (places : List (Option ℕ)) (taken : List ℕ) (held number : ℕ) → PlacesAreCounted places taken held → length taken ≡ 64 → number < length places
    → is_some (get_or places number None) ≡ true → Taken places taken held number
is_taken places taken held number counted blocks within there =
    let inside : number / 64 < length taken = omega (arith, counted.most) in
    let one : one_if (get_or places number None) ≡ 1 = taken_one (get_or places number None) there in
    let here : held_in_block (number / 64) (set places number None) + one_if (get_or places number None) ≡ held_in_block (number / 64) places + 0 =
    set_here number None places within in
    let sums : count_held (set places number None) + one_if (get_or places number None) ≡ count_held places + 0 =
    sum_by-set (one_if {A = ℕ}) places number None None within in
    record {
      block = inside;
      count = omega (arith, counted.blocks (number / 64) inside, one, here);
      one = omega (arith, counted.all, one, sums);
    }

pub counted_removed : (places : List (Option ℕ)) (taken : List ℕ) (held number : ℕ) → PlacesAreCounted places taken held → length taken ≡ 64 → number < length places
    → is_some (get_or places number None) ≡ true
    → PlacesAreCounted (set places number None) (set taken (number / 64) (get_or taken (number / 64) 0 - 1)) (held - 1)
counted_removed places taken held number counted blocks within there =
    let inside : number / 64 < length taken = omega (arith, counted.most) in
    let one : one_if (get_or places number None) ≡ 1 = taken_one (get_or places number None) there in
    let here : held_in_block (number / 64) (set places number None) + one_if (get_or places number None) ≡ held_in_block (number / 64) places + 0 =
    set_here number None places within in
    let sums : count_held (set places number None) + one_if (get_or places number None) ≡ count_held places + 0 =
    sum_by-set (one_if {A = ℕ}) places number None None within in
    let fewer : get_or taken (number / 64) 0 - 1 ≡ held_in_block (number / 64) (set places number None) =
    omega (arith, counted.blocks (number / 64) inside, one, here) in
    record {
      most = omega (arith, counted.most, length-set places number None);
      blocks = λ block low.
          let low_block : block < length taken = omega (arith, length-set taken (number / 64) (get_or taken (number / 64) 0 - 1)) in
          ⊎_elim
          (λ (same : block ≡ number / 64).
          ap (λ k. get_or (set taken (number / 64) (get_or taken (number / 64) 0 - 1)) k 0) same
          ∙ get_or-set_same taken (number / 64) (get_or taken (number / 64) 0 - 1) 0 inside
          ∙ fewer
          ∙ ap (λ k. held_in_block k (set places number None)) (sym same))
          (λ (other : block ≢ number / 64).
          get_or-set_other taken (number / 64) block (get_or taken (number / 64) 0 - 1) 0 other
          ∙ counted.blocks block low_block
          ∙ sym (set_elsewhere block number None places other))
          (cases_eq block (number / 64));
      all = omega (arith, counted.all, one, sums);
    }

-- ---- what the contracts say

pub few_held : (places : List (Option ℕ)) (taken : List ℕ) (held : ℕ) → PlacesAreCounted places taken held → is_full places ≡ false → held < 4096
few_held places taken held counted open_still =
    let few : count_held places < 4096 = grind (arith, nat_tests) in
    omega (arith, counted.all)

pub record Held (places : List (Option ℕ)) (number : ℕ) : Type 0 where
  pub within : number < length places
  pub there : is_some (get_or places number None) ≡ true

no_item : {place : Option ℕ} {item : ℕ} → place ≡ None → Some item ≡ place → ⊥
no_item none some = cc

-- what isn't under a handle below those of objects
under : (low : Bool) (place : Option ℕ) {item : ℕ} → Some item ≡ (if low then None else place) → Some item ≡ place
under true place there = cc
under false place there = there

held_at : (places : List (Option ℕ)) (number item : ℕ) → Some item ≡ get_or places number None → Held places number
held_at places number item there = record {
  within = ⊎_elim
      (λ (within : number < length places). within)
      (λ (past : length places ≤ number). absurd (no_item (get_or_past places number None past) there))
      (cases_lt number (length places));
  there = ap is_some (sym there);
}

pub held_there : (places : List (Option ℕ)) (handle number item : ℕ) → Some item ≡ held_under places handle → number ≡ number_of_object handle → Held places number
held_there places handle number item there is =
    held_at places number item (under (nat_lt handle TRANSIENT_FIRST) (get_or places (number_of_object handle) None) there ∙ ap (λ n. get_or places n None) (sym is))
