-- What a list of handles tells that was taken.
use Rattle.std.proofs.Common.{◌≡◌, ◌<◌, ◌≤◌, ◌+◌, ◌*◌, ◌-◌, ℕ, Bool, true, false, List, ◌∷◌, length, take, drop, arith, refl, ap, sym, ◌∙◌}
use Rattle.std.specs.Prelude.{◌==◌, ◌&&◌, get_or, nat_le, nat_lt, Option, Some, None, if◌then◌else◌}
use Rattle.std.specs.List.{list_all}
use Rattle.std.specs.Option.{unwrap_or}
use Rattle.std.specs.Int.{w32, from_be_bytes}
use Rattle.std.proofs.lemmas.Bool.{and_parts, eqb-true, leb-true}
use Rattle.tab_spec.specs.Frame.{is_frame, size_of, tag_of}
use Rattle.tab_spec.specs.declared.contexts.ContextLimits.{ContextLimits}
use Rattle.device_spec.specs.Answers.{handles_from, is_list_from, is_success_form, is_word, listed_handles, may_be_listed, profile_takes as takes, word_at}
use Rattle.device_port.proofs.Listing.{next_of, rest_of, word_there}
use Rattle.device_start.specs.Start.{IsList}

-- ---- a list that was taken fills its response

word_passes : (test : ℕ → Bool) (short : Bool) (n : ℕ) → is_word test (if short then None else Some n) ≡ true → test n ≡ true
word_passes test true n is = absurd cc
word_passes test false n is = is

pub list_fills : (last : List ℕ) (property : ℕ) → is_frame last ≡ true → is_list_from last property ≡ true → IsList last
list_fills last property frame is =
    let first = get_or last 10 1 == 0 in
    let capability = is_word (λ capability. capability == 1) (word_at 11 last) in
    let count = is_word (λ count. length last == 19 + 4 * count) (word_at 15 last) in
    let all = list_all (may_be_listed property) (listed_handles last) in
    let filled = and_parts (first && capability) count (and_parts (first && capability && count) all is).0 in
    let sized = and_parts (nat_le 10 (length last) && nat_le (length last) 4096) (size_of last == length last) frame in
    record {
      whole = eqb-true (length last) _ (word_passes (λ count. length last == 19 + 4 * count) (nat_lt (length last) 19) _ filled.1);
      few = leb-true (length last) 4096 (and_parts (nat_le 10 (length last)) (nat_le (length last) 4096) sized.0).1;
    }

-- a command that asks for a list has nothing else in its success
form_lists : (lists tag : Bool) → (lists && true && tag && true && true && true) ≡ true → lists ≡ true
form_lists true tag is = refl
form_lists false tag is = absurd cc

pub taken_fills : (contexts : ContextLimits) (asked last : List ℕ) (property : ℕ) → takes true true asked last ≡ true → is_success_form contexts true asked last ≡ true
    → is_success_form contexts true asked last ≡ (is_list_from last property && true && tag_of last == tag_of asked && true && true && true) → IsList last
taken_fills contexts asked last property taken form computes =
    let frame = and_parts (is_frame last) _ taken in
    list_fills last property frame.0 (form_lists (is_list_from last property) (tag_of last == tag_of asked) (sym computes ∙ form))

-- ---- its handles, one by one

pub count_read : (list : List ℕ) (found : Option ℕ) (count : ℕ) → IsList list → found ≡ word_at 15 list → count ≡ unwrap_or found 0
    → count ≡ from_be_bytes w32 (take 4 (drop 15 list))
count_read list found count is found_is count_is =
    count_is ∙ ap (λ (o : Option ℕ). unwrap_or o 0) (found_is ∙ word_there 15 list (omega (arith, is.whole)))

pub next_read : (list : List ℕ) (found again : Option ℕ) (count place handle : ℕ) → IsList list → found ≡ word_at 15 list → count ≡ unwrap_or found 0
    → place < count → again ≡ word_at (19 + 4 * place) list → handle ≡ unwrap_or again 0
    → rest_of count place list ≡ handle ∷ rest_of count (place + 1) list
next_read list found again count place handle is found_is count_is more again_is handle_is =
    let whole : length list ≡ 19 + 4 * count = is.whole ∙ ap (λ (n : ℕ). 19 + 4 * n) (sym (count_read list found count is found_is count_is)) in
    let there = word_there (19 + 4 * place) list (omega (arith, whole, more)) in
    let same = handle_is ∙ ap (λ (o : Option ℕ). unwrap_or o 0) (again_is ∙ there) in
    next_of count place list handle more whole (there ∙ ap (λ (n : ℕ). Some n) (sym same))

-- before the first of them, and behind the last one
pub all_rest : (list : List ℕ) (found : Option ℕ) (count : ℕ) → IsList list → found ≡ word_at 15 list → count ≡ unwrap_or found 0
    → rest_of count 0 list ≡ listed_handles list
all_rest list found count is found_is count_is =
    let none : count - 0 ≡ from_be_bytes w32 (take 4 (drop 15 list)) = omega (arith, count_read list found count is found_is count_is) in
    ap (λ (n : ℕ). handles_from n (drop 19 list)) none

pub none_rest : (count place : ℕ) (list : List ℕ) → count ≤ place → rest_of count place list ≡ handles_from 0 (drop (19 + 4 * place) list)
none_rest count place list none =
    let zero_left : count - place ≡ 0 = omega (arith, none) in
    ap (λ (n : ℕ). handles_from n (drop (19 + 4 * place) list)) zero_left
