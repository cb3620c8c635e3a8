-- A list of handles as a device gives it: it is read back as it was, and a broker takes it.
use Rattle.std.proofs.Common.{◌≡◌, ◌+◌, ◌*◌, ◌^◌, ◌<◌, ◌≤◌, ℕ, Bool, true, false, List, [], ◌∷◌, ◌++◌, length, take, drop, refl, ◌∙◌, ap, arith, length-append}
use Rattle.std.specs.Prelude.{Option, Some, map, ◌==◌, ◌||◌, ◌&&◌}
use Rattle.std.specs.List.{AllByRecursion, list_all}
use Rattle.std.specs.Int.{w32, from_be_bytes, to_be_bytes}
use Rattle.std.proofs.lemmas.Bool.{and_from, eq-eqb, le-ltb}
use Rattle.std.proofs.lemmas.Nat.{from_be_bytes-to_be_bytes_4}
use Rattle.tab_spec.specs.declared.TheConstants.{ST_NO_SESSIONS, RC_SUCCESS}
use Rattle.tab_spec.specs.Frame.{is_frame}
use Rattle.tab_spec.specs.Reply.{response}
use Rattle.tab_spec.specs.declared.contexts.TheConstants.{PROFILE_CONTEXTS}
use Rattle.effect_spec.specs.Capabilities.{joined_items}
use Rattle.device_spec.specs.Answers.{handles_from, is_list_from, is_success_form, is_word, listed_handles, lists_asked, lists_handles, may_be_listed, takes, word_at}
use Rattle.device_spec.specs.Remains.{handles_command}
use Rattle.device_laws.proofs.Frames.{response_is_frame}

-- ---- the bytes of handles, and the handles of bytes

-- handles that the list from this one on may have
abbrev pub AreListed : ℕ → List ℕ → Type 0
AreListed property handles = AllByRecursion (λ handle. (handle < 2 ^ 32) × (may_be_listed property handle ≡ true)) handles

abbrev pub handle_items : List ℕ → List (List ℕ)
handle_items handles = map (λ n. to_be_bytes w32 n) handles

handles_again : (property : ℕ) (handles : List ℕ) → AreListed property handles
    → handles_from (length handles) (joined_items (handle_items handles)) ≡ handles
handles_again property [] all = refl
handles_again property (handle ∷ handles) all =
    ap (λ (n : ℕ). n ∷ handles_from (length handles) (joined_items (handle_items handles))) (from_be_bytes-to_be_bytes_4 handle all.0.0)
    ∙ ap (λ (more : List ℕ). handle ∷ more) (handles_again property handles all.1)

length-handles : (handles : List ℕ) → length (joined_items (handle_items handles)) ≡ 4 * length handles
length-handles [] = refl
length-handles (handle ∷ handles) =
    omega (arith, length-append (to_be_bytes w32 handle) (joined_items (handle_items handles)), length-handles handles)

all_listed : (property : ℕ) (handles : List ℕ) → AreListed property handles → list_all (may_be_listed property) handles ≡ true
all_listed property [] all = refl
all_listed property (handle ∷ handles) all =
    and_from (may_be_listed property handle) (list_all (may_be_listed property) handles) all.0.1 (all_listed property handles all.1)

-- ---- the response: none is left over, the capability, and the handles behind their count

abbrev pub list_body : List ℕ → List ℕ
list_body handles = 0 ∷ to_be_bytes w32 1 ++ to_be_bytes w32 (length handles) ++ joined_items (handle_items handles)

abbrev pub list_response : List ℕ → List ℕ
list_response handles = response ST_NO_SESSIONS RC_SUCCESS (list_body handles)

length-list : (handles : List ℕ) → length (list_response handles) ≡ 19 + 4 * length handles
length-list handles = omega (arith, length-handles handles)

word_there : (at : ℕ) (bytes : List ℕ) (word : ℕ) → at + 4 ≤ length bytes → from_be_bytes w32 (take 4 (drop at bytes)) ≡ word → word_at at bytes ≡ Some word
word_there at bytes word long is = rw (le-ltb (length bytes) (at + 4) long) (ap (λ (w : ℕ). Some w) is)

-- the handles that it has
pub listed_again : (property : ℕ) (handles : List ℕ) → length handles ≤ 254 → AreListed property handles
    → listed_handles (list_response handles) ≡ handles
listed_again property handles few all =
    ap (λ (count : ℕ). handles_from count (joined_items (handle_items handles))) (from_be_bytes-to_be_bytes_4 (length handles) (omega (arith, few)))
    ∙ handles_again property handles all

-- it is the whole list
list_by : (capability count : Option ℕ) (handles : Bool) (fills : ℕ → Bool) (many : ℕ) → capability ≡ Some 1 → count ≡ Some many → fills many ≡ true
    → handles ≡ true → (true && is_word (λ word. word == 1) capability && is_word fills count && handles) ≡ true
list_by capability count handles fills many capability_is count_is filled all = rw (capability_is, count_is, filled, all) refl

list_is : (property : ℕ) (handles : List ℕ) → length handles ≤ 254 → AreListed property handles → is_list_from (list_response handles) property ≡ true
list_is property handles few all =
    let last = list_response handles in
    let long : length last ≡ 19 + 4 * length handles = length-list handles in
    list_by (word_at 11 last) (word_at 15 last) (list_all (may_be_listed property) (listed_handles last)) (λ count. length last == 19 + 4 * count) (length handles)
    (word_there 11 last 1 (omega (arith, long)) refl)
    (word_there 15 last (length handles) (omega (arith, long)) (from_be_bytes-to_be_bytes_4 (length handles) (omega (arith, few))))
    (eq-eqb (length last) (19 + 4 * length handles) long)
    (ap (list_all (may_be_listed property)) (listed_again property handles few all) ∙ all_listed property handles all)

-- ---- a broker takes it

or_second : (first second : Bool) → second ≡ true → (first || second) ≡ true
or_second true second is = refl
or_second false second is = is

pub lists_form : (lists : Bool) → lists ≡ true → (lists && true && true && true && true) ≡ true
lists_form lists is = rw is refl

pub list_taken : (property : ℕ) (handles : List ℕ) → property < 2 ^ 32 → length handles ≤ 254 → AreListed property handles
    → takes PROFILE_CONTEXTS true true (handles_command property) (list_response handles) ≡ true
list_taken property handles fits few all =
    let asked = handles_command property in
    let last = list_response handles in
    let from : word_at 14 asked ≡ Some property = ap (λ (p : ℕ). Some p) (from_be_bytes-to_be_bytes_4 property fits) in
    let lists : lists_handles asked last ≡ true =
    or_second _ (is_word (is_list_from last) (word_at 14 asked)) (ap (is_word (is_list_from last)) from ∙ list_is property handles few all) in
    and_from (is_frame last) (is_success_form PROFILE_CONTEXTS true asked last)
    (response_is_frame ST_NO_SESSIONS RC_SUCCESS (list_body handles) (omega (arith, length-handles handles, few)))
    (lists_form (lists_asked asked last) (and_from (lists_handles asked last) true lists refl))
