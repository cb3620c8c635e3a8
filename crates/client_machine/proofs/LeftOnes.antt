-- While a client is closed, its close leaves the same sessions after each step, whatever is known of the device: where one in use is
-- dropped, where a saved one is left, and where the one that was left longest is dropped.
use Rattle.std.proofs.Common.{◌≡◌, ◌<◌, ◌≤◌, ◌+◌, ℕ, zero, suc, Bool, true, false, List, [], ◌∷◌, ◌++◌, length, set, refl, ap, sym, ◌∙◌, subst, append-nil, append_assoc, length-append, arith}
use Rattle.std.specs.Prelude.{◌-◌, ◌==◌, ◌&&◌, not, drop, slice_get, Option, Some, None, is_some, if◌then◌else◌}
use Rattle.std.specs.List.{list_any}
use Rattle.std.proofs.lemmas.Bool.{eq-eqb, or_parts}
use Rattle.tab_spec.specs.Numbers.{leave_limit}
use Rattle.tab_spec.specs.declared.contexts.ContextLimits.{ContextLimits}
use Rattle.tab_spec.specs.declared.numbers.Numbers.{Numbers}
use Rattle.device_port.specs.Device.{Seen}
use Rattle.device_port.specs.Use.{without_one}
use Rattle.session_swap.specs.Items.{Item, disowned, is_owned, is_owner, item_at, left_behind, owner_by, owner_of_item}
use Rattle.client_machine.specs.declared.held.Held.{Held}
use Rattle.client_machine.specs.Dropping.{Drops, LeavesSaved, is_saved_of, is_used, saved_in}
use Rattle.client_machine.proofs.Settling.{some_same}

-- ---- the numbers of those that the client saved

-- its number, where it is one of them
abbrev number_if : Bool → ℕ → List ℕ
number_if saved number = if saved then number ∷ [] else []

-- an item changes, and the client saved the one exactly where it saved the other
saved_set : (client first n : ℕ) (items : List (Option Item)) (item : Option Item) → is_saved_of client item ≡ is_saved_of client (item_at items n)
    → saved_in client first (set items n item) ≡ saved_in client first items
saved_set client first n [] item same = refl
saved_set client first zero (one ∷ items) item same = ap (λ (saved : Bool). number_if saved first ++ saved_in client (first + 1) items) same
saved_set client first (suc n) (one ∷ items) item same =
    ap (λ (l : List ℕ). number_if (is_saved_of client one) first ++ l) (saved_set client (first + 1) n items item same)

-- the first one, where its session is another one then
saved_first : (client first n number : ℕ) (items : List (Option Item)) (item : Option Item) → number ≡ first + n → n < length items
    → ((k : ℕ) → k < n → is_saved_of client (item_at items k) ≡ false) → is_saved_of client (item_at items n) ≡ true
    → is_saved_of client item ≡ false → saved_in client first items ≡ number ∷ saved_in client first (set items n item)
saved_first client first n number [] item is inside lower here none = absurd (omega (arith, inside))
saved_first client first zero number (one ∷ items) item is inside lower here none =
    let rest = saved_in client (first + 1) items in
    let at : first ≡ number = omega (arith, is) in
    ap (λ (saved : Bool). number_if saved first ++ rest) here ∙ (λ i. at i ∷ number_if (sym none i) first ++ rest)
saved_first client first (suc n) number (one ∷ items) item is inside lower here none =
    let unsaved : is_saved_of client one ≡ false = lower 0 (omega arith) in
    let after = saved_in client (first + 1) (set items n item) in
    ap (λ (saved : Bool). number_if saved first ++ saved_in client (first + 1) items) unsaved
    ∙ saved_first client (first + 1) n number items item (omega (arith, is)) (omega (arith, inside)) (λ k less. lower (suc k) (omega (arith, less))) here none
    ∙ (λ i. number ∷ number_if (sym unsaved i) first ++ after)

-- ---- which ones are left

-- of these, which were left in order, where so many may be
abbrev left_with : ℕ → List ℕ → List ℕ
left_with most all = drop (length all - most) all

-- where so many may be active
abbrev pub left_of : (client active : ℕ) → List (Option Item) → List ℕ → List ℕ
left_of client active items left = left_with (leave_limit active) (left ++ saved_in client 0 items)

-- one goes that isn't saved
pub used_leaves : (client active n : ℕ) (items : List (Option Item)) (left : List ℕ) (item : Option Item) → is_saved_of client (item_at items n) ≡ false
    → is_saved_of client item ≡ false → left_of client active (set items n item) left ≡ left_of client active items left
used_leaves client active n items left item unsaved none =
    ap (λ (l : List ℕ). left_with (leave_limit active) (left ++ l)) (saved_set client 0 n items item (none ∙ sym unsaved))

-- a saved one is left, behind those that are left already
pub kept_leaves : (client active n : ℕ) (items : List (Option Item)) (left : List ℕ) (item : Option Item) → n < length items
    → ((k : ℕ) → k < n → is_saved_of client (item_at items k) ≡ false) → is_saved_of client (item_at items n) ≡ true
    → is_saved_of client item ≡ false → left_of client active (set items n item) (left ++ n ∷ []) ≡ left_of client active items left
kept_leaves client active n items left item inside lower here none =
    let after = saved_in client 0 (set items n item) in
    let saved : saved_in client 0 items ≡ n ∷ after = saved_first client 0 n n items item (omega arith) inside lower here none in
    ap (left_with (leave_limit active)) (append_assoc left (n ∷ []) after ∙ ap (λ (l : List ℕ). left ++ l) (sym saved))

-- the first of more than may be left goes
past_leaves : (most first : ℕ) (all : List ℕ) → most ≤ length all → left_with most all ≡ left_with most (first ∷ all)
past_leaves most first all many =
    let more : suc (length all - most) ≡ length (first ∷ all) - most = omega (arith, many) in
    λ i. drop (more i) (first ∷ all)

pub without_first_one : (n one : ℕ) (more : List ℕ) → one ≡ n → without_one n (one ∷ more) ≡ more
without_first_one n one more is = ap (λ (here : Bool). if here then more else one ∷ without_one n more) (eq-eqb one n is)

pub first_leaves : (client active n : ℕ) (items : List (Option Item)) (left : List ℕ) (item : Option Item) → leave_limit active < length left
    → slice_get left 0 ≡ Some n → is_saved_of client (item_at items n) ≡ false → is_saved_of client item ≡ false
    → left_of client active (set items n item) (without_one n left) ≡ left_of client active items left
first_leaves client active n items [] item many first unsaved none = absurd cc
first_leaves client active n items (one ∷ more) item many first unsaved none =
    let rest = saved_in client 0 items in
    ap (left_of client active (set items n item)) (without_first_one n one more (some_same first))
    ∙ ap (λ (l : List ℕ). left_with (leave_limit active) (more ++ l)) (saved_set client 0 n items item (none ∙ sym unsaved))
    ∙ past_leaves (leave_limit active) one (more ++ rest) (omega (arith, many, length-append more rest))

-- ---- what the client saved

-- what isn't the client's
pub others_unsaved : (client : ℕ) (item : Option Item) → is_owned client item ≡ false → is_saved_of client item ≡ false
others_unsaved client None apart = refl
others_unsaved client (Some item) apart = ap (λ (own : Bool). own && is_some item.handed) apart

and_false : (own : Bool) → (own && false) ≡ false
and_false true = refl
and_false false = refl

used_by : (client : ℕ) (owner : Option ℕ) (handed : Option (List ℕ)) → is_used (owner_by (not (is_some handed)) owner) ≡ true
    → (is_owner client (owner_by (not (is_some handed)) owner) && is_some handed) ≡ false
used_by client None handed used = absurd cc
used_by client (Some c) None used = and_false (c == client)
used_by client (Some c) (Some context) used = absurd cc

-- what is in use
pub used_unsaved : (client : ℕ) (item : Option Item) → is_used (owner_of_item item) ≡ true → is_saved_of client item ≡ false
used_unsaved client None used = refl
used_unsaved client (Some item) used = used_by client item.client item.handed used

kept_by : (client : ℕ) (owner : Option ℕ) (handed : Option (List ℕ)) → is_owner client (owner_by (not (is_some handed)) owner) ≡ true
    → is_used (owner_by (not (is_some handed)) owner) ≡ false → (is_owner client (owner_by (not (is_some handed)) owner) && is_some handed) ≡ true
kept_by client None handed own used = absurd cc
kept_by client (Some c) None own used = absurd cc
kept_by client (Some c) (Some context) own used = ap (λ (o : Bool). o && true) own

-- what is the client's, and not in use
pub kept_saved : (client : ℕ) (item : Option Item) → is_owner client (owner_of_item item) ≡ true → is_used (owner_of_item item) ≡ false
    → is_saved_of client item ≡ true
kept_saved client None own used = absurd cc
kept_saved client (Some item) own used = kept_by client item.client item.handed own used

pub disowned_unsaved : (client : ℕ) (item : Option Item) → is_saved_of client (disowned item) ≡ false
disowned_unsaved client None = refl
disowned_unsaved client (Some item) = refl

pub behind_unsaved : (client : ℕ) (item : Option Item) → is_saved_of client (left_behind item) ≡ false
behind_unsaved client None = refl
behind_unsaved client (Some item) = refl

-- ---- where the client has none

none_saved : (client first : ℕ) (items : List (Option Item)) → list_any (is_owned client) items ≡ false → saved_in client first items ≡ []
none_saved client first [] none = refl
none_saved client first (item ∷ items) none =
    let parts = or_parts (is_owned client item) (list_any (is_owned client) items) none in
    λ i. number_if (others_unsaved client item parts.0 i) first ++ none_saved client (first + 1) items parts.1 i

few_leaves : (most : ℕ) (left : List ℕ) → length left ≤ most → left_with most left ≡ left
few_leaves most left few =
    let none : length left - most ≡ 0 = omega (arith, few) in
    ap (λ (n : ℕ). drop n left) none

-- what is left already stays, where no more are left than may be
left_already : (client active : ℕ) (items : List (Option Item)) (left : List ℕ) → list_any (is_owned client) items ≡ false
    → length left ≤ leave_limit active → left_of client active items left ≡ left
left_already client active items left none few =
    ap (λ (l : List ℕ). left_with (leave_limit active) (left ++ l)) (none_saved client 0 items none)
    ∙ ap (left_with (leave_limit active)) (append-nil left) ∙ few_leaves (leave_limit active) left few

-- a client that was closed has none, so what is left is what its close leaves
pub saved_left : {contexts : ContextLimits} {D : Type 0} {seen : D → Seen} {client : ℕ} {old new : D} {held new_held : Held} {owners : List (Option ℕ)} {failed : ℕ}
    → Drops contexts seen client old new held new_held owners failed → list_any (is_owned client) new_held.sessions.items ≡ false
    → LeavesSaved client held new_held
saved_left {client = client} {new_held = new_held} drops none =
    let view = new_held.sessions in
    λ few.
    sym (left_already client view.numbers.active view.items view.left none
    (subst (λ (n : Numbers). length view.left ≤ leave_limit n.active) (sym drops.numbers) (drops.few_left few)))
    ∙ drops.leaves
