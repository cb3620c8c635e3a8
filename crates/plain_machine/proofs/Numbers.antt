-- The list of left sessions, as a close and a ContextLoad go over it.
use Rattle.std.proofs.Common.{◌≡◌, ◌+◌, ◌≤◌, ◌<◌, ℕ, Bool, true, false, List, [], ◌∷◌, ◌++◌, length, get_or, map, take, drop, refl, ◌∙◌, ap, sym, append_assoc, arith}
use Rattle.std.specs.Prelude.{◌==◌, Option, if◌then◌else◌}
use Rattle.std.proofs.lemmas.List.{drop_more, get_or_at, length-append, length-map, length-take}
use Rattle.history_spec.specs.Entry.{without}
use Rattle.world_spec.specs.World.{Owned, is_saved_by, saved_numbers}
use Rattle.plain_machine.specs.Left.{place_in}

-- ---- one that is taken out

-- where it isn't one of them, nothing is
same_by : (here : Bool) (one : ℕ) (numbers rest : List ℕ) (place : ℕ) → length (one ∷ numbers) ≤ (if here then 0 else 1 + place)
    → (length numbers ≤ place → rest ≡ numbers) → (if here then numbers else one ∷ rest) ≡ one ∷ numbers
same_by true one numbers rest place past same = absurd (omega (arith, past))
same_by false one numbers rest place past same = ap (λ (ns : List ℕ). one ∷ ns) (same (omega (arith, past)))

pub not_there : (numbers : List ℕ) (number : ℕ) → length numbers ≤ place_in numbers number → without number numbers ≡ numbers
not_there [] number past = refl
not_there (one ∷ numbers) number past =
    same_by (one == number) one numbers (without number numbers) (place_in numbers number) past (not_there numbers number)

-- ---- those that a client saved

-- a walk that writes f x over each place x reads the places as they were
pub walk_reads : (f : Option Owned → Option Owned) (before now : List (Option Owned)) (i : ℕ) (x : Option Owned) → i < length before
    → now ≡ map f (take i before) ++ drop i before → x ≡ get_or now i x → drop i before ≡ x ∷ drop (i + 1) before
walk_reads f before now i x within walked is =
    let front = map f (take i before) in
    let long : length front ≡ i = length-map (take i before) f ∙ omega (arith, length-take i before, within) in
    let parts : now ≡ front ++ get_or before i x ∷ drop (i + 1) before =
    walked ∙ ap (λ (rest : List (Option Owned)). front ++ rest) (drop_more before i x within) in
    let read : x ≡ get_or before i x =
    is ∙ ap (λ (places : List (Option Owned)). get_or places i x) parts ∙ get_or_at front (get_or before i x) (drop (i + 1) before) x i long in
    drop_more before i x within ∙ ap (λ (place : Option Owned). place ∷ drop (i + 1) before) (sym read)

-- with one more place the list goes on
pub saved_on : (client number : ℕ) (place : Option Owned) (places : List (Option Owned)) (numbers more : List ℕ)
    → more ≡ (if is_saved_by client place then numbers ++ number ∷ [] else numbers)
    → more ++ saved_numbers client (number + 1) places ≡ numbers ++ saved_numbers client number (place ∷ places)
saved_on client number place places numbers more is =
    ap (λ (ns : List ℕ). ns ++ saved_numbers client (number + 1) places) is
    ∙ on_by (is_saved_by client place) number numbers (saved_numbers client (number + 1) places)
  where
    on_by : (test : Bool) (number : ℕ) (numbers rest : List ℕ)
        → (if test then numbers ++ number ∷ [] else numbers) ++ rest ≡ numbers ++ ((if test then number ∷ [] else []) ++ rest)
    on_by true number numbers rest = append_assoc numbers (number ∷ []) rest
    on_by false number numbers rest = refl

-- it is one longer at most
listed_by : (left : Bool) (number : ℕ) (numbers : List ℕ) → length (if left then numbers ++ number ∷ [] else numbers) ≤ length numbers + 1
listed_by true number numbers = omega (arith, length-append numbers (number ∷ []))
listed_by false number numbers = omega arith

pub listed_length : (left : Bool) (number : ℕ) (numbers more : List ℕ) → more ≡ (if left then numbers ++ number ∷ [] else numbers)
    → length more ≤ length numbers + 1
listed_length left number numbers more is = omega (arith, ap length is, listed_by left number numbers)
