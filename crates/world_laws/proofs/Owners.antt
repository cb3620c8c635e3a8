-- The sessions of clients: whose they are once a client is closed, and which are left then.
use Rattle.std.proofs.Common.{◌≡◌, ◌+◌, ◌-◌, ◌≤◌, ◌<◌, ℕ, zero, suc, Bool, true, false, List, [], ◌∷◌, ◌++◌, Option, length, length-drop, set, map, take, drop, refl, ◌∙◌, ap, sym, subst, arith}
use Rattle.std.specs.Prelude.{◌==◌, ◌&&◌, not, Some, None, is_some, if◌then◌else◌}
use Rattle.std.proofs.lemmas.Bool.{eq-eqb, eqb-true, ne_eqb}
use Rattle.std.proofs.lemmas.List.Sums.{sum_by-take-drop}
use Rattle.tab_spec.specs.Numbers.{leave_limit}
use Rattle.tab_spec.specs.Shape.{number_of_session, octet_of}
use Rattle.history_laws.proofs.Counts.{one_if}
use Rattle.history_laws.proofs.Tables.{get_or_mapped}
use Rattle.world_spec.specs.World.{Owned, World, closed_world, is_of, is_saved_by, left_place, owned_by, owned_under, saved_numbers, without_places}
use Rattle.world_laws.specs.Left.{LeftStands, is_left, times}
use Rattle.world_laws.proofs.Clients.{apart_from}
use Rattle.world_laws.proofs.Listed.{IsSound, once_by, place_at, set_here, set_other, times_both, times_more}

-- ---- the numbers of the sessions that a client saved

one_by : (test : Bool) (k n : ℕ) → (k == n) ≡ true → times n (if test then k ∷ [] else []) ≡ one_if test
one_by true k n is = times_more n k [] ∙ ap (λ (b : Bool). one_if b + 0) is
one_by false k n is = refl

none_by : (test : Bool) (k n : ℕ) → (k == n) ≡ false → times n (if test then k ∷ [] else []) ≡ 0
none_by true k n is = times_more n k [] ∙ ap (λ (b : Bool). one_if b + 0) is
none_by false k n is = refl

saved_above : (client k n : ℕ) (places : List (Option Owned)) → n < k → times n (saved_numbers client k places) ≡ 0
saved_above client k n [] below = refl
saved_above client k n (place ∷ places) below =
    omega (
      arith,
      times_both n (if is_saved_by client place then k ∷ [] else []) (saved_numbers client (k + 1) places),
      none_by (is_saved_by client place) k n (ne_eqb k n (λ same. absurd (omega (arith, same)))),
      saved_above client (k + 1) n places (omega arith),
    )

saved_times : (client k i n : ℕ) (places : List (Option Owned)) → n ≡ k + i
    → times n (saved_numbers client k places) ≡ one_if (is_saved_by client (place_at places i))
saved_times client k i n [] is = refl
saved_times client k zero n (place ∷ places) is =
    omega (
      arith,
      times_both n (if is_saved_by client place then k ∷ [] else []) (saved_numbers client (k + 1) places),
      one_by (is_saved_by client place) k n (eq-eqb k n (omega (arith, is))),
      saved_above client (k + 1) n places (omega (arith, is)),
    )
saved_times client k (suc i) n (place ∷ places) is =
    omega (
      arith,
      times_both n (if is_saved_by client place then k ∷ [] else []) (saved_numbers client (k + 1) places),
      none_by (is_saved_by client place) k n (ne_eqb k n (λ same. absurd (omega (arith, same, is)))),
      saved_times client (k + 1) i n places (omega (arith, is)),
    )

-- ---- what a close leaves of a place

some_owner : (client : ℕ) (owner : Option ℕ) → is_of client owner ≡ true → is_some owner ≡ true
some_owner client None is = absurd cc
some_owner client (Some n) is = refl

left_by : (own kept : Bool) (client : ℕ) (place : Owned) → is_of client place.client ≡ own
    → one_if (not (is_some place.client)) + one_if (own && kept)
    ≡ one_if (is_left (if own then (if kept then Some (record place { client = None }) else None) else Some place))
left_by true true client place is = omega (arith, ap (λ (b : Bool). one_if (not b)) (some_owner client place.client is))
left_by true false client place is = omega (arith, ap (λ (b : Bool). one_if (not b)) (some_owner client place.client is))
left_by false kept client place is = omega arith

-- what is nobody's then was so before, or the client saved it
left_or_saved : (client : ℕ) (place : Option Owned) → one_if (is_left place) + one_if (is_saved_by client place) ≡ one_if (is_left (left_place client place))
left_or_saved client None = refl
left_or_saved client (Some place) = left_by (is_of client place.client) (is_some place.handed) client place refl

sound_by : (own kept : Bool) (place : Owned) → is_some place.handed ≡ kept → IsSound (Some place)
    → IsSound (if own then (if kept then Some (record place { client = None }) else None) else Some place)
sound_by true true place is sound = λ left. is
sound_by true false place is sound = λ left. absurd cc
sound_by false kept place is sound = sound

sound_left : (client : ℕ) (place : Option Owned) → IsSound place → IsSound (left_place client place)
sound_left client None sound = λ left. absurd cc
sound_left client (Some place) sound = sound_by (is_of client place.client) (is_some place.handed) place refl sound

own_by : (own kept : Bool) (client octet : ℕ) (place : Owned) → is_of client place.client ≡ own
    → owned_by client octet (if own then (if kept then Some (record place { client = None }) else None) else Some place) ≡ None
own_by true true client octet place is = refl
own_by true false client octet place is = refl
own_by false kept client octet place is = rw is refl

own_gone : (client octet : ℕ) (place : Option Owned) → owned_by client octet (left_place client place) ≡ None
own_gone client octet None = refl
own_gone client octet (Some place) = own_by (is_of client place.client) (is_some place.handed) client octet place refl

another : (client other : ℕ) (owner : Option ℕ) → is_of client owner ≡ true → (client == other) ≡ false → is_of other owner ≡ false
another client other None is apart = absurd cc
another client other (Some n) is apart = apart_from n client other is apart

other_by : (own kept : Bool) (client other octet : ℕ) (place : Owned) → is_of client place.client ≡ own → (client == other) ≡ false
    → owned_by other octet (if own then (if kept then Some (record place { client = None }) else None) else Some place)
    ≡ owned_by other octet (Some place)
other_by true true client other octet place is apart = rw (another client other place.client is apart) refl
other_by true false client other octet place is apart = rw (another client other place.client is apart) refl
other_by false kept client other octet place is apart = refl

other_stays : (client other octet : ℕ) (place : Option Owned) → (client == other) ≡ false
    → owned_by other octet (left_place client place) ≡ owned_by other octet place
other_stays client other octet None apart = refl
other_stays client other octet (Some place) apart = other_by (is_of client place.client) (is_some place.handed) client other octet place refl apart

nobodys_by : (owner : Option ℕ) (client : ℕ) (same : Bool) (place : Owned) → not (is_some owner) ≡ true
    → (if is_of client owner && same then Some place else None) ≡ None
nobodys_by None client same place is = refl
nobodys_by (Some n) client same place is = absurd cc

nobodys : (client octet : ℕ) (place : Option Owned) → is_left place ≡ true → owned_by client octet place ≡ None
nobodys client octet None is = refl
nobodys client octet (Some place) is = nobodys_by place.client client (place.octet == octet) place is

-- ---- without the places of these numbers

none_set : (places : List (Option Owned)) (m n : ℕ) → place_at places n ≡ None → place_at (set places m None) n ≡ None
none_set [] m n none = none
none_set (place ∷ places) zero zero none = refl
none_set (place ∷ places) zero (suc n) none = none
none_set (place ∷ places) (suc m) zero none = none
none_set (place ∷ places) (suc m) (suc n) none = none_set places m n none

still_none : (numbers : List ℕ) (places : List (Option Owned)) (n : ℕ) → place_at places n ≡ None → place_at (without_places numbers places) n ≡ None
still_none [] places n none = none
still_none (m ∷ numbers) places n none = still_none numbers (set places m None) n (none_set places m n none)

-- a number that isn't among them keeps its place, and one that is has none
kept_by : (here : Bool) (m n : ℕ) (numbers : List ℕ) (places : List (Option Owned)) → (m == n) ≡ here → one_if here + times n numbers ≡ 0
    → (times n numbers ≡ 0 → place_at (without_places numbers (set places m None)) n ≡ place_at (set places m None) n)
    → place_at (without_places numbers (set places m None)) n ≡ place_at places n
kept_by true m n numbers places is none rest = absurd (omega (arith, none))
kept_by false m n numbers places is none rest = rest (omega (arith, none)) ∙ set_other places m n None is

kept : (numbers : List ℕ) (places : List (Option Owned)) (n : ℕ) → times n numbers ≡ 0 → place_at (without_places numbers places) n ≡ place_at places n
kept [] places n none = refl
kept (m ∷ numbers) places n none =
    kept_by (m == n) m n numbers places refl (omega (arith, none, times_more n m numbers)) (kept numbers (set places m None) n)

gone_by : (here : Bool) (m n : ℕ) (numbers : List ℕ) (places : List (Option Owned)) → (m == n) ≡ here → 1 ≤ one_if here + times n numbers
    → (1 ≤ times n numbers → place_at (without_places numbers (set places m None)) n ≡ None)
    → place_at (without_places numbers (set places m None)) n ≡ None
gone_by true m n numbers places is some rest =
    still_none numbers (set places m None) n (ap (λ (k : ℕ). place_at (set places k None) n) (eqb-true m n is)
    ∙ set_here (λ (place : Option Owned). place ≡ None) places n None refl refl)
gone_by false m n numbers places is some rest = rest (omega (arith, some))

gone : (numbers : List ℕ) (places : List (Option Owned)) (n : ℕ) → 1 ≤ times n numbers → place_at (without_places numbers places) n ≡ None
gone [] places n some = absurd (omega (arith, some))
gone (m ∷ numbers) places n some =
    gone_by (m == n) m n numbers places refl (omega (arith, some, times_more n m numbers)) (gone numbers (set places m None) n)

-- ---- a close

-- all that are left, in order, and how many of them go
abbrev all_left : World → ℕ → List ℕ
all_left world client = world.left ++ saved_numbers client 0 world.sessions

abbrev past : World → ℕ → ℕ
past world client = length (all_left world client) - leave_limit world.most

mapped : (client : ℕ) (sessions : List (Option Owned)) (n : ℕ) → place_at (map (left_place client) sessions) n ≡ left_place client (place_at sessions n)
mapped client sessions n = get_or_mapped (left_place client) sessions n refl

all_times : (world : World) (client n : ℕ) → LeftStands world.sessions world.left
    → times n (all_left world client) ≡ one_if (is_left (left_place client (place_at world.sessions n)))
all_times world client n stands =
    omega (
      arith,
      times_both n world.left (saved_numbers client 0 world.sessions),
      stands.listed n,
      saved_times client 0 n n world.sessions (omega arith),
      left_or_saved client (place_at world.sessions n),
    )

cut_times : (n count : ℕ) (ms : List ℕ) → times n (take count ms) + times n (drop count ms) ≡ times n ms
cut_times n count ms = sum_by-take-drop (λ (one : ℕ). one_if (one == n)) ms count

-- the place of a number, by how often it is among those that go
stays : (world : World) (client n : ℕ) → times n (take (past world client) (all_left world client)) ≡ 0
    → place_at (closed_world world client).sessions n ≡ left_place client (place_at world.sessions n)
stays world client n none =
    kept (take (past world client) (all_left world client)) (map (left_place client) world.sessions) n none ∙ mapped client world.sessions n

goes : (world : World) (client n : ℕ) → 1 ≤ times n (take (past world client) (all_left world client))
    → place_at (closed_world world client).sessions n ≡ None
goes world client n some = gone (take (past world client) (all_left world client)) (map (left_place client) world.sessions) n some

listed_by : (count : ℕ) (world : World) (client n : ℕ) → LeftStands world.sessions world.left
    → times n (take (past world client) (all_left world client)) ≡ count
    → times n (closed_world world client).left ≡ one_if (is_left (place_at (closed_world world client).sessions n))
listed_by zero world client n stands is =
    let whole : times n (closed_world world client).left ≡ times n (all_left world client) =
    omega (arith, is, cut_times n (past world client) (all_left world client)) in
    whole ∙ all_times world client n stands ∙ sym (ap (λ (place : Option Owned). one_if (is_left place)) (stays world client n is))
listed_by (suc count) world client n stands is =
    let none : times n (closed_world world client).left ≡ 0 =
    omega (
      arith,
      is,
      cut_times n (past world client) (all_left world client),
      all_times world client n stands,
      once_by (is_left (left_place client (place_at world.sessions n))),
    ) in
    none ∙ sym (ap (λ (place : Option Owned). one_if (is_left place)) (goes world client n (omega (arith, is))))

saved_by : (count : ℕ) (world : World) (client n : ℕ) → LeftStands world.sessions world.left
    → times n (take (past world client) (all_left world client)) ≡ count → IsSound (place_at (closed_world world client).sessions n)
saved_by zero world client n stands is =
    subst IsSound (sym (stays world client n is)) (sound_left client (place_at world.sessions n) (stands.saved n))
saved_by (suc count) world client n stands is = subst IsSound (sym (goes world client n (omega (arith, is)))) (λ left. absurd cc)

pub closed_stands : (world : World) (client : ℕ) → LeftStands world.sessions world.left
    → LeftStands (closed_world world client).sessions (closed_world world client).left
closed_stands world client stands = record {
  listed = λ n. listed_by (times n (take (past world client) (all_left world client))) world client n stands refl;
  saved = λ n. saved_by (times n (take (past world client) (all_left world client))) world client n stands refl;
}

pub closed_few : (world : World) (client : ℕ) → length (closed_world world client).left ≤ leave_limit world.most
closed_few world client = omega (arith, length-drop (past world client) (all_left world client))

-- ---- whose the sessions are then

own_count : (count : ℕ) (world : World) (client octet n : ℕ) → times n (take (past world client) (all_left world client)) ≡ count
    → owned_by client octet (place_at (closed_world world client).sessions n) ≡ None
own_count zero world client octet n is =
    ap (λ (place : Option Owned). owned_by client octet place) (stays world client n is) ∙ own_gone client octet (place_at world.sessions n)
own_count (suc count) world client octet n is =
    ap (λ (place : Option Owned). owned_by client octet place) (goes world client n (omega (arith, is)))

pub own_closed : (world : World) (client handle : ℕ) → owned_under (closed_world world client).sessions client handle ≡ None
own_closed world client handle =
    let n = number_of_session handle in
    own_count (times n (take (past world client) (all_left world client))) world client (octet_of handle) n refl

is_one : (left : Bool) → 1 ≤ one_if left → left ≡ true
is_one true one = refl
is_one false one = absurd (omega (arith, one))

other_count : (count : ℕ) (world : World) (client other octet n : ℕ) → LeftStands world.sessions world.left → (client == other) ≡ false
    → times n (take (past world client) (all_left world client)) ≡ count
    → owned_by other octet (place_at (closed_world world client).sessions n) ≡ owned_by other octet (place_at world.sessions n)
other_count zero world client other octet n stands apart is =
    ap (λ (place : Option Owned). owned_by other octet place) (stays world client n is)
    ∙ other_stays client other octet (place_at world.sessions n) apart
other_count (suc count) world client other octet n stands apart is =
    let left : is_left (left_place client (place_at world.sessions n)) ≡ true =
    is_one (is_left (left_place client (place_at world.sessions n)))
    (omega (arith, is, cut_times n (past world client) (all_left world client), all_times world client n stands)) in
    ap (λ (place : Option Owned). owned_by other octet place) (goes world client n (omega (arith, is)))
    ∙ sym (nobodys other octet (left_place client (place_at world.sessions n)) left)
    ∙ other_stays client other octet (place_at world.sessions n) apart

pub other_closed : (world : World) (client other handle : ℕ) → LeftStands world.sessions world.left → (client == other) ≡ false
    → owned_under (closed_world world client).sessions other handle ≡ owned_under world.sessions other handle
other_closed world client other handle stands apart =
    let n = number_of_session handle in
    other_count (times n (take (past world client) (all_left world client))) world client other (octet_of handle) n stands apart refl
