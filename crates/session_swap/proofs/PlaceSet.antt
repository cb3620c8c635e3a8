-- Lists of which one item is set: the session numbers of a device, and the items of a swapper.
use Rattle.std.proofs.Common.{◌≡◌, ◌≢◌, ◌<◌, ℕ, zero, suc, Bool, true, false, List, [], ◌∷◌, length, get_or, set, map, refl, ap, ◌∙◌, arith}
use Rattle.std.specs.Prelude.{◌||◌, Option}
use Rattle.std.specs.List.{list_any}
use Rattle.std.proofs.lemmas.List.{get_or-set_same, get_or-set_other}
use Rattle.tab_spec.specs.Shape.{number_of_session}
use Rattle.device_spec.specs.Slots.{SessionPlace, SlotState, inactive, session_at, session_in_place, with_place}
use Rattle.session_swap.specs.Items.{flag, place_at}

-- ---- flags

pub flag_true : (b : Bool) → b ≡ true → flag b ≡ 1
flag_true b is = ap flag is

-- ---- tests of items

any_rest : (x y more : Bool) → y ≡ false → (y || more) ≡ true → (x || more) ≡ true
any_rest true y more not some = refl
any_rest false true more not some = absurd cc
any_rest false false more not some = some

any_first : (x more rest : Bool) → (more ≡ true → rest ≡ true) → (x || more) ≡ true → (x || rest) ≡ true
any_first true more rest later some = refl
any_first false more rest later some = later some

-- nothing more is found where an item that isn't it is set
pub any_set : {X : Type 0} (p : X → Bool) (xs : List X) (n : ℕ) (y : X) → p y ≡ false → list_any p (set xs n y) ≡ true
    → list_any p xs ≡ true
any_set p [] n y not some = some
any_set p (x ∷ xs) zero y not some = any_rest (p x) (p y) (list_any p xs) not some
any_set p (x ∷ xs) (suc n) y not some = any_first (p x) (list_any p (set xs n y)) (list_any p xs) (any_set p xs n y not) some

-- ---- all but one

map_same : {X Y : Type 0} (f g : X → Y) (xs : List X) (d : X) → ((m : ℕ) → m < length xs → f (get_or xs m d) ≡ g (get_or xs m d))
    → map f xs ≡ map g xs
map_same f g [] d same = refl
map_same f g (x ∷ xs) d same =
    ap (λ y. y ∷ map f xs) (same 0 (omega arith))
    ∙ ap (λ ys. g x ∷ ys) (map_same f g xs d (λ m inside. same (suc m) (omega arith)))

pub map_but : {X Y : Type 0} (f g : X → Y) (xs : List X) (n : ℕ) (y : Y) (d : X)
    → ((m : ℕ) → m < length xs → m ≢ n → f (get_or xs m d) ≡ g (get_or xs m d)) → set (map f xs) n y ≡ set (map g xs) n y
map_but f g [] n y d same = refl
map_but f g (x ∷ xs) zero y d same = ap (λ ys. y ∷ ys) (map_same f g xs d (λ m inside. same (suc m) (omega arith) (omega arith)))
map_but f g (x ∷ xs) (suc n) y d same =
    ap (λ z. z ∷ set (map f xs) n y) (same 0 (omega arith) (omega arith))
    ∙ ap (λ ys. g x ∷ ys) (map_but f g xs n y d (λ m inside apart. same (suc m) (omega arith) (λ e. apart (omega arith))))

-- ---- places

pub place_here : (slots : SlotState) (n : ℕ) (place : SessionPlace) → n < length slots.sessions
    → place_at (with_place slots n place) n ≡ place
place_here slots n place inside = get_or-set_same slots.sessions n place inactive inside

pub place_elsewhere : (slots : SlotState) (n m : ℕ) (place : SessionPlace) → m ≢ n
    → place_at (with_place slots n place) m ≡ place_at slots m
place_elsewhere slots n m place apart = get_or-set_other slots.sessions n m place inactive apart

-- a session of another number
pub session_elsewhere : (slots : SlotState) (n handle : ℕ) (place : SessionPlace) (context : Option (List ℕ))
    → number_of_session handle ≢ n
    → session_at (with_place slots n place) handle context ≡ session_at slots handle context
session_elsewhere slots n handle place context apart =
    ap (λ (p : SessionPlace). session_in_place slots.persist.seed handle p context)
    (place_elsewhere slots n (number_of_session handle) place apart)

-- the session of this number
pub session_here : (slots : SlotState) (n handle : ℕ) (place : SessionPlace) (context : Option (List ℕ))
    → n < length slots.sessions → number_of_session handle ≡ n
    → session_at (with_place slots n place) handle context ≡ session_in_place slots.persist.seed handle place context
session_here slots n handle place context inside is =
    ap (λ (p : SessionPlace). session_in_place slots.persist.seed handle p context)
    (ap (place_at (with_place slots n place)) is ∙ place_here slots n place inside)
