-- What one more entry makes of a history.
use Rattle.std.proofs.Common.{◌≡◌, ◌<◌, ◌≤◌, ◌+◌, ℕ, zero, suc, Bool, true, false, true≢false, cond, eqb, List, [], ◌∷◌, ◌++◌, length, get_or, replicate, refl, ap, sym, subst, append_assoc, arith, inl, inr, ◌∙◌}
use Rattle.std.specs.Prelude.{◌||◌, Option, Some, None, IfSome, if◌then◌else◌}
use Rattle.std.specs.List.{AllByRecursion, list_any, filter}
use Rattle.std.proofs.lemmas.List.{append-nil}
use Rattle.tab_spec.specs.Numbers.{leave_limit}
use Rattle.tab_spec.specs.Persist.{Persist}
use Rattle.tab_spec.specs.declared.TheConstants.{SESSION_NUMBERS}
use Rattle.tab_spec.specs.Count.{Rose}
use Rattle.history_spec.specs.declared.EntryKind.{EntryKind}
use Rattle.history_spec.specs.declared.EntryKind.TheVariants.{Open, Command, Canceled, Fault, Close}
use Rattle.history_spec.specs.Entry.{Entry, Clients, clients_by, clients_from, clients_of, without, is_fault}
use Rattle.world_spec.specs.World.{ClientStep, Owned, World, after_step, client_step, empty_world, no_sessions, plain_step, state_in, step_in, world_after, world_by, world_from, world_of}
use Rattle.world_laws.specs.Left.{LeftStands, is_left}
use Rattle.world_laws.proofs.Leaving.{client_stands}
use Rattle.world_laws.proofs.Most.{client_most}
use Rattle.world_laws.proofs.Owners.{closed_few, closed_stands}
use Rattle.world_spec.specs.Legal.{MayFollow, LegalFrom, Legal, IsNextCount}

clients_from-push : (clients : Clients) (history : List Entry) (e : Entry) → clients_from clients (history ++ e ∷ []) ≡ clients_by (clients_from clients history) e
clients_from-push clients [] e = refl
clients_from-push clients (x ∷ history) e = clients_from-push (clients_by clients x) history e

pub clients_of-push : (history : List Entry) (e : Entry) → clients_of (history ++ e ∷ []) ≡ clients_by (clients_of history) e
clients_of-push history e = clients_from-push (record { opened = 0; present = [] }) history e

world_from-push : (world : World) (history : List Entry) (e : Entry) → world_from world (history ++ e ∷ []) ≡ world_by (world_from world history) e
world_from-push world [] e = refl
world_from-push world (x ∷ history) e = world_from-push (world_by world x) history e

pub world_of-push : (base : Persist) (most : ℕ) (history : List Entry) (e : Entry) → world_of base most (history ++ e ∷ []) ≡ world_by (world_of base most history) e
world_of-push base most history e = world_from-push (empty_world base most) history e

-- no step changes how many sessions there may be
stepped_most : (world : World) (client : ℕ) (step : Option ClientStep) → IfSome step (λ s. s.0.most ≡ world.most)
    → (after_step world (step_in world client step)).most ≡ world.most
stepped_most world client None keeps = refl
stepped_most world client (Some step) keeps = keeps

after_most : (kind : EntryKind) (world : World) (e : Entry) → (world_after kind world e).most ≡ world.most
unfolding plain_step
after_most Open world e = refl
after_most Command world e =
    stepped_most world e.client (client_step e.client (state_in world e.client) e.command e.pick)
    (client_most e.client (state_in world e.client) e.command e.pick)
after_most (Canceled upto) world e = refl
after_most Fault world e = refl
after_most Close world e = refl

from_most : (world : World) (history : List Entry) → (world_from world history).most ≡ world.most
from_most world [] = refl
from_most world (e ∷ history) = from_most (world_by world e) history ∙ after_most e.kind world e

pub world_most : (base : Persist) (most : ℕ) (history : List Entry) → (world_of base most history).most ≡ most
world_most base most history = from_most (empty_world base most) history

-- ---- the list of left sessions

-- it stands after each entry, and has no more than may be left
record Lists (world : World) : Type 0 where
  stands : LeftStands world.sessions world.left
  few : length world.left ≤ leave_limit world.most

stepped_lists : (world : World) (client : ℕ) (step : Option ClientStep) → Lists world → IfSome step (λ s. s.0.most ≡ world.most)
    → IfSome step (λ s. LeftStands s.0.sessions s.0.left × (length s.0.left ≤ length world.left)) → Lists (after_step world (step_in world client step))
stepped_lists world client None lists keeps follows = lists
stepped_lists world client (Some step) lists keeps follows =
    record { stands = follows.0; few = omega (arith, follows.1, lists.few, ap leave_limit keeps) }

after_lists : (kind : EntryKind) (world : World) (e : Entry) → Lists world → Lists (world_after kind world e)
unfolding plain_step
after_lists Open world e lists = record { stands = lists.stands; few = lists.few }
after_lists Command world e lists =
    stepped_lists world e.client (client_step e.client (state_in world e.client) e.command e.pick) lists
    (client_most e.client (state_in world e.client) e.command e.pick)
    (client_stands e.client (state_in world e.client) e.command e.pick lists.stands)
after_lists (Canceled upto) world e lists = lists
after_lists Fault world e lists = lists
after_lists Close world e lists =
    record { stands = closed_stands world e.client lists.stands; few = closed_few world e.client }

from_lists : (world : World) (history : List Entry) → Lists world → Lists (world_from world history)
from_lists world [] lists = lists
from_lists world (e ∷ history) lists = from_lists (world_by world e) history (after_lists e.kind world e lists)

none_placed : (n count : ℕ) → ◌≡◌ {A = Option Owned} (get_or (replicate count None) n None) None
none_placed n zero = refl
none_placed zero (suc count) = refl
none_placed (suc n) (suc count) = none_placed n count

none_left : LeftStands no_sessions []
none_left = record {
  listed = λ n. sym (ap (λ (place : Option Owned). if is_left place then 1 else 0) (none_placed n SESSION_NUMBERS));
  saved = λ n left. absurd (true≢false (sym left ∙ ap is_left (none_placed n SESSION_NUMBERS)));
}

lists_of : (base : Persist) (most : ℕ) (history : List Entry) → Lists (world_of base most history)
lists_of base most history = from_lists (empty_world base most) history (record { stands = none_left; few = omega arith })

pub left_stands : (base : Persist) (most : ℕ) (history : List Entry)
    → (let world = world_of base most history in LeftStands world.sessions world.left)
left_stands base most history = (lists_of base most history).stands

pub left_few : (base : Persist) (most : ℕ) (history : List Entry) → length (world_of base most history).left ≤ leave_limit most
left_few base most history = omega (arith, (lists_of base most history).few, ap leave_limit (world_most base most history))

-- ---- legal histories

legal_from-push : (base : Persist) (most : ℕ) (before history : List Entry) (e : Entry) → LegalFrom base most before history → MayFollow base most (before ++ history) e → LegalFrom base most before (history ++ e ∷ [])
legal_from-push base most before [] e legal follows = (subst (λ (h : List Entry). MayFollow base most h e) (append-nil before) follows, tt)
legal_from-push base most before (x ∷ history) e legal follows =
    (legal.0, legal_from-push base most (before ++ x ∷ []) history e legal.1 (subst (λ (h : List Entry). MayFollow base most h e) (sym (append_assoc before (x ∷ []) history)) follows))

pub legal-push : (base : Persist) (most : ℕ) (history : List Entry) (e : Entry) → Legal base most history → MayFollow base most history e → Legal base most (history ++ e ∷ [])
legal-push base most history e legal follows = legal_from-push base most [] history e legal follows

-- ---- what holds of each entry

pub each-push : {X : Type 0} (P : X → Type 0) (xs : List X) (x : X) → AllByRecursion P xs → P x → AllByRecursion P (xs ++ x ∷ [])
each-push P [] x all here = (here, tt)
each-push P (y ∷ ys) x all here = (all.0, each-push P ys x all.1 here)

pub each-weaker : {X : Type 0} (P Q : X → Type 0) (xs : List X) → ((x : X) → P x → Q x) → AllByRecursion P xs → AllByRecursion Q xs
each-weaker P Q [] weaker all = tt
each-weaker P Q (x ∷ xs) weaker all = (weaker x all.0, each-weaker P Q xs weaker all.1)

pub each-filter : {X : Type 0} (P : X → Type 0) (p : X → Bool) (xs : List X) → AllByRecursion P xs → AllByRecursion P (filter p xs)
each-filter P p [] all = tt
each-filter P p (x ∷ xs) all =
    elim (p x) as (λ b. AllByRecursion P (cond b (x ∷ filter p xs) (filter p xs))) [
      | true ↦ (all.0, each-filter P p xs all.1)
      | false ↦ each-filter P p xs all.1
    ]

-- the fault count that rose is above each that was kept
pub next_count : (history : List Entry) (old new : ℕ) → AllByRecursion (λ e. e.faults ≤ old) history → Rose old new → IsNextCount history new
next_count history old new counts (inl more) = inl (each-filter (λ e. e.faults < new) is_fault history (each-weaker (λ e. e.faults ≤ old) (λ e. e.faults < new) history (λ e le. omega arith) counts))
next_count history old new counts (inr most) = inr most

-- ---- the open clients

pub length-without : (n : ℕ) (ms : List ℕ) → list_any (λ m. eqb m n) ms ≡ true → length (without n ms) + 1 ≡ length ms
length-without n [] e = absurd cc
length-without n (m ∷ ms) e =
    elim (eqb m n) as (λ b. (b || list_any (λ k. eqb k n) ms) ≡ true → length (cond b ms (m ∷ without n ms)) + 1 ≡ length (m ∷ ms)) [
      | true ↦ λ _. omega arith
      | false ↦ λ h. omega (arith, length-without n ms h)
    ] e
