-- A step that changes what one seat knows keeps the rule of the table.
use Rattle.std.proofs.Common.{◌≡◌, ◌≢◌, ◌⊎◌, ℕ, zero, suc, Bool, true, false, cond, true≢false, List, [], ◌∷◌, set, Option, refl, sym, ap, ◌∙◌, subst, inl, inr, ⊎_elim, arith}
use mathlib.Core.Option.{none, some, some-injective, some-ne-none}
use mathlib.Core.Option as maybe
use native.Mathlib.Decide.{ℕ_discrete}
use lib.ListN.{get_elem?}
use Rattle.atomic_table.specs.Table.{State}
use Rattle.atomic_table.proofs.Lists.{at_set, set_else}
use Rattle.history_spec.specs.Entry.{Entry}
use Rattle.broker_lock.specs.Known.{Fixed, knows}
use Rattle.broker_lock.specs.View.{SeatView}
use Rattle.broker_lock.specs.Turn.{HasOneHistory, IsOrderly, IsTrueOf, IsTurnFree, IsTurnTaken}
use Rattle.broker_lock.proofs.Beginnings.{sum_at_set}
use Rattle.broker_lock.proofs.Knowing.{decided}
use Rattle.broker_lock.proofs.Orderly.{known_there}

-- ---- a list that is read by number

pub at_once : {X : Type 0} (xs : List X) (i : ℕ) (v w : X) → get_elem? xs i ≡ some v → get_elem? (set xs i w) i ≡ some w
at_once [] i v w at = absurd (some-ne-none v (sym at))
at_once (x ∷ xs) zero v w at = refl
at_once (x ∷ xs) (suc i) v w at = at_once xs i v w at

pub same_at : {X : Type 0} (xs : List X) (i j : ℕ) (v w : X) → get_elem? xs i ≡ some v → get_elem? xs j ≡ some w → j ≡ i → w ≡ v
same_at xs i j v w at there is = some-injective w v (sym there ∙ ap (get_elem? xs) is ∙ at)

-- what holds of each place, where one changes
pub each_set : {X : Type 0} (K : ℕ → X → Type 0) (xs : List X) (i : ℕ) (w : X) → K i w → ((j : ℕ) (u : X) → j ≢ i → get_elem? xs j ≡ some u → K j u)
    → (j : ℕ) (u : X) → get_elem? (set xs i w) j ≡ some u → K j u
each_set {X} K xs i w mine others j u at =
    ⊎_elim
    (λ (t : (j ≡ i) × (w ≡ u)). subst (λ (x : ℕ × X). K x.0 x.1) (λ k. (sym t.0 k, t.1 k)) mine)
    (λ (t : (j ≢ i) × (get_elem? xs j ≡ some u)). others j u t.0 t.1)
    (at_set xs i j w u at)

module _ {B : Type 0} (history : B → List Entry) (fixed : B → Fixed) (wrong : B → Bool) where
  abbrev pub St : Type 0
  St = State (Option B) SeatView

  abbrev pub Homes : Type 0
  Homes = List (maybe.Option (Option B))

  abbrev pub after : List ℕ → Homes → List SeatView → St
  after words homes views = record { words = words; homes = homes; views = views }

  -- who knew a client keeps it, or knows a new one
  pub moved : (s : St) (r : HasOneHistory history fixed wrong s) (id : ℕ) (v w : SeatView) (words : List ℕ) (homes : Homes) (log : List Entry) (came : Bool)
      → get_elem? s.views id ≡ some v → w.parts ≡ v.parts → IsOrderly log
      → IsTurnFree history fixed wrong r.all log came (after words homes (set s.views id w)) ⊎ IsTurnTaken log came (after words homes (set s.views id w))
      → ((j : ℕ) (u : SeatView) → j ≢ id → get_elem? s.views j ≡ some u → IsTrueOf r.all log came u) → IsTrueOf r.all log came w
      → ((client : ℕ) → knows v.known client ≡ true → knows w.known client ≡ true)
      → ((client : ℕ) → knows w.known client ≡ true → knows v.known client ≡ false → knows r.log client ≡ false)
      → ((client : ℕ) → knows log client ≡ true → knows w.known client ≡ false → knows r.log client ≡ true)
      → (w.front ≡ log) ⊎ ((log ≡ r.log) × (w.front ≡ v.front))
      → HasOneHistory history fixed wrong (after words homes (set s.views id w))
  moved s r id v w words homes log came at parts orderly turn others mine kept new all longest = record {
    all = r.all;
    log = log;
    came = came;
    orderly = orderly;
    turn = turn;
    parts = let sum = sum_at_set (λ (u : SeatView). u.parts) s.views id v w at in let whole = r.parts in omega arith;
    each = each_set (λ j u. IsTrueOf r.all log came u) s.views id w mine others;
    owner = λ client. cond (knows w.known client) id (r.owner client);
    owned = each_set (λ j u. (client : ℕ) → knows u.known client ≡ true → cond (knows w.known client) id (r.owner client) ≡ j) s.views id w
        (λ client k. ap (λ (b : Bool). cond b id (r.owner client)) k)
        (λ j u apart there client k. elsewhere j u apart there client k (decided (knows w.known client)));
    owns = λ client there. found client there (decided (knows w.known client));
    longest = ⊎_elim (λ e. (id, w, at_once s.views id v w at, e)) (λ t. still t.0 t.1 (ℕ_discrete r.longest.0 id)) longest;
  }
    where
      elsewhere : (j : ℕ) (u : SeatView) → j ≢ id → get_elem? s.views j ≡ some u → (client : ℕ) → knows u.known client ≡ true
          → (knows w.known client ≡ true) ⊎ (knows w.known client ≡ false) → cond (knows w.known client) id (r.owner client) ≡ j
      elsewhere j u apart there client k (inl here) = absurd (⊎_elim
          (λ (before : knows v.known client ≡ true). apart (sym (r.owned j u there client k) ∙ r.owned id v at client before))
          (λ (before : knows v.known client ≡ false). true≢false (sym (known_there u.known r.log client (r.each j u there).own_log k) ∙ new client here before))
          (decided (knows v.known client)))
      elsewhere j u apart there client k (inr unknown) =
          ap (λ (b : Bool). cond b id (r.owner client)) unknown ∙ r.owned j u there client k

      found : (client : ℕ) → knows log client ≡ true → (knows w.known client ≡ true) ⊎ (knows w.known client ≡ false)
          → (u : SeatView) × (get_elem? (set s.views id w) (cond (knows w.known client) id (r.owner client)) ≡ some u) × (knows u.known client ≡ true)
      found client there (inl here) =
          (w, ap (λ (b : Bool). get_elem? (set s.views id w) (cond b id (r.owner client))) here ∙ at_once s.views id v w at, here)
      found client there (inr unknown) =
          let before = r.owns client (all client there unknown) in
          let apart : r.owner client ≢ id = λ is. true≢false (sym (kept client (ap (λ (u : SeatView). knows u.known client) (sym (same_at s.views id (r.owner client) v before.0 at before.1 is)) ∙ before.2)) ∙ unknown) in
          (before.0, ap (λ (b : Bool). get_elem? (set s.views id w) (cond b id (r.owner client))) unknown ∙ set_else s.views id (r.owner client) w apart ∙ before.1, before.2)

      still : log ≡ r.log → w.front ≡ v.front → Dec (r.longest.0 ≡ id) → (j : ℕ) × (u : SeatView) × (get_elem? (set s.views id w) j ≡ some u) × (u.front ≡ log)
      still same front (yes is) =
          (id, w, at_once s.views id v w at, front ∙ ap (λ (u : SeatView). u.front) (sym (same_at s.views id r.longest.0 v r.longest.1 at r.longest.2 is)) ∙ r.longest.3 ∙ sym same)
      still same front (no apart) =
          (r.longest.0, r.longest.1, set_else s.views id r.longest.0 w apart ∙ r.longest.2, r.longest.3 ∙ sym same)

  -- the turn, where the history and the words stay, and the seat sees as much and acts as before
  pub turn_stays : (s : St) (r : HasOneHistory history fixed wrong s) (id : ℕ) (v w : SeatView) → get_elem? s.views id ≡ some v → w.acting ≡ v.acting → w.front ≡ v.front → w.wrong ≡ v.wrong
      → IsTurnFree history fixed wrong r.all r.log r.came (after s.words s.homes (set s.views id w)) ⊎ IsTurnTaken r.log r.came (after s.words s.homes (set s.views id w))
  turn_stays s r id v w at acts front came = ⊎_elim (λ f. inl (free f)) (λ t. inr (taken t)) r.turn
    where
      free : IsTurnFree history fixed wrong r.all r.log r.came s → IsTurnFree history fixed wrong r.all r.log r.came (after s.words s.homes (set s.views id w))
      free f = record {
        value = f.value;
        words = f.words;
        home = f.home;
        history_is = f.history_is;
        fixed_is = f.fixed_is;
        wrong_is = f.wrong_is;
        nobody = each_set (λ j u. u.acting ≡ false) s.views id w (acts ∙ f.nobody id v at) (λ j u apart there. f.nobody j u there);
      }

      actor : (t : IsTurnTaken r.log r.came s) → Dec (t.seat ≡ id) → (u : SeatView) × (get_elem? (set s.views id w) t.seat ≡ some u) × (u.acting ≡ true)
      actor t (yes is) =
          (w, ap (get_elem? (set s.views id w)) is ∙ at_once s.views id v w at, acts ∙ ap (λ (u : SeatView). u.acting) (sym (same_at s.views id t.seat v t.actor.0 at t.actor.1 is)) ∙ t.actor.2)
      actor t (no apart) = (t.actor.0, set_else s.views id t.seat w apart ∙ t.actor.1, t.actor.2)

      taken : IsTurnTaken r.log r.came s → IsTurnTaken r.log r.came (after s.words s.homes (set s.views id w))
      taken t = record {
        seat = t.seat;
        words = t.words;
        out = t.out;
        actor = actor t (ℕ_discrete t.seat id);
        alone = each_set (λ j u. u.acting ≡ true → (j ≡ t.seat) × (u.front ≡ r.log) × (u.wrong ≡ r.came)) s.views id w
            (λ now. let was = t.alone id v at (sym acts ∙ now) in (was.0, front ∙ was.1, came ∙ was.2))
            (λ j u apart there. t.alone j u there);
      }
