-- What a pass knows after each call, from what its seat knows.
use Rattle.std.proofs.Common.{◌≡◌, ◌⊎◌, ℕ, ◌+◌, ◌<◌, ◌≤◌, Bool, true, false, cond, true≢false, List, [], ◌∷◌, ◌++◌, length, Option, Some, refl, sym, ap, ◌∙◌, subst, inl, inr, ⊎_elim, arith, length-append}
use Rattle.std.specs.Prelude.{nat_lt}
use mathlib.Core.List.{IsPrefix}
use mathlib.Core.Option.{some, some-injective}
use lib.ListN.{get_elem?}
use Rattle.atomic_table.specs.Seated.{TableId}
use Rattle.atomic_table.specs.Table.{Allows, Me}
use Rattle.history_spec.specs.Entry.{Entry, own}
use Rattle.broker_lock.specs.Known.{Fixed, HasJustKnown, knows, of_known}
use Rattle.broker_lock.specs.Pass.{IsLonger, Joins, PassEnds, PassView, pass_view}
use Rattle.broker_lock.specs.View.{SeatView}
use Rattle.broker_lock.specs.Turn.{HasOneHistory, IsIdle, Settles, longer, settled, settles, split_off, together}
use Rattle.broker_lock.proofs.Knowing.{decided, knows_left, knows_none, knows_of_known, knows_right, nothing_more, of_known_all, of_known_none, own-append, own_in_order, own_left, own_of_known, own_right}
use Rattle.broker_lock.proofs.Parts.{IsAtEnd, shorter-le}
use Rattle.broker_lock.proofs.Steps.{any_step, settles_it}

-- ---- split

pub split_off_is_idle : (v : SeatView) → IsIdle (split_off v)
split_off_is_idle v = record { some_part = omega arith; resting = refl; order = sym (of_known_none [] v.front (λ client k. absurd (true≢false (sym k)))) }

-- ---- join

-- the same clients are known, so a history has the same of them
of_known_same : (known other history : List Entry) → ((client : ℕ) → knows known client ≡ knows other client) → of_known known history ≡ of_known other history
of_known_same known other [] same = refl
of_known_same known other (x ∷ history) same =
    let rest = of_known_same known other history same in λ i. cond (same x.client i) (x ∷ rest i) (rest i)

pub settled_is_idle : (v : SeatView) → 0 < v.parts → v.acting ≡ false → HasJustKnown v.known v.front → IsIdle (settled v)
settled_is_idle v some_part resting own_is = record {
  some_part = some_part;
  resting = resting;
  order = sym (of_known_same (of_known v.known v.front) v.known v.front (knows_of_known v.known v.front own_is));
}

longer_is : (b : Bool) (one other : List Entry) → IsPrefix (cond b one other) (cond b other one) → IsLonger one other (cond b other one)
longer_is true one other pre = inr (refl, pre)
longer_is false one other pre = inl (refl, pre)

-- who is known to one isn't known to the other
known_apart : (one other front : List Entry) (first second : List Entry) (client : ℕ) → HasJustKnown one first → HasJustKnown other second → HasJustKnown (one ++ other) front
    → (front ≡ first) ⊎ (front ≡ second) → knows one client ≡ true → knows other client ≡ false
known_apart one other front first second client own_one own_other own_both (inl is) k =
    knows_none client other (nothing_more (own one client) (own other client) (sym (own-append client one other) ∙ sym (own_both client (knows_left client one other k)) ∙ ap (λ (l : List Entry). own l client) is ∙ own_one client k))
known_apart one other front first second client own_one own_other own_both (inr is) k =
    ⊎_elim
    (λ (l : knows other client ≡ true). absurd (true≢false (sym k ∙ knows_none client one
    (nothing_before (own one client) (own other client) (sym (own-append client one other) ∙ sym (own_both client (knows_right client one other l)) ∙ ap (λ (x : List Entry). own x client) is ∙ own_other client l)))))
    (λ (l : knows other client ≡ false). l)
    (decided (knows other client))
  where
    nothing_before : (xs ys : List Entry) → xs ++ ys ≡ ys → xs ≡ []
    nothing_before [] ys e = refl
    nothing_before (x ∷ xs) ys e = absurd (omega (arith, ap length e, length-append (x ∷ xs) ys))

which : (b : Bool) (one other : List Entry) → (cond b other one ≡ one) ⊎ (cond b other one ≡ other)
which true one other = inr refl
which false one other = inl refl

joined_view : (lock other : TableId) (v w : SeatView) → IsIdle v → IsIdle w → Settles (together v w) (settled (together v w))
    → Joins (pass_view lock v) (pass_view other w) (pass_view lock (settled (together v w)))
joined_view lock other v w ours theirs told = record {
  front = longer_is (nat_lt (length v.front) (length w.front)) v.front w.front told.met;
  known = refl;
  apart = apart;
  of_old = λ client k. own_of_known both front client (knows_left client v.known w.known k) ∙ told.own client (knows_left client v.known w.known k) ∙ own_left client v.known w.known (apart client k);
  of_ended = λ client k. own_of_known both front client (knows_right client v.known w.known k) ∙ told.own client (knows_right client v.known w.known k) ∙ own_right client v.known w.known (not_ours client k);
  own = λ client k. sym (own_of_known both front client (sym (knows_of_known both front told.own client) ∙ k));
  lock = refl;
  fixed = refl;
  parts = refl;
  wrong = refl;
}
  where
    both : List Entry
    both = v.known ++ w.known

    front : List Entry
    front = longer v.front w.front

    apart : (client : ℕ) → knows v.known client ≡ true → knows w.known client ≡ false
    apart client k = known_apart v.known w.known front v.front w.front client (own_in_order v.known v.front ours.order) (own_in_order w.known w.front theirs.order) told.own
        (which (nat_lt (length v.front) (length w.front)) v.front w.front) k

    not_ours : (client : ℕ) → knows w.known client ≡ true → knows v.known client ≡ false
    not_ours client k = ⊎_elim (λ (l : knows v.known client ≡ true). absurd (true≢false (sym k ∙ apart client l))) (λ (l : knows v.known client ≡ false). l) (decided (knows v.known client))

pub settles_to : (v w before after : SeatView) → before ≡ together v w → Settles before after → Settles (together v w) after
settles_to v w before after is told = subst (λ (u : SeatView). Settles u after) is told

-- the seats are at these tables
pub joined_at : (lock other at : TableId) (v w new : SeatView) (old ended : PassView) → IsIdle v → IsIdle w → pass_view lock v ≡ old → pass_view other w ≡ ended → at ≡ lock
    → Settles (together v w) new → Joins old ended (pass_view at new)
joined_at lock other at v w new old ended ours theirs old_is ended_is same told =
    let now : pass_view lock (settled (together v w)) ≡ pass_view at new = λ i. pass_view (sym same i) (sym told.now i) in
    subst (λ (p : PassView). Joins old ended p) now
    (subst (λ (p : PassView). Joins old p (pass_view lock (settled (together v w)))) ended_is
    (subst (λ (p : PassView). Joins p (pass_view other w) (pass_view lock (settled (together v w)))) old_is
    (joined_view lock other v w ours theirs record { now = refl; met = told.met; own = told.own })))

pub joined_is_idle : (v w new : SeatView) → IsIdle v → IsIdle w → Settles (together v w) new → IsIdle new
joined_is_idle v w new ours theirs told =
    let some_part = ours.some_part in
    subst IsIdle (sym told.now) (settled_is_idle (together v w) (omega arith) ours.resting told.own)

module _ {B : Type 0} (history : B → List Entry) (fixed : B → Fixed) (wrong : B → Bool) where
  pub settles_at : (slots id : ℕ) (v w : SeatView) (me : Me (Option B) SeatView) → me.0 ≡ together v w → IsIdle v
      → Allows (HasOneHistory history fixed wrong) slots id me 1 (λ n. n) (settles (any_step history fixed wrong) me)
  settles_at slots id v w me is ours =
      let some_part = ours.some_part in
      let parts : me.0.parts ≡ v.parts + w.parts = ap (λ (u : SeatView). u.parts) is in
      settles_it history fixed wrong slots id me (omega arith)
      (subst (λ (u : SeatView). length u.met ≤ length u.front) (sym is) (shorter-le v.front w.front))

  -- ---- close

  -- the value is at home
  pub value_is : (v : SeatView) (xs : List (Option B)) (found : Option B) → (e : IsAtEnd history fixed wrong v xs) → get_elem? xs 0 ≡ some found → found ≡ Some e.value
  value_is v xs found e there = some-injective found (Some e.value) (sym there ∙ e.home)

  pub ends_at : (lock : TableId) (v : SeatView) (xs : List (Option B)) (value : B) (pass : PassView) → IsIdle v → IsAtEnd history fixed wrong v xs → get_elem? xs 0 ≡ some (Some value)
      → pass_view lock v ≡ pass → PassEnds pass (history value) (fixed value) (wrong value)
  ends_at lock v xs value pass idle e there is =
      let same : value ≡ e.value = cc (value_is v xs (Some value) e there) in
      subst (λ (p : PassView). PassEnds p (history value) (fixed value) (wrong value)) is
      (subst (λ (x : B). PassEnds (pass_view lock v) (history x) (fixed x) (wrong x)) (sym same) record {
        front = e.front;
        all = e.all;
        known = e.front ∙ sym (of_known_all v.known v.front (λ client k. e.all client (ap (λ (l : List Entry). knows l client) e.front ∙ k))) ∙ sym idle.order;
        fixed_is = e.fixed_is;
        told = e.told;
      })
