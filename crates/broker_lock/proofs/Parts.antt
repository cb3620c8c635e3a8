-- Passes are cut in two and made one, and the lock begins and ends.
use Rattle.std.proofs.Common.{◌≡◌, ◌≢◌, ◌⊎◌, ℕ, zero, suc, ◌<◌, ◌≤◌, Bool, true, false, cond, true≢false, List, [], ◌∷◌, ◌++◌, length, set, Option, Some, refl, sym, ap, ◌∙◌, subst, inl, inr, ⊎_elim, arith}
use Rattle.std.specs.Prelude.{nat_lt}
use Rattle.std.proofs.lemmas.Bool.{ltb-false, ltb-true, or_cases}
use Rattle.std.proofs.lemmas.List.Sums.{sum_by_push}
use mathlib.Core.List.{IsPrefix}
use mathlib.Core.Option.{some, some-injective, some-ne-none}
use native.Mathlib.Decide.{ℕ_discrete}
use lib.ListN.{get_elem?}
use Rattle.atomic_table.specs.Table.{Final, Joins, Seen, Splits, State, opening}
use Rattle.atomic_table.proofs.Lists.{at_longer, at_snoc, set_else}
use Rattle.history_spec.specs.Entry.{Entry, own}
use Rattle.broker_lock.specs.Known.{Fixed, HasJustKnown, knows}
use Rattle.broker_lock.specs.View.{SeatView, first_view, spent_view}
use Rattle.broker_lock.specs.Turn.{HasOneHistory, IsTrueOf, IsTurnFree, IsTurnTaken, left_with, longer, shorter, split_off, together}
use Rattle.broker_lock.proofs.Beginnings.{of_nil, prefix_length, prefix_nil, prefix_refl, same_length, shorter_begins, sum_at_set, sum_at_two}
use Rattle.broker_lock.proofs.Knowing.{decided, knows_either, knows_left, knows_right, own_between, own_left, own_right}
use Rattle.broker_lock.proofs.Orderly.{orderly_at_first}
use Rattle.broker_lock.proofs.Seats.{after, at_once, each_set, same_at}

-- what holds of each place, where one changes and one is new
each_more : {X : Type 0} (K : ℕ → X → Type 0) (xs : List X) (i : ℕ) (w new : X) → K i w → ((j : ℕ) → K j new) → ((j : ℕ) (u : X) → j ≢ i → get_elem? xs j ≡ some u → K j u)
    → (j : ℕ) (u : X) → get_elem? (set xs i w ++ new ∷ []) j ≡ some u → K j u
each_more {X} K xs i w new mine last others j u at =
    ⊎_elim
    (λ (there : get_elem? (set xs i w) j ≡ some u). each_set K xs i w mine others j u there)
    (λ (is : new ≡ u). subst (K j) is (last j))
    (at_snoc (set xs i w) new u j at)

-- and where two change
each_both : {X : Type 0} (K : ℕ → X → Type 0) (xs : List X) (i k : ℕ) (w spent : X) → K i w → K k spent → ((j : ℕ) (u : X) → j ≢ i → j ≢ k → get_elem? xs j ≡ some u → K j u)
    → (j : ℕ) (u : X) → get_elem? (set (set xs i w) k spent) j ≡ some u → K j u
each_both {X} K xs i k w spent mine theirs others =
    each_set K (set xs i w) k spent theirs (λ j u apart there. each_set (λ (m : ℕ) (x : X). m ≢ k → K m x) xs i w (λ _. mine) (λ m x off at differs. others m x off differs at) j u there apart)

module _ {B : Type 0} (history : B → List Entry) (fixed : B → Fixed) (wrong : B → Bool) where
  -- ---- a pass is split

  pub splits_it : (id : ℕ) (v : SeatView) → 2 ≤ v.parts → v.acting ≡ false → Splits (HasOneHistory history fixed wrong) id v (left_with v) (split_off v)
  splits_it id v two resting s r at = record {
    all = r.all;
    log = r.log;
    came = r.came;
    orderly = r.orderly;
    turn = ⊎_elim (λ f. inl (free f)) (λ t. inr (taken t)) r.turn;
    parts = let sum = sum_at_set (λ (u : SeatView). u.parts) s.views id v (left_with v) at in
        let more = sum_by_push (λ (u : SeatView). u.parts) (set s.views id (left_with v)) (split_off v) in let whole = r.parts in omega arith;
    each = each_more (λ j u. IsTrueOf r.all r.log r.came u) s.views id (left_with v) (split_off v) mine (λ j. given) (λ j u apart there. r.each j u there);
    owner = r.owner;
    owned = each_more (λ j u. (client : ℕ) → knows u.known client ≡ true → r.owner client ≡ j) s.views id (left_with v) (split_off v)
        (r.owned id v at) (λ j client k. absurd (true≢false (sym k))) (λ j u apart there. r.owned j u there);
    owns = λ client there. let o = r.owns client there in found client o.0 o.1 o.2 (ℕ_discrete (r.owner client) id);
    longest = longest_one (ℕ_discrete r.longest.0 id);
  }
    where
      views : List SeatView
      views = set s.views id (left_with v) ++ split_off v ∷ []

      was : IsTrueOf r.all r.log r.came v
      was = r.each id v at

      mine : IsTrueOf r.all r.log r.came (left_with v)
      mine = record {
        fixed_is = λ some_part. was.fixed_is (omega arith);
        front = was.front;
        met = was.met;
        own_log = was.own_log;
        own_front = was.own_front;
        spent = λ none_left. absurd (omega arith);
        told = was.told;
      }

      given : IsTrueOf r.all r.log r.came (split_off v)
      given = record {
        fixed_is = λ some_part. was.fixed_is (omega arith);
        front = was.front;
        met = prefix_nil r.log;
        own_log = λ client k. absurd (true≢false (sym k));
        own_front = λ client k. absurd (true≢false (sym k));
        spent = λ none_left. absurd (omega arith);
        told = was.told;
      }

      here : get_elem? views id ≡ some (left_with v)
      here = at_longer (set s.views id (left_with v)) (split_off v ∷ []) id (left_with v) (at_once s.views id v (left_with v) at)

      there : (j : ℕ) (u : SeatView) → j ≢ id → get_elem? s.views j ≡ some u → get_elem? views j ≡ some u
      there j u apart is = at_longer (set s.views id (left_with v)) (split_off v ∷ []) j u (set_else s.views id j (left_with v) apart ∙ is)

      free : IsTurnFree history fixed wrong r.all r.log r.came s → IsTurnFree history fixed wrong r.all r.log r.came (after history fixed wrong s.words s.homes views)
      free f = record {
        value = f.value;
        words = f.words;
        home = f.home;
        history_is = f.history_is;
        fixed_is = f.fixed_is;
        wrong_is = f.wrong_is;
        nobody = each_more (λ j u. u.acting ≡ false) s.views id (left_with v) (split_off v) resting (λ j. refl) (λ j u apart is. f.nobody j u is);
      }

      taken : IsTurnTaken r.log r.came s → IsTurnTaken r.log r.came (after history fixed wrong s.words s.homes views)
      taken t = record {
        seat = t.seat;
        words = t.words;
        out = t.out;
        actor = let apart : t.seat ≢ id = λ is. true≢false (sym t.actor.2 ∙ ap (λ (u : SeatView). u.acting) (same_at s.views id t.seat v t.actor.0 at t.actor.1 is) ∙ resting) in
            (t.actor.0, there t.seat t.actor.0 apart t.actor.1, t.actor.2);
        alone = each_more (λ j u. u.acting ≡ true → (j ≡ t.seat) × (u.front ≡ r.log) × (u.wrong ≡ r.came)) s.views id (left_with v) (split_off v)
            (λ acts. absurd (true≢false (sym acts ∙ resting))) (λ j acts. absurd (true≢false (sym acts))) (λ j u apart is. t.alone j u is);
      }

      found : (client : ℕ) (u : SeatView) → get_elem? s.views (r.owner client) ≡ some u → knows u.known client ≡ true → Dec (r.owner client ≡ id)
          → (w : SeatView) × (get_elem? views (r.owner client) ≡ some w) × (knows w.known client ≡ true)
      found client u is k (yes same) =
          (left_with v, ap (get_elem? views) same ∙ here, ap (λ (x : SeatView). knows x.known client) (sym (same_at s.views id (r.owner client) v u at is same)) ∙ k)
      found client u is k (no apart) = (u, there (r.owner client) u apart is, k)

      longest_one : Dec (r.longest.0 ≡ id) → (j : ℕ) × (u : SeatView) × (get_elem? views j ≡ some u) × (u.front ≡ r.log)
      longest_one (yes same) =
          (id, left_with v, here, ap (λ (x : SeatView). x.front) (sym (same_at s.views id r.longest.0 v r.longest.1 at r.longest.2 same)) ∙ r.longest.3)
      longest_one (no apart) = (r.longest.0, r.longest.1, there r.longest.0 r.longest.1 apart r.longest.2, r.longest.3)

-- ---- the longer of two fronts

longer_by : (b : Bool) (one other : List Entry) (log : List Entry) → IsPrefix one log → IsPrefix other log → IsPrefix (cond b other one) log
longer_by true one other log left right = right
longer_by false one other log left right = left

shorter_by : (b : Bool) (one other : List Entry) (log : List Entry) → IsPrefix one log → IsPrefix other log → IsPrefix (cond b one other) log
shorter_by true one other log left right = left
shorter_by false one other log left right = right

-- each of the two begins it
begins_by : (b : Bool) (one other log : List Entry) → nat_lt (length one) (length other) ≡ b → IsPrefix one log → IsPrefix other log
    → IsPrefix one (cond b other one) × IsPrefix other (cond b other one)
begins_by true one other log test left right =
    let less = ltb-true (length one) (length other) test in (shorter_begins one other log left right (omega arith), prefix_refl other)
begins_by false one other log test left right =
    let more = ltb-false (length one) (length other) test in (prefix_refl one, shorter_begins other one log right left (omega arith))

whole : (one longer log : List Entry) → IsPrefix one longer → IsPrefix longer log → one ≡ log → longer ≡ log
whole one longer log left right is =
    same_length longer log right (omega (arith, prefix_length one longer left, ap length is))

-- the met front is the shorter
pub shorter-le : (one other : List Entry) → length (shorter one other) ≤ length (longer one other)
shorter-le one other = by_test (nat_lt (length one) (length other)) refl
  where
    by_test : (b : Bool) → nat_lt (length one) (length other) ≡ b → length (cond b one other) ≤ length (cond b other one)
    by_test true test = let less = ltb-true (length one) (length other) test in omega arith
    by_test false test = let more = ltb-false (length one) (length other) test in more

module _ {B : Type 0} (history : B → List Entry) (fixed : B → Fixed) (wrong : B → Bool) where
  -- ---- two passes are made one

  pub joins_it : (id other : ℕ) (v w : SeatView) → 0 < v.parts → 0 < w.parts → v.acting ≡ false → w.acting ≡ false → Joins (HasOneHistory history fixed wrong) id v other w (together v w) spent_view
  joins_it id other v w some_part parts_left resting still s r at apart given = record {
    all = r.all;
    log = r.log;
    came = r.came;
    orderly = r.orderly;
    turn = ⊎_elim (λ f. inl (free f)) (λ t. inr (taken t)) r.turn;
    parts = let one = sum_at_set (λ (u : SeatView). u.parts) s.views id v (together v w) at in
        let two = sum_at_set (λ (u : SeatView). u.parts) (set s.views id (together v w)) other w spent_view given in let whole = r.parts in omega arith;
    each = each_both (λ j u. IsTrueOf r.all r.log r.came u) s.views id other (together v w) spent_view mine gone (λ j u _ _ there. r.each j u there);
    owner = λ client. cond (knows w.known client) id (r.owner client);
    owned = each_both (λ j u. (client : ℕ) → knows u.known client ≡ true → cond (knows w.known client) id (r.owner client) ≡ j) s.views id other (together v w) spent_view
        (λ client k. is_mine client (decided (knows w.known client)) (knows_either client v.known w.known k)) (λ client k. absurd (true≢false (sym k)))
        (λ j u _ off there client k. not_mine j u off there client k (decided (knows w.known client)));
    owns = λ client there. let o = r.owns client there in found client o.0 o.1 o.2 (decided (knows w.known client)) (ℕ_discrete (r.owner client) id) (ℕ_discrete (r.owner client) other);
    longest = longest_one (ℕ_discrete r.longest.0 id) (ℕ_discrete r.longest.0 other);
  }
    where
      views : List SeatView
      views = set (set s.views id (together v w)) other spent_view

      at_other : get_elem? s.views other ≡ some w
      at_other = sym (set_else s.views id other (together v w) apart) ∙ given

      was : IsTrueOf r.all r.log r.came v
      was = r.each id v at

      theirs : IsTrueOf r.all r.log r.came w
      theirs = r.each other w at_other

      begins : IsPrefix v.front (longer v.front w.front) × IsPrefix w.front (longer v.front w.front)
      begins = begins_by (nat_lt (length v.front) (length w.front)) v.front w.front r.log refl was.front theirs.front

      in_log : IsPrefix (longer v.front w.front) r.log
      in_log = longer_by (nat_lt (length v.front) (length w.front)) v.front w.front r.log was.front theirs.front

      -- nobody is known to both
      not_theirs : (client : ℕ) → knows v.known client ≡ true → knows w.known client ≡ false
      not_theirs client k = ⊎_elim
          (λ (both : knows w.known client ≡ true). absurd (apart (sym (r.owned other w at_other client both) ∙ r.owned id v at client k)))
          (λ (no_one : knows w.known client ≡ false). no_one)
          (decided (knows w.known client))

      not_ours : (client : ℕ) → knows w.known client ≡ true → knows v.known client ≡ false
      not_ours client k = ⊎_elim
          (λ (both : knows v.known client ≡ true). absurd (true≢false (sym k ∙ not_theirs client both)))
          (λ (no_one : knows v.known client ≡ false). no_one)
          (decided (knows v.known client))

      own_of : (history_of : List Entry) → ((client : ℕ) → knows v.known client ≡ true → own history_of client ≡ own v.known client)
          → ((client : ℕ) → knows w.known client ≡ true → own history_of client ≡ own w.known client) → HasJustKnown (v.known ++ w.known) history_of
      own_of history_of ours others client k = ⊎_elim
          (λ (left : knows v.known client ≡ true). ours client left ∙ sym (own_left client v.known w.known (not_theirs client left)))
          (λ (right : knows w.known client ≡ true). others client right ∙ sym (own_right client v.known w.known (not_ours client right)))
          (knows_either client v.known w.known k)

      mine : IsTrueOf r.all r.log r.came (together v w)
      mine = record {
        fixed_is = λ _. was.fixed_is some_part;
        front = in_log;
        met = shorter_by (nat_lt (length v.front) (length w.front)) v.front w.front r.log was.front theirs.front;
        own_log = own_of r.log was.own_log theirs.own_log;
        own_front = own_of (longer v.front w.front)
            (λ client k. own_between client v.front (longer v.front w.front) r.log begins.0 in_log (was.own_log client k ∙ sym (was.own_front client k)) ∙ was.own_front client k)
            (λ client k. own_between client w.front (longer v.front w.front) r.log begins.1 in_log (theirs.own_log client k ∙ sym (theirs.own_front client k)) ∙ theirs.own_front client k);
        spent = λ none_left. absurd (omega arith);
        told = λ knew. ⊎_elim was.told theirs.told (or_cases v.wrong w.wrong knew);
      }

      gone : IsTrueOf r.all r.log r.came spent_view
      gone = record {
        fixed_is = λ some_left. absurd (omega arith);
        front = prefix_nil r.log;
        met = prefix_nil r.log;
        own_log = λ client k. absurd (true≢false (sym k));
        own_front = λ client k. absurd (true≢false (sym k));
        spent = λ none_left. (refl, refl, refl);
        told = λ knew. absurd (true≢false (sym knew));
      }

      here : get_elem? views id ≡ some (together v w)
      here = set_else (set s.views id (together v w)) other id spent_view (λ is. apart (sym is)) ∙ at_once s.views id v (together v w) at

      there : (j : ℕ) (u : SeatView) → j ≢ id → j ≢ other → get_elem? s.views j ≡ some u → get_elem? views j ≡ some u
      there j u off away is = set_else (set s.views id (together v w)) other j spent_view away ∙ set_else s.views id j (together v w) off ∙ is

      is_mine : (client : ℕ) → (knows w.known client ≡ true) ⊎ (knows w.known client ≡ false) → (knows v.known client ≡ true) ⊎ (knows w.known client ≡ true)
          → cond (knows w.known client) id (r.owner client) ≡ id
      is_mine client (inl right) either = ap (λ (b : Bool). cond b id (r.owner client)) right
      is_mine client (inr unknown) (inl left) = ap (λ (b : Bool). cond b id (r.owner client)) unknown ∙ r.owned id v at client left
      is_mine client (inr unknown) (inr right) = absurd (true≢false (sym right ∙ unknown))

      not_mine : (j : ℕ) (u : SeatView) → j ≢ other → get_elem? s.views j ≡ some u → (client : ℕ) → knows u.known client ≡ true
          → (knows w.known client ≡ true) ⊎ (knows w.known client ≡ false) → cond (knows w.known client) id (r.owner client) ≡ j
      not_mine j u off is client k (inl right) = absurd (off (sym (r.owned j u is client k) ∙ r.owned other w at_other client right))
      not_mine j u off is client k (inr unknown) = ap (λ (b : Bool). cond b id (r.owner client)) unknown ∙ r.owned j u is client k

      found : (client : ℕ) (u : SeatView) → get_elem? s.views (r.owner client) ≡ some u → knows u.known client ≡ true
          → (knows w.known client ≡ true) ⊎ (knows w.known client ≡ false) → Dec (r.owner client ≡ id) → Dec (r.owner client ≡ other)
          → (x : SeatView) × (get_elem? views (cond (knows w.known client) id (r.owner client)) ≡ some x) × (knows x.known client ≡ true)
      found client u is k (inl right) _ _ =
          (together v w, ap (λ (b : Bool). get_elem? views (cond b id (r.owner client))) right ∙ here, knows_right client v.known w.known right)
      found client u is k (inr unknown) (yes same) _ = (
        together v w,
        ap (λ (b : Bool). get_elem? views (cond b id (r.owner client))) unknown ∙ ap (get_elem? views) same ∙ here,
        knows_left client v.known w.known (ap (λ (x : SeatView). knows x.known client) (sym (same_at s.views id (r.owner client) v u at is same)) ∙ k),
      )
      found client u is k (inr unknown) (no off) (yes same) =
          absurd (true≢false (sym (ap (λ (x : SeatView). knows x.known client) (sym (same_at s.views other (r.owner client) w u at_other is same)) ∙ k) ∙ unknown))
      found client u is k (inr unknown) (no off) (no away) =
          (u, ap (λ (b : Bool). get_elem? views (cond b id (r.owner client))) unknown ∙ there (r.owner client) u off away is, k)

      longest_one : Dec (r.longest.0 ≡ id) → Dec (r.longest.0 ≡ other) → (j : ℕ) × (u : SeatView) × (get_elem? views j ≡ some u) × (u.front ≡ r.log)
      longest_one (yes same) _ =
          let all = ap (λ (x : SeatView). x.front) (sym (same_at s.views id r.longest.0 v r.longest.1 at r.longest.2 same)) ∙ r.longest.3 in
          (id, together v w, here, whole v.front (longer v.front w.front) r.log begins.0 in_log all)
      longest_one (no off) (yes same) =
          let all = ap (λ (x : SeatView). x.front) (sym (same_at s.views other r.longest.0 w r.longest.1 at_other r.longest.2 same)) ∙ r.longest.3 in
          (id, together v w, here, whole w.front (longer v.front w.front) r.log begins.1 in_log all)
      longest_one (no off) (no away) = (r.longest.0, r.longest.1, there r.longest.0 r.longest.1 off away r.longest.2, r.longest.3)

      free : IsTurnFree history fixed wrong r.all r.log r.came s → IsTurnFree history fixed wrong r.all r.log r.came (after history fixed wrong s.words s.homes views)
      free f = record {
        value = f.value;
        words = f.words;
        home = f.home;
        history_is = f.history_is;
        fixed_is = f.fixed_is;
        wrong_is = f.wrong_is;
        nobody = each_both (λ j u. u.acting ≡ false) s.views id other (together v w) spent_view resting refl (λ j u _ _ is. f.nobody j u is);
      }

      quiet : (t : IsTurnTaken r.log r.came s) (j : ℕ) (u : SeatView) → get_elem? s.views j ≡ some u → u.acting ≡ false → t.seat ≢ j
      quiet t j u is rests same = true≢false (sym t.actor.2 ∙ ap (λ (x : SeatView). x.acting) (same_at s.views j t.seat u t.actor.0 is t.actor.1 same) ∙ rests)

      taken : IsTurnTaken r.log r.came s → IsTurnTaken r.log r.came (after history fixed wrong s.words s.homes views)
      taken t = record {
        seat = t.seat;
        words = t.words;
        out = t.out;
        actor = (t.actor.0, there t.seat t.actor.0 (quiet t id v at resting) (quiet t other w at_other still) t.actor.1, t.actor.2);
        alone = each_both (λ j u. u.acting ≡ true → (j ≡ t.seat) × (u.front ≡ r.log) × (u.wrong ≡ r.came)) s.views id other (together v w) spent_view
            (λ acts. absurd (true≢false (sym acts ∙ resting))) (λ acts. absurd (true≢false (sym acts))) (λ j u _ _ is. t.alone j u is);
      }

  -- ---- the lock begins

  pub begins_it : (value : B) → history value ≡ [] → HasOneHistory history fixed wrong (opening (0 ∷ 0 ∷ []) (Some value ∷ []) (first_view (fixed value)))
  begins_it value empty = record {
    all = fixed value;
    log = [];
    came = wrong value;
    orderly = orderly_at_first;
    turn = inl record {
      value = value;
      words = refl;
      home = refl;
      history_is = empty;
      fixed_is = refl;
      wrong_is = refl;
      nobody = alone (λ j u. u.acting ≡ false) refl;
    };
    parts = refl;
    each = alone (λ j u. IsTrueOf (fixed value) [] (wrong value) u) record {
      fixed_is = λ _. refl;
      front = prefix_nil [];
      met = prefix_nil [];
      own_log = λ client k. absurd (true≢false (sym k));
      own_front = λ client k. absurd (true≢false (sym k));
      spent = λ none_left. absurd (omega arith);
      told = λ knew. absurd (true≢false (sym knew));
    };
    owner = λ client. 0;
    owned = alone (λ j u. (client : ℕ) → knows u.known client ≡ true → 0 ≡ j) (λ client k. absurd (true≢false (sym k)));
    owns = λ client there. absurd (true≢false (sym there));
    longest = (0, first_view (fixed value), refl, refl);
  }
    where
      alone : (K : ℕ → SeatView → Type 0) → K 0 (first_view (fixed value)) → (j : ℕ) (u : SeatView) → get_elem? (first_view (fixed value) ∷ []) j ≡ some u → K j u
      alone K first zero u at = subst (K 0) (some-injective (first_view (fixed value)) u at) first
      alone K first (suc j) u at = absurd (some-ne-none u (sym at))

  -- ---- the lock ends

  -- a seat with all parts is the only one that knows something
  others_spent : (s : State (Option B) SeatView) (r : HasOneHistory history fixed wrong s) (id : ℕ) (v : SeatView) → v.parts ≡ 1024 → get_elem? s.views id ≡ some v
      → (j : ℕ) (u : SeatView) → j ≢ id → get_elem? s.views j ≡ some u → u.parts ≡ 0
  others_spent s r id v all at j u apart there =
      let both = sum_at_two (λ (x : SeatView). x.parts) s.views id j v u (λ is. apart (sym is)) at there in let whole = r.parts in omega arith

  -- what is at home when the lock ends
  pub record IsAtEnd (v : SeatView) (xs : List (Option B)) : Type 0 where
    pub value : B
    pub home : get_elem? xs 0 ≡ some (Some value)
    pub front : history value ≡ v.front
    pub all : (client : ℕ) → knows (history value) client ≡ true → knows v.known client ≡ true
    pub fixed_is : fixed value ≡ v.fixed
    pub told : v.wrong ≡ true → wrong value ≡ true

  pub ends_it : (id : ℕ) (v : SeatView) (words : List ℕ) (xs : List (Option B)) → v.parts ≡ 1024 → v.acting ≡ false → Final (Seen (HasOneHistory history fixed wrong) id v) words xs → IsAtEnd v xs
  ends_it id v words xs parts resting (s, (r, at), _, _, home) = ⊎_elim free (λ t. absurd (taken t (ℕ_discrete t.seat id))) r.turn
    where
      was : IsTrueOf r.all r.log r.came v
      was = r.each id v at

      taken : (t : IsTurnTaken r.log r.came s) → Dec (t.seat ≡ id) → ⊥
      taken t (yes is) = true≢false (sym t.actor.2 ∙ ap (λ (u : SeatView). u.acting) (same_at s.views id t.seat v t.actor.0 at t.actor.1 is) ∙ resting)
      taken t (no apart) =
          true≢false (sym t.actor.2 ∙ ((r.each t.seat t.actor.0 t.actor.1).spent (others_spent s r id v parts at t.seat t.actor.0 apart t.actor.1)).2)

      seen_all : Dec (r.longest.0 ≡ id) → v.front ≡ r.log
      seen_all (yes is) = ap (λ (u : SeatView). u.front) (sym (same_at s.views id r.longest.0 v r.longest.1 at r.longest.2 is)) ∙ r.longest.3
      seen_all (no apart) =
          let none = sym ((r.each r.longest.0 r.longest.1 r.longest.2).spent (others_spent s r id v parts at r.longest.0 r.longest.1 apart r.longest.2)).0 ∙ r.longest.3 in
          of_nil v.front (subst (IsPrefix v.front) (sym none) was.front) ∙ none

      known_all : (client : ℕ) → knows r.log client ≡ true → Dec (r.owner client ≡ id) → knows v.known client ≡ true
      known_all client there (yes is) = let o = r.owns client there in
          ap (λ (u : SeatView). knows u.known client) (sym (same_at s.views id (r.owner client) v o.0 at o.1 is)) ∙ o.2
      known_all client there (no apart) = let o = r.owns client there in
          absurd (true≢false (sym o.2 ∙ ap (λ (l : List Entry). knows l client) ((r.each (r.owner client) o.0 o.1).spent (others_spent s r id v parts at (r.owner client) o.0 apart o.1)).1))

      free : IsTurnFree history fixed wrong r.all r.log r.came s → IsAtEnd v xs
      free f = record {
        value = f.value;
        home = home 0 (Some f.value) (ap (λ hs. get_elem? hs 0) f.home);
        front = f.history_is ∙ sym (seen_all (ℕ_discrete r.longest.0 id));
        all = λ client there. known_all client (ap (λ (l : List Entry). knows l client) (sym f.history_is) ∙ there) (ℕ_discrete (r.owner client) id);
        fixed_is = f.fixed_is ∙ sym (was.fixed_is (omega arith));
        told = λ knew. f.wrong_is ∙ was.told knew;
      }

  pub begins_at : (value about : B) (before slots : List (Option B)) → history value ≡ [] → about ≡ value → before ≡ [] → slots ≡ before ++ Some value ∷ []
      → HasOneHistory history fixed wrong (opening (0 ∷ 0 ∷ []) slots (first_view (fixed about)))
  begins_at value about before slots empty same nothing pushed =
      let first : slots ≡ Some value ∷ [] = pushed ∙ ap (λ (l : List (Option B)). l ++ Some value ∷ []) nothing in
      subst (λ (t : List (Option B) × B). HasOneHistory history fixed wrong (opening (0 ∷ 0 ∷ []) t.0 (first_view (fixed t.1)))) (λ i. (sym first i, sym same i)) (begins_it value empty)
