-- Each move keeps the rule of a way.
use Rattle.std.proofs.Common.{◌≡◌, ◌<◌, ℕ, zero, suc, List, [], ◌∷◌, ◌++◌, length, drop, set, sym, refl, ap, ◌∙◌, subst, ⊎_elim, arith, length-append}
use Rattle.std.specs.List.{sum_by}
use Rattle.std.proofs.lemmas.List.Elements.{All-head, All-nil, All-push, All-tail}
use Rattle.std.proofs.lemmas.List.Sums.{sum_by-append, sum_by-cons, sum_by_push}
use mathlib.Core.List.{IsPrefix}
use mathlib.Core.Option.{some, some-injective, some-ne-none}
use lib.ListN.{get_elem?}
use Rattle.atomic_table.proofs.Lists.{at_set, at_snoc}
use Rattle.broker_lock.proofs.Beginnings.{drop_front, sum_at, sum_at_set}
use Rattle.crossbeam_channel.specs.Fifo.{Pushes, Pops, Forks, Merges}
use Rattle.link_pool.specs.Hands.{AreIdle, HandView, HasNoTurn, IsFair, Takes, both_of, first_view, handed_on, kept_back, spent_view, with_turn, without_turn}

-- ---- sums over lists that are read by number

-- where all of f is in one place, and nothing of g is where nothing of f is, all of g is there, too
pub sum_only : {X : Type 0} (f g : X → ℕ) (xs : List X) (i : ℕ) (v : X) → ((j : ℕ) (u : X) → get_elem? xs j ≡ some u → f u ≡ 0 → g u ≡ 0)
    → get_elem? xs i ≡ some v → sum_by f xs ≡ f v → sum_by g xs ≡ g v
sum_only f g [] i v none at whole = absurd (some-ne-none v (sym at))
sum_only {X} f g (x ∷ xs) zero v none at whole =
    let same : x ≡ v = some-injective x v at in
    let f_same : f x ≡ f v = ap f same in
    let g_same : g x ≡ g v = ap g same in
    let rest : sum_by g xs ≡ 0 = nothing f g xs (λ j u there. none (suc j) u there) (omega (arith, sum_by-cons f x xs, f_same, whole)) in
    omega (arith, sum_by-cons g x xs, g_same, rest)
  where
    nothing : (f g : X → ℕ) (xs : List X) → ((j : ℕ) (u : X) → get_elem? xs j ≡ some u → f u ≡ 0 → g u ≡ 0) → sum_by f xs ≡ 0 → sum_by g xs ≡ 0
    nothing f g [] none zero_sum = refl
    nothing f g (y ∷ ys) none zero_sum =
        omega (
          arith,
          sum_by-cons g y ys,
          none zero y refl (omega (arith, sum_by-cons f y ys, zero_sum)),
          nothing f g ys (λ j u there. none (suc j) u there) (omega (arith, sum_by-cons f y ys, zero_sum)),
        )
sum_only f g (x ∷ xs) (suc i) v none at whole =
    let here : f x ≡ 0 = omega (arith, sum_by-cons f x xs, sum_at f xs i v at, whole) in
    omega (arith, sum_by-cons g x xs, none zero x refl here, sum_only f g xs i v (λ j u there. none (suc j) u there) at (omega (arith, sum_by-cons f x xs, whole, here)))

length_none : {X : Type 0} (xs : List X) → length xs ≡ 0 → xs ≡ []
length_none [] none = refl
length_none (x ∷ xs) none = absurd (omega arith)

-- ---- hands that have no part

module _ {L : Type 0} where
  abbrev IsNothing : HandView L → Type 0
  IsNothing v = (v.turns ≡ 0) × (v.mine ≡ []) × (v.held ≡ [])

  idle_set : (views : List (HandView L)) (p : ℕ) (w : HandView L) → (w.parts ≡ 0 → IsNothing w) → AreIdle views → AreIdle (set views p w)
  idle_set views p w mine idle j u at none = ⊎_elim (λ x. subst IsNothing x.1 (mine (ap (λ (y : HandView L). y.parts) x.1 ∙ none))) (λ x. idle j u x.1 none) (at_set views p j w u at)

  idle_snoc : (views : List (HandView L)) (w : HandView L) → (w.parts ≡ 0 → IsNothing w) → AreIdle views → AreIdle (views ++ w ∷ [])
  idle_snoc views w mine idle j u at none = ⊎_elim (λ x. idle j u x none) (λ x. subst IsNothing x (mine (ap (λ (y : HandView L). y.parts) x ∙ none))) (at_snoc views w u j at)

  idle_first : AreIdle ((first_view {L = L}) ∷ [])
  idle_first zero u at none = let same : 1024 ≡ u.parts = ap (λ (y : HandView L). y.parts) (some-injective (first_view {L = L}) u at) in absurd (omega arith)
  idle_first (suc j) u at none = absurd (some-ne-none u (sym at))

-- ---- the moves

module _ {T L : Type 0} (accepted_of : T → List L) (kept : T → Type 0) where
  abbrev Fair : List T → List (HandView L) → Type 0
  Fair = IsFair accepted_of kept

  pub begins_fair : Fair [] (first_view ∷ [])
  begins_fair = record { whole = refl; one = refl; even = λ h. refl; each = All-nil kept; idle = idle_first }

  -- the turn is given back
  pub gives_fair : (n p : ℕ) (v : HandView L) (x : T) → 0 < v.parts → v.turns ≡ 1 → IsPrefix v.held (accepted_of x) → kept x → Pushes Fair n p v x (λ w. w ≡ without_turn v (accepted_of x))
  gives_fair n p v x some_part has more x_kept items views _ r at = let w = without_turn v (accepted_of x) in (
    w,
    record {
      whole = (let s = sum_at_set (λ (u : HandView L). u.parts) views p v w at in omega (arith, s, r.whole));
      one = (let s = sum_at_set (λ (u : HandView L). u.turns) views p v w at in omega (arith, s, r.one, has, length-append items (x ∷ [])));
      even = λ h.
          let s = sum_at_set (λ (u : HandView L). sum_by h u.mine) views p v w at in
          let t = sum_at_set (λ (u : HandView L). sum_by h u.held) views p v w at in
          let new : drop (length v.held) (accepted_of x) ≡ more.0 = ap (drop (length v.held)) (sym more.1) ∙ drop_front v.held more.0 in
          let news : sum_by h (drop (length v.held) (accepted_of x)) ≡ sum_by h more.0 = ap (sum_by h) new in
          let all : sum_by h (v.held ++ more.0) ≡ sum_by h (accepted_of x) = ap (sum_by h) more.1 in
          omega (arith, s, t, r.even h, news, all, sum_by-append h v.held more.0, sum_by-append h v.mine (drop (length v.held) (accepted_of x)), sum_by_push (λ (u : T). sum_by h (accepted_of u)) items x);
      each = All-push kept items x r.each x_kept;
      idle = idle_set views p w (λ none. absurd (omega (arith, none, some_part))) r.idle;
    },
    refl,
  )

  -- the turn is taken
  pub takes_fair : (p : ℕ) (v : HandView L) → HasNoTurn v → Pops Fair p v (Takes accepted_of kept v)
  takes_fair p v rests x items views r at = let w = with_turn v (accepted_of x) in
      let held : (h : L → ℕ) → sum_by h v.held ≡ 0 = λ h. ap (sum_by h) rests.none in (
        w,
        record {
          whole = (let s = sum_at_set (λ (u : HandView L). u.parts) views p v w at in omega (arith, s, r.whole));
          one = (let s = sum_at_set (λ (u : HandView L). u.turns) views p v w at in omega (arith, s, r.one, rests.no_turn));
          even = λ h.
              let s = sum_at_set (λ (u : HandView L). sum_by h u.mine) views p v w at in
              let t = sum_at_set (λ (u : HandView L). sum_by h u.held) views p v w at in
              omega (arith, s, t, r.even h, held h, sum_by-cons (λ (u : T). sum_by h (accepted_of u)) x items);
          each = All-tail kept x items r.each;
          idle = idle_set views p w (λ none. absurd (omega (arith, none, rests.some_part))) r.idle;
        },
        record {
          is_kept = All-head kept x items r.each;
          now = refl;
          all = λ parts h.
              let whole : sum_by (λ (u : HandView L). u.parts) views ≡ v.parts = r.whole ∙ sym parts in
              let m = sum_only (λ (u : HandView L). u.parts) (λ (u : HandView L). sum_by h u.mine) views p v (λ j u there none. ap (sum_by h) (r.idle j u there none).1) at whole in
              let n = sum_only (λ (u : HandView L). u.parts) (λ (u : HandView L). sum_by h u.held) views p v (λ j u there none. ap (sum_by h) (r.idle j u there none).2) at whole in
              let none : sum_by (λ (u : T). sum_by h (accepted_of u)) items ≡ 0 = ap (sum_by (λ (u : T). sum_by h (accepted_of u))) (length_none items (omega (arith, r.one))) in
              omega (arith, m, n, none, held h, r.even h, sum_by-cons (λ (u : T). sum_by h (accepted_of u)) x items);
        },
      )

  -- what was accepted goes with a new hand
  pub splits_fair : (p : ℕ) (v : HandView L) → 1 < v.parts → Forks Fair p v (kept_back v) (handed_on v)
  splits_fair p v parts items views r at = let l = kept_back v in let o = handed_on v in record {
    whole = (let s = sum_at_set (λ (u : HandView L). u.parts) views p v l at in omega (arith, s, parts, r.whole, sum_by_push (λ (u : HandView L). u.parts) (set views p l) o));
    one = (let s = sum_at_set (λ (u : HandView L). u.turns) views p v l at in omega (arith, s, r.one, sum_by_push (λ (u : HandView L). u.turns) (set views p l) o));
    even = λ h.
        let s = sum_at_set (λ (u : HandView L). sum_by h u.mine) views p v l at in
        let t = sum_at_set (λ (u : HandView L). sum_by h u.held) views p v l at in
        omega (arith, s, t, r.even h, sum_by_push (λ (u : HandView L). sum_by h u.mine) (set views p l) o, sum_by_push (λ (u : HandView L). sum_by h u.held) (set views p l) o);
    each = r.each;
    idle = idle_snoc (set views p l) o (λ none. absurd (omega (arith, none))) (idle_set views p l (λ none. absurd (omega (arith, none, parts))) r.idle);
  }

  -- two hands are made one
  pub joins_fair : (p : ℕ) (v : HandView L) (o : ℕ) (u : HandView L) → 0 < v.parts → Merges Fair p v o u (both_of v u) spent_view
  joins_fair p v o u some_part items views r at two given = let b = both_of v u in let vs : List (HandView L) = set views p b in record {
    whole = (
        let s = sum_at_set (λ (y : HandView L). y.parts) views p v b at in
        let t = sum_at_set (λ (y : HandView L). y.parts) vs o u spent_view given in
        omega (arith, s, t, r.whole));
    one = (
        let s = sum_at_set (λ (y : HandView L). y.turns) views p v b at in
        let t = sum_at_set (λ (y : HandView L). y.turns) vs o u spent_view given in
        omega (arith, s, t, r.one));
    even = λ h.
        let s = sum_at_set (λ (y : HandView L). sum_by h y.mine) views p v b at in
        let s' = sum_at_set (λ (y : HandView L). sum_by h y.mine) vs o u spent_view given in
        let t = sum_at_set (λ (y : HandView L). sum_by h y.held) views p v b at in
        let t' = sum_at_set (λ (y : HandView L). sum_by h y.held) vs o u spent_view given in
        omega (arith, s, s', t, t', r.even h, sum_by-append h v.mine u.mine, sum_by-append h v.held u.held);
    each = r.each;
    idle = idle_set vs o spent_view (λ none. (refl, refl, refl)) (idle_set views p b (λ none. absurd (omega (arith, none, some_part))) r.idle);
  }

  -- the same where a loop keeps the hand and the turn as they were
  pub gives_same : (n p : ℕ) (v v_old : HandView L) (x x_old : T) → v ≡ v_old → x ≡ x_old → 0 < v_old.parts → v_old.turns ≡ 1 → IsPrefix v_old.held (accepted_of x_old) → kept x_old
      → Pushes Fair n p v x (λ w. w ≡ without_turn v (accepted_of x))
  gives_same n p v v_old x x_old same turn some_part has more x_kept =
      gives_fair n p v x (omega (arith, some_part, ap (λ (u : HandView L). u.parts) same)) (ap (λ (u : HandView L). u.turns) same ∙ has)
      (subst (λ (u : HandView L). IsPrefix u.held (accepted_of x)) (sym same) (subst (λ (y : T). IsPrefix v_old.held (accepted_of y)) (sym turn) more))
      (subst kept (sym turn) x_kept)

  pub takes_same : (p : ℕ) (v v_old : HandView L) → v ≡ v_old → HasNoTurn v_old → Pops Fair p v (Takes accepted_of kept v)
  takes_same p v v_old same rests = takes_fair p v (subst HasNoTurn (sym same) rests)

  pub took_same : (v v_old : HandView L) (x : T) (w : HandView L) → v ≡ v_old → Takes accepted_of kept v x w → Takes accepted_of kept v_old x w
  took_same v v_old x w same took = subst (λ (u : HandView L). Takes accepted_of kept u x w) same took
