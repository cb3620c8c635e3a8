-- Each step keeps the rule of the table.
use Rattle.std.proofs.Common.{◌≡◌, ◌≢◌, ℕ, zero, suc, ◌≤◌, List, [], ◌∷◌, ◌++◌, set, slice_index, All, refl, sym, ap, ◌∙◌, subst, inl, inr, ⊎_elim}
use Rattle.std.proofs.lemmas.List.Elements.{All-nil, All-push, All-weaker, Contains-append_left}
use mathlib.Core.Option.{none, some, some-injective, some-ne-none}
use native.Mathlib.Decide.{ℕ_discrete}
use lib.ListN.{get_elem?}
use lib.Seq.{set-get_or}
use Rattle.atomic_table.specs.Table.{Allows, Joins, Me, Splits, State, Step, keeps, opening, step}
use Rattle.atomic_table.proofs.Lists.{at_set, at_snoc, at_longer, set_again, set_else}
use Rattle.cancel_words.specs.View.{IsZeroOrRaised, of_both, of_reader, of_worker}
use Rattle.cancel_words.specs.Rule.{HasOneRaiser, WordSeatView, blank_seat, first_seat, greatest_of, joined_seat, loads, raises, settles}
use Rattle.cancel_words.proofs.Greatest.{greatest_is_raised, greatest_push}

-- ---- a list that is read by number

at_once : {X : Type 0} (xs : List X) (i : ℕ) (v w : X) → get_elem? xs i ≡ some v → get_elem? (set xs i w) i ≡ some w
at_once [] i v w at = absurd (some-ne-none v (sym at))
at_once (x ∷ xs) zero v w at = refl
at_once (x ∷ xs) (suc i) v w at = at_once xs i v w at

-- what holds of each place, where one changes
each_set : {X : Type 0} (K : ℕ → X → Type 0) (xs : List X) (i : ℕ) (w : X) → K i w → ((j : ℕ) (u : X) → j ≢ i → get_elem? xs j ≡ some u → K j u)
    → (j : ℕ) (u : X) → get_elem? (set xs i w) j ≡ some u → K j u
each_set {X} K xs i w mine others j u at =
    ⊎_elim
    (λ (t : (j ≡ i) × (w ≡ u)). subst (λ (x : ℕ × X). K x.0 x.1) (λ k. (sym t.0 k, t.1 k)) mine)
    (λ (t : (j ≢ i) × (get_elem? xs j ≡ some u)). others j u t.0 t.1)
    (at_set xs i j w u at)

reader_alone : of_reader ≢ of_worker
reader_alone is = absurd cc

both_alone : of_both ≢ of_worker
both_alone is = absurd cc

module _ {S : Type 0} where
  abbrev after : State S WordSeatView → List ℕ → List WordSeatView → State S WordSeatView
  after s words views = record { words = words; homes = s.homes; views = views }

  -- the seat that raises the word
  is_raiser : (s : State S WordSeatView) (r : HasOneRaiser s) (id : ℕ) (v : WordSeatView) → get_elem? s.views id ≡ some v → v.role ≢ of_worker → (id ≡ r.raiser) × (r.view ≡ v)
  is_raiser s r id v at role = by_number (ℕ_discrete id r.raiser)
    where
      by_number : Dec (id ≡ r.raiser) → (id ≡ r.raiser) × (r.view ≡ v)
      by_number (yes is) = (is, some-injective r.view v (sym r.there ∙ ap (get_elem? s.views) (sym is) ∙ at))
      by_number (no apart) = absurd (role (r.others id v at apart))

  -- it makes a step
  raiser_moves : (s : State S WordSeatView) (r : HasOneRaiser s) (id : ℕ) (v w : WordSeatView) (words : List ℕ) → get_elem? s.views id ≡ some v → v.role ≢ of_worker → w.role ≢ of_worker
      → words ≡ greatest_of w.raised ∷ [] → ((n : ℕ) → IsZeroOrRaised v.raised n → IsZeroOrRaised w.raised n) → All (IsZeroOrRaised v.raised) w.loaded
      → HasOneRaiser (after s words (set s.views id w))
  raiser_moves s r id v w words at role still word more mine =
      let was = is_raiser s r id v at role in record {
        raiser = id;
        view = w;
        there = at_once s.views id v w at;
        role = still;
        word = word;
        others = each_set (λ j u. j ≢ id → u.role ≡ of_worker) s.views id w (λ apart. absurd (apart refl)) (λ j u apart there _. r.others j u there (λ is. apart (is ∙ sym was.0)));
        each = each_set (λ j u. All (IsZeroOrRaised w.raised) u.loaded) s.views id w (All-weaker (IsZeroOrRaised v.raised) (IsZeroOrRaised w.raised) more w.loaded mine)
            (λ j u apart there. All-weaker (IsZeroOrRaised v.raised) (IsZeroOrRaised w.raised) more u.loaded (subst (λ (x : WordSeatView). All (IsZeroOrRaised x.raised) u.loaded) was.1 (r.each j u there)));
      }

  -- a worker's seat makes one
  worker_moves : (s : State S WordSeatView) (r : HasOneRaiser s) (id : ℕ) (v w : WordSeatView) → get_elem? s.views id ≡ some v → v.role ≡ of_worker → w.role ≡ of_worker
      → All (IsZeroOrRaised r.view.raised) w.loaded
      → HasOneRaiser (after s s.words (set s.views id w))
  worker_moves s r id v w at role still mine = record {
    raiser = r.raiser;
    view = r.view;
    there = set_else s.views id r.raiser w (λ is. r.role (ap (λ (u : WordSeatView). u.role) (some-injective r.view v (sym r.there ∙ ap (get_elem? s.views) is ∙ at)) ∙ role)) ∙ r.there;
    role = r.role;
    word = r.word;
    others = each_set (λ j u. j ≢ r.raiser → u.role ≡ of_worker) s.views id w (λ _. still) (λ j u _ there. r.others j u there);
    each = each_set (λ j u. All (IsZeroOrRaised r.view.raised) u.loaded) s.views id w mine (λ j u _ there. r.each j u there);
  }

  -- ---- the four kinds of step

  -- none tells of its word or its operands
  abbrev any_step : Step S
  any_step = step 0 0 0 0 none

  pub raises_it : (slots id : ℕ) (me : Me S WordSeatView) (upto : ℕ) → me.0.role ≡ of_reader → All (λ n. n ≤ upto) me.0.raised
      → Allows HasOneRaiser slots id me 0 (λ _. upto) (λ _. raises any_step me upto)
  raises_it slots id me upto role all s r long at fits = (
    w,
    keeps,
    tt,
    raiser_moves s r id me.0 w (set s.words 0 upto) at alone alone
        (ap (λ (ws : List ℕ). set ws 0 upto) r.word ∙ ap (λ (n : ℕ). n ∷ []) (sym (greatest_push me.0.raised upto all))) more
        (subst (λ (x : WordSeatView). All (IsZeroOrRaised x.raised) me.0.loaded) (is_raiser s r id me.0 at alone).1 (r.each id me.0 at)),
    refl,
  )
    where
      w : WordSeatView
      w = record me.0 { raised = me.0.raised ++ upto ∷ [] }

      alone : me.0.role ≢ of_worker
      alone is = reader_alone (sym role ∙ is)

      more : (n : ℕ) → IsZeroOrRaised me.0.raised n → IsZeroOrRaised (me.0.raised ++ upto ∷ []) n
      more n (inl is) = inl is
      more n (inr there) = inr (Contains-append_left me.0.raised (upto ∷ []) n there)

  -- the word as it was found
  found_is : (s : State S WordSeatView) (r : HasOneRaiser s) → IsZeroOrRaised r.view.raised (slice_index s.words 0)
  found_is s r = subst (IsZeroOrRaised r.view.raised) (sym (ap (λ (ws : List ℕ). slice_index ws 0) r.word)) (greatest_is_raised r.view.raised)

  pub loads_it : (slots id : ℕ) (me : Me S WordSeatView) → me.0.role ≡ of_worker → Allows HasOneRaiser slots id me 0 (λ n. n) (loads any_step me)
  loads_it slots id me role s r long at fits = (
    w,
    keeps,
    tt,
    subst (λ (ws : List ℕ). HasOneRaiser (after s ws (set s.views id w)))
        (sym (set-get_or s.words 0 0))
        (worker_moves s r id me.0 w at role role (All-push (IsZeroOrRaised r.view.raised) me.0.loaded (slice_index s.words 0) (r.each id me.0 at) (found_is s r))),
    refl,
  )
    where
      w : WordSeatView
      w = record me.0 { loaded = me.0.loaded ++ slice_index s.words 0 ∷ [] }

  pub settles_it : (slots id : ℕ) (me : Me S WordSeatView) → me.0.role ≡ of_both → Allows HasOneRaiser slots id me 0 (λ n. n) (settles any_step me)
  settles_it slots id me role s r long at fits = (
    me.0,
    keeps,
    tt,
    subst (λ (ws : List ℕ). HasOneRaiser (after s ws (set s.views id me.0))) (sym (set-get_or s.words 0 0))
        (subst (λ (vs : List WordSeatView). HasOneRaiser (after s s.words vs)) (sym (set_again s.views id me.0 at)) r),
    (refl, subst (λ (x : WordSeatView). All (IsZeroOrRaised x.raised) me.0.loaded) (is_raiser s r id me.0 at alone).1 (r.each id me.0 at)),
  )
    where
      alone : me.0.role ≢ of_worker
      alone is = both_alone (sym role ∙ is)

  pub splits_it : (id : ℕ) (v : WordSeatView) → Splits (HasOneRaiser {S = S}) id v v blank_seat
  splits_it id v s r at = subst (λ (vs : List WordSeatView). HasOneRaiser (after s s.words (vs ++ blank_seat ∷ []))) (sym (set_again s.views id v at)) record {
    raiser = r.raiser;
    view = r.view;
    there = at_longer s.views (blank_seat ∷ []) r.raiser r.view r.there;
    role = r.role;
    word = r.word;
    others = λ j u there apart. ⊎_elim (λ old. r.others j u old apart) (λ (is : blank_seat ≡ u). ap (λ (x : WordSeatView). x.role) (sym is)) (at_snoc s.views blank_seat u j there);
    each = λ j u there. ⊎_elim (λ old. r.each j u old) (λ (is : blank_seat ≡ u). subst (λ (x : WordSeatView). All (IsZeroOrRaised r.view.raised) x.loaded) is (All-nil (IsZeroOrRaised r.view.raised))) (at_snoc s.views blank_seat u j there);
  }

  pub joins_it : (id other : ℕ) (v w : WordSeatView) → v.role ≡ of_reader → w.role ≡ of_worker → Joins (HasOneRaiser {S = S}) id v other w (joined_seat v w) blank_seat
  joins_it id other v w reads works s r at apart given =
      worker_moves (after s s.words (set s.views id (joined_seat v w))) joined other w blank_seat given works refl (All-nil (IsZeroOrRaised joined.view.raised))
    where
      alone : v.role ≢ of_worker
      alone is = reader_alone (sym reads ∙ is)

      was : (id ≡ r.raiser) × (r.view ≡ v)
      was = is_raiser s r id v at alone

      joined : HasOneRaiser (after s s.words (set s.views id (joined_seat v w)))
      joined = raiser_moves s r id v (joined_seat v w) s.words at alone both_alone (r.word ∙ ap (λ (x : WordSeatView). greatest_of x.raised ∷ []) was.1) (λ n is. is)
          (subst (λ (x : WordSeatView). All (IsZeroOrRaised x.raised) w.loaded) was.1 (r.each other w (sym (set_else s.views id other (joined_seat v w) apart) ∙ given)))

  -- ---- the word begins

  pub begins_it : HasOneRaiser (opening {S = S} (0 ∷ []) [] first_seat)
  begins_it = record {
    raiser = 0;
    view = first_seat;
    there = refl;
    role = reader_alone;
    word = refl;
    others = alone (λ j u. j ≢ 0 → u.role ≡ of_worker) (λ apart. absurd (apart refl));
    each = alone (λ j u. All (IsZeroOrRaised []) u.loaded) (All-nil (IsZeroOrRaised []));
  }
    where
      alone : (K : ℕ → WordSeatView → Type 0) → K 0 first_seat → (j : ℕ) (u : WordSeatView) → get_elem? (first_seat ∷ []) j ≡ some u → K j u
      alone K first zero u at = subst (K 0) (some-injective first_seat u at) first
      alone K first (suc j) u at = absurd (some-ne-none u (sym at))
