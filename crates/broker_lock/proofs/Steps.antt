-- Each step of a turn keeps the rule of the table.
use Rattle.std.proofs.Common.{◌≡◌, ◌≢◌, ◌⊎◌, ℕ, ◌<◌, ◌≤◌, Bool, eqb, true, false, true≢false, List, [], ◌∷◌, ◌++◌, length, drop, set, Option, Some, None, refl, sym, ap, ◌∙◌, subst, inl, inr, ⊎_elim, arith}
use Rattle.std.specs.Prelude.{slice_index}
use mathlib.Core.List.{IsPrefix}
use mathlib.Core.Option.{none, some}
use mathlib.Core.Option as maybe
use lib.ListN.{get_elem?}
use lib.Seq.{set-get_or}
use prog.Atomic.{either}
use Rattle.atomic_table.specs.Table.{Act, Allows, Me, State, Valid, carried_after, gives, keeps, Step, put_back, rest, step, stepped, takes}
use Rattle.atomic_table.proofs.Lists.{set_again}
use Rattle.history_spec.specs.Entry.{Entry, own}
use Rattle.broker_lock.specs.Known.{Fixed, HasJustKnown, knows}
use Rattle.broker_lock.specs.View.{SeatView}
use Rattle.broker_lock.specs.Turn.{HasOneHistory, IsIdle, IsOrderly, IsTrueOf, IsTurnFree, IsTurnTaken, MayAdd, MayGiveBack, gives_back, raised, raises_count, rested, settled, settles, takes_turn}
use Rattle.broker_lock.proofs.Beginnings.{drop_front, prefix_nil, prefix_push, prefix_refl, prefix_trans, shorter_begins}
use Rattle.broker_lock.proofs.Knowing.{decided, knows_either, knows_left, knows_of_known, knows_right, own_of_known}
use Rattle.broker_lock.proofs.Adding.{new_to_log, others_stay, own_more}
use Rattle.broker_lock.proofs.Orderly.{known_there, orderly_more}
use Rattle.broker_lock.proofs.Seats.{after, at_once, each_set, moved, turn_stays}

-- ---- the slot that a seat took

module _ {B : Type 0} where
  abbrev carried_or : Option B → List (ℕ × Option B) → Option B
  carried_or nothing [] = nothing
  carried_or nothing (x ∷ xs) = x.1

  pub is_out : (carried : List (ℕ × Option B)) (x : Option B) → carried ≡ (0, x) ∷ [] → carried ≡ (0, x) ∷ rest carried
  is_out carried x is = is ∙ ap (λ (l : List (ℕ × Option B)). (0, x) ∷ rest l) (sym is)

  pub came_out : (carried : List (ℕ × Option B)) (x y : Option B) → carried ≡ (0, x) ∷ [] → carried ≡ (0, y) ∷ rest carried → y ≡ x
  came_out carried x y is found = ap (carried_or x) (sym found ∙ is)

  same_value : (one other : B) → ◌≡◌ {A = List (ℕ × Option B)} ((0, Some one) ∷ []) ((0, Some other) ∷ []) → one ≡ other
  same_value one other e = let same : Some one ≡ Some other = ap (carried_or (Some one)) e in cc

module _ {B : Type 0} (history : B → List Entry) (fixed : B → Fixed) (wrong : B → Bool) where
  abbrev At : Type 0
  At = Me (Option B) SeatView

  -- no step tells of its word or its operands
  abbrev pub any_step : Step (Option B)
  any_step = step 0 0 0 0 none

  -- what the table may become when the word i was n, and is m
  abbrev Goes : State (Option B) SeatView → ℕ → At → ℕ → ℕ → (At → Type 0) → Type 0
  Goes s id me i m then = (w : SeatView) × (a : Act (Option B)) × Valid s.homes me.1 a
      × HasOneHistory history fixed wrong (stepped s i m id me.1 w a)
      × then (w, carried_after me.1 a)

  -- ---- the turn is taken

  -- the turn was free
  taken_now : (s : State (Option B) SeatView) (r : HasOneHistory history fixed wrong s) (id : ℕ) (me : At) → IsIdle me.0 → me.1 ≡ [] → get_elem? s.views id ≡ some me.0
      → IsTurnFree history fixed wrong r.all r.log r.came s → Goes s id me 0 1 (takes_turn history fixed wrong any_step me 0)
  taken_now s r id me idle empty at free = (
    w,
    takes 0 (Some free.value),
    ap (λ hs. get_elem? hs 0) free.home,
    moved history fixed wrong s r id me.0 w (set s.words 0 1) (set s.homes 0 none) r.log r.came at refl r.orderly (inr taken)
        (λ j u apart there. r.each j u there) mine (λ client k. k) (λ client k unknown. absurd (true≢false (sym k ∙ unknown))) (λ client there unknown. there) (inl free.history_is),
    (
      λ _. (
        free.value,
        ap (λ (l : List (ℕ × Option B)). (0, Some free.value) ∷ l) empty,
        record {
          now = refl;
          fixed_is = free.fixed_is ∙ sym (before.fixed_is idle.some_part);
          seen = subst (λ (l : List Entry). IsPrefix me.0.front l) (sym free.history_is) before.front;
          own = subst (HasJustKnown me.0.known) (sym free.history_is) before.own_log;
          orderly = subst IsOrderly (sym free.history_is) r.orderly;
          told = λ knew. free.wrong_is ∙ before.told knew;
        },
      ),
      λ apart. absurd (apart refl),
    ),
  )
    where
      w : SeatView
      w = record me.0 { front = history free.value; acting = true; wrong = wrong free.value }

      before : IsTrueOf r.all r.log r.came me.0
      before = r.each id me.0 at

      mine : IsTrueOf r.all r.log r.came w
      mine = record {
        fixed_is = before.fixed_is;
        front = subst (λ (l : List Entry). IsPrefix (history free.value) l) free.history_is (prefix_refl (history free.value));
        met = before.met;
        own_log = before.own_log;
        own_front = subst (HasJustKnown me.0.known) (sym free.history_is) before.own_log;
        spent = λ none_left. absurd (omega (arith, idle.some_part));
        told = λ knew. sym free.wrong_is ∙ knew;
      }

      taken : IsTurnTaken r.log r.came (after history fixed wrong (set s.words 0 1) (set s.homes 0 none) (set s.views id w))
      taken = record {
        seat = id;
        words = ap (λ (ws : List ℕ). set ws 0 1) free.words;
        out = ap (λ hs. set hs 0 none) free.home;
        actor = (w, at_once s.views id me.0 w at, refl);
        alone = each_set (λ j u. u.acting ≡ true → (j ≡ id) × (u.front ≡ r.log) × (u.wrong ≡ r.came)) s.views id w (λ _. (refl, free.history_is, free.wrong_is))
            (λ j u apart there now. absurd (true≢false (sym now ∙ free.nobody j u there)));
      }

  -- it wasn't
  not_taken : (s : State (Option B) SeatView) (r : HasOneHistory history fixed wrong s) (id : ℕ) (me : At) → get_elem? s.views id ≡ some me.0
      → IsTurnTaken r.log r.came s → Goes s id me 0 1 (takes_turn history fixed wrong any_step me 1)
  not_taken s r id me at taken = (
    me.0,
    keeps,
    tt,
    subst (λ (ws : List ℕ). HasOneHistory history fixed wrong (after history fixed wrong ws s.homes (set s.views id me.0))) (taken.words ∙ sym (ap (λ (ws : List ℕ). set ws 0 1) taken.words))
        (subst (λ (vs : List SeatView). HasOneHistory history fixed wrong (after history fixed wrong s.words s.homes vs)) (sym (set_again s.views id me.0 at)) r),
    ((λ is. absurd (omega (arith, is))), (λ _. refl)),
  )

  pub takes_it : (slots : ℕ) (id : ℕ) (me : At) → IsIdle me.0 → me.1 ≡ []
      → Allows (HasOneHistory history fixed wrong) slots id me 0 (λ n. either (eqb n 0) 1 n) (takes_turn history fixed wrong any_step me)
  takes_it slots id me idle empty s r long at fits =
      let Found : ℕ → Type 0 = λ n. Goes s id me 0 (either (eqb n 0) 1 n) (takes_turn history fixed wrong any_step me n) in
      ⊎_elim
      (λ (free : IsTurnFree history fixed wrong r.all r.log r.came s). subst Found (sym (ap (λ (ws : List ℕ). slice_index ws 0) free.words)) (taken_now s r id me idle empty at free))
      (λ (taken : IsTurnTaken r.log r.came s). subst Found (sym (ap (λ (ws : List ℕ). slice_index ws 0) taken.words)) (not_taken s r id me at taken))
      r.turn

  -- ---- the count is raised

  -- the value is out with the seat that has the turn
  seat_acts : (s : State (Option B) SeatView) (r : HasOneHistory history fixed wrong s) (id : ℕ) (v : SeatView) → get_elem? s.views id ≡ some v → v.acting ≡ true → IsTurnTaken r.log r.came s
  seat_acts s r id v at acts = ⊎_elim (λ (free : IsTurnFree history fixed wrong r.all r.log r.came s). absurd (true≢false (sym acts ∙ free.nobody id v at))) (λ taken. taken) r.turn

  -- what another seat knows stays true
  others_true : (s : State (Option B) SeatView) (r : HasOneHistory history fixed wrong s) (id : ℕ) (v : SeatView) (added : List Entry) (came : Bool) → get_elem? s.views id ≡ some v → MayAdd v.known r.log added → (r.came ≡ true → came ≡ true)
      → (j : ℕ) (u : SeatView) → j ≢ id → get_elem? s.views j ≡ some u → IsTrueOf r.all (r.log ++ added) came u
  others_true s r id v added came at may rises j u apart there = let was = r.each j u there in record {
    fixed_is = was.fixed_is;
    front = prefix_trans u.front r.log (r.log ++ added) was.front (prefix_push r.log added);
    met = prefix_trans u.met r.log (r.log ++ added) was.met (prefix_push r.log added);
    own_log = λ client k. others_stay v.known r.log added client r.orderly may (unknown client k) (known_there u.known r.log client was.own_log k) ∙ was.own_log client k;
    own_front = was.own_front;
    spent = was.spent;
    told = λ knew. rises (was.told knew);
  }
    where
      unknown : (client : ℕ) → knows u.known client ≡ true → knows v.known client ≡ false
      unknown client k = ⊎_elim
          (λ (known : knows v.known client ≡ true). absurd (apart (sym (r.owned j u there client k) ∙ r.owned id v at client known)))
          (λ (no_one : knows v.known client ≡ false). no_one)
          (decided (knows v.known client))

  raised_from : (s : State (Option B) SeatView) (r : HasOneHistory history fixed wrong s) (id : ℕ) (v : SeatView) (added : List Entry) (count : ℕ) (came : Bool) → get_elem? s.views id ≡ some v → v.acting ≡ true → (v.wrong ≡ true → came ≡ true)
      → 0 < v.parts → MayAdd v.known r.log added → count ≡ length (r.log ++ added)
      → HasOneHistory history fixed wrong (after history fixed wrong (set s.words 1 count) s.homes (set s.views id (record v { front = r.log ++ added; known = v.known ++ added; wrong = came })))
  raised_from s r id v added count came at acts rises some_part may counted =
      moved history fixed wrong s r id v w (set s.words 1 count) s.homes (r.log ++ added) came at refl (orderly_more v.known r.log added r.orderly was.own_log may) (inr now)
      (others_true s r id v added came at may rises_all) mine (λ client k. knows_left client v.known added k)
      (λ client k unknown. new_to_log v.known r.log added client r.orderly may (added_one client k unknown) unknown)
      (λ client there unknown. old_one client unknown (knows_either client r.log added there)) (inl refl)
    where
      w : SeatView
      w = record v { front = r.log ++ added; known = v.known ++ added; wrong = came }

      was : IsTrueOf r.all r.log r.came v
      was = r.each id v at

      mine : IsTrueOf r.all (r.log ++ added) came w
      mine = record {
        fixed_is = was.fixed_is;
        front = prefix_refl (r.log ++ added);
        met = prefix_trans v.met r.log (r.log ++ added) was.met (prefix_push r.log added);
        own_log = own_more v.known r.log added r.orderly was.own_log may;
        own_front = own_more v.known r.log added r.orderly was.own_log may;
        spent = λ none_left. absurd (omega (arith, some_part));
        told = λ knew. knew;
      }

      taken : IsTurnTaken r.log r.came s
      taken = seat_acts s r id v at acts

      rises_all : r.came ≡ true → came ≡ true
      rises_all rose = rises ((taken.alone id v at acts).2 ∙ rose)

      now : IsTurnTaken (r.log ++ added) came (after history fixed wrong (set s.words 1 count) s.homes (set s.views id w))
      now = record {
        seat = id;
        words = ap (λ (ws : List ℕ). set ws 1 count) taken.words ∙ ap (λ (n : ℕ). 1 ∷ n ∷ []) counted;
        out = taken.out;
        actor = (w, at_once s.views id v w at, acts);
        alone = each_set (λ j u. u.acting ≡ true → (j ≡ id) × (u.front ≡ r.log ++ added) × (u.wrong ≡ came)) s.views id w (λ _. (refl, refl, refl))
            (λ j u apart there acting. absurd (apart ((taken.alone j u there acting).0 ∙ sym (taken.alone id v at acts).0)));
      }

      added_one : (client : ℕ) → knows (v.known ++ added) client ≡ true → knows v.known client ≡ false → knows added client ≡ true
      added_one client k unknown = ⊎_elim (λ (old : knows v.known client ≡ true). absurd (true≢false (sym old ∙ unknown))) (λ (new : knows added client ≡ true). new) (knows_either client v.known added k)

      old_one : (client : ℕ) → knows (v.known ++ added) client ≡ false → (knows r.log client ≡ true) ⊎ (knows added client ≡ true) → knows r.log client ≡ true
      old_one client unknown (inl old) = old
      old_one client unknown (inr new) = absurd (true≢false (sym (knows_right client v.known added new) ∙ unknown))

  pub raises_it : (slots : ℕ) (id : ℕ) (me : At) (value : B) (count : ℕ) → me.1 ≡ (0, Some value) ∷ [] → MayGiveBack history fixed wrong me.0 value → count ≡ length (history value)
      → Allows (HasOneHistory history fixed wrong) slots id me 1 (λ _. count) (λ _. raises_count history wrong any_step me count)
  raises_it slots id me value count out may counted s r long at fits =
      let taken = seat_acts s r id me.0 at may.acting in
      let front : me.0.front ≡ r.log = (taken.alone id me.0 at may.acting).1 in
      let entered : history value ≡ r.log ++ may.added = may.entered ∙ ap (λ (l : List Entry). l ++ may.added) front in
      let more : drop (length me.0.front) (history value) ≡ may.added = ap (drop (length me.0.front)) may.entered ∙ drop_front me.0.front may.added in (
        raised me.0 (history value) (wrong value),
        keeps,
        tt,
        subst (λ (w : SeatView). HasOneHistory history fixed wrong (after history fixed wrong (set s.words 1 count) s.homes (set s.views id w)))
            (λ i. record me.0 { front = sym entered i; known = me.0.known ++ sym more i; wrong = wrong value })
            (raised_from s r id me.0 may.added count (wrong value) at may.acting may.told may.some_part (subst (λ (l : List Entry). MayAdd me.0.known l may.added) front may.may) (counted ∙ ap length entered)),
        λ other is. (λ i. let at = same_value value other (sym out ∙ is) i in (raised me.0 (history at) (wrong at), me.1)),
      )

  -- ---- the turn is given back

  pub gives_it : (slots : ℕ) (id : ℕ) (me : At) (value : B) → me.1 ≡ (0, Some value) ∷ [] → history value ≡ me.0.front → fixed value ≡ me.0.fixed → wrong value ≡ me.0.wrong → me.0.acting ≡ true → 0 < me.0.parts
      → Allows (HasOneHistory history fixed wrong) slots id me 0 (λ _. 0)
      (λ _. gives_back any_step me 0)
  gives_it slots id me value out same same_fixed same_wrong acts some_part s r long at fits = (
    rested me.0,
    gives,
    tt,
    subst (λ (hs : List (maybe.Option (Option B))). HasOneHistory history fixed wrong (after history fixed wrong (set s.words 0 0) hs (set s.views id (rested me.0)))) (sym (ap (put_back s.homes) out))
        (moved history fixed wrong s r id me.0 (rested me.0) (set s.words 0 0) (set s.homes 0 (some (Some value))) r.log r.came at refl r.orderly (inl free) (λ j u apart there. r.each j u there) mine
        (λ client k. k) (λ client k unknown. absurd (true≢false (sym k ∙ unknown))) (λ client there unknown. there) (inr (refl, refl))),
    λ i. (rested me.0, rest (out i)),
  )
    where
      was : IsTrueOf r.all r.log r.came me.0
      was = r.each id me.0 at

      taken : IsTurnTaken r.log r.came s
      taken = seat_acts s r id me.0 at acts

      mine : IsTrueOf r.all r.log r.came (rested me.0)
      mine = record {
        fixed_is = was.fixed_is;
        front = was.front;
        met = was.met;
        own_log = was.own_log;
        own_front = was.own_front;
        spent = λ none_left. absurd (omega (arith, some_part));
        told = was.told;
      }

      quiet : (j : ℕ) (u : SeatView) → j ≢ id → get_elem? s.views j ≡ some u → u.acting ≡ false
      quiet j u apart there = ⊎_elim
          (λ (acting : u.acting ≡ true). absurd (apart ((taken.alone j u there acting).0 ∙ sym (taken.alone id me.0 at acts).0)))
          (λ (resting : u.acting ≡ false). resting)
          (decided u.acting)

      free : IsTurnFree history fixed wrong r.all r.log r.came (after history fixed wrong (set s.words 0 0) (set s.homes 0 (some (Some value))) (set s.views id (rested me.0)))
      free = record {
        value = value;
        words = ap (λ (ws : List ℕ). set ws 0 0) taken.words;
        home = ap (λ hs. set hs 0 (some (Some value))) taken.out;
        history_is = same ∙ (taken.alone id me.0 at acts).1;
        fixed_is = same_fixed ∙ was.fixed_is some_part;
        wrong_is = same_wrong ∙ (taken.alone id me.0 at acts).2;
        nobody = each_set (λ j u. u.acting ≡ false) s.views id (rested me.0) refl quiet;
      }

  -- ---- a seat looks at the history

  pub settles_it : (slots : ℕ) (id : ℕ) (me : At) → 0 < me.0.parts → length me.0.met ≤ length me.0.front
      → Allows (HasOneHistory history fixed wrong) slots id me 1 (λ n. n) (settles any_step me)
  settles_it slots id me some_part short s r long at fits = (
    w,
    keeps,
    tt,
    subst (λ (ws : List ℕ). HasOneHistory history fixed wrong (after history fixed wrong ws s.homes (set s.views id w))) (sym (set-get_or s.words 1 0))
        (moved history fixed wrong s r id me.0 w s.words s.homes r.log r.came at refl r.orderly (turn_stays history fixed wrong s r id me.0 w at refl refl refl) (λ j u apart there. r.each j u there) mine
        (λ client k. same client ∙ k) (λ client k unknown. absurd (true≢false (sym k ∙ (same client ∙ unknown)))) (λ client there unknown. there) (inr (refl, refl))),
    (refl, record { now = refl; met = shorter_begins me.0.met me.0.front r.log was.met was.front short; own = was.own_front }),
  )
    where
      w : SeatView
      w = settled me.0

      was : IsTrueOf r.all r.log r.came me.0
      was = r.each id me.0 at

      same : (client : ℕ) → knows w.known client ≡ knows me.0.known client
      same client = knows_of_known me.0.known me.0.front was.own_front client

      kept : (client : ℕ) → knows w.known client ≡ true → own w.known client ≡ own me.0.front client
      kept client k = own_of_known me.0.known me.0.front client (sym (same client) ∙ k)

      mine : IsTrueOf r.all r.log r.came w
      mine = record {
        fixed_is = was.fixed_is;
        front = was.front;
        met = prefix_nil r.log;
        own_log = λ client k. let known = sym (same client) ∙ k in was.own_log client known ∙ sym (was.own_front client known) ∙ sym (kept client k);
        own_front = λ client k. sym (kept client k);
        spent = λ none_left. absurd (omega (arith, some_part));
        told = was.told;
      }

  -- ---- the steps of a value's way home, one after another

  -- the value is in the slot again
  pub put_in : (old new : At) (value : B) → old.1 ≡ (0, None) ∷ [] → new ≡ (old.0, (0, Some value) ∷ rest old.1) → new ≡ (old.0, (0, Some value) ∷ [])
  put_in old new value out is = is ∙ ap (λ (l : List (ℕ × Option B)). (old.0, (0, Some value) ∷ rest l)) out

  pub raises_at : (slots id : ℕ) (v : SeatView) (me : At) (value : B) (count : ℕ) → me ≡ (v, (0, Some value) ∷ []) → MayGiveBack history fixed wrong v value → count ≡ length (history value)
      → Allows (HasOneHistory history fixed wrong) slots id me 1 (λ _. count) (λ _. raises_count history wrong any_step me count)
  raises_at slots id v me value count is may counted =
      subst (λ (m : At). Allows (HasOneHistory history fixed wrong) slots id m 1 (λ _. count) (λ _. raises_count history wrong any_step m count)) (sym is) (raises_it slots id (v, (0, Some value) ∷ []) value count refl may counted)

  pub raised_at : (v : SeatView) (me new : At) (value : B) (count : ℕ) → me ≡ (v, (0, Some value) ∷ []) → raises_count history wrong any_step me count new
      → new ≡ (raised v (history value) (wrong value), (0, Some value) ∷ [])
  raised_at v me new value count is told = told value (ap (λ (m : At). m.1) is) ∙ ap (λ (m : At). (raised m.0 (history value) (wrong value), m.1)) is

  pub gives_at : (slots id : ℕ) (v : SeatView) (me : At) (value : B) → me ≡ (raised v (history value) (wrong value), (0, Some value) ∷ []) → MayGiveBack history fixed wrong v value
      → Allows (HasOneHistory history fixed wrong) slots id me 0 (λ _. 0)
      (λ _. gives_back any_step me 0)
  gives_at slots id v me value is may =
      subst (λ (m : At). Allows (HasOneHistory history fixed wrong) slots id m 0 (λ _. 0) (λ _. gives_back any_step m 0)) (sym is)
      (gives_it slots id (raised v (history value) (wrong value), (0, Some value) ∷ []) value refl refl may.fixed_is refl may.acting may.some_part)

  pub given_at : (v : SeatView) (me new : At) (value : B) → me ≡ (raised v (history value) (wrong value), (0, Some value) ∷ []) → gives_back any_step me 0 new
      → new ≡ (rested (raised v (history value) (wrong value)), [])
  given_at v me new value is told = told ∙ ap (λ (m : At). (rested m.0, [])) is
