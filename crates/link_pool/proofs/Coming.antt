-- What accepting does to the turn.
use Rattle.std.proofs.Common.{◌≡◌, ◌≢◌, ◌≤◌, ℕ, ◌-◌, false, true≢false, List, [], ◌∷◌, ◌++◌, length, Option, Some, None, refl, sym, ap, subst, ◌∙◌, inl, inr, append_assoc, length-append, arith}
use Rattle.tab_spec.specs.Count.{Rose}
use Rattle.link_port.specs.Port.{Accepted}
use Rattle.accept_loop.specs.Connections.{AreFirst}
use Rattle.accept_loop.proofs.Linking.{first_same, none_left}
use Rattle.link_pool.specs.declared.turn.Stage.{Stage}
use Rattle.link_pool.specs.declared.turn.Stage.TheVariants as stages
use Rattle.link_pool.specs.Starts.{PoolStart, start_of}
use Rattle.link_pool.specs.Turns.{AcceptedSince, HasCome, is_over}

-- ---- what an acceptor hands out

pub first_push : {L : Type 0} (coming between coming_new : Option (List L)) (accepted : List L) (given : L) → AreFirst coming between accepted → Accepted between coming_new (Some given)
    → AreFirst coming coming_new (accepted ++ given ∷ [])
first_push {L} None between coming_new accepted given first is = subst (λ (b : Option (List L)). Accepted b coming_new (Some given)) first is
first_push {L} (Some links) between coming_new accepted given first is = by_rest first.0 first.1 (subst (λ (b : Option (List L)). Accepted b coming_new (Some given)) first.2 is)
  where
    by_rest : (rest : List L) → links ≡ accepted ++ rest → Accepted (Some rest) coming_new (Some given) → AreFirst (Some links) coming_new (accepted ++ given ∷ [])
    by_rest [] whole handed = absurd (let no : Some given ≡ None = handed.0 in cc)
    by_rest (next ∷ rest) whole handed =
        let some : Some given ≡ Some next = handed.0 in
        let same : given ≡ next = cc in (
          rest,
          whole ∙ ap (λ (l : L). accepted ++ l ∷ rest) (sym same) ∙ sym (append_assoc accepted (given ∷ []) rest),
          handed.1,
        )

-- where none is left, nothing is taken
pub none_taken : {L : Type 0} (coming coming_new : Option (List L)) → Accepted {L = L} coming coming_new None → coming_new ≡ coming
none_taken None coming_new is = is
none_taken (Some []) coming_new is = is.1
none_taken (Some (next ∷ links)) coming_new is = absurd (let some : None ≡ Some next = is.0 in cc)

-- ---- the turn

module _ {L : Type 0} (start : PoolStart L) where
  going : (stage : Stage) (faults left : ℕ) (coming : Option (List L)) → is_over stage ≡ false → HasCome stage start.faults faults left coming → faults ≡ start.faults
  going stages.Going faults left coming not_over come = come
  going stages.Over faults left coming not_over come = absurd (true≢false not_over)
  going stages.Failed faults left coming not_over come = absurd (true≢false not_over)

  still_going : (stage : Stage) (faults left : ℕ) (coming : Option (List L)) → is_over stage ≡ false → faults ≡ start.faults → HasCome stage start.faults faults left coming
  still_going stages.Going faults left coming not_over same = same
  still_going stages.Over faults left coming not_over same = absurd (true≢false not_over)
  still_going stages.Failed faults left coming not_over same = absurd (true≢false not_over)

  -- as many were accepted as were asked for
  pub keeps_enough : (name faults : ℕ) (coming : Option (List L)) (left : ℕ) (stage : Stage) (accepted : List L) → AcceptedSince start name faults coming left stage accepted
      → is_over stage ≡ false → left ≡ 0
      → AcceptedSince start name faults coming left stages.Over accepted
  keeps_enough name faults coming left stage accepted k not_over enough = record {
    same = k.same;
    first = k.first;
    count = k.count;
    come = (going stage faults left coming not_over k.come, inl enough);
  }

  -- one more was accepted
  pub keeps_more : (name name_new faults faults_new : ℕ) (coming coming_new : Option (List L)) (left left_new : ℕ) (stage : Stage) (accepted accepted_new : List L) (found : Option L) (link : L)
      → AcceptedSince start name faults coming left stage accepted → is_over stage ≡ false → (left ≡ 0 → ⊥) → found ≡ Some link → Accepted coming coming_new found → faults_new ≡ faults → name_new ≡ name
      → accepted_new ≡ accepted ++ link ∷ [] → left_new ≡ left - 1 → AcceptedSince start name_new faults_new coming_new left_new stage accepted_new
  keeps_more name name_new faults faults_new coming coming_new left left_new stage accepted accepted_new found link k not_over some is handed quiet named more fewer = record {
    same = named ∙ k.same;
    first = subst (AreFirst start.coming coming_new) (sym more) (first_push start.coming coming coming_new accepted link k.first (subst (Accepted coming coming_new) is handed));
    count = let long : length accepted_new ≡ length (accepted ++ link ∷ []) = ap length more in
        let one : left ≢ 0 = some in
        omega (arith, long, length-append accepted (link ∷ []), fewer, one, k.count);
    come = still_going stage faults_new left_new coming_new not_over (quiet ∙ going stage faults left coming not_over k.come);
  }

  -- none is left
  pub keeps_last : (name name_new faults faults_new : ℕ) (coming coming_new : Option (List L)) (left : ℕ) (stage : Stage) (accepted : List L) (found : Option L)
      → AcceptedSince start name faults coming left stage accepted → is_over stage ≡ false → found ≡ None → Accepted coming coming_new found → faults_new ≡ faults → name_new ≡ name
      → AcceptedSince start name_new faults_new coming_new left stages.Over accepted
  keeps_last name name_new faults faults_new coming coming_new left stage accepted found k not_over is handed quiet named =
      let none = subst (Accepted coming coming_new) is handed in record {
        same = named ∙ k.same;
        first = subst (λ (c : Option (List L)). AreFirst start.coming c accepted) (sym (none_taken coming coming_new none)) k.first;
        count = k.count;
        come = (quiet ∙ going stage faults left coming not_over k.come, inr (none_left coming coming_new none));
      }

  -- the acceptor failed
  pub keeps_failed : (name name_new faults faults_new : ℕ) (coming coming_new : Option (List L)) (left : ℕ) (stage : Stage) (accepted : List L)
      → AcceptedSince start name faults coming left stage accepted → is_over stage ≡ false → coming_new ≡ coming → Rose faults faults_new → name_new ≡ name
      → AcceptedSince start name_new faults_new coming_new left stages.Failed accepted
  keeps_failed name name_new faults faults_new coming coming_new left stage accepted k not_over same rose named = record {
    same = named ∙ k.same;
    first = subst (λ (c : Option (List L)). AreFirst start.coming c accepted) (sym same) k.first;
    count = k.count;
    come = subst (λ (n : ℕ). Rose n faults_new) (going stage faults left coming not_over k.come) rose;
  }

-- nobody was accepted yet
pub keeps_first : {L : Type 0} (start : PoolStart L) (coming : Option (List L)) (faults name most : ℕ) (accepted : List L) → start ≡ start_of coming faults name most → accepted ≡ []
    → AcceptedSince start name faults coming most stages.Going accepted
keeps_first {L} start coming faults name most accepted begun none =
    subst (λ (s : PoolStart L). AcceptedSince s name faults coming most stages.Going accepted)
    (sym begun)
    (subst (λ (l : List L). AcceptedSince (start_of coming faults name most) name faults coming most stages.Going l) (sym none) (record {
      same = refl;
      first = first_same coming coming refl;
      count = omega arith;
      come = refl;
    }))

-- what is left is no more than what was asked for
pub left_within : {L : Type 0} (start : PoolStart L) (coming coming_old : Option (List L)) (faults faults_old name name_old most left : ℕ) (stage : Stage) (accepted : List L) → start ≡ start_of coming_old faults_old name_old most
    → AcceptedSince start name faults coming left stage accepted → left ≤ most
left_within {L} start coming coming_old faults faults_old name name_old most left stage accepted begun k = omega (arith, k.count, ap (λ (s : PoolStart L). s.most) begun)
