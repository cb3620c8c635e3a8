-- What a pass knows of the connections that were served with it, and with the pass that it is joined with.
use Rattle.std.proofs.Common.{◌≡◌, ◌≤◌, ◌+◌, ℕ, Bool, true, true≢false, List, [], ◌∷◌, ◌++◌, Option, sym, ap, subst, ◌∙◌, arith}
use Rattle.std.specs.Prelude.{All}
use Rattle.std.specs.List.{AllByRecursion}
use Rattle.std.proofs.lemmas.List.Elements.{All-append, All-cons, All-from_recursion, All-nil, recursion_from_All}
use Rattle.std.proofs.lemmas.List.Sums.{sum_by-append}
use mathlib.Core.List.{IsPrefix}
use Rattle.history_spec.specs.Entry.{Entry, own}
use Rattle.broker_lock.specs.Known.{Fixed, IsLegalOver, Origin, knows}
use Rattle.broker_lock.specs.Pass.{Joins, PassView}
use Rattle.broker_lock.proofs.Knowing.{knows_same, own_rest}
use Rattle.cancel_words.specs.View.{WordView}
use Rattle.connection_core.specs.declared.ends.Ending.{Ending}
use Rattle.accept_loop.specs.Connections.{ConnectionEnds, IsLink, is_of, links_of}
use Rattle.accept_loop.specs.Passes.{Comes}
use Rattle.accept_loop.proofs.Linking.{as_count, ended_by, joined_known, knows_link, link_stays, links-cons, longer_legal, of_itself, or_left, or_right, own_link, prefix_one, prefix_other, some_count}
use Rattle.link_pool.specs.Servers.{Knows}

module _ {M : Type 0} (given left : M → ConnectionEnds) (client_of : M → Option ℕ) (done_of : M → ℕ) (ending_of : M → Ending) (word_of : M → Option WordView) where
  abbrev pub is_link : Fixed → (wrong : Bool) → List Entry → M → Type 0
  is_link fixed wrong journal s = IsLink fixed wrong journal (given s) (left s) (client_of s) (done_of s) (ending_of s) (word_of s)

  links-append : (c : ℕ) (xs ys : List M) → links_of client_of c (xs ++ ys) ≡ links_of client_of c xs + links_of client_of c ys
  links-append c xs ys = sum_by-append (λ (s : M). as_count (is_of c (client_of s))) xs ys

  -- ---- a longer front of the history

  each_stays : (fixed : Fixed) (wrong new_wrong : Bool) (front more : List Entry) (served : List M) → (wrong ≡ true → new_wrong ≡ true) → ((c : ℕ) → 1 ≤ links_of client_of c served → own more c ≡ [])
      → AllByRecursion (is_link fixed wrong front) served → AllByRecursion (is_link fixed new_wrong (front ++ more)) served
  each_stays fixed wrong new_wrong front more [] rises none each = tt
  each_stays fixed wrong new_wrong front more (s ∷ served) rises none each = (
    link_stays fixed wrong new_wrong front more (given s) (left s) (client_of s) (done_of s) (ending_of s) (word_of s) rises
        (λ c is. none c (let one : as_count (is_of c (client_of s)) ≡ 1 = ap as_count (of_itself c (client_of s) is) in omega (arith, links-cons client_of c s served, one))) each.0,
    each_stays fixed wrong new_wrong front more served rises (λ c some. none c (omega (arith, links-cons client_of c s served, some))) each.1,
  )

  -- connections by a pass that is joined with another
  moved : (old new : PassView) (served : List M) → IsPrefix old.front new.front → new.fixed ≡ old.fixed → (old.wrong ≡ true → new.wrong ≡ true) → ((c : ℕ) → 1 ≤ links_of client_of c served → own new.front c ≡ own old.front c)
      → All (is_link old.fixed old.wrong old.front) served → All (is_link new.fixed new.wrong new.front) served
  moved old new served there same rises own_is each =
      let stays = All-from_recursion (is_link old.fixed new.wrong (old.front ++ there.0)) served (each_stays old.fixed old.wrong new.wrong old.front there.0 served rises
      (λ c some. own_rest c old.front there.0 (ap (λ (l : List Entry). own l c) there.1 ∙ own_is c some)) (recursion_from_All (is_link old.fixed old.wrong old.front) served each)) in
      subst (λ (f : Fixed). All (is_link f new.wrong new.front) served) (sym same)
      (subst (λ (h : List Entry). All (is_link old.fixed new.wrong h) served) there.1 stays)

  module _ (legal : Origin → List Entry → Type 0) where
    abbrev KnowsOf : PassView → List M → Type 0
    KnowsOf = Knows legal is_link client_of

    -- nobody was served yet
    pub knows_nobody : (pass : PassView) → pass.known ≡ [] → IsLegalOver legal pass.fixed.base pass.front → KnowsOf pass []
    knows_nobody pass nobody was = record {
      is_legal = was;
      own_is = λ c known. absurd (true≢false (sym known ∙ ap (λ (l : List Entry). knows l c) nobody));
      each = All-nil (is_link pass.fixed pass.wrong pass.front);
      clients = λ c. ap (λ (l : List Entry). as_count (knows l c)) (sym nobody);
    }

    -- one connection
    pub knows_one : (old new : PassView) (s : M) → Comes legal old new (given s) (left s) (client_of s) (done_of s) (ending_of s) (word_of s) → IsLegalOver legal old.fixed.base old.front → KnowsOf new (s ∷ [])
    knows_one old new s comes was = record {
      is_legal = subst (λ (f : Fixed). IsLegalOver legal f.base new.front) (sym comes.goes_on.fixed) (comes.goes_on.stays_legal was);
      own_is = own_link legal (client_of s) new (given s) (left s) (done_of s) (ending_of s) (word_of s) comes.ended;
      each = All-cons (is_link new.fixed new.wrong new.front) s []
          (record { ended = ended_by legal (client_of s) new (given s) (left s) (done_of s) (ending_of s) (word_of s) comes.ended; cause = comes.cause })
          (All-nil (is_link new.fixed new.wrong new.front));
      clients = λ c.
          let same : as_count (knows new.known c) ≡ as_count (is_of c (client_of s)) = ap as_count (knows_link legal c (client_of s) new (given s) (left s) (done_of s) (ending_of s) (word_of s) comes.ended) in
          omega (arith, same, links-cons client_of c s []);
    }

    -- what both passes know
    pub knows_both : (one other new : PassView) (xs ys : List M) → KnowsOf one xs → KnowsOf other ys → other.fixed ≡ one.fixed → Joins one other new → KnowsOf new (xs ++ ys)
    knows_both one other new xs ys a b same joins =
        let of_one = λ (c : ℕ) (known : knows one.known c ≡ true).
        joins.own c (knows_same c new.known one.known (joins.of_old c known) ∙ known) ∙ joins.of_old c known ∙ sym (a.own_is c known) in
        let of_other = λ (c : ℕ) (known : knows other.known c ≡ true).
        joins.own c (knows_same c new.known other.known (joins.of_ended c known) ∙ known) ∙ joins.of_ended c known ∙ sym (b.own_is c known) in
        let other_legal : IsLegalOver legal one.fixed.base other.front = subst (λ (f : Fixed). IsLegalOver legal f.base other.front) same b.is_legal in
        record {
          is_legal = subst (λ (f : Fixed). IsLegalOver legal f.base new.front) (sym joins.fixed) (longer_legal legal one.fixed.base one.front other.front new.front joins.front a.is_legal other_legal);
          own_is = joins.own;
          each = All-append (is_link new.fixed new.wrong new.front) xs ys
              (moved one new xs (prefix_one one.front other.front new.front joins.front) joins.fixed (λ knew. joins.wrong ∙ or_left one.wrong other.wrong knew)
              (λ c some. of_one c (some_count (knows one.known c) (omega (arith, some, a.clients c)))) a.each)
              (moved other new ys (prefix_other one.front other.front new.front joins.front) (joins.fixed ∙ sym same) (λ knew. joins.wrong ∙ or_right one.wrong other.wrong knew)
              (λ c some. of_other c (some_count (knows other.known c) (omega (arith, some, b.clients c)))) b.each);
          clients = λ c.
              let both : as_count (knows other.known c) + as_count (knows one.known c) ≡ as_count (knows new.known c) = joined_known one other new c joins in
              omega (arith, both, links-append c xs ys, a.clients c, b.clients c);
        }

    -- the same pass with other parts
    pub knows_still : (pass : PassView) (parts : ℕ) (xs : List M) → KnowsOf pass xs → KnowsOf (record pass { parts = parts }) xs
    knows_still pass parts xs k = record { is_legal = k.is_legal; own_is = k.own_is; each = k.each; clients = k.clients }
