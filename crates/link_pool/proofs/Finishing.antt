-- What is known once nobody more is accepted and all servers have ended.
use Rattle.std.proofs.Common.{◌≡◌, ◌≤◌, ◌-◌, ℕ, Bool, true, false, cond, true≢false, List, [], ◌∷◌, ◌++◌, length, drop, Option, Result, Ok, Err, refl, sym, ap, subst, ◌∙◌, inl, inr, append-nil, arith, suc}
use Rattle.std.specs.Prelude.{All, OnOk, map}
use Rattle.std.specs.List.{AllByRecursion, list_any, sum_by}
use Rattle.std.proofs.lemmas.List.Elements.{All-from_recursion, All-nil, recursion_from_All}
use Rattle.std.proofs.lemmas.List.Sums.{sum_by-cons}
use Rattle.tab_spec.specs.Count.{Rose}
use Rattle.history_spec.specs.Entry.{Entry, clients_of, own}
use Rattle.broker_lock.specs.Known.{Fixed, IsLegalOver, Origin, knows}
use Rattle.broker_lock.specs.Pass.{PassView}
use Rattle.broker_lock.specs.Pass.{PassEnds as EndsLock}
use Rattle.broker_lock.proofs.Knowing.{own_none}
use Rattle.cancel_words.specs.View.{WordView}
use Rattle.connection_core.specs.declared.ends.Ending.{Ending}
use Rattle.accept_loop.specs.declared.serving.AcceptError.{AcceptError}
use Rattle.accept_loop.specs.declared.serving.AcceptError.TheVariants as errors
use Rattle.accept_loop.specs.Connections.{ConnectionEnds, HasPerhapsClient, ends_of, is_of}
use Rattle.accept_loop.specs.Connections.{links_of}
use Rattle.accept_loop.proofs.Closing.{client_left, is_this}
use Rattle.accept_loop.proofs.Linking.{as_count, first_same, link_stays, links-cons}
use Rattle.accept_loop.proofs.Present.{nobody_left, times_after, times_of}
use Rattle.link_pool.specs.declared.turn.Stage.{Stage}
use Rattle.link_pool.specs.declared.turn.Stage.TheVariants as stages
use Rattle.link_pool.specs.Hands.{HandView, WeighAlike, with_turn, without_turn}
use Rattle.link_pool.specs.Outcomes.{outcome_of}
use Rattle.link_pool.specs.declared.done.Service.{Service}
use Rattle.link_pool.specs.Servers.{HasEnded, HasParts, IsServer, PoolServesAll}
use Rattle.link_pool.specs.Services.{IsEnough, IsServed, client_of, given_of, is_lacking}
use Rattle.link_pool.specs.Starts.{PoolStart, start_of}
use Rattle.link_pool.specs.Turns.{AcceptedSince, HasCome, IsAll, is_over}

-- what accepting comes to
abbrev Outcome : Type 0
Outcome = Result (Unit {0}) AcceptError

-- ---- lists

ones : {X : Type 0} (xs : List X) → sum_by (λ (x : X). 1) xs ≡ length xs
ones [] = refl
ones {X} (x ∷ xs) = omega (arith, sum_by-cons (λ (y : X). 1) x xs, ones xs)

length_map : {X Y : Type 0} (f : X → Y) (xs : List X) → length (map f xs) ≡ length xs
length_map f [] = refl
length_map f (x ∷ xs) = ap suc (length_map f xs)

drop_whole : {X : Type 0} (xs : List X) → drop (length xs) xs ≡ []
drop_whole [] = refl
drop_whole (x ∷ xs) = drop_whole xs

-- ---- by how far accepting had come

module _ {L : Type 0} (faults faults_new most left count : ℕ) (coming_new : Option (List L)) where
  enough_all : count ≡ most - left → IsAll left coming_new → IsEnough most count coming_new
  enough_all is (inl none_left) = inl (omega (arith, is, none_left))
  enough_all is (inr none) = inr none

  enough_by : (stage : Stage) → is_over stage ≡ true → count ≡ most - left → HasCome stage faults faults_new left coming_new → OnOk (outcome_of stage) (IsEnough most count coming_new)
  enough_by stages.Going over is come = absurd (true≢false (sym over))
  enough_by stages.Over over is come = enough_all is come.1
  enough_by stages.Failed over is come = tt

  quiet_by : (stage : Stage) → is_over stage ≡ true → HasCome stage faults faults_new left coming_new → OnOk (outcome_of stage) (faults_new ≡ faults)
  quiet_by stages.Going over come = absurd (true≢false (sym over))
  quiet_by stages.Over over come = come.0
  quiet_by stages.Failed over come = tt

  failed_by : (stage : Stage) → HasCome stage faults faults_new left coming_new → outcome_of stage ≡ Err errors.Failed → Rose faults faults_new
  failed_by stages.Going come err = absurd (let no : ◌≡◌ {A = Outcome} (Ok tt) (Err errors.Failed) = err in cc)
  failed_by stages.Over come err = absurd (let no : ◌≡◌ {A = Outcome} (Ok tt) (Err errors.Failed) = err in cc)
  failed_by stages.Failed come err = come

-- it isn't a want of memory
pub never_memory : (stage : Stage) (result : Outcome) → result ≡ outcome_of stage → result ≡ Err errors.Memory → ⊥
never_memory stages.Going result is err = let no : ◌≡◌ {A = Outcome} (Ok tt) (Err errors.Memory) = sym is ∙ err in cc
never_memory stages.Over result is err = let no : ◌≡◌ {A = Outcome} (Ok tt) (Err errors.Memory) = sym is ∙ err in cc
never_memory stages.Failed result is err = let no : ◌≡◌ {A = Outcome} (Err errors.Failed) (Err errors.Memory) = sym is ∙ err in cc

module _ {S K : Type 0} (legal : Origin → List Entry → Type 0) (left : S → Option (List ℕ)) (written : K → Option (List ℕ)) (source_faults : S → ℕ) (sink_faults : K → ℕ) where
  abbrev Link : Type 0
  Link = S × K

  abbrev Done : Type 0
  Done = Service S K

  abbrev before : Done → ConnectionEnds
  before s = ends_of left written source_faults sink_faults s.given.value.0 s.given.value.1

  abbrev after : Done → ConnectionEnds
  after s = ends_of left written source_faults sink_faults s.link.source s.link.sink

  abbrev done_of : Done → ℕ
  done_of s = s.link.done

  abbrev ending_of : Done → Ending
  ending_of s = s.link.ending

  abbrev word_of : Done → Option WordView
  word_of s = s.link.word

  abbrev is_link_of : Fixed → (wrong : Bool) → List Entry → Done → Type 0
  is_link_of = IsServed left written source_faults sink_faults

  abbrev Is : HandView Link → PassView → List Done → Bool → List Link → Type 0
  Is = IsServer legal (IsServed left written source_faults sink_faults) given_of client_of
      is_lacking

  -- ---- the turn is taken at the end

  -- nobody more is accepted
  pub has_ended : (hand : HandView Link) (first pass : PassView) (accepted : List Link) (served : List Done) (lacked : Bool) (first_hand : HandView Link) → Is hand pass served lacked [] → HasParts first_hand hand first pass 0
      → WeighAlike hand.mine accepted → HasEnded legal is_link_of given_of client_of is_lacking first pass accepted served lacked
  has_ended hand first pass accepted served lacked first_hand s leaves alike = record {
    lock_is = leaves.lock_is;
    parts = omega (arith, leaves.parts);
    fixed_is = leaves.fixed_is;
    known = s.known;
    once = λ h. ap (sum_by h) (sym (s.mine ∙ append-nil (map given_of served))) ∙ alike h;
    lacked_is = s.lacked_is;
  }

  -- the turn is given back at once
  pub gives_back : (hand taken hand_new : HandView Link) (pass : PassView) (accepted : List Link) (served : List Done) (lacked : Bool) → Is hand pass served lacked [] → taken ≡ with_turn hand accepted
      → hand_new ≡ without_turn taken accepted → Is hand_new pass served lacked []
  gives_back hand taken hand_new pass accepted served lacked s is back =
      subst (λ (v : HandView Link). Is v pass served lacked []) (sym (back ∙ ap (λ (v : HandView Link). without_turn v accepted) is)) (record {
        rests = record { some_part = s.rests.some_part; no_turn = refl; none = refl };
        mine = ap (λ (l : List Link). hand.mine ++ l) (drop_whole accepted) ∙ append-nil hand.mine ∙ s.mine;
        known = s.known;
        lacked_is = s.lacked_is;
      })

  -- ---- all clients are closed

  link_left : (fixed : Fixed) (wrong : Bool) (history : List Entry) (client : ℕ) (served : List Done) → AllByRecursion (is_link_of fixed wrong history) served → 1 ≤ links_of client_of client served → times_after 0 (own history client) ≡ 0
  link_left fixed wrong history client [] each some = absurd (omega (arith, some))
  link_left fixed wrong history client (s ∷ served) each some = by_this (is_of client (client_of s)) refl (link_left fixed wrong history client served each.1)
    where
      by_this : (b : Bool) → is_of client (client_of s) ≡ b → (1 ≤ links_of client_of client served → times_after 0 (own history client) ≡ 0) → times_after 0 (own history client) ≡ 0
      by_this true is rest = client_left fixed wrong history (before s) (after s) client (done_of s) (ending_of s) (word_of s)
          (subst (λ (c : Option ℕ). HasPerhapsClient c fixed wrong history (before s) (after s) (done_of s) (ending_of s) (word_of s)) (is_this client (client_of s) is) each.0.ended)
      by_this false is rest =
          rest (let none : as_count (is_of client (client_of s)) ≡ 0 = ap as_count is in omega (arith, some, links-cons client_of client s served, none))

  all_closed : (fixed : Fixed) (wrong : Bool) (history : List Entry) (served : List Done) → All (is_link_of fixed wrong history) served → ((client : ℕ) → links_of client_of client served ≡ cond (knows history client) 1 0)
      → (clients_of history).present ≡ []
  all_closed fixed wrong history served each clients = nobody_left (clients_of history).present (λ client. times_of client history ∙ by_known client (knows history client) refl)
    where
      by_known : (client : ℕ) (b : Bool) → knows history client ≡ b → times_after 0 (own history client) ≡ 0
      by_known client true known = link_left fixed wrong history client served (recursion_from_All (is_link_of fixed wrong history) served each)
          (let one : as_count (knows history client) ≡ 1 = ap as_count known in omega (arith, clients client, one))
      by_known client false known = ap (λ (l : List Entry). times_after 0 l) (own_none client history known)

  -- ---- a wrong answer may have come since

  each_rises : (fixed : Fixed) (wrong new_wrong : Bool) (history : List Entry) (served : List Done) → (wrong ≡ true → new_wrong ≡ true) → AllByRecursion (is_link_of fixed wrong history) served
      → AllByRecursion (is_link_of fixed new_wrong history) served
  each_rises fixed wrong new_wrong history [] rises each = tt
  each_rises fixed wrong new_wrong history (s ∷ served) rises each = (
    subst (λ (h : List Entry). is_link_of fixed new_wrong h s) (append-nil history)
        (link_stays fixed wrong new_wrong history [] (before s) (after s) (client_of s) (done_of s) (ending_of s) (word_of s) rises (λ c is. refl) each.0),
    each_rises fixed wrong new_wrong history served rises each.1,
  )

  all_rise : (fixed : Fixed) (wrong new_wrong : Bool) (history : List Entry) (served : List Done) → (wrong ≡ true → new_wrong ≡ true) → All (is_link_of fixed wrong history) served
      → All (is_link_of fixed new_wrong history) served
  all_rise fixed wrong new_wrong history served rises each =
      All-from_recursion (is_link_of fixed new_wrong history) served (each_rises fixed wrong new_wrong history served rises (recursion_from_All (is_link_of fixed wrong history) served each))

  -- ---- all that came were served

  ended_all : (start : PoolStart Link) (name faults : ℕ) (coming : Option (List Link)) (most : ℕ) (fixed : Fixed) (wrong : Bool) (history : List Entry) (left_over count : ℕ) (stage : Stage) (accepted : List Link) (served : List Done) (lacked : Bool)
      → AcceptedSince start name faults coming left_over stage accepted → start.most ≡ most → is_over stage ≡ true → IsLegalOver legal fixed.base history → All (is_link_of fixed wrong history) served
      → ((client : ℕ) → links_of client_of client served ≡ cond (knows history client) 1 0) → WeighAlike (map given_of served) accepted → lacked ≡ list_any is_lacking served → count ≡ most - left_over
      → PoolServesAll legal is_link_of given_of client_of is_lacking fixed fixed wrong history start.coming coming start.faults faults most (outcome_of stage) count lacked served
  ended_all start name faults coming most fixed wrong history left_over count stage accepted served lacked k most_is over was each clients once lacks is = record {
    fixed_is = refl;
    is_legal = was;
    served_is = record {
      accepted = accepted;
      first = k.first;
      within = omega (arith, k.count, most_is);
      each = each;
      once = once;
      clients = clients;
    };
    closed = all_closed fixed wrong history served each clients;
    enough = enough_by start.faults faults most left_over count coming stage over is k.come;
    quiet = quiet_by start.faults faults most left_over count coming stage over k.come;
    failed = failed_by start.faults faults most left_over count coming stage k.come;
    count_is =
        let one : sum_by (λ (l : Link). 1) (map given_of served) ≡ sum_by (λ (l : Link). 1) accepted = once (λ l. 1) in
        omega (arith, one, ones (map given_of served), ones accepted, length_map given_of served, k.count, most_is, is);
    lacked_is = lacks;
  }

  -- the same where the lock was closed, and the calls tell the rest
  pub serves_all : (start : PoolStart Link) (name faults : ℕ) (coming coming_old : Option (List Link)) (faults_old name_old most : ℕ) (first pass : PassView) (fixed fixed_new : Fixed) (wrong : Bool) (history : List Entry) (left_over count : ℕ) (stage : Stage)
      (accepted : List Link) (served : List Done) (lacked : Bool) (result : Outcome)
      → start ≡ start_of coming_old faults_old name_old most → AcceptedSince start name faults coming left_over stage accepted → is_over stage ≡ true
      → HasEnded legal is_link_of given_of client_of is_lacking first pass accepted served lacked → first.fixed ≡ fixed → EndsLock pass history fixed_new wrong → count ≡ most - left_over → result ≡ outcome_of stage
      → PoolServesAll legal is_link_of given_of client_of is_lacking fixed fixed_new wrong history coming_old coming faults_old faults most result count lacked served
  serves_all start name faults coming coming_old faults_old name_old most first pass fixed fixed_new wrong history left_over count stage accepted served lacked result begun k over ended same ends is told =
      let pass_fixed : pass.fixed ≡ fixed = ended.fixed_is ∙ same in
      let was : IsLegalOver legal fixed.base history = subst (λ (f : Fixed). IsLegalOver legal f.base history) pass_fixed (subst (λ (l : List Entry). IsLegalOver legal pass.fixed.base l) (sym ends.front) ended.known.is_legal) in
      let each : All (is_link_of fixed wrong history) served = all_rise fixed pass.wrong wrong history served ends.told
      (subst (λ (f : Fixed). All (is_link_of f pass.wrong history) served) pass_fixed (subst (λ (l : List Entry). All (is_link_of pass.fixed pass.wrong l) served) (sym ends.front) ended.known.each)) in
      let clients : (client : ℕ) → links_of client_of client served ≡ cond (knows history client) 1 0 = λ client. ended.known.clients client ∙ ap (λ (l : List Entry). as_count (knows l client)) (sym ends.known) in
      let kept : AcceptedSince (start_of coming_old faults_old name_old most) name faults coming left_over stage accepted = subst (λ (s : PoolStart Link). AcceptedSince s name faults coming left_over stage accepted) begun k in
      subst (λ (r : Outcome). PoolServesAll legal is_link_of given_of client_of is_lacking fixed fixed_new wrong history coming_old coming faults_old faults most r count lacked served) (sym told)
      (subst (λ (f : Fixed). PoolServesAll legal is_link_of given_of client_of is_lacking fixed f wrong history coming_old coming faults_old faults most (outcome_of stage) count lacked served) (sym (ends.fixed_is ∙ pass_fixed))
      (ended_all (start_of coming_old faults_old name_old most) name faults coming most fixed wrong history left_over count stage accepted served lacked kept refl over was each clients ended.once ended.lacked_is is))

  -- nobody was served, for want of memory
  pub serves_nobody : (fixed fixed_new : Fixed) (wrong : Bool) (history given : List Entry) (coming : Option (List Link)) (faults most : ℕ) (result : Outcome) (count : ℕ) (lacked : Bool) (served : List Done)
      → fixed_new ≡ fixed → history ≡ given → given ≡ [] → IsLegalOver legal fixed.base given → result ≡ Err errors.Memory → count ≡ 0 → lacked ≡ false → served ≡ []
      → PoolServesAll legal is_link_of given_of client_of is_lacking fixed fixed_new wrong history coming coming faults faults most result count lacked served
  serves_nobody fixed fixed_new wrong history given coming faults most result count lacked served same is empty was memory nobody not_lacked none =
      let nothing : history ≡ [] = is ∙ empty in
      subst (λ (l : List Done). PoolServesAll legal is_link_of given_of client_of is_lacking fixed fixed_new wrong history coming coming faults faults most result count lacked l) (sym none)
      (subst (λ (r : Outcome). PoolServesAll legal is_link_of given_of client_of is_lacking fixed fixed_new wrong history coming coming faults faults most r count lacked []) (sym memory) (record {
        fixed_is = same;
        is_legal = subst (λ (l : List Entry). IsLegalOver legal fixed.base l) (sym is) was;
        served_is = record {
          accepted = [];
          first = first_same coming coming refl;
          within = omega arith;
          each = All-nil (is_link_of fixed wrong history);
          once = λ h. refl;
          clients = λ c. ap (λ (h : List Entry). as_count (knows h c)) (sym nothing);
        };
        closed = ap (λ (h : List Entry). (clients_of h).present) nothing;
        enough = tt;
        quiet = tt;
        failed = λ err. absurd (let no : ◌≡◌ {A = Outcome} (Err errors.Memory) (Err errors.Failed) = err in cc);
        count_is = nobody;
        lacked_is = not_lacked;
      }))

  -- the same of a value and an acceptor that calls tell in other words
  pub serves_as : (fixed fixed_new fixed_told : Fixed) (fixed_given : Fixed) (wrong wrong_told : Bool) (history told : List Entry) (coming coming_new coming_told : Option (List Link)) (faults faults_new faults_told most : ℕ) (result : Outcome) (count : ℕ) (lacked : Bool) (served : List Done)
      → fixed ≡ fixed_given → fixed_new ≡ fixed_told → wrong ≡ wrong_told → history ≡ told → coming_new ≡ coming_told → faults_new ≡ faults_told
      → PoolServesAll legal is_link_of given_of client_of is_lacking fixed fixed_new wrong history coming coming_new faults faults_new most result count lacked served
      → PoolServesAll legal is_link_of given_of client_of is_lacking fixed_given fixed_told wrong_told told coming coming_told faults faults_told most result count lacked served
  serves_as fixed fixed_new fixed_told fixed_given wrong wrong_told history told coming coming_new coming_told faults faults_new faults_told most result count lacked served f n w h c q all =
      subst (λ (x : Fixed). PoolServesAll legal is_link_of given_of client_of is_lacking x fixed_told wrong_told told coming coming_told faults faults_told most result count lacked served) f
      (subst (λ (x : Fixed). PoolServesAll legal is_link_of given_of client_of is_lacking fixed x wrong_told told coming coming_told faults faults_told most result count lacked served) n
      (subst (λ (x : Bool). PoolServesAll legal is_link_of given_of client_of is_lacking fixed fixed_new x told coming coming_told faults faults_told most result count lacked served) w
      (subst (λ (x : List Entry). PoolServesAll legal is_link_of given_of client_of is_lacking fixed fixed_new wrong x coming coming_told faults faults_told most result count lacked served) h
      (subst (λ (x : Option (List Link)). PoolServesAll legal is_link_of given_of client_of is_lacking fixed fixed_new wrong history coming x faults faults_told most result count lacked served) c
      (subst (λ (x : ℕ). PoolServesAll legal is_link_of given_of client_of is_lacking fixed fixed_new wrong history coming coming_new faults x most result count lacked served) q all)))))
