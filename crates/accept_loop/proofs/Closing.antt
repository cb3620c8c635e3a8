-- What a pass that has served all connections tells once the lock is closed.
use Rattle.std.proofs.Common.{◌≡◌, ◌≤◌, ◌+◌, ℕ, Bool, true, false, true≢false, List, [], ◌∷◌, ◌++◌, Option, Some, None, Result, Ok, Err, refl, sym, ap, subst, ◌∙◌, inl, inr, append-nil, arith}
use Rattle.std.specs.Prelude.{◌⊎◌, IsErrAnd, MatchResult, OnErr, OnOk}
use Rattle.std.specs.List.{AllZip}
use Rattle.std.proofs.lemmas.Bool.{eqb-true}
use Rattle.connection_core.specs.Turns.{GoesOn}
use Rattle.tab_spec.specs.Count.{Rose}
use Rattle.history_spec.specs.Entry.{Entry, clients_of, close_entry, own}
use Rattle.broker_lock.specs.Known.{Fixed, IsLegalOver, Origin, knows}
use Rattle.broker_lock.specs.Pass.{PassView}
use Rattle.broker_lock.specs.Pass.{PassEnds as EndsLock}
use Rattle.broker_lock.proofs.Knowing.{own_none}
use Rattle.cancel_words.specs.View.{WordView}
use Rattle.connection_core.specs.declared.ends.Ending.{Ending}
use Rattle.broker_lock.specs.Serves.{IsAnswered, IsFailed}
use Rattle.connection_core.specs.Links.{AreEntriesFrom, IsCanceledUpTo, IsCommandEntry}
use Rattle.accept_loop.specs.Connections.{AreEnough, AreServed, ConnectionEnds, HasClient}
use Rattle.accept_loop.specs.Connections.{HasPerhapsClient}
use Rattle.accept_loop.specs.Connections.{HasServed, IsLink, IsLinkDone, client_of, is_of, links_of}
use Rattle.accept_loop.specs.declared.serving.AcceptError.{AcceptError}
use Rattle.accept_loop.specs.declared.serving.LinkDone.{LinkDone}
use Rattle.accept_loop.specs.Passes.{ServesAll}
use Rattle.accept_loop.proofs.Linking.{as_count, each_stays, first_same, is_linked, links-cons}
use Rattle.accept_loop.proofs.Present.{nobody_left, times_after, times_by, times_of}

-- ---- a client that was served is closed

entry_keeps : (fixed : Fixed) (history : List Entry) (client number : ℕ) (command : List ℕ) (e : Entry) → IsCommandEntry fixed history client number command e
    → (count : ℕ) → times_by e.kind count ≡ count
entry_keeps fixed history client number command e is count = by_cause is.cause
  where
    by_cause : (IsAnswered client number command e ⊎ (IsFailed fixed.began client number command e ⊎ ((upto : ℕ) × IsCanceledUpTo client number upto command e))) → times_by e.kind count ≡ count
    by_cause (inl form) = ap (λ (x : Entry). times_by x.kind count) form
    by_cause (inr (inl failed)) = ap (λ (x : Entry). times_by x.kind count) failed.form
    by_cause (inr (inr canceled)) = ap (λ (x : Entry). times_by x.kind count) canceled.1.form

entries_keep : (fixed : Fixed) (history : List Entry) (client number : ℕ) (commands : List (List ℕ)) (entries : List Entry) → AreEntriesFrom fixed history client number commands entries
    → (count : ℕ) (more : List Entry) → times_after count (entries ++ more) ≡ times_after count more
entries_keep fixed history client number [] entries are count more = ap (λ (l : List Entry). times_after count (l ++ more)) are
entries_keep fixed history client number (command ∷ commands) entries (inl are) count more =
    entries_keep fixed history client (number + 1) commands entries are count more
entries_keep fixed history client number (command ∷ commands) entries (inr are) count more =
    ap (λ (l : List Entry). times_after count (l ++ more)) are.2
    ∙ ap (λ (n : ℕ). times_after n (are.1 ++ more)) (entry_keeps fixed history client number command are.0 are.3 count)
    ∙ entries_keep fixed history client (number + 1) commands are.1 are.4 count more

pub client_left : (fixed : Fixed) (wrong : Bool) (history : List Entry) (given left : ConnectionEnds) (client done : ℕ) (ending : Ending) (word : Option WordView) → HasClient fixed wrong history given left client done ending word
    → times_after 0 (own history client) ≡ 0
client_left fixed wrong history given left client done ending word is =
    ap (λ (l : List Entry). times_after 0 l) is.own_is
    ∙ entries_keep fixed history client 1 _ is.entries is.ran.entries_are 1 (close_entry client ∷ [])

pub is_this : (client : ℕ) (found : Option ℕ) → is_of client found ≡ true → found ≡ Some client
is_this client None is = absurd (true≢false (sym is))
is_this client (Some other) is = ap Some (eqb-true other client is)

module _ {L M : Type 0} (g : L → ConnectionEnds) (k : M → ConnectionEnds) (client_of : M → Option ℕ) (done_of : M → ℕ) (ending_of : M → Ending) (word_of : M → Option WordView) where
  abbrev is_link_of : Fixed → (wrong : Bool) → List Entry → L → M → Type 0
  is_link_of fixed wrong history given link = IsLink fixed wrong history (g given) (k link) (client_of link) (done_of link) (ending_of link) (word_of link)

  link_left : (fixed : Fixed) (wrong : Bool) (history : List Entry) (client : ℕ) (accepted : List L) (links : List M) → AllZip (is_link_of fixed wrong history) accepted links
      → 1 ≤ links_of client_of client links → times_after 0 (own history client) ≡ 0
  link_left fixed wrong history client [] [] each some = absurd (omega (arith, some))
  link_left fixed wrong history client [] (link ∷ links) each some = absurd each
  link_left fixed wrong history client (given ∷ accepted) [] each some = absurd each
  link_left fixed wrong history client (given ∷ accepted) (link ∷ links) each some =
      by_this (is_of client (client_of link)) refl (link_left fixed wrong history client accepted links each.1)
    where
      by_this : (b : Bool) → is_of client (client_of link) ≡ b → (1 ≤ links_of client_of client links → times_after 0 (own history client) ≡ 0)
          → times_after 0 (own history client) ≡ 0
      by_this true is rest = client_left fixed wrong history (g given) (k link) client (done_of link) (ending_of link) (word_of link)
          (subst (λ (c : Option ℕ). HasPerhapsClient c fixed wrong history (g given) (k link) (done_of link) (ending_of link) (word_of link)) (is_this client (client_of link) is) each.0.ended)
      by_this false is rest =
          rest (let none : as_count (is_of client (client_of link)) ≡ 0 = ap as_count is in omega (arith, some, links-cons client_of client link links, none))

  -- all clients are closed
  pub all_closed : (fixed : Fixed) (wrong : Bool) (history : List Entry) (coming coming_new : Option (List L)) (most : ℕ) (links : List M)
      → AreServed (is_link_of fixed wrong history) client_of history coming coming_new most links → (clients_of history).present ≡ []
  all_closed fixed wrong history coming coming_new most links served = nobody_left (clients_of history).present (λ client. times_of client history ∙ by_known client (knows history client) refl)
    where
      by_known : (client : ℕ) (b : Bool) → knows history client ≡ b → times_after 0 (own history client) ≡ 0
      by_known client true known = link_left fixed wrong history client served.accepted links served.each
          (let one : as_count (knows history client) ≡ 1 = ap as_count known in omega (arith, served.clients client, one))
      by_known client false known = ap (λ (l : List Entry). times_after 0 l) (own_none client history known)

  -- what was served where a wrong answer may have come was served where one may have come since
  rises_all : (fixed : Fixed) (wrong new_wrong : Bool) (history known : List Entry) (coming coming_new : Option (List L)) (most : ℕ) (links : List M) → (wrong ≡ true → new_wrong ≡ true)
      → AreServed (is_link_of fixed wrong history) client_of known coming coming_new most links → AreServed (is_link_of fixed new_wrong history) client_of known coming coming_new most links
  rises_all fixed wrong new_wrong history known coming coming_new most links rises served = record {
    accepted = served.accepted;
    first = served.first;
    within = served.within;
    each = subst (λ (h : List Entry). AllZip (is_link_of fixed new_wrong h) served.accepted links) (append-nil history)
        (each_stays g k client_of done_of ending_of word_of fixed wrong new_wrong history [] served.accepted links rises (λ c some. refl) served.each);
    clients = served.clients;
  }

  -- what was served by the last pass was served by the history
  pub served_by : (pass : PassView) (fixed : Fixed) (wrong : Bool) (history : List Entry) (coming coming_new : Option (List L)) (most : ℕ) (links : List M)
      → pass.fixed ≡ fixed → (pass.wrong ≡ true → wrong ≡ true) → history ≡ pass.front → history ≡ pass.known
      → AreServed (is_linked g k client_of done_of ending_of word_of pass) client_of pass.known coming coming_new most links
      → AreServed (is_link_of fixed wrong history) client_of history coming coming_new most links
  served_by pass fixed wrong history coming coming_new most links same rises front known served =
      rises_all fixed pass.wrong wrong history history coming coming_new most links rises
      (subst (λ (f : Fixed). AreServed (is_link_of f pass.wrong history) client_of history coming coming_new most links) same
      (subst (λ (h : List Entry). AreServed (is_link_of pass.fixed pass.wrong h) client_of history coming coming_new most links) (sym front)
      (subst (λ (h : List Entry). AreServed (is_link_of pass.fixed pass.wrong pass.front) client_of h coming coming_new most links) (sym known) served)))

  pub served_at_end : {X E : Type 0} {legal : Origin → List Entry → Type 0} (first last : PassView) (fixed fixed_new : Fixed) (wrong : Bool) (history : List Entry) (coming coming_new coming_given : Option (List L)) (faults faults_new most : ℕ) (accepted : Result X E)
      (links links_given : List M) → first.fixed ≡ fixed → coming_new ≡ coming_given → links_given ≡ links
      → ServesAll legal (is_linked g k client_of done_of ending_of word_of) client_of first last coming coming_new faults faults_new most accepted links → EndsLock last history fixed_new wrong
      → AreServed (is_link_of fixed wrong history) client_of history coming coming_given most links_given
  served_at_end first last fixed fixed_new wrong history coming coming_new coming_given faults faults_new most accepted links links_given same given_is links_are all ends =
      subst (λ (l : List M). AreServed (is_link_of fixed wrong history) client_of history coming coming_given most l) (sym links_are)
      (subst (λ (c : Option (List L)). AreServed (is_link_of fixed wrong history) client_of history coming c most links) given_is
      (served_by last fixed wrong history coming coming_new most links (all.goes_on.fixed ∙ same) ends.told ends.front ends.known all.served))

-- the history is legal at the end where it was so at the start
pub legal_at_end : (legal : Origin → List Entry → Type 0) (first last : PassView) (fixed : Fixed) (before history : List Entry) → first.fixed ≡ fixed → first.front ≡ [] → before ≡ []
    → IsLegalOver legal fixed.base before → GoesOn legal first last → history ≡ last.front → IsLegalOver legal fixed.base history
legal_at_end legal first last fixed before history same none empty was on front =
    subst (λ (f : Fixed). IsLegalOver legal f.base history) same
    (subst (λ (h : List Entry). IsLegalOver legal first.fixed.base h) (sym front)
    (on.stays_legal (subst (λ (h : List Entry). IsLegalOver legal first.fixed.base h) (empty ∙ sym none)
    (subst (λ (f : Fixed). IsLegalOver legal f.base before) (sym same) was))))

-- nobody was accepted, and the history is empty
pub served_nothing : {L M : Type 0} (is_link : L → M → Type 0) (client_of : M → Option ℕ) (history : List Entry) (coming : Option (List L)) (most : ℕ) (links : List M) → history ≡ [] → links ≡ []
    → AreServed is_link client_of history coming coming most links
served_nothing {L} {M} is_link client_of history coming most links empty none =
    subst (λ (l : List M). AreServed is_link client_of history coming coming most l) (sym none) (record {
      accepted = [];
      first = first_same coming coming refl;
      within = omega arith;
      each = tt;
      clients = λ c. ap (λ (h : List Entry). as_count (knows h c)) (sym empty);
    })

-- ---- an error that is told as another

module _ {X E F : Type 0} (P : E → F → Type 0) (one : Result X E) (other : Result X F) (mapped : MatchResult one (λ x. other ≡ Ok x) (λ e. IsErrAnd other (P e))) where
  on_ok_mapped : (T : Type 0) → OnOk one T → OnOk other T
  on_ok_mapped T = by_result one other mapped
    where
      by_result : (one : Result X E) (other : Result X F) → MatchResult one (λ x. other ≡ Ok x) (λ e. IsErrAnd other (P e)) → OnOk one T → OnOk other T
      by_result (Ok x) (Ok y) is all = all
      by_result (Ok x) (Err f) is all = tt
      by_result (Err e) (Ok y) is all = absurd is
      by_result (Err e) (Err f) is all = tt

  on_err_mapped : (T : Type 0) (f : F) → other ≡ Err f → OnErr one T → T
  on_err_mapped T f err = by_result one mapped
    where
      by_result : (one : Result X E) → MatchResult one (λ x. other ≡ Ok x) (λ e. IsErrAnd other (P e)) → OnErr one T → T
      by_result (Ok x) is all = absurd (let no : Ok x ≡ Err f = sym is ∙ err in cc)
      by_result (Err e) is all = all

  pub enough_mapped : {L M : Type 0} (most : ℕ) (coming_new coming_given : Option (List L)) (links links_given : List M) → coming_new ≡ coming_given → links_given ≡ links
      → OnOk one (AreEnough most coming_new links) → OnOk other (AreEnough most coming_given links_given)
  enough_mapped {L} {M} most coming_new coming_given links links_given given_is links_are enough =
      subst (λ (l : List M). OnOk other (AreEnough most coming_given l)) (sym links_are)
      (subst (λ (c : Option (List L)). OnOk other (AreEnough most c links)) given_is (on_ok_mapped (AreEnough most coming_new links) enough))

  pub quiet_mapped : (faults faults_new faults_given : ℕ) → faults_new ≡ faults_given → OnOk one (faults_new ≡ faults) → OnOk other (faults_given ≡ faults)
  quiet_mapped faults faults_new faults_given given_is quiet = subst (λ (n : ℕ). OnOk other (n ≡ faults)) given_is (on_ok_mapped (faults_new ≡ faults) quiet)

  pub failed_mapped : (faults faults_new faults_given : ℕ) (f : F) → faults_new ≡ faults_given → other ≡ Err f → OnErr one (Rose faults faults_new) → Rose faults faults_given
  failed_mapped faults faults_new faults_given f given_is err fault = subst (λ (n : ℕ). Rose faults n) given_is (on_err_mapped (Rose faults faults_new) f err fault)

-- an error that each error becomes is no other one
pub never_mapped : {X E F : Type 0} (one : Result X E) (other : Result X F) (always never : F)
    → MatchResult one (λ x. other ≡ Ok x) (λ e. IsErrAnd other (λ f. f ≡ always))
    → (always ≡ never → ⊥) → other ≡ Err never → ⊥
never_mapped {X} {E} {F} (Ok x) other always never is apart err =
    let no : Ok x ≡ Err never = sym is ∙ err in cc
never_mapped (Err e) (Ok y) always never is apart err = absurd is
never_mapped (Err e) (Err f) always never is apart err =
    apart (sym is ∙ (let same : Err f ≡ Err never = err in cc))

-- ---- a value in a box

-- what serving leaves over a value in a box, told of the value itself
pub has_served_as : {A B C S K : Type 0} {legal : Origin → List Entry → Type 0} {fixed : B → Fixed}
    {wrong : B → Bool} {history : B → List Entry} {coming : A → Option (List (S × K))}
    {faults : A → ℕ} {left : S → Option (List ℕ)} {written : K → Option (List ℕ)}
    {source_faults : S → ℕ} {sink_faults : K → ℕ} {most : ℕ} {acceptor acceptor_new : A}
    {accepted : Result (Unit {0}) AcceptError} {links : List (LinkDone S K)}
    (fixed_of : C → Fixed) (wrong_of : C → Bool) (history_of : C → List Entry) (value value_new : B)
    (other other_new : C)
    → fixed value ≡ fixed_of other → fixed value_new ≡ fixed_of other_new
    → wrong value_new ≡ wrong_of other_new → history value_new ≡ history_of other_new
    → (value_new ≡ value → other_new ≡ other)
    → HasServed legal fixed wrong history coming faults left written source_faults sink_faults most
    value value_new acceptor acceptor_new accepted links
    → HasServed legal fixed_of wrong_of history_of coming faults left written source_faults
    sink_faults most other other_new acceptor acceptor_new accepted links
has_served_as {legal = legal} {fixed = fixed} {wrong = wrong} {history = history} {coming = coming}
    {left = left} {written = written} {source_faults = source_faults} {sink_faults = sink_faults}
    {most = most}
    {acceptor = acceptor} {acceptor_new = acceptor_new} {links = links} fixed_of wrong_of history_of
    value value_new other other_new begins same same_wrong words back s = record {
      fixed_is = sym same ∙ s.fixed_is ∙ begins;
      is_legal = subst (λ (f : Fixed). IsLegalOver legal f.base (history_of other_new)) begins
          (subst (λ (h : List Entry). IsLegalOver legal (fixed value).base h) words s.is_legal);
      served = served_as (IsLinkDone left written source_faults sink_faults) client_of (fixed value)
          (fixed_of other) (wrong value_new) (wrong_of other_new) (history value_new)
          (history_of other_new)
          (coming acceptor) (coming acceptor_new) most links begins same_wrong words s.served;
      closed = subst (λ (h : List Entry). (clients_of h).present ≡ []) words s.closed;
      enough = s.enough;
      quiet = s.quiet;
      failed = s.failed;
      memory = λ err. let none = s.memory err in (none.0, none.1, back none.2);
    }
  where
    served_as : {L M : Type 0} (is_link : Fixed → Bool → List Entry → L → M → Type 0)
        (client_of : M → Option ℕ) (fixed other : Fixed) (wrong other_wrong : Bool)
        (history told : List Entry) (coming coming_new : Option (List L)) (most : ℕ)
        (links : List M)
        → fixed ≡ other → wrong ≡ other_wrong → history ≡ told
        → AreServed (is_link fixed wrong history) client_of history coming coming_new most links
        → AreServed (is_link other other_wrong told) client_of told coming coming_new most links
    served_as is_link client_of fixed other wrong other_wrong history told coming coming_new most
        links same same_wrong words served =
        subst (λ (f : Fixed). AreServed (is_link f other_wrong told) client_of told coming
        coming_new most links) same
        (subst (λ (w : Bool). AreServed (is_link fixed w told) client_of told coming coming_new most
        links) same_wrong
        (subst (λ (h : List Entry). AreServed (is_link fixed wrong h) client_of h coming coming_new
        most links) words served))
