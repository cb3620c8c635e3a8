-- What a turn adds to the history of a client that its pass knows.
use Rattle.std.proofs.Common.{◌≡◌, ◌⊎◌, ◌≤◌, ◌+◌, ℕ, Bool, true, false, cond, eqb, List, [], ◌∷◌, ◌++◌, length, Option, Some, None, Result, Ok, Err, refl, sym, ap, subst, ◌∙◌, append_assoc, arith, inl, inr}
use Rattle.std.specs.Prelude.{◌||◌, nat_le, if◌then◌else◌}
use Rattle.std.specs.List.{AllByRecursion, find, list_any}
use Rattle.std.proofs.lemmas.List.{append-nil, append_cancel_left, append_cancel_right}
use Rattle.std.proofs.lemmas.Bool.{eq-eqb, eqb-true, leb-true}
use Rattle.std.proofs.lemmas.List.Folds.{list_any-append}
use Rattle.tab_spec.specs.declared.TheConstants.{RC_CANCELED, RC_DEVICE_FAULT}
use Rattle.tab_spec.specs.Reply.{error_reply}
use mathlib.Core.List.{IsPrefix}
use Rattle.history_spec.specs.Cancels.{cover}
use Rattle.history_spec.specs.Entry.{Entry, HasRoomForClient, canceled_entry, close_entry, command_entry, fault_entry, is_close_kind, kept, open_entry, own, part_before}
use Rattle.history_spec.specs.Told.{ToldBy, entry_of, Limits}
use Rattle.broker_lock.specs.declared.calls.Done.{Done}
use Rattle.broker_lock.specs.declared.calls.Done.TheVariants as dones
use Rattle.broker_lock.specs.declared.calls.Job.{Job}
use Rattle.broker_lock.specs.declared.calls.Job.TheVariants as jobs
use Rattle.broker_lock.specs.declared.calls.OpenClientError.{OpenClientError}
use Rattle.broker_lock.specs.declared.calls.OpenClientError.TheVariants as open_errors
use Rattle.broker_lock.specs.declared.calls.Told.{Told}
use Rattle.broker_lock.specs.declared.calls.Told.TheVariants as tolds
use Rattle.broker_lock.specs.Examples.{HasCommandsUpTo}
use Rattle.broker_lock.specs.Known.{Fixed, IsLegalOver, Origin, knows, limits_of}
use Rattle.broker_lock.specs.Pass.{Acts, Does, MayAsk, PassView, done_wrong}
use Rattle.broker_lock.specs.Serves.{IsAnswered, IsEnteredCanceled, IsFailed, Tells, TellsCanceled, tells_wrong}
use Rattle.broker_lock.proofs.Knowing.{filter-weaker, knows_left, nothing_more, own-append, own_here, own_rest}
use Rattle.broker_lock.proofs.Serving.{may_command, served_at_first}
use Rattle.connection_core.specs.declared.ends.Ending.TheVariants as endings
use Rattle.connection_core.specs.Links.{AreEntriesFrom, AreRepliesFrom, DecideFrom, Decides, IsCanceledUpTo, IsCommandEntry, IsOpenedIn, IsOpeningRefused, IsTold, KnowsClient, upto_of}
use Rattle.connection_core.specs.Turns.{AsksInTurn, GoesOn, job_of}
use Rattle.connection_core.proofs.Telling.{AddsNone, IsBefore, before_all, decide_push, decide_stay, replies_stay}

-- ---- any turn

pub goes_on_none : {legal : Origin → List Entry → Type 0} (pass : PassView) → GoesOn legal pass pass
goes_on_none {legal = legal} pass = record { lock = refl; fixed = refl; parts = refl; seen = ([], append-nil pass.front); still = λ knew. knew; stays_legal = λ was. was }

pub goes_on_more : {legal : Origin → List Entry → Type 0} (old between new : PassView) → GoesOn legal old between → GoesOn legal between new → GoesOn legal old new
goes_on_more {legal = legal} old between new first second = record {
  lock = second.lock ∙ first.lock;
  fixed = second.fixed ∙ first.fixed;
  parts = second.parts ∙ first.parts;
  seen = (
    first.seen.0 ++ second.seen.0,
    sym (append_assoc old.front first.seen.0 second.seen.0) ∙ ap (λ (l : List Entry). l ++ second.seen.0) first.seen.1 ∙ second.seen.1,
  );
  still = λ knew. second.still (first.still knew);
  stays_legal = λ was. subst (λ (f : Fixed). IsLegalOver legal f.base new.front) first.fixed
      (second.stays_legal (subst (λ (f : Fixed). IsLegalOver legal f.base between.front) (sym first.fixed) (first.stays_legal was)));
}

pub goes_on_act : {legal : Origin → List Entry → Type 0} (old new : PassView) (job : Job) (bytes reply : List ℕ) (done : Done) → Acts legal old job bytes done reply new → GoesOn legal old new
goes_on_act {legal = legal} old new job bytes reply done acts = record {
  lock = acts.lock;
  fixed = acts.fixed;
  parts = acts.parts;
  seen = (acts.seen.0 ++ acts.added, sym (append_assoc old.front acts.seen.0 acts.added) ∙ ap (λ (l : List Entry). l ++ acts.added) acts.seen.1 ∙ sym acts.front);
  still = acts.still;
  stays_legal = λ was. subst (λ (f : Fixed). IsLegalOver legal f.base new.front) acts.fixed acts.is_legal;
}

-- ---- a refused opening

-- nothing was entered, so the pass knows nobody still
unentered : {legal : Origin → List Entry → Type 0} (old new : PassView) (bytes reply : List ℕ) (done : Done) → old.known ≡ [] → (acts : Acts legal old jobs.Open bytes done reply new) → new.front ≡ acts.before → new.known ≡ []
unentered old new bytes reply done nobody acts same =
    acts.known ∙ ap (λ (l : List Entry). l ++ acts.added) nobody ∙ nothing_more acts.before acts.added (sym acts.front ∙ same)

pub refused_memory : {legal : Origin → List Entry → Type 0} (old new : PassView) (bytes reply : List ℕ) → old.known ≡ [] → Acts legal old jobs.Open bytes (dones.Opened (Err open_errors.Memory)) reply new → IsOpeningRefused endings.Memory new 0
refused_memory old new bytes reply nobody acts = record { done_is = refl; nobody = unentered old new bytes reply _ nobody acts acts.does.0; refuses = tt }

-- where memory lacked, the journal had room
pub memory_had_room : {legal : Origin → List Entry → Type 0} (old new : PassView) (bytes reply : List ℕ) → Acts legal old jobs.Open bytes (dones.Opened (Err open_errors.Memory)) reply new → HasRoomForClient new.fixed.limit new.front
memory_had_room old new bytes reply acts =
    subst (λ (f : Fixed). HasRoomForClient f.limit new.front) (sym acts.fixed)
    (subst (λ (h : List Entry). HasRoomForClient old.fixed.limit h) (sym acts.does.0) acts.does.1)

pub refused_answer : {legal : Origin → List Entry → Type 0} (old new : PassView) (bytes reply : List ℕ) → old.known ≡ [] → Acts legal old jobs.Open bytes (dones.Opened (Err open_errors.Answer)) reply new → IsOpeningRefused endings.Answer new 0
refused_answer old new bytes reply nobody acts = record {
  done_is = refl;
  nobody = unentered old new bytes reply _ nobody acts acts.does.0;
  refuses = (ap (λ (f : Fixed). f.base) acts.fixed ∙ acts.does.1, acts.wrong);
}

pub refused_full : {legal : Origin → List Entry → Type 0} (old new : PassView) (bytes reply : List ℕ) (count limit : ℕ) → old.known ≡ [] → Acts legal old jobs.Open bytes (dones.Opened (Err (open_errors.JournalFull count limit))) reply new
    → IsOpeningRefused (endings.JournalFull count limit) new 0
refused_full old new bytes reply count limit nobody acts = record {
  done_is = refl;
  nobody = unentered old new bytes reply _ nobody acts acts.does.same;
  refuses = (
    (λ room. acts.does.lacks (subst (λ (h : List Entry). HasRoomForClient old.fixed.limit h) acts.does.same (subst (λ (f : Fixed). HasRoomForClient f.limit new.front) acts.fixed room))),
    acts.does.kept_is ∙ ap kept (sym acts.does.same),
    acts.does.limit_is ∙ ap (λ (f : Fixed). f.limit) (sym acts.fixed),
  );
}

-- the opening's answer, by another form of it
pub opened_as : {legal : Origin → List Entry → Type 0} (old new : PassView) (bytes reply : List ℕ) (result : Result ℕ OpenClientError) (error error_new : OpenClientError) → result ≡ Err error → error ≡ error_new
    → Acts legal old jobs.Open bytes (dones.Opened result) reply new → Acts legal old jobs.Open bytes (dones.Opened (Err error_new)) reply new
opened_as {legal = legal} old new bytes reply result error error_new is same acts =
    subst (λ (r : Result ℕ OpenClientError). Acts legal old jobs.Open bytes (dones.Opened r) reply new) (is ∙ ap (λ (e : OpenClientError). Err e) same) acts

-- ---- an opening

pub opened_ok : {legal : Origin → List Entry → Type 0} (old new : PassView) (bytes reply : List ℕ) (result : Result ℕ OpenClientError) (client : ℕ) → result ≡ Ok client
    → Acts legal old jobs.Open bytes (dones.Opened result) reply new → Acts legal old jobs.Open bytes (dones.Opened (Ok client)) reply new
opened_ok {legal = legal} old new bytes reply result client is acts = subst (λ (r : Result ℕ OpenClientError). Acts legal old jobs.Open bytes (dones.Opened r) reply new) is acts

pub serves_first : {legal : Origin → List Entry → Type 0} (old new : PassView) (bytes reply : List ℕ) (client : ℕ) → old.known ≡ [] → Acts legal old jobs.Open bytes (dones.Opened (Ok client)) reply new → KnowsClient new client 0 []
serves_first {legal = legal} old new bytes reply client nobody acts =
    let one : acts.added ≡ open_entry client ∷ [] = append_cancel_left acts.before acts.added (open_entry client ∷ []) (sym acts.front ∙ acts.does.entered) in
    let known : new.known ≡ open_entry client ∷ [] = acts.known ∙ ap (λ (l : List Entry). l ++ acts.added) nobody ∙ one in
    record {
      known = known;
      opened = record {
        before = acts.before;
        there = ([], append-nil (acts.before ++ open_entry client ∷ []) ∙ sym acts.does.entered);
        client_is = acts.does.client_is;
        room = subst (λ (f : Fixed). HasRoomForClient f.limit acts.before) (sym acts.fixed) acts.does.room;
      };
      own_is = acts.own client (acts.opened client refl).1 ∙ ap (λ (l : List Entry). own l client) known ∙ own_here client (open_entry client) [] refl ∙ sym known;
      present = served_at_first old new bytes reply client nobody acts;
    }

-- ---- a turn of a client that is known

-- its entries are all that is known
all_own : (pass : PassView) (client done : ℕ) (entries : List Entry) → KnowsClient pass client done entries → own pass.known client ≡ pass.known
all_own pass client done entries serves =
    ap (λ (l : List Entry). own l client) (sym serves.own_is)
    ∙ filter-weaker (λ (e : Entry). eqb e.client client) (λ (e : Entry). eqb e.client client) (λ e is. is) pass.front ∙ serves.own_is

-- what others entered before the turn, and the turn's own entries
pub record Turn (old new : PassView) (client : ℕ) (before added : List Entry) : Type 0 where
  pub rest : List Entry
  pub front : new.front ≡ old.front ++ (rest ++ added)
  pub none : own rest client ≡ []
  pub before_is : own before client ≡ old.known
  pub known : new.known ≡ old.known ++ added
  pub own_is : own new.front client ≡ new.known

pub turn_of : {legal : Origin → List Entry → Type 0} (old new : PassView) (client done : ℕ) (entries : List Entry) (job : Job) (bytes reply : List ℕ) (d : Done) → KnowsClient old client done entries
    → (acts : Acts legal old job bytes d reply new) → own acts.added client ≡ acts.added → Turn old new client acts.before acts.added
turn_of old new client done entries job bytes reply d serves acts own_added =
    let there = all_own old client done entries serves in
    let known_new : knows new.known client ≡ true = ap (λ (l : List Entry). knows l client) acts.known ∙ knows_left client old.known acts.added serves.present.client_known in
    let new_own : own new.known client ≡ old.known ++ acts.added =
    ap (λ (l : List Entry). own l client) acts.known ∙ own-append client old.known acts.added ∙ (λ i. there i ++ own_added i) in
    let whole : own acts.before client ++ acts.added ≡ old.known ++ acts.added =
    ap (λ (l : List Entry). own acts.before client ++ l) (sym own_added) ∙ sym (own-append client acts.before acts.added)
    ∙ ap (λ (l : List Entry). own l client) (sym acts.front) ∙ acts.own client known_new ∙ new_own in
    let before : own acts.before client ≡ old.known = append_cancel_right (own acts.before client) old.known acts.added whole in
    record {
      rest = acts.seen.0;
      front = acts.front ∙ ap (λ (l : List Entry). l ++ acts.added) (sym acts.seen.1) ∙ append_assoc old.front acts.seen.0 acts.added;
      none = own_rest client old.front acts.seen.0 (ap (λ (l : List Entry). own l client) acts.seen.1 ∙ before ∙ sym serves.own_is);
      before_is = before;
      known = acts.known;
      own_is = acts.own client known_new ∙ new_own ∙ sym acts.known;
    }

-- ---- which numbers a turn adds

none_in : (client number : ℕ) (rest added : List Entry) → own rest client ≡ [] → entry_of added client number ≡ None → entry_of (rest ++ added) client number ≡ None
none_in client number rest added none is =
    ap (find (λ (e : Entry). eqb e.number number)) (own-append client rest added ∙ ap (λ (l : List Entry). l ++ own added client) none) ∙ is

pub adds_nothing : (client done : ℕ) (rest : List Entry) → own rest client ≡ [] → AddsNone (rest ++ []) client done
adds_nothing client done rest none number above below = none_in client number rest [] none refl

not_this : (n m : ℕ) → (n ≡ m → ⊥) → eqb n m ≡ false
not_this n m differs = by_test (eqb n m) refl
  where
    by_test : (b : Bool) → eqb n m ≡ b → b ≡ false
    by_test true is = absurd (differs (eqb-true n m is))
    by_test false is = refl

one_else : (client number : ℕ) (e : Entry) → eqb e.number number ≡ false → entry_of (e ∷ []) client number ≡ None
one_else client number e else_is =
    elim (eqb e.client client) as (λ b. find (λ (x : Entry). eqb x.number number) (cond b (e ∷ []) []) ≡ None) [
      | true ↦ ap (λ (b : Bool). cond b (Some e) None) else_is
      | false ↦ refl
    ]

pub adds_one : (client done : ℕ) (rest : List Entry) (e : Entry) → own rest client ≡ [] → ((number : ℕ) → 1 ≤ number → number ≤ done → e.number ≡ number → ⊥) → AddsNone (rest ++ e ∷ []) client done
adds_one client done rest e none differs number above below =
    none_in client number rest (e ∷ []) none (one_else client number e (not_this e.number number (differs number above below)))

-- ---- a command

-- the entry of a command of this number
pub record IsFor (client number : ℕ) (command : List ℕ) (e : Entry) : Type 0 where
  pub client_is : e.client ≡ client
  pub number_is : e.number ≡ number
  pub command_is : e.command ≡ command
  pub no_close : is_close_kind e.kind ≡ false

of_form : (client number : ℕ) (command : List ℕ) (e form : Entry) → IsFor client number command form → e ≡ form → IsFor client number command e
of_form client number command e form is same = subst (IsFor client number command) (sym same) is

pub caused : (began client number : ℕ) (command : List ℕ) (e : Entry) → IsAnswered client number command e ⊎ IsFailed began client number command e → IsFor client number command e
caused began client number command e (inl answered) =
    of_form client number command e (command_entry client number e.pick command e.reply) (record { client_is = refl; number_is = refl; command_is = refl; no_close = refl }) answered
caused began client number command e (inr failed) =
    of_form client number command e (fault_entry client number e.faults command (error_reply RC_DEVICE_FAULT)) (record { client_is = refl; number_is = refl; command_is = refl; no_close = refl }) failed.form

canceled_for : (client number upto : ℕ) (command : List ℕ) (e : Entry) → IsCanceledUpTo client number upto command e → IsFor client number command e
canceled_for client number upto command e is =
    of_form client number command e (canceled_entry client number upto command (error_reply RC_CANCELED)) (record { client_is = refl; number_is = refl; command_is = refl; no_close = refl }) is.form

pub entry_for : (fixed : Fixed) (history : List Entry) (client number : ℕ) (command : List ℕ) (e : Entry) → IsCommandEntry fixed history client number command e → IsFor client number command e
entry_for fixed history client number command e is = by_cause is.cause
  where
    by_cause : IsAnswered client number command e ⊎ (IsFailed fixed.began client number command e ⊎ ((upto : ℕ) × IsCanceledUpTo client number upto command e)) → IsFor client number command e
    by_cause (inl answered) = caused fixed.began client number command e (inl answered)
    by_cause (inr (inl failed)) = caused fixed.began client number command e (inr failed)
    by_cause (inr (inr canceled)) = canceled_for client number canceled.0 command e canceled.1

or_false : (a b : Bool) → (a || b) ≡ false → (a ≡ false) × (b ≡ false)
or_false true b is = absurd (cc is)
or_false false b is = (refl, is)

-- the client's entries so far stand before its next command
all_before : (done : ℕ) (es : List Entry) → AllByRecursion (λ (e : Entry). e.number ≤ done) es → list_any (λ (e : Entry). is_close_kind e.kind) es ≡ false → AllByRecursion (IsBefore (done + 1)) es
all_before done [] small no_close = tt
all_before done (e ∷ es) small no_close =
    let parts = or_false (is_close_kind e.kind) (list_any (λ (x : Entry). is_close_kind x.kind) es) no_close in
    ((omega (arith, small.0), parts.0), all_before done es small.1 parts.1)

find_none : (number : ℕ) (es : List Entry) → AllByRecursion (IsBefore number) es → find (λ (e : Entry). eqb e.number number) es ≡ None
find_none number [] all = refl
find_none number (e ∷ es) all =
    ap (λ (b : Bool). cond b (Some e) (find (λ (x : Entry). eqb x.number number) es)) (not_this e.number number (λ same. omega (arith, all.0.0, same))) ∙ find_none number es all.1

-- what is known of the history before the command
pub record Before (client number : ℕ) (history : List Entry) : Type 0 where
  pub none : entry_of history client number ≡ None
  pub all : part_before client number history ≡ history

pub before_next : (known history : List Entry) (client done : ℕ) → HasCommandsUpTo known client done → own history client ≡ own known client → Before client (done + 1) history
before_next known history client done served same =
    let all = subst (AllByRecursion (IsBefore (done + 1))) (sym same) (all_before done (own known client) served.numbers served.not_closed) in
    record { none = find_none (done + 1) (own history client) all; all = before_all client (done + 1) history all }

-- the entry of a command that may have one
abbrev pub MayHaveEntry : Fixed → List Entry → (client number : ℕ) (command : List ℕ) → List Entry → Type 0
MayHaveEntry fixed history client number command added = (added ≡ []) ⊎ ((e : Entry) × (added ≡ e ∷ []) × IsCommandEntry fixed history client number command e)

one_of_three : {A B C : Type 0} → A ⊎ B → A ⊎ (B ⊎ C)
one_of_three (inl a) = inl a
one_of_three (inr b) = inr (inl b)

nothing_added : (before after added : List Entry) → after ≡ before ++ added → after ≡ before → added ≡ []
nothing_added before after added front same = nothing_more before added (sym front ∙ same)

pub entry_as : (fixed : Fixed) (before after added : List Entry) (client number : ℕ) (command reply : List ℕ) (told : Told) → after ≡ before ++ added
    → Tells fixed before after client number command reply told → MayHaveEntry fixed after client number command added
entry_as fixed before after added client number command reply tolds.Entered front tells =
    inr (
      tells.e,
      append_cancel_left before added (tells.e ∷ []) (sym front ∙ tells.entered),
      record {
        cause = one_of_three tells.cause;
        before = before;
        there = ([], append-nil (before ++ tells.e ∷ []) ∙ sym tells.entered);
        room = tells.room;
      },
    )
entry_as fixed before after added client number command reply tolds.Memory front tells = inl (nothing_added before after added front tells.0)
entry_as fixed before after added client number command reply (tolds.JournalFull count most) front tells = inl (nothing_added before after added front tells.same)
entry_as fixed before after added client number command reply tolds.Answer front tells = inl (nothing_added before after added front tells.0)

-- the same where it was canceled up to this number
pub canceled_as : (fixed : Fixed) (before after added : List Entry) (client number upto : ℕ) (command reply : List ℕ) (told : Told) → number ≤ upto → after ≡ before ++ added
    → TellsCanceled fixed before after client number upto command reply told → MayHaveEntry fixed after client number command added
canceled_as fixed before after added client number upto command reply tolds.Entered covers front tells =
    let e = canceled_entry client number upto command reply in
    inr (
      e,
      append_cancel_left before added (e ∷ []) (sym front ∙ tells.entered),
      record {
        cause = inr (inr (upto, record { form = ap (canceled_entry client number upto command) tells.reply_is; covers = covers }));
        before = before;
        there = ([], append-nil (before ++ e ∷ []) ∙ sym tells.entered);
        room = tells.room;
      },
    )
canceled_as fixed before after added client number upto command reply tolds.Memory covers front tells = absurd tells
canceled_as fixed before after added client number upto command reply (tolds.JournalFull count most) covers front tells = inl (nothing_added before after added front tells.same)
canceled_as fixed before after added client number upto command reply tolds.Answer covers front tells = inl (nothing_added before after added front tells.0)

-- which of both jobs it was
pub may_turn : (fixed : Fixed) (before after added : List Entry) (client number word : ℕ) (command reply : List ℕ) (d : Done) → after ≡ before ++ added
    → Does fixed before (job_of client number word) command after d reply → MayHaveEntry fixed after client number command added
may_turn fixed before after added client number word command reply d front does = by_test (nat_le number word) d refl does
  where
    by_test : (b : Bool) (done : Done) → nat_le number word ≡ b → Does fixed before (if b then jobs.Cancel client number word else jobs.Command client number) command after done reply
        → MayHaveEntry fixed after client number command added
    by_test true (dones.Told told) is tells = canceled_as fixed before after added client number word command reply told (leb-true number word is) front tells
    by_test true (dones.Opened result) is tells = absurd tells
    by_test true (dones.Closed closed) is tells = absurd tells
    by_test false (dones.Told told) is tells = entry_as fixed before after added client number command reply told front tells
    by_test false (dones.Opened result) is tells = absurd tells
    by_test false (dones.Closed closed) is tells = absurd tells

told_nothing : (fixed : Fixed) (wrong : Bool) (before after : List Entry) (client number : ℕ) (command reply : List ℕ) → after ≡ before → IsTold fixed wrong before client number command reply
    → IsTold fixed wrong after client number command reply
told_nothing fixed wrong before after client number command reply same told = subst (λ (h : List Entry). IsTold fixed wrong h client number command reply) (sym same) told

told_without : (limit : Limits) (client number : ℕ) (history : List Entry) (command reply : List ℕ) → Before client number history → ToldBy None limit history command reply
    → ToldBy (entry_of history client number) limit (part_before client number history) command reply
told_without limit client number history command reply before told =
    subst (λ (found : Option Entry). ToldBy found limit (part_before client number history) command reply) (sym before.none)
    (subst (λ (h : List Entry). ToldBy None limit h command reply) (sym before.all) told)

found_last : (client number : ℕ) (history : List Entry) (e : Entry) → entry_of history client number ≡ None → e.client ≡ client → e.number ≡ number → entry_of (history ++ e ∷ []) client number ≡ Some e
found_last client number history e none of_client of_number =
    ap (find (λ (x : Entry). eqb x.number number)) (own-append client history (e ∷ []) ∙ ap (λ (l : List Entry). own history client ++ l) (own_here client e [] of_client))
    ∙ found_behind (own history client) none
  where
    by_test : (b : Bool) (x : Entry) (tail here : Option Entry) → cond b (Some x) tail ≡ None → (tail ≡ None → here ≡ Some e) → cond b (Some x) here ≡ Some e
    by_test true x tail here is next = absurd (cc is)
    by_test false x tail here is next = next is

    found_behind : (es : List Entry) → find (λ (x : Entry). eqb x.number number) es ≡ None → find (λ (x : Entry). eqb x.number number) (es ++ e ∷ []) ≡ Some e
    found_behind [] is = ap (λ (b : Bool). cond b (Some e) None) (eq-eqb e.number number of_number)
    found_behind (x ∷ es) is = by_test (eqb x.number number) x (find (λ (y : Entry). eqb y.number number) es) (find (λ (y : Entry). eqb y.number number) (es ++ e ∷ [])) is (found_behind es)

found_canceled : (limit : ℕ) (before after : List Entry) (client number upto : ℕ) (command reply : List ℕ) → Before client number before → IsEnteredCanceled limit before after client number upto command reply
    → entry_of after client number ≡ Some (canceled_entry client number upto command reply)
found_canceled limit before after client number upto command reply there tells =
    ap (λ (h : List Entry). entry_of h client number) tells.entered ∙ found_last client number before (canceled_entry client number upto command reply) there.none refl refl

-- what the client is told of it
pub told_as : (fixed : Fixed) (wrong : Bool) (before after : List Entry) (client number : ℕ) (command reply : List ℕ) (told : Told) → Before client number before → wrong ≡ tells_wrong told
    → Tells fixed before after client number command reply told → IsTold fixed wrong after client number command reply
told_as fixed wrong before after client number command reply tolds.Entered there is tells =
    let e = tells.e in
    let is = caused fixed.began client number command e tells.cause in
    let found : entry_of after client number ≡ Some e = ap (λ (h : List Entry). entry_of h client number) tells.entered ∙ found_last client number before e there.none is.client_is is.number_is in
    inl (subst (λ (o : Option Entry). ToldBy o (limits_of fixed) (part_before client number after) command reply) (sym found) (record { command_is = is.command_is; reply_is = sym tells.reply_is }))
told_as fixed wrong before after client number command reply tolds.Memory there is tells =
    told_nothing fixed wrong before after client number command reply tells.0 (inl (told_without (limits_of fixed) client number before command reply there (inl tells.1)))
told_as fixed wrong before after client number command reply (tolds.JournalFull count most) there is tells =
    told_nothing fixed wrong before after client number command reply tells.same
    (inl (told_without (limits_of fixed) client number before command reply there (inr (record { reply_is = tells.reply_is; lacks = tells.lacks }))))
told_as fixed wrong before after client number command reply tolds.Answer there is tells =
    told_nothing fixed wrong before after client number command reply tells.0 (inr (there.none, tells.1, tells.2, is))

-- the same where it was canceled
pub told_canceled : (fixed : Fixed) (wrong : Bool) (before after : List Entry) (client number upto : ℕ) (command reply : List ℕ) (told : Told) → Before client number before → wrong ≡ tells_wrong told
    → TellsCanceled fixed before after client number upto command reply told → IsTold fixed wrong after client number command reply
told_canceled fixed wrong before after client number upto command reply tolds.Entered there is tells =
    let found = found_canceled fixed.limit before after client number upto command reply there tells in
    inl (subst (λ (o : Option Entry). ToldBy o (limits_of fixed) (part_before client number after) command reply) (sym found) (record { command_is = refl; reply_is = refl }))
told_canceled fixed wrong before after client number upto command reply tolds.Memory there is tells = absurd tells
told_canceled fixed wrong before after client number upto command reply (tolds.JournalFull count most) there is tells =
    told_nothing fixed wrong before after client number command reply tells.same
    (inl (told_without (limits_of fixed) client number before command reply there (inr (record { reply_is = tells.reply_is; lacks = tells.lacks }))))
told_canceled fixed wrong before after client number upto command reply tolds.Answer there is tells =
    told_nothing fixed wrong before after client number command reply tells.0 (inr (there.none, tells.1, tells.2, is))

-- ---- what the loaded word says of the entry

same_some : (e x : Entry) → Some e ≡ Some x → e ≡ x
same_some e x same = cc

none_some : (x : Entry) → None ≡ Some x → ⊥
none_some x same = cc same

decides_none : (history : List Entry) (client number word : ℕ) → entry_of history client number ≡ None → Decides history client number word
decides_none history client number word none e found = absurd (none_some e (sym none ∙ found))

decides_one : (history : List Entry) (client number word : ℕ) (e : Entry) → entry_of history client number ≡ Some e → upto_of e.kind ≡ cover (Some word) number → Decides history client number word
decides_one history client number word e is says x found = ap (λ (y : Entry). upto_of y.kind) (sym (same_some e x (sym is ∙ found))) ∙ says

no_upto : (began client number : ℕ) (command : List ℕ) (e : Entry) → IsAnswered client number command e ⊎ IsFailed began client number command e → upto_of e.kind ≡ None
no_upto began client number command e (inl answered) = ap (λ (y : Entry). upto_of y.kind) answered
no_upto began client number command e (inr failed) = ap (λ (y : Entry). upto_of y.kind) failed.form

covers_it : (number word : ℕ) → nat_le number word ≡ true → cover (Some word) number ≡ Some word
covers_it number word is = ap (λ (b : Bool). if b then Some word else None) is

covers_not : (number word : ℕ) → nat_le number word ≡ false → cover (Some word) number ≡ None
covers_not number word is = ap (λ (b : Bool). if b then Some word else None) is

unentered_as : (before after : List Entry) (client number word : ℕ) → after ≡ before → Before client number before → Decides after client number word
unentered_as before after client number word same there = decides_none after client number word (ap (λ (h : List Entry). entry_of h client number) same ∙ there.none)

decides_ran : (fixed : Fixed) (before after : List Entry) (client number word : ℕ) (command reply : List ℕ) (told : Told) → nat_le number word ≡ false → Before client number before
    → Tells fixed before after client number command reply told → Decides after client number word
decides_ran fixed before after client number word command reply tolds.Entered is there tells =
    let e = tells.e in
    let for = caused fixed.began client number command e tells.cause in
    decides_one after client number word e (ap (λ (h : List Entry). entry_of h client number) tells.entered ∙ found_last client number before e there.none for.client_is for.number_is)
    (no_upto fixed.began client number command e tells.cause ∙ sym (covers_not number word is))
decides_ran fixed before after client number word command reply tolds.Memory is there tells = unentered_as before after client number word tells.0 there
decides_ran fixed before after client number word command reply (tolds.JournalFull count most) is there tells = unentered_as before after client number word tells.same there
decides_ran fixed before after client number word command reply tolds.Answer is there tells = unentered_as before after client number word tells.0 there

decides_canceled : (fixed : Fixed) (before after : List Entry) (client number word : ℕ) (command reply : List ℕ) (told : Told) → nat_le number word ≡ true → Before client number before
    → TellsCanceled fixed before after client number word command reply told → Decides after client number word
decides_canceled fixed before after client number word command reply tolds.Entered is there tells =
    decides_one after client number word (canceled_entry client number word command reply) (found_canceled fixed.limit before after client number word command reply there tells) (sym (covers_it number word is))
decides_canceled fixed before after client number word command reply tolds.Memory is there tells = absurd tells
decides_canceled fixed before after client number word command reply (tolds.JournalFull count most) is there tells = unentered_as before after client number word tells.same there
decides_canceled fixed before after client number word command reply tolds.Answer is there tells = unentered_as before after client number word tells.0 there

-- whichever of both jobs it was
pub told_turn : (fixed : Fixed) (wrong : Bool) (before after : List Entry) (client number word : ℕ) (command reply : List ℕ) (d : Done) → Before client number before → wrong ≡ done_wrong d
    → Does fixed before (job_of client number word) command after d reply → IsTold fixed wrong after client number command reply × Decides after client number word
told_turn fixed wrong before after client number word command reply d there tells_it does = by_test (nat_le number word) d refl tells_it does
  where
    by_test : (b : Bool) (done : Done) → nat_le number word ≡ b → wrong ≡ done_wrong done → Does fixed before (if b then jobs.Cancel client number word else jobs.Command client number) command after done reply
        → IsTold fixed wrong after client number command reply × Decides after client number word
    by_test true (dones.Told told) is same tells =
        (told_canceled fixed wrong before after client number word command reply told there same tells, decides_canceled fixed before after client number word command reply told is there tells)
    by_test true (dones.Opened result) is same tells = absurd tells
    by_test true (dones.Closed closed) is same tells = absurd tells
    by_test false (dones.Told told) is same tells =
        (told_as fixed wrong before after client number command reply told there same tells, decides_ran fixed before after client number word command reply told is there tells)
    by_test false (dones.Opened result) is same tells = absurd tells
    by_test false (dones.Closed closed) is same tells = absurd tells

-- ---- what is known of the client then

up_to_more : (done : ℕ) (es : List Entry) → AllByRecursion (λ (e : Entry). e.number ≤ done) es → AllByRecursion (λ (e : Entry). e.number ≤ done + 1) es
up_to_more done [] all = tt
up_to_more done (e ∷ es) all = (omega (arith, all.0), up_to_more done es all.1)

each_push : (done : ℕ) (es : List Entry) (e : Entry) → AllByRecursion (λ (x : Entry). x.number ≤ done) es → e.number ≡ done + 1 → AllByRecursion (λ (x : Entry). x.number ≤ done + 1) (es ++ e ∷ [])
each_push done [] e all is = (omega (arith, is), tt)
each_push done (x ∷ es) e all is = (omega (arith, all.0), each_push done es e all.1 is)

served_by : (known : List Entry) (client done : ℕ) (command : List ℕ) (e : Entry) → HasCommandsUpTo known client done → IsFor client (done + 1) command e → HasCommandsUpTo (known ++ e ∷ []) client (done + 1)
served_by known client done command e served is =
    let all : own (known ++ e ∷ []) client ≡ own known client ++ e ∷ [] = own-append client known (e ∷ []) ∙ ap (λ (l : List Entry). own known client ++ l) (own_here client e [] is.client_is) in record {
      client_known = knows_left client known (e ∷ []) served.client_known;
      not_closed = ap (list_any (λ (x : Entry). is_close_kind x.kind)) all ∙ list_any-append (λ (x : Entry). is_close_kind x.kind) (own known client) (e ∷ [])
          ∙ ap (λ (b : Bool). b || (is_close_kind e.kind || false)) served.not_closed ∙ ap (λ (b : Bool). b || false) is.no_close;
      numbers = subst (AllByRecursion (λ (x : Entry). x.number ≤ done + 1)) (sym all) (each_push done (own known client) e served.numbers is.number_is);
    }

served_more : (fixed : Fixed) (history : List Entry) (client done : ℕ) (command : List ℕ) (known added : List Entry) → HasCommandsUpTo known client done → MayHaveEntry fixed history client (done + 1) command added
    → HasCommandsUpTo (known ++ added) client (done + 1)
served_more fixed history client done command known added served (inl nothing) =
    subst (λ (l : List Entry). HasCommandsUpTo l client (done + 1)) (sym (ap (λ (l : List Entry). known ++ l) nothing ∙ append-nil known)) record {
      client_known = served.client_known;
      not_closed = served.not_closed;
      numbers = up_to_more done (own known client) served.numbers;
    }
served_more fixed history client done command known added served (inr one) =
    subst (λ (l : List Entry). HasCommandsUpTo (known ++ l) client (done + 1)) (sym one.1) (served_by known client done command one.0 served (entry_for fixed history client (done + 1) command one.0 one.2))

-- what it may ask next
pub may_next : (known : List Entry) (client done word : ℕ) → HasCommandsUpTo known client done → MayAsk known (job_of client (done + 1) word)
may_next known client done word served = by_test (nat_le (done + 1) word) refl
  where
    by_test : (b : Bool) → nat_le (done + 1) word ≡ b → MayAsk known (if b then jobs.Cancel client (done + 1) word else jobs.Command client (done + 1))
    by_test true is = let may = may_command known client done served in (may.0, may.1, leb-true (done + 1) word is)
    by_test false is = may_command known client done served

-- ---- the entries of all commands so far

later : (fixed : Fixed) (history : List Entry) (client number : ℕ) (first : List ℕ) (list : List (List ℕ)) (command : List ℕ) (added : List Entry) → MayHaveEntry fixed history client (number + length (first ∷ list)) command added
    → MayHaveEntry fixed history client (number + 1 + length list) command added
later fixed history client number first list command added may =
    subst (λ (n : ℕ). MayHaveEntry fixed history client n command added) (let e : number + length (first ∷ list) ≡ number + 1 + length list = omega arith in e) may

pub entries_push : (fixed : Fixed) (history : List Entry) (client number : ℕ) (list : List (List ℕ)) (entries added : List Entry) (command : List ℕ) → AreEntriesFrom fixed history client number list entries
    → MayHaveEntry fixed history client (number + length list) command added → AreEntriesFrom fixed history client number (list ++ command ∷ []) (entries ++ added)
entries_push fixed history client number [] entries added command none (inl nothing) = inl ((λ i. none i ++ nothing i))
entries_push fixed history client number [] entries added command none (inr one) =
    inr (one.0, [], (λ i. none i ++ one.1 i), subst (λ (n : ℕ). IsCommandEntry fixed history client n command one.0) (let e : number + 0 ≡ number = omega arith in e) one.2, refl)
entries_push fixed history client number (first ∷ list) entries added command (inl rest) may = inl (entries_push fixed history client (number + 1) list entries added command rest (later fixed history client number first list command added may))
entries_push fixed history client number (first ∷ list) entries added command (inr one) may =
    inr (one.0, one.1 ++ added, ap (λ (l : List Entry). l ++ added) one.2, one.3, entries_push fixed history client (number + 1) list one.1 added command one.4 (later fixed history client number first list command added may))

-- ---- a history that goes on

there_on : (history more front : List Entry) → IsPrefix front history → IsPrefix front (history ++ more)
there_on history more front there = (there.0 ++ more, sym (append_assoc front there.0 more) ∙ ap (λ (l : List Entry). l ++ more) there.1)

pub opened_on : (limit : ℕ) (history more : List Entry) (client : ℕ) → IsOpenedIn limit history client → IsOpenedIn limit (history ++ more) client
opened_on limit history more client opened = record {
  before = opened.before;
  there = there_on history more (opened.before ++ open_entry client ∷ []) opened.there;
  client_is = opened.client_is;
  room = opened.room;
}

entry_on : (fixed : Fixed) (history more : List Entry) (client number : ℕ) (command : List ℕ) (e : Entry) → IsCommandEntry fixed history client number command e → IsCommandEntry fixed (history ++ more) client number command e
entry_on fixed history more client number command e is = record { cause = is.cause; before = is.before; there = there_on history more (is.before ++ e ∷ []) is.there; room = is.room }

pub entries_on : (fixed : Fixed) (history more : List Entry) (client number : ℕ) (list : List (List ℕ)) (entries : List Entry) → AreEntriesFrom fixed history client number list entries
    → AreEntriesFrom fixed (history ++ more) client number list entries
entries_on fixed history more client number [] entries are = are
entries_on fixed history more client number (command ∷ list) entries (inl rest) = inl (entries_on fixed history more client (number + 1) list entries rest)
entries_on fixed history more client number (command ∷ list) entries (inr one) =
    inr (one.0, one.1, one.2, entry_on fixed history more client number command one.0 one.3, entries_on fixed history more client (number + 1) list one.1 one.4)

-- ---- a command's turn

added_own : (fixed : Fixed) (history : List Entry) (client number : ℕ) (command : List ℕ) (added : List Entry) → MayHaveEntry fixed history client number command added → own added client ≡ added
added_own fixed history client number command added (inl nothing) = ap (λ (l : List Entry). own l client) nothing ∙ sym nothing
added_own fixed history client number command added (inr one) =
    ap (λ (l : List Entry). own l client) one.1 ∙ own_here client one.0 [] (entry_for fixed history client number command one.0 one.2).client_is ∙ sym one.1

adds_none : (fixed : Fixed) (history : List Entry) (client done : ℕ) (command : List ℕ) (rest added : List Entry) → own rest client ≡ [] → MayHaveEntry fixed history client (done + 1) command added → AddsNone (rest ++ added) client done
adds_none fixed history client done command rest added none (inl nothing) = subst (λ (l : List Entry). AddsNone (rest ++ l) client done) (sym nothing) (adds_nothing client done rest none)
adds_none fixed history client done command rest added none (inr one) =
    let number = (entry_for fixed history client (done + 1) command one.0 one.2).number_is in
    subst (λ (l : List Entry). AddsNone (rest ++ l) client done) (sym one.1) (adds_one client done rest one.0 none (λ n above below same. omega (arith, number, same)))

-- the client's next command was told, behind those before it
pub record Answered (fixed : Fixed) (new : PassView) (client done word : ℕ) (list : List (List ℕ)) (loaded : List ℕ) (output : List ℕ) (entries : List Entry) (command reply : List ℕ) : Type 0 where
  pub added : List Entry
  pub serves : KnowsClient new client (done + 1) (entries ++ added)
  pub entries_are : AreEntriesFrom fixed new.front client 1 (list ++ command ∷ []) (entries ++ added)
  pub replies : AreRepliesFrom fixed new.wrong new.front client 1 list output
  pub told : IsTold fixed new.wrong new.front client (done + 1) command reply
  pub decide : DecideFrom new.front client 1 (loaded ++ word ∷ [])

pub answered : {legal : Origin → List Entry → Type 0} (old new : PassView) (client done word : ℕ) (list : List (List ℕ)) (loaded : List ℕ) (output : List ℕ) (entries : List Entry) (command reply : List ℕ) → KnowsClient old client done entries
    → length list ≡ done → length loaded ≡ done → AreEntriesFrom old.fixed old.front client 1 list entries → AreRepliesFrom old.fixed old.wrong old.front client 1 list output → DecideFrom old.front client 1 loaded
    → AsksInTurn legal old (job_of client (done + 1) word) command reply new → Answered old.fixed new client done word list loaded output entries command reply
answered {legal = legal} old new client done word list loaded output entries command reply serves count loads are replies decide (d, acts) =
    let job = job_of client (done + 1) word in
    let may = may_turn old.fixed acts.before new.front acts.added client (done + 1) word command reply d acts.front acts.does in
    let turn = turn_of old new client done entries job command reply d serves acts (added_own old.fixed new.front client (done + 1) command acts.added may) in
    let there = before_next old.known acts.before client done serves.present (turn.before_is ∙ sym (all_own old client done entries serves)) in
    let told = told_turn old.fixed new.wrong acts.before new.front client (done + 1) word command reply d there acts.wrong acts.does in
    let more = turn.rest ++ acts.added in
    let none = adds_none old.fixed new.front client done command turn.rest acts.added turn.none may in
    let next : 1 + length list ≡ done + 1 = omega (arith, count) in
    record {
      added = acts.added;
      serves = record {
        known = turn.known ∙ ap (λ (l : List Entry). l ++ acts.added) serves.known;
        opened = subst (λ (f : Fixed). IsOpenedIn f.limit new.front client) (sym acts.fixed)
            (subst (λ (h : List Entry). IsOpenedIn old.fixed.limit h client) (sym turn.front) (opened_on old.fixed.limit old.front more client serves.opened));
        own_is = turn.own_is;
        present = subst (λ (l : List Entry). HasCommandsUpTo l client (done + 1)) (sym acts.known) (served_more old.fixed new.front client done command old.known acts.added serves.present may);
      };
      entries_are = entries_push old.fixed new.front client 1 list entries acts.added command
          (subst (λ (h : List Entry). AreEntriesFrom old.fixed h client 1 list entries) (sym turn.front) (entries_on old.fixed old.front more client 1 list entries are))
          (subst (λ (n : ℕ). MayHaveEntry old.fixed new.front client n command acts.added) (sym next) may);
      replies = subst (λ (h : List Entry). AreRepliesFrom old.fixed new.wrong h client 1 list output) (sym turn.front)
          (replies_stay old.fixed old.wrong new.wrong old.front more client list output acts.still (subst (AddsNone more client) (sym count) none) replies);
      told = told.0;
      decide = decide_push new.front client 1 loaded word
          (subst (λ (h : List Entry). DecideFrom h client 1 loaded) (sym turn.front) (decide_stay old.front more client loaded (subst (AddsNone more client) (sym loads) none) decide))
          (subst (λ (n : ℕ). Decides new.front client n word) (let e : done + 1 ≡ 1 + length loaded = omega (arith, loads) in e) told.1);
    }

-- ---- a close

-- the client is closed, and what it was told stays told
pub record ClosedAs (legal : Origin → List Entry → Type 0) (old new : PassView) (client done : ℕ) (entries : List Entry) : Type 0 where
  pub more : List Entry
  pub front : new.front ≡ old.front ++ more
  pub none : (upto : ℕ) → AddsNone more client upto
  pub known : new.known ≡ (open_entry client ∷ entries) ++ close_entry client ∷ []
  pub opened : IsOpenedIn new.fixed.limit new.front client
  pub own_is : own new.front client ≡ new.known
  pub is_legal : IsLegalOver legal new.fixed.base new.front

pub closed_as : {legal : Origin → List Entry → Type 0} (old new : PassView) (client done : ℕ) (entries : List Entry) (bytes reply : List ℕ) → KnowsClient old client done entries → AsksInTurn legal old (jobs.Close client) bytes reply new → ClosedAs legal old new client done entries
closed_as {legal = legal} old new client done entries bytes reply serves (dones.Closed closed, acts) =
    let one : acts.added ≡ close_entry client ∷ [] = append_cancel_left acts.before acts.added (close_entry client ∷ []) (sym acts.front ∙ acts.does.entered) in
    let own_added : own acts.added client ≡ acts.added = ap (λ (l : List Entry). own l client) one ∙ own_here client (close_entry client) [] refl ∙ sym one in
    let turn = turn_of old new client done entries (jobs.Close client) bytes reply (dones.Closed closed) serves acts own_added in
    record {
      more = turn.rest ++ acts.added;
      front = turn.front;
      none = λ upto. subst (λ (l : List Entry). AddsNone (turn.rest ++ l) client upto) (sym one) (adds_one client upto turn.rest (close_entry client) turn.none (λ n above below same. omega (arith, same)));
      known = turn.known ∙ (λ i. serves.known i ++ one i);
      opened = subst (λ (f : Fixed). IsOpenedIn f.limit new.front client) (sym acts.fixed)
          (subst (λ (h : List Entry). IsOpenedIn old.fixed.limit h client) (sym turn.front) (opened_on old.fixed.limit old.front (turn.rest ++ acts.added) client serves.opened));
      own_is = turn.own_is;
      is_legal = acts.is_legal;
    }
closed_as old new client done entries bytes reply serves (dones.Opened result, acts) = absurd acts.does
closed_as old new client done entries bytes reply serves (dones.Told told, acts) = absurd acts.does
