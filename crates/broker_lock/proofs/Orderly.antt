-- A history whose clients are numbered in order and are open until their Close.
use Rattle.std.proofs.Common.{◌≡◌, ◌⊎◌, ℕ, ◌<◌, ◌≤◌, Bool, true, false, cond, true≢false, List, [], ◌∷◌, ◌++◌, refl, sym, ap, ◌∙◌, subst, ⊎_elim, arith}
use Rattle.std.specs.Prelude.{◌==◌, ◌||◌}
use Rattle.std.specs.List.{AllByRecursion, list_any}
use Rattle.std.proofs.lemmas.Bool.{eqb-true}
use Rattle.std.proofs.lemmas.List.{append-nil}
use Rattle.std.proofs.lemmas.List.Folds.{list_any-append}
use Rattle.history_spec.specs.declared.EntryKind.{EntryKind}
use Rattle.history_spec.specs.declared.EntryKind.TheVariants.{Open, Command, Canceled, Fault, Close}
use Rattle.history_spec.specs.Entry.{Clients, Entry, clients_by, clients_from, clients_of, is_close_kind, opened_by, own, present_by, without, IsNextNumber, IsOpen}
use Rattle.broker_lock.specs.declared.calls.Job.{Job}
use Rattle.broker_lock.specs.declared.calls.Job.TheVariants as jobs
use Rattle.broker_lock.specs.Known.{HasJustKnown, has_closed, knows}
use Rattle.broker_lock.specs.Pass.{IsKnownOpen, MayAsk, MayCall}
use Rattle.broker_lock.specs.Turn.{IsOrderly, MayAdd, MayEnterAs, no_entry, one_entry}
use Rattle.broker_lock.proofs.Knowing.{decided, knows_either, knows_one, knows_same, or_true, own-append, same_is}

clients_from-push : (clients : Clients) (log : List Entry) (e : Entry) → clients_from clients (log ++ e ∷ []) ≡ clients_by (clients_from clients log) e
clients_from-push clients [] e = refl
clients_from-push clients (x ∷ log) e = clients_from-push (clients_by clients x) log e

pub clients_of-push : (log : List Entry) (e : Entry) → clients_of (log ++ e ∷ []) ≡ clients_by (clients_of log) e
clients_of-push log e = clients_from-push (record { opened = 0; present = [] }) log e

-- ---- numbers

opened_by-le : (k : EntryKind) (n : ℕ) → n ≤ opened_by k n
opened_by-le Open n = omega arith
opened_by-le Command n = omega arith
opened_by-le (Canceled upto) n = omega arith
opened_by-le Fault n = omega arith
opened_by-le Close n = omega arith

-- who is known has an entry in the history
pub known_there : (known log : List Entry) (client : ℕ) → HasJustKnown known log → knows known client ≡ true → knows log client ≡ true
known_there known log client own_is k = knows_same client log known (own_is client k) ∙ k

enters_below : (k : EntryKind) (known log : List Entry) (e : Entry) → IsOrderly log → HasJustKnown known log → MayEnterAs k known log e
    → e.client < opened_by k (clients_of log).opened
enters_below Open known log e orderly own_is may = omega (arith, may)
enters_below Command known log e orderly own_is may = orderly.below e.client (known_there known log e.client own_is may)
enters_below (Canceled upto) known log e orderly own_is may = orderly.below e.client (known_there known log e.client own_is may)
enters_below Fault known log e orderly own_is may = orderly.below e.client (known_there known log e.client own_is may)
enters_below Close known log e orderly own_is may = orderly.below e.client (known_there known log e.client own_is may)

-- ---- who is open

or_parts : (a b : Bool) → (a || b) ≡ false → (a ≡ false) × (b ≡ false)
or_parts true b e = absurd (true≢false e)
or_parts false b e = (refl, e)

or_left : (a b : Bool) → a ≡ true → (a || b) ≡ true
or_left a b e = ap (λ (c : Bool). c || b) e

without_by : (here : Bool) (n m k : ℕ) (ms : List ℕ) → (k == n) ≡ here → (n == m) ≡ false
    → list_any (λ (i : ℕ). i == m) (without n ms) ≡ list_any (λ (i : ℕ). i == m) ms
    → list_any (λ (i : ℕ). i == m) (cond here ms (k ∷ without n ms)) ≡ list_any (λ (i : ℕ). i == m) (k ∷ ms)
without_by true n m k ms is apart rest =
    sym (ap (λ (b : Bool). b || list_any (λ (i : ℕ). i == m) ms) (ap (λ (i : ℕ). i == m) (eqb-true k n is) ∙ apart))
without_by false n m k ms is apart rest = ap (λ (b : Bool). k == m || b) rest

list_any-without : (n m : ℕ) (ms : List ℕ) → (n == m) ≡ false → list_any (λ (i : ℕ). i == m) (without n ms) ≡ list_any (λ (i : ℕ). i == m) ms
list_any-without n m [] apart = refl
list_any-without n m (k ∷ ms) apart = without_by (k == n) n m k ms refl apart (list_any-without n m ms apart)

stays_open : (k : EntryKind) (x client : ℕ) (present : List ℕ) → (is_close_kind k ≡ true → (x == client) ≡ false)
    → list_any (λ (p : ℕ). p == client) present ≡ true → list_any (λ (p : ℕ). p == client) (present_by k x present) ≡ true
stays_open Open x client present apart there =
    list_any-append (λ (p : ℕ). p == client) present (x ∷ []) ∙ or_left (list_any (λ (p : ℕ). p == client) present) (list_any (λ (p : ℕ). p == client) (x ∷ [])) there
stays_open Command x client present apart there = there
stays_open (Canceled upto) x client present apart there = there
stays_open Fault x client present apart there = there
stays_open Close x client present apart there = list_any-without x client present (apart refl) ∙ there

-- who is new to the history was opened
enters_open : (k : EntryKind) (known log : List Entry) (e : Entry) (present : List ℕ) → HasJustKnown known log → MayEnterAs k known log e → knows log e.client ≡ false
    → list_any (λ (p : ℕ). p == e.client) (present_by k e.client present) ≡ true
enters_open Open known log e present own_is may new =
    list_any-append (λ (p : ℕ). p == e.client) present (e.client ∷ [])
    ∙ ap (λ (b : Bool). list_any (λ (p : ℕ). p == e.client) present || b) (or_left (e.client == e.client) false (same_is e.client))
    ∙ or_true (list_any (λ (p : ℕ). p == e.client) present)
enters_open Command known log e present own_is may new = absurd (true≢false (sym (known_there known log e.client own_is may) ∙ new))
enters_open (Canceled upto) known log e present own_is may new = absurd (true≢false (sym (known_there known log e.client own_is may) ∙ new))
enters_open Fault known log e present own_is may new = absurd (true≢false (sym (known_there known log e.client own_is may) ∙ new))
enters_open Close known log e present own_is may new = absurd (true≢false (sym (known_there known log e.client own_is may) ∙ new))

-- ---- one more entry

-- without a Close of the client, there was none, and the entry is none
not_closed : (log : List Entry) (e : Entry) (client : ℕ) → has_closed (log ++ e ∷ []) client ≡ false
    → (has_closed log client ≡ false) × (is_close_kind e.kind ≡ true → (e.client == client) ≡ false)
not_closed log e client none =
    let is_close : Entry → Bool = λ x. is_close_kind x.kind in
    let parts = or_parts (has_closed log client) (list_any is_close (own (e ∷ []) client))
    (sym (list_any-append is_close (own log client) (own (e ∷ []) client)) ∙ ap (list_any is_close) (sym (own-append client log (e ∷ []))) ∙ none) in
    (parts.0, λ closes. by_client (e.client == client) refl closes parts.1)
  where
    by_client : (here : Bool) → (e.client == client) ≡ here → is_close_kind e.kind ≡ true
        → list_any (λ (x : Entry). is_close_kind x.kind) (cond here (e ∷ []) []) ≡ false → here ≡ false
    by_client true is closes no_close = absurd (true≢false (sym (or_left (is_close_kind e.kind) false closes) ∙ no_close))
    by_client false is closes no_close = refl

pub orderly_push : (known log : List Entry) (e : Entry) → IsOrderly log → HasJustKnown known log → MayEnterAs e.kind known log e → IsOrderly (log ++ e ∷ [])
orderly_push known log e orderly own_is may =
    let after : Clients = clients_by (clients_of log) e in
    let is : after ≡ clients_of (log ++ e ∷ []) = sym (clients_of-push log e) in
    let grows = opened_by-le e.kind (clients_of log).opened in
    let below_now : e.client < after.opened = enters_below e.kind known log e orderly own_is may in record {
      below = λ client there. subst (λ (c : Clients). client < c.opened) is (⊎_elim
          (λ (old : knows log client ≡ true). omega (arith, orderly.below client old))
          (λ (now : knows (e ∷ []) client ≡ true). subst (λ (n : ℕ). n < after.opened) (knows_one client e now) below_now)
          (knows_either client log (e ∷ []) there));
      opens = λ client there unclosed. let open_before = not_closed log e client unclosed in
          subst (λ (c : Clients). list_any (λ (p : ℕ). p == client) c.present ≡ true) is (⊎_elim
          (λ (old : knows log client ≡ true). stays_open e.kind e.client client (clients_of log).present open_before.1 (orderly.opens client old open_before.0))
          (λ (new : knows log client ≡ false). new_one client new (knows_either client log (e ∷ []) there))
          (decided (knows log client)));
    }
  where
    new_one : (client : ℕ) → knows log client ≡ false → (knows log client ≡ true) ⊎ (knows (e ∷ []) client ≡ true)
        → list_any (λ (p : ℕ). p == client) (present_by e.kind e.client (clients_of log).present) ≡ true
    new_one client new either =
        ⊎_elim
        (λ (old : knows log client ≡ true). absurd (true≢false (sym old ∙ new)))
        (λ (now : knows (e ∷ []) client ≡ true). let is = knows_one client e now in
        subst (λ (n : ℕ). list_any (λ (p : ℕ). p == n) (present_by e.kind e.client (clients_of log).present) ≡ true) is
        (enters_open e.kind known log e (clients_of log).present own_is may (subst (λ (n : ℕ). knows log n ≡ false) (sym is) new)))
        either

pub orderly_more : (known log added : List Entry) → IsOrderly log → HasJustKnown known log → MayAdd known log added → IsOrderly (log ++ added)
orderly_more known log _ orderly own_is no_entry = subst IsOrderly (sym (append-nil log)) orderly
orderly_more known log _ orderly own_is (one_entry e may) = orderly_push known log e orderly own_is may

pub orderly_at_first : IsOrderly []
orderly_at_first = record { below = λ client there. absurd (true≢false (sym there)); opens = λ client there. absurd (true≢false (sym there)) }

-- ---- calls

pub is_open : (known log : List Entry) (client : ℕ) → IsOrderly log → HasJustKnown known log → IsKnownOpen known client → IsOpen log client
is_open known log client orderly own_is live =
    orderly.opens client (known_there known log client own_is live.client_known)
    (ap (list_any (λ (x : Entry). is_close_kind x.kind)) (own_is client live.client_known) ∙ live.not_closed)

is_next : (known log : List Entry) (client number : ℕ) → HasJustKnown known log → knows known client ≡ true → IsNextNumber known client number → IsNextNumber log client number
is_next known log client number own_is k next = record {
  positive = next.positive;
  above = subst (AllByRecursion (λ (x : Entry). x.number < number)) (sym (own_is client k)) next.above;
}

-- what a pass may ask may be called
pub may_call : (known log : List Entry) (job : Job) → IsOrderly log → HasJustKnown known log → MayAsk known job → MayCall log job
may_call known log jobs.Open orderly own_is may = tt
may_call known log (jobs.Command client number) orderly own_is may =
    (is_open known log client orderly own_is may.0, is_next known log client number own_is may.0.client_known may.1)
may_call known log (jobs.Cancel client number upto) orderly own_is may =
    (is_open known log client orderly own_is may.0, is_next known log client number own_is may.0.client_known may.1, may.2)
may_call known log (jobs.Close client) orderly own_is may = is_open known log client orderly own_is may
