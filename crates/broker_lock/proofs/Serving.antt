-- What a pass knows of a client that it serves.
use Rattle.std.proofs.Common.{◌≡◌, ◌⊎◌, ℕ, ◌+◌, ◌<◌, ◌≤◌, Bool, false, List, [], ◌∷◌, ◌++◌, Ok, refl, sym, ap, ◌∙◌, subst, ⊎_elim, arith}
use Rattle.std.specs.Prelude.{◌||◌}
use Rattle.std.specs.List.{AllByRecursion, list_any}
use Rattle.std.proofs.lemmas.List.{append-nil, append_cancel_left}
use Rattle.std.proofs.lemmas.List.Folds.{list_any-append}
use Rattle.tab_spec.specs.declared.TheConstants.{RC_DEVICE_FAULT}
use Rattle.tab_spec.specs.Reply.{error_reply}
use Rattle.history_spec.specs.Entry.{Entry, command_entry, fault_entry, is_close_kind, open_entry, own}
use Rattle.broker_lock.specs.declared.calls.Done.{Done}
use Rattle.broker_lock.specs.declared.calls.Done.TheVariants as dones
use Rattle.broker_lock.specs.declared.calls.Job.TheVariants as jobs
use Rattle.broker_lock.specs.declared.calls.Told.{Told}
use Rattle.broker_lock.specs.declared.calls.Told.TheVariants as tolds
use Rattle.broker_lock.specs.Examples.{HasCommandsUpTo}
use Rattle.broker_lock.specs.Known.{Fixed, Origin}
use Rattle.broker_lock.specs.Pass.{Acts, MayAsk, PassView}
use Rattle.broker_lock.specs.Serves.{IsAnswered, IsFailed, Tells}
use Rattle.broker_lock.proofs.Knowing.{knows_its_own, knows_left, nothing_more, own-append, own_here}

-- ---- what it may ask

below_next : (done : ℕ) (es : List Entry) → AllByRecursion (λ (e : Entry). e.number ≤ done) es → AllByRecursion (λ (e : Entry). e.number < done + 1) es
below_next done [] all = tt
below_next done (e ∷ es) all = (omega (arith, all.0), below_next done es all.1)

pub may_command : (known : List Entry) (client done : ℕ) → HasCommandsUpTo known client done → MayAsk known (jobs.Command client (done + 1))
may_command known client done served = (
  record { client_known = served.client_known; not_closed = served.not_closed },
  record { positive = omega arith; above = below_next done (own known client) served.numbers },
)

pub may_close : (known : List Entry) (client done : ℕ) → HasCommandsUpTo known client done → MayAsk known (jobs.Close client)
may_close known client done served = record { client_known = served.client_known; not_closed = served.not_closed }

-- ---- what it knows afterwards

at_first : (client : ℕ) → HasCommandsUpTo (open_entry client ∷ []) client 0
at_first client = let here = own_here client (open_entry client) [] refl in record {
  client_known = knows_its_own (open_entry client) [];
  not_closed = ap (list_any (λ (e : Entry). is_close_kind e.kind)) here;
  numbers = subst (AllByRecursion (λ (e : Entry). e.number ≤ 0)) (sym here) (omega arith, tt);
}

-- a client was opened by a pass that knew nobody
pub served_at_first : {legal : Origin → List Entry → Type 0} (old new : PassView) (bytes reply : List ℕ) (client : ℕ) → old.known ≡ [] → Acts legal old jobs.Open bytes (dones.Opened (Ok client)) reply new → HasCommandsUpTo new.known client 0
served_at_first old new bytes reply client nobody acts =
    let one : acts.added ≡ open_entry client ∷ [] = append_cancel_left acts.before acts.added (open_entry client ∷ []) (sym acts.front ∙ acts.does.entered) in
    subst (λ (l : List Entry). HasCommandsUpTo l client 0) (sym (acts.known ∙ ap (λ (l : List Entry). l ++ acts.added) nobody ∙ one)) (at_first client)

up_to_more : (done : ℕ) (es : List Entry) → AllByRecursion (λ (e : Entry). e.number ≤ done) es → AllByRecursion (λ (e : Entry). e.number ≤ done + 1) es
up_to_more done [] all = tt
up_to_more done (e ∷ es) all = (omega (arith, all.0), up_to_more done es all.1)

each_push : (done : ℕ) (es : List Entry) (e : Entry) → AllByRecursion (λ (x : Entry). x.number ≤ done) es → e.number ≡ done + 1 → AllByRecursion (λ (x : Entry). x.number ≤ done + 1) (es ++ e ∷ [])
each_push done [] e all is = (omega (arith, is), tt)
each_push done (x ∷ es) e all is = (omega (arith, all.0), each_push done es e all.1 is)

-- the entry is of the client's command of this number
record IsOfCommand (client number : ℕ) (e : Entry) : Type 0 where
  client_is : e.client ≡ client
  number_is : e.number ≡ number
  no_close : is_close_kind e.kind ≡ false

of_command : (began client number : ℕ) (bytes : List ℕ) (e : Entry) → IsAnswered client number bytes e ⊎ IsFailed began client number bytes e → IsOfCommand client number e
of_command began client number bytes e cause =
    ⊎_elim
    (λ (answered : IsAnswered client number bytes e). of_form (command_entry client number e.pick bytes e.reply) (record { client_is = refl; number_is = refl; no_close = refl }) answered)
    (λ (failed : IsFailed began client number bytes e). of_form (fault_entry client number e.faults bytes (error_reply RC_DEVICE_FAULT)) (record { client_is = refl; number_is = refl; no_close = refl }) failed.form)
    cause
  where
    of_form : (form : Entry) → IsOfCommand client number form → e ≡ form → IsOfCommand client number e
    of_form form is same = subst (IsOfCommand client number) (sym same) is

served_by : (known : List Entry) (client done : ℕ) (e : Entry) → HasCommandsUpTo known client done → IsOfCommand client (done + 1) e → HasCommandsUpTo (known ++ e ∷ []) client (done + 1)
served_by known client done e served is =
    let all : own (known ++ e ∷ []) client ≡ own known client ++ e ∷ [] = own-append client known (e ∷ []) ∙ ap (λ (l : List Entry). own known client ++ l) (own_here client e [] is.client_is) in record {
      client_known = knows_left client known (e ∷ []) served.client_known;
      not_closed = ap (list_any (λ (x : Entry). is_close_kind x.kind)) all ∙ list_any-append (λ (x : Entry). is_close_kind x.kind) (own known client) (e ∷ [])
          ∙ ap (λ (b : Bool). b || (is_close_kind e.kind || false)) served.not_closed ∙ ap (λ (b : Bool). b || false) is.no_close;
      numbers = subst (AllByRecursion (λ (x : Entry). x.number ≤ done + 1)) (sym all) (each_push done (own known client) e served.numbers is.number_is);
    }

still_served : (known added before : List Entry) (client done : ℕ) → HasCommandsUpTo known client done → before ++ added ≡ before → HasCommandsUpTo (known ++ added) client (done + 1)
still_served known added before client done served same =
    subst (λ (l : List Entry). HasCommandsUpTo l client (done + 1)) (sym (ap (λ (l : List Entry). known ++ l) (nothing_more before added same) ∙ append-nil known)) record {
      client_known = served.client_known;
      not_closed = served.not_closed;
      numbers = up_to_more done (own known client) served.numbers;
    }

served_as : (known added before after : List Entry) (fixed : Fixed) (client done : ℕ) (bytes reply : List ℕ) (told : Told) → HasCommandsUpTo known client done → after ≡ before ++ added
    → Tells fixed before after client (done + 1) bytes reply told → HasCommandsUpTo (known ++ added) client (done + 1)
served_as known added before after fixed client done bytes reply tolds.Entered served front tells =
    subst (λ (l : List Entry). HasCommandsUpTo (known ++ l) client (done + 1)) (append_cancel_left before (tells.e ∷ []) added (sym tells.entered ∙ front)) (served_by known client done tells.e served (of_command fixed.began client (done + 1) bytes tells.e tells.cause))
served_as known added before after fixed client done bytes reply tolds.Memory served front tells = still_served known added before client done served (sym front ∙ tells.0)
served_as known added before after fixed client done bytes reply (tolds.JournalFull count most) served front tells = still_served known added before client done served (sym front ∙ tells.same)
served_as known added before after fixed client done bytes reply tolds.Answer served front tells = still_served known added before client done served (sym front ∙ tells.0)

-- its next command was told, whatever it was told
pub served_next : {legal : Origin → List Entry → Type 0} (old new : PassView) (bytes reply : List ℕ) (client done : ℕ) (d : Done) → HasCommandsUpTo old.known client done → Acts legal old (jobs.Command client (done + 1)) bytes d reply new
    → HasCommandsUpTo new.known client (done + 1)
served_next old new bytes reply client done (dones.Told told) served acts =
    subst (λ (l : List Entry). HasCommandsUpTo l client (done + 1)) (sym acts.known) (served_as old.known acts.added acts.before new.front old.fixed client done bytes reply told served acts.front acts.does)
served_next old new bytes reply client done (dones.Opened opened) served acts = absurd acts.does
served_next old new bytes reply client done (dones.Closed closed) served acts = absurd acts.does
