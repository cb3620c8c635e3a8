-- What each call of a driven broker leaves of its clients.
use Rattle.std.proofs.Common.{true≢false, ◌≡◌, ◌≢◌, ◌∙◌, ◌+◌, ◌⊎◌, inl, inr, ◌≤◌, ◌<◌, ◌^◌, ℕ, Bool, true, false, List, [], ◌∷◌, ◌++◌, ap, refl, sym, subst, arith}
use Rattle.std.specs.Prelude.{◌==◌, ◌||◌}
use Rattle.std.specs.List.{AllByRecursion, list_any}
use Rattle.std.specs.Bool.{IsTrue}
use Rattle.std.proofs.lemmas.Bool.{eq-eqb, ne_eqb}
use Rattle.std.proofs.Math.Bool.{or-true}
use Rattle.std.proofs.lemmas.List.Folds.{list_any-append}
use Rattle.tab_spec.specs.declared.contexts.ContextLimits.{ContextLimits}
use Rattle.history_spec.specs.Entry.{Clients, Entry, canceled_entry, clients_by, clients_of, close_entry, open_entry, IsNextNumber}
use Rattle.device_port.specs.Device.{Seen}
use Rattle.world_laws.proofs.Clients.{stay}
use Rattle.world_laws.proofs.Histories.{clients_of-push, each-filter, each-push, each-weaker}
use Rattle.broker_lock.specs.declared.calls.Told.{Told}
use Rattle.broker_lock.specs.declared.calls.Told.TheVariants as tolds
use Rattle.broker_core.specs.Broker.{BrokerTells, BrokerTellsCanceled, BrokerView, IsCarriedOut, IsFaulted, IsRefused}
use Rattle.broker_tests.specs.Driven.{IsDriven}

-- a broker that has opened nobody
pub driven_at_first : (history : List Entry) → history ≡ [] → IsDriven history 0 0 1
driven_at_first history empty =
    let first : IsDriven [] 0 0 1 = record {
      opened_is = refl;
      behind = omega arith;
      few = omega arith;
      are_open = λ client from below. absurd (omega (arith, below));
      positive = omega arith;
      above = tt;
    } in
    subst (λ (h : List Entry). IsDriven h 0 0 1) (sym empty) first

abbrev is_in : ℕ → List ℕ → Bool
is_in client present = list_any (λ other. other == client) present

more : (history : List Entry) {closed opened next : ℕ} → IsDriven history closed opened next → IsDriven history closed opened (next + 1)
more history {next = next} d = record {
  opened_is = d.opened_is;
  behind = d.behind;
  few = d.few;
  are_open = d.are_open;
  positive = omega (arith, d.positive);
  above = each-weaker (λ x. x.number < next) (λ x. x.number < next + 1) history (λ x lt. omega arith) d.above;
}

plain : (history : List Entry) (e : Entry) {closed opened next : ℕ} → clients_by (clients_of history) e ≡ clients_of history → e.number ≡ next
    → IsDriven history closed opened next → IsDriven (history ++ e ∷ []) closed opened (next + 1)
plain history e {next = next} same number d =
    let clients : clients_of (history ++ e ∷ []) ≡ clients_of history = clients_of-push history e ∙ same in
    let rest = more history d in
    record {
      opened_is = ap (λ c. c.opened) clients ∙ d.opened_is;
      behind = d.behind;
      few = d.few;
      are_open = λ client low high. subst (λ (c : Clients). IsTrue (is_in client c.present)) (sym clients) (d.are_open client low high);
      positive = rest.positive;
      above = each-push (λ x. x.number < next + 1) history e rest.above (omega (arith, number));
    }

-- the entry of a client's command leaves who is open
record IsPlain (history : List Entry) (number : ℕ) (e : Entry) : Type 0 where
  same : clients_by (clients_of history) e ≡ clients_of history
  number_is : e.number ≡ number

is_plain : {contexts : ContextLimits} {D : Type 0} (seen : D → Seen) (old new : BrokerView D) (client number : ℕ) (bytes : List ℕ) (e : Entry)
    → IsRefused contexts old new client number bytes e ⊎ (IsFaulted contexts seen old new client number bytes e ⊎ IsCarriedOut contexts seen old new client number bytes e)
    → IsPlain old.journal number e
is_plain seen old new client number bytes e (inl refused) =
    subst (IsPlain old.journal number) (sym refused.entry) (record { same = refl; number_is = refl })
is_plain seen old new client number bytes e (inr (inl faulted)) =
    subst (IsPlain old.journal number) (sym faulted.entry) (record { same = refl; number_is = refl })
is_plain seen old new client number bytes e (inr (inr carried)) =
    subst (IsPlain old.journal number) (sym carried.entry) (record { same = refl; number_is = refl })

pub told : (contexts : ContextLimits) {D : Type 0} (seen : D → Seen) (result : Told) (old new : BrokerView D) (client number : ℕ) (bytes reply : List ℕ) {closed opened : ℕ}
    → BrokerTells contexts seen result old new client number bytes reply → IsDriven old.journal closed opened number
    → IsDriven new.journal closed opened (number + 1)
told contexts seen tolds.Entered old new client number bytes reply {closed} {opened} t d =
    let p = is_plain seen old new client number bytes t.e t.cause in
    subst (λ (h : List Entry). IsDriven h closed opened (number + 1)) (sym t.entered) (plain old.journal t.e p.same p.number_is d)
told contexts seen tolds.Memory old new client number bytes reply {closed} {opened} t d =
    subst (λ (v : BrokerView _). IsDriven v.journal closed opened (number + 1)) (sym t.0) (more old.journal d)
told contexts seen (tolds.JournalFull count limit) old new client number bytes reply {closed} {opened} t d =
    subst (λ (v : BrokerView _). IsDriven v.journal closed opened (number + 1)) (sym t.same) (more old.journal d)
told contexts seen tolds.Answer old new client number bytes reply {closed} {opened} t d =
    subst (λ (h : List Entry). IsDriven h closed opened (number + 1)) (sym t.0) (more old.journal d)

pub canceled : {D : Type 0} (result : Told) (old new : BrokerView D) (client number upto : ℕ) (bytes reply : List ℕ) {closed opened : ℕ}
    → BrokerTellsCanceled result old new client number upto bytes reply → IsDriven old.journal closed opened number → IsDriven new.journal closed opened (number + 1)
canceled tolds.Entered old new client number upto bytes reply {closed} {opened} t d =
    subst (λ (v : BrokerView _). IsDriven v.journal closed opened (number + 1)) (sym t.same) (plain old.journal (canceled_entry client number upto bytes reply) refl refl d)
canceled tolds.Memory old new client number upto bytes reply {closed} {opened} t d = absurd t
canceled (tolds.JournalFull count limit) old new client number upto bytes reply {closed} {opened} t d =
    subst (λ (v : BrokerView _). IsDriven v.journal closed opened (number + 1)) (sym t.same) (more old.journal d)
canceled tolds.Answer old new client number upto bytes reply {closed} {opened} t d =
    subst (λ (v : BrokerView _). IsDriven v.journal closed opened (number + 1)) (sym t.0) (more old.journal d)

pub is_next : (history : List Entry) {closed opened next : ℕ} (client : ℕ) → IsDriven history closed opened next → IsNextNumber history client next
is_next history {next = next} client d = record {
  positive = d.positive;
  above = each-filter (λ x. x.number < next) (λ x. x.client == client) history d.above;
}

-- ---- who is open

below : (n client : ℕ) → client < n + 1 → (n == client) ≡ false → client < n
below n client lt other = omega (arith, lt, λ (same : n ≡ client). true≢false (sym (eq-eqb n client same) ∙ other))

open_by : (history : List Entry) (n client : ℕ) (here : Bool) → (n == client) ≡ here → (here ≡ false → is_in client (clients_of history).present ≡ true)
    → is_in client ((clients_of history).present ++ n ∷ []) ≡ true
open_by history n client true is rest =
    list_any-append (λ other. other == client) (clients_of history).present (n ∷ [])
    ∙ ap (λ (b : Bool). is_in client (clients_of history).present || (b || false)) is ∙ or-true (is_in client (clients_of history).present)
open_by history n client false is rest =
    list_any-append (λ other. other == client) (clients_of history).present (n ∷ [])
    ∙ ap (λ (b : Bool). b || (n == client || false)) (rest refl)

pub opened : (history : List Entry) {closed opened next : ℕ} → opened < 2 ^ 32 → IsDriven history closed opened next
    → IsDriven (history ++ open_entry opened ∷ []) closed (opened + 1) next
opened history {closed} {opened} {next} lt d =
    let e : Entry = open_entry opened in
    let clients = clients_of-push history e in
    record {
      opened_is = ap (λ (c : Clients). c.opened) clients ∙ ap (λ (n : ℕ). n + 1) d.opened_is;
      behind = omega (arith, d.behind);
      few = omega (arith, lt);
      are_open = λ client low high. subst (λ (c : Clients). IsTrue (is_in client c.present)) (sym clients)
          (open_by history opened client (opened == client) refl
          (λ (other : (opened == client) ≡ false). d.are_open client low (below opened client high other)));
      positive = d.positive;
      above = each-push (λ x. x.number < next) history e d.above (omega (arith, d.positive));
    }

pub closed : (history : List Entry) {closed opened next : ℕ} → closed < opened → IsDriven history closed opened next
    → IsDriven (history ++ close_entry closed ∷ []) (closed + 1) opened next
closed history {closed} {opened} {next} lt d =
    let e : Entry = close_entry closed in
    let clients = clients_of-push history e in
    record {
      opened_is = ap (λ (c : Clients). c.opened) clients ∙ d.opened_is;
      behind = omega (arith, lt);
      few = d.few;
      are_open = λ client low high. subst (λ (c : Clients). IsTrue (is_in client c.present)) (sym clients)
          (stay closed client (clients_of history).present (ne_eqb closed client (λ same. omega (arith, low, same)))
          ∙ d.are_open client (omega (arith, low)) high);
      positive = d.positive;
      above = each-push (λ x. x.number < next) history e d.above (omega (arith, d.positive));
    }
