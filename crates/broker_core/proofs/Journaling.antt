-- What holds of the journal holds with one more entry.
use Rattle.std.proofs.Common.{◌≡◌, ◌<◌, ◌≤◌, ◌+◌, ◌*◌, ◌^◌, ◌-◌, ℕ, Bool, true, false, cond, List, [], ◌∷◌, ◌++◌, length, refl, sym, ap, subst, ◌∙◌, arith, inl, inr, length-append}
use Rattle.std.proofs.lemmas.Bool.{eqb-true}
use Rattle.std.proofs.lemmas.List.Sums.{sum_by-cons, sum_by_push}
use Rattle.std.specs.Prelude.{◌⊎◌, ◌==◌}
use Rattle.std.specs.List.{AllByRecursion}
use Rattle.tab_spec.specs.Count.{Rose, largest_count}
use Rattle.history_spec.specs.Entry.{Entry, HasRoom, HasRoomForClient, open_entry, close_entry, is_fault, clients_of, kept, kept_by, present_by, opened_by, without, IsOpen}
use Rattle.world_laws.proofs.Histories.{clients_of-push, each-push, each-weaker, length-without}
use Rattle.world_laws.proofs.Clients.{count_without, new, pushed}
use Rattle.audit_journal.specs.Counts.{faults_in}
use Rattle.broker_core.specs.Broker.{FaultsCounted, IsWhole, JournalHolds, times_open}

pub kept-push : (history : List Entry) (e : Entry) → kept (history ++ e ∷ []) ≡ kept history + kept_by e
kept-push history e = sum_by_push kept_by history e

pub faults-push : (history : List Entry) (e : Entry) → faults_in (history ++ e ∷ []) ≡ faults_in history + cond (is_fault e) 1 0
faults-push history e = sum_by_push (λ x. cond (is_fault x) 1 0) history e

-- each entry keeps 64 bytes at least
kept-least : (history : List Entry) → 64 * length history ≤ kept history
kept-least [] = omega arith
kept-least (e ∷ history) = omega (arith, kept-least history, sum_by-cons kept_by e history)

-- ---- the Fault entries

pub counted-later : (began : ℕ) {faults faults_new : ℕ} (history : List Entry) (left : ℕ) → FaultsCounted began faults history left → faults ≤ faults_new → FaultsCounted began faults_new history left
counted-later began history left (inl counted) count = inl (omega (arith, counted, count))
counted-later began history left (inr most) count = inr (omega (arith, most, count))

pub counted-push : (began : ℕ) {faults faults_new : ℕ} (history : List Entry) (e : Entry) (left : ℕ) → FaultsCounted began faults history left → faults ≤ faults_new → is_fault e ≡ false → FaultsCounted began faults_new (history ++ e ∷ []) left
counted-push began {faults_new = faults_new} history e left counted count no_fault =
    let none : ◌≡◌ {A = ℕ} (cond (is_fault e) 1 0) 0 = ap {B = ℕ} (λ (b : Bool). cond b 1 0) no_fault in
    let same : faults_in (history ++ e ∷ []) ≡ faults_in history = omega (arith, faults-push history e, none) in
    subst (λ (n : ℕ). (n + left + began ≤ faults_new) ⊎ (largest_count ≤ faults_new)) (sym same) (counted-later began history left counted count)

pub counted-fault : (began : ℕ) {faults faults_new : ℕ} (history : List Entry) (e : Entry) (left : ℕ) → FaultsCounted began faults history left → faults ≤ faults_new → Rose faults faults_new → is_fault e ≡ true → FaultsCounted began faults_new (history ++ e ∷ []) left
counted-fault began history e left (inr most) count rose fault = inr (omega (arith, most, count))
counted-fault began history e left (inl counted) count (inr most) fault = inr (omega (arith, most))
counted-fault began history e left (inl counted) count (inl more) fault =
    let one : ◌≡◌ {A = ℕ} (cond (is_fault e) 1 0) 1 = ap {B = ℕ} (λ (b : Bool). cond b 1 0) fault in
    inl (omega (arith, faults-push history e, one, counted, more))

-- objects that are left, each with a failed transmission of its own
pub counted-left : (began : ℕ) {faults faults_new : ℕ} (history : List Entry) (left more : ℕ) → FaultsCounted began faults history left → (more + faults ≤ faults_new) ⊎ (largest_count ≤ faults_new)
    → faults ≤ faults_new → FaultsCounted began faults_new history (left + more)
counted-left began history left more (inr most) rose count = inr (omega (arith, most, count))
counted-left began history left more (inl counted) (inr most) count = inr most
counted-left began history left more (inl counted) (inl rose) count = inl (omega (arith, counted, rose))

-- ---- one more entry

-- a client that is opened wasn't open
once-by : (client opened : ℕ) (present : List ℕ) (is : Bool) → (opened == client) ≡ is → AllByRecursion (λ c. c < opened) present → times_open client present ≤ 1 → times_open client (present ++ opened ∷ []) ≤ 1
once-by client opened present true e low once =
    let same : opened ≡ client = eqb-true opened client e in
    let none : times_open client present ≡ 0 = subst (λ (c : ℕ). times_open c present ≡ 0) same (new opened present low) in
    let one : ◌≡◌ {A = ℕ} (cond (opened == client) 1 0) 1 = ap {B = ℕ} (λ (b : Bool). cond b 1 0) e in
    omega (arith, pushed opened client present, none, one)
once-by client opened present false e low once =
    let zero : ◌≡◌ {A = ℕ} (cond (opened == client) 1 0) 0 = ap {B = ℕ} (λ (b : Bool). cond b 1 0) e in
    omega (arith, pushed opened client present, zero, once)

once-open : (client opened : ℕ) (present : List ℕ) → AllByRecursion (λ c. c < opened) present → times_open client present ≤ 1 → times_open client (present ++ opened ∷ []) ≤ 1
once-open client opened present low once = once-by client opened present (opened == client) refl low once

-- each number of a list without one is one of the list
below-without : (n : ℕ) (P : ℕ → Type 0) (ms : List ℕ) → AllByRecursion P ms → AllByRecursion P (without n ms)
below-without n P [] all = tt
below-without n P (m ∷ ms) all =
    elim (m == n) as (λ b. AllByRecursion P (cond b ms (m ∷ without n ms))) [
      | true ↦ all.1
      | false ↦ (all.0, below-without n P ms all.1)
    ]

pub journal-later : {history : List Entry} {limit faults faults_new opened present : ℕ} → JournalHolds history limit faults opened present → faults ≤ faults_new
    → JournalHolds history limit faults_new opened present
journal-later {history = history} {faults = faults} {faults_new = faults_new} h count = record {
  counts = each-weaker (λ x. x.faults ≤ faults) (λ x. x.faults ≤ faults_new) history (λ x low. omega (arith, low, count)) h.counts;
  whole = h.whole;
  below = h.below;
  once = h.once;
  opened_is = h.opened_is;
  present_is = h.present_is;
  opens = h.opens;
  fewer = h.fewer;
  limited = h.limited;
  reserves = h.reserves;
}

pub journal-open : {history : List Entry} {limit faults opened present : ℕ} → JournalHolds history limit faults opened present → HasRoomForClient limit history
    → JournalHolds (history ++ open_entry opened ∷ []) limit faults (opened + 1) (present + 1)
journal-open {history = history} {limit = limit} {faults = faults} {opened = opened} {present = present} h has_room =
    let e : Entry = open_entry opened in
    let clients = clients_of-push history e in
    let present_new : (clients_of (history ++ e ∷ [])).present ≡ (clients_of history).present ++ opened ∷ [] = ap (λ c. c.present) clients in
    let longer : length (clients_of (history ++ e ∷ [])).present ≡ length (clients_of history).present + 1 = ap length present_new ∙ length-append (clients_of history).present (opened ∷ []) in
    record {
      counts = each-push (λ x. x.faults ≤ faults) history e h.counts (omega arith);
      whole = each-push (λ x. IsWhole x.kind x.reply) history e h.whole tt;
      below = subst (AllByRecursion (λ client. client < opened + 1)) (sym present_new)
          (each-push (λ client. client < opened + 1) (clients_of history).present opened
          (each-weaker (λ client. client < opened) (λ client. client < opened + 1) (clients_of history).present (λ x low. omega (arith, low)) h.below) (omega arith));
      once = λ client. subst (λ (p : List ℕ). times_open client p ≤ 1) (sym present_new) (once-open client opened (clients_of history).present h.below (h.once client));
      opened_is = ap (λ n. n + 1) h.opened_is ∙ sym (ap (λ c. c.opened) clients);
      present_is = omega (arith, h.present_is, longer);
      opens = omega (arith, h.opens, length-append history (e ∷ []));
      fewer = omega (arith, h.fewer);
      limited = h.limited;
      reserves = omega (arith, has_room.bytes, longer, kept-push history e);
    }

-- the entry of a command, for which there was room
pub journal-entry : {history : List Entry} {limit faults faults_new opened present : ℕ} (e : Entry) → JournalHolds history limit faults opened present → faults ≤ faults_new
    → present_by e.kind e.client (clients_of history).present ≡ (clients_of history).present → opened_by e.kind (clients_of history).opened ≡ (clients_of history).opened
    → e.faults ≤ faults_new → IsWhole e.kind e.reply → HasRoom limit history e.command → length e.reply ≤ 4096
    → JournalHolds (history ++ e ∷ []) limit faults_new opened present
journal-entry {history = history} {limit = limit} {faults = faults} {faults_new = faults_new} {opened = opened} e h count same_present same_opened low whole has_room short =
    let clients = clients_of-push history e in
    let present_new : (clients_of (history ++ e ∷ [])).present ≡ (clients_of history).present = ap (λ c. c.present) clients ∙ same_present in
    let longer : length (clients_of (history ++ e ∷ [])).present ≡ length (clients_of history).present = ap length present_new in
    record {
      counts = each-push (λ x. x.faults ≤ faults_new) history e (each-weaker (λ x. x.faults ≤ faults) (λ x. x.faults ≤ faults_new) history (λ x few. omega (arith, few, count)) h.counts) low;
      whole = each-push (λ x. IsWhole x.kind x.reply) history e h.whole whole;
      below = subst (AllByRecursion (λ (client : ℕ). client < opened)) (sym present_new) h.below;
      once = λ client. subst (λ (p : List ℕ). times_open client p ≤ 1) (sym present_new) (h.once client);
      opened_is = h.opened_is ∙ sym (ap (λ c. c.opened) clients ∙ same_opened);
      present_is = h.present_is ∙ sym longer;
      opens = omega (arith, h.opens, length-append history (e ∷ []));
      fewer = h.fewer;
      limited = h.limited;
      reserves = omega (arith, has_room, longer, kept-push history e, short);
    }

pub journal-close : {history : List Entry} {limit faults opened present : ℕ} (client : ℕ) → JournalHolds history limit faults opened present → IsOpen history client
    → JournalHolds (history ++ close_entry client ∷ []) limit faults opened (present - 1)
journal-close {history = history} {limit = limit} {faults = faults} {opened = opened} {present = present} client h is_open =
    let e : Entry = close_entry client in
    let clients = clients_of-push history e in
    let present_new : (clients_of (history ++ e ∷ [])).present ≡ without client (clients_of history).present = ap (λ c. c.present) clients in
    let shorter : length (clients_of (history ++ e ∷ [])).present + 1 ≡ length (clients_of history).present = ap (λ p. length p + 1) present_new ∙ length-without client (clients_of history).present is_open in
    record {
      counts = each-push (λ x. x.faults ≤ faults) history e h.counts (omega arith);
      whole = each-push (λ x. IsWhole x.kind x.reply) history e h.whole tt;
      below = subst (AllByRecursion (λ (client : ℕ). client < opened)) (sym present_new) (below-without client (λ (c : ℕ). c < opened) (clients_of history).present h.below);
      once = λ other. subst (λ (p : List ℕ). times_open other p ≤ 1) (sym present_new) (omega (arith, count_without client other (clients_of history).present, h.once other));
      opened_is = h.opened_is ∙ sym (ap (λ c. c.opened) clients);
      present_is = omega (arith, h.present_is, shorter);
      opens = omega (arith, h.opens, length-append history (e ∷ []));
      fewer = omega (arith, h.fewer);
      limited = h.limited;
      reserves = omega (arith, h.reserves, shorter, kept-push history e);
    }

-- a journal has few entries
pub few-entries : {history : List Entry} {limit faults opened present : ℕ} → JournalHolds history limit faults opened present → length history ≤ 2 ^ 52
few-entries {history = history} h = omega (arith, kept-least history, h.reserves, h.limited)
