-- What one more entry makes of a journal's counts, and that they stay small.
use Rattle.std.proofs.Common.{◌≡◌, ◌≤◌, ◌<◌, ◌+◌, ◌*◌, ◌^◌, ◌++◌, ◌∷◌, [], ◌∙◌, ℕ, Bool, true, false, cond, List, length, ap, refl, arith, length-append}
use Rattle.std.proofs.lemmas.List.Sums.{sum_by_push, sum_by-cons}
use Rattle.std.specs.List.{AllByRecursion, count_by}
use Rattle.tab_spec.specs.Values.{AreBytes}
use Rattle.std.specs.Prelude.{Option, None, Some, MatchOption}
use Rattle.history_spec.specs.declared.TheConstants.{JOURNAL_LEAST, JOURNAL_MOST, SILENT_LIMIT}
use Rattle.history_spec.specs.Entry.{Entry, is_fault_kind, kept, kept_by}
use Rattle.audit_journal.specs.Counts.{canceled_in, commands_in, counts_of, faults_in, is_canceled_kind, is_command_kind, with_counted}
use Rattle.audit_journal.specs.declared.counts.Counts.{Counts}
use Rattle.audit_journal.specs.Region.{IsSound, RegionView}

one_more_if : (more : Bool) (n : ℕ) → n + cond more 1 0 ≡ cond more (n + 1) n
one_more_if true n = refl
one_more_if false n = omega arith

counted_push : (p : Entry → Bool) (history : List Entry) (e : Entry) → count_by p (history ++ e ∷ []) ≡ cond (p e) (count_by p history + 1) (count_by p history)
counted_push p history e = sum_by_push (λ (x : Entry). cond (p x) 1 0) history e ∙ one_more_if (p e) (count_by p history)

pub counts_push : (history : List Entry) (e : Entry) → counts_of (history ++ e ∷ []) ≡ with_counted (counts_of history) e
counts_push history e =
    let entries : length (history ++ e ∷ []) ≡ length history + 1 = length-append history (e ∷ []) in
    let bytes : kept (history ++ e ∷ []) ≡ kept history + kept_by e = sum_by_push kept_by history e in
    let commands : commands_in (history ++ e ∷ []) ≡ cond (is_command_kind e.kind) (commands_in history + 1) (commands_in history) = counted_push (λ (x : Entry). is_command_kind x.kind) history e in
    let canceled : canceled_in (history ++ e ∷ []) ≡ cond (is_canceled_kind e.kind) (canceled_in history + 1) (canceled_in history) = counted_push (λ (x : Entry). is_canceled_kind x.kind) history e in
    let faulted : faults_in (history ++ e ∷ []) ≡ cond (is_fault_kind e.kind) (faults_in history + 1) (faults_in history) = counted_push (λ (x : Entry). is_fault_kind x.kind) history e in
    λ i. record { entries = entries i; kept = bytes i; commands = commands i; canceled = canceled i; faults = faulted i }

-- each entry keeps 64 bytes at least
few : (history : List Entry) → 64 * length history ≤ kept history
few [] = omega arith
few (e ∷ history) = omega (arith, few history, sum_by-cons kept_by e history)

at_most_one : (more : Bool) → cond more 1 0 ≤ 1
at_most_one true = omega arith
at_most_one false = omega arith

count_few : (p : Entry → Bool) (history : List Entry) → count_by p history ≤ length history
count_few p [] = omega arith
count_few p (e ∷ history) = omega (arith, count_few p history, at_most_one (p e), sum_by-cons (λ (x : Entry). cond (p x) 1 0) e history)

-- counts within the limit are small
pub record AreSmall (counts : Counts) : Type 0 where
  pub entries : counts.entries < 2 ^ 60
  pub commands : counts.commands < 2 ^ 60
  pub canceled : counts.canceled < 2 ^ 60
  pub faults : counts.faults < 2 ^ 60

-- no limit is above that of a journal that keeps none
limit_most : (limit : ℕ) (region : Option RegionView) (is also : RegionView → Type 0)
    → MatchOption region (limit ≡ SILENT_LIMIT) (λ r. (JOURNAL_LEAST ≤ limit) × (limit ≤ JOURNAL_MOST) × is r × also r) → limit ≤ 2 ^ 58
limit_most limit None is also h = omega (arith, h)
limit_most limit (Some r) is also h = omega (arith, h.1)

pub are_small : {entries : List Entry} {counts : Counts} {limit : ℕ} {region : Option RegionView} → IsSound entries counts limit region → AreSmall counts
are_small {entries = history} {counts = counts} {limit = limit} {region = region} sound =
    let is = sound.counted in
    let within = sound.within in
    let most = limit_most limit region (λ r. r.entries ≡ history) (λ r. limit ≤ r.most) sound.region_is in
    let entries : counts.entries ≡ length history = ap (λ (c : Counts). c.entries) is in
    let commands : counts.commands ≡ commands_in history = ap (λ (c : Counts). c.commands) is in
    let canceled : counts.canceled ≡ canceled_in history = ap (λ (c : Counts). c.canceled) is in
    let faults : counts.faults ≡ faults_in history = ap (λ (c : Counts). c.faults) is in
    let all = few history in record {
      entries = omega (arith, entries, all);
      commands = omega (arith, commands, count_few (λ (e : Entry). is_command_kind e.kind) history, all);
      canceled = omega (arith, canceled, count_few (λ (e : Entry). is_canceled_kind e.kind) history, all);
      faults = omega (arith, faults, count_few (λ (e : Entry). is_fault_kind e.kind) history, all);
    }

-- the replies with one more
pub are_more : (history : List Entry) (e : Entry) → AllByRecursion (λ (x : Entry). AreBytes x.reply) history → AreBytes e.reply → AllByRecursion (λ (x : Entry). AreBytes x.reply) (history ++ e ∷ [])
are_more [] e are one = (one, tt)
are_more (x ∷ history) e are one = (are.0, are_more history e are.1 one)
