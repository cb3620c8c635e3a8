-- What a broker's calls tell is what is told of a value under a lock.
use Rattle.std.proofs.Common.{◌≡◌, ◌≤◌, ◌∙◌, ℕ, Bool, true, false, List, [], ◌∷◌, ◌++◌, Option, Some, None, Result, Ok, Err, refl, sym, ap, subst, arith, inl, inr}
use Rattle.std.specs.Prelude.{◌⊎◌, ◌↔◌, is_some, IsSome, IfOk, OnErr}
use Rattle.tab_spec.specs.declared.TheConstants.{RC_DEVICE_FAULT}
use Rattle.tab_spec.specs.Count.{Rose, largest_count}
use Rattle.tab_spec.specs.declared.numbers.Numbers.{Numbers}
use Rattle.tab_spec.specs.Persist.{Persist}
use Rattle.tab_spec.specs.Reply.{error_reply}
use Rattle.tab_spec.specs.declared.contexts.ContextLimits.{ContextLimits}
use Rattle.device_port.specs.Device.{Seen}
use Rattle.tab_laws.proofs.Outcomes.{not_some}
use Rattle.device_spec.specs.Slots.{SlotState}
use Rattle.history_spec.specs.declared.Pick.{Pick}
use Rattle.history_spec.specs.Entry.{Entry, HasRoomForClient, clients_of, command_entry, fault_entry, kept, open_entry}
use Rattle.broker_lock.specs.declared.calls.Closed.{Closed}
use Rattle.broker_lock.specs.declared.calls.Closed.TheVariants as closes
use Rattle.broker_lock.specs.declared.calls.OpenClientError.{OpenClientError}
use Rattle.broker_lock.specs.declared.calls.OpenClientError.TheVariants as open_errors
use Rattle.broker_lock.specs.declared.calls.Told.{Told}
use Rattle.broker_lock.specs.declared.calls.Told.TheVariants as tolds
use Rattle.broker_lock.specs.Known.{Fixed, IsLegalOver, Origin, origin_of}
use Rattle.broker_lock.specs.Serves as lock
use Rattle.world_spec.specs.Legal.{Legal}
use Rattle.client_machine.specs.declared.held.Held.{Held}
use Rattle.client_machine.proofs.Settling.{some_same}
use Rattle.broker_core.specs.Tables.{with_owners}
use Rattle.broker_core.specs.Broker.{BrokerTells, BrokerView, FaultsCounted, IsCarriedOut, IsFaulted, IsRefused, LegalOver, StandsAfterIf, TellsLeft}

-- ---- what a device tells

told_state : (state : Option SlotState) (base : Option Persist) (b : Persist) → is_some state ≡ is_some base → base ≡ Some b → (slots : SlotState) × (state ≡ Some slots)
told_state (Some slots) base b same is = (slots, refl)
told_state None base b same is = absurd (let yes : is_some base ≡ true = ap is_some is in cc)

pub legal_over : (base : Option Persist) (state : Option SlotState) (history : List Entry) (tables : List (List (Option ℕ))) (held : Held) → is_some state ≡ is_some base → StandsAfterIf base state history tables held
    → IsLegalOver LegalOver (origin_of base held.sessions.numbers) history
legal_over None state history tables held same stands = λ origin is. absurd cc
legal_over (Some b) state history tables held same stands = λ origin is.
    let told = told_state state (Some b) b same refl in
    let after = stands b told.0 refl told.1 in
    subst (λ (o : Origin). LegalOver o history) (some_same is) (subst (λ (n : Numbers). Legal b n.active history) after.stands.settled.sessions.numbers after.legal)

pub untold : (base : Option Persist) (state : Option SlotState) (wrong_code : Option ℕ) → is_some state ≡ is_some base → (IsSome state → wrong_code ≡ None) → IsSome wrong_code → base ≡ None
untold None state wrong_code same taken some = refl
untold (Some b) state wrong_code same taken some = absurd (not_some wrong_code (taken same) some)

pub unknown : (base : Option Persist) (numbers : Numbers) → base ≡ None → origin_of base numbers ≡ None
unknown base numbers is = ap (λ (b : Option Persist). origin_of b numbers) is

-- ---- a failed transmission

-- the count is above that of the start, too
rose_since : (began old new : ℕ) (history : List Entry) → began ≤ largest_count → FaultsCounted began old history 0 → Rose old new → Rose began new
rose_since began old new history low counted (inr most) = inr most
rose_since began old new history low (inl counted) (inl more) = inl (omega (arith, counted, more))
rose_since began old new history low (inr most) (inl more) = inl (omega (arith, low, most, more))

failed : (began count client number : ℕ) (bytes : List ℕ) (e : Entry) → e ≡ fault_entry client number count bytes (error_reply RC_DEVICE_FAULT) → Rose began count → lock.IsFailed began client number bytes e
failed began count client number bytes e is rose =
    subst (λ (x : Entry). lock.IsFailed began client number bytes x) (sym is) (record { form = refl; rose = rose })

answered : (client number : ℕ) (pick : Pick) (bytes reply : List ℕ) (e : Entry) → e ≡ command_entry client number pick bytes reply → lock.IsAnswered client number bytes e
answered client number pick bytes reply e is = subst (λ (x : Entry). lock.IsAnswered client number bytes x) (sym is) refl

-- ---- the calls

abbrev pub fixed_of : {D : Type 0} → ContextLimits → Option Origin → BrokerView D → Fixed
fixed_of contexts base b = record { base = base; limit = b.limit; began = b.began; contexts = contexts }

pub opens : (contexts : ContextLimits) {D : Type 0} (base : Option Origin) (old new : BrokerView D) (result : Result ℕ OpenClientError)
    → IfOk result (λ client. (client ≡ (clients_of old.journal).opened) × HasRoomForClient old.limit old.journal
    × (new ≡ record old { journal = old.journal ++ open_entry client ∷ []; tables = old.tables ++ [] ∷ []; held = with_owners old.held new.held.objects.owners }))
    → OnErr result (new ≡ old)
    → ((count limit : ℕ) → result ≡ Err (open_errors.JournalFull count limit) → (HasRoomForClient old.limit old.journal → ⊥) × (count ≡ kept old.journal) × (limit ≡ old.limit))
    → (result ≡ Err open_errors.Memory → HasRoomForClient old.limit old.journal)
    → (result ≡ Err open_errors.Answer → base ≡ None)
    → lock.Opens (fixed_of contexts base old) old.journal new.journal result
opens contexts {D = D} base old new (Ok client) ok err full room none = record { client_is = ok.0; room = ok.1; entered = ap (λ (b : BrokerView D). b.journal) ok.2 }
opens contexts {D = D} base old new (Err open_errors.Memory) ok err full room none = (ap (λ (b : BrokerView D). b.journal) err, room refl)
opens contexts {D = D} base old new (Err (open_errors.JournalFull count limit)) ok err full room none =
    let is = full count limit refl in record { lacks = is.0; same = ap (λ (b : BrokerView D). b.journal) err; kept_is = is.1; limit_is = is.2 }
opens contexts {D = D} base old new (Err open_errors.Answer) ok err full room none = (ap (λ (b : BrokerView D). b.journal) err, none refl)

caused : {contexts : ContextLimits} {D : Type 0} (seen : D → Seen) (old new : BrokerView D) (client number : ℕ) (bytes : List ℕ) (e : Entry) → old.began ≤ largest_count
    → FaultsCounted old.began (seen old.device).faults old.journal 0
    → IsRefused contexts old new client number bytes e ⊎ (IsFaulted contexts seen old new client number bytes e ⊎ IsCarriedOut contexts seen old new client number bytes e)
    → lock.IsAnswered client number bytes e ⊎ lock.IsFailed old.began client number bytes e
caused seen old new client number bytes e low counted (inl refused) = inl (answered client number _ bytes _ e refused.entry)
caused seen old new client number bytes e low counted (inr (inl faulted)) =
    inr (failed old.began (seen new.device).faults client number bytes e faulted.entry (rose_since old.began (seen old.device).faults (seen new.device).faults old.journal low counted faulted.rose))
caused seen old new client number bytes e low counted (inr (inr carried)) = inl (answered client number _ bytes _ e carried.entry)

pub tells : (contexts : ContextLimits) {D : Type 0} (seen : D → Seen) (base : Option Origin) (told : Told) (old new : BrokerView D) (client number : ℕ) (bytes reply : List ℕ)
    → old.began ≤ largest_count → FaultsCounted old.began (seen old.device).faults old.journal 0 → (told ≡ tolds.Answer → base ≡ None)
    → BrokerTells contexts seen told old new client number bytes reply → lock.Tells (fixed_of contexts base old) old.journal new.journal client number bytes reply told
tells contexts {D = D} seen base tolds.Entered old new client number bytes reply low counted none is = record {
  e = is.e;
  entered = is.entered;
  cause = caused seen old new client number bytes is.e low counted is.cause;
  reply_is = is.reply_is;
  room = is.room;
}
tells contexts {D = D} seen base tolds.Memory old new client number bytes reply low counted none is = (ap (λ (b : BrokerView D). b.journal) is.0, is.1, is.2)
tells contexts {D = D} seen base (tolds.JournalFull count limit) old new client number bytes reply low counted none is = record {
  lacks = is.lacks;
  same = ap (λ (b : BrokerView D). b.journal) is.same;
  reply_is = is.reply_is;
  kept_is = is.kept_is;
  limit_is = is.limit_is;
}
tells contexts {D = D} seen base tolds.Answer old new client number bytes reply low counted none is = (is.0, is.1, none refl)

pub may_leave : (fixed : Fixed) (old new : Held) (closed : Closed) → TellsLeft closed old new → (closed ≡ closes.Answer → fixed.base ≡ None)
    → lock.MayLeave fixed closed
may_leave fixed old new closes.Clean left none = tt
may_leave fixed old new (closes.Orphans count) left none = omega (arith, left.0, left.1)
may_leave fixed old new closes.Answer left none = none refl

-- ---- wrong answers

not_so : (b : Bool) → (b ≡ true → ⊥) → b ≡ false
not_so true never = absurd (never refl)
not_so false never = refl

opening_is : (wrong : Option ℕ) (result : Result ℕ OpenClientError) → ((result ≡ Err open_errors.Answer) ↔ IsSome wrong) → is_some wrong ≡ lock.opens_wrong result
opening_is wrong (Ok client) is = not_so (is_some wrong) (λ some. let no : ◌≡◌ {A = Result ℕ OpenClientError} (Ok client) (Err open_errors.Answer) = is.1 some in cc)
opening_is wrong (Err open_errors.Memory) is =
    not_so (is_some wrong) (λ some. let no : ◌≡◌ {A = Result ℕ OpenClientError} (Err open_errors.Memory) (Err open_errors.Answer) = is.1 some in cc)
opening_is wrong (Err (open_errors.JournalFull count most)) is =
    not_so (is_some wrong) (λ some. let no : ◌≡◌ {A = Result ℕ OpenClientError} (Err (open_errors.JournalFull count most)) (Err open_errors.Answer) = is.1 some in cc)
opening_is wrong (Err open_errors.Answer) is = is.0 refl

-- an opening leaves it as it was
pub opens_same : {D : Type 0} (old new : BrokerView D) (result : Result ℕ OpenClientError)
    → IfOk result (λ client. (client ≡ (clients_of old.journal).opened) × HasRoomForClient old.limit old.journal
    × (new ≡ record old { journal = old.journal ++ open_entry client ∷ []; tables = old.tables ++ [] ∷ []; held = with_owners old.held new.held.objects.owners }))
    → OnErr result (new ≡ old) → is_some new.wrong_code ≡ is_some old.wrong_code
opens_same {D} old new (Ok client) ok err = ap (λ (b : BrokerView D). is_some b.wrong_code) ok.2
opens_same {D} old new (Err e) ok err = ap (λ (b : BrokerView D). is_some b.wrong_code) err

pub opens_right : {D : Type 0} (old new : BrokerView D) (result : Result ℕ OpenClientError)
    → IfOk result (λ client. (client ≡ (clients_of old.journal).opened) × HasRoomForClient old.limit old.journal
    × (new ≡ record old { journal = old.journal ++ open_entry client ∷ []; tables = old.tables ++ [] ∷ []; held = with_owners old.held new.held.objects.owners }))
    → OnErr result (new ≡ old) → ((result ≡ Err open_errors.Answer) ↔ IsSome old.wrong_code)
    → lock.TellsWrong (is_some old.wrong_code) (is_some new.wrong_code) (lock.opens_wrong result) × (is_some new.wrong_code ≡ is_some old.wrong_code)
opens_right old new result ok err is =
    let same = opens_same old new result ok err in ((same ∙ opening_is old.wrong_code result is, λ was. same ∙ was), same)

command_is : (wrong : Option ℕ) (told : Told) → ((told ≡ tolds.Answer) ↔ IsSome wrong) → is_some wrong ≡ lock.tells_wrong told
command_is wrong tolds.Entered is = not_so (is_some wrong) (λ some. let no : tolds.Entered ≡ tolds.Answer = is.1 some in cc)
command_is wrong tolds.Memory is = not_so (is_some wrong) (λ some. let no : tolds.Memory ≡ tolds.Answer = is.1 some in cc)
command_is wrong (tolds.JournalFull count most) is = not_so (is_some wrong) (λ some. let no : tolds.JournalFull count most ≡ tolds.Answer = is.1 some in cc)
command_is wrong tolds.Answer is = is.0 refl

-- a command leaves it where it was there
pub tells_right : {D : Type 0} (old new : BrokerView D) (told : Told) → ((told ≡ tolds.Answer) ↔ IsSome new.wrong_code) → (IsSome old.wrong_code → new.wrong_code ≡ old.wrong_code)
    → lock.TellsWrong (is_some old.wrong_code) (is_some new.wrong_code) (lock.tells_wrong told)
tells_right old new told is stays = (command_is new.wrong_code told is, λ was. ap is_some (stays was) ∙ was)

pub cancel_right : {D : Type 0} (old new : BrokerView D) (told : Told) → ((told ≡ tolds.Answer) ↔ IsSome old.wrong_code) → new.wrong_code ≡ old.wrong_code
    → lock.TellsWrong (is_some old.wrong_code) (is_some new.wrong_code) (lock.tells_wrong told)
cancel_right old new told is same = (ap is_some same ∙ command_is old.wrong_code told is, λ was. ap is_some same ∙ was)

close_is : (wrong : Option ℕ) (closed : Closed) → ((closed ≡ closes.Answer) ↔ IsSome wrong) → is_some wrong ≡ lock.closes_wrong closed
close_is wrong closes.Clean is = not_so (is_some wrong) (λ some. let no : closes.Clean ≡ closes.Answer = is.1 some in cc)
close_is wrong (closes.Orphans count) is = not_so (is_some wrong) (λ some. let no : closes.Orphans count ≡ closes.Answer = is.1 some in cc)
close_is wrong closes.Answer is = is.0 refl

pub closes_right : {D : Type 0} (old new : BrokerView D) (closed : Closed) → ((closed ≡ closes.Answer) ↔ IsSome new.wrong_code) → (IsSome old.wrong_code → new.wrong_code ≡ old.wrong_code)
    → lock.TellsWrong (is_some old.wrong_code) (is_some new.wrong_code) (lock.closes_wrong closed)
closes_right old new closed is stays = (close_is new.wrong_code closed is, λ was. ap is_some (stays was) ∙ was)
