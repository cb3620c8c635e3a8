-- What a broker's calls tell is what is told of a value that runs a script.
use Rattle.std.proofs.Common.{◌≡◌, ◌≤◌, ℕ, true, false, Bool, List, Option, None, refl, sym, ap, subst, arith, inl, inr}
use Rattle.std.specs.Prelude.{◌⊎◌, IsTrue}
use Rattle.tab_spec.specs.Count.{Rose}
use Rattle.tab_spec.specs.declared.contexts.ContextLimits.{ContextLimits}
use Rattle.device_port.specs.Device.{Seen}
use Rattle.history_spec.specs.Entry.{Entry}
use Rattle.broker_lock.specs.declared.calls.Told.{Told}
use Rattle.broker_lock.specs.declared.calls.Told.TheVariants as tolds
use Rattle.broker_lock.specs.Known.{Fixed, Origin}
use Rattle.broker_lock.specs.Serves as lock
use Rattle.broker_core.specs.Broker.{BrokerTells, BrokerTellsCanceled, BrokerView, IsCarriedOut, IsFaulted, IsRefused}

pub not_wrong : (wrong : Bool) → wrong ≡ false → IsTrue wrong → ⊥
not_wrong true is some = absurd (let no : true ≡ false = is in cc)
not_wrong false is some = absurd (let no : false ≡ true = some in cc)

-- the count is above that of the start, too
rose_since : (began old new : ℕ) → began ≤ old → Rose old new → Rose began new
rose_since began old new low (inl more) = inl (omega (arith, low, more))
rose_since began old new low (inr most) = inr most

caused : {contexts : ContextLimits} {D : Type 0} (seen : D → Seen) (old new : BrokerView D) (client number : ℕ) (bytes : List ℕ) (e : Entry) → old.began ≤ (seen old.device).faults
    → IsRefused contexts old new client number bytes e ⊎ (IsFaulted contexts seen old new client number bytes e ⊎ IsCarriedOut contexts seen old new client number bytes e)
    → lock.IsAnswered client number bytes e ⊎ lock.IsFailed old.began client number bytes e
caused seen old new client number bytes e low (inl is) = inl (subst (λ (x : Entry). lock.IsAnswered client number bytes x) (sym is.entry) refl)
caused seen old new client number bytes e low (inr (inl is)) =
    let rose = rose_since old.began (seen old.device).faults (seen new.device).faults low is.rose in
    inr (subst (λ (x : Entry). lock.IsFailed old.began client number bytes x) (sym is.entry) (record { form = refl; rose = rose }))
caused seen old new client number bytes e low (inr (inr is)) = inl (subst (λ (x : Entry). lock.IsAnswered client number bytes x) (sym is.entry) refl)

abbrev fixed_of : {D : Type 0} → ContextLimits → Option Origin → BrokerView D → Fixed
fixed_of contexts base b = record { base = base; limit = b.limit; began = b.began; contexts = contexts }

pub tells : (contexts : ContextLimits) {D : Type 0} (seen : D → Seen) (base : Option Origin) (told : Told) (old new : BrokerView D) (client number : ℕ) (bytes reply : List ℕ)
    → old.began ≤ (seen old.device).faults → (told ≡ tolds.Answer → base ≡ None)
    → BrokerTells contexts seen told old new client number bytes reply → lock.Tells (fixed_of contexts base old) old.journal new.journal client number bytes reply told
tells contexts {D = D} seen base tolds.Entered old new client number bytes reply low none is =
    record { e = is.e; entered = is.entered; cause = caused seen old new client number bytes is.e low is.cause; reply_is = is.reply_is; room = is.room }
tells contexts {D = D} seen base tolds.Memory old new client number bytes reply low none is = (ap (λ (b : BrokerView D). b.journal) is.0, is.1, is.2)
tells contexts {D = D} seen base (tolds.JournalFull count limit) old new client number bytes reply low none is =
    record { lacks = is.lacks; same = ap (λ (b : BrokerView D). b.journal) is.same; reply_is = is.reply_is; kept_is = is.kept_is; limit_is = is.limit_is }
tells contexts {D = D} seen base tolds.Answer old new client number bytes reply low none is = (is.0, is.1, none refl)

pub tells_canceled : (contexts : ContextLimits) {D : Type 0} (base : Option Origin) (told : Told) (old new : BrokerView D) (client number upto : ℕ) (bytes reply : List ℕ) → (told ≡ tolds.Answer → ⊥)
    → BrokerTellsCanceled told old new client number upto bytes reply → lock.TellsCanceled (fixed_of contexts base old) old.journal new.journal client number upto bytes reply told
tells_canceled contexts {D = D} base tolds.Entered old new client number upto bytes reply not is =
    record { entered = ap (λ (b : BrokerView D). b.journal) is.same; reply_is = is.reply_is; room = is.room }
tells_canceled contexts {D = D} base tolds.Memory old new client number upto bytes reply not is = absurd is
tells_canceled contexts {D = D} base (tolds.JournalFull count limit) old new client number upto bytes reply not is =
    record { lacks = is.lacks; same = ap (λ (b : BrokerView D). b.journal) is.same; reply_is = is.reply_is; kept_is = is.kept_is; limit_is = is.limit_is }
tells_canceled contexts {D = D} base tolds.Answer old new client number upto bytes reply not is = absurd (not refl)
