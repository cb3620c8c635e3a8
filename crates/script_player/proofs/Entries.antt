-- What became of a client's command, told of the history alone.
use Rattle.std.proofs.Common.{◌≡◌, ◌≤◌, ℕ, true, false, cond, arith, List, [], ◌∷◌, ◌++◌, Option, Some, None, Err, subst, sym, ◌∙◌, refl, inl, inr}
use Rattle.std.specs.Prelude.{◌⊎◌, nat_le, IfSome}
use Rattle.std.proofs.lemmas.Bool.Decides.{nat_tests}
use Rattle.tab_spec.specs.declared.TheConstants.{RC_DEVICE_ANSWER}
use Rattle.tab_spec.specs.Reply.{error_reply}
use Rattle.history_spec.specs.Cancels.{cover}
use Rattle.history_spec.specs.Entry.{Entry, HasRoom}
use Rattle.history_spec.specs.Told.{IsToldFull, IsToldMemory, Limits}
use Rattle.script_spec.specs.Plays.{IsEntryFor}
use Rattle.broker_lock.specs.Known.{Fixed, limits_of}
use Rattle.broker_lock.specs.Serves.{IsAnswered, IsFailed, Opens}
use Rattle.broker_lock.specs.declared.calls.OpenClientError.{OpenClientError}
use Rattle.broker_lock.specs.declared.calls.OpenClientError.TheVariants as open_errors
use Rattle.broker_lock.specs.declared.calls.Told.{Told as ToldOf}
use Rattle.broker_lock.specs.declared.calls.Told.TheVariants as tolds
use Rattle.script_player.specs.declared.stop.Stop.TheVariants as stops
use Rattle.script_player.specs.Play.{TellsFull, stop_unopened}
use Rattle.script_player.specs.Steps.{TellsOf}

-- a number that covers a command isn't below the command's
pub covers : (upto : Option ℕ) (number : ℕ) → IfSome (cover upto number) (λ most. number ≤ most)
covers None number = tt
covers (Some upto) number =
    elim (nat_le number upto) as (λ b. nat_le number upto ≡ b → IfSome (cond b (Some upto) None) (λ most. number ≤ most)) [
      | true ↦ λ is. grind (arith, nat_tests)
      | false ↦ λ is. tt
    ] refl

-- the entry of the command, for which there was room
pub record IsAdded (limit : ℕ) (old new : List Entry) (client number : ℕ) (bytes : List ℕ) (covered : Option ℕ) (reply : List ℕ) : Type 0 where
  pub e : Entry
  pub entered : new ≡ old ++ e ∷ []
  pub reply_is : reply ≡ e.reply
  pub entry : IsEntryFor client number bytes covered e
  pub room : HasRoom limit old bytes

-- what a client is told of a command, canceled up to a number or run, where a canceled one meets no wrong answer
abbrev pub ToldAs : Limits → ToldOf → (old new : List Entry) (client number : ℕ) (bytes : List ℕ) (covered : Option ℕ) (reply : List ℕ) → Type 0
ToldAs limit tolds.Entered old new client number bytes covered reply = IsAdded limit.bytes old new client number bytes covered reply
ToldAs limit tolds.Memory old new client number bytes covered reply = (new ≡ old) × IsToldMemory limit.contexts bytes reply
ToldAs limit (tolds.JournalFull count most) old new client number bytes covered reply = (new ≡ old) × IsToldFull limit.bytes old bytes reply
ToldAs limit tolds.Answer old new client number bytes covered reply =
    (new ≡ old) × (reply ≡ error_reply RC_DEVICE_ANSWER) × (covered ≡ None)

entry_for : (began client number : ℕ) (bytes : List ℕ) (e : Entry) → IsAnswered client number bytes e ⊎ IsFailed began client number bytes e → IsEntryFor client number bytes None e
entry_for began client number bytes e (inl is) =
    subst (λ (x : Entry). IsEntryFor client number bytes None x) (sym is) (record { client_is = refl; number_is = refl; kind_is = tt; command_is = refl })
entry_for began client number bytes e (inr is) =
    subst (λ (x : Entry). IsEntryFor client number bytes None x) (sym is.form) (record { client_is = refl; number_is = refl; kind_is = tt; command_is = refl })

told_as : (covered : Option ℕ) (fixed : Fixed) (told : ToldOf) (old new : List Entry) (client number : ℕ) (bytes reply : List ℕ) → (told ≡ tolds.Answer → covered ≡ None)
    → TellsOf covered fixed old new client number bytes reply told → ToldAs (limits_of fixed) told old new client number bytes covered reply
told_as None fixed tolds.Entered old new client number bytes reply run is =
    record { e = is.e; entered = is.entered; reply_is = is.reply_is; entry = entry_for fixed.began client number bytes is.e is.cause; room = is.room }
told_as None fixed tolds.Memory old new client number bytes reply run is = (is.0, is.1)
told_as None fixed (tolds.JournalFull count most) old new client number bytes reply run is = (is.same, record { reply_is = is.reply_is; lacks = is.lacks })
told_as None fixed tolds.Answer old new client number bytes reply run is = (is.0, is.1, refl)
told_as (Some upto) fixed tolds.Entered old new client number bytes reply run is =
    record { e = _; entered = is.entered; reply_is = refl; entry = record { client_is = refl; number_is = refl; kind_is = refl; command_is = refl }; room = is.room }
told_as (Some upto) fixed tolds.Memory old new client number bytes reply run is = absurd is
told_as (Some upto) fixed (tolds.JournalFull count most) old new client number bytes reply run is = (is.same, record { reply_is = is.reply_is; lacks = is.lacks })
told_as (Some upto) fixed tolds.Answer old new client number bytes reply run is = (is.0, is.1, run refl)

-- what is told of a label's client, by what the label tells
pub told_of_label : (fixed : Fixed) (told : ToldOf) (old new : List Entry) (counted_as : ℕ × ℕ) (client number : ℕ) (upto covered : Option ℕ) (bytes reply : List ℕ)
    → counted_as ≡ (client, number) → covered ≡ cover upto counted_as.1 → (told ≡ tolds.Answer → covered ≡ None)
    → TellsOf covered fixed old new counted_as.0 counted_as.1 bytes reply told → ToldAs (limits_of fixed) told old new client number bytes (cover upto number) reply
told_of_label fixed told old new counted_as client number upto covered bytes reply is covered_is run tells =
    subst (λ (p : ℕ × ℕ). ToldAs (limits_of fixed) told old new p.0 p.1 bytes (cover upto p.1) reply) is
    (subst (λ (c : Option ℕ). ToldAs (limits_of fixed) told old new counted_as.0 counted_as.1 bytes c reply) covered_is
    (told_as covered fixed told old new counted_as.0 counted_as.1 bytes reply run tells))

-- ---- an opening that failed

-- it enters nothing
pub opens_none : (fixed : Fixed) (old new : List Entry) (error : OpenClientError) → Opens fixed old new (Err error) → new ≡ old
opens_none fixed old new open_errors.Memory is = is.0
opens_none fixed old new (open_errors.JournalFull count most) is = is.same
opens_none fixed old new open_errors.Answer is = is.0

pub opens_full : (fixed : Fixed) (old new : List Entry) (error : OpenClientError) → Opens fixed old new (Err error) → TellsFull fixed.limit (stop_unopened error) old
opens_full fixed old new open_errors.Memory is count stop = absurd cc
opens_full fixed old new (open_errors.JournalFull count most) is number stop =
    let same : stops.Full count ≡ stops.Full number = stop in (sym (let c : count ≡ number = cc in c) ∙ is.kept_is, is.lacks)
opens_full fixed old new open_errors.Answer is count stop = absurd cc
