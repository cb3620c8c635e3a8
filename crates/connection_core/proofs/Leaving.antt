-- What both threads of a connection leave, put together.
use Rattle.std.proofs.Common.{◌≡◌, ℕ, Bool, List, [], Option, Some, None, refl, sym, ap, ◌∙◌}
use Rattle.history_spec.specs.Entry.{Entry}
use Rattle.broker_lock.specs.Known.{Origin}
use Rattle.crossbeam_channel.specs.Claims.{view}
use Rattle.link_port.specs.Port.{at_end}
use Rattle.broker_lock.specs.Pass.{PassView}
use Rattle.cancel_words.specs.View.{WordView}
use Rattle.connection_core.specs.declared.between.Between.{Between}
use Rattle.connection_core.specs.declared.between.Side.{Side}
use Rattle.connection_core.specs.declared.ends.Ending.{Ending}
use Rattle.connection_core.specs.declared.ends.Ending.TheVariants as endings
use Rattle.connection_core.specs.Leaves.{IsFinished, ReaderLeaves, WorkerLeaves}
use Rattle.connection_core.specs.Links.{HasEndingCause, IsClosedLink}
use Rattle.connection_core.specs.Works.{ended_by}
use Rattle.connection_core.proofs.Serving.{cause_both, closed_link, stopped_both}

pub closed_both : {legal : Origin → List Entry → Type 0} (between : Between) (reader worker : Side) (seat : WordView) (ending : Ending) (old new : PassView) (client done : ℕ) (given left written written_new : Option (List ℕ)) (faults faults_new sink_faults sink_faults_new : ℕ)
    → ReaderLeaves between reader given left faults faults_new → WorkerLeaves legal between worker ending old new client done written written_new sink_faults sink_faults_new → IsFinished reader worker seat
    → IsClosedLink legal ending new client done given left written written_new (Some seat)
closed_both between reader worker seat ending old new client done given left written written_new faults faults_new sink_faults sink_faults_new reads works finished =
    closed_link ending works.last new client done given left written written_new seat [] works.reply
    (stopped_both ending works.last client done reads.ended given left written written_new (view reader.pass).sent (view worker.pass).taken finished.items reader.seat.raised worker.seat.loaded seat reads.read works.worked finished.whole
    (ap (λ (v : WordView). v.role) finished.seat_is) (ap (λ (v : WordView). v.raised) finished.seat_is) (ap (λ (v : WordView). v.loaded) finished.seat_is) finished.each)
    works.closes

pub caused_both : {legal : Origin → List Entry → Type 0} (between : Between) (reader worker : Side) (seat : WordView) (ending : Ending) (old new : PassView) (client done : ℕ) (given left written written_new : Option (List ℕ)) (faults faults_new sink_faults sink_faults_new : ℕ)
    → ReaderLeaves between reader given left faults faults_new → WorkerLeaves legal between worker ending old new client done written written_new sink_faults sink_faults_new → IsFinished reader worker seat
    → HasEndingCause ending faults faults_new sink_faults sink_faults_new
caused_both between reader worker seat ending old new client done given left written written_new faults faults_new sink_faults sink_faults_new reads works finished =
    cause_both ending works.last client done reads.ended given left written written_new (view reader.pass).sent (view worker.pass).taken finished.items reader.seat.raised worker.seat.loaded faults faults_new sink_faults sink_faults_new
    reads.read works.worked finished.whole reads.counts works.counts

ended_twice : (ended : Option Bool) → at_end (at_end ended) ≡ at_end ended
ended_twice None = refl
ended_twice (Some ended) = refl

-- the sink is ended once the client is closed, whether it was ended before
pub ends_at_last : (ending : Ending) (ended : Option Bool) → at_end (ended_by ending ended) ≡ at_end ended
ends_at_last endings.EndOfInput ended = refl
ends_at_last (endings.BadFrame size) ended = refl
ends_at_last endings.ReadFault ended = refl
ends_at_last endings.WriteFault ended = ended_twice ended
ends_at_last endings.Memory ended = refl
ends_at_last (endings.JournalFull count limit) ended = refl
ends_at_last endings.Answer ended = refl

-- a client that there is isn't none
pub not_none : (client : Option ℕ) (n : ℕ) → client ≡ Some n → client ≡ None → ⊥
not_none client n is none = some_none n (sym is ∙ none)
  where
    some_none : (m : ℕ) → Some m ≡ None → ⊥
    some_none m e = cc e
