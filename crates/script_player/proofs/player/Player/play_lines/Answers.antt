use Rattle.std.proofs.Common.{◌+◌, ℕ, List, Ok, refl, ap, ◌∙◌, subst, arith}
use Rattle.broker_lock.specs.Known.{limits_of}
use Rattle.script_player.specs.declared.stop.Stop.TheVariants as stops
use Rattle.script_lines.specs.declared.reader.Line.TheVariants.{Text, End, TooLong}
use Rattle.script_lines.specs.Labels.{LabelsView}
use Rattle.script_lines.specs.Lines.{LinesView}
use Rattle.script_player.specs.Play.{Fits, IsPlayed}
use Rattle.script_player.specs.Steps.{EndsAt}
use Rattle.script_player.proofs.Playing.{fits_none}
use Rattle.script_player.proofs.Scripting.{has_played_none, has_played_on, played_stops, played_fails, pulled_none, pulled_on, pulled_all}
use Rattle.script_player.proofs.Stopped.{stopped_at}
use Rattle.script_player.proofs.Keeping.{keeps_on, stops_after, not_failed}
use Rattle.script_player.proofs.player.Player.play_lines.Goals as goal

pub loop-input-init : goal.loop-input-init
loop-input-init g c =
    let starts = c.requires.starts in
    let room = ap (λ (v : LinesView). v.room) c.requires.fresh in
    let pending = ap (λ (v : LinesView). v.pending) c.requires.fresh in
    let fits : Fits c.args.self.now.labels (g.B.Recorded.history c.args.self.now.value) = rw starts.history_is (fits_none c.args.self.now.labels starts.labels_are) in
    record {
      behind = record {
        ready = record { fits = fits; sound = starts.sound };
        few = rw starts.labels_are (omega arith);
        small = rw starts.labels_are tt;
      };
      kept = record { fixed_is = refl; fits = fits };
      bound = omega (arith, room);
      capacity = c.requires.text;
      output_count = refl;
      input_count = refl;
      pulled = pulled_none _ c.args.lines.now;
      ahead = rw c.requires.fresh (omega arith);
      played = has_played_none (limits_of (g.B.Recorded.fixed c.args.self.now.value)) _ _ _ _ _ _ _ starts.labels_are starts.history_is (omega arith) room pending;
    }

pub returns-in-Ok-End-clause-played : goal.returns-in-Ok-End-clause-played
returns-in-Ok-End-clause-played g c even =
    let read = rw c.in-Ok-End.field-0-is at c.in-Ok-End.ensures.read in
    played_stops (limits_of (g.B.Recorded.fixed c.args.self.now.value)) stops.End _ _ _ c.loop-input.lines c.next.new.self _ _ (g.I.Source.left c.next.new.input) _ _ c.next.new.text.items End c.loop-input.invariant.played read tt (λ count is. absurd cc)

pub returns-in-Ok-TooLong-clause-played : goal.returns-in-Ok-TooLong-clause-played
returns-in-Ok-TooLong-clause-played g c even =
    let read = rw c.in-Ok-TooLong.field-0-is at c.in-Ok-TooLong.ensures.read in
    played_stops (limits_of (g.B.Recorded.fixed c.args.self.now.value)) (stops.BadLine (c.loop-input.played + 1)) _ _ _ c.loop-input.lines c.next.new.self _ _ (g.I.Source.left c.next.new.input) _ _ c.next.new.text.items TooLong c.loop-input.invariant.played read refl (λ count is. absurd cc)

pub returns-in-Err-play_line-clause-played : goal.returns-in-Err-play_line-clause-played
returns-in-Err-play_line-clause-played g c even =
    let read = rw c.in-Ok-Text.field-0-is at c.in-Ok-Text.ensures.read in
    let ends = subst (λ (t : List ℕ). EndsAt (limits_of (g.B.Recorded.fixed c.loop-input.self.value)) c.in-Err-play_line.stop t c.loop-input.played c.loop-input.self.labels c.play_line.new.self.labels (g.B.Recorded.history c.loop-input.self.value) (g.B.Recorded.history c.play_line.new.self.value)
    (g.O.Sink.written c.loop-input.output) (g.O.Sink.written c.play_line.new.output) (g.B.Recorded.wrong c.play_line.new.self.value)) c.deref.ensures.value c.in-Err-play_line.ensures.ends in
    let unplayed = ends.even even in
    rw (ap (λ (v : LabelsView). v.present) unplayed.labels_are, unplayed.history_is, unplayed.written_is)
    (played_stops (limits_of (g.B.Recorded.fixed c.args.self.now.value)) c.in-Err-play_line.stop _ _ _ c.loop-input.lines c.next.new.self _ _ (g.I.Source.left c.next.new.input) _ _ c.next.new.text.items Text c.loop-input.invariant.played read
    (stops_after c.in-Err-play_line.stop c.next.new.text.items c.loop-input.played c.loop-input.self.labels ends.of_line) (rw c.loop-input.invariant.kept.fixed_is at ends.full))

pub loop-input-preserved : goal.loop-input-preserved
loop-input-preserved g c =
    let read = rw c.in-Ok-Text.field-0-is at c.in-Ok-Text.ensures.read in
    let less = c.in-Ok-Text.ensures.room (ap Ok c.in-Ok-Text.field-0-is) in
    let line = subst (λ (t : List ℕ). IsPlayed (limits_of (g.B.Recorded.fixed c.loop-input.self.value)) t c.loop-input.self.labels (g.B.Recorded.history c.loop-input.self.value) c.play_line.new.self.labels (g.B.Recorded.history c.play_line.new.self.value) (g.O.Sink.written c.loop-input.output) (g.O.Sink.written c.play_line.new.output)) c.deref.ensures.value c.in_default.ensures.played in
    record {
      behind = c.in_default.ensures.behind;
      kept = keeps_on c.loop-input.invariant.kept c.in_default.ensures.kept;
      bound = omega (arith, less, c.loop-input.invariant.bound);
      capacity = c.in-Ok-Text.ensures.capacity;
      output_count = c.in_default.ensures.outcome.counts.quiet ∙ c.loop-input.invariant.output_count;
      input_count = c.in-Ok-Text.ensures.quiet ∙ c.loop-input.invariant.input_count;
      pulled = pulled_on _ _ _ _ c.loop-input.lines c.next.new.self c.loop-input.invariant.pulled c.in-Ok-Text.ensures.pulled;
      ahead = c.in-Ok-Text.ensures.ahead;
      played = has_played_on (limits_of (g.B.Recorded.fixed c.args.self.now.value)) c.loop-input.self.labels (g.B.Recorded.history c.loop-input.self.value) c.play_line.new.self.labels (g.B.Recorded.history c.play_line.new.self.value) (c.loop-input.played + 1) c.loop-input.lines c.next.new.self _ _ _ _ _ _ c.next.new.text.items c.loop-input.invariant.played read (rw c.loop-input.invariant.kept.fixed_is at line);
    }

pub returns-in-Err-clause-played : goal.returns-in-Err-clause-played
returns-in-Err-clause-played g c even =
    played_fails (limits_of (g.B.Recorded.fixed c.args.self.now.value)) c.fault_count.result _ _ _ c.loop-input.lines _ _ (g.I.Source.left c.next.new.input) _ _ c.loop-input.invariant.played c.in-Err.ensures.cut

pub returns-in-Err-play_line-clause-stopped : goal.returns-in-Err-play_line-clause-stopped
returns-in-Err-play_line-clause-stopped g c of_run =
    let read = rw c.in-Ok-Text.field-0-is at c.in-Ok-Text.ensures.read in
    let ends = subst (λ (t : List ℕ). EndsAt (limits_of (g.B.Recorded.fixed c.loop-input.self.value)) c.in-Err-play_line.stop t c.loop-input.played c.loop-input.self.labels c.play_line.new.self.labels (g.B.Recorded.history c.loop-input.self.value) (g.B.Recorded.history c.play_line.new.self.value)
    (g.O.Sink.written c.loop-input.output) (g.O.Sink.written c.play_line.new.output) (g.B.Recorded.wrong c.play_line.new.self.value)) c.deref.ensures.value c.in-Err-play_line.ensures.ends in
    stopped_at (limits_of (g.B.Recorded.fixed c.args.self.now.value)) c.in-Err-play_line.stop c.loop-input.self.labels (g.B.Recorded.history c.loop-input.self.value) c.play_line.new.self.labels.present (g.B.Recorded.history c.play_line.new.self.value) (c.loop-input.played + 1) c.loop-input.lines c.next.new.self _ _ (g.I.Source.left c.next.new.input) _ _ _ c.next.new.text.items _ c.loop-input.invariant.played read (rw c.loop-input.invariant.kept.fixed_is at (ends.stopped of_run))

pub returns-in-Err-play_line-clause-kept : goal.returns-in-Err-play_line-clause-kept
returns-in-Err-play_line-clause-kept g c = keeps_on c.loop-input.invariant.kept c.play_line.ensures.kept

pub returns-in-Err-clause-pulled : goal.returns-in-Err-clause-pulled
returns-in-Err-clause-pulled g c =
    pulled_all (stops.Input c.fault_count.result) _ _ _ c.next.new.self (pulled_on _ _ _ _ c.loop-input.lines c.next.new.self c.loop-input.invariant.pulled c.in-Err.ensures.pulled) c.requires.fresh c.in-Err.ensures.ahead (λ is. c.in-Err.ensures.ended)

pub returns-in-Ok-End-clause-pulled : goal.returns-in-Ok-End-clause-pulled
returns-in-Ok-End-clause-pulled g c =
    pulled_all stops.End _ _ _ c.next.new.self (pulled_on _ _ _ _ c.loop-input.lines c.next.new.self c.loop-input.invariant.pulled c.in-Ok-End.ensures.pulled) c.requires.fresh c.in-Ok-End.ensures.ahead (λ is. absurd is)

pub returns-in-Ok-TooLong-clause-pulled : goal.returns-in-Ok-TooLong-clause-pulled
returns-in-Ok-TooLong-clause-pulled g c =
    pulled_all (stops.BadLine (c.loop-input.played + 1)) _ _ _ c.next.new.self (pulled_on _ _ _ _ c.loop-input.lines c.next.new.self c.loop-input.invariant.pulled c.in-Ok-TooLong.ensures.pulled) c.requires.fresh c.in-Ok-TooLong.ensures.ahead (λ is. absurd is)

pub returns-in-Err-play_line-clause-pulled : goal.returns-in-Err-play_line-clause-pulled
returns-in-Err-play_line-clause-pulled g c =
    pulled_all c.in-Err-play_line.stop _ _ _ c.next.new.self (pulled_on _ _ _ _ c.loop-input.lines c.next.new.self c.loop-input.invariant.pulled c.in-Ok-Text.ensures.pulled) c.requires.fresh c.in-Ok-Text.ensures.ahead
    (λ is. absurd (not_failed c.in-Err-play_line.stop c.deref.result.now c.loop-input.played c.loop-input.self.labels c.in-Err-play_line.ensures.ends.of_line is))
