use Rattle.std.proofs.Common.{◌≡◌, ℕ, List, Option, Some, ap, sym, subst, ◌∙◌, arith}
use Rattle.std.proofs.lemmas.Result.{on_ok_weaker}
use Rattle.broker_lock.specs.Known.{limits_of}
use Rattle.script_spec.specs.Script.{item_of, piece, close}
use Rattle.script_lines.specs.declared.lines.LineItem.{LineItem}
use Rattle.script_lines.specs.LineItem.{item_said}
use Rattle.script_lines.specs.Labels.{LabelsView}
use Rattle.tab_laws.proofs.Outcomes.{if_err_weaker, on_ok_both}
use Rattle.script_player.proofs.Relabeling.{no_client, has_client}
use Rattle.script_player.specs.declared.stop.Stop.{Stop}
use Rattle.script_player.specs.Steps.{EndsAt}
use Rattle.script_player.proofs.Lining.{stopped_line_close, opened_at, played_piece, stopped_piece, played_close, played_no_close, small-line, small-closed, small_before, small_piece, few_piece}
use Rattle.script_player.proofs.Keeping.{if_err_both, keeps_on, not_even, not_full, of_command}
use Rattle.script_player.proofs.player.Player.play_line.Goals as goal

pub returns-then-is_none-clause-played : goal.returns-then-is_none-clause-played
returns-then-is_none-clause-played g c =
    let label = c.in-Some-Close.label in
    let item : item_of c.args.text.now ≡ Some (close label) = c.read_line.ensures ∙ ap (λ (r : Option LineItem). item_said r c.read_line.new.into) (c.in-Some-Close.is ∙ ap Some c.in-Some-Close.field-0-is) in
    played_no_close (limits_of (g.B.Recorded.fixed c.args.self.now.value)) c.args.text.now c.args.self.now.labels (g.B.Recorded.history c.args.self.now.value) (g.O.Sink.written c.args.output.now) label item (no_client _ _ c.client.ensures c.if-is_none.ensures)

pub returns-then-is_none-clause-behind : goal.returns-then-is_none-clause-behind
returns-then-is_none-clause-behind g c =
    let behind = c.requires.behind in
    record { ready = behind.ready; few = omega (arith, behind.few); small = small-line c.args.self.now.labels.present c.args.played behind.small }

pub returns-else-is_none-clause-played : goal.returns-else-is_none-clause-played
returns-else-is_none-clause-played g c =
    let label = c.in-Some-Close.label in
    let item : item_of c.args.text.now ≡ Some (close label) = c.read_line.ensures ∙ ap (λ (r : Option LineItem). item_said r c.read_line.new.into) (c.in-Some-Close.is ∙ ap Some c.in-Some-Close.field-0-is) in
    let found = has_client _ _ c.client.ensures c.if-is_none.ensures in
    on_ok_weaker c.close_label.result (λ sound.
    played_close (limits_of (g.B.Recorded.fixed c.args.self.now.value)) c.args.text.now c.args.self.now.labels c.close_label.new.self.labels (g.B.Recorded.history c.args.self.now.value) (g.B.Recorded.history c.close_label.new.self.value) (g.O.Sink.written c.args.output.now) label found.0 item found.1
    c.close_label.ensures.labels c.close_label.ensures.leads) c.close_label.ensures.sound

pub returns-else-is_none-clause-behind : goal.returns-else-is_none-clause-behind
returns-else-is_none-clause-behind g c =
    let behind = c.requires.behind in
    let kept = c.close_label.ensures.kept in
    let labels_are = c.close_label.ensures.labels in
    on_ok_weaker c.close_label.result (λ sound. record {
      ready = record { fits = kept.fits; sound = sound };
      few = omega (arith, ap (λ (v : LabelsView). v.opened) labels_are, behind.few);
      small = rw labels_are (small-closed c.args.self.now.labels.present c.in-Some-Close.label c.args.played behind.small);
    }) c.close_label.ensures.sound

pub returns-else-is_none-clause-ends : goal.returns-else-is_none-clause-ends
returns-else-is_none-clause-ends g c =
    let label = c.in-Some-Close.label in
    let item : item_of c.args.text.now ≡ Some (close label) = c.read_line.ensures ∙ ap (λ (r : Option LineItem). item_said r c.read_line.new.into) (c.in-Some-Close.is ∙ ap Some c.in-Some-Close.field-0-is) in
    let found = has_client _ _ c.client.ensures c.if-is_none.ensures in
    let written = g.O.Sink.written c.args.output.now in
    if_err_weaker c.close_label.result (λ stop is_wrong.
    subst (λ (s : Stop). EndsAt (limits_of (g.B.Recorded.fixed c.args.self.now.value)) s c.args.text.now c.args.played c.args.self.now.labels c.close_label.new.self.labels (g.B.Recorded.history c.args.self.now.value) (g.B.Recorded.history c.close_label.new.self.value) written written (g.B.Recorded.wrong c.close_label.new.self.value)) (sym is_wrong.0) (record {
      of_line = tt;
      even = λ even. absurd even;
      full = λ count is. absurd cc;
      stopped = λ of_run.
          stopped_line_close (limits_of (g.B.Recorded.fixed c.args.self.now.value)) c.args.text.now c.args.self.now.labels c.close_label.new.self.labels.present (g.B.Recorded.history c.args.self.now.value) (g.B.Recorded.history c.close_label.new.self.value) written (g.B.Recorded.wrong c.close_label.new.self.value) label found.0 item found.1
          c.close_label.ensures.leads;
    })) c.close_label.ensures.err

pub play_piece-requires-clause-is_open : goal.play_piece-requires-clause-is_open
play_piece-requires-clause-is_open g c =
    let label = c.in-Some-Piece.label in
    let bytes = c.as_slice.result.now in
    let opened_is = c.in_ok-open_label-in-Some-Piece.ensures.labels in
    let le = small_before c.args.self.now.labels c.open_label.new.self.labels label c.args.played bytes c.requires.behind.small opened_is c.as_slice.ensures.most in
    rw (opened_at c.args.self.now.labels c.open_label.new.self.labels label opened_is) (omega (arith, le, c.requires.more))

pub returns-in_ok-open_label-in-Some-Piece-clause-played : goal.returns-in_ok-open_label-in-Some-Piece-clause-played
returns-in_ok-open_label-in-Some-Piece-clause-played g c =
    let label = c.in-Some-Piece.label in
    let bytes = c.as_slice.result.now in
    let opened_is = c.in_ok-open_label-in-Some-Piece.ensures.labels in
    let item : item_of c.args.text.now ≡ Some (piece label bytes) = c.read_line.ensures ∙ ap (λ (r : Option LineItem). item_said r c.read_line.new.into) (c.in-Some-Piece.is ∙ ap Some c.in-Some-Piece.field-0-is) ∙ ap (λ (b : List ℕ). Some (piece label b)) (sym c.as_slice.ensures.same) in
    on_ok_weaker c.play_piece.result (λ both.
    played_piece (limits_of (g.B.Recorded.fixed c.args.self.now.value)) c.args.text.now c.args.self.now.labels c.open_label.new.self.labels c.play_piece.new.self.labels (g.B.Recorded.history c.args.self.now.value) (g.B.Recorded.history c.open_label.new.self.value) (g.B.Recorded.history c.play_piece.new.self.value)
    (g.O.Sink.written c.args.output.now) (g.O.Sink.written c.play_piece.new.output) label bytes item opened_is c.in_ok-open_label-in-Some-Piece.ensures.leads both.0 (rw c.open_label.ensures.kept.fixed_is at both.1))
    (on_ok_both c.play_piece.result _ _ c.play_piece.ensures.labels c.play_piece.ensures.ok)

pub returns-in_ok-open_label-in-Some-Piece-clause-behind : goal.returns-in_ok-open_label-in-Some-Piece-clause-behind
returns-in_ok-open_label-in-Some-Piece-clause-behind g c =
    let label = c.in-Some-Piece.label in
    let bytes = c.as_slice.result.now in
    let behind = c.requires.behind in
    let opened_is = c.in_ok-open_label-in-Some-Piece.ensures.labels in
    on_ok_weaker c.play_piece.result (λ both. record {
      ready = record { fits = c.play_piece.ensures.kept.fits; sound = both.1 };
      few = few_piece c.args.self.now.labels c.open_label.new.self.labels c.play_piece.new.self.labels label c.args.played bytes behind.few opened_is both.0;
      small = small_piece c.args.self.now.labels c.open_label.new.self.labels c.play_piece.new.self.labels label c.args.played bytes behind.small opened_is c.as_slice.ensures.most both.0;
    }) (on_ok_both c.play_piece.result _ _ c.play_piece.ensures.labels c.play_piece.ensures.outcome.sound)

pub returns-in_ok-open_label-in-Some-Piece-clause-ends : goal.returns-in_ok-open_label-in-Some-Piece-clause-ends
returns-in_ok-open_label-in-Some-Piece-clause-ends g c =
    let label = c.in-Some-Piece.label in
    let bytes = c.as_slice.result.now in
    let opened_is = c.in_ok-open_label-in-Some-Piece.ensures.labels in
    let item : item_of c.args.text.now ≡ Some (piece label bytes) = c.read_line.ensures ∙ ap (λ (r : Option LineItem). item_said r c.read_line.new.into) (c.in-Some-Piece.is ∙ ap Some c.in-Some-Piece.field-0-is) ∙ ap (λ (b : List ℕ). Some (piece label b)) (sym c.as_slice.ensures.same) in
    if_err_weaker c.play_piece.result (λ stop both. record {
      of_line = of_command stop c.args.text.now c.args.played c.args.self.now.labels both.0;
      even = λ even. absurd (not_even stop both.0 even);
      full = not_full (limits_of (g.B.Recorded.fixed c.args.self.now.value)) stop (g.B.Recorded.history c.args.self.now.value) both.0;
      stopped = λ of_run.
          stopped_piece (limits_of (g.B.Recorded.fixed c.args.self.now.value)) stop c.args.text.now c.args.self.now.labels c.open_label.new.self.labels c.play_piece.new.self.labels.present (g.B.Recorded.history c.args.self.now.value) (g.B.Recorded.history c.open_label.new.self.value) (g.B.Recorded.history c.play_piece.new.self.value)
          (g.O.Sink.written c.args.output.now) (g.O.Sink.written c.play_piece.new.output) (g.B.Recorded.wrong c.play_piece.new.self.value) label bytes item opened_is c.in_ok-open_label-in-Some-Piece.ensures.leads (rw c.open_label.ensures.kept.fixed_is at both.1);
    }) (if_err_both c.play_piece.result _ _ c.play_piece.ensures.err c.play_piece.ensures.stopped)

pub returns-in_ok-open_label-in-Some-Piece-clause-kept : goal.returns-in_ok-open_label-in-Some-Piece-clause-kept
returns-in_ok-open_label-in-Some-Piece-clause-kept g c = keeps_on c.open_label.ensures.kept c.play_piece.ensures.kept
