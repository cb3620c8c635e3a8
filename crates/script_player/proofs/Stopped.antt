-- What was played when a failed write or a wrong answer stopped it.
use Rattle.std.proofs.Common.{◌≡◌, ℕ, Bool, true, false, cond, eqb, List, [], ◌∷◌, ◌++◌, Option, refl, sym, ap, subst, ◌∙◌, append_assoc}
use Rattle.std.specs.Prelude.{map}
use Rattle.history_spec.specs.Entry.{Entry, without}
use Rattle.history_spec.specs.Told.{Limits}
use Rattle.script_spec.specs.Script.{script}
use Rattle.script_spec.specs.Calls.{Call, opening, command, bad_size, closing, calls_from, labels_from}
use Rattle.script_spec.specs.Plays.{LabelHolder, Stage, Plays1, PlaysTo, without_label, at_start}
use Rattle.script_lines.specs.declared.label.Label.{Label}
use Rattle.script_player.specs.declared.stop.Stop.{Stop}
use Rattle.script_lines.specs.declared.reader.Line.TheVariants.{Text}
use Rattle.script_lines.specs.Labels.{LabelsView}
use Rattle.script_lines.specs.Lines.{LinesView, ReadNext}
use Rattle.script_player.specs.Play.{stage, calls_on, HasPlayed, holder_of}
use Rattle.script_player.specs.Stops.{Unanswered, last_calls, last_line, AreFirstCalls, WritesByStop, LineStopped, StoppedAt}
use Rattle.script_player.proofs.Playing.{plays_on}
use Rattle.script_player.proofs.Stopping.{has_last_behind, writes_behind}
use Rattle.script_player.proofs.Scripting.{labels_from-append, calls_are, to_come_on, come_to}

-- ---- who is open

abbrev names_of : List LabelHolder → List ℕ
names_of holders = map (λ h. h.label) holders

names-push : (holders : List LabelHolder) (h : LabelHolder) → names_of (holders ++ h ∷ []) ≡ names_of holders ++ h.label ∷ []
names-push [] h = refl
names-push (x ∷ holders) h = ap (λ (ns : List ℕ). x.label ∷ ns) (names-push holders h)

names-without : (label : ℕ) (holders : List LabelHolder) → names_of (without_label label holders) ≡ without label (names_of holders)
names-without label [] = refl
names-without label (x ∷ holders) =
    elim (eqb x.label label) as (λ b. names_of (cond b holders (x ∷ without_label label holders)) ≡ cond b (names_of holders) (x.label ∷ without label (names_of holders))) [
      | true ↦ refl
      | false ↦ ap (λ (ns : List ℕ). x.label ∷ ns) (names-without label holders)
    ]

names_played : (limit : Limits) (call : Call) (before after : Stage) → Plays1 limit before call after → names_of after.holders ≡ labels_from (names_of before.holders) (call ∷ [])
names_played limit (opening label) before after plays = ap (λ (s : Stage). names_of s.holders) plays.1 ∙ names-push before.holders _
names_played limit (command label number bytes covered) before after plays = ap names_of plays.holders
names_played limit (bad_size label) before after plays = ap (λ (s : Stage). names_of s.holders) plays.2
names_played limit (closing label) before after plays = ap (λ (s : Stage). names_of s.holders) plays.2 ∙ names-without label before.holders

names_led : (limit : Limits) (calls : List Call) (before after : Stage) → PlaysTo limit before calls after → names_of after.holders ≡ labels_from (names_of before.holders) calls
names_led limit [] before after plays = ap (λ (s : Stage). names_of s.holders) plays
names_led limit (call ∷ calls) before after plays =
    names_led limit calls plays.0 after plays.2 ∙ ap (λ (ns : List ℕ). labels_from ns calls) (names_played limit call before plays.0 plays.1)

names_are : (labels : List Label) → names_of (map holder_of labels) ≡ map (λ x. x.label) labels
names_are [] = refl
names_are (x ∷ labels) = ap (λ (ns : List ℕ). x.label ∷ ns) (names_are labels)

-- ---- one line more

first_of : (done made rest left calls : List Call) (last : Option Unanswered) (all : List ℕ) → calls ≡ (made ++ last_calls last) ++ left → calls_from [] (script all).items ≡ (done ++ calls) ++ rest → AreFirstCalls (done ++ made) last all
first_of done made rest left calls last all is_calls is_all = (
  left ++ rest,
  is_all ∙ ap (λ (cs : List Call). (done ++ cs) ++ rest) is_calls ∙ append_assoc done ((made ++ last_calls last) ++ left) rest ∙ ap (λ (cs : List Call). done ++ cs) (append_assoc (made ++ last_calls last) left rest)
      ∙ sym (append_assoc done (made ++ last_calls last) (left ++ rest)) ∙ ap (λ (cs : List Call). cs ++ (left ++ rest)) (sym (append_assoc done made (last_calls last))),
)

pub stopped_at : (limit : Limits) (stop : Stop) (labels : LabelsView) (history : List Entry) (labels_new : List Label) (history_new : List Entry) (number : ℕ) (old new : LinesView) (given left left_new start written written_new : Option (List ℕ)) (text : List ℕ) (wrong : Bool)
    → HasPlayed limit labels history number old.room old.pending given left start written → ReadNext Text old left text new left_new → LineStopped limit stop text labels history labels_new history_new written written_new wrong
    → StoppedAt limit stop labels_new history_new given start written_new wrong
stopped_at limit stop labels history labels_new history_new number old new given left left_new start written written_new text wrong so_far next line =
    let calls = calls_on labels line.item in
    let at = line.stopped in
    let on = to_come_on so_far.done so_far.streams number old new given left left_new text line.item calls so_far.to_come next line.item_is (calls_are labels so_far.streams line.item so_far.carries) in
    let names = sym (names_are labels_new) ∙ names_led limit at.made (stage labels.present history so_far.output) (stage labels_new history_new (so_far.output ++ at.more)) (at.leads so_far.output) ∙ ap (λ (ns : List ℕ). labels_from ns at.made) (names_are labels.present) in
    record {
      done = so_far.done ++ at.made;
      last = at.last;
      output = so_far.output ++ at.more;
      plays = plays_on limit at_start (stage labels.present history so_far.output) (stage labels_new history_new (so_far.output ++ at.more)) so_far.done at.made so_far.plays (at.leads so_far.output);
      left_open = labels_from-append [] so_far.done at.made ∙ ap (λ (ns : List ℕ). labels_from ns at.made) so_far.left_open ∙ sym names;
      writes = subst (λ (bytes : List ℕ). WritesByStop stop bytes start written_new) (sym (append_assoc so_far.output at.more (last_line at.last)))
          (writes_behind stop so_far.output (at.more ++ last_line at.last) start written written_new so_far.written_is at.writes);
      has_last = has_last_behind stop so_far.done at.made at.last wrong at.has_last;
      first = λ all is_given. let was = on all is_given in first_of so_far.done at.made _ at.left calls at.last all at.calls_are (come_to _ _ _ _ _ all was.0 was.2).items;
    }
