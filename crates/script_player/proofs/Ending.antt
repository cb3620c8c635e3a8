-- What a script that was played leaves, once its clients are closed.
use Rattle.std.proofs.Common.{◌≡◌, ℕ, Bool, false, List, [], ◌∷◌, ◌++◌, Option, Some, None, inl, inr, refl, sym, ap, subst, ◌∙◌, append_assoc}
use Rattle.std.specs.Prelude.{◌⊎◌, map, is_some, IfSome, IsSome, IsSomeAnd, IsTrue, true}
use Rattle.std.specs.List.{AllByRecursion}
use Rattle.std.proofs.lemmas.List.{append-nil}
use Rattle.history_spec.specs.Entry.{Entry, close_entry, is_close_kind}
use Rattle.history_spec.specs.Told.{Limits}
use Rattle.script_spec.specs.Script.{script, end, bad_line}
use Rattle.script_spec.specs.Calls.{Call, opening, closing, calls_from, labels_from, with_closes}
use Rattle.script_spec.specs.Plays.{PlaysTo, Plays, Stage, at_start}
use Rattle.script_lines.specs.declared.label.Label.{Label}
use Rattle.script_player.specs.declared.stop.Stop.{Stop}
use Rattle.script_player.specs.declared.stop.Stop.TheVariants as stops
use Rattle.script_player.specs.Play.{AreOfWholeLines, IsEven, IsOfRun, Leads, PlayedUpTo, holder_of, stage}
use Rattle.script_player.specs.Stops.{Unanswered, AreFirstCalls, EndsInClose, StoppedAt}
use Rattle.script_player.specs.Ends.{LeavesBy, LeavesCut, LeavesEarly, LeavesFull, LeavesPart, LeavesRead, LeavesWhole, Makes}
use Rattle.script_player.proofs.Playing.{plays_on}

-- calls, and then the closes of all labels, lead to a history of nobody open
pub all_closed : (limit : Limits) (labels : List Label) (history after : List Entry) (done : List Call) (output : List ℕ) → PlaysTo limit at_start done (stage labels history output) → labels_from [] done ≡ map (λ x. x.label) labels
    → Leads limit labels history (map closing (map (λ x. x.label) labels)) [] after [] → Plays after limit (with_closes done) output
all_closed limit labels history after done output plays left_open closes =
    let closed = subst (λ (ns : List ℕ). PlaysTo limit at_start (done ++ map closing ns) (stage [] after (output ++ []))) (sym left_open)
    (plays_on limit at_start (stage labels history output) (stage [] after (output ++ [])) done (map closing (map (λ x. x.label) labels)) plays (closes output)) in
    ([], subst (λ (out : List ℕ). PlaysTo limit at_start (with_closes done) (stage [] after out)) (append-nil output) closed)

pub if_given : (given : Option (List ℕ)) (P : List ℕ → Type 0) → ((all : List ℕ) → given ≡ Some all → P all) → IfSome given P
if_given None P told = tt
if_given (Some all) P told = told all refl

makes_closed : (limit : Limits) (stop : Stop) (labels : List Label) (history after : List Entry) (given left written written_new : Option (List ℕ)) (played : PlayedUpTo limit stop labels history given left written written_new)
    → Leads limit labels history (map closing (map (λ x. x.label) labels)) [] after [] → Makes limit false played.done written written_new after
makes_closed limit stop labels history after given left written written_new played closes = record {
  output = played.output;
  written_is = played.written_is;
  plays = all_closed limit labels history after played.done played.output played.plays played.left_open closes;
}

whole_told : (limit : Limits) (stop : Stop) (labels : List Label) (history after : List Entry) (given left written written_new : Option (List ℕ)) (played : PlayedUpTo limit stop labels history given left written written_new)
    → Leads limit labels history (map closing (map (λ x. x.label) labels)) [] after [] → ((all : List ℕ) → given ≡ Some all → calls_from [] (script all).items ≡ played.done) → LeavesWhole limit false given written written_new after
whole_told limit stop labels history after given left written written_new played closes made =
    (played.done, if_given given (λ all. calls_from [] (script all).items ≡ played.done) made, makes_closed limit stop labels history after given left written written_new played closes)

part_told : (limit : Limits) (labels : List Label) (history after : List Entry) (given left written written_new : Option (List ℕ)) (played : PlayedUpTo limit stops.Memory labels history given left written written_new)
    → Leads limit labels history (map closing (map (λ x. x.label) labels)) [] after [] → LeavesPart limit false given written written_new after
part_told limit labels history after given left written written_new played closes =
    (played.done, if_given given (λ all. (label : ℕ) × (more : List Call) × (calls_from [] (script all).items ≡ played.done ++ opening label ∷ more)) played.stopped, makes_closed limit stops.Memory labels history after given left written written_new played closes)

-- the closes of labels add closes alone
closes_alone : (limit : Limits) (labels : List ℕ) (before after : Stage) → PlaysTo limit before (map closing labels) after
    → (closes : List Entry) × (after.history ≡ before.history ++ closes) × AllByRecursion (λ e. is_close_kind e.kind ≡ true) closes
closes_alone limit [] before after plays = ([], ap (λ (s : Stage). s.history) plays ∙ sym (append-nil before.history), tt)
closes_alone limit (label ∷ labels) before after plays =
    let later = closes_alone limit labels plays.0 after plays.2 in
    let e = close_entry plays.1.0 in (
      e ∷ later.0,
      later.1 ∙ ap (λ (s : Stage). s.history ++ later.0) plays.1.2 ∙ append_assoc before.history (e ∷ []) later.0,
      (refl, later.2),
    )

full_told : (limit : Limits) (count : ℕ) (labels : List Label) (history after : List Entry) (given left written written_new : Option (List ℕ)) (played : PlayedUpTo limit (stops.Full count) labels history given left written written_new)
    → Leads limit labels history (map closing (map (λ x. x.label) labels)) [] after [] → LeavesFull limit false given written written_new count after
full_told limit count labels history after given left written written_new played closes =
    let closing_entries = closes_alone limit (map (λ x. x.label) labels) (stage labels history []) (stage [] after []) (closes []) in
    let told = played.full count refl in (
      played.done,
      if_given given (λ all. (label : ℕ) × (more : List Call) × (calls_from [] (script all).items ≡ played.done ++ opening label ∷ more)) played.stopped,
      makes_closed limit (stops.Full count) labels history after given left written written_new played closes,
      record {
        before = history;
        closes = closing_entries.0;
        holders = map holder_of labels;
        output = played.output;
        plays = played.plays;
        history_is = closing_entries.1;
        closed = closing_entries.2;
        kept_is = told.0;
        lacks = told.1;
      },
    )

read_told : (limit : Limits) (labels : List Label) (history after : List Entry) (given left written written_new : Option (List ℕ)) (count : ℕ) (played : PlayedUpTo limit (stops.Input count) labels history given left written written_new)
    → Leads limit labels history (map closing (map (λ x. x.label) labels)) [] after [] → LeavesRead limit false given left written written_new after
read_told limit labels history after given left written written_new count played closes = (
  played.done,
  if_given given (λ all. IsSomeAnd left (λ rest. AreOfWholeLines played.done all rest)) (λ all is_given. let told = played.stopped all is_given in subst (λ (l : Option (List ℕ)). IsSomeAnd l (λ rest. AreOfWholeLines played.done all rest)) (sym told.1) told.2),
  makes_closed limit (stops.Input count) labels history after given left written written_new played closes,
)

last_answered : (done : List Call) (last : Option Unanswered) → IsSome last ⊎ EndsInClose done → last ≡ None → EndsInClose done
last_answered done last (inl some) none = absurd (let yes : is_some last ≡ true = some in let no : is_some last ≡ false = ap is_some none in cc)
last_answered done last (inr closes) none = closes

early_told : (limit : Limits) (labels : List Label) (history after : List Entry) (given written written_new : Option (List ℕ)) (wrong : Bool) → StoppedAt limit stops.Answer labels history given written written_new wrong
    → Leads limit labels history (map closing (map (λ x. x.label) labels)) [] after [] → LeavesEarly limit given written written_new after
early_told limit labels history after given written written_new wrong at closes = (
  at.done,
  at.last,
  (λ none. last_answered at.done at.last at.has_last none),
  if_given given (λ all. AreFirstCalls at.done at.last all) at.first,
  record { output = at.output; written = at.writes; plays = all_closed limit labels history after at.done at.output at.plays at.left_open closes },
)

cut_told : (limit : Limits) (count : ℕ) (labels : List Label) (history after : List Entry) (given written written_new : Option (List ℕ)) (wrong wrong_after : Bool) → StoppedAt limit (stops.Output count) labels history given written written_new wrong
    → Leads limit labels history (map closing (map (λ x. x.label) labels)) [] after [] → (IsTrue wrong → IsTrue wrong_after) → LeavesCut limit wrong_after given written written_new after
cut_told limit count labels history after given written written_new wrong wrong_after at closes stays = (
  at.done,
  at.last,
  (λ some. stays (at.has_last some)),
  if_given given (λ all. AreFirstCalls at.done at.last all) at.first,
  record { output = at.output; written = at.writes; plays = all_closed limit labels history after at.done at.output at.plays at.left_open closes },
)

pub leaves_by : (stop : Stop) (limit : Limits) (labels : List Label) (history after : List Entry) (given left written written_new : Option (List ℕ)) (wrong wrong_after : Bool)
    → (IsEven stop → PlayedUpTo limit stop labels history given left written written_new) → (IsOfRun stop → StoppedAt limit stop labels history given written written_new wrong)
    → Leads limit labels history (map closing (map (λ x. x.label) labels)) [] after [] → (IsTrue wrong → IsTrue wrong_after) → LeavesBy stop limit wrong_after given left written written_new after
leaves_by stops.End limit labels history after given left written written_new wrong wrong_after played stopped closes stays =
    let at = played tt in (
      whole_told limit stops.End labels history after given left written written_new at closes (λ all is_given. (at.stopped all is_given).0),
      if_given given (λ all. (script all).ending ≡ end) (λ all is_given. (at.stopped all is_given).1),
    )
leaves_by (stops.BadLine n) limit labels history after given left written written_new wrong wrong_after played stopped closes stays =
    let at = played tt in (
      whole_told limit (stops.BadLine n) labels history after given left written written_new at closes (λ all is_given. (at.stopped all is_given).0),
      if_given given (λ all. (script all).ending ≡ bad_line n) (λ all is_given. (at.stopped all is_given).1),
    )
leaves_by stops.Memory limit labels history after given left written written_new wrong wrong_after played stopped closes stays = part_told limit labels history after given left written written_new (played tt) closes
leaves_by (stops.Full n) limit labels history after given left written written_new wrong wrong_after played stopped closes stays = full_told limit n labels history after given left written written_new (played tt) closes
leaves_by (stops.Output n) limit labels history after given left written written_new wrong wrong_after played stopped closes stays = cut_told limit n labels history after given written written_new wrong wrong_after (stopped tt) closes stays
leaves_by (stops.Input n) limit labels history after given left written written_new wrong wrong_after played stopped closes stays = read_told limit labels history after given left written written_new n (played tt) closes
leaves_by stops.Answer limit labels history after given left written written_new wrong wrong_after played stopped closes stays = early_told limit labels history after given written written_new wrong (stopped tt) closes
