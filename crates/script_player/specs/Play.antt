-- How a script is played: what the player's labels have to do with the history, and what each of its steps adds.
use Rattle.std.specs.Prelude.{◌≡◌, Bool, false, ◌<◌, ◌≤◌, ℕ, ◌+◌, IsTrue, List, [], ◌∷◌, ◌++◌, length, map, Option, Some, None, if◌then◌else◌}
use Rattle.std.specs.List.{AllByRecursion, list_any}
use Rattle.tab_spec.specs.Frame.{commands, frames, left_of, meets_bad_size}
use Rattle.tab_spec.specs.Count.{Rose}
use Rattle.script_spec.specs.declared.TheConstants.{LINE_BYTES, SCRIPT_BYTES}
use Rattle.history_spec.specs.Entry.{Entry, HasRoomForClient, clients_of, is_close_kind, kept, own}
use Rattle.history_spec.specs.Told.{Limits}
use Rattle.script_spec.specs.Script.{ScriptItem, piece, close, Script, script, item_of, is_newline, lines_of, script_from, end, bad_line}
use Rattle.script_spec.specs.Calls.{Call, opening, closing, Stream, item_commands, ending_calls, calls_from, labels_from}
use Rattle.script_spec.specs.Plays.{LabelHolder, Stage, PlaysTo, at_start}
use Rattle.link_port.specs.Port.{with_more}
use Rattle.script_lines.specs.declared.label.Label.{Label}
use Rattle.script_lines.specs.Labels.{LabelsView, label_in, new_label, replaced, without_label}
use Rattle.broker_lock.specs.declared.calls.OpenClientError.{OpenClientError}
use Rattle.broker_lock.specs.declared.calls.OpenClientError.TheVariants as open_errors
use Rattle.script_player.specs.declared.stop.Stop.{Stop}
use Rattle.script_player.specs.declared.stop.Stop.TheVariants as stops

abbrev pub holder_of : Label → LabelHolder
holder_of x = record { label = x.label; client = x.client }

-- how far a script has been played
abbrev pub stage : List Label → List Entry → List ℕ → Stage
stage labels history output = record { history = history; holders = map holder_of labels; output = output }

-- the clients of the labels rise from this one, and stay below that
abbrev pub ClientsRise : ℕ → List Label → ℕ → Type 0
ClientsRise from [] below = Unit {0}
ClientsRise from (x ∷ xs) below =
    (from ≤ x.client) × (x.client < below) × ClientsRise (x.client + 1) xs below

-- each entry of an open client has a number up to this one, and none is its close
abbrev pub NumbersUpTo : List Entry → ℕ → ℕ → Type 0
NumbersUpTo history client number = AllByRecursion (λ e. (e.number ≤ number) × (is_close_kind e.kind ≡ false)) (own history client)

-- the labels and the history fit one another
pub record Fits (labels : LabelsView) (history : List Entry) : Type 0 where
  pub present : (clients_of history).present ≡ map (λ x. x.client) labels.present
  pub opened : (clients_of history).opened ≡ labels.opened
  pub rise : ClientsRise 0 labels.present labels.opened
  pub known : AllByRecursion (λ e. e.client < labels.opened) history
  pub counts : AllByRecursion (λ x. NumbersUpTo history x.client x.commands) labels.present

-- how many commands came on a label and how many of its bytes are kept, together
abbrev pub size_of_label : Label → ℕ
size_of_label x = x.commands + length x.kept

-- no label has more of both than this
abbrev pub AreSmall : List Label → ℕ → Type 0
AreSmall labels most = AllByRecursion (λ x. size_of_label x ≤ most) labels

-- ---- a label

-- what is known of a label once it is open
abbrev pub opened_label : Option Label → ℕ → ℕ → Label
opened_label (Some x) label client = x
opened_label None label client = new_label label client

-- the labels once it is open
abbrev pub opened_labels : Option Label → LabelsView → ℕ → LabelsView
opened_labels (Some x) labels label = labels
opened_labels None labels label = record { present = labels.present ++ new_label label labels.opened ∷ []; opened = labels.opened + 1 }

-- the call that opens it, where it wasn't open
abbrev pub opening_calls : Option Label → ℕ → List Call
opening_calls (Some x) label = []
opening_calls None label = opening label ∷ []

-- ---- a piece on a label

-- the calls that bytes make on an open label
abbrev pub fed_calls : Label → List ℕ → List Call
fed_calls x bytes =
    item_commands x.label x.commands (frames (x.kept ++ bytes)).items ++ ending_calls x.label (meets_bad_size (x.kept ++ bytes))

-- the label after them
abbrev pub fed_label : Label → List ℕ → Label
fed_label x bytes = record x { commands = x.commands + length (commands (x.kept ++ bytes)); kept = left_of (x.kept ++ bytes) }

-- the open labels after them: a bad size closes the label
abbrev pub fed_labels : Label → List ℕ → LabelsView → LabelsView
fed_labels x bytes labels = record labels {
  present = if meets_bad_size (x.kept ++ bytes) then without_label x.label labels.present else replaced (fed_label x bytes) labels.present;
}

-- ---- an item

abbrev pub closed_calls : Option Label → ℕ → List Call
closed_calls None label = []
closed_calls (Some x) label = closing label ∷ []

-- the calls that an item makes
abbrev pub calls_on : LabelsView → ScriptItem → List Call
calls_on labels (piece label bytes) =
    let known = label_in labels.present label in opening_calls known label ++ fed_calls (opened_label known label labels.opened) bytes
calls_on labels (close label) = closed_calls (label_in labels.present label) label

-- the labels after it
abbrev pub labels_after : LabelsView → ScriptItem → LabelsView
labels_after labels (piece label bytes) =
    let known = label_in labels.present label in fed_labels (opened_label known label labels.opened) bytes (opened_labels known labels label)
labels_after labels (close label) = record labels { present = without_label label labels.present }

-- the calls lead from these labels and this history to those, and add these bytes to the output
abbrev pub Leads : Limits → List Label → List Entry → List Call → List Label → List Entry → List ℕ → Type 0
Leads limit labels history calls labels_new history_new more =
    (output : List ℕ) → PlaysTo limit (stage labels history output) calls (stage labels_new history_new (output ++ more))

-- ---- the calls of a script, as the labels carry them

-- the bytes that came on an open label so far: so many of them are commands, and these are left
pub record IsCarried (x : Label) (stream : Stream) : Type 0 where
  pub label_is : stream.label ≡ x.label
  pub sound : meets_bad_size stream.bytes ≡ false
  pub kept_is : x.kept ≡ left_of stream.bytes
  pub count : length (commands stream.bytes) ≡ x.commands

abbrev pub Carries : List Label → List Stream → Type 0
Carries [] [] = Unit {0}
Carries (x ∷ xs) (stream ∷ streams) = IsCarried x stream × Carries xs streams
Carries [] (stream ∷ streams) = ⊥
Carries (x ∷ xs) [] = ⊥

-- ---- a line

-- a good line was played: its calls lead on, and their reply lines were written
pub record IsPlayed (limit : Limits) (text : List ℕ) (labels : LabelsView) (history : List Entry) (labels_new : LabelsView) (history_new : List Entry)
    (written written_new : Option (List ℕ)) : Type 0 where
  pub item : ScriptItem
  pub more : List ℕ
  pub item_is : item_of text ≡ Some item
  pub labels_are : labels_new ≡ labels_after labels item
  pub leads : Leads limit labels.present history (calls_on labels item) labels_new.present history_new more
  pub written_is : written_new ≡ with_more written more

-- a line opens a label
abbrev pub OpensLabel : List ℕ → LabelsView → Type 0
OpensLabel text labels = (label : ℕ) × (bytes : List ℕ) × (item_of text ≡ Some (piece label bytes)) × (label_in labels.present label ≡ None)

-- ---- a script

-- a script makes these calls, and then those of its rest
pub record ScriptGoesOn (done : List Call) (streams : List Stream) (whole rest : Script)
    : Type 0 where
  pub items : calls_from [] whole.items ≡ done ++ calls_from streams rest.items
  pub ending : whole.ending ≡ rest.ending

-- these lines of an input were read and made these calls, whatever lines follow
pub record IsRead (done : List Call) (streams : List Stream) (number room : ℕ) (pending all rest : List ℕ) : Type 0 where
  pub lines : List (List ℕ)
  pub all_is : lines_of all ≡ lines ++ lines_of (pending ++ rest)
  pub goes_on : (more : List (List ℕ)) → ScriptGoesOn done streams (script_from 1 SCRIPT_BYTES (lines ++ more)) (script_from number room more)

-- what an input that told its bytes makes is what was made of it and what is left makes
abbrev pub StillToCome : List Call → List Stream → ℕ → ℕ → List ℕ → Option (List ℕ) → Option (List ℕ) → Type 0
StillToCome done streams number room pending given left = (all : List ℕ) → given ≡ Some all → (rest : List ℕ) × (left ≡ Some rest)
    × IsRead done streams number room pending all rest

-- what is played so far of an input, and what is still to be
pub record HasPlayed (limit : Limits) (labels : LabelsView) (history : List Entry) (number room : ℕ) (pending : List ℕ)
    (given left written written_new : Option (List ℕ)) : Type 0 where
  pub done : List Call
  pub streams : List Stream
  pub output : List ℕ
  pub plays : PlaysTo limit at_start done (stage labels.present history output)
  pub carries : Carries labels.present streams
  pub left_open : labels_from [] done ≡ map (λ x. x.label) labels.present
  pub written_is : written_new ≡ with_more written output
  pub to_come : StillToCome done streams number room pending given left

-- these are the calls of the whole lines that were read of an input; the line after them was cut short
pub record AreOfWholeLines (done : List Call) (all rest : List ℕ) : Type 0 where
  pub lines : List (List ℕ)
  pub cut : List ℕ
  pub all_is : lines_of all ≡ lines ++ lines_of (cut ++ rest)
  pub is_cut : list_any is_newline cut ≡ false
  pub short : length cut ≤ LINE_BYTES
  pub calls_are : calls_from [] (script_from 1 SCRIPT_BYTES lines).items ≡ done
  -- none of them is bad
  pub good : (script_from 1 SCRIPT_BYTES lines).ending ≡ end

-- how the calls that were made and the ending of an input, where it told its bytes, stand to why no more was played
abbrev pub Stopped : Stop → List Call → List ℕ → Option (List ℕ) → Type 0
Stopped stops.End done all left = (calls_from [] (script all).items ≡ done) × ((script all).ending ≡ end)
Stopped (stops.BadLine number) done all left = (calls_from [] (script all).items ≡ done) × ((script all).ending ≡ bad_line number)
Stopped stops.Memory done all left = (label : ℕ) × (more : List Call) × (calls_from [] (script all).items ≡ done ++ opening label ∷ more)
Stopped (stops.Full count) done all left = (label : ℕ) × (more : List Call) × (calls_from [] (script all).items ≡ done ++ opening label ∷ more)
Stopped (stops.Output count) done all left = Unit {0}
Stopped (stops.Input count) done all left = (rest : List ℕ) × (left ≡ Some rest) × AreOfWholeLines done all rest
Stopped stops.Answer done all left = Unit {0}

-- whether a stop leaves labels, history and output as whole lines made them
abbrev pub IsEven : Stop → Type 0
IsEven stops.End = Unit {0}
IsEven (stops.BadLine number) = Unit {0}
IsEven stops.Memory = Unit {0}
IsEven (stops.Full count) = Unit {0}
IsEven (stops.Output count) = ⊥
IsEven (stops.Input count) = Unit {0}
IsEven stops.Answer = ⊥

-- where the journal is full, it has no room for another client, and keeps so many bytes
abbrev pub TellsFull : ℕ → Stop → List Entry → Type 0
TellsFull limit stop history = (count : ℕ) → stop ≡ stops.Full count → (count ≡ kept history) × (HasRoomForClient limit history → ⊥)

-- what was played when no more is
pub record PlayedUpTo (limit : Limits) (stop : Stop) (labels : List Label) (history : List Entry) (given left written written_new : Option (List ℕ)) : Type 0 where
  pub done : List Call
  pub output : List ℕ
  pub plays : PlaysTo limit at_start done (stage labels history output)
  pub left_open : labels_from [] done ≡ map (λ x. x.label) labels
  pub written_is : written_new ≡ with_more written output
  pub full : TellsFull limit.bytes stop history
  pub stopped : (all : List ℕ) → given ≡ Some all → Stopped stop done all left

-- ---- why no more is played

-- A reason to stop has its cause, and no read, no write and no answer went wrong before it. `wrong` is whether a wrong answer came.
abbrev pub HasStopCause : Stop → (input input_new output output_new : ℕ) (wrong : Bool) → Type 0
HasStopCause stops.End input input_new output output_new wrong = (output_new ≡ output) × (wrong ≡ false) × (input_new ≡ input)
HasStopCause (stops.BadLine number) input input_new output output_new wrong = (output_new ≡ output) × (wrong ≡ false) × (input_new ≡ input)
HasStopCause stops.Memory input input_new output output_new wrong = (output_new ≡ output) × (wrong ≡ false) × (input_new ≡ input)
HasStopCause (stops.Full count) input input_new output output_new wrong = (output_new ≡ output) × (wrong ≡ false) × (input_new ≡ input)
HasStopCause (stops.Output count) input input_new output output_new wrong = Rose output output_new × (count ≡ output_new) × (input_new ≡ input)
HasStopCause (stops.Input count) input input_new output output_new wrong = Rose input input_new × (count ≡ input_new) × (output_new ≡ output) × (wrong ≡ false)
HasStopCause stops.Answer input input_new output output_new wrong = IsTrue wrong × (output_new ≡ output) × (input_new ≡ input)

-- the reasons to stop that come with a command or a close
abbrev pub IsOfRun : Stop → Type 0
IsOfRun stops.End = ⊥
IsOfRun (stops.BadLine number) = ⊥
IsOfRun stops.Memory = ⊥
IsOfRun (stops.Full count) = ⊥
IsOfRun (stops.Output count) = Unit {0}
IsOfRun (stops.Input count) = ⊥
IsOfRun stops.Answer = Unit {0}

-- those that come with an opening
abbrev pub IsOfOpening : Stop → Type 0
IsOfOpening stops.End = ⊥
IsOfOpening (stops.BadLine number) = ⊥
IsOfOpening stops.Memory = Unit {0}
IsOfOpening (stops.Full count) = Unit {0}
IsOfOpening (stops.Output count) = ⊥
IsOfOpening (stops.Input count) = ⊥
IsOfOpening stops.Answer = ⊥

-- the reason to stop where no client was opened. A label isn't opened after a wrong answer
abbrev pub stop_unopened : OpenClientError → Stop
stop_unopened open_errors.Memory = stops.Memory
stop_unopened (open_errors.JournalFull count limit) = stops.Full count
stop_unopened open_errors.Answer = stops.Memory

-- how many bytes are pulled of an input, at most: one more than a script may have, but not where a read failed
abbrev pub most_pulled : Stop → ℕ
most_pulled stops.End = SCRIPT_BYTES + 1
most_pulled (stops.BadLine number) = SCRIPT_BYTES + 1
most_pulled stops.Memory = SCRIPT_BYTES + 1
most_pulled (stops.Full count) = SCRIPT_BYTES + 1
most_pulled (stops.Output count) = SCRIPT_BYTES + 1
most_pulled (stops.Input count) = SCRIPT_BYTES
most_pulled stops.Answer = SCRIPT_BYTES + 1

-- an input that told its bytes has given so many at most
abbrev pub IsPulledUpTo : ℕ → Option (List ℕ) → Option (List ℕ) → Type 0
IsPulledUpTo most given left = (all rest : List ℕ) → given ≡ Some all → left ≡ Some rest → length all ≤ length rest + most
