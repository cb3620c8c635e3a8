-- The calls that a script makes of a broker, by label.
use Rattle.std.specs.Prelude.{ℕ, ◌+◌, ◌==◌, Bool, true, false, List, [], ◌∷◌, ◌++◌, length, map, drop, Option, Some, None, if◌then◌else◌}
use Rattle.tab_spec.specs.Frame as frame
use Rattle.tab_spec.specs.Frame.{meets_bad_size, commands_of, frames, commands}
use Rattle.script_spec.specs.Script.{ScriptItem, close, piece}
use Rattle.history_spec.specs.Cancels.{canceled_up_to, cover}
use Rattle.history_spec.specs.Entry.{without}

pub data Call : Type 0 where
  opening : ℕ → Call
  -- the command of this number on the label's stream, and up to which number it is canceled with others, where it is
  command : ℕ → ℕ → List ℕ → Option ℕ → Call
  -- a size that no frame has, on the label's stream
  bad_size : ℕ → Call
  closing : ℕ → Call

-- an open label and its bytes so far
pub record Stream : Type 0 where
  pub label : ℕ
  pub bytes : List ℕ

abbrev pub bytes_of : List Stream → ℕ → Option (List ℕ)
bytes_of [] label = None
bytes_of (stream ∷ streams) label = if stream.label == label then Some stream.bytes else bytes_of streams label

-- the streams after a piece; a label that isn't open is opened, behind the others
abbrev pub fed : List Stream → ℕ → List ℕ → List Stream
fed [] label bytes = record { label = label; bytes = bytes } ∷ []
fed (stream ∷ streams) label bytes =
    if stream.label == label then record { label = label; bytes = stream.bytes ++ bytes } ∷ streams else stream ∷ fed streams label bytes

abbrev pub without_stream : ℕ → List Stream → List Stream
without_stream label [] = []
without_stream label (stream ∷ streams) = if stream.label == label then streams else stream ∷ without_stream label streams

-- the bytes that came on a label so far; none where it isn't open
abbrev pub so_far : Option (List ℕ) → List ℕ
so_far None = []
so_far (Some bytes) = bytes

-- the streams after a piece: a bad size ends the label's
abbrev pub after_piece : List Stream → ℕ → List ℕ → List Stream
after_piece streams label bytes =
    if meets_bad_size (so_far (bytes_of streams label) ++ bytes) then without_stream label streams else fed streams label bytes

-- the commands and cancels that a piece completes
abbrev pub new_items : List ℕ → List ℕ → List frame.StreamItem
new_items before bytes = drop (length (frames before).items) (frames (before ++ bytes)).items

-- commands from this number on, some of which are canceled up to a number
abbrev pub numbered : ℕ → ℕ → Option ℕ → List (List ℕ) → List Call
numbered label number upto [] = []
numbered label number upto (bytes ∷ commands) = command label number bytes (cover upto number) ∷ numbered label (number + 1) upto commands

-- the commands among these items behind so many others: the last cancel among the items is about those before it
abbrev pub item_commands : ℕ → ℕ → List frame.StreamItem → List Call
item_commands label count items = numbered label (count + 1) (canceled_up_to count items) (commands_of items)

-- a bad size is told, and the label is closed
abbrev pub ending_calls : ℕ → Bool → List Call
ending_calls label false = []
ending_calls label true = bad_size label ∷ closing label ∷ []

-- the calls of a piece behind these bytes of an open label
abbrev pub stream_calls : ℕ → List ℕ → List ℕ → List Call
stream_calls label before bytes =
    item_commands label (length (commands before)) (new_items before bytes) ++ ending_calls label (meets_bad_size (before ++ bytes))

-- a label that isn't open is opened by its piece
abbrev pub piece_calls : Option (List ℕ) → ℕ → List ℕ → List Call
piece_calls None label bytes = opening label ∷ stream_calls label [] bytes
piece_calls (Some before) label bytes = stream_calls label before bytes

-- a label that isn't open isn't closed
abbrev pub close_calls : Option (List ℕ) → ℕ → List Call
close_calls None label = []
close_calls (Some before) label = closing label ∷ []

-- the calls of an item
abbrev pub item_calls : List Stream → ScriptItem → List Call
item_calls streams (piece label bytes) = piece_calls (bytes_of streams label) label bytes
item_calls streams (close label) = close_calls (bytes_of streams label) label

-- the streams after it
abbrev pub after_item : List Stream → ScriptItem → List Stream
after_item streams (piece label bytes) = after_piece streams label bytes
after_item streams (close label) = without_stream label streams

abbrev pub calls_from : List Stream → List ScriptItem → List Call
calls_from streams [] = []
calls_from streams (item ∷ items) = item_calls streams item ++ calls_from (after_item streams item) items

-- the labels that are open after these, in the order of opening, and one more call
abbrev pub labels_by : Call → List ℕ → List ℕ
labels_by (opening label) labels = labels ++ label ∷ []
labels_by (command label number bytes covered) labels = labels
labels_by (bad_size label) labels = labels
labels_by (closing label) labels = without label labels

abbrev pub labels_from : List ℕ → List Call → List ℕ
labels_from labels [] = labels
labels_from labels (call ∷ calls) = labels_from (labels_by call labels) calls

-- these calls, and then the closes of the labels that they leave open
abbrev pub with_closes : List Call → List Call
with_closes calls = calls ++ map closing (labels_from [] calls)

-- the calls of a script, up to and with the closes at its end
abbrev pub calls : List ScriptItem → List Call
calls items = with_closes (calls_from [] items)
