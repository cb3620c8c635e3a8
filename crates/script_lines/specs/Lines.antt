-- What a reader of lines does to what is still to come of an input.
use Rattle.std.specs.Prelude.{◌≡◌, ◌⊎◌, ◌<◌, ◌≤◌, ◌+◌, ◌-◌, ℕ, false, List, [], ◌∷◌, ◌++◌, length, Option, Some, None}
use Rattle.std.specs.List.{list_any}
use Rattle.script_spec.specs.declared.TheConstants.{LINE_BYTES}
use Rattle.script_spec.specs.Script.{is_newline, lines_of, text_of}
use Rattle.script_lines.specs.declared.reader.Line.{Line}
use Rattle.script_lines.specs.declared.reader.Line.TheVariants.{Text, End, TooLong}

-- a reader of lines: the bytes that it has pulled and not given out, and how many the input may still
-- have, those included
pub record LinesView : Type 0 where
  pub pending : List ℕ
  pub room : ℕ

-- the next line was given out, without its newline, and the input had room for it
pub record GaveLine (before : List ℕ) (room : ℕ) (text : List ℕ) (after : List ℕ) (room_after : ℕ) : Type 0 where
  pub line : List ℕ
  pub lines : lines_of before ≡ line ∷ lines_of after
  pub text_is : text ≡ text_of line
  pub fits : length line ≤ room
  pub room_is : room_after ≡ room - length line

-- the next line has too many bytes, or reaches past the most bytes of an input
pub record IsTooLong (before : List ℕ) (room : ℕ) : Type 0 where
  pub line : List ℕ
  pub more : List (List ℕ)
  pub lines : lines_of before ≡ line ∷ more
  pub too_long : (room < length line) ⊎ (LINE_BYTES < length (text_of line))

-- what came next of an input that had these bytes
abbrev pub CameNext : Line → List ℕ → ℕ → List ℕ → List ℕ → ℕ → Type 0
CameNext Text before room text after room_after = GaveLine before room text after room_after
CameNext End before room text after room_after = (before ≡ []) × (after ≡ [])
CameNext TooLong before room text after room_after = IsTooLong before room

-- the same of what was pulled and what the source has left, where the source tells it
abbrev pub ReadNext : Line → LinesView → Option (List ℕ) → List ℕ → LinesView → Option (List ℕ) → Type 0
ReadNext line old None text new left = left ≡ None
ReadNext line old (Some more) text new left =
    (rest : List ℕ) × (left ≡ Some rest) × CameNext line (old.pending ++ more) old.room text (new.pending ++ rest) new.room

-- a failure came within a line: what was pulled of it has no newline and isn't too long, and the source has the rest left
abbrev pub CutShort : LinesView → Option (List ℕ) → Option (List ℕ) → Type 0
CutShort old None left = left ≡ None
CutShort old (Some more) left =
    (cut : List ℕ) × (rest : List ℕ) × (left ≡ Some rest) × (old.pending ++ more ≡ cut ++ rest) × (list_any is_newline cut ≡ false)
    × (length cut ≤ LINE_BYTES)

-- as many bytes were pulled as came to be pending and as the room fell by
abbrev pub HasPulled : LinesView → Option (List ℕ) → LinesView → Option (List ℕ) → Type 0
HasPulled old None new left = left ≡ None
HasPulled old (Some more) new left =
    (rest : List ℕ) × (left ≡ Some rest) × (length old.pending + length more + new.room ≡ length new.pending + length rest + old.room)
