-- How a reader of lines comes by a line: what it pulls, and the pieces that it takes off what it pulled.
use Rattle.std.specs.Prelude.{◌≡◌, ◌⊎◌, ◌<◌, ◌+◌, ℕ, Bool, false, List, [], ◌∷◌, ◌++◌, length, Option, Some, None}
use Rattle.std.specs.List.{list_any}
use Rattle.script_spec.specs.declared.TheConstants.{LINE_BYTES}
use Rattle.script_spec.specs.Script.{is_newline}
use Rattle.script_lines.specs.declared.reader.Line.{Line}
use Rattle.script_lines.specs.declared.reader.Line.TheVariants.{Text, End, TooLong}
use Rattle.script_lines.specs.Lines.{LinesView}

abbrev pub has_newline : List ℕ → Bool
has_newline bytes = list_any is_newline bytes

-- nothing of what is to come was lost, and no byte is pending only where none is left
pub record IsFilled (bytes : List ℕ) (after : Option (List ℕ)) (old new : List ℕ) : Type 0 where
  pub rest : List ℕ
  pub left : after ≡ Some rest
  pub same : old ++ bytes ≡ new ++ rest
  pub end : new ≡ [] → rest ≡ []

-- a block was pulled where no byte was pending
abbrev pub Filled : Option (List ℕ) → Option (List ℕ) → LinesView → LinesView → Type 0
Filled None after old new = (after ≡ None) × (new.room ≡ old.room)
Filled (Some bytes) after old new = IsFilled bytes after old.pending new.pending × (new.room ≡ old.room)

-- all that was pending went into the text, and the line goes on
pub record LineGoesOn (old : LinesView) (text : List ℕ) (new : LinesView) (longer : List ℕ) : Type 0 where
  pub no_newline : has_newline old.pending ≡ false
  pub text_is : longer ≡ text ++ old.pending
  pub pending_is : new.pending ≡ []
  pub room_is : new.room + length old.pending ≡ old.room

-- the text was ended by a newline, which was taken
pub record EndsLine (old : LinesView) (text : List ℕ) (new : LinesView) (longer : List ℕ) : Type 0 where
  pub piece : List ℕ
  pub pending_is : old.pending ≡ piece ++ 10 ∷ new.pending
  pub no_newline : has_newline piece ≡ false
  pub text_is : longer ≡ text ++ piece
  pub room_is : new.room + (length piece + 1) ≡ old.room

-- the line has too many bytes, or passes the room that is left
pub record IsTooMuch (old : LinesView) (text : List ℕ) : Type 0 where
  pub piece : List ℕ
  pub rest : List ℕ
  pub pending_is : old.pending ≡ piece ++ rest
  pub no_newline : has_newline piece ≡ false
  pub too_much : (LINE_BYTES < length text + length piece) ⊎ (old.room < length piece)
      ⊎ ((after : List ℕ) × (rest ≡ 10 ∷ after) × (old.room < length piece + 1))

-- what was taken off the bytes that are pending
abbrev pub TookPiece : Option Line → LinesView → List ℕ → LinesView → List ℕ → Type 0
TookPiece None old text new longer = LineGoesOn old text new longer
TookPiece (Some Text) old text new longer = EndsLine old text new longer
TookPiece (Some End) old text new longer = ⊥
TookPiece (Some TooLong) old text new longer = IsTooMuch old text
