-- Scripts: lines of a label and hexadecimal digits, which are a piece of the label's stream, or of a label and the word
-- that closes it.
use Rattle.std.specs.Prelude.{ℕ, ◌+◌, ◌-◌, ◌*◌, ◌^◌, ◌==◌, ◌&&◌, not, nat_lt, nat_le, Bool, false, List, [], ◌∷◌, length, codes, Option, Some, None, Result, Ok, Err, if◌then◌else◌}
use Rattle.std.specs.List.{list_any, list_all, fold, before_first, after_first}
use Rattle.std.specs.Cmp.Lexicographic.{pointwise}
use Rattle.hex.specs.declared.error.FromHexError.{FromHexError}
use Rattle.hex.specs.Hex.{decode_of}
use Rattle.script_spec.specs.declared.TheConstants.{LINE_BYTES, SCRIPT_BYTES}

-- ---- lines

abbrev pub is_newline : ℕ → Bool
is_newline byte = byte == 10

abbrev pub is_space : ℕ → Bool
is_space byte = byte == 32

abbrev pub onto_first : ℕ → List (List ℕ) → List (List ℕ)
onto_first byte [] = (byte ∷ []) ∷ []
onto_first byte (line ∷ lines) = (byte ∷ line) ∷ lines

-- the lines, each with its newline; the last may lack it
abbrev pub lines_of : List ℕ → List (List ℕ)
lines_of [] = []
lines_of (byte ∷ bytes) = if is_newline byte then (byte ∷ []) ∷ lines_of bytes else onto_first byte (lines_of bytes)

-- a line without its newline
abbrev pub text_of : List ℕ → List ℕ
text_of line = before_first is_newline line

-- ---- a line

abbrev pub is_digit : ℕ → Bool
is_digit byte = nat_le 48 byte && nat_le byte 57

-- the number that decimal digits spell
abbrev pub number_of : List ℕ → ℕ
number_of digits = fold (λ number digit. 10 * number + (digit - 48)) 0 digits

-- a needless zero stands in front of other digits
abbrev pub has_needless_zero : List ℕ → Bool
has_needless_zero (first ∷ digit ∷ digits) = first == 48
has_needless_zero other = false

-- a decimal number below 2 ^ 32 without needless zeros
abbrev pub is_label : List ℕ → Bool
is_label text = not (length text == 0) && list_all is_digit text && not (has_needless_zero text) && nat_lt (number_of text) (2 ^ 32)

abbrev pub label_of : List ℕ → Option ℕ
label_of text = if is_label text then Some (number_of text) else None

-- what a good line says
pub data ScriptItem : Type 0 where
  -- these bytes come on the label's stream
  piece : ℕ → List ℕ → ScriptItem
  -- the label is closed
  close : ℕ → ScriptItem

abbrev pub is_close_word : List ℕ → Bool
is_close_word word = pointwise ◌==◌ word (codes "close")

-- a piece has at least one byte
abbrev pub piece_in : ℕ → Result (List ℕ) FromHexError → Option ScriptItem
piece_in label (Err error) = None
piece_in label (Ok bytes) = if length bytes == 0 then None else Some (piece label bytes)

abbrev pub item_in : Option ℕ → List ℕ → Option ScriptItem
item_in None word = None
item_in (Some label) word = if is_close_word word then Some (close label) else piece_in label (decode_of word)

-- what a line says, its newline left out; nothing where it is a bad line
abbrev pub item_of : List ℕ → Option ScriptItem
item_of text =
    if nat_lt LINE_BYTES (length text) then None
    else if not (list_any is_space text) then None
    else item_in (label_of (before_first is_space text)) (after_first is_space text)

-- ---- a script

pub data ScriptEnding : Type 0 where
  -- the input ended behind good lines
  end : ScriptEnding
  -- the number of the first bad line, from 1
  bad_line : ℕ → ScriptEnding

pub record Script : Type 0 where
  pub items : List ScriptItem
  pub ending : ScriptEnding

abbrev pub with_item : ScriptItem → Script → Script
with_item item script = record { items = item ∷ script.items; ending = script.ending }

abbrev pub after_item : ℕ → Option ScriptItem → Script → Script
after_item number None script = record { items = []; ending = bad_line number }
after_item number (Some item) script = with_item item script

-- the script of lines, the first of which has this number, where the input may have so many bytes more
unfoldable pub script_from : ℕ → ℕ → List (List ℕ) → Script
script_from number room [] = record { items = []; ending = end }
script_from number room (line ∷ lines) =
    if nat_lt room (length line) then record { items = []; ending = bad_line number }
    else after_item number (item_of (text_of line)) (script_from (number + 1) (room - length line) lines)

-- what an input says, up to its first bad line
abbrev pub script : List ℕ → Script
script input = script_from 1 SCRIPT_BYTES (lines_of input)
