-- The journal as text: a line for each entry.
use Rattle.std.specs.Prelude.{ℕ, List, [], ◌∷◌, ◌++◌, codes}
use Rattle.std.specs.Fmt.{decimal}
use Rattle.std.specs.List.{flat_map, join_with_byte}
use Rattle.hex.specs.Hex.{encode_lower}
use Rattle.history_spec.specs.declared.EntryKind.{EntryKind}
use Rattle.history_spec.specs.declared.EntryKind.TheVariants.{Open, Command, Canceled, Fault, Close}
use Rattle.history_spec.specs.declared.Pick.{Pick}
use Rattle.history_spec.specs.declared.Pick.TheVariants.{Nothing, Session, Sequence}
use Rattle.history_spec.specs.Entry.{Entry}

abbrev pub kind_word : EntryKind → List ℕ
kind_word Open = codes "open"
kind_word Command = codes "command"
kind_word (Canceled upto) = codes "canceled:" ++ decimal upto
kind_word Fault = codes "fault"
kind_word Close = codes "close"

abbrev pub pick_word : Pick → List ℕ
pick_word Nothing = codes "-"
pick_word (Session number) = codes "session:" ++ decimal number
pick_word (Sequence number) = codes "sequence:" ++ decimal number

-- bytes in lower-case hexadecimal, and a dash where there are none
abbrev pub bytes_word : List ℕ → List ℕ
bytes_word [] = codes "-"
bytes_word (byte ∷ bytes) = encode_lower (byte ∷ bytes)

abbrev pub entry_words : Entry → List (List ℕ)
entry_words e =
    decimal e.client ∷ decimal e.number ∷ kind_word e.kind ∷ pick_word e.pick ∷ decimal e.faults
    ∷ bytes_word e.command ∷ bytes_word e.reply ∷ []

-- the line of an entry: its words with a space between, and a newline
unfoldable pub audit_line : Entry → List ℕ
audit_line e = join_with_byte 32 (entry_words e) ++ 10 ∷ []

-- the lines of all entries, one after the other
abbrev pub audit_text : List Entry → List ℕ
audit_text history = flat_map audit_line history
