-- What a line says, as it is read.
use Rattle.std.specs.Prelude.{ℕ, List, Option, Some, None}
use Rattle.script_spec.specs.Script.{ScriptItem, piece, close}
use Rattle.script_lines.specs.declared.lines.LineItem.{LineItem}
use Rattle.script_lines.specs.declared.lines.LineItem.TheVariants as says

-- the item of a script, where these are the bytes of a piece
abbrev pub item_said : Option LineItem → List ℕ → Option ScriptItem
item_said None bytes = None
item_said (Some (says.Piece label)) bytes = Some (piece label bytes)
item_said (Some (says.Close label)) bytes = Some (close label)
