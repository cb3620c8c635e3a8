-- Cancels: which commands of a connection a cancel frame is about. It is about all that came before it on that connection, and is
-- this project's own.
use Rattle.std.specs.Prelude.{ℕ, ◌+◌, ◌==◌, nat_le, List, [], ◌∷◌, Option, Some, None, if◌then◌else◌}
use Rattle.std.specs.Bool.{IsTrue}
use Rattle.std.specs.List.{last_or, list_any}
use Rattle.tab_spec.specs.Frame.{StreamItem, cancel, command, frames}

-- for each cancel among these items, in order, how many commands came before it; so many came before the items
abbrev pub cancels_after : ℕ → List StreamItem → List ℕ
cancels_after count [] = []
cancels_after count (command bytes ∷ items) = cancels_after (count + 1) items
cancels_after count (cancel ∷ items) = count ∷ cancels_after count items

-- the same of a whole stream
abbrev pub cancels : List ℕ → List ℕ
cancels bytes = cancels_after 0 (frames bytes).items

-- a cancel of the stream has exactly so many commands before it
abbrev pub IsCovered : List ℕ → ℕ → Type 0
IsCovered bytes upto = IsTrue (list_any (λ n. n == upto) (cancels bytes))

-- up to which number the last cancel among these items is about commands, where there is one
abbrev pub canceled_up_to : ℕ → List StreamItem → Option ℕ
canceled_up_to count items = last_or None (cancels_after count items)

-- the number by which a command is canceled, where commands are canceled up to one that isn't below its own
abbrev pub cover : Option ℕ → ℕ → Option ℕ
cover None number = None
cover (Some upto) number = if nat_le number upto then Some upto else None
