-- The line that `serve` ends with: how many connections and entries there were.
use Rattle.std.specs.Prelude.{ℕ, List, [], ◌∷◌, ◌++◌, length, codes}
use Rattle.std.specs.Fmt.{decimal}
use Rattle.history_spec.specs.Entry.{Entry}
use Rattle.audit_journal.specs.Counts.{canceled_in, commands_in, faults_in}

-- the line of so many connections and these entries
abbrev pub counts_line : ℕ → List Entry → List ℕ
counts_line links history =
    codes "links " ++ decimal links ++ codes " entries " ++ decimal (length history) ++ codes " commands " ++ decimal (commands_in history)
    ++ codes " canceled " ++ decimal (canceled_in history) ++ codes " faults " ++ decimal (faults_in history) ++ 10 ∷ []
