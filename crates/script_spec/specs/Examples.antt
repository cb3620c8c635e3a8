-- Frames and histories that the worked examples speak of.
use Rattle.std.specs.Prelude.{ℕ, List, [], ◌∷◌, ◌++◌, Option, None}
use Rattle.script_spec.specs.Calls.{Call, closing, command, opening}
use Rattle.history_spec.specs.Examples.{cancel_frame, get_random}

-- two commands with a cancel between them
abbrev pub canceled_between : List ℕ
canceled_between = get_random 8 ++ cancel_frame ++ get_random 4

-- what they make on the label 0, where the first is canceled so
abbrev pub one_label : Option ℕ → List Call
one_label covered = opening 0 ∷ command 0 1 (get_random 8) covered ∷ command 0 2 (get_random 4) None ∷ closing 0 ∷ []

-- the calls of which two_clients is a history
abbrev pub two_labels : List Call
two_labels =
    opening 0 ∷ command 0 1 (get_random 8) None ∷ opening 7 ∷ command 7 1 (get_random 6) None ∷ command 0 2 (get_random 4) None
    ∷ closing 0 ∷ closing 7 ∷ []
