-- The open labels of a script, in the order of opening.
use Rattle.std.specs.Prelude.{ℕ, ◌+◌, ◌==◌, List, [], ◌∷◌, Option, if◌then◌else◌}
use Rattle.std.specs.List.{find}
use Rattle.script_lines.specs.declared.label.Label.{Label}

-- the open labels, and how many were opened so far
pub record LabelsView : Type 0 where
  pub present : List Label
  pub opened : ℕ

abbrev pub no_labels : LabelsView
no_labels = record { present = []; opened = 0 }

-- what is known of a label, where it is open
abbrev pub label_in : List Label → ℕ → Option Label
label_in labels label = find (λ x. x.label == label) labels

-- a label on which nothing came
abbrev pub new_label : ℕ → ℕ → Label
new_label label client = record { label = label; client = client; commands = 0; kept = [] }

-- the label after one more command
abbrev pub counted : Label → Label
counted x = record x { commands = x.commands + 1 }

-- the labels where this is known now of the first with its name
abbrev pub replaced : Label → List Label → List Label
replaced x [] = []
replaced x (y ∷ ys) = if y.label == x.label then x ∷ ys else y ∷ replaced x ys

-- the labels without the first with this name
abbrev pub without_label : ℕ → List Label → List Label
without_label label [] = []
without_label label (x ∷ xs) = if x.label == label then xs else x ∷ without_label label xs
