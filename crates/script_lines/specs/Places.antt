-- Where the labels that are open stand among all that were opened.
use Rattle.std.specs.Prelude.{◌≡◌, ◌<◌, ◌≤◌, ◌^◌, ℕ, List, [], ◌∷◌, length, slice_index_or, Option, Some, None}
use Rattle.script_lines.specs.declared.label.Label.{Label}

-- the labels that are there, in order
abbrev pub somes : List (Option Label) → List Label
somes [] = []
somes (None ∷ items) = somes items
somes (Some x ∷ items) = x ∷ somes items

-- the label at a place, where one is there
abbrev pub item_at : List (Option Label) → ℕ → Option Label
item_at items place = slice_index_or items place None

-- a label of this name is there
pub record IsOpenAt (items : List (Option Label)) (label place : ℕ) : Type 0 where
  pub x : Label
  pub is : item_at items place ≡ Some x
  pub named : x.label ≡ label

-- each label stands at the place that is its client, these are the clients of the open labels, and no
-- label before the first place is open
pub record LabelsAreKept (items : List (Option Label)) (first : ℕ) (clients : ℕ → Option ℕ)
    : Type 0 where
  pub client : (place : ℕ) (x : Label) → item_at items place ≡ Some x → x.client ≡ place
  pub mapped : (place : ℕ) (x : Label) → item_at items place ≡ Some x → clients x.label ≡ Some place
  pub there : (label place : ℕ) → clients label ≡ Some place → IsOpenAt items label place
  pub closed : (place : ℕ) → place < first → item_at items place ≡ None
  pub within : first ≤ length items
  pub few : length items ≤ 2 ^ 32
