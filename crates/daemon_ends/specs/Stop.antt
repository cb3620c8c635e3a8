-- The words by which a daemon is asked to stop.
use Rattle.std.specs.Prelude.{ℕ, ◌==◌, List, [], ◌∷◌, codes, Option, None, if◌then◌else◌}
use Rattle.std.specs.List.{starts_with, list_any, before_first, after_first}
use Rattle.command_line.specs.Words.{is_equals, is_text, path_of}

-- the path in the option of this name with this value
abbrev pub path_given : List ℕ → List ℕ → Option (List ℕ)
path_given name value = if is_text name (codes "--socket") then path_of value else None

-- the path in the option that one word gives: `NAME=VALUE`
abbrev pub path_in : List ℕ → Option (List ℕ)
path_in word = if list_any is_equals word then path_given (before_first is_equals word) (after_first is_equals word) else None

-- the path in the option that a name and the next word give, which doesn't begin with `-`
abbrev pub path_with : List ℕ → List ℕ → Option (List ℕ)
path_with name next = if starts_with ◌==◌ next (codes "-") then None else path_given name next

-- the path of the one option that there is
abbrev pub path_named : List (List ℕ) → Option (List ℕ)
path_named [] = None
path_named (word ∷ []) = path_in word
path_named (name ∷ next ∷ []) = path_with name next
path_named (name ∷ next ∷ word ∷ words) = None

-- the path that the words of `stop` name; nothing where they are other words
abbrev pub stopped_at : List (List ℕ) → Option (List ℕ)
stopped_at [] = None
stopped_at (verb ∷ options) = if is_text verb (codes "stop") then path_named options else None
