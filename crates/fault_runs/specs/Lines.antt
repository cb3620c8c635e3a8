-- What the first line of a run says.
use Rattle.std.specs.Prelude.{◌≡◌, ◌≤◌, ◌⊎◌, ℕ, List, length}
use Rattle.std.specs.List.{position_or_len}
use Rattle.tab_spec.specs.declared.numbers.Numbers.{Numbers}
use Rattle.tab_spec.specs.Numbers.{profile_numbers}
use Rattle.device_words.specs.Words.{NumbersAreNamed, behind, first_word, is_mark}

-- it has no "="
abbrev pub HasNoMark : List ℕ → Type 0
HasNoMark word = length word ≤ position_or_len (is_mark 61) word

abbrev pub behind_mark : List ℕ → List ℕ
behind_mark word = behind 61 word

-- a list has these numbers, with a comma between each two
abbrev pub NumbersAreListed : List ℕ → Numbers → Type 0
NumbersAreListed list numbers = NumbersAreNamed 44 list numbers

-- the words behind a seed give a device these numbers: those that the first word names, or the profile's
abbrev pub HasNumbers : List ℕ → Numbers → Type 0
HasNumbers words numbers =
    (HasNoMark (first_word words) × (numbers ≡ profile_numbers)) ⊎ NumbersAreListed (behind_mark (first_word words)) numbers
