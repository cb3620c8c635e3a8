-- What words say of a device in memory.
use Rattle.std.specs.Prelude.{◌≡◌, ℕ, ◌==◌, Bool, List}
use Rattle.std.specs.List.{before_first, after_first}
use Rattle.std.specs.Str.Parse.{digits_value, without_leading_plus}
use Rattle.tab_spec.specs.declared.numbers.Numbers.{Numbers}

abbrev pub is_mark : ℕ → ℕ → Bool
is_mark mark byte = byte == mark

-- what stands before the first of these marks; a list without one is all before it
abbrev pub before : ℕ → List ℕ → List ℕ
before mark list = before_first (is_mark mark) list

-- what stands behind it
abbrev pub behind : ℕ → List ℕ → List ℕ
behind mark list = after_first (is_mark mark) list

-- words have a space between each two
abbrev pub first_word : List ℕ → List ℕ
first_word text = before 32 text

abbrev pub other_words : List ℕ → List ℕ
other_words text = behind 32 text

-- the number of a word of decimal digits
abbrev pub decimal : List ℕ → ℕ
decimal word = digits_value 10 (without_leading_plus word)

-- the list has these numbers, in decimal digits: slots, places, sessions and the gap, with a mark between each two
pub record NumbersAreNamed (mark : ℕ) (list : List ℕ) (numbers : Numbers) : Type 0 where
  pub slots : numbers.slots ≡ decimal (before mark list)
  pub loaded : numbers.loaded ≡ decimal (before mark (behind mark list))
  pub active : numbers.active ≡ decimal (before mark (behind mark (behind mark list)))
  pub gap : numbers.gap ≡ decimal (behind mark (behind mark (behind mark list)))
