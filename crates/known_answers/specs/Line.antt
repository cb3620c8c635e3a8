-- What a line of known answers says, and what playing it does to a device that never fails.
use Rattle.std.specs.Prelude.{◌≡◌, ◌<◌, ℕ, ◌&&◌, Bool, true, not, List, length, codes, bytes_eq, Ok, MatchBool}
use Rattle.std.specs.List.{position_or_len}
use Rattle.hex.specs.Hex.{decode_of}
use Rattle.tab_spec.specs.declared.numbers.Numbers.{Numbers}
use Rattle.tab_spec.specs.Persist.{fresh_persist}
use Rattle.tab_spec.specs.Numbers.{profile_numbers}
use Rattle.device_words.specs.Words.{NumbersAreNamed, first_word, is_mark, other_words}
use Rattle.device_spec.specs.Slots.{SlotState, new_slots, slot_step}
use Rattle.tab_spec.specs.Commands.{startup_command}

-- a line has two words, and its first space stands between them
abbrev pub HasTwoWords : List ℕ → Type 0
HasTwoWords line = position_or_len (is_mark 32) line < length line

-- the line names a seed
abbrev pub is_seed : List ℕ → Bool
is_seed line = bytes_eq (first_word line) (codes "seed")

-- the line is a command and a reply; the other lines begin a device
abbrev pub is_pair : List ℕ → Bool
is_pair line = not (is_seed line) && not (bytes_eq (first_word line) (codes "numbers"))

-- the state of a new device of these numbers and this seed after Startup
abbrev pub started_state : Numbers → List ℕ → SlotState
started_state numbers seed = (slot_step (new_slots numbers (fresh_persist seed)) startup_command).0

-- the line names a seed, and after it the device is a new one of the profile with that seed; or it names numbers, and the device
-- is a new one of these with the seed that was named last. It is started
pub record BeginsDevice (line seed new_seed : List ℕ) (after : SlotState) (agrees : Bool)
    : Type 0 where
  pub numbers : Numbers
  pub named : MatchBool (is_seed line) ((decode_of (other_words line) ≡ Ok new_seed) × (numbers ≡ profile_numbers))
      (NumbersAreNamed 32 (other_words line) numbers × (new_seed ≡ seed))
  pub state_is : after ≡ started_state numbers new_seed
  pub agrees_is : agrees ≡ true

-- the line's command was run, and this says whether its reply is the line's
pub record Compares (line : List ℕ) (before after : SlotState) (agrees : Bool) : Type 0 where
  pub command : List ℕ
  pub known : List ℕ
  pub command_is : decode_of (first_word line) ≡ Ok command
  pub known_is : decode_of (other_words line) ≡ Ok known
  pub state_is : after ≡ (slot_step before command).0
  pub agrees_is : agrees ≡ bytes_eq (slot_step before command).1 known

-- a line was played on a device; these are the seeds that were named last, before and after it
pub record IsPlayedOnDevice (line seed new_seed : List ℕ) (before after : SlotState) (agrees : Bool) : Type 0 where
  pub words : HasTwoWords line
  pub done : MatchBool (is_pair line) (Compares line before after agrees × (new_seed ≡ seed)) (BeginsDevice line seed new_seed after agrees)
