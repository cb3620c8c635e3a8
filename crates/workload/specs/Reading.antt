-- How lines of replies are read, byte by byte.
use Rattle.std.specs.Prelude.{◌≡◌, ℕ, ◌==◌, Bool, List, [], ◌∷◌, ◌++◌, take, slice_index, Result, Ok, Err, if◌then◌else◌}
use Rattle.std.specs.List.{fold}
use Rattle.hex.specs.declared.error.FromHexError.{FromHexError}
use Rattle.hex.specs.Hex.{decode_sized}
use Rattle.tab_spec.specs.Count.{one_more}
use Rattle.tab_hash.specs.declared.sum.Sum.{Sum}
use Rattle.tab_hash.specs.Adding.{HasAdded}
use Rattle.script_spec.specs.Summary.{has_code_0}
use Rattle.workload.specs.declared.part.Part.{Part}
use Rattle.workload.specs.declared.part.Part.TheVariants.{Label, High, Low}

-- ---- a byte of a reply

abbrev pub first_of : Result (List ℕ) FromHexError → ℕ
first_of (Ok bytes) = slice_index bytes 0
first_of (Err error) = 0

-- the byte that two digits spell; 0 where they aren't digits
abbrev pub byte_of : ℕ → ℕ → ℕ
byte_of high low = first_of (decode_sized (high ∷ low ∷ []) 1)

-- ---- lines

-- what comes next behind a byte
abbrev pub part_by : Part → ℕ → Part
part_by Label byte = if byte == 32 then High else Label
part_by High byte = if byte == 10 then Label else Low byte
part_by (Low high) byte = High

-- what was read so far
pub record Read : Type 0 where
  pub part : Part
  -- the bytes of the reply whose line was begun
  pub reply : List ℕ
  -- the bytes of all replies
  pub all : List ℕ
  -- how many lines were ended, and how many of them by a reply with the code 0
  pub count : ℕ
  pub count_0 : ℕ

abbrev pub at_first : Read
at_first = record { part = Label; reply = []; all = []; count = 0; count_0 = 0 }

abbrev pub counted_if : Bool → ℕ → ℕ
counted_if more count = if more then one_more count else count

-- a line ends
abbrev pub ended : Read → Read
ended read = record {
  part = Label;
  reply = [];
  all = read.all;
  count = one_more read.count;
  count_0 = counted_if (has_code_0 read.reply) read.count_0;
}

-- a reply has one byte more
abbrev pub with_byte : ℕ → Read → Read
with_byte byte read = record read { part = High; reply = read.reply ++ byte ∷ []; all = read.all ++ byte ∷ [] }

-- one byte more is read, by what was to come
abbrev pub read_at : Part → Read → ℕ → Read
read_at Label read byte = record read { part = part_by Label byte }
read_at High read byte = if byte == 10 then ended read else record read { part = Low byte }
read_at (Low high) read byte = with_byte (byte_of high byte) read

abbrev pub read_by : Read → ℕ → Read
read_by read byte = read_at read.part read byte

-- what is read in bytes
unfoldable pub read_of : List ℕ → Read
read_of bytes = fold read_by at_first bytes

-- a tally has this of what was read: of the reply whose line was begun its first ten bytes
pub record IsTallied (sum : Sum) (front : List ℕ) (part : Part) (count count_0 : ℕ) (read : Read) : Type 0 where
  pub added : HasAdded sum read.all
  pub front_is : front ≡ take 10 read.reply
  pub part_is : part ≡ read.part
  pub count_is : count ≡ read.count
  pub count_0_is : count_0 ≡ read.count_0
