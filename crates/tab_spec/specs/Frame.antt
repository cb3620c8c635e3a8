-- Frames: how a stream of bytes is cut into commands (Part 1, "Command/Response Structure": tag, size
-- and code). The cancel frame is this project's own.
use Rattle.std.specs.Prelude.{ℕ, zero, suc, ◌==◌, ◌&&◌, not, nat_lt, nat_le, Bool, true, false, List, [], ◌∷◌, length, take, drop, if◌then◌else◌}
use Rattle.std.specs.Int.{w16, w32, from_be_bytes}
use Rattle.tab_spec.specs.declared.TheConstants.{HEADER_BYTES, MOST_BYTES, ST_NO_SESSIONS, CC_CANCEL}

-- the three fields of a header
abbrev pub tag_of : List ℕ → ℕ
tag_of bytes = from_be_bytes w16 (take 2 bytes)

abbrev pub size_of : List ℕ → ℕ
size_of bytes = from_be_bytes w32 (take 4 (drop 2 bytes))

abbrev pub code_of : List ℕ → ℕ
code_of bytes = from_be_bytes w32 (take 4 (drop 6 bytes))

-- whether a frame may have this size
abbrev pub is_size : ℕ → Bool
is_size size = nat_le HEADER_BYTES size && nat_le size MOST_BYTES

-- whether the bytes are exactly one frame
abbrev pub is_frame : List ℕ → Bool
is_frame bytes = is_size (length bytes) && size_of bytes == length bytes

-- what a stream spells: commands and cancels
pub data StreamItem : Type 0 where
  command : List ℕ → StreamItem
  cancel : StreamItem

-- where it ends: after a frame, within one, or before a size that no frame has
pub data StreamEnding : Type 0 where
  whole : StreamEnding
  rest : StreamEnding
  bad : ℕ → StreamEnding

pub record Frames : Type 0 where
  pub items : List StreamItem
  pub ending : StreamEnding

abbrev pub item_of : List ℕ → StreamItem
item_of frame = if tag_of frame == ST_NO_SESSIONS && size_of frame == HEADER_BYTES && code_of frame == CC_CANCEL then cancel else command frame

abbrev pub end_of : List ℕ → StreamEnding
end_of [] = whole
end_of (byte ∷ bytes) = rest

abbrev pub with_item : StreamItem → Frames → Frames
with_item item frames = record { items = item ∷ frames.items; ending = frames.ending }

-- the frames of a stream, at most so many
unfoldable pub frames_within : ℕ → List ℕ → Frames
frames_within zero bytes = record { items = []; ending = end_of bytes }
frames_within (suc most) bytes =
    if nat_lt (length bytes) 6 then record { items = []; ending = end_of bytes }
    else if not (is_size (size_of bytes)) then record { items = []; ending = bad (size_of bytes) }
    else if nat_lt (length bytes) (size_of bytes) then record { items = []; ending = rest }
    else with_item (item_of (take (size_of bytes) bytes)) (frames_within most (drop (size_of bytes) bytes))

-- the frames of a stream, of which there are never more than bytes
abbrev pub frames : List ℕ → Frames
frames bytes = frames_within (length bytes) bytes

abbrev pub commands_of : List StreamItem → List (List ℕ)
commands_of [] = []
commands_of (command bytes ∷ items) = bytes ∷ commands_of items
commands_of (cancel ∷ items) = commands_of items

-- the commands of a stream, in order
abbrev pub commands : List ℕ → List (List ℕ)
commands bytes = commands_of (frames bytes).items

-- ---- a stream that comes in pieces

-- the bytes of a stream after its frames, at most so many of them
unfoldable pub left_within : ℕ → List ℕ → List ℕ
left_within zero bytes = bytes
left_within (suc most) bytes =
    if nat_lt (length bytes) 6 then bytes
    else if not (is_size (size_of bytes)) then bytes
    else if nat_lt (length bytes) (size_of bytes) then bytes
    else left_within most (drop (size_of bytes) bytes)

-- the bytes of a stream after its whole frames
abbrev pub left_of : List ℕ → List ℕ
left_of bytes = left_within (length bytes) bytes

abbrev pub is_bad : StreamEnding → Bool
is_bad whole = false
is_bad rest = false
is_bad (bad size) = true

-- whether a stream meets a size that no frame has
abbrev pub meets_bad_size : List ℕ → Bool
meets_bad_size bytes = is_bad (frames bytes).ending

-- the code that a wrong answer is reported by: its own, where it has a whole header
abbrev pub reported_code : List ℕ → ℕ
reported_code last = if nat_lt (length last) HEADER_BYTES then 0 else code_of last
