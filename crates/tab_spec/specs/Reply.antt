-- The two forms of a response (Part 1, "Command/Response Structure"). Which tag an error has is this
-- project's own profile.
use Rattle.std.specs.Prelude.{ℕ, ◌+◌, ◌==◌, nat_lt, List, [], ◌++◌, length, take, drop, Option, Some, None, if◌then◌else◌}
use Rattle.std.specs.Int.{w16, w32, to_be_bytes, from_be_bytes}
use Rattle.tab_spec.specs.declared.TheConstants.{HEADER_BYTES, ST_RSP_COMMAND, ST_NO_SESSIONS, RC_BAD_TAG}

-- tag, size and code, and what follows them
abbrev pub response : ℕ → ℕ → List ℕ → List ℕ
response tag code body = to_be_bytes w16 tag ++ to_be_bytes w32 (HEADER_BYTES + length body) ++ to_be_bytes w32 code ++ body

-- the ten bytes that tell an error
abbrev pub error_reply : ℕ → List ℕ
error_reply code = response (if code == RC_BAD_TAG then ST_RSP_COMMAND else ST_NO_SESSIONS) code []

-- the response handle, which stands after the header of a response that has one (Part 1, "Response Handle Area")
abbrev pub response_handle_of : List ℕ → Option ℕ
response_handle_of bytes = if nat_lt (length bytes) 14 then None else Some (from_be_bytes w32 (take 4 (drop 10 bytes)))

-- the response with another handle
abbrev pub with_response_handle : List ℕ → ℕ → List ℕ
with_response_handle bytes handle = take 10 bytes ++ to_be_bytes w32 handle ++ drop 14 bytes
