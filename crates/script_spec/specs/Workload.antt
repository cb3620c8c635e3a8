-- The script of a workload: lines that a number chooses, by the words of ChaCha8.
use Rattle.std.specs.Prelude.{ℕ, zero, suc, ◌+◌, ◌%◌, ◌==◌, ◌&&◌, List, [], ◌∷◌, ◌++◌, replicate, codes, if◌then◌else◌}
use Rattle.std.specs.Fmt.{decimal}
use Rattle.std.specs.Int.{w16, w32, w64, to_be_bytes}
use Rattle.hex.specs.Hex.{encode_lower}
use Rattle.rand_chacha.specs.ChaCha.{word_at, key_of}
use Rattle.tab_spec.specs.declared.TheConstants.{ST_NO_SESSIONS, ST_SESSIONS, CC_CREATE_PRIMARY, CC_FLUSH_CONTEXT, CC_GET_CAPABILITY, CC_GET_RANDOM, CC_PCR_EXTEND, CC_POLICY_GET_DIGEST, CC_READ_PUBLIC, CC_START_AUTH_SESSION, RH_NULL, RH_OWNER, RS_PW, TRANSIENT_FIRST}
use Rattle.tab_spec.specs.Reply.{response}

-- ---- words

-- the key: the start as eight bytes, the highest first, four times
abbrev pub workload_key : ℕ → List ℕ
workload_key start = let eight = to_be_bytes w64 start in key_of (eight ++ eight ++ eight ++ eight)

-- the word at a place of stream 0; ChaCha8 makes four double rounds
abbrev pub word_of : List ℕ → ℕ → ℕ
word_of key place = word_at 4 key 0 place

-- ---- commands; they have the form of a response

abbrev pub plain_command : ℕ → List ℕ → List ℕ
plain_command code parameters = response ST_NO_SESSIONS code parameters

-- the empty password authorizes the handle
abbrev pub password_command : ℕ → ℕ → List ℕ → List ℕ
password_command code handle parameters =
    response ST_SESSIONS code (to_be_bytes w32 handle ++ to_be_bytes w32 9 ++ to_be_bytes w32 RS_PW ++ 0 ∷ 0 ∷ 0 ∷ 0 ∷ 0 ∷ [] ++ parameters)

-- the parameters of CreatePrimary for an HMAC key: an empty sensitive area, the public area, no outside information, no PCR
abbrev pub hmac_key_parameters : List ℕ
hmac_key_parameters =
    0 ∷ 4 ∷ 0 ∷ 0 ∷ 0 ∷ 0 ∷ 0 ∷ 16 ∷ 0 ∷ 0x08 ∷ 0 ∷ 0x0b ∷ 0 ∷ 0x04 ∷ 0 ∷ 0x72 ∷ 0 ∷ 0 ∷ 0 ∷ 0x05 ∷ 0 ∷ 0x0b ∷ 0 ∷ 0 ∷ 0 ∷ 0 ∷ 0 ∷ 0 ∷ 0 ∷ 0 ∷ []

-- those of StartAuthSession for a policy session: neither key nor bind, a nonce of 32 zeros, no salt, no cipher, SHA-256
abbrev pub policy_session_parameters : List ℕ
policy_session_parameters =
    to_be_bytes w32 RH_NULL ++ to_be_bytes w32 RH_NULL ++ 0 ∷ 32 ∷ replicate 32 0 ++ 0 ∷ 0 ∷ 1 ∷ 0 ∷ 0x10 ∷ 0 ∷ 0x0b ∷ []

-- those of GetCapability for the transient handles, up to 254
abbrev pub objects_parameters : List ℕ
objects_parameters = to_be_bytes w32 1 ++ to_be_bytes w32 TRANSIENT_FIRST ++ to_be_bytes w32 254

-- those of PCR_Extend by 32 zeros, with SHA-256
abbrev pub zeros_parameters : List ℕ
zeros_parameters = to_be_bytes w32 1 ++ 0 ∷ 0x0b ∷ replicate 32 0

-- ---- lines

-- the command that a choice below 8 and a number stand for
abbrev pub workload_command : ℕ → ℕ → List ℕ
workload_command choice number =
    if choice == 0 then plain_command CC_GET_RANDOM (to_be_bytes w16 (number % 33))
    else if choice == 1 then password_command CC_CREATE_PRIMARY RH_OWNER hmac_key_parameters
    else if choice == 2 then plain_command CC_READ_PUBLIC (to_be_bytes w32 (TRANSIENT_FIRST + number % 6))
    else if choice == 3 then plain_command CC_START_AUTH_SESSION policy_session_parameters
    else if choice == 4 then plain_command CC_FLUSH_CONTEXT (to_be_bytes w32 (TRANSIENT_FIRST + number % 6))
    else if choice == 5 then plain_command CC_POLICY_GET_DIGEST (to_be_bytes w32 (0x03000000 + number % 64))
    else if choice == 6 then plain_command CC_GET_CAPABILITY objects_parameters
    else password_command CC_PCR_EXTEND (number % 24) zeros_parameters

-- what stands behind the label and the space
abbrev pub workload_action : ℕ → ℕ → List ℕ
workload_action choice number =
    if choice == 7 && number % 8 == 0 then codes "close" else encode_lower (workload_command choice number)

-- the line of three words: the label's, the choice's, and the number
unfoldable pub line_of_words : ℕ → ℕ → ℕ → List ℕ
line_of_words a b c = decimal (a % 8) ++ 32 ∷ workload_action (b % 8) c ++ 10 ∷ []

-- the line whose three words begin at this place
abbrev pub line_at : List ℕ → ℕ → List ℕ
line_at key place = line_of_words (word_of key place) (word_of key (place + 1)) (word_of key (place + 2))

-- so many lines, one after another, the words of the first of which begin at this place
unfoldable pub lines_from : List ℕ → ℕ → ℕ → List ℕ
lines_from key place zero = []
lines_from key place (suc count) = line_at key place ++ lines_from key (place + 3) count

-- the script of so many lines
abbrev pub workload_text : ℕ → ℕ → List ℕ
workload_text start lines = lines_from (workload_key start) 0 lines
