-- Frames and histories that the worked examples speak of.
use Rattle.std.specs.Prelude.{ℕ, List, [], ◌∷◌, replicate}
use Rattle.tab_spec.specs.Persist.{Persist, fresh_persist}
use Rattle.tab_spec.specs.declared.contexts.TheConstants.{PROFILE_CONTEXTS, TPM_CONTEXTS}
use Rattle.history_spec.specs.declared.Pick.TheVariants.{Nothing}
use Rattle.history_spec.specs.Entry.{Entry, canceled_entry, close_entry, command_entry, fault_entry, open_entry}
use Rattle.history_spec.specs.Told.{Limits}

-- GetRandom of so many bytes, below 256
abbrev pub get_random : ℕ → List ℕ
get_random count = 0x80 ∷ 0x01 ∷ 0 ∷ 0 ∷ 0 ∷ 0x0c ∷ 0 ∷ 0 ∷ 0x01 ∷ 0x7b ∷ 0 ∷ count ∷ []

-- Load under the object of the handle 0x80000000
abbrev pub load_object : List ℕ
load_object = 0x80 ∷ 0x02 ∷ 0 ∷ 0 ∷ 0 ∷ 0x0e ∷ 0 ∷ 0 ∷ 0x01 ∷ 0x57 ∷ 0x80 ∷ 0 ∷ 0 ∷ 0 ∷ []

-- ContextLoad of an object whose savedHandle is 0x80000002, as far as that
abbrev pub load_st_clear : List ℕ
load_st_clear = 0x80 ∷ 0x01 ∷ 0 ∷ 0 ∷ 0 ∷ 0x16 ∷ 0 ∷ 0 ∷ 0x01 ∷ 0x61 ∷ 0 ∷ 0 ∷ 0 ∷ 0 ∷ 0 ∷ 0 ∷ 0 ∷ 0 ∷ 0x80 ∷ 0 ∷ 0 ∷ 0x02 ∷ []

-- a journal of so many bytes, over a device of the profile, and over another TPM
abbrev pub limit_of : ℕ → Limits
limit_of bytes = record { bytes = bytes; contexts = PROFILE_CONTEXTS }

abbrev pub tpm_limit_of : ℕ → Limits
tpm_limit_of bytes = record { bytes = bytes; contexts = TPM_CONTEXTS }

abbrev pub cancel_frame : List ℕ
cancel_frame = 0x80 ∷ 0x01 ∷ 0 ∷ 0 ∷ 0 ∷ 0x0a ∷ 0x20 ∷ 0 ∷ 0 ∷ 0x01 ∷ []

-- what refuses a command for lack of memory, of room in the journal, and for a failed transmission
abbrev pub memory_reply : List ℕ
memory_reply = 0x80 ∷ 0x01 ∷ 0 ∷ 0 ∷ 0 ∷ 0x0a ∷ 0 ∷ 0x0b ∷ 0 ∷ 0x01 ∷ []

abbrev pub full_reply : List ℕ
full_reply = 0x80 ∷ 0x01 ∷ 0 ∷ 0 ∷ 0 ∷ 0x0a ∷ 0 ∷ 0x0b ∷ 0 ∷ 0x03 ∷ []

abbrev pub fault_reply : List ℕ
fault_reply = 0x80 ∷ 0x01 ∷ 0 ∷ 0 ∷ 0 ∷ 0x0a ∷ 0 ∷ 0x0b ∷ 0 ∷ 0x02 ∷ []

-- what answers a canceled command
abbrev pub canceled_reply : List ℕ
canceled_reply = 0x80 ∷ 0x01 ∷ 0 ∷ 0 ∷ 0 ∷ 0x0a ∷ 0 ∷ 0 ∷ 0x09 ∷ 0x09 ∷ []

-- the seed is zero, and so many words of its random stream were drawn
abbrev pub zero_persist : ℕ → Persist
zero_persist place = record (fresh_persist (replicate 32 0)) { place = place }

-- the replies with the first eight bytes of that stream, six from its third word on, and four from its fifth
abbrev pub eight_reply : List ℕ
eight_reply =
    0x80 ∷ 0x01 ∷ 0 ∷ 0 ∷ 0 ∷ 0x14 ∷ 0 ∷ 0 ∷ 0 ∷ 0 ∷ 0 ∷ 8 ∷ 0x76 ∷ 0xb8 ∷ 0xe0 ∷ 0xad ∷ 0xa0 ∷ 0xf1 ∷ 0x3d ∷ 0x90 ∷ []

abbrev pub six_reply : List ℕ
six_reply = 0x80 ∷ 0x01 ∷ 0 ∷ 0 ∷ 0 ∷ 0x12 ∷ 0 ∷ 0 ∷ 0 ∷ 0 ∷ 0 ∷ 6 ∷ 0x40 ∷ 0x5d ∷ 0x6a ∷ 0xe5 ∷ 0x53 ∷ 0x86 ∷ []

abbrev pub four_reply : List ℕ
four_reply = 0x80 ∷ 0x01 ∷ 0 ∷ 0 ∷ 0 ∷ 0x10 ∷ 0 ∷ 0 ∷ 0 ∷ 0 ∷ 0 ∷ 4 ∷ 0xbd ∷ 0xd2 ∷ 0x19 ∷ 0xb8 ∷ []

-- a client's command that leaves no choice
abbrev pub plain_entry : ℕ → ℕ → List ℕ → List ℕ → Entry
plain_entry client number bytes reply = command_entry client number Nothing bytes reply

-- a failed transmission of the client 0, at this fault count
abbrev pub failed_entry : ℕ → ℕ → Entry
failed_entry number faults = fault_entry 0 number faults (get_random 8) fault_reply

-- the client 0 canceled its commands up to a number, before this one ran
abbrev pub canceled_before : ℕ → ℕ → Entry
canceled_before number upto = canceled_entry 0 number upto (get_random 8) canceled_reply

-- the first command is canceled, and the second draws
abbrev pub canceled_first : List Entry
canceled_first = open_entry 0 ∷ canceled_before 1 1 ∷ plain_entry 0 2 (get_random 4) four_reply ∷ []

-- two clients draw from one random stream by turns
abbrev pub two_clients : List Entry
two_clients =
    open_entry 0 ∷ plain_entry 0 1 (get_random 8) eight_reply ∷ open_entry 1 ∷ plain_entry 1 1 (get_random 6) six_reply
    ∷ plain_entry 0 2 (get_random 4) four_reply ∷ close_entry 0 ∷ close_entry 1 ∷ []
