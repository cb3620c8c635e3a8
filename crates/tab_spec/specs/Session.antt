-- Sessions as a device holds them, and their one spelling as bytes (Part 1, "Session-Based Authorizations"), which is this project's own
-- profile.
use Rattle.std.specs.Prelude.{◌≡◌, ℕ, ◌==◌, ◌&&◌, ◌||◌, not, Bool, true, false, List, ◌∷◌, Option, Some, None, if◌then◌else◌, ◌+◌, ◌^◌, ◌<◌, nat_lt, nat_le, ◌++◌, length, replicate, bit_and, IfSome, is_some, Ok}
use Rattle.tab_spec.specs.declared.SessionKind.{SessionKind}
use Rattle.tab_spec.specs.declared.AuthNeeded.{AuthNeeded}
use Rattle.tab_spec.specs.declared.TheConstants.{HT_HMAC_SESSION, HT_POLICY_SESSION, RC_SIZE}
use Rattle.std.specs.Int.{w32, to_be_bytes}
use Rattle.tab_spec.specs.declared.SessionKind.TheVariants as kinds
use Rattle.tab_spec.specs.declared.AuthNeeded.TheVariants as needs
use Rattle.tab_spec.specs.Values.{sized_bytes, Reading, number32, number8, fixed_bytes, sized, ◌>>=◌, require}

-- a session as a device holds it (Part 1, "Session-Based Authorizations")
pub record Session : Type 0 where
  pub kind : SessionKind
  pub nonce : List ℕ
  pub digest : List ℕ
  -- the command that its policy is for, where it is for one alone
  pub command_code : Option ℕ
  pub needed : AuthNeeded
  -- the PCR update count that has to be the present one, where its policy asks for that
  pub pcr_updates : Option ℕ

-- the session as it began, but for its nonce (Part 3, "TPM2_PolicyRestart")
abbrev pub restarted : Session → Session
restarted s = record s { digest = replicate 32 0; command_code = None; needed = needs.Nothing; pcr_updates = None }

-- whether a command code or an update count that is kept is another than the present one; false where none is kept
abbrev pub is_set_to_another : Option ℕ → ℕ → Bool
is_set_to_another None present = false
is_set_to_another (Some kept) present = not (kept == present)

-- the types of a session (Part 2, "TPM_SE")
abbrev pub kind_number : SessionKind → ℕ
kind_number kinds.Hmac = 0
kind_number kinds.Policy = 1
kind_number kinds.Trial = 3

abbrev pub kind_of : ℕ → SessionKind
kind_of number = if number == 0 then kinds.Hmac else if number == 1 then kinds.Policy else kinds.Trial

abbrev pub is_kind_number : ℕ → Bool
is_kind_number number = number == 0 || number == 1 || number == 3

-- the first octet of the handle of a session (Part 2, "TPM_HT")
abbrev pub kind_octet : SessionKind → ℕ
kind_octet kinds.Hmac = HT_HMAC_SESSION
kind_octet kinds.Policy = HT_POLICY_SESSION
kind_octet kinds.Trial = HT_POLICY_SESSION

-- bit 0 asks for the auth value, bit 1 for the password, and bit 2 says that an update count is kept
abbrev pub needed_flags : AuthNeeded → ℕ
needed_flags needs.Nothing = 0
needed_flags needs.AuthValue = 1
needed_flags needs.Password = 2

abbrev pub needed_of : ℕ → AuthNeeded
needed_of flags = if bit_and 1 flags == 1 then needs.AuthValue else if bit_and 2 flags == 2 then needs.Password else needs.Nothing

abbrev pub flags_of : Session → ℕ
flags_of s = needed_flags s.needed + (if is_some s.pcr_updates then 4 else 0)

abbrev pub are_flags : ℕ → Bool
are_flags flags = nat_lt flags 8 && not (bit_and 3 flags == 3)

-- a number that may be none, as 0
abbrev pub or_0 : Option ℕ → ℕ
or_0 None = 0
or_0 (Some number) = number

abbrev pub unless_0 : ℕ → Option ℕ
unless_0 number = if number == 0 then None else Some number

abbrev pub session_bytes : Session → List ℕ
session_bytes s =
    kind_number s.kind ∷ sized_bytes s.nonce ++ s.digest ++ to_be_bytes w32 (or_0 s.command_code) ++ flags_of s ∷ to_be_bytes w32 (or_0 s.pcr_updates)

-- the sizes that a nonceTPM and a nonceCaller may have
abbrev pub is_nonce : List ℕ → Bool
is_nonce nonce = nat_le 16 (length nonce) && nat_le (length nonce) 32

-- an update count is 0 where it isn't kept
abbrev pub updates_fit : ℕ → ℕ → Bool
updates_fit flags updates = bit_and 4 flags == 4 || updates == 0

abbrev pub session_of : List ℕ → Reading Session
session_of bytes = do
  (kind, rest) ← require is_kind_number RC_SIZE (number8 RC_SIZE bytes)
  (nonce, rest) ← require is_nonce RC_SIZE (sized RC_SIZE rest)
  (digest, rest) ← fixed_bytes 32 RC_SIZE rest
  (code, rest) ← number32 RC_SIZE rest
  (flags, rest) ← require are_flags RC_SIZE (number8 RC_SIZE rest)
  (updates, rest) ← require (updates_fit flags) RC_SIZE (number32 RC_SIZE rest)
  Ok (
    record {
      kind = kind_of kind;
      nonce = nonce;
      digest = digest;
      command_code = unless_0 code;
      needed = needed_of flags;
      pcr_updates = if bit_and 4 flags == 4 then Some updates else None;
    },
    rest,
  )

-- a session that a device of this profile may hold
pub record IsSession (s : Session) : Type 0 where
  pub nonce : is_nonce s.nonce ≡ true
  pub digest : length s.digest ≡ 32
  pub command_code : IfSome s.command_code (λ code. (0 < code) × (code < 2 ^ 32))
  pub pcr_updates : IfSome s.pcr_updates (λ updates. updates < 2 ^ 32)
