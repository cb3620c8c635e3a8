-- How sessions begin (Part 3, "TPM2_StartAuthSession"). The order of the faults is this project's own profile. What a session is, and its
-- spelling as bytes, is in Session.antt of tab_spec.
use Rattle.std.specs.Prelude.{ℕ, ◌+◌, ◌*◌, ◌==◌, not, nat_le, List, length, replicate, Option, Some, None, Result, Ok, Err, if◌then◌else◌}
use Rattle.tab_spec.specs.declared.TheConstants.{ALG_NULL, ALG_SHA256, RC_SIZE, RC_VALUE, RC_HASH, RC_INSUFFICIENT, RC_P, RC_1}
use Rattle.tab_spec.specs.declared.SessionKind.{SessionKind}
use Rattle.tab_spec.specs.declared.AuthNeeded.TheVariants as needs
use Rattle.tab_spec.specs.Values.{Reading, number16, number8, sized, sized_bytes, ◌>>=◌, require}
use Rattle.tab_spec.specs.Parameters.{in_parameter, when_read}
use Rattle.tab_spec.specs.Admission.{unless_fault}
use Rattle.tab_spec.specs.Session.{is_kind_number, is_nonce, kind_of, Session}
use Rattle.tab_spec.specs.Persist.{Persist, drawn}

-- ---- how they begin (Part 3, "TPM2_StartAuthSession")

-- the parameters of StartAuthSession
pub record StartParameters : Type 0 where
  pub nonce : List ℕ
  pub salt : List ℕ
  pub kind : ℕ
  pub symmetric : ℕ
  pub hash : ℕ

abbrev pub start_parameters_of : List ℕ → Reading StartParameters
start_parameters_of params = do
  (nonce, rest) ← in_parameter 1 (require (λ nonce. nat_le (length nonce) 64) RC_SIZE (sized RC_INSUFFICIENT params))
  (salt, rest) ← in_parameter 2 (require (λ salt. nat_le (length salt) 256) RC_SIZE (sized RC_INSUFFICIENT rest))
  (kind, rest) ← in_parameter 3 (number8 RC_INSUFFICIENT rest)
  (symmetric, rest) ← in_parameter 4 (number16 RC_INSUFFICIENT rest)
  (hash, rest) ← in_parameter 5 (number16 RC_INSUFFICIENT rest)
  Ok (record { nonce = nonce; salt = salt; kind = kind; symmetric = symmetric; hash = hash }, rest)

-- the first fault of these
abbrev pub start_parameters_fault : StartParameters → Option ℕ
start_parameters_fault b =
    if not (is_nonce b.nonce) then Some (RC_SIZE + RC_P + RC_1)
    else if not (length b.salt == 0) then Some (RC_VALUE + RC_P + RC_1 * 2)
    else if not (is_kind_number b.kind) then Some (RC_VALUE + RC_P + RC_1 * 3)
    else if not (b.symmetric == ALG_NULL) then Some (RC_VALUE + RC_P + RC_1 * 4)
    else if not (b.hash == ALG_SHA256) then Some (RC_HASH + RC_P + RC_1 * 5)
    else None

-- a session that was just started, with a nonceTPM of as many bytes as the nonceCaller has
abbrev pub initial_session : SessionKind → List ℕ → Session
initial_session kind nonce = record { kind = kind; nonce = nonce; digest = replicate 32 0; command_code = None; needed = needs.Nothing; pcr_updates = None }

abbrev pub initial_session_with : SessionKind → Result (List ℕ × Persist) ℕ → Result (Session × Persist) ℕ
initial_session_with kind draw = do
  (nonce, kept) ← draw
  Ok (initial_session kind nonce, kept)

-- the parameters of StartAuthSession, or the code of their first fault: what is asked before anything of the
-- device is looked at
abbrev pub start_check : List ℕ → Result StartParameters ℕ
start_check params = when_read (start_parameters_of params) (λ b. unless_fault (start_parameters_fault b) (Ok b))

-- a session that started: what is kept then, and the parameters of the response
abbrev pub started_session : Result (Session × Persist) ℕ → Result (Session × Persist × List ℕ) ℕ
started_session started = do
  (s, kept) ← started
  Ok (s, kept, sized_bytes s.nonce)

abbrev pub session_started : Persist → Result StartParameters ℕ → Result (Session × Persist × List ℕ) ℕ
session_started persist checked = do
  b ← checked
  started_session (initial_session_with (kind_of b.kind) (drawn persist (length b.nonce)))

-- StartAuthSession, where there is room for a session: its nonceTPM is drawn
abbrev pub start_session_row : Persist → List ℕ → Result (Session × Persist × List ℕ) ℕ
start_session_row persist params = session_started persist (start_check params)
