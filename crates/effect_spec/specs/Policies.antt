-- Policies of sessions (Part 1, "Enhanced Authorization"; Part 3, "Enhanced Authorization (EA) Commands"). What is kept beside the digest, and the
-- order of the faults, are this project's own profile.
use Rattle.std.specs.Prelude.{ℕ, suc, zero, ◌+◌, ◌*◌, ◌==◌, ◌||◌, ◌&&◌, not, nat_le, Bool, true, false, List, [], ◌∷◌, ◌++◌, length, replicate, bytes_eq, Option, Some, None, Result, Ok, Err, if◌then◌else◌}
use Rattle.std.specs.Int.{w32, to_be_bytes}
use Rattle.std.specs.List.{list_any}
use Rattle.sha2.specs.Sha256.{sha256}
use Rattle.tab_spec.specs.declared.TheConstants.{RH_NULL, RC_NONCE, RC_SIZE, RC_VALUE, RC_INSUFFICIENT, RC_PCR_CHANGED, RC_P, RC_1, CC_POLICY_SECRET, CC_POLICY_AUTH_VALUE, CC_POLICY_COMMAND_CODE, CC_POLICY_OR, CC_POLICY_PCR}
use Rattle.tab_spec.specs.declared.SessionKind.{SessionKind}
use Rattle.tab_spec.specs.declared.SessionKind.TheVariants as kinds
use Rattle.tab_spec.specs.declared.AuthNeeded.{AuthNeeded}
use Rattle.tab_spec.specs.Session.{Session, is_set_to_another, restarted}
use Rattle.tab_spec.specs.Parameters.{nothing_of, when_read, in_parameter}
use Rattle.tab_spec.specs.Values.{sized_bytes, number32, PcrSelection, Reading, is_policy, selection_of, sized, ◌>>=◌, require, selection_bytes}
use Rattle.tab_spec.specs.Persist.{Persist, selected_digest}

-- ---- what they share

abbrev pub is_trial_kind : SessionKind → Bool
is_trial_kind kinds.Hmac = false
is_trial_kind kinds.Policy = false
is_trial_kind kinds.Trial = true

-- a trial session finds out a digest: what the policy asks for isn't tested
abbrev pub is_trial : Session → Bool
is_trial s = is_trial_kind s.kind

-- the digest with a command's code and more after it
abbrev pub extended_digest : List ℕ → ℕ → List ℕ → List ℕ
extended_digest old code more = sha256 (old ++ to_be_bytes w32 code ++ more)

-- a row whose response has no parameters
abbrev pub silent_policy : Result Session ℕ → Result (Session × List ℕ) ℕ
silent_policy row = do
  s ← row
  Ok (s, [])

-- ---- PolicyRestart, PolicyGetDigest, PolicyAuthValue, PolicyPassword

abbrev pub policy_restart_row : Session → List ℕ → Result Session ℕ
policy_restart_row s params = when_read (nothing_of params) (λ none. Ok (restarted s))

abbrev pub policy_get_digest_row : Session → List ℕ → Result (List ℕ) ℕ
policy_get_digest_row s params = when_read (nothing_of params) (λ none. Ok (sized_bytes s.digest))

-- both extend the digest by the same code; the last of them decides what is needed
abbrev pub policy_needs_row : AuthNeeded → Session → List ℕ → Result Session ℕ
policy_needs_row needed s params =
    when_read (nothing_of params) (λ none. Ok (record s { digest = extended_digest s.digest CC_POLICY_AUTH_VALUE []; needed = needed }))

-- ---- PolicyCommandCode

abbrev pub policy_command_code_row : Session → List ℕ → Result Session ℕ
policy_command_code_row s params =
    when_read (in_parameter 1 (number32 RC_INSUFFICIENT params)) (λ code.
    if code == 0 || is_set_to_another s.command_code code then Err (RC_VALUE + RC_P + RC_1)
    else Ok (record s { digest = extended_digest s.digest CC_POLICY_COMMAND_CODE (to_be_bytes w32 code); command_code = Some code }))

-- ---- PolicyPCR

abbrev pub pcr_policy_of : List ℕ → Reading (List ℕ × PcrSelection)
pcr_policy_of params = do
  (digest, rest) ← in_parameter 1 (require is_policy RC_SIZE (sized RC_INSUFFICIENT params))
  (selection, rest) ← in_parameter 2 (selection_of rest)
  Ok ((digest, selection), rest)

abbrev pub with_pcrs : Persist → Session → PcrSelection → List ℕ → Session
with_pcrs persist s selection digest = record s {
  digest = extended_digest s.digest CC_POLICY_PCR (selection_bytes selection ++ digest);
  pcr_updates = if is_trial s then s.pcr_updates else Some persist.updates;
}

-- an empty digest stands for that of the selection
abbrev pub pcr_policed : Persist → Session → List ℕ → PcrSelection → Result Session ℕ
pcr_policed persist s given selection =
    let present = selected_digest persist.pcrs selection.bits in
    if length given == 0 then Ok (with_pcrs persist s selection present)
    else if is_trial s || bytes_eq given present then Ok (with_pcrs persist s selection given)
    else Err (RC_VALUE + RC_P + RC_1)

abbrev pub policy_pcr_row : Persist → Session → List ℕ → Result Session ℕ
policy_pcr_row persist s params =
    when_read (pcr_policy_of params) (λ given.
    if is_set_to_another s.pcr_updates persist.updates then Err RC_PCR_CHANGED else pcr_policed persist s given.0 given.1)

-- ---- PolicyOR

-- so many digests, one after the other
abbrev pub digests_of : ℕ → List ℕ → Reading (List (List ℕ))
digests_of zero bytes = Ok ([], bytes)
digests_of (suc more) bytes = do
  (digest, rest) ← require (λ digest. length digest == 32) RC_SIZE (sized RC_INSUFFICIENT bytes)
  (digests, rest) ← digests_of more rest
  Ok (digest ∷ digests, rest)

abbrev pub branches_of : List ℕ → Reading (List (List ℕ))
branches_of bytes = do
  (count, rest) ← require (λ count. nat_le 2 count && nat_le count 8) RC_SIZE (number32 RC_INSUFFICIENT bytes)
  digests_of count rest

abbrev pub joined : List (List ℕ) → List ℕ
joined [] = []
joined (digest ∷ digests) = digest ++ joined digests

abbrev pub policy_or_row : Session → List ℕ → Result Session ℕ
policy_or_row s params =
    when_read (in_parameter 1 (branches_of params)) (λ branches.
    if is_trial s || list_any (λ branch. bytes_eq branch s.digest) branches
    then Ok (record s { digest = extended_digest (replicate 32 0) CC_POLICY_OR (joined branches) })
    else Err (RC_VALUE + RC_P + RC_1))

-- ---- PolicySecret

pub record SecretPolicy : Type 0 where
  pub nonce : List ℕ
  pub cp_hash : List ℕ
  pub policy_ref : List ℕ
  pub expiration : ℕ

abbrev pub secret_policy_of : List ℕ → Reading SecretPolicy
secret_policy_of params = do
  (nonce, rest) ← in_parameter 1 (require (λ nonce. nat_le (length nonce) 32) RC_SIZE (sized RC_INSUFFICIENT params))
  (cp_hash, rest) ← in_parameter 2 (require (λ hash. nat_le (length hash) 32) RC_SIZE (sized RC_INSUFFICIENT rest))
  (policy_ref, rest) ← in_parameter 3 (require (λ ref. nat_le (length ref) 64) RC_SIZE (sized RC_INSUFFICIENT rest))
  (expiration, rest) ← in_parameter 4 (number32 RC_INSUFFICIENT rest)
  Ok (record { nonce = nonce; cp_hash = cp_hash; policy_ref = policy_ref; expiration = expiration }, rest)

abbrev pub secret_fault : Session → SecretPolicy → Option ℕ
secret_fault s given =
    if not (length given.nonce == 0 || bytes_eq given.nonce s.nonce) then Some (RC_NONCE + RC_P + RC_1)
    else if not (length given.cp_hash == 0) then Some (RC_VALUE + RC_P + RC_1 * 2)
    else if not (given.expiration == 0) then Some (RC_VALUE + RC_P + RC_1 * 4)
    else None

-- no timeout, and a NULL ticket (Part 2, "TPMT_TK_AUTH")
abbrev pub secret_answer : List ℕ
secret_answer = 0 ∷ 0 ∷ 0x80 ∷ 0x23 ∷ to_be_bytes w32 RH_NULL ++ 0 ∷ 0 ∷ []

abbrev pub secret_policed : Session → List ℕ → SecretPolicy → Option ℕ → Result (Session × List ℕ) ℕ
secret_policed s name given (Some code) = Err code
secret_policed s name given None =
    Ok (record s { digest = sha256 (extended_digest s.digest CC_POLICY_SECRET name ++ given.policy_ref) }, secret_answer)

-- with the Name of the entity whose secret was shown
abbrev pub policy_secret_row : Session → List ℕ → List ℕ → Result (Session × List ℕ) ℕ
policy_secret_row s name params = when_read (secret_policy_of params) (λ given. secret_policed s name given (secret_fault s given))
