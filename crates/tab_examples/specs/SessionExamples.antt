-- Worked examples of sessions and their policies, which the examples in src/ cite. A session of the examples has a nonce of 32 ones, and its policy
-- digest is 32 zeros. The hashes were computed by another program.
use Rattle.std.specs.Prelude.{ℕ, ◌+◌, List, [], ◌∷◌, ◌++◌, length, replicate, flat_map, Some}
use Rattle.tab_spec.specs.declared.Auth.{Auth}
use Rattle.tab_spec.specs.declared.SessionKind.TheVariants.{Hmac, Trial}
use Rattle.tab_spec.specs.declared.AuthNeeded.TheVariants.{Password}
use Rattle.tab_spec.specs.declared.TheConstants.{CC_UNSEAL}
use Rattle.tab_spec.specs.Persist.{Persist}
use Rattle.tab_spec.specs.Session.{Session}
use Rattle.tab_examples.specs.Examples.{bytes_of, policy_session, u32, with_indexes}
use Rattle.tab_spec.specs.Values.{sized_bytes}

-- ---- sessions

abbrev pub hmac_session : Session
hmac_session = record policy_session { kind = Hmac }

abbrev pub trial_session : Session
trial_session = record policy_session { kind = Trial }

-- a policy session after commands that changed all that a policy command may change
abbrev pub used_session : Session
used_session = record policy_session { digest = replicate 32 2; command_code = Some CC_UNSEAL; needed = Password; pcr_updates = Some 7 }

-- ---- commands of policies

-- what a device keeps whose PCRs are zero, and were updated so often
abbrev pub updated : ℕ → Persist
updated updates = record (with_indexes []) { updates = updates }

-- the parameters of PolicyPCR: a digest, and PCR 0 or PCR 7 alone
abbrev pub pcr_0 : List ℕ → List ℕ
pcr_0 digest = sized_bytes digest ++ u32 1 ++ 0 ∷ 0x0b ∷ 3 ∷ 0x01 ∷ 0 ∷ 0 ∷ []

abbrev pub pcr_7 : List ℕ → List ℕ
pcr_7 digest = sized_bytes digest ++ u32 1 ++ 0 ∷ 0x0b ∷ 3 ∷ 0x80 ∷ 0 ∷ 0 ∷ []

-- the hash of a PCR that is zero
abbrev pub zero_pcr : List ℕ
zero_pcr = bytes_of 32 0x66687aadf862bd776c8fc18b8e9f8e20089714856ee233b3902a591d0d5f2925

-- the digests after PolicyAuthValue or PolicyPassword, after two of them, after PolicyCommandCode of HMAC, and after PolicyPCR of PCR 0
abbrev pub value_digest : List ℕ
value_digest = bytes_of 32 0x8fcd2169ab92694e0c633f1ab772842b8241bbc20288981fc7ac1eddc1fddb0e

abbrev pub two_values_digest : List ℕ
two_values_digest = bytes_of 32 0x759ebd5ed65100e0b4aa2d04b4b789c2672d92ecc9cdda4b5fa16a303132e008

abbrev pub code_digest : List ℕ
code_digest = bytes_of 32 0x14d27f7b1c2d6ce4f11708c7dae90c7f425b343f8797b62889e3571159e0a694

abbrev pub pcr_0_digest : List ℕ
pcr_0_digest = bytes_of 32 0x093ceb41181d47808862d7946268ee6a17a10e3d1b79b32351bc56e4beaceff0

-- the parameters of PolicyOR: digests of 32 equal bytes each
abbrev pub branches : List ℕ → List ℕ
branches bytes = u32 (length bytes) ++ flat_map (λ byte. 0 ∷ 32 ∷ replicate 32 byte) bytes

abbrev pub secret_reply : List ℕ
secret_reply = 0 ∷ 0 ∷ 0x80 ∷ 0x23 ∷ 0x40 ∷ 0 ∷ 0 ∷ 7 ∷ 0 ∷ 0 ∷ []

-- ---- authorizations

-- an authorization by a session, in a command that is nothing but its nonceCaller and its hmac
abbrev pub session_auth : List ℕ → ℕ → List ℕ → Auth
session_auth nonce attributes hmac = record {
  session = 0x02000000;
  nonce = (0, length nonce);
  attributes = attributes;
  hmac = (length nonce, length nonce + length hmac);
}

-- a nonceCaller, and the hmacs with it and the attributes 1 under the auth value 5 and under the empty key
abbrev pub caller : List ℕ
caller = replicate 16 3

abbrev pub keyed_hmac : List ℕ
keyed_hmac = bytes_of 32 0x0fa5d2e8d8690c04078c77030f5cfd4be5ab7517a7a4dc361f9003b51f2e93bb

abbrev pub unkeyed_hmac : List ℕ
unkeyed_hmac = bytes_of 32 0x04457c7c50881f53c952c0d18502611c5d3303e30d9e8c2e73ec2cd3c028c422

-- the first bytes of the random stream of a device whose seed is zero, as nonces
abbrev pub next_16 : List ℕ
next_16 = bytes_of 16 0x76b8e0ada0f13d90405d6ae55386bd28

abbrev pub next_32 : List ℕ
next_32 = bytes_of 32 0x76b8e0ada0f13d90405d6ae55386bd28bdd219b8a08ded1aa836efcc8b770dc7
