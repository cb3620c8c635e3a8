-- Worked examples of sessions and their policies, which the examples in src/ cite. A session of the examples has a nonce of 32 ones, and its policy
-- digest is 32 zeros. The hashes were computed by another program.
use Rattle.std.specs.Prelude.{ℕ, true, List, [], ◌∷◌, ◌++◌, replicate, Option, Result}
use Rattle.std.specs.Int.{w16, to_be_bytes}
use Rattle.tab_spec.specs.declared.Auth.{Auth}
use Rattle.tab_spec.specs.declared.AuthNeeded.TheVariants.{AuthValue, Password}
use Rattle.tab_spec.specs.declared.TheConstants.{CC_NV_READ, CC_UNSEAL, RH_OWNER}
use Rattle.effect_spec.specs.Sessions.{StartParameters}
use Rattle.effect_spec.specs.SessionAuths.{SessionResponse, cp_hash, rp_hash, session_fault, session_response}
use Rattle.effect_spec.specs.Authorization.{Entity, entity_of}
use Rattle.effect_spec.specs.Operands.{Operand, absent, an_object, operand_at, plain}
use Rattle.tab_spec.specs.Persist.{Persist, fresh_persist}
use Rattle.tab_spec.specs.Session.{Session}
use Rattle.tab_examples.specs.Examples.{bytes_of, policy_session, u32}
use Rattle.tab_examples.specs.SessionExamples.{hmac_session, session_auth, two_values_digest}
use Rattle.tab_examples.specs.SessionExamples.{pcr_7, updated, zero_pcr}
use Rattle.effect_spec.specs.Policies.{policy_command_code_row, policy_needs_row, policy_pcr_row}
use Rattle.effect_spec.specs.Policies.{policy_restart_row, policy_secret_row}
use Rattle.tab_spec.specs.Values.{sized_bytes, ◌>>=◌}

-- ---- sessions

-- what starts an HMAC session, and the parameters of StartAuthSession
abbrev pub usual_start_parameters : StartParameters
usual_start_parameters = record { nonce = replicate 16 1; salt = []; kind = 0; symmetric = 0x10; hash = 0x0b }

abbrev pub start_parameter_bytes : StartParameters → List ℕ
start_parameter_bytes b = sized_bytes b.nonce ++ sized_bytes b.salt ++ b.kind ∷ to_be_bytes w16 b.symmetric ++ to_be_bytes w16 b.hash

-- ---- commands of policies

-- the parameters of PolicySecret: nonceTPM, cpHash, policyRef and expiration
abbrev pub secret : List ℕ → List ℕ → List ℕ → ℕ → List ℕ
secret nonce cp_hash policy_ref expiration = sized_bytes nonce ++ sized_bytes cp_hash ++ sized_bytes policy_ref ++ u32 expiration

-- PolicySecret of the owner by a policy session that was just begun, and the parameters of its response
abbrev pub owner_secret : List ℕ → Result (Session × List ℕ) ℕ
owner_secret params = policy_secret_row policy_session (u32 RH_OWNER) params

-- PolicyRestart after what another command makes of a session
abbrev pub restarted_after : Result Session ℕ → Result Session ℕ
restarted_after changed = do
  s ← changed
  policy_restart_row s []

-- PolicyAuthValue, then PolicyPassword
abbrev pub value_and_password : Result Session ℕ
value_and_password = do
  s ← policy_needs_row AuthValue policy_session []
  policy_needs_row Password s []

-- PolicyPCR of PCR 7, then PolicyAuthValue, then PolicyCommandCode of Sign
abbrev pub pcr_value_and_code : Result Session ℕ
pcr_value_and_code = do
  s ← policy_pcr_row (updated 5) policy_session (pcr_7 zero_pcr)
  s ← policy_needs_row AuthValue s []
  policy_command_code_row s (u32 0x15d)

-- ---- authorizations

-- an object with the auth value 5, whose policy is that of a session which was just begun
abbrev pub guarded : Entity
guarded = record { auth = 5 ∷ []; user_with_auth = true; is_object = true; policy = replicate 32 0 }

-- the first fault of an authorization of Unseal, where cpHash is the byte 9 alone and the PCR update count is 7
abbrev pub unseal_fault : Entity → Session → List ℕ → ℕ → List ℕ → Option ℕ
unseal_fault entity s nonce attributes hmac = session_fault entity s (session_auth nonce attributes hmac) (nonce ++ hmac) CC_UNSEAL (9 ∷ []) 7

-- what such an authorization leaves, where rpHash is the byte 8 alone
abbrev pub unseal_response : Persist → Entity → Session → List ℕ → ℕ → List ℕ → Result SessionResponse ℕ
unseal_response persist entity s nonce attributes hmac = session_response persist entity s (session_auth nonce attributes hmac) (nonce ++ hmac) (8 ∷ [])

-- ---- two commands that another program ran, with their replies

-- a command that a session authorizes: what is kept, what its handles stand for, its session, the place of its authorization, its code, its
-- bytes, its parameters, and those of its response
pub record SessionCommand : Type 0 where
  pub persist : Persist
  pub operands : List Operand
  pub session : Session
  pub auth : Auth
  pub code : ℕ
  pub bytes : List ℕ
  pub params : List ℕ
  pub reply_params : List ℕ

abbrev pub command_entity : SessionCommand → Entity
command_entity c = entity_of c.persist (operand_at c.operands 0)

abbrev pub command_fault : SessionCommand → Option ℕ
command_fault c = session_fault (command_entity c) c.session c.auth c.bytes c.code (cp_hash c.persist c.code c.operands c.params) c.persist.updates

abbrev pub command_response : SessionCommand → Result SessionResponse ℕ
command_response c = session_response c.persist (command_entity c) c.session c.auth c.bytes (rp_hash c.code c.reply_params)

-- NV_Read of the first five bytes of an index, by an HMAC session that ends
abbrev pub read_by_session : SessionCommand
read_by_session = record {
  persist = record (fresh_persist (bytes_of 32 0x3f23dc6fb020c5ab9c9169ca02f9cae9028f553b64d5b9a3dca707d346177a52)) {
    place = 104;
    nv = record {
      public = record { index = 0x01000101; attributes = 0x20060006; policy = []; size = 8 };
      auth = bytes_of 32 0x0c4bc3a00e939767f07fc2c7d572b2500cc475611020f1ea0721c544762608b5;
      bytes = bytes_of 8 0xdbf71d45d7a1ee37;
    } ∷ [];
    updates = 2;
  };
  operands = plain 0x01000101 ∷ plain 0x01000101 ∷ [];
  session = record hmac_session { nonce = bytes_of 20 0x7996fe105e96018e04f3b8b42f23801641180945 };
  auth = record { session = 0x02000008; nonce = (28, 29); attributes = 0; hmac = (32, 64) };
  code = CC_NV_READ;
  bytes = bytes_of 68 0x8002000000440000014e01000101010001010000002a020000080001bc0000200ca750fd88e17818c3350276796c0edb1f170ba15fa0e570016a76b848fd205f00050000;
  params = 0 ∷ 5 ∷ 0 ∷ 0 ∷ [];
  reply_params = bytes_of 7 0x0005dbf71d45d7;
}

-- Unseal by a policy session whose policy asks for the auth value, and which goes on
abbrev pub unsealed_by_policy : SessionCommand
unsealed_by_policy = record {
  persist = record (fresh_persist (bytes_of 32 0xe6bfdef3c17a47284d827fc7d26995535cdfa97929d9188888eec04ddbaa4e56)) { place = 198 };
  operands = an_object (record {
    public = record {
      form = 0x08;
      attributes = 0;
      policy = two_values_digest;
      unique = bytes_of 32 0x2a4e15dac094848ac6697b666f82ebca3a80cb7c0d67e039197521ea6617fe59;
    };
    auth = bytes_of 9 0xdf4772b9ff16cdd9ed;
    seed = bytes_of 32 0xee3091a6a1eb54b098733deb0eb48128668b8ee5d952486cff8e5869c8a3e712;
    secret = bytes_of 8 0xf6881f739602db54;
    qualified_name = bytes_of 34 0x000b7d18afde5d266123ea51ca705514a6eb1f8750650d870461d499bc0d1a667a11;
  }) ∷ absent ∷ [];
  session = record policy_session {
    nonce = bytes_of 20 0xebc061b4737f2af21cd4699bd8b2ea41f57f1e3b;
    digest = two_values_digest;
    needed = AuthValue;
  };
  auth = record { session = 0x03000004; nonce = (24, 25); attributes = 1; hmac = (28, 60) };
  code = CC_UNSEAL;
  bytes = bytes_of 60 0x80020000003c0000015e800000020000002a030000040001b70100202c36ace050b0d61cf165b6eaadfb6cafd48cf5b21e629c4023d2fcb72ea29d7a;
  params = [];
  reply_params = bytes_of 10 0x0008f6881f739602db54;
}
