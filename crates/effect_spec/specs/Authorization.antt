-- Whether an authorization stands for what a command names (Part 1, "Authorizations and Acknowledgments"). The order of the faults is this
-- project's own profile.
use Rattle.std.specs.Prelude.{ℕ, ◌+◌, ◌==◌, not, Bool, true, false, List, [], ◌∷◌, length, slice_range, bit_and, bytes_eq, Option, Some, None, if◌then◌else◌}
use Rattle.tab_spec.specs.declared.Auth.{Auth}
use Rattle.tab_spec.specs.declared.TheConstants.{RC_S, RC_1, RC_ATTRIBUTES, RC_NONCE, RC_BAD_AUTH, RC_AUTH_UNAVAILABLE, RH_OWNER, HT_NV_INDEX, OBJECT_USER_WITH_AUTH}
use Rattle.tab_spec.specs.NvIndex.{NvIndex, index_in}
use Rattle.tab_spec.specs.Persist.{Persist}
use Rattle.tab_spec.specs.Shape.{octet_of}
use Rattle.tab_spec.specs.Object.{Object}
use Rattle.effect_spec.specs.Operands.{Operand, a_session, absent, an_object, plain}
use Rattle.tab_spec.specs.Values.{without_zeros}

-- what is known of what needs an authorization: its auth value, whether that may be used, whether it is an object, and its policy
pub record Entity : Type 0 where
  pub auth : List ℕ
  pub user_with_auth : Bool
  pub is_object : Bool
  pub policy : List ℕ

-- the auth value of an NV index that is there
abbrev pub index_auth : Option NvIndex → List ℕ
index_auth None = []
index_auth (Some item) = item.auth

-- the owner hierarchy, an NV index, or a PCR, whose auth value is empty
abbrev pub shared_entity : Persist → ℕ → Entity
shared_entity persist handle = record {
  auth =
      if handle == RH_OWNER then persist.owner_auth
      else if octet_of handle == HT_NV_INDEX then index_auth (index_in handle persist.nv)
      else [];
  user_with_auth = true;
  is_object = false;
  policy = [];
}

-- an object, whose auth value may be used where userWithAuth is set (Part 2, "TPMA_OBJECT")
abbrev pub object_entity : Object → Entity
object_entity o = record { auth = o.auth; user_with_auth = bit_and OBJECT_USER_WITH_AUTH o.public.attributes == OBJECT_USER_WITH_AUTH; is_object = true; policy = o.public.policy }

abbrev pub entity_of : Persist → Operand → Entity
entity_of persist absent = shared_entity persist 0
entity_of persist (plain handle) = shared_entity persist handle
entity_of persist (an_object o) = object_entity o
entity_of persist (a_session handle s) = shared_entity persist handle

-- the first bit of the attributes is continueSession; no other is taken (Part 2, "TPMA_SESSION")
abbrev pub has_other_attributes : Auth → Bool
has_other_attributes auth = not (bit_and 0xfe auth.attributes == 0)

-- the first fault of a password (Part 1, "Password Authorizations"), which stands in the hmac field of the command
abbrev pub password_fault : Entity → Auth → List ℕ → Option ℕ
password_fault entity auth bytes =
    if has_other_attributes auth then Some (RC_ATTRIBUTES + RC_S + RC_1)
    else if not (length (slice_range bytes auth.nonce.0 auth.nonce.1) == 0) then Some (RC_NONCE + RC_S + RC_1)
    else if not entity.user_with_auth then Some RC_AUTH_UNAVAILABLE
    else if bytes_eq (without_zeros (slice_range bytes auth.hmac.0 auth.hmac.1)) entity.auth then None
    else Some (RC_BAD_AUTH + RC_S + RC_1)

-- the response authorization of a password: no nonce, continueSession, no hmac (Part 2, "TPMS_AUTH_RESPONSE")
abbrev pub password_response_auth : List ℕ
password_response_auth = 0 ∷ 0 ∷ 1 ∷ 0 ∷ 0 ∷ []
