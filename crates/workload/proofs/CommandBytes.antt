-- The commands of a workload are of bytes, and begin with 0x80.
use Rattle.std.proofs.Common.{◌≡◌, ◌≤◌, ◌+◌, ◌%◌, ◌++◌, ℕ, Bool, true, false, cond, eqb, ltb, List, [], ◌∷◌, length, refl, arith}
use Rattle.std.specs.Int.{w16, w32, to_be_bytes}
use Rattle.std.specs.List.{list_all}
use Rattle.std.proofs.lemmas.Bool.{and_parts, ltb-true}
use Rattle.tab_spec.specs.declared.TheConstants.{ST_NO_SESSIONS, ST_SESSIONS, CC_CREATE_PRIMARY, CC_FLUSH_CONTEXT, CC_GET_CAPABILITY, CC_GET_RANDOM, CC_PCR_EXTEND, CC_POLICY_GET_DIGEST, CC_READ_PUBLIC, CC_START_AUTH_SESSION, RH_OWNER, RS_PW, TRANSIENT_FIRST}
use Rattle.tab_spec.specs.Reply.{response}
use Rattle.tab_spec.specs.Values.{AreBytes}
use Rattle.script_spec.specs.Workload.{hmac_key_parameters, objects_parameters, password_command, plain_command, policy_session_parameters, workload_command, zeros_parameters}

-- ---- bytes

bytes_joined : (a b : List ℕ) → AreBytes a → AreBytes b → AreBytes (a ++ b)
bytes_joined [] b first second = second
bytes_joined (x ∷ a) b first second = (first.0, bytes_joined a b first.1 second)

-- listed bytes
abbrev are_below : List ℕ → Bool
are_below bytes = list_all (λ b. ltb b 256) bytes

pub listed_bytes : (bytes : List ℕ) → are_below bytes ≡ true → AreBytes bytes
listed_bytes [] test = tt
listed_bytes (b ∷ bytes) test = let parts = and_parts (ltb b 256) (are_below bytes) test in (ltb-true b 256 parts.0, listed_bytes bytes parts.1)

number16_bytes : (n : ℕ) → AreBytes (to_be_bytes w16 n)
number16_bytes n = (omega arith, (omega arith, tt))

number_bytes : (n : ℕ) → AreBytes (to_be_bytes w32 n)
number_bytes n = (omega arith, (omega arith, (omega arith, (omega arith, tt))))

-- ---- commands

pub record IsCommand (bytes : List ℕ) : Type 0 where
  pub more : List ℕ
  pub begins : bytes ≡ 0x80 ∷ more
  pub are : AreBytes bytes
  pub few : length bytes ≤ 65

response_bytes : (tag code : ℕ) (body : List ℕ) → AreBytes body → AreBytes (response tag code body)
response_bytes tag code body are =
    bytes_joined (to_be_bytes w16 tag ++ to_be_bytes w32 (10 + length body) ++ to_be_bytes w32 code) body (
    bytes_joined (to_be_bytes w16 tag ++ to_be_bytes w32 (10 + length body)) (to_be_bytes w32 code)
    (bytes_joined (to_be_bytes w16 tag) (to_be_bytes w32 (10 + length body)) (number16_bytes tag) (number_bytes (10 + length body)))
    (number_bytes code)) are

plain : (code : ℕ) (body : List ℕ) → AreBytes body → length body ≤ 55 → IsCommand (plain_command code body)
plain code body are few = record {
  more = 0x01 ∷ to_be_bytes w32 (10 + length body) ++ to_be_bytes w32 code ++ body;
  begins = refl;
  are = response_bytes ST_NO_SESSIONS code body are;
  few = omega (arith, few);
}

by_password : (code handle : ℕ) (parameters : List ℕ) → AreBytes parameters → length parameters ≤ 38 → IsCommand (password_command code handle parameters)
by_password code handle parameters are few =
    let area : List ℕ = to_be_bytes w32 9 ++ to_be_bytes w32 RS_PW ++ 0 ∷ 0 ∷ 0 ∷ 0 ∷ 0 ∷ [] in
    let front : List ℕ = to_be_bytes w32 handle ++ area in
    let body : List ℕ = to_be_bytes w32 handle ++ to_be_bytes w32 9 ++ to_be_bytes w32 RS_PW ++ 0 ∷ 0 ∷ 0 ∷ 0 ∷ 0 ∷ [] ++ parameters in
    let all : AreBytes body = bytes_joined front parameters (bytes_joined (to_be_bytes w32 handle) area (number_bytes handle) (listed_bytes area refl)) are in
    record {
      more = 0x02 ∷ to_be_bytes w32 (10 + length body) ++ to_be_bytes w32 code ++ body;
      begins = refl;
      are = response_bytes ST_SESSIONS code body all;
      few = omega (arith, few);
    }

-- one of two commands
one_of : (b : Bool) (x y : List ℕ) → IsCommand x → IsCommand y → IsCommand (cond b x y)
one_of true x y first second = first
one_of false x y first second = second

pub is_command : (choice number : ℕ) → IsCommand (workload_command choice number)
is_command choice number =
    let handle : ℕ → List ℕ = λ n. to_be_bytes w32 n in
    let object : ℕ = TRANSIENT_FIRST + number % 6 in
    let session : ℕ = 0x03000000 + number % 64 in
    let count : List ℕ = to_be_bytes w16 (number % 33) in
    one_of (eqb choice 0) _ _ (plain CC_GET_RANDOM count (number16_bytes (number % 33)) (omega arith))
    (one_of (eqb choice 1) _ _ (by_password CC_CREATE_PRIMARY RH_OWNER hmac_key_parameters (listed_bytes hmac_key_parameters refl) (omega arith))
    (one_of (eqb choice 2) _ _ (plain CC_READ_PUBLIC (handle object) (number_bytes object) (omega arith))
    (one_of (eqb choice 3) _ _ (plain CC_START_AUTH_SESSION policy_session_parameters (listed_bytes policy_session_parameters refl) (omega arith))
    (one_of (eqb choice 4) _ _ (plain CC_FLUSH_CONTEXT (handle object) (number_bytes object) (omega arith))
    (one_of (eqb choice 5) _ _ (plain CC_POLICY_GET_DIGEST (handle session) (number_bytes session) (omega arith))
    (one_of (eqb choice 6) _ _ (plain CC_GET_CAPABILITY objects_parameters (listed_bytes objects_parameters refl) (omega arith))
    (by_password CC_PCR_EXTEND (number % 24) zeros_parameters (listed_bytes zeros_parameters refl) (omega arith))))))))
