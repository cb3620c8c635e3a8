-- What the commands of sessions and of policies make and leave, and how long their responses are.
use Rattle.std.proofs.Common.{◌≡◌, ◌+◌, ◌*◌, ◌^◌, ◌<◌, ◌≤◌, ℕ, zero, suc, Bool, true, false, true≢false, List, [], ◌∷◌, ◌++◌, length, take, drop, refl, ◌∙◌, sym, ap, subst, arith, length-append, length-take}
use Rattle.std.proofs.Math.ListN.{get_or}
use Rattle.std.specs.Prelude.{Option, Some, None, IfSome, not, nat_le, nat_lt, replicate, bytes_eq, ◌==◌, ◌||◌, ◌&&◌, Result, Ok, Err, if◌then◌else◌}
use Rattle.std.specs.Int.{w32, from_be_bytes, to_le_bytes}
use Rattle.std.specs.List.{list_any}
use Rattle.std.proofs.lemmas.Bool.{cond_both, leb-true, and_parts}
use Rattle.std.proofs.lemmas.List.{take-append-drop}
use Rattle.sha2.specs.Sha256.{sha256}
use Rattle.sha2.proofs.Facts256.{length-sha256}
use Rattle.rand_chacha.specs.ChaCha.{word_at, key_of}
use Rattle.tab_spec.specs.declared.TheConstants.{LAST_PLACE, RC_FAILURE, RC_VALUE, RC_INSUFFICIENT, RC_PCR_CHANGED, RC_COMMAND_CODE, RC_P, RC_1, CC_POLICY_SECRET, CC_POLICY_AUTH_VALUE, CC_POLICY_PASSWORD, CC_POLICY_COMMAND_CODE, CC_POLICY_OR, CC_POLICY_PCR, CC_POLICY_RESTART, CC_POLICY_GET_DIGEST}
use Rattle.tab_spec.specs.declared.Auth.{Auth}
use Rattle.tab_spec.specs.declared.AuthNeeded.{AuthNeeded}
use Rattle.tab_spec.specs.declared.AuthNeeded.TheVariants.{AuthValue, Password}
use Rattle.tab_spec.specs.declared.SessionKind.{SessionKind}
use Rattle.tab_spec.specs.declared.SessionKind.TheVariants as kinds
use Rattle.tab_spec.specs.Session.{Session, IsSession, is_nonce, is_set_to_another, kind_of, restarted}
use Rattle.tab_spec.specs.Hash.{hmac}
use Rattle.tab_spec.specs.Values.{AreBytes, Reading, PcrSelection, number32, sized_bytes, then_read}
use Rattle.tab_spec.specs.Admission.{unless_fault}
use Rattle.tab_spec.specs.Persist.{Persist, IsPersist, stream_bytes, words_for, random_bytes, drawn, selected_digest}
use Rattle.tab_spec.specs.Parameters.{in_parameter, nothing_of}
use Rattle.effect_spec.specs.Policies.{extended_digest, silent_policy, policy_restart_row, policy_get_digest_row, policy_needs_row, policy_command_code_row, is_trial, pcr_policy_of, with_pcrs, pcr_policed, policy_pcr_row, branches_of, joined, policy_or_row, SecretPolicy, secret_policy_of, secret_fault, secret_policed, policy_secret_row}
use Rattle.effect_spec.specs.Sessions.{StartParameters, start_parameters_of, start_parameters_fault, initial_session_with, start_check, started_session, session_started, start_session_row}
use Rattle.effect_spec.specs.Authorization.{Entity}
use Rattle.effect_spec.specs.SessionAuths.{ResponseAuth, response_hmac, response_auth, session_response_auth, session_response_with, continued_session, hmac_field, asks_password, nonce_caller, session_key}
use Rattle.effect_spec.specs.Effect.{policy_row, keeping_session}
use Rattle.tab_laws.proofs.Objects.{length-sized}
use Rattle.tab_laws.proofs.OneSpelling.{bytes_front, byte_at}
use Rattle.tab_laws.proofs.ReadBack.{Gives}
use Rattle.device_laws.proofs.NvRows.{Any, gives_any, read_gives, gives_parameter}
use Rattle.device_laws.proofs.ObjectRows.{drawn_at, length-hmac}

-- ---- what is drawn

length_stream : (seed : List ℕ) (place words : ℕ) → length (stream_bytes seed place words) ≡ 4 * words
unfolding stream_bytes
length_stream seed place zero = refl
length_stream seed place (suc words) =
    let front = stream_bytes seed place words in
    let word = to_le_bytes w32 (word_at 10 (key_of seed) 0 (place + words)) in
    let four : length word ≡ 4 = refl in
    omega (arith, length-append front word, length_stream seed place words, four)

length_random : (seed : List ℕ) (place n : ℕ) → length (random_bytes seed place n) ≡ n
length_random seed place n =
    let stream = stream_bytes seed place (words_for n) in
    omega (arith, length-take n stream, length_stream seed place (words_for n))

-- exactly so many bytes, and what a device of this profile may keep
abbrev pub DrawnExactly : ℕ → Result (List ℕ × Persist) ℕ → Type 0
DrawnExactly n (Err code) = Unit
DrawnExactly n (Ok draw) = (length draw.0 ≡ n) × IsPersist draw.1

pub drawn_exactly : (persist : Persist) (n : ℕ) → IsPersist persist → DrawnExactly n (drawn persist n)
drawn_exactly persist n sound =
    let place = persist.place + words_for n in
    cond_both (nat_le place LAST_PLACE) (Ok (random_bytes persist.seed persist.place n, record persist { place = place })) (Err RC_FAILURE)
    (DrawnExactly n)
    (λ there. (length_random persist.seed persist.place n, drawn_at persist place sound (leb-true place LAST_PLACE there)))
    (λ past. tt)

-- ---- sessions

pub nonce_few : (nonce : List ℕ) → is_nonce nonce ≡ true → length nonce ≤ 32
nonce_few nonce known = leb-true (length nonce) 32 (and_parts (nat_le 16 (length nonce)) (nat_le (length nonce) 32) known).1

-- whether bytes may be a nonce is a matter of how many they are
nonce_as : (nonce other : List ℕ) → length nonce ≡ length other → is_nonce other ≡ true → is_nonce nonce ≡ true
nonce_as nonce other same known = ap (λ (n : ℕ). nat_le 16 n && nat_le n 32) same ∙ known

restarted_is : (s : Session) → IsSession s → IsSession (restarted s)
restarted_is s is = record { nonce = is.nonce; digest = refl; command_code = tt; pcr_updates = tt }

with_nonce_is : (s : Session) (nonce : List ℕ) → IsSession s → length nonce ≡ length s.nonce → IsSession (record s { nonce = nonce })
with_nonce_is s nonce is same = record {
  nonce = nonce_as nonce s.nonce same is.nonce;
  digest = is.digest;
  command_code = is.command_code;
  pcr_updates = is.pcr_updates;
}

-- ---- policies: what holds of the session where the command is bytes

abbrev SessionKept : Type 0 → Result Session ℕ → Type 0
SessionKept Bytes (Err code) = Unit
SessionKept Bytes (Ok s) = Bytes → IsSession s

abbrev pub PolicyWell : Type 0 → Result (Session × List ℕ) ℕ → Type 0
PolicyWell Bytes (Err code) = Unit
PolicyWell Bytes (Ok done) = (length done.1 ≤ 4000) × (Bytes → IsSession done.0)

silent_well : (Bytes : Type 0) (row : Result Session ℕ) → SessionKept Bytes row → PolicyWell Bytes (silent_policy row)
silent_well Bytes (Err code) kept = tt
silent_well Bytes (Ok s) kept = (omega arith, kept)

kept_restart : (Bytes : Type 0) (s : Session) (params : List ℕ) → IsSession s → SessionKept Bytes (policy_restart_row s params)
kept_restart Bytes s params is =
    read_gives (SessionKept Bytes) Any (nothing_of params) (λ none. Ok (restarted s)) (gives_any (nothing_of params)) (λ code. tt)
    (λ none any bytes. restarted_is s is)

digest_small : (digest : List ℕ) → length digest ≡ 32 → length (sized_bytes digest) ≤ 4000
digest_small digest is = omega (arith, length-sized digest, is)

well_digest : (Bytes : Type 0) (s : Session) (params : List ℕ) → IsSession s → PolicyWell Bytes (keeping_session s (policy_get_digest_row s params))
well_digest Bytes s params is =
    read_gives (λ (row : Result (List ℕ) ℕ). PolicyWell Bytes (keeping_session s row)) Any (nothing_of params) (λ none. Ok (sized_bytes s.digest))
    (gives_any (nothing_of params)) (λ code. tt) (λ none any. (digest_small s.digest is.digest, λ bytes. is))

extended_few : (old : List ℕ) (code : ℕ) (more : List ℕ) → length (extended_digest old code more) ≡ 32
extended_few old code more = length-sha256 _

needed_is : (s : Session) (needed : AuthNeeded) → IsSession s
    → IsSession (record s { digest = extended_digest s.digest CC_POLICY_AUTH_VALUE []; needed = needed })
needed_is s needed is = record {
  nonce = is.nonce;
  digest = extended_few s.digest CC_POLICY_AUTH_VALUE [];
  command_code = is.command_code;
  pcr_updates = is.pcr_updates;
}

kept_needs : (Bytes : Type 0) (needed : AuthNeeded) (s : Session) (params : List ℕ) → IsSession s → SessionKept Bytes (policy_needs_row needed s params)
kept_needs Bytes needed s params is =
    read_gives (SessionKept Bytes) Any (nothing_of params)
    (λ none. Ok (record s { digest = extended_digest s.digest CC_POLICY_AUTH_VALUE []; needed = needed })) (gives_any (nothing_of params)) (λ code. tt)
    (λ none any bytes. needed_is s needed is)

-- a number of four bytes has its bounds
worth_small : (a b c d n : ℕ) → a < 256 → b < 256 → c < 256 → d < 256 → n ≡ a + b * 256 + c * 65536 + d * 16777216 → n < 2 ^ 32
worth_small a b c d n a_small b_small c_small d_small is = omega arith

number_small : (bytes : List ℕ) (n : ℕ) → ((i : ℕ) → get_or bytes i 0 < 256) → n ≡ from_be_bytes w32 bytes → n < 2 ^ 32
number_small bytes n small is =
    worth_small (get_or bytes 3 0) (get_or bytes 2 0) (get_or bytes 1 0) (get_or bytes 0 0) n (small 3) (small 2) (small 1) (small 0) (omega arith)

front_bytes : (bytes : List ℕ) → AreBytes bytes → AreBytes (take 4 bytes)
front_bytes bytes all = bytes_front (take 4 bytes) (drop 4 bytes) (subst AreBytes (sym (take-append-drop 4 bytes)) all)

number_gives : (lacking : ℕ) (bytes : List ℕ) → Gives (λ (n : ℕ). AreBytes bytes → n < 2 ^ 32) (number32 lacking bytes)
number_gives lacking bytes =
    let next : List ℕ → List ℕ → Reading ℕ = λ read rest. Ok (from_be_bytes w32 read, rest) in
    cond_both (nat_lt (length bytes) 4) (Err lacking) (Ok (take 4 bytes, drop 4 bytes))
    (λ (r : Reading (List ℕ)). Gives (λ (n : ℕ). AreBytes bytes → n < 2 ^ 32) (then_read r next))
    (λ few. tt)
    (λ there all. number_small (take 4 bytes) (from_be_bytes w32 (take 4 bytes)) (byte_at (take 4 bytes) (front_bytes bytes all)) refl)

above_0 : (code : ℕ) (other : Bool) → (code == 0 || other) ≡ false → 0 < code
above_0 zero other is = absurd (true≢false is)
above_0 (suc code) other is = omega arith

coded_is : (s : Session) (code : ℕ) (more : List ℕ) → IsSession s → 0 < code → code < 2 ^ 32
    → IsSession (record s { digest = extended_digest s.digest CC_POLICY_COMMAND_CODE more; command_code = Some code })
coded_is s code more is above below = record {
  nonce = is.nonce;
  digest = extended_few s.digest CC_POLICY_COMMAND_CODE more;
  command_code = (above, below);
  pcr_updates = is.pcr_updates;
}

kept_command_code : (s : Session) (params : List ℕ) → IsSession s → SessionKept (AreBytes params) (policy_command_code_row s params)
kept_command_code s params is =
    let Fits : ℕ → Type 0 = λ code. AreBytes params → code < 2 ^ 32 in
    read_gives (SessionKept (AreBytes params)) Fits (in_parameter 1 (number32 RC_INSUFFICIENT params)) _
    (gives_parameter Fits 1 (number32 RC_INSUFFICIENT params) (number_gives RC_INSUFFICIENT params)) (λ code. tt) (λ code fits.
    cond_both (code == 0 || is_set_to_another s.command_code code) (Err (RC_VALUE + RC_P + RC_1)) _ (SessionKept (AreBytes params)) (λ refused. tt)
    (λ taken bytes. coded_is s code _ is (above_0 code (is_set_to_another s.command_code code) taken) (fits bytes)))

updates_kept : (trial : Bool) (old : Option ℕ) (updates : ℕ) → IfSome old (λ n. n < 2 ^ 32) → updates < 2 ^ 32
    → IfSome (if trial then old else Some updates) (λ n. n < 2 ^ 32)
updates_kept true old updates old_fits fits = old_fits
updates_kept false old updates old_fits fits = fits

pcrs_is : (persist : Persist) (s : Session) (selection : PcrSelection) (digest : List ℕ) → IsPersist persist → IsSession s
    → IsSession (with_pcrs persist s selection digest)
pcrs_is persist s selection digest sound is = record {
  nonce = is.nonce;
  digest = extended_few s.digest CC_POLICY_PCR _;
  command_code = is.command_code;
  pcr_updates = updates_kept (is_trial s) s.pcr_updates persist.updates is.pcr_updates sound.updates;
}

policed_kept : (Bytes : Type 0) (persist : Persist) (s : Session) (given : List ℕ) (selection : PcrSelection) → IsPersist persist → IsSession s
    → SessionKept Bytes (pcr_policed persist s given selection)
policed_kept Bytes persist s given selection sound is =
    let present = selected_digest persist.pcrs selection.bits in
    cond_both (length given == 0) (Ok (with_pcrs persist s selection present)) _ (SessionKept Bytes)
    (λ none bytes. pcrs_is persist s selection present sound is) (λ some.
    cond_both (is_trial s || bytes_eq given present) (Ok (with_pcrs persist s selection given)) (Err (RC_VALUE + RC_P + RC_1)) (SessionKept Bytes)
    (λ same bytes. pcrs_is persist s selection given sound is) (λ other. tt))

kept_pcr : (Bytes : Type 0) (persist : Persist) (s : Session) (params : List ℕ) → IsPersist persist → IsSession s
    → SessionKept Bytes (policy_pcr_row persist s params)
kept_pcr Bytes persist s params sound is =
    read_gives (SessionKept Bytes) Any (pcr_policy_of params) _ (gives_any (pcr_policy_of params)) (λ code. tt) (λ given any.
    cond_both (is_set_to_another s.pcr_updates persist.updates) (Err RC_PCR_CHANGED) (pcr_policed persist s given.0 given.1) (SessionKept Bytes) (λ past. tt)
    (λ present. policed_kept Bytes persist s given.0 given.1 sound is))

with_digest_is : (s : Session) (digest : List ℕ) → IsSession s → length digest ≡ 32 → IsSession (record s { digest = digest })
with_digest_is s digest is few =
    record { nonce = is.nonce; digest = few; command_code = is.command_code; pcr_updates = is.pcr_updates }

kept_or : (Bytes : Type 0) (s : Session) (params : List ℕ) → IsSession s → SessionKept Bytes (policy_or_row s params)
kept_or Bytes s params is =
    read_gives (SessionKept Bytes) Any (in_parameter 1 (branches_of params)) _ (gives_any (in_parameter 1 (branches_of params))) (λ code. tt)
    (λ branches any.
    cond_both (is_trial s || list_any (λ branch. bytes_eq branch s.digest) branches) _ (Err (RC_VALUE + RC_P + RC_1)) (SessionKept Bytes)
    (λ found bytes.
    with_digest_is s (extended_digest (replicate 32 0) CC_POLICY_OR (joined branches)) is (extended_few (replicate 32 0) CC_POLICY_OR (joined branches)))
    (λ none. tt))

secret_well : (Bytes : Type 0) (s : Session) (name : List ℕ) (given : SecretPolicy) (fault : Option ℕ) → IsSession s
    → PolicyWell Bytes (secret_policed s name given fault)
secret_well Bytes s name given (Some code) is = tt
secret_well Bytes s name given None is =
    (omega arith, λ bytes. with_digest_is s (sha256 (extended_digest s.digest CC_POLICY_SECRET name ++ given.policy_ref)) is (length-sha256 _))

well_secret : (Bytes : Type 0) (s : Session) (name params : List ℕ) → IsSession s → PolicyWell Bytes (policy_secret_row s name params)
well_secret Bytes s name params is =
    read_gives (PolicyWell Bytes) Any (secret_policy_of params) _ (gives_any (secret_policy_of params)) (λ code. tt)
    (λ given any. secret_well Bytes s name given (secret_fault s given) is)

-- each row of a policy session
pub policy_well : (code : ℕ) (persist : Persist) (s : Session) (name params : List ℕ) → IsPersist persist → IsSession s
    → PolicyWell (AreBytes params) (policy_row code persist s name params)
policy_well code persist s name params sound is =
    let B : Type 0 = AreBytes params in
    let Well : Result (Session × List ℕ) ℕ → Type 0 = PolicyWell (AreBytes params) in
    cond_both (code == CC_POLICY_SECRET) _ _ Well (λ so. well_secret B s name params is) (λ not.
    cond_both (code == CC_POLICY_AUTH_VALUE) _ _ Well (λ so. silent_well B (policy_needs_row AuthValue s params) (kept_needs B AuthValue s params is)) (λ not.
    cond_both (code == CC_POLICY_PASSWORD) _ _ Well (λ so. silent_well B (policy_needs_row Password s params) (kept_needs B Password s params is)) (λ not.
    cond_both (code == CC_POLICY_COMMAND_CODE) _ _ Well (λ so. silent_well B (policy_command_code_row s params) (kept_command_code s params is)) (λ not.
    cond_both (code == CC_POLICY_OR) _ _ Well (λ so. silent_well B (policy_or_row s params) (kept_or B s params is)) (λ not.
    cond_both (code == CC_POLICY_PCR) _ _ Well (λ so. silent_well B (policy_pcr_row persist s params) (kept_pcr B persist s params sound is)) (λ not.
    cond_both (code == CC_POLICY_RESTART) _ _ Well (λ so. silent_well B (policy_restart_row s params) (kept_restart B s params is)) (λ not.
    cond_both (code == CC_POLICY_GET_DIGEST) (keeping_session s (policy_get_digest_row s params)) (Err RC_COMMAND_CODE) Well
    (λ so. well_digest B s params is) (λ not. tt))))))))

-- ---- StartAuthSession

abbrev HasNonce : Result StartParameters ℕ → Type 0
HasNonce (Err code) = Unit
HasNonce (Ok b) = is_nonce b.nonce ≡ true

nonce_known : (known : Bool) → not known ≡ false → known ≡ true
nonce_known true is = refl
nonce_known false is = absurd (true≢false is)

unless_nonce : (b : StartParameters) (fault : Option ℕ) → is_nonce b.nonce ≡ true → HasNonce (unless_fault fault (Ok b))
unless_nonce b (Some code) is = tt
unless_nonce b None is = is

checked_nonce : (params : List ℕ) → HasNonce (start_check params)
checked_nonce params =
    read_gives HasNonce Any (start_parameters_of params) (λ b. unless_fault (start_parameters_fault b) (Ok b)) (gives_any (start_parameters_of params)) (λ code. tt)
    (λ b any.
    cond_both (not (is_nonce b.nonce)) _ _ (λ (fault : Option ℕ). HasNonce (unless_fault fault (Ok b))) (λ other. tt)
    (λ is. unless_nonce b _ (nonce_known (is_nonce b.nonce) is)))

-- a session of this profile, what a device may keep, and parameters that fit into a frame
abbrev pub StartWell : Result (Session × Persist × List ℕ) ℕ → Type 0
StartWell (Err code) = Unit
StartWell (Ok done) = (length done.2 ≤ 4000) × (IsPersist done.1 × IsSession done.0)

nonce_small : (nonce other : List ℕ) → length nonce ≡ length other → is_nonce other ≡ true → length (sized_bytes nonce) ≤ 4000
nonce_small nonce other same known = omega (arith, length-sized nonce, same, nonce_few other known)

started_well : (kind : SessionKind) (given : List ℕ) (draw : Result (List ℕ × Persist) ℕ) → is_nonce given ≡ true → DrawnExactly (length given) draw
    → StartWell (started_session (initial_session_with kind draw))
started_well kind given (Err code) known drawn = tt
started_well kind given (Ok nonce) known drawn = (
  nonce_small nonce.0 given drawn.0 known,
  (drawn.1, record { nonce = nonce_as nonce.0 given drawn.0 known; digest = refl; command_code = tt; pcr_updates = tt }),
)

start_by : (persist : Persist) (check : Result StartParameters ℕ) → IsPersist persist → HasNonce check → StartWell (session_started persist check)
start_by persist (Err code) sound has = tt
start_by persist (Ok b) sound has = started_well (kind_of b.kind) b.nonce (drawn persist (length b.nonce)) has (drawn_exactly persist (length b.nonce) sound)

pub start_well : (persist : Persist) (params : List ℕ) → IsPersist persist → StartWell (start_session_row persist params)
start_well persist params sound = start_by persist (start_check params) sound (checked_nonce params)

-- ---- the authorization of the response

-- what a device may keep, a session of this profile, and at most 69 bytes
abbrev pub ClosedWell : Result ResponseAuth ℕ → Type 0
ClosedWell (Err code) = Unit
ClosedWell (Ok c) = (length c.answer ≤ 69) × (IsPersist c.persist × IfSome c.session IsSession)

continued_session_is : (kind : SessionKind) (s : Session) → IsSession s → IsSession (continued_session kind s)
continued_session_is kinds.Hmac s is = is
continued_session_is kinds.Policy s is = restarted_is s is
continued_session_is kinds.Trial s is = restarted_is s is

pub hmac_few : (entity : Entity) (s : Session) (auth : Auth) (bytes hash nonce : List ℕ) → length (response_hmac entity s auth bytes hash nonce) ≤ 32
hmac_few entity s auth bytes hash nonce =
    let message = hash ++ nonce ++ nonce_caller auth bytes ++ auth.attributes ∷ [] in
    cond_both (length (hmac_field auth bytes) == 0 || asks_password s) [] (hmac (session_key entity s) message) (λ (answer : List ℕ). length answer ≤ 32)
    (λ none. omega arith) (λ some. omega (arith, length-hmac (session_key entity s) message))

answer_few : (nonce answer : List ℕ) (attributes : ℕ) → length nonce ≤ 32 → length answer ≤ 32
    → length (sized_bytes nonce ++ attributes ∷ sized_bytes answer) ≤ 69
answer_few nonce answer attributes nonce_is answer_is =
    omega (
      arith,
      length-append (sized_bytes nonce) (attributes ∷ sized_bytes answer),
      length-sized nonce,
      length-sized answer,
      nonce_is,
      answer_is,
    )

closed_draw : (entity : Entity) (s : Session) (auth : Auth) (bytes hash : List ℕ) (draw : Result (List ℕ × Persist) ℕ) → IsSession s
    → DrawnExactly (length s.nonce) draw → ClosedWell (session_response_auth (session_response_with entity s auth bytes hash draw))
closed_draw entity s auth bytes hash (Err code) is drawn = tt
closed_draw entity s auth bytes hash (Ok nonce) is drawn = (
  answer_few nonce.0 (response_hmac entity s auth bytes hash nonce.0) auth.attributes (omega (arith, drawn.0, nonce_few s.nonce is.nonce))
      (hmac_few entity s auth bytes hash nonce.0),
  (drawn.1, continued_session_is s.kind (record s { nonce = nonce.0 }) (with_nonce_is s nonce.0 is drawn.0)),
)

pub closed_well : (persist : Persist) (entity : Entity) (session : Option Session) (auth : Auth) (bytes hash : List ℕ) → IsPersist persist
    → IfSome session IsSession → ClosedWell (response_auth persist entity session auth bytes hash)
closed_well persist entity None auth bytes hash sound is = (omega arith, (sound, tt))
closed_well persist entity (Some s) auth bytes hash sound is =
    closed_draw entity s auth bytes hash (drawn persist (length s.nonce)) is (drawn_exactly persist (length s.nonce) sound)
