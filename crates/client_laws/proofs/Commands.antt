-- What is known of a client's command that is admitted: its row, its handles, and the handle that its response tells.
use Rattle.std.proofs.Common.{◌≡◌, ◌<◌, ◌≤◌, ℕ, Bool, true, false, List, [], ◌∷◌, length, get_or, take, drop, refl, ap, sym, ◌∙◌, subst, arith}
use Rattle.std.specs.Prelude.{Some, None, Ok, Err, not, nat_le, nat_lt, ◌==◌, ◌||◌, ◌&&◌, if◌then◌else◌}
use Rattle.std.specs.Int.{w32, from_be_bytes}
use Rattle.std.proofs.lemmas.Bool.{and_parts, eqb-true, leb-true, ltb-false, ltb-true, or_left, or_parts}
use Rattle.tab_spec.specs.declared.TheConstants.{CC_CONTEXT_LOAD, CC_CONTEXT_SAVE, CC_CREATE_PRIMARY, CC_FLUSH_CONTEXT, CC_GET_CAPABILITY, CC_LOAD, CC_START_AUTH_SESSION, HT_HMAC_SESSION, HT_NV_INDEX, HT_POLICY_SESSION, HT_TRANSIENT, RC_SUCCESS, RH_NULL, RH_OWNER, SESSION_NUMBERS, TRANSIENT_FIRST, TRANSIENT_ST_CLEAR}
use Rattle.tab_spec.specs.declared.Kind.{Kind}
use Rattle.tab_spec.specs.declared.Kind.TheVariants.{Absent, Owner, Pcr, Nv, NvAuth, Object, Policy, Entity, Saved, Null}
use Rattle.tab_spec.specs.declared.SessionKind.{SessionKind}
use Rattle.tab_spec.specs.declared.SessionKind.TheVariants as sorts
use Rattle.tab_spec.specs.declared.Admitted.{Admitted}
use Rattle.tab_spec.specs.declared.CommandRow.{CommandRow}
use Rattle.tab_spec.specs.declared.Shape.{Shape}
use Rattle.tab_spec.specs.Admission.{Tables, client_admitted, is_session_handle}
use Rattle.tab_spec.specs.Commands.{all_commands, row_of}
use Rattle.tab_spec.specs.Frame.{code_of, is_frame}
use Rattle.tab_spec.specs.Session.{is_kind_number, kind_of, kind_octet}
use Rattle.tab_spec.specs.Shape.{IsShape, are_of_kinds, handle_at, handles_in, is_of_kind, is_present, is_session_octet, loads_object, makes_object_by, number_of_session, octet_of}
use Rattle.tab_spec.specs.Values.{Reading}
use Rattle.tab_spec.specs.declared.contexts.ContextLimits.{ContextLimits}
use Rattle.tab_spec.specs.Contexts.{is_saved_object}
use Rattle.effect_spec.specs.Capabilities.{is_of_device}
use Rattle.device_spec.specs.Answers.{fits_handle, has_response_handle, is_started_handle, is_word, loads_session, session_type_of, takes, word_at}
use Rattle.tab_laws.proofs.Admissions.{kinds_hold}
use Rattle.tab_laws.proofs.Behind.{drop_behind}
use Rattle.tab_laws.proofs.Handled.{client_is, code_found, handled_is, passed}
use Rattle.device_laws.specs.Effects.{is_managed}
use Rattle.device_laws.proofs.Answering.{found_has}
use Rattle.client_laws.specs.Ready.{is_sent, sent_for, starts_session, tells_object, tells_session}

-- ---- the rows of clients' commands

-- which kinds a second handle is of
abbrev is_second_kind : Kind → Bool
is_second_kind Absent = true
is_second_kind Owner = false
is_second_kind Pcr = false
is_second_kind Nv = true
is_second_kind NvAuth = false
is_second_kind Object = false
is_second_kind Policy = true
is_second_kind Entity = false
is_second_kind Saved = false
is_second_kind Null = true

abbrev pub are_clients_kinds : List Kind → Bool
are_clients_kinds [] = false
are_clients_kinds (one ∷ []) = false
are_clients_kinds (one ∷ two ∷ []) = is_second_kind two
are_clients_kinds (one ∷ two ∷ third ∷ kinds) = false

abbrev pub makes_one : CommandRow → Bool
makes_one row = row.code == CC_CREATE_PRIMARY || row.code == CC_LOAD

-- StartAuthSession has a response handle and no authorization
abbrev starts_one : CommandRow → Bool
starts_one row = row.response_handle && row.authorized == 0

abbrev is_start : CommandRow → Bool
is_start row = row.code == CC_START_AUTH_SESSION

-- an object is made where the response of another has a handle, unless it is ContextLoad of a session
abbrev pub may_make_one : CommandRow → Bool
may_make_one row = makes_one row || row.code == CC_CONTEXT_LOAD

-- the kinds of its handles, how many authorizations it has, and what may be made where the response has a handle
abbrev is_clients_row : CommandRow → Bool
is_clients_row row =
    are_clients_kinds row.handles
    && nat_le row.authorized 1
    && (if is_start row then starts_one row else not row.response_handle || may_make_one row)

record ClientsRow (row : CommandRow) : Type 0 where
  kinds : are_clients_kinds row.handles ≡ true
  few : row.authorized ≤ 1
  makes : is_start row ≡ false → row.response_handle ≡ true → may_make_one row ≡ true
  starts : is_start row ≡ true → starts_one row ≡ true

row_parts : (kinds few start started named makes : Bool)
    → (kinds && few && (if start then started else not named || makes)) ≡ true
    → (kinds ≡ true) × (few ≡ true) × (start ≡ false → named ≡ true → makes ≡ true) × (start ≡ true → started ≡ true)
row_parts true true true started named makes e = (refl, refl, λ no so. absurd cc, λ so. e)
row_parts true true false started true true e = (refl, refl, λ no so. refl, λ so. absurd cc)
row_parts true true false started true false e = absurd cc
row_parts true true false started false makes e = (refl, refl, λ no so. absurd cc, λ so. absurd cc)
row_parts true false start started named makes e = absurd cc
row_parts false few start started named makes e = absurd cc

clients_row : (row : CommandRow) → row_of row.code ≡ Some row → ClientsRow row
clients_row row known =
    let parts = row_parts (are_clients_kinds row.handles) (nat_le row.authorized 1) (is_start row) (starts_one row) row.response_handle (may_make_one row)
    (found_has is_clients_row row.code all_commands row refl known) in
    record { kinds = parts.0; few = leb-true row.authorized 1 parts.1; makes = parts.2; starts = parts.3 }

-- the row of a code is the one that stands for it
pub row_as : (row known : CommandRow) (code : ℕ) → row_of row.code ≡ Some row → row_of code ≡ Some known → (row.code == code) ≡ true → row ≡ known
row_as row known code found here is =
    let there : row_of code ≡ Some row = subst (λ (c : ℕ). row_of c ≡ Some row) (eqb-true row.code code is) found in
    let same : Some known ≡ Some row = sym here ∙ there in
    let rows : known ≡ row = cc in sym rows

-- a code is no other
pub another_code : (code known other : ℕ) → (code == known) ≡ true → (known == other) ≡ false → (code == other) ≡ false
another_code code known other is not = ap (λ (c : ℕ). c == other) (eqb-true code known is) ∙ not

-- none of the commands that a resource manager carries out by itself
pub record IsUnmanaged (code : ℕ) : Type 0 where
  pub save : (code == CC_CONTEXT_SAVE) ≡ false
  pub load : (code == CC_CONTEXT_LOAD) ≡ false
  pub flush : (code == CC_FLUSH_CONTEXT) ≡ false
  pub capability : (code == CC_GET_CAPABILITY) ≡ false

pub unmanaged : (code : ℕ) → is_managed code ≡ false → IsUnmanaged code
unmanaged code managed =
    let save = code == CC_CONTEXT_SAVE in
    let load = code == CC_CONTEXT_LOAD in
    let flush = code == CC_FLUSH_CONTEXT in
    let three = or_parts (save || load || flush) (code == CC_GET_CAPABILITY) managed in
    let two = or_parts (save || load) flush three.0 in
    let one = or_parts save load two.0 in
    record { save = one.0; load = one.1; flush = two.1; capability = three.1 }

-- ---- which commands are sent

abbrev sent_as : ContextLimits → ℕ → List ℕ → List ℕ → Bool
sent_as contexts code params bytes =
    if code == CC_FLUSH_CONTEXT then false
    else if code == CC_CONTEXT_SAVE then length params == 0
    else if code == CC_CONTEXT_LOAD then loads_object contexts bytes
    else if code == CC_GET_CAPABILITY then is_of_device params
    else true

sent_known : (contexts : ContextLimits) (a : Admitted) (bytes : List ℕ) (code : ℕ) → is_sent contexts a bytes ≡ true → (a.shape.row.code == code) ≡ true
    → sent_as contexts code (drop a.auths.params bytes) bytes ≡ true
sent_known contexts a bytes code sent is = sym (ap (λ (c : ℕ). sent_as contexts c (drop a.auths.params bytes) bytes) (eqb-true a.shape.row.code code is)) ∙ sent

-- nothing follows the handle of ContextSave
pub sent_save : (contexts : ContextLimits) (a : Admitted) (bytes : List ℕ) → is_sent contexts a bytes ≡ true → (a.shape.row.code == CC_CONTEXT_SAVE) ≡ true
    → (length (drop a.auths.params bytes) == 0) ≡ true
sent_save contexts a bytes sent is = sent_known contexts a bytes CC_CONTEXT_SAVE sent is

-- ContextLoad is of an object's context
pub sent_load : (contexts : ContextLimits) (a : Admitted) (bytes : List ℕ) → is_sent contexts a bytes ≡ true → (a.shape.row.code == CC_CONTEXT_LOAD) ≡ true
    → loads_object contexts bytes ≡ true
sent_load contexts a bytes sent is = sent_known contexts a bytes CC_CONTEXT_LOAD sent is

-- GetCapability is of a list that is the device's
pub sent_list : (contexts : ContextLimits) (a : Admitted) (bytes : List ℕ) → is_sent contexts a bytes ≡ true → (a.shape.row.code == CC_GET_CAPABILITY) ≡ true
    → is_of_device (drop a.auths.params bytes) ≡ true
sent_list contexts a bytes sent is = sent_known contexts a bytes CC_GET_CAPABILITY sent is

-- ---- the second handle

-- a handle with another octet, or that is another, isn't a transient object's
other_octet : (octet known : ℕ) → (octet == known) ≡ true → (known == HT_TRANSIENT) ≡ false → (octet == HT_TRANSIENT) ≡ false
other_octet octet known is other = ap (λ (n : ℕ). n == HT_TRANSIENT) (eqb-true octet known is) ∙ other

other_handle : (handle known : ℕ) → (handle == known) ≡ true → (octet_of known == HT_TRANSIENT) ≡ false → (octet_of handle == HT_TRANSIENT) ≡ false
other_handle handle known is other = ap (λ (h : ℕ). octet_of h == HT_TRANSIENT) (eqb-true handle known is) ∙ other

second_by : (kind : Kind) (handle : ℕ) → is_second_kind kind ≡ true → is_of_kind kind (if is_present kind then handle else 0) ≡ true
    → (octet_of (if is_present kind then handle else 0) == HT_TRANSIENT) ≡ false
second_by Absent handle is fits = refl
second_by Owner handle is fits = absurd cc
second_by Pcr handle is fits = absurd cc
second_by Nv handle is fits = other_octet (octet_of handle) HT_NV_INDEX fits refl
second_by NvAuth handle is fits = absurd cc
second_by Object handle is fits = absurd cc
second_by Policy handle is fits = other_octet (octet_of handle) HT_POLICY_SESSION fits refl
second_by Entity handle is fits = absurd cc
second_by Saved handle is fits = absurd cc
second_by Null handle is fits = other_handle handle RH_NULL fits refl

second_of : (kinds : List Kind) (bytes : List ℕ) → are_clients_kinds kinds ≡ true → are_of_kinds kinds (handles_in kinds 1 bytes) ≡ true
    → (octet_of (get_or (handles_in kinds 1 bytes) 1 0) == HT_TRANSIENT) ≡ false
second_of [] bytes are fit = absurd cc
second_of (one ∷ []) bytes are fit = absurd cc
second_of (one ∷ two ∷ []) bytes are fit =
    let first = if is_present one then handle_at 1 bytes else 0 in
    let second = if is_present two then handle_at 2 bytes else 0 in
    second_by two (handle_at 2 bytes) are
    (and_parts (is_of_kind two second) true (and_parts (is_of_kind one first) (is_of_kind two second && true) fit).1).0
second_of (one ∷ two ∷ third ∷ kinds) bytes are fit = absurd cc

-- ---- the first handle

abbrev MayBe : Kind → ℕ → Type 0
MayBe kind first = (is_present kind ≡ true) × (is_of_kind kind first ≡ true)

no_object : {X : Type 0} (transient : Bool) → transient ≡ false → transient ≡ true → X
no_object true other is = absurd cc
no_object false other is = absurd cc

of_four : (owner pcr nv transient : Bool) → transient ≡ true → (owner || pcr || nv || transient) ≡ true
of_four true pcr nv transient is = refl
of_four false true nv transient is = refl
of_four false false true transient is = refl
of_four false false false transient is = is

owner_or_nv : (handle : ℕ) (owner nv : Bool) → (handle == RH_OWNER) ≡ owner → (octet_of handle == HT_NV_INDEX) ≡ nv → (owner || nv) ≡ true
    → (octet_of handle == HT_TRANSIENT) ≡ false
owner_or_nv handle true nv owner_is nv_is e = other_handle handle RH_OWNER owner_is refl
owner_or_nv handle false true owner_is nv_is e = other_octet (octet_of handle) HT_NV_INDEX nv_is refl
owner_or_nv handle false false owner_is nv_is e = absurd cc

-- where an object may stand, another may
pub another_object : (kind : Kind) (handle first : ℕ) → is_of_kind kind handle ≡ true → (is_present kind || handle == 0) ≡ true
    → (octet_of handle == HT_TRANSIENT) ≡ true → (octet_of first == HT_TRANSIENT) ≡ true → MayBe kind first
another_object Absent handle first fits there transient other =
    no_object (octet_of handle == HT_TRANSIENT) (other_handle handle 0 there refl) transient
another_object Owner handle first fits there transient other =
    no_object (octet_of handle == HT_TRANSIENT) (other_handle handle RH_OWNER fits refl) transient
another_object Pcr handle first fits there transient other =
    absurd (omega (arith, ltb-true handle 24 fits, eqb-true (octet_of handle) HT_TRANSIENT transient))
another_object Nv handle first fits there transient other =
    no_object (octet_of handle == HT_TRANSIENT) (other_octet (octet_of handle) HT_NV_INDEX fits refl) transient
another_object NvAuth handle first fits there transient other =
    no_object (octet_of handle == HT_TRANSIENT)
    (owner_or_nv handle (handle == RH_OWNER) (octet_of handle == HT_NV_INDEX) refl refl fits) transient
another_object Object handle first fits there transient other = (refl, other)
another_object Policy handle first fits there transient other =
    no_object (octet_of handle == HT_TRANSIENT) (other_octet (octet_of handle) HT_POLICY_SESSION fits refl) transient
another_object Entity handle first fits there transient other =
    (refl, of_four (first == RH_OWNER) (nat_lt first 24) (octet_of first == HT_NV_INDEX) (octet_of first == HT_TRANSIENT) other)
another_object Saved handle first fits there transient other = (
  refl,
  or_left (octet_of first == HT_TRANSIENT || octet_of first == HT_HMAC_SESSION) (octet_of first == HT_POLICY_SESSION)
      (or_left (octet_of first == HT_TRANSIENT) (octet_of first == HT_HMAC_SESSION) other),
)
another_object Null handle first fits there transient other =
    no_object (octet_of handle == HT_TRANSIENT) (other_handle handle RH_NULL fits refl) transient

-- ---- all of it

pub record ClientsCommand (tables : Tables) (bytes : List ℕ) (a : Admitted) : Type 0 where
  pub row : row_of a.shape.row.code ≡ Some a.shape.row
  pub shape : IsShape a.shape
  pub code : code_of bytes ≡ a.shape.row.code
  pub kinds : are_clients_kinds a.shape.row.handles ≡ true
  pub few : a.shape.row.authorized ≤ 1
  pub makes : starts_session a ≡ false → a.shape.row.response_handle ≡ true → may_make_one a.shape.row ≡ true
  pub starts : starts_session a ≡ true → (a.shape.row.response_handle ≡ true) × (a.shape.row.authorized ≡ 0)
  pub second : (octet_of (get_or a.shape.handles 1 0) == HT_TRANSIENT) ≡ false

pub clients_command : (tables : Tables) (bytes : List ℕ) (a : Admitted) → client_admitted tables bytes ≡ Ok a → ClientsCommand tables bytes a
clients_command tables bytes a e =
    let client = client_is tables bytes a e in
    let p = passed tables bytes a client.whole in
    let code : a.shape.row.code ≡ code_of bytes = code_found bytes a.shape.row p.found in
    let row : row_of a.shape.row.code ≡ Some a.shape.row = ap row_of code ∙ p.found in
    let known = clients_row a.shape.row row in
    let kinds = a.shape.row.handles in
    let is : handles_in kinds 1 bytes ≡ a.shape.handles = sym (ap (λ (shape : Shape). shape.handles) p.shape) in
    let of_kinds = kinds_hold kinds 1 bytes p.wrong in
    record {
      row = row;
      shape = record { row = row; kinds = ap (are_of_kinds kinds) (sym is) ∙ of_kinds };
      code = sym code;
      kinds = known.kinds;
      few = known.few;
      makes = known.makes;
      starts = λ so.
          let parts = and_parts a.shape.row.response_handle (a.shape.row.authorized == 0) (known.starts so) in
          (parts.0, eqb-true a.shape.row.authorized 0 parts.1);
      second = subst (λ (handles : List ℕ). (octet_of (get_or handles 1 0) == HT_TRANSIENT) ≡ false) is (second_of kinds bytes known.kinds of_kinds);
    }

pub command_frame : (tables : Tables) (bytes : List ℕ) (a : Admitted) (first : ℕ) → client_admitted tables bytes ≡ Ok a
    → is_frame (sent_for bytes a first) ≡ true
command_frame tables bytes a first e = (handled_is tables bytes a first (get_or a.shape.handles 1 0) (client_is tables bytes a e).whole).frame

pub command_sent_code : (tables : Tables) (bytes : List ℕ) (a : Admitted) (first : ℕ) → client_admitted tables bytes ≡ Ok a
    → code_of (sent_for bytes a first) ≡ code_of bytes
command_sent_code tables bytes a first e = (handled_is tables bytes a first (get_or a.shape.handles 1 0) (client_is tables bytes a e).whole).code

-- what a response tells
told_object : (start named success : Bool) → (not start && named && success) ≡ true → (start ≡ false) × (named ≡ true) × (success ≡ true)
told_object true named success is = absurd cc
told_object false true true is = (refl, refl, refl)
told_object false true false is = absurd cc
told_object false false success is = absurd cc

made_by : (one load loads : Bool) → (one || load) ≡ true → (load ≡ true → loads ≡ true) → (one || (load && loads)) ≡ true
made_by true load loads e so = refl
made_by false true loads e so = so refl
made_by false false loads e so = absurd cc

pub command_makes : (contexts : ContextLimits) (tables : Tables) (bytes : List ℕ) (a : Admitted) (reply : List ℕ) → client_admitted tables bytes ≡ Ok a
    → is_sent contexts a bytes ≡ true → tells_object a reply ≡ true → makes_object_by contexts (Ok a.shape) bytes ≡ true
command_makes contexts tables bytes a reply e sent tells =
    let parts = told_object (starts_session a) a.shape.row.response_handle (code_of reply == RC_SUCCESS) tells in
    made_by (makes_one a.shape.row) (a.shape.row.code == CC_CONTEXT_LOAD) (loads_object contexts bytes)
    ((clients_command tables bytes a e).makes parts.0 parts.1) (sent_load contexts a bytes sent)

-- ---- the handle of a response

success_by : (frame success form other : Bool) → (frame && (if success then form else other)) ≡ true → success ≡ true → form ≡ true
success_by true true form other e is = e
success_by true false form other e is = absurd cc
success_by false success form other e is = absurd cc

handle_by : (tag has word authorized saved : Bool) → (tag && (not has || word) && authorized && saved) ≡ true → has ≡ true → word ≡ true
handle_by true true true authorized saved e is = refl
handle_by true true false authorized saved e is = absurd cc
handle_by true false word authorized saved e is = absurd cc
handle_by false has word authorized saved e is = absurd cc

word_by : (test : ℕ → Bool) (short : Bool) (word : ℕ) → is_word test (if short then None else Some word) ≡ true → (short ≡ false) × (test word ≡ true)
word_by test true word e = absurd cc
word_by test false word e = (refl, e)

-- the handle is there
told_handle : (contexts : ContextLimits) (is_taken : Bool) (asked last : List ℕ) → takes contexts false is_taken asked last ≡ true → (code_of last == RC_SUCCESS) ≡ true
    → has_response_handle (row_of (code_of asked)) ≡ true
    → (14 ≤ length last) × (fits_handle is_taken asked (from_be_bytes w32 (take 4 (drop 10 last))) ≡ true)
told_handle contexts is_taken asked last taken success has =
    let handle = from_be_bytes w32 (take 4 (drop 10 last)) in
    let form = success_by (is_frame last) (code_of last == RC_SUCCESS) _ _ taken success in
    let word : is_word (fits_handle is_taken asked) (word_at 10 last) ≡ true =
    handle_by _ (has_response_handle (row_of (code_of asked))) (is_word (fits_handle is_taken asked) (word_at 10 last)) _ _ form has in
    let parts = word_by (fits_handle is_taken asked) (nat_lt (length last) 14) handle word in
    (ltb-false (length last) 14 parts.0, parts.1)

-- what is known of the command over another handle
record OverHandle (bytes : List ℕ) (a : Admitted) (first : ℕ) : Type 0 where
  code : code_of (sent_for bytes a first) ≡ a.shape.row.code
  has : has_response_handle (row_of (code_of (sent_for bytes a first))) ≡ a.shape.row.response_handle

over_handle : (tables : Tables) (bytes : List ℕ) (a : Admitted) (first : ℕ) → client_admitted tables bytes ≡ Ok a → OverHandle bytes a first
over_handle tables bytes a first e =
    let known = clients_command tables bytes a e in
    let code : code_of (sent_for bytes a first) ≡ a.shape.row.code = command_sent_code tables bytes a first e ∙ known.code in
    record { code = code; has = ap (λ (c : ℕ). has_response_handle (row_of c)) code ∙ ap has_response_handle known.row }

-- a ContextLoad of an object's context is none of a session's
of_object : (clear at_clear at_first session : Bool) → ((clear && at_clear) || at_first) ≡ true → (at_clear ≡ true → session ≡ false)
    → (at_first ≡ true → session ≡ false) → session ≡ false
of_object true true at_first session e one two = one refl
of_object true false true session e one two = two refl
of_object true false false session e one two = absurd cc
of_object false at_clear true session e one two = two refl
of_object false at_clear false session e one two = absurd cc

not_session : (contexts : ContextLimits) (short : Bool) (word : ℕ) → (not short && is_saved_object contexts word) ≡ true
    → is_word is_session_handle (if short then None else Some word) ≡ false
not_session contexts true word e = absurd cc
not_session contexts false word e =
    of_object contexts.st_clear (word == TRANSIENT_ST_CLEAR) (word == TRANSIENT_FIRST) (is_session_handle word) e
    (λ is. ap is_session_handle (eqb-true word TRANSIENT_ST_CLEAR is)) (λ is. ap is_session_handle (eqb-true word TRANSIENT_FIRST is))

saved_none : (contexts : ContextLimits) (sent bytes : List ℕ) → length sent ≡ length bytes → drop 18 sent ≡ drop 18 bytes → loads_object contexts bytes ≡ true
    → is_word is_session_handle (word_at 18 sent) ≡ false
saved_none contexts sent bytes size behind loads =
    (λ i. is_word is_session_handle (if nat_lt (size i) 22 then None else Some (from_be_bytes w32 (take 4 (behind i)))))
    ∙ not_session contexts (nat_lt (length bytes) 22) (from_be_bytes w32 (take 4 (drop 18 bytes))) loads

loads_none : (load word : Bool) → (load ≡ true → word ≡ false) → (load && word) ≡ false
loads_none true word none = none refl
loads_none false word none = refl

-- what is sent loads no session
pub sent_loads_none : (contexts : ContextLimits) (tables : Tables) (bytes : List ℕ) (a : Admitted) (first : ℕ) → client_admitted tables bytes ≡ Ok a
    → is_sent contexts a bytes ≡ true → loads_session (sent_for bytes a first) ≡ false
sent_loads_none contexts tables bytes a first e sent =
    let new = sent_for bytes a first in
    let over = handled_is tables bytes a first (get_or a.shape.handles 1 0) (client_is tables bytes a e).whole in
    loads_none (code_of new == CC_CONTEXT_LOAD) (is_word is_session_handle (word_at 18 new)) (λ load.
    saved_none contexts new bytes over.agree.size (drop_behind a.shape.rest 18 bytes new over.agree over.within)
    (sent_load contexts a bytes sent (ap (λ (c : ℕ). c == CC_CONTEXT_LOAD) (sym (over_handle tables bytes a first e).code) ∙ load)))

octet_by : (start session started saved octet : Bool) → (if start then started else if session then saved else octet) ≡ true
    → start ≡ false → session ≡ false → octet ≡ true
octet_by true session started saved octet e is none = absurd cc
octet_by false true started saved octet e is none = absurd cc
octet_by false false started saved octet e is none = e

pub command_object : (contexts : ContextLimits) (is_taken : Bool) (tables : Tables) (bytes : List ℕ) (a : Admitted) (first : ℕ) (last : List ℕ)
    → client_admitted tables bytes ≡ Ok a → is_sent contexts a bytes ≡ true → takes contexts false is_taken (sent_for bytes a first) last ≡ true → tells_object a last ≡ true
    → (14 ≤ length last) × ((octet_of (from_be_bytes w32 (take 4 (drop 10 last))) == HT_TRANSIENT) ≡ true)
command_object contexts is_taken tables bytes a first last e sent taken tells =
    let asked = sent_for bytes a first in
    let handle = from_be_bytes w32 (take 4 (drop 10 last)) in
    let over = over_handle tables bytes a first e in
    let parts = told_object (starts_session a) a.shape.row.response_handle (code_of last == RC_SUCCESS) tells in
    let told = told_handle contexts is_taken asked last taken parts.2 (over.has ∙ parts.1) in (
      told.0,
      octet_by (code_of asked == CC_START_AUTH_SESSION) (loads_session asked) _ _ (octet_of handle == HT_TRANSIENT) told.1
          (ap (λ (c : ℕ). c == CC_START_AUTH_SESSION) over.code ∙ parts.0) (sent_loads_none contexts tables bytes a first e sent),
    )

-- ---- the handle of a session

started_by : (start started other : Bool) → (if start then started else other) ≡ true → start ≡ true → started ≡ true
started_by true started other e is = e
started_by false started other e is = absurd cc

four_parts : (kind octet number taken : Bool) → (kind && octet && number && not taken) ≡ true → (octet ≡ true) × (number ≡ true) × (taken ≡ false)
four_parts true true true false e = (refl, refl, refl)
four_parts true true true true e = absurd cc
four_parts true true false taken e = absurd cc
four_parts true false number taken e = absurd cc
four_parts false octet number taken e = absurd cc

kind_is_session : (kind : SessionKind) → is_session_octet (kind_octet kind) ≡ true
kind_is_session sorts.Hmac = refl
kind_is_session sorts.Policy = refl
kind_is_session sorts.Trial = refl

abbrev pub IsNew : Bool → ℕ → Type 0
IsNew is_taken handle = (is_taken ≡ false) × (is_session_handle handle ≡ true) × (number_of_session handle < SESSION_NUMBERS)

started_handle : (is_taken : Bool) (read : Reading ℕ) (handle : ℕ) → is_started_handle is_taken read handle ≡ true → IsNew is_taken handle
started_handle is_taken (Err code) handle e = absurd cc
started_handle is_taken (Ok read) handle e =
    let parts = four_parts (is_kind_number read.0) (octet_of handle == kind_octet (kind_of read.0)) (nat_lt (number_of_session handle) SESSION_NUMBERS) is_taken e in (
      parts.2,
      ap is_session_octet (eqb-true (octet_of handle) (kind_octet (kind_of read.0)) parts.0) ∙ kind_is_session (kind_of read.0),
      ltb-true (number_of_session handle) SESSION_NUMBERS parts.1,
    )

pub command_session : (contexts : ContextLimits) (is_taken : Bool) (tables : Tables) (bytes : List ℕ) (a : Admitted) (first : ℕ) (last : List ℕ)
    → client_admitted tables bytes ≡ Ok a → takes contexts false is_taken (sent_for bytes a first) last ≡ true → tells_session a last ≡ true
    → (is_taken ≡ false) × (14 ≤ length last) × (is_session_handle (from_be_bytes w32 (take 4 (drop 10 last))) ≡ true)
    × (number_of_session (from_be_bytes w32 (take 4 (drop 10 last))) < SESSION_NUMBERS)
command_session contexts is_taken tables bytes a first last e taken tells =
    let asked = sent_for bytes a first in
    let handle = from_be_bytes w32 (take 4 (drop 10 last)) in
    let over = over_handle tables bytes a first e in
    let parts = and_parts (starts_session a) (code_of last == RC_SUCCESS) tells in
    let told = told_handle contexts is_taken asked last taken parts.1 (over.has ∙ ((clients_command tables bytes a e).starts parts.0).0) in
    let started = started_by (code_of asked == CC_START_AUTH_SESSION) (is_started_handle is_taken (session_type_of (drop 18 asked)) handle) _ told.1
    (ap (λ (c : ℕ). c == CC_START_AUTH_SESSION) over.code ∙ parts.0) in
    let new = started_handle is_taken (session_type_of (drop 18 asked)) handle started in
    (new.0, told.0, new.1, new.2)
