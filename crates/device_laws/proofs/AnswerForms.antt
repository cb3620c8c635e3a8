-- The form of a response that a broker takes, of an error and of a success.
use Rattle.std.proofs.Common.{◌≡◌, ◌+◌, ◌^◌, ◌<◌, ◌≤◌, ℕ, Bool, true, false, true≢false, List, [], ◌∷◌, ◌++◌, length, drop, refl, ◌∙◌, sym, ap, subst, append_assoc, arith}
use Rattle.std.specs.Prelude.{Option, Some, None, Ok, Err, not, nat_lt, ◌==◌, ◌||◌, ◌&&◌, if◌then◌else◌}
use Rattle.std.specs.Int.{w32, to_be_bytes}
use Rattle.std.proofs.lemmas.Bool.{and_from, eq-eqb, eqb-true, le-ltb, ltb-true}
use Rattle.std.proofs.lemmas.List.{append-nil}
use Rattle.std.proofs.lemmas.Nat.{from_be_bytes-to_be_bytes_2, from_be_bytes-to_be_bytes_4}
use Rattle.tab_spec.specs.declared.TheConstants.{SESSION_NUMBERS, ST_NO_SESSIONS, ST_RSP_COMMAND, ST_SESSIONS, CC_STARTUP, CC_CONTEXT_LOAD, CC_CONTEXT_SAVE, CC_FLUSH_CONTEXT, CC_GET_CAPABILITY, CC_START_AUTH_SESSION, HT_TRANSIENT, TRANSIENT_FIRST, RC_SUCCESS, RC_BAD_TAG, RC_INITIALIZE, RC_INSUFFICIENT}
use Rattle.tab_spec.specs.Commands.{row_of}
use Rattle.tab_spec.specs.Frame.{code_of, is_frame, tag_of}
use Rattle.tab_spec.specs.Reply.{error_reply, response}
use Rattle.tab_spec.specs.Session.{is_kind_number, kind_octet, kind_of}
use Rattle.tab_spec.specs.Shape.{is_command_tag, number_of_session, octet_of}
use Rattle.tab_spec.specs.Values.{Reading, number8, sized, sized_bytes, then_read}
use Rattle.tab_spec.specs.declared.contexts.TheConstants.{PROFILE_CONTEXTS}
use Rattle.tab_spec.specs.declared.contexts.ContextLimits.{ContextLimits}
use Rattle.effect_spec.specs.Effect.{response_body}
use Rattle.device_spec.specs.Answers.{answer_area, asks_of_handles, asks_of_properties, asks_of_tables, fits_handle, has_response_handle, is_context, is_error_form, is_hidden, is_of_tables, is_own, is_started_handle, is_success_form, is_whole, is_word, lists_asked, lists_handles, loads_object, loads_session, may_refuse, session_type_of, takes, tells_asked, word_at}
use Rattle.tab_laws.proofs.ReadBack.{fixed_bytes_again, number8_again, number32_again, sized_again}
use Rattle.device_laws.specs.Effects.{is_of_effects}
use Rattle.device_laws.proofs.Faults.{IsPlain}
use Rattle.device_laws.proofs.Frames.{code_of_response, error_is_frame}

-- ---- which commands

pub record OfEffects (code : ℕ) : Type 0 where
  pub startup : (code == CC_STARTUP) ≡ false
  pub save : (code == CC_CONTEXT_SAVE) ≡ false
  pub load : (code == CC_CONTEXT_LOAD) ≡ false
  pub flush : (code == CC_FLUSH_CONTEXT) ≡ false
  pub capability : (code == CC_GET_CAPABILITY) ≡ false
  pub start : (code == CC_START_AUTH_SESSION) ≡ false

none_of : (a b c d e f : Bool) → not (a || b || c || d || e || f) ≡ true
    → (a ≡ false) × (b ≡ false) × (c ≡ false) × (d ≡ false) × (e ≡ false) × (f ≡ false)
none_of false false false false false false is = (refl, refl, refl, refl, refl, refl)
none_of true b c d e f is = absurd cc
none_of false true c d e f is = absurd cc
none_of false false true d e f is = absurd cc
none_of false false false true e f is = absurd cc
none_of false false false false true f is = absurd cc
none_of false false false false false true is = absurd cc

pub of_effects : (code : ℕ) → is_of_effects code ≡ true → OfEffects code
of_effects code is =
    let all =
    none_of (code == CC_STARTUP) (code == CC_CONTEXT_SAVE) (code == CC_CONTEXT_LOAD) (code == CC_FLUSH_CONTEXT) (code == CC_GET_CAPABILITY)
    (code == CC_START_AUTH_SESSION) is in
    record { startup = all.0; save = all.1; load = all.2; flush = all.3; capability = all.4; start = all.5 }

not_own : (startup save flush load capability session object tables : Bool) → startup ≡ false → save ≡ false → flush ≡ false → load ≡ false → capability ≡ false
    → (startup || save || flush || (load && session) || ((load && object) && false) || (capability && tables)) ≡ false
not_own startup save flush load capability session object tables a b c d e = rw (a, b, c, d, e) refl

-- such a command is a client's
pub own_none : (asked : List ℕ) → OfEffects (code_of asked) → is_own PROFILE_CONTEXTS false asked ≡ false
own_none asked of =
    not_own (code_of asked == CC_STARTUP) (code_of asked == CC_CONTEXT_SAVE) (code_of asked == CC_FLUSH_CONTEXT) (code_of asked == CC_CONTEXT_LOAD)
    (code_of asked == CC_GET_CAPABILITY) _ _ _ of.startup of.save of.flush of.load of.capability

-- ---- errors

not_yes : (b : Bool) → not b ≡ true → b ≡ false
not_yes true is = absurd cc
not_yes false is = refl

plain_parts : (a b c d : Bool) → (a && b && c && d) ≡ true → (a ≡ true) × (b ≡ true) × (c ≡ true) × (d ≡ true)
plain_parts true true true true is = (refl, refl, refl, refl)
plain_parts true true true false is = absurd cc
plain_parts true true false d is = absurd cc
plain_parts true false c d is = absurd cc
plain_parts false b c d is = absurd cc

error_by : (frame success form may ok : Bool) → frame ≡ true → success ≡ false → form ≡ true → may ≡ true
    → (frame && (if success then ok else form && may)) ≡ true
error_by frame success form may ok framed failed formed allowed = rw (framed, failed, formed, allowed) refl

may_by : (own startup plain : Bool) → own ≡ false → plain ≡ true → (if own then startup else plain) ≡ true
may_by own startup plain none is = rw (none, is) refl

error_form : (bad : Bool) (code : ℕ) → bad ≡ false → is_error_form (response (if bad then ST_RSP_COMMAND else ST_NO_SESSIONS) code []) ≡ true
error_form bad code is = rw is refl

-- a client's command may be refused with a plain code, whatever sessions clients have
pub refusal_taken : (is_taken : Bool) (asked : List ℕ) (code : ℕ) → is_own PROFILE_CONTEXTS false asked ≡ false → IsPlain code → takes PROFILE_CONTEXTS false is_taken asked (error_reply code) ≡ true
refusal_taken is_taken asked code own plain =
    let last = error_reply code in
    let parts = plain_parts (not (code == RC_SUCCESS)) (not (code == RC_BAD_TAG)) (not (is_hidden code)) (nat_lt code (2 ^ 32)) plain in
    let code_is : code_of last ≡ code =
    code_of_response (if code == RC_BAD_TAG then ST_RSP_COMMAND else ST_NO_SESSIONS) code [] (ltb-true code (2 ^ 32) parts.3) in
    error_by (is_frame last) (code_of last == RC_SUCCESS) (is_error_form last) (may_refuse PROFILE_CONTEXTS false asked (code_of last)) (is_success_form PROFILE_CONTEXTS is_taken asked last)
    (error_is_frame code) (ap (λ (c : ℕ). c == RC_SUCCESS) code_is ∙ not_yes (code == RC_SUCCESS) parts.0)
    (error_form (code == RC_BAD_TAG) code (not_yes (code == RC_BAD_TAG) parts.1))
    (ap (may_refuse PROFILE_CONTEXTS false asked) code_is ∙ may_by (is_own PROFILE_CONTEXTS false asked) _ (not (is_hidden code)) own parts.2)

pub error_taken : (asked : List ℕ) (code : ℕ) → is_own PROFILE_CONTEXTS false asked ≡ false → IsPlain code → takes PROFILE_CONTEXTS false false asked (error_reply code) ≡ true
error_taken asked code own plain = refusal_taken false asked code own plain

-- ---- successes

success_by : (frame success ok other : Bool) → frame ≡ true → success ≡ true → ok ≡ true → (frame && (if success then ok else other)) ≡ true
success_by frame success ok other framed so formed = rw (framed, so, formed) refl

form_of : (headed handled authorized saves context : Bool) → headed ≡ true → handled ≡ true → authorized ≡ true → saves ≡ false
    → (headed && handled && authorized && (not saves || context)) ≡ true
form_of headed handled authorized saves context a b c d = rw (a, b, c, d) refl

no_handles_by : (capability handles tables : Bool) → capability ≡ false → (capability && handles && tables) ≡ false
no_handles_by capability handles tables is = rw is refl

no_properties_by : (capability properties : Bool) → capability ≡ false → (capability && properties) ≡ false
no_properties_by capability properties is = rw is refl

fewer_handles : (capability properties handles tables : Bool) → (capability && (properties || (handles && tables))) ≡ false → (capability && handles && tables) ≡ false
fewer_handles true true handles tables is = absurd cc
fewer_handles true false handles tables is = is
fewer_handles false properties handles tables is = refl

fewer_properties : (capability properties more : Bool) → (capability && (properties || more)) ≡ false → (capability && properties) ≡ false
fewer_properties true true more is = absurd cc
fewer_properties true false more is = refl
fewer_properties false properties more is = refl

-- a command that asks for no handles and for no property
pub record AsksNoList (asked : List ℕ) : Type 0 where
  pub handles : asks_of_handles asked ≡ false
  pub properties : asks_of_properties asked ≡ false

-- what isn't GetCapability is one, and so is what asks nothing of the tables of a client
pub no_list_asked : (asked : List ℕ) → (code_of asked == CC_GET_CAPABILITY) ≡ false → AsksNoList asked
no_list_asked asked other =
    record {
      handles = no_handles_by (code_of asked == CC_GET_CAPABILITY) _ _ other;
      properties = no_properties_by (code_of asked == CC_GET_CAPABILITY) _ other;
    }

pub no_tables_asked : (asked : List ℕ) → asks_of_tables asked ≡ false → AsksNoList asked
no_tables_asked asked none =
    let capability = code_of asked == CC_GET_CAPABILITY in
    let properties = is_word (λ capability. capability == 6) (word_at 10 asked) in
    let handles = is_word (λ capability. capability == 1) (word_at 10 asked) in
    let tables = is_word is_of_tables (word_at 14 asked) in
    record {
      handles = fewer_handles capability properties handles tables none;
      properties = fewer_properties capability properties (handles && tables) none;
    }

lists_none : (asks whole : Bool) → asks ≡ false → (not asks || whole) ≡ true
lists_none asks whole is = rw is refl

-- no list was asked for, and the response has the command's tag
headed_by : (asked last : List ℕ) → AsksNoList asked → tag_of last ≡ tag_of asked → (lists_asked asked last && tag_of last == tag_of asked) ≡ true
headed_by asked last none tag =
    and_from (lists_asked asked last) (tag_of last == tag_of asked)
    (and_from (lists_handles asked last) (tells_asked asked last) (lists_none (asks_of_handles asked) _ none.handles)
    (lists_none (asks_of_properties asked) _ none.properties))
    (eq-eqb (tag_of last) (tag_of asked) tag)

-- what a success needs besides its header
pub record Formed (is_taken : Bool) (asked last : List ℕ) (named : Bool) : Type 0 where
  pub handled : (not named || is_word (fits_handle is_taken asked) (word_at 10 last)) ≡ true
  pub authorized : (not (tag_of asked == ST_SESSIONS) || is_whole (answer_area (drop (if named then 14 else 10) last))) ≡ true

formed_as : (is_taken : Bool) (asked last : List ℕ) (named has headed : Bool) → has ≡ named → headed ≡ true → Formed is_taken asked last named
    → (code_of asked == CC_CONTEXT_SAVE) ≡ false
    → (headed
    && (not has || is_word (fits_handle is_taken asked) (word_at 10 last))
    && (not (tag_of asked == ST_SESSIONS) || is_whole (answer_area (drop (if has then 14 else 10) last)))
    && (not (code_of asked == CC_CONTEXT_SAVE) || is_context PROFILE_CONTEXTS asked (drop 10 last))) ≡ true
formed_as is_taken asked last named has headed is begins formed save =
    subst (λ (h : Bool). (headed
    && (not h || is_word (fits_handle is_taken asked) (word_at 10 last))
    && (not (tag_of asked == ST_SESSIONS) || is_whole (answer_area (drop (if h then 14 else 10) last)))
    && (not (code_of asked == CC_CONTEXT_SAVE) || is_context PROFILE_CONTEXTS asked (drop 10 last))) ≡ true) (sym is)
    (form_of headed _ _ (code_of asked == CC_CONTEXT_SAVE) _ begins formed.handled formed.authorized save)

pub success_taken : (is_kept is_taken : Bool) (asked last : List ℕ) (named : Bool) → is_frame last ≡ true → code_of last ≡ RC_SUCCESS
    → has_response_handle (row_of (code_of asked)) ≡ named → tag_of last ≡ tag_of asked → Formed is_taken asked last named
    → (code_of asked == CC_CONTEXT_SAVE) ≡ false → AsksNoList asked → takes PROFILE_CONTEXTS is_kept is_taken asked last ≡ true
success_taken is_kept is_taken asked last named frame success has tag formed save none =
    success_by (is_frame last) (code_of last == RC_SUCCESS) (is_success_form PROFILE_CONTEXTS is_taken asked last) _ frame (eq-eqb (code_of last) RC_SUCCESS success)
    (formed_as is_taken asked last named (has_response_handle (row_of (code_of asked))) (lists_asked asked last && tag_of last == tag_of asked) has
    (headed_by asked last none tag) formed save)

-- ---- authorizations of responses

-- what stands behind the parameters is one authorization
abbrev pub answer_rest : ℕ → List ℕ → Reading ℕ
answer_rest size bytes =
    then_read (sized RC_INSUFFICIENT bytes) (λ nonce rest.
    then_read (number8 RC_INSUFFICIENT rest) (λ attributes rest.
    then_read (sized RC_INSUFFICIENT rest) (λ hmac rest. Ok (size, rest))))

abbrev pub IsAnswer : List ℕ → Type 0
IsAnswer answer = (size : ℕ) → answer_rest size answer ≡ Ok (size, [])

area_reads : (params answer : List ℕ) → length params < 2 ^ 32 → answer_area (to_be_bytes w32 (length params) ++ params ++ answer) ≡ answer_rest (length params) answer
area_reads params answer fits =
    ap answer_area (append_assoc (to_be_bytes w32 (length params)) params answer)
    ∙ rw (number32_again RC_INSUFFICIENT (length params) (params ++ answer) fits, fixed_bytes_again (length params) RC_INSUFFICIENT params answer refl) refl

body_by : (sessions : Bool) (params answer : List ℕ) → length params < 2 ^ 32 → (sessions ≡ true → IsAnswer answer)
    → (not sessions || is_whole (answer_area (if sessions then to_be_bytes w32 (length params) ++ params ++ answer else params))) ≡ true
body_by true params answer fits is = ap is_whole (area_reads params answer fits ∙ is refl (length params))
body_by false params answer fits is = refl

pub body_whole : (tag : ℕ) (params answer : List ℕ) → length params < 2 ^ 32 → ((tag == ST_SESSIONS) ≡ true → IsAnswer answer)
    → (not (tag == ST_SESSIONS) || is_whole (answer_area (response_body tag params answer))) ≡ true
body_whole tag params answer fits is = body_by (tag == ST_SESSIONS) params answer fits is

pub session_answer : (nonce hmac : List ℕ) (attributes : ℕ) → length nonce ≤ 32 → length hmac ≤ 32
    → IsAnswer (sized_bytes nonce ++ attributes ∷ sized_bytes hmac)
session_answer nonce hmac attributes few short size =
    let last : sized RC_INSUFFICIENT (sized_bytes hmac) ≡ Ok (hmac, []) =
    ap (sized RC_INSUFFICIENT) (sym (append-nil (sized_bytes hmac))) ∙ sized_again RC_INSUFFICIENT hmac [] (omega (arith, short)) in
    rw (
      sized_again RC_INSUFFICIENT nonce (attributes ∷ sized_bytes hmac) (omega (arith, few)),
      number8_again RC_INSUFFICIENT attributes (sized_bytes hmac),
      last,
    ) refl

-- ---- headers and handles

tag_fits : (first second : Bool) (tag : ℕ) → (first ≡ true → tag < 2 ^ 16) → (second ≡ true → tag < 2 ^ 16) → (first || second) ≡ true → tag < 2 ^ 16
tag_fits true second tag a b is = a refl
tag_fits false true tag a b is = b refl
tag_fits false false tag a b is = absurd cc

pub command_tag_fits : (tag : ℕ) → is_command_tag tag ≡ true → tag < 2 ^ 16
command_tag_fits tag is =
    tag_fits (tag == ST_NO_SESSIONS) (tag == ST_SESSIONS) tag (λ so. omega (arith, eqb-true tag ST_NO_SESSIONS so))
    (λ so. omega (arith, eqb-true tag ST_SESSIONS so)) is

pub tag_of_response : (tag code : ℕ) (body : List ℕ) → tag < 2 ^ 16 → tag_of (response tag code body) ≡ tag
tag_of_response tag code body fits = from_be_bytes-to_be_bytes_2 tag fits

pub handle_of_response : (tag handle : ℕ) (body : List ℕ) → handle < 2 ^ 32
    → word_at 10 (response tag RC_SUCCESS (to_be_bytes w32 handle ++ body)) ≡ Some handle
handle_of_response tag handle body fits =
    let all = response tag RC_SUCCESS (to_be_bytes w32 handle ++ body) in
    let long : nat_lt (length all) 14 ≡ false = le-ltb (length all) 14 (omega arith) in
    rw long (ap (λ (h : ℕ). Some h) (from_be_bytes-to_be_bytes_4 handle fits))

pub transient_octet : (number : ℕ) → number ≤ 254 → (octet_of (TRANSIENT_FIRST + number) == HT_TRANSIENT) ≡ true
transient_octet number few = eq-eqb (octet_of (TRANSIENT_FIRST + number)) HT_TRANSIENT (omega (arith, few))

-- ---- what the broker holds matters to ContextLoad and StartAuthSession alone

own_same : (is_kept startup save flush load session object tables : Bool) → load ≡ false
    → (startup || save || flush || (load && session) || ((load && object) && is_kept) || tables)
    ≡ (startup || save || flush || (load && session) || ((load && object) && true) || tables)
own_same is_kept startup save flush load session object tables is = rw is refl

fits_by : (start first second other : Bool) → start ≡ false → (if start then first else other) ≡ (if start then second else other)
fits_by start first second other is = rw is refl

fits_same : (is_taken : Bool) (asked : List ℕ) (word : Option ℕ) → (code_of asked == CC_START_AUTH_SESSION) ≡ false
    → is_word (fits_handle is_taken asked) word ≡ is_word (fits_handle true asked) word
fits_same is_taken asked None start = refl
fits_same is_taken asked (Some handle) start = fits_by (code_of asked == CC_START_AUTH_SESSION) _ _ _ start

refuse_same : (contexts : ContextLimits) (is_kept : Bool) (asked : List ℕ) (code : ℕ) → (code_of asked == CC_CONTEXT_LOAD) ≡ false → may_refuse contexts is_kept asked code ≡ may_refuse contexts true asked code
refuse_same contexts is_kept asked code load =
    ap (λ (own : Bool). if own then code_of asked == CC_STARTUP && code == RC_INITIALIZE else not (is_hidden code))
    (own_same is_kept (code_of asked == CC_STARTUP) (code_of asked == CC_CONTEXT_SAVE) (code_of asked == CC_FLUSH_CONTEXT) (code_of asked == CC_CONTEXT_LOAD) _ _
    (asks_of_tables asked) load)

takes_by : (frame success headed named handled first authorized saved form refuse second : Bool) → handled ≡ first → refuse ≡ second
    → (frame && (if success then headed && (not named || handled) && authorized && saved else form && refuse))
    ≡ (frame && (if success then headed && (not named || first) && authorized && saved else form && second))
takes_by frame success headed named handled first authorized saved form refuse second a b = rw (a, b) refl

pub takes_same : (contexts : ContextLimits) (is_kept is_taken : Bool) (asked last : List ℕ) → (code_of asked == CC_CONTEXT_LOAD) ≡ false → (code_of asked == CC_START_AUTH_SESSION) ≡ false
    → takes contexts is_kept is_taken asked last ≡ takes contexts true true asked last
takes_same contexts is_kept is_taken asked last load start =
    takes_by (is_frame last) (code_of last == RC_SUCCESS) (lists_asked asked last && tag_of last == tag_of asked) (has_response_handle (row_of (code_of asked)))
    (is_word (fits_handle is_taken asked) (word_at 10 last)) (is_word (fits_handle true asked) (word_at 10 last)) _ _ (is_error_form last)
    (may_refuse contexts is_kept asked (code_of last)) (may_refuse contexts true asked (code_of last)) (fits_same is_taken asked (word_at 10 last) start)
    (refuse_same contexts is_kept asked (code_of last) load)

-- ---- a broker that holds less takes more

refuse_more : (before object is_kept tables refused plain : Bool) → (refused ≡ true → before ≡ true)
    → (if before || (object && is_kept) || tables then refused else plain) ≡ true → (if before || (object && false) || tables then refused else plain) ≡ true
refuse_more true object is_kept tables refused plain starts e = e
refuse_more false true true tables refused plain starts e = absurd (true≢false (sym (starts e)))
refuse_more false true false tables refused plain starts e = e
refuse_more false false is_kept tables refused plain starts e = e

-- only Startup may be refused among the broker's own
startup_before : (startup save flush session initialize : Bool) → (startup && initialize) ≡ true → (startup || save || flush || session) ≡ true
startup_before true save flush session initialize e = refl
startup_before false save flush session initialize e = absurd cc

may_refuse_more : (contexts : ContextLimits) (is_kept : Bool) (asked : List ℕ) (code : ℕ) → may_refuse contexts is_kept asked code ≡ true → may_refuse contexts false asked code ≡ true
may_refuse_more contexts is_kept asked code e =
    let startup = code_of asked == CC_STARTUP in
    let save = code_of asked == CC_CONTEXT_SAVE in
    let flush = code_of asked == CC_FLUSH_CONTEXT in
    refuse_more (startup || save || flush || loads_session asked) (loads_object contexts asked) is_kept (asks_of_tables asked) (startup && code == RC_INITIALIZE)
    (not (is_hidden code)) (startup_before startup save flush (loads_session asked) (code == RC_INITIALIZE)) e

untaken : (kind octet number is_taken : Bool) → (kind && octet && number && not is_taken) ≡ true → (kind && octet && number && not false) ≡ true
untaken kind octet number false e = e
untaken true true true true e = absurd cc
untaken true true false true e = absurd cc
untaken true false number true e = absurd cc
untaken false octet number true e = absurd cc

started_more : (is_taken : Bool) (read : Reading ℕ) (handle : ℕ) → is_started_handle is_taken read handle ≡ true → is_started_handle false read handle ≡ true
started_more is_taken (Err code) handle e = absurd cc
started_more is_taken (Ok read) handle e =
    untaken (is_kind_number read.0) (octet_of handle == kind_octet (kind_of read.0)) (nat_lt (number_of_session handle) SESSION_NUMBERS) is_taken e

where_more : (start first second other : Bool) → (first ≡ true → second ≡ true) → (if start then first else other) ≡ true → (if start then second else other) ≡ true
where_more true first second other more e = more e
where_more false first second other more e = e

fits_more : (is_taken : Bool) (asked : List ℕ) (word : Option ℕ) → is_word (fits_handle is_taken asked) word ≡ true → is_word (fits_handle false asked) word ≡ true
fits_more is_taken asked None e = absurd cc
fits_more is_taken asked (Some handle) e =
    let type = session_type_of (drop 18 asked) in
    where_more (code_of asked == CC_START_AUTH_SESSION) (is_started_handle is_taken type handle) (is_started_handle false type handle) _
    (started_more is_taken type handle) e

takes_both : (frame success headed named handled first authorized saved form refuse second : Bool) → (handled ≡ true → first ≡ true) → (refuse ≡ true → second ≡ true)
    → (frame && (if success then headed && (not named || handled) && authorized && saved else form && refuse)) ≡ true
    → (frame && (if success then headed && (not named || first) && authorized && saved else form && second)) ≡ true
takes_both false success headed named handled first authorized saved form refuse second a b e = absurd cc
takes_both true true false named handled first authorized saved form refuse second a b e = absurd cc
takes_both true true true false handled first authorized saved form refuse second a b e = e
takes_both true true true true false first authorized saved form refuse second a b e = absurd cc
takes_both true true true true true first authorized saved form refuse second a b e = rw (a refl) e
takes_both true false headed named handled first authorized saved true refuse second a b e = b e
takes_both true false headed named handled first authorized saved false refuse second a b e = absurd cc

pub takes_more : (contexts : ContextLimits) (is_kept is_taken : Bool) (asked last : List ℕ) → takes contexts is_kept is_taken asked last ≡ true → takes contexts false false asked last ≡ true
takes_more contexts is_kept is_taken asked last e =
    takes_both (is_frame last) (code_of last == RC_SUCCESS) (lists_asked asked last && tag_of last == tag_of asked) (has_response_handle (row_of (code_of asked)))
    (is_word (fits_handle is_taken asked) (word_at 10 last)) (is_word (fits_handle false asked) (word_at 10 last)) _ _ (is_error_form last)
    (may_refuse contexts is_kept asked (code_of last)) (may_refuse contexts false asked (code_of last)) (fits_more is_taken asked (word_at 10 last))
    (may_refuse_more contexts is_kept asked (code_of last)) e

-- ---- what the contexts may be matters to ContextSave and ContextLoad alone

own_as : (startup save flush load session first second kept tables : Bool) → load ≡ false
    → (startup || save || flush || (load && session) || ((load && first) && kept) || tables)
    ≡ (startup || save || flush || (load && session) || ((load && second) && kept) || tables)
own_as startup save flush load session first second kept tables is = rw is refl

saved_as : (save first second : Bool) → save ≡ false → (not save || first) ≡ (not save || second)
saved_as save first second is = rw is refl

takes_where : (frame success formed saved second form refuse refuse_second : Bool) → saved ≡ second → refuse ≡ refuse_second
    → (frame && (if success then formed && saved else form && refuse)) ≡ (frame && (if success then formed && second else form && refuse_second))
takes_where frame success formed saved second form refuse refuse_second a b = rw (a, b) refl

pub takes_of_any : (contexts : ContextLimits) (is_kept is_taken : Bool) (asked last : List ℕ) → (code_of asked == CC_CONTEXT_SAVE) ≡ false
    → (code_of asked == CC_CONTEXT_LOAD) ≡ false → takes contexts is_kept is_taken asked last ≡ takes PROFILE_CONTEXTS is_kept is_taken asked last
takes_of_any contexts is_kept is_taken asked last save load =
    let own : is_own contexts is_kept asked ≡ is_own PROFILE_CONTEXTS is_kept asked =
    own_as (code_of asked == CC_STARTUP) (code_of asked == CC_CONTEXT_SAVE) (code_of asked == CC_FLUSH_CONTEXT) (code_of asked == CC_CONTEXT_LOAD) _ _ _ is_kept
    (asks_of_tables asked) load in
    takes_where (is_frame last) (code_of last == RC_SUCCESS) _ _ _ (is_error_form last) _ _
    (saved_as (code_of asked == CC_CONTEXT_SAVE) (is_context contexts asked (drop 10 last)) (is_context PROFILE_CONTEXTS asked (drop 10 last)) save)
    (ap (λ (own : Bool). if own then code_of asked == CC_STARTUP && code_of last == RC_INITIALIZE else not (is_hidden (code_of last))) own)
