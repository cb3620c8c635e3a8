-- Which responses a broker takes as the answer to a command that it sent, and which are wrong answers. What a response
-- looks like is the standard's (Part 1, "Command/Response Structure"); which ones are taken is this project's own.
use Rattle.std.specs.Prelude.{◌≡◌, ℕ, zero, suc, ◌+◌, ◌*◌, ◌==◌, ◌||◌, ◌&&◌, not, nat_lt, nat_le, Bool, true, false, List, [], ◌∷◌, length, get_or, take, drop, Option, Some, None, Ok, Err, if◌then◌else◌}
use Rattle.std.specs.List.{list_all, list_any}
use Rattle.std.specs.Int.{w32, from_be_bytes}
use Rattle.tab_spec.specs.declared.CommandRow.{CommandRow}
use Rattle.tab_spec.specs.declared.TheConstants.{HEADER_BYTES, ST_NO_SESSIONS, ST_SESSIONS, CC_STARTUP, CC_CONTEXT_LOAD, CC_CONTEXT_SAVE, CC_FLUSH_CONTEXT, CC_GET_CAPABILITY, CC_START_AUTH_SESSION, HT_TRANSIENT, SESSION_NUMBERS, RC_SUCCESS, RC_INITIALIZE, RC_INSUFFICIENT, RC_CANCELED, RC_CONTEXT_GAP, RC_OBJECT_MEMORY, RC_SESSION_MEMORY, RC_REFERENCE_H0, RC_REFERENCE_S0, RC_MEMORY, RC_DEVICE_FAULT, RC_JOURNAL_FULL, RC_DEVICE_ANSWER}
use Rattle.tab_spec.specs.declared.contexts.ContextLimits.{ContextLimits}
use Rattle.tab_spec.specs.declared.contexts.TheConstants.{PROFILE_CONTEXTS}
use Rattle.tab_spec.specs.Admission.{is_session_handle}
use Rattle.tab_spec.specs.Commands.{row_of}
use Rattle.tab_spec.specs.Contexts.{is_saved_object}
use Rattle.tab_spec.specs.Frame.{code_of, is_frame, reported_code, tag_of}
use Rattle.tab_spec.specs.Session.{is_kind_number, kind_of, kind_octet}
use Rattle.tab_spec.specs.Shape.{octet_of, number_of_session}
use Rattle.tab_spec.specs.Values.{Reading, fixed_bytes, number8, number32, sized, ◌>>=◌}
use Rattle.effect_spec.specs.Contexts.{Context, context_of}

-- ---- what was asked

-- the number of four bytes at a place, where it is whole
abbrev pub word_at : ℕ → List ℕ → Option ℕ
word_at at bytes = if nat_lt (length bytes) (at + 4) then None else Some (from_be_bytes w32 (take 4 (drop at bytes)))

abbrev pub is_word : (ℕ → Bool) → Option ℕ → Bool
is_word test None = false
is_word test (Some word) = test word

-- where savedHandle stands in ContextLoad, after the header and the number of the context
abbrev pub saved_handle_place : ℕ
saved_handle_place = HEADER_BYTES + 8

-- whether ContextLoad's savedHandle is that of a session, or of an object
abbrev pub loads_session : List ℕ → Bool
loads_session asked = code_of asked == CC_CONTEXT_LOAD && is_word is_session_handle (word_at saved_handle_place asked)

abbrev pub loads_object : ContextLimits → List ℕ → Bool
loads_object contexts asked =
    code_of asked == CC_CONTEXT_LOAD && is_word (is_saved_object contexts) (word_at saved_handle_place asked)

-- what GetCapability asks of the tables of a client: handles of objects and of sessions, and properties
abbrev pub is_of_tables : ℕ → Bool
is_of_tables property = octet_of property == HT_TRANSIENT || is_session_handle property

abbrev pub asks_of_tables : List ℕ → Bool
asks_of_tables asked =
    code_of asked == CC_GET_CAPABILITY
    && (is_word (λ capability. capability == 6) (word_at HEADER_BYTES asked)
    || (is_word (λ capability. capability == 1) (word_at HEADER_BYTES asked) && is_word is_of_tables (word_at (HEADER_BYTES + 4) asked)))

-- Whether a command is the broker's own: it knows beforehand that the device has no reason to refuse it. A ContextLoad of an
-- object is one exactly where the context is kept by the broker, and not a client's.
abbrev pub is_own : ContextLimits → Bool → List ℕ → Bool
is_own contexts is_kept asked =
    code_of asked == CC_STARTUP || code_of asked == CC_CONTEXT_SAVE || code_of asked == CC_FLUSH_CONTEXT
    || loads_session asked || (loads_object contexts asked && is_kept) || asks_of_tables asked

-- ---- errors

-- a handle or an authorization that names nothing
abbrev pub is_reference : ℕ → Bool
is_reference code =
    (nat_le RC_REFERENCE_H0 code && nat_le code (RC_REFERENCE_H0 + 6)) || (nat_le RC_REFERENCE_S0 code && nat_le code (RC_REFERENCE_S0 + 6))

-- the codes that no command of a client gets from a device: the broker sees to it that nothing of the kind comes
abbrev pub is_hidden : ℕ → Bool
is_hidden code =
    list_any (λ hidden. hidden == code)
    (RC_INITIALIZE ∷ RC_CANCELED ∷ RC_CONTEXT_GAP ∷ RC_OBJECT_MEMORY ∷ RC_SESSION_MEMORY ∷ RC_MEMORY ∷ RC_DEVICE_FAULT ∷ RC_JOURNAL_FULL
    ∷ RC_DEVICE_ANSWER ∷ [])
    || is_reference code

-- the broker's own commands succeed, but a device may have started before
abbrev pub may_refuse : ContextLimits → Bool → List ℕ → ℕ → Bool
may_refuse contexts is_kept asked code =
    if is_own contexts is_kept asked then code_of asked == CC_STARTUP && code == RC_INITIALIZE else not (is_hidden code)

-- an error is ten bytes
abbrev pub is_error_form : List ℕ → Bool
is_error_form last = tag_of last == ST_NO_SESSIONS && length last == HEADER_BYTES

-- ---- successes

abbrev pub has_response_handle : Option CommandRow → Bool
has_response_handle None = false
has_response_handle (Some row) = row.response_handle

-- the sessionType of StartAuthSession, after its two handles, nonceCaller and the encrypted salt
abbrev pub session_type_of : List ℕ → Reading ℕ
session_type_of params = do
  (nonce, rest) ← sized RC_INSUFFICIENT params
  (salt, rest) ← sized RC_INSUFFICIENT rest
  number8 RC_INSUFFICIENT rest

-- the handle of a session that started: of the type that was asked for, with a number that a session may have and that neither a client's
-- nor a left one has
abbrev pub is_started_handle : Bool → Reading ℕ → ℕ → Bool
is_started_handle is_taken (Err code) handle = false
is_started_handle is_taken (Ok read) handle =
    is_kind_number read.0 && octet_of handle == kind_octet (kind_of read.0)
    && nat_lt (number_of_session handle) SESSION_NUMBERS && not is_taken

-- the handle of a response: a session's, by the command, and else an object's
abbrev pub fits_handle : Bool → List ℕ → ℕ → Bool
fits_handle is_taken asked handle =
    if code_of asked == CC_START_AUTH_SESSION then is_started_handle is_taken (session_type_of (drop (HEADER_BYTES + 8) asked)) handle
    else if loads_session asked then is_word (λ saved. saved == handle) (word_at saved_handle_place asked)
    else octet_of handle == HT_TRANSIENT

-- whether a reading succeeds, and nothing follows
abbrev pub is_whole : {X : Type 0} → Reading X → Bool
is_whole (Err code) = false
is_whole (Ok read) = length read.1 == 0

-- the size of the parameters, that many bytes, and one authorization: nonceTPM, sessionAttributes and hmac (Part 2,
-- "TPMS_AUTH_RESPONSE")
abbrev pub answer_area : List ℕ → Reading ℕ
answer_area bytes = do
  (size, rest) ← number32 RC_INSUFFICIENT bytes
  (params, rest) ← fixed_bytes size RC_INSUFFICIENT rest
  (nonce, rest) ← sized RC_INSUFFICIENT rest
  (attributes, rest) ← number8 RC_INSUFFICIENT rest
  (hmac, rest) ← sized RC_INSUFFICIENT rest
  Ok (size, rest)

-- the context of a saved object or session: one whole TPMS_CONTEXT of the size and the savedHandle that it has
abbrev pub is_context_of : ContextLimits → ℕ → List ℕ → Reading Context → Bool
is_context_of contexts handle context (Err code) = false
is_context_of contexts handle context (Ok read) =
    length read.1 == 0
    && (if octet_of handle == HT_TRANSIENT
    then is_saved_object contexts read.0.saved_handle && nat_le (length context) contexts.object_bytes
    else read.0.saved_handle == handle && nat_le (length context) contexts.session_bytes)

abbrev pub is_context : ContextLimits → List ℕ → List ℕ → Bool
is_context contexts asked context =
    is_word (λ handle. is_context_of contexts handle context (context_of context)) (word_at HEADER_BYTES asked)

-- ---- lists of handles (Part 2, "TPMS_CAPABILITY_DATA")

-- whether GetCapability asks for handles of objects or of sessions
abbrev pub asks_of_handles : List ℕ → Bool
asks_of_handles asked =
    code_of asked == CC_GET_CAPABILITY && is_word (λ capability. capability == 1) (word_at HEADER_BYTES asked)
    && is_word is_of_tables (word_at (HEADER_BYTES + 4) asked)

-- so many handles, one behind the other
abbrev pub handles_from : ℕ → List ℕ → List ℕ
handles_from zero bytes = []
handles_from (suc count) bytes = from_be_bytes w32 (take 4 bytes) ∷ handles_from count (drop 4 bytes)

-- what moreData, the capability, the count of the handles and the first of them stand behind, in a response
abbrev pub count_place : ℕ
count_place = HEADER_BYTES + 5

abbrev pub list_place : ℕ
list_place = HEADER_BYTES + 9

-- the handles of a list, as many as it counts
abbrev pub listed_handles : List ℕ → List ℕ
listed_handles last = handles_from (from_be_bytes w32 (take 4 (drop count_place last))) (drop list_place last)

-- whether a handle may stand in the list of those from this one on: with objects no session, and the other way round
abbrev pub may_be_listed : ℕ → ℕ → Bool
may_be_listed property handle = if octet_of property == HT_TRANSIENT then octet_of handle == HT_TRANSIENT else is_session_handle handle

-- whether a response is the whole list of the handles from this one on: none is left over, and those that it counts fill it
abbrev pub is_list_from : List ℕ → ℕ → Bool
is_list_from last property =
    get_or last HEADER_BYTES 1 == 0 && is_word (λ capability. capability == 1) (word_at (HEADER_BYTES + 1) last)
    && is_word (λ count. length last == list_place + 4 * count) (word_at count_place last)
    && list_all (may_be_listed property) (listed_handles last)

-- whether the response is the list of handles that was asked for, where one was
abbrev pub lists_handles : List ℕ → List ℕ → Bool
lists_handles asked last = not (asks_of_handles asked) || is_word (is_list_from last) (word_at (HEADER_BYTES + 4) asked)

-- ---- one property (Part 2, "TPMS_TAGGED_PROPERTY")

-- whether GetCapability asks for properties
abbrev pub asks_of_properties : List ℕ → Bool
asks_of_properties asked = code_of asked == CC_GET_CAPABILITY && is_word (λ capability. capability == 6) (word_at HEADER_BYTES asked)

-- where the value stands behind the first property of a response
abbrev pub value_place : ℕ
value_place = list_place + 4

-- the value that it has
abbrev pub value_told : List ℕ → ℕ
value_told last = from_be_bytes w32 (take 4 (drop value_place last))

-- whether a response has this property and nothing else, whether or not it says that there are more
abbrev pub tells_property : List ℕ → ℕ → Bool
tells_property last property =
    is_word (λ capability. capability == 6) (word_at (HEADER_BYTES + 1) last)
    && is_word (λ count. count == 1) (word_at count_place last)
    && is_word (λ first. first == property) (word_at list_place last)
    && length last == value_place + 4

-- whether the response has the property that was asked for, if one was
abbrev pub tells_asked : List ℕ → List ℕ → Bool
tells_asked asked last = not (asks_of_properties asked) || is_word (tells_property last) (word_at (HEADER_BYTES + 4) asked)

-- ---- the whole success

-- whether the response has the handles or the property that was asked for, where any was
abbrev pub lists_asked : List ℕ → List ℕ → Bool
lists_asked asked last = lists_handles asked last && tells_asked asked last

-- the list of handles or the property that was asked for, the command's tag, a handle where there has to be one, an authorization where the
-- command has one, and the context that was asked for
abbrev pub is_success_form : ContextLimits → Bool → List ℕ → List ℕ → Bool
is_success_form contexts is_taken asked last =
    let has_handle = has_response_handle (row_of (code_of asked)) in
    lists_asked asked last
    && tag_of last == tag_of asked
    && (not has_handle || is_word (fits_handle is_taken asked) (word_at HEADER_BYTES last))
    && (not (tag_of asked == ST_SESSIONS) || is_whole (answer_area (drop (if has_handle then HEADER_BYTES + 4 else HEADER_BYTES) last)))
    && (not (code_of asked == CC_CONTEXT_SAVE) || is_context contexts asked (drop HEADER_BYTES last))

-- ---- right and wrong

-- Whether a response is taken as the answer to a command, of a device with these contexts, by what the broker holds: whether the
-- context that the command loads is kept by it, and whether no new session can have the number of the response's handle.
abbrev pub takes : ContextLimits → Bool → Bool → List ℕ → List ℕ → Bool
takes contexts is_kept is_taken asked last =
    is_frame last
    && (if code_of last == RC_SUCCESS then is_success_form contexts is_taken asked last
    else is_error_form last && may_refuse contexts is_kept asked (code_of last))

-- the same of a device of the profile. What Startup, FlushContext and GetCapability are answered is so taken of any device
abbrev pub profile_takes : Bool → Bool → List ℕ → List ℕ → Bool
profile_takes is_kept is_taken asked last = takes PROFILE_CONTEXTS is_kept is_taken asked last

-- whether the last response may be a wrong answer to what was asked: it is one by what some broker may hold
abbrev pub wrong : ContextLimits → List ℕ → Option (List ℕ) → Bool
wrong contexts asked None = false
wrong contexts asked (Some last) = not (takes contexts true true asked last)

-- the last response is a wrong answer to what was asked, and this is its code
pub record IsWrongAnswer (contexts : ContextLimits) (asked : List ℕ) (last : Option (List ℕ)) (code : ℕ) : Type 0 where
  pub is_wrong : wrong contexts asked last ≡ true
  pub response : List ℕ
  pub last_is : last ≡ Some response
  pub code_is : code ≡ reported_code response

-- the last response isn't refused by every broker: one takes it that keeps no context which the command loads, and whose clients
-- have no session with its handle's number
abbrev pub IsRight : ContextLimits → List ℕ → Option (List ℕ) → Type 0
IsRight contexts asked None = Unit {0}
IsRight contexts asked (Some last) = takes contexts false false asked last ≡ true
