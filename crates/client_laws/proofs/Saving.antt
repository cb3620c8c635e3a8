-- A context that a client saves: what is sent for it, what a device answers, and what the plain machine does.
use Rattle.std.proofs.Common.{◌≡◌, ◌+◌, ◌*◌, ◌^◌, ◌<◌, ◌≤◌, ℕ, Bool, true, false, List, [], ◌∷◌, ◌++◌, length, get_or, set, take, drop, refl, ap, sym, ◌∙◌, subst, append_assoc, drop-drop, length-drop, length-take-le, take-append-drop, arith}
use Rattle.std.specs.Prelude.{Option, Some, None, Result, Ok, Err, nat_lt, nat_le, ◌==◌}
use Rattle.std.specs.Int.{w16, w32, w64, from_be_bytes, to_be_bytes}
use Rattle.std.proofs.Math.ListN.{drop_of_length-le}
use Rattle.std.proofs.Math.Seq.{take-add}
use Rattle.std.proofs.lemmas.Bool.{and_from, and_parts, cond-true, cond-false, eqb-true, le-leb, lt-ltb}
use Rattle.std.proofs.lemmas.Nat.{be_bytes_2, be_bytes_4, from_be_bytes-to_be_bytes_8}
use Rattle.tab_spec.specs.declared.TheConstants.{CC_CONTEXT_SAVE, CONTEXT_LIMIT, HT_TRANSIENT, RC_1, RC_INSUFFICIENT, RC_SIZE, RC_SUCCESS, ST_NO_SESSIONS}
use Rattle.tab_spec.specs.declared.Admitted.{Admitted}
use Rattle.tab_spec.specs.declared.CommandRow.{CommandRow}
use Rattle.tab_spec.specs.Admission.{Tables, client_admitted, is_session_handle}
use Rattle.tab_spec.specs.Frame.{code_of, is_size, size_of, tag_of}
use Rattle.tab_spec.specs.Object.{Object}
use Rattle.tab_spec.specs.Reply.{response}
use Rattle.tab_spec.specs.Session.{Session}
use Rattle.tab_spec.specs.Shape.{cut_handle, handle_bytes, number_of_session, octet_of}
use Rattle.tab_spec.specs.Values.{AreBytes}
use Rattle.tab_spec.specs.declared.contexts.TheConstants.{PROFILE_CONTEXTS}
use Rattle.tab_spec.specs.declared.contexts.ContextLimits.{ContextLimits}
use Rattle.effect_spec.specs.Contexts.{object_context, session_context}
use Rattle.history_spec.specs.declared.Pick.TheVariants.{Sequence}
use Rattle.history_spec.specs.Table.{held_under}
use Rattle.world_spec.specs.World.{ClientState, ClientStep, client_step, handed_step, may_hand_out, object_handed, save_parameters, save_step, saved_place, session_handed, session_of, tables_of}
use Rattle.device_spec.specs.Answers.{takes}
use Rattle.device_spec.specs.ContextCommands.{context_save_command}
use Rattle.device_spec.specs.Slots.{SlotState, in_slot, slot_step}
use Rattle.tab_laws.proofs.Handled.{client_is, frame_least, long_enough, passed}
use Rattle.tab_laws.proofs.OneSpelling.{byte_at, bytes_back, bytes_front}
use Rattle.device_laws.proofs.AnswerForms.{takes_same}
use Rattle.device_laws.proofs.ContextSteps.{save_row}
use Rattle.device_laws.proofs.Moves.{object_out, object_out_step, save_taken}
use Rattle.device_laws.proofs.SessionSteps.{not_transient}
use Rattle.client_laws.specs.Ready.{IsReady, StandsBy, is_sent, sent_for}
use Rattle.client_laws.proofs.Commands.{clients_command, row_as, sent_save}
use Rattle.client_laws.proofs.NoAuths.{bare}
use Rattle.client_laws.proofs.Steps.{step_saved}

-- ---- what is sent

bytes_of : (size at : ℕ) (bytes : List ℕ) → AreBytes bytes → (i : ℕ) → get_or (take size (drop at bytes)) i 0 < 256
bytes_of size at bytes all =
    let behind : AreBytes (drop at bytes) = bytes_back (take at bytes) (drop at bytes) (subst AreBytes (sym (take-append-drop at bytes)) all) in
    byte_at (take size (drop at bytes))
    (bytes_front (take size (drop at bytes)) (drop size (drop at bytes)) (subst AreBytes (sym (take-append-drop size (drop at bytes))) behind))

-- a header is written as it stood
header_again : (bytes : List ℕ) → AreBytes bytes → 10 ≤ length bytes
    → take 10 bytes ≡ to_be_bytes w16 (tag_of bytes) ++ to_be_bytes w32 (size_of bytes) ++ to_be_bytes w32 (code_of bytes)
header_again bytes all long =
    let tag : to_be_bytes w16 (tag_of bytes) ≡ take 2 bytes =
    be_bytes_2 (take 2 bytes) (tag_of bytes) (length-take-le 2 bytes (omega (arith, long))) (bytes_of 2 0 bytes all) refl in
    let size : to_be_bytes w32 (size_of bytes) ≡ take 4 (drop 2 bytes) =
    be_bytes_4 (take 4 (drop 2 bytes)) (size_of bytes) (length-take-le 4 (drop 2 bytes) (omega (arith, long, length-drop 2 bytes))) (bytes_of 4 2 bytes all) refl in
    let code : to_be_bytes w32 (code_of bytes) ≡ take 4 (drop 6 bytes) =
    be_bytes_4 (take 4 (drop 6 bytes)) (code_of bytes) (length-take-le 4 (drop 6 bytes) (omega (arith, long, length-drop 6 bytes))) (bytes_of 4 6 bytes all) refl in
    take-add 2 8 bytes
    ∙ ap (λ (more : List ℕ). take 2 bytes ++ more)
    (take-add 4 4 (drop 2 bytes) ∙ ap (λ (more : List ℕ). take 4 (drop 2 bytes) ++ take 4 more) (drop-drop 4 2 bytes))
    ∙ sym (append_assoc (take 2 bytes) (take 4 (drop 2 bytes)) (take 4 (drop 6 bytes)))
    ∙ λ i. sym tag i ++ sym size i ++ sym code i

pub save_sent : (contexts : ContextLimits) (tables : Tables) (bytes : List ℕ) (a : Admitted) (first : ℕ) → client_admitted tables bytes ≡ Ok a
    → (a.shape.row.code == CC_CONTEXT_SAVE) ≡ true → is_sent contexts a bytes ≡ true → AreBytes bytes → sent_for bytes a first ≡ context_save_command first
save_sent contexts tables bytes a first e is sent all =
    let whole = (client_is tables bytes a e).whole in
    let known = clients_command tables bytes a e in
    let p = passed tables bytes a whole in
    let row = row_as a.shape.row save_row CC_CONTEXT_SAVE known.row refl is in
    let b = bare tables bytes a save_row whole row refl in
    let least = frame_least bytes p.frame in
    let long : 14 ≤ length bytes =
    long_enough true false (length bytes) (RC_INSUFFICIENT + RC_1 * 1) (RC_INSUFFICIENT + RC_1 * 2) least refl
    (subst (λ (r : CommandRow). cut_handle r.handles 1 bytes ≡ None) row p.cut) in
    let none : length (drop 14 bytes) ≡ 0 =
    ap (λ (n : ℕ). length (drop n bytes)) (sym b.params) ∙ eqb-true (length (drop a.auths.params bytes)) 0 (sent_save contexts a bytes sent is) in
    let size : length bytes ≡ 14 = omega (arith, none, length-drop 14 bytes, long) in
    let empty : drop 14 bytes ≡ [] = drop_of_length-le bytes {i = 14} (omega (arith, size)) in
    let says : size_of bytes ≡ 14 = eqb-true (size_of bytes) (length bytes) (and_parts (is_size (length bytes)) (size_of bytes == length bytes) p.frame).1 ∙ size in
    let code : code_of bytes ≡ CC_CONTEXT_SAVE = known.code ∙ eqb-true a.shape.row.code CC_CONTEXT_SAVE is in
    let head : take 10 bytes ≡ to_be_bytes w16 ST_NO_SESSIONS ++ to_be_bytes w32 14 ++ to_be_bytes w32 CC_CONTEXT_SAVE =
    header_again bytes all least ∙ λ i. to_be_bytes w16 (b.tag i) ++ to_be_bytes w32 (says i) ++ to_be_bytes w32 (code i) in
    let behind : drop a.shape.rest bytes ≡ [] = ap (λ (n : ℕ). drop n bytes) b.rest ∙ empty in
    λ i. head i ++ handle_bytes (b.handles i) (first ∷ get_or a.shape.handles 1 0 ∷ []) ++ behind i

-- ---- what a device that is ready answers

-- the slot of the client's object
stands_object : (transient : Bool) (slots : SlotState) (objects : List (Option Object)) (handle first : ℕ) → transient ≡ true
    → StandsBy transient slots objects handle first → ((octet_of first == HT_TRANSIENT) ≡ true) × (in_slot slots first ≡ held_under objects handle)
stands_object true slots objects handle first is stands = stands
stands_object false slots objects handle first is stands = absurd cc

pub save_over : (slots : SlotState) (client : ℕ) (state : ClientState) (bytes : List ℕ) (a : Admitted) (first : ℕ) (o : Object)
    → client_admitted (tables_of client state) bytes ≡ Ok a → (a.shape.row.code == CC_CONTEXT_SAVE) ≡ true → is_sent PROFILE_CONTEXTS a bytes ≡ true → AreBytes bytes
    → IsReady slots client state a bytes first → (octet_of (get_or a.shape.handles 0 0) == HT_TRANSIENT) ≡ true
    → held_under state.objects (get_or a.shape.handles 0 0) ≡ Some o → slots.object_counter < CONTEXT_LIMIT
    → slot_step slots (sent_for bytes a first) ≡ object_out slots o
save_over slots client state bytes a first o e is sent all ready transient there more =
    let handle = get_or a.shape.handles 0 0 in
    let stands = stands_object (octet_of handle == HT_TRANSIENT) slots state.objects handle first transient ready.stands in
    ap (slot_step slots) (save_sent PROFILE_CONTEXTS (tables_of client state) bytes a first e is sent all)
    ∙ object_out_step slots first o ready.started ready.fits stands.0 (stands.1 ∙ there) more

pub save_over_taken : (is_kept is_taken : Bool) (slots : SlotState) (client : ℕ) (state : ClientState) (bytes : List ℕ) (a : Admitted) (first : ℕ) (o : Object)
    → client_admitted (tables_of client state) bytes ≡ Ok a → (a.shape.row.code == CC_CONTEXT_SAVE) ≡ true → is_sent PROFILE_CONTEXTS a bytes ≡ true → AreBytes bytes
    → IsReady slots client state a bytes first → (octet_of (get_or a.shape.handles 0 0) == HT_TRANSIENT) ≡ true
    → held_under state.objects (get_or a.shape.handles 0 0) ≡ Some o → slots.object_counter < CONTEXT_LIMIT
    → takes PROFILE_CONTEXTS is_kept is_taken (sent_for bytes a first) (slot_step slots (sent_for bytes a first)).1 ≡ true
save_over_taken is_kept is_taken slots client state bytes a first o e is sent all ready transient there more =
    let handle = get_or a.shape.handles 0 0 in
    let command = context_save_command first in
    let stands = stands_object (octet_of handle == HT_TRANSIENT) slots state.objects handle first transient ready.stands in
    subst (λ (asked : List ℕ). takes PROFILE_CONTEXTS is_kept is_taken asked (slot_step slots asked).1 ≡ true)
    (sym (save_sent PROFILE_CONTEXTS (tables_of client state) bytes a first e is sent all))
    (takes_same PROFILE_CONTEXTS is_kept is_taken command (slot_step slots command).1 refl refl
    ∙ save_taken slots first o ready.sound ready.started ready.fits stands.0 (stands.1 ∙ there) more)

-- ---- what the plain machine does

may_so : (least sequence : ℕ) → least ≤ sequence → sequence < CONTEXT_LIMIT → may_hand_out least sequence ≡ true
may_so least sequence free more =
    and_from (nat_le least sequence) (nat_lt sequence CONTEXT_LIMIT) (le-leb least sequence free) (lt-ltb sequence CONTEXT_LIMIT more)

nothing_read : (params : List ℕ) → (length params == 0) ≡ true → save_parameters params ≡ Ok 0
nothing_read params none = cond-true (length params == 0) (Ok 0) (Err RC_SIZE) none

plain_save : (client : ℕ) (state : ClientState) (bytes : List ℕ) (a : Admitted) (sequence : ℕ) → client_admitted (tables_of client state) bytes ≡ Ok a
    → (a.shape.row.code == CC_CONTEXT_SAVE) ≡ true → is_sent PROFILE_CONTEXTS a bytes ≡ true
    → client_step client state bytes (Sequence sequence) ≡ handed_step client state (get_or a.shape.handles 0 0) sequence
plain_save client state bytes a sequence e is sent =
    step_saved client state bytes (Sequence sequence) a e is
    ∙ ap (λ (read : Result ℕ ℕ). save_step client state (get_or a.shape.handles 0 0) read (Sequence sequence))
    (nothing_read (drop a.auths.params bytes) (sent_save PROFILE_CONTEXTS a bytes sent is))

pub save_object_plain : (client : ℕ) (state : ClientState) (bytes : List ℕ) (a : Admitted) (sequence : ℕ) (o : Object)
    → client_admitted (tables_of client state) bytes ≡ Ok a → (a.shape.row.code == CC_CONTEXT_SAVE) ≡ true → is_sent PROFILE_CONTEXTS a bytes ≡ true
    → (octet_of (get_or a.shape.handles 0 0) == HT_TRANSIENT) ≡ true → held_under state.objects (get_or a.shape.handles 0 0) ≡ Some o
    → state.object_sequence ≤ sequence → sequence < CONTEXT_LIMIT
    → client_step client state bytes (Sequence sequence)
    ≡ Some (record state { object_sequence = sequence + 1 }, response ST_NO_SESSIONS RC_SUCCESS (object_context state.persist.seed sequence o))
save_object_plain client state bytes a sequence o e is sent transient there free more =
    let handle = get_or a.shape.handles 0 0 in
    let handed : ClientStep =
    (record state { object_sequence = sequence + 1 }, response ST_NO_SESSIONS RC_SUCCESS (object_context state.persist.seed sequence o)) in
    plain_save client state bytes a sequence e is sent
    ∙ cond-true (octet_of handle == HT_TRANSIENT) (object_handed state (held_under state.objects handle) sequence)
    (session_handed client state handle (session_of state.sessions client handle) sequence) transient
    ∙ ap (λ (found : Option Object). object_handed state found sequence) there
    ∙ cond-true (may_hand_out state.object_sequence sequence) (Some handed) None (may_so state.object_sequence sequence free more)

pub save_session_plain : (client : ℕ) (state : ClientState) (bytes : List ℕ) (a : Admitted) (sequence : ℕ) (s : Session)
    → client_admitted (tables_of client state) bytes ≡ Ok a → (a.shape.row.code == CC_CONTEXT_SAVE) ≡ true → is_sent PROFILE_CONTEXTS a bytes ≡ true
    → is_session_handle (get_or a.shape.handles 0 0) ≡ true → session_of state.sessions client (get_or a.shape.handles 0 0) ≡ Some s
    → state.session_sequence ≤ sequence → sequence < CONTEXT_LIMIT
    → (let handle = get_or a.shape.handles 0 0 in
    let context = session_context state.persist.seed handle sequence s in
    client_step client state bytes (Sequence sequence)
    ≡ Some (
      record state {
        sessions = set state.sessions (number_of_session handle) (saved_place client handle s context);
        session_sequence = sequence + 1;
      },
      response ST_NO_SESSIONS RC_SUCCESS context,
    ))
save_session_plain client state bytes a sequence s e is sent session there free more =
    let handle = get_or a.shape.handles 0 0 in
    let context = session_context state.persist.seed handle sequence s in
    let handed : ClientStep = (
      record state {
        sessions = set state.sessions (number_of_session handle) (saved_place client handle s context);
        session_sequence = sequence + 1;
      },
      response ST_NO_SESSIONS RC_SUCCESS context,
    ) in
    plain_save client state bytes a sequence e is sent
    ∙ cond-false (octet_of handle == HT_TRANSIENT) (object_handed state (held_under state.objects handle) sequence)
    (session_handed client state handle (session_of state.sessions client handle) sequence) (not_transient handle session)
    ∙ ap (λ (found : Option Session). session_handed client state handle found sequence) there
    ∙ cond-true (may_hand_out state.session_sequence sequence) (Some handed) None (may_so state.session_sequence sequence free more)

-- ---- the sequence is in the response

pub object_sequence_read : (seed : List ℕ) (sequence : ℕ) (o : Object) → sequence < 2 ^ 64
    → from_be_bytes w64 (take 8 (drop 10 (response ST_NO_SESSIONS RC_SUCCESS (object_context seed sequence o)))) ≡ sequence
object_sequence_read seed sequence o fits = from_be_bytes-to_be_bytes_8 sequence fits

pub session_sequence_read : (seed : List ℕ) (handle sequence : ℕ) (s : Session) → sequence < 2 ^ 64
    → from_be_bytes w64 (take 8 (drop 10 (response ST_NO_SESSIONS RC_SUCCESS (session_context seed handle sequence s)))) ≡ sequence
session_sequence_read seed handle sequence s fits = from_be_bytes-to_be_bytes_8 sequence fits
