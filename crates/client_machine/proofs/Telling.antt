-- Which commands the broker answers by itself, and that the response to a ContextSave has the number of its context.
use Rattle.std.proofs.Common.{◌≡◌, ◌+◌, ◌≤◌, ℕ, Bool, true, false, true≢false, List, [], drop, take, length, refl, ap, sym, ◌∙◌, arith, length-drop}
use Rattle.std.specs.Prelude.{◌==◌, ◌&&◌, ◌||◌, not, nat_lt, is_ok, Option, Some, None, Result, Ok, Err, if◌then◌else◌}
use Rattle.std.proofs.lemmas.Bool.{and_parts, cond-false, eqb-true, ltb-false}
use Rattle.tab_spec.specs.declared.TheConstants.{CC_CONTEXT_LOAD, CC_CONTEXT_SAVE, CC_CREATE_PRIMARY, CC_FLUSH_CONTEXT, CC_GET_CAPABILITY, CC_LOAD, CC_START_AUTH_SESSION, HEADER_BYTES, RC_INSUFFICIENT, RC_SIZE, RC_SUCCESS, ST_SESSIONS}
use Rattle.tab_spec.specs.declared.Admitted.{Admitted}
use Rattle.tab_spec.specs.Commands.{row_of}
use Rattle.tab_spec.specs.Frame.{code_of, is_frame, tag_of}
use Rattle.tab_spec.specs.Persist.{Persist, fresh_persist}
use Rattle.tab_spec.specs.Shape.{loads_object, makes_object_by}
use Rattle.tab_spec.specs.Values.{Reading, then_read}
use Rattle.tab_spec.specs.declared.contexts.ContextLimits.{ContextLimits}
use Rattle.effect_spec.specs.Contexts.{Context, context_of}
use Rattle.device_spec.specs.Answers.{answer_area, fits_handle, has_response_handle, is_context, is_context_of, is_error_form, is_success_form, is_whole, is_word, lists_asked, may_refuse, takes, word_at}
use Rattle.client_laws.specs.Ready.{is_sent, starts_session}
use Rattle.session_swap.specs.Items.{SessionsView}
use Rattle.world_spec.specs.World.{save_parameters}
use Rattle.client_machine.specs.Replies.{nothing_told, own_answer, reply_of}

-- ---- what isn't sent

sent_else : (flush save load list : Bool) (empty object own : Bool) → flush ≡ false → save ≡ false → load ≡ false → list ≡ false
    → (if flush then false else if save then empty else if load then object else if list then own else true) ≡ true
sent_else flush save load list empty object own is also too so = rw (is, also, too, so) refl

-- a command with another code is sent
other_sent : (contexts : ContextLimits) (a : Admitted) (bytes : List ℕ) → (a.shape.row.code == CC_FLUSH_CONTEXT) ≡ false → (a.shape.row.code == CC_CONTEXT_SAVE) ≡ false
    → (a.shape.row.code == CC_CONTEXT_LOAD) ≡ false → (a.shape.row.code == CC_GET_CAPABILITY) ≡ false → is_sent contexts a bytes ≡ true
other_sent contexts a bytes flush save load list =
    let code = a.shape.row.code in
    sent_else (code == CC_FLUSH_CONTEXT) (code == CC_CONTEXT_SAVE) (code == CC_CONTEXT_LOAD) (code == CC_GET_CAPABILITY) _ _ _ flush save load list

known_sent : (contexts : ContextLimits) (a : Admitted) (bytes : List ℕ) (known : ℕ) → (a.shape.row.code == known) ≡ true → (known == CC_FLUSH_CONTEXT) ≡ false
    → (known == CC_CONTEXT_SAVE) ≡ false → (known == CC_CONTEXT_LOAD) ≡ false → (known == CC_GET_CAPABILITY) ≡ false → is_sent contexts a bytes ≡ true
known_sent contexts a bytes known is flush save load list =
    let same = eqb-true a.shape.row.code known is in
    other_sent contexts a bytes (ap (λ (c : ℕ). c == CC_FLUSH_CONTEXT) same ∙ flush) (ap (λ (c : ℕ). c == CC_CONTEXT_SAVE) same ∙ save)
    (ap (λ (c : ℕ). c == CC_CONTEXT_LOAD) same ∙ load) (ap (λ (c : ℕ). c == CC_GET_CAPABILITY) same ∙ list)

not_so : (test : Bool) → (test ≡ true → ⊥) → test ≡ false
not_so true never = absurd (never refl)
not_so false never = refl

-- it starts no session
pub unsent_starts : (contexts : ContextLimits) (a : Admitted) (bytes : List ℕ) → is_sent contexts a bytes ≡ false → starts_session a ≡ false
unsent_starts contexts a bytes unsent =
    not_so (starts_session a) (λ starts. true≢false (sym (known_sent contexts a bytes CC_START_AUTH_SESSION starts refl refl refl refl) ∙ unsent))

not_either : (one other : Bool) → one ≡ false → other ≡ false → (one || other) ≡ false
not_either one other is also = rw (is, also) refl

not_both : (one other : Bool) → (one ≡ true → other ≡ false) → (one && other) ≡ false
not_both true other apart = apart refl
not_both false other apart = refl

load_unsent : (flush save load : Bool) (empty object rest : Bool) → flush ≡ false → save ≡ false → load ≡ true
    → (if flush then false else if save then empty else if load then object else rest) ≡ object
load_unsent flush save load empty object rest is also so = rw (is, also, so) refl

-- and loads no object
pub unsent_loads : (contexts : ContextLimits) (a : Admitted) (bytes : List ℕ) → is_sent contexts a bytes ≡ false → (a.shape.row.code == CC_CONTEXT_LOAD) ≡ true → loads_object contexts bytes ≡ false
unsent_loads contexts a bytes unsent is =
    let code = a.shape.row.code in
    let same = eqb-true code CC_CONTEXT_LOAD is in
    sym (load_unsent (code == CC_FLUSH_CONTEXT) (code == CC_CONTEXT_SAVE) (code == CC_CONTEXT_LOAD) _ (loads_object contexts bytes) _
    (ap (λ (c : ℕ). c == CC_FLUSH_CONTEXT) same) (ap (λ (c : ℕ). c == CC_CONTEXT_SAVE) same) is) ∙ unsent

-- and makes no object
pub unsent_makes : (contexts : ContextLimits) (a : Admitted) (bytes : List ℕ) → is_sent contexts a bytes ≡ false → makes_object_by contexts (Ok a.shape) bytes ≡ false
unsent_makes contexts a bytes unsent =
    let code = a.shape.row.code in
    not_either (code == CC_CREATE_PRIMARY || code == CC_LOAD) (code == CC_CONTEXT_LOAD && loads_object contexts bytes)
    (not_either (code == CC_CREATE_PRIMARY) (code == CC_LOAD)
    (not_so (code == CC_CREATE_PRIMARY) (λ is. true≢false (sym (known_sent contexts a bytes CC_CREATE_PRIMARY is refl refl refl refl) ∙ unsent)))
    (not_so (code == CC_LOAD) (λ is. true≢false (sym (known_sent contexts a bytes CC_LOAD is refl refl refl refl) ∙ unsent))))
    (not_both (code == CC_CONTEXT_LOAD) (loads_object contexts bytes) (λ is. unsent_loads contexts a bytes unsent is))

pub load_kept : (save load : Bool) (saved loaded told : Result (List ℕ) ℕ) → save ≡ false → load ≡ true
    → (if save then saved else if load then loaded else told) ≡ loaded
load_kept save load saved loaded told is also = rw (is, also) refl

-- ---- a ContextSave that isn't sent is refused

save_unsent : (flush save : Bool) (empty rest : Bool) → flush ≡ false → save ≡ true → (if flush then false else if save then empty else rest) ≡ empty
save_unsent flush save empty rest is also = rw (is, also) refl

pub something_follows : (contexts : ContextLimits) (a : Admitted) (bytes : List ℕ) → is_sent contexts a bytes ≡ false → (a.shape.row.code == CC_CONTEXT_SAVE) ≡ true
    → (length (drop a.auths.params bytes) == 0) ≡ false
something_follows contexts a bytes unsent is =
    let code = a.shape.row.code in
    let same = eqb-true code CC_CONTEXT_SAVE is in
    sym (save_unsent (code == CC_FLUSH_CONTEXT) (code == CC_CONTEXT_SAVE) (length (drop a.auths.params bytes) == 0) _
    (ap (λ (c : ℕ). c == CC_FLUSH_CONTEXT) same) is) ∙ unsent

pub nothing_read : (params : List ℕ) → (length params == 0) ≡ false → save_parameters params ≡ Err RC_SIZE
nothing_read params some = cond-false (length params == 0) (Ok 0) (Err RC_SIZE) some

pub own_save : (save load : Bool) (saved loaded told : Result (List ℕ) ℕ) → save ≡ true → (if save then saved else if load then loaded else told) ≡ saved
own_save save load saved loaded told is = rw is refl

pub save_refused : (contexts : ContextLimits) (client : ℕ) (table : List (Option ℕ)) (view : SessionsView) (a : Admitted) (bytes reply : List ℕ) → is_sent contexts a bytes ≡ false
    → (a.shape.row.code == CC_CONTEXT_SAVE) ≡ true → ((persist : Persist) → reply ≡ reply_of (own_answer persist client table view a bytes))
    → (code_of reply == RC_SUCCESS) ≡ false
save_refused contexts client table view a bytes reply unsent is reply_is =
    let params = drop a.auths.params bytes in
    let answer : own_answer (fresh_persist []) client table view a bytes ≡ Err RC_SIZE =
    own_save (a.shape.row.code == CC_CONTEXT_SAVE) (a.shape.row.code == CC_CONTEXT_LOAD) (nothing_told (save_parameters params)) _ _ is
    ∙ ap nothing_told (nothing_read params (something_follows contexts a bytes unsent is)) in
    ap (λ (reply : List ℕ). code_of reply == RC_SUCCESS) (reply_is (fresh_persist []) ∙ ap reply_of answer)

-- ---- a context begins with its number

lacking : {X Y Z : Type 0} (test : Bool) (code : ℕ) (read : X × List ℕ) (one : X → List ℕ → Reading Y) (next : Y → List ℕ → Reading Z) → test ≡ true
    → then_read (then_read (if test then Err code else Ok read) one) next ≡ Err code
lacking true code read one next is = refl
lacking false code read one next is = absurd cc

lacking_context : (bytes : List ℕ) → nat_lt (length bytes) 8 ≡ true → context_of bytes ≡ Err RC_INSUFFICIENT
lacking_context bytes is = lacking (nat_lt (length bytes) 8) RC_INSUFFICIENT (take 8 bytes, drop 8 bytes) _ _ is

begun_context : (bytes : List ℕ) (short : Bool) → nat_lt (length bytes) 8 ≡ short → is_ok (context_of bytes) ≡ true → 8 ≤ length bytes
begun_context bytes true is read = absurd (true≢false (sym read ∙ ap (λ (r : Reading Context). is_ok r) (lacking_context bytes is)))
begun_context bytes false is read = ltb-false (length bytes) 8 is

read_by : (contexts : ContextLimits) (handle : ℕ) (context : List ℕ) (read : Reading Context) → is_context_of contexts handle context read ≡ true → is_ok read ≡ true
read_by contexts handle context (Err code) is = absurd cc
read_by contexts handle context (Ok read) is = refl

word_read : (contexts : ContextLimits) (context : List ℕ) (word : Option ℕ) → is_word (λ handle. is_context_of contexts handle context (context_of context)) word ≡ true
    → is_ok (context_of context) ≡ true
word_read contexts context None is = absurd cc
word_read contexts context (Some handle) is = read_by contexts handle context (context_of context) is

success_by : (frame success form other : Bool) → (frame && (if success then form else other)) ≡ true → success ≡ true → form ≡ true
success_by true true form other e is = e
success_by true false form other e is = absurd cc
success_by false success form other e is = absurd cc

implied : (premise fact : Bool) → premise ≡ true → (not premise || fact) ≡ true → fact ≡ true
implied true fact is so = so
implied false fact is so = absurd cc

-- the response to a ContextSave that succeeded has a context
pub context_there : (contexts : ContextLimits) (asked last : List ℕ) → takes contexts false false asked last ≡ true → (code_of last == RC_SUCCESS) ≡ true → (code_of asked == CC_CONTEXT_SAVE) ≡ true
    → 18 ≤ length last
context_there contexts asked last taken success save =
    let has_handle = has_response_handle (row_of (code_of asked)) in
    let context = drop HEADER_BYTES last in
    let is_saved = not (code_of asked == CC_CONTEXT_SAVE) || is_context contexts asked context in
    let is_area = not (tag_of asked == ST_SESSIONS) || is_whole (answer_area (drop (if has_handle then HEADER_BYTES + 4 else HEADER_BYTES) last)) in
    let is_handle = not has_handle || is_word (fits_handle false asked) (word_at HEADER_BYTES last) in
    let form = success_by (is_frame last) (code_of last == RC_SUCCESS) (is_success_form contexts false asked last) (is_error_form last && may_refuse contexts false asked (code_of last)) taken success in
    let saved = (and_parts (lists_asked asked last && (tag_of last == tag_of asked) && is_handle && is_area) is_saved form).1 in
    let is = implied (code_of asked == CC_CONTEXT_SAVE) (is_context contexts asked context) save saved in
    omega (arith, begun_context context (nat_lt (length context) 8) refl (word_read contexts context (word_at HEADER_BYTES asked) is), length-drop HEADER_BYTES last)
