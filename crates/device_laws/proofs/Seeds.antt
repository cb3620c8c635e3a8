-- No command changes the seed of a device, and one that makes an object fills the least free slot alone.
use Rattle.std.proofs.Common.{◌≡◌, ◌+◌, ℕ, List, [], ◌∷◌, length, drop, get_or, set, min, refl, ◌∙◌, ap, subst}
use Rattle.std.specs.Prelude.{Option, Some, None, Result, Ok, Err, nat_le, not, is_some, ◌==◌, ◌||◌, if◌then◌else◌}
use Rattle.std.proofs.lemmas.Bool.{cond_both}
use Rattle.tab_spec.specs.declared.TheConstants.{CONTEXT_LIMIT, LAST_PLACE, MOST_RANDOM_BYTES, NV_INDEXES, TRANSIENT_FIRST, HT_TRANSIENT, ST_NO_SESSIONS, ST_SESSIONS, CC_STARTUP, CC_SELF_TEST, CC_GET_RANDOM, CC_PCR_READ, CC_PCR_EXTEND, CC_NV_DEFINE_SPACE, CC_NV_UNDEFINE_SPACE, CC_NV_READ_PUBLIC, CC_NV_WRITE, CC_NV_INCREMENT, CC_NV_READ, CC_CREATE_PRIMARY, CC_CREATE, CC_LOAD, CC_UNSEAL, CC_HMAC, CC_READ_PUBLIC, CC_START_AUTH_SESSION, CC_GET_CAPABILITY, CC_CONTEXT_SAVE, CC_CONTEXT_LOAD, CC_FLUSH_CONTEXT, RC_1, RC_COMMAND_CODE, RC_CONTEXT_GAP, RC_FAILURE, RC_HANDLE, RC_INITIALIZE, RC_INSUFFICIENT, RC_NV_DEFINED, RC_NV_SPACE, RC_P, RC_SESSION_MEMORY, RC_SIZE, RC_SUCCESS, RC_TYPE, RC_VALUE, RC_ATTRIBUTES}
use Rattle.tab_spec.specs.declared.Auth.{Auth}
use Rattle.tab_spec.specs.declared.Auths.{Auths}
use Rattle.tab_spec.specs.declared.Admitted.{Admitted}
use Rattle.tab_spec.specs.declared.CommandRow.{CommandRow}
use Rattle.tab_spec.specs.declared.SessionKind.{SessionKind}
use Rattle.tab_spec.specs.declared.Shape.{Shape}
use Rattle.tab_spec.specs.Admission.{admitted_by, is_session_handle, unless_fault}
use Rattle.tab_spec.specs.Commands.{row_of}
use Rattle.tab_spec.specs.NvIndex.{NvIndex, index_in, without_index}
use Rattle.tab_spec.specs.Object.{Object}
use Rattle.tab_spec.specs.Persist.{Persist, drawn, random_bytes, words_for}
use Rattle.tab_spec.specs.Reply.{error_reply, response}
use Rattle.tab_spec.specs.Session.{Session, kind_of}
use Rattle.tab_spec.specs.Shape.{octet_of, row_in, number_of_session}
use Rattle.tab_spec.specs.Values.{NvPublic, makes_secret, number16, number32, require}
use Rattle.effect_spec.specs.Authorization.{Entity}
use Rattle.effect_spec.specs.Contexts.{Context, context_of, opened_object, opened_session, blob_fits}
use Rattle.effect_spec.specs.Effect.{Effect, RowOutcome, authorization_fault, changing_policy, command_entity, effect_authorized, effect_in, effect_of, effect_row, item_row, keeping, making_nothing, making_object, making_session, nv_row, outcome_of, policy_row, random_row, random_row_drawn, response_auth_of, row_by, row_with, self_test_row, silent}
use Rattle.effect_spec.specs.Nv.{defined, definition_of, incremented, keeping_index, nv_define_row, nv_increment_row, nv_read_public_row, nv_read_row, nv_undefine_row, nv_write_row, undefined_index, when_there, written, writing_of}
use Rattle.effect_spec.specs.Objects.{Template, child_by, child_from, child_of, create_primary_row, create_row, created_child, hmac_row, is_parent, load_row, read_public_row, secret_size, template_of, unseal_row, where_data_fits}
use Rattle.effect_spec.specs.Operands.{Operand, Operands, Created, named_session, new_object, new_session, nothing, number_of, object_in, operand_at, policy_session_in, command_auth}
use Rattle.tab_spec.specs.Parameters.{in_parameter, nothing_of, when_read}
use Rattle.effect_spec.specs.Pcr.{digest_of, extended, pcr_extend_row, pcr_read_row}
use Rattle.effect_spec.specs.SessionAuths.{ResponseAuth, operand_name, response_auth, rp_hash, session_response_auth, session_response_with}
use Rattle.effect_spec.specs.Sessions.{StartParameters, initial_session_with, session_started, start_check, start_session_row, started_session}
use Rattle.device_spec.specs.Slots.{SlotState, inactive, is_active_with, place_of, with_place, Step, capability_row, capability_told, context_load, context_save, effect_by, flush_context, free_slot, gap_of, get_capability, in_slot, is_saved_under, loaded_count, loaded_session, made_by, object_flushed, object_loaded, object_saved, room_for, session_flushed, session_loaded, session_saved, sessions_left, slot_admitted, slot_effect, slot_operands, slot_row, slot_step, slot_tables, started_with, startup_code, step_by, unless_full}
use Rattle.device_laws.proofs.NvRows.{faultless}
use Rattle.device_laws.proofs.PcrRows.{fitting_read}

-- ---- rows

abbrev SeedKept : List ℕ → Result Persist ℕ → Type 0
SeedKept seed (Err code) = Unit
SeedKept seed (Ok kept) = kept.seed ≡ seed

abbrev SeedDone : List ℕ → Result (Persist × List ℕ) ℕ → Type 0
SeedDone seed (Err code) = Unit
SeedDone seed (Ok done) = done.0.seed ≡ seed

abbrev SeedDrawn : List ℕ → Result (List ℕ × Persist) ℕ → Type 0
SeedDrawn seed (Err code) = Unit
SeedDrawn seed (Ok draw) = draw.1.seed ≡ seed

drawn_seed : (persist : Persist) (n : ℕ) → SeedDrawn persist.seed (drawn persist n)
drawn_seed persist n =
    let place = persist.place + words_for n in
    cond_both (nat_le place LAST_PLACE) (Ok (random_bytes persist.seed persist.place n, record persist { place = place })) (Err RC_FAILURE)
    (SeedDrawn persist.seed) (λ there. refl) (λ past. tt)

keeping_seed : (persist : Persist) (row : Result (List ℕ) ℕ) → SeedDone persist.seed (keeping persist row)
keeping_seed persist (Err code) = tt
keeping_seed persist (Ok params) = refl

silent_seed : (seed : List ℕ) (row : Result Persist ℕ) → SeedKept seed row → SeedDone seed (silent row)
silent_seed seed (Err code) kept = tt
silent_seed seed (Ok persist) kept = kept

random_seed : (seed : List ℕ) (draw : Result (List ℕ × Persist) ℕ) → SeedDrawn seed draw → SeedDone seed (random_row_drawn draw)
random_seed seed (Err code) drawn = tt
random_seed seed (Ok draw) drawn = drawn

random_row_seed : (persist : Persist) (params : List ℕ) → SeedDone persist.seed (random_row persist params)
random_row_seed persist params =
    fitting_read (SeedDone persist.seed) (in_parameter 1 (number16 RC_INSUFFICIENT params))
    (λ requested. random_row_drawn (drawn persist (min requested MOST_RANDOM_BYTES))) (λ code. tt)
    (λ requested. random_seed persist.seed (drawn persist (min requested MOST_RANDOM_BYTES)) (drawn_seed persist (min requested MOST_RANDOM_BYTES)))

extended_seed : (persist : Persist) (pcr : ℕ) (digest : Option (List ℕ)) → SeedKept persist.seed (Ok (extended persist pcr digest))
extended_seed persist pcr None = refl
extended_seed persist pcr (Some digest) = refl

extend_seed : (persist : Persist) (pcr : ℕ) (params : List ℕ) → SeedKept persist.seed (pcr_extend_row persist pcr params)
extend_seed persist pcr params =
    fitting_read (SeedKept persist.seed) (in_parameter 1 (digest_of params)) (λ digest. Ok (extended persist pcr digest)) (λ code. tt)
    (λ digest. extended_seed persist pcr digest)

defined_seed : (persist : Persist) (given : List ℕ × NvPublic) → SeedKept persist.seed (defined persist given)
defined_seed persist given =
    cond_both (is_some (index_in given.1.index persist.nv)) (Err RC_NV_DEFINED) _ (SeedKept persist.seed) (λ there. tt) (λ absent.
    cond_both (nat_le NV_INDEXES (length persist.nv)) (Err RC_NV_SPACE) _ (SeedKept persist.seed) (λ full. tt) (λ room. refl))

define_seed : (persist : Persist) (params : List ℕ) → SeedKept persist.seed (nv_define_row persist params)
define_seed persist params =
    fitting_read (SeedKept persist.seed) (definition_of params) (defined persist) (λ code. tt) (λ given. defined_seed persist given)

undefine_seed : (persist : Persist) (index : ℕ) (params : List ℕ) → SeedKept persist.seed (nv_undefine_row persist index params)
undefine_seed persist index params =
    faultless (SeedKept persist.seed) (undefined_index persist.nv 2 (index ∷ [])) _ (λ code. tt)
    (fitting_read (SeedKept persist.seed) (nothing_of params) (λ none. Ok (record persist { nv = without_index index persist.nv })) (λ code. tt) (λ none. refl))

index_seed : (persist : Persist) (index : ℕ) (changed : Result NvIndex ℕ) → SeedKept persist.seed (keeping_index persist index changed)
index_seed persist index (Err code) = tt
index_seed persist index (Ok item) = refl

there_seed : (persist : Persist) (index : ℕ) (found : Option NvIndex) (change : NvIndex → Result NvIndex ℕ)
    → SeedKept persist.seed (when_there found (λ item. keeping_index persist index (change item)))
there_seed persist index None change = tt
there_seed persist index (Some item) change = index_seed persist index (change item)

write_seed : (persist : Persist) (by index : ℕ) (params : List ℕ) → SeedKept persist.seed (nv_write_row persist by index params)
write_seed persist by index params =
    faultless (SeedKept persist.seed) (undefined_index persist.nv 1 (by ∷ index ∷ [])) _ (λ code. tt)
    (fitting_read (SeedKept persist.seed) (writing_of params)
    (λ given. when_there (index_in index persist.nv) (λ item. keeping_index persist index (written by given item))) (λ code. tt)
    (λ given. there_seed persist index (index_in index persist.nv) (written by given)))

increment_seed : (persist : Persist) (by index : ℕ) (params : List ℕ) → SeedKept persist.seed (nv_increment_row persist by index params)
increment_seed persist by index params =
    faultless (SeedKept persist.seed) (undefined_index persist.nv 1 (by ∷ index ∷ [])) _ (λ code. tt)
    (fitting_read (SeedKept persist.seed) (nothing_of params)
    (λ none. when_there (index_in index persist.nv) (λ item. keeping_index persist index (incremented by item))) (λ code. tt)
    (λ none. there_seed persist index (index_in index persist.nv) (incremented by)))

nv_seed : (code : ℕ) (persist : Persist) (first second : ℕ) (params : List ℕ) → SeedDone persist.seed (nv_row code persist first second params)
nv_seed code persist first second params =
    let Well : Result (Persist × List ℕ) ℕ → Type 0 = SeedDone persist.seed in
    cond_both (code == CC_NV_DEFINE_SPACE) _ _ Well (λ is. silent_seed persist.seed (nv_define_row persist params) (define_seed persist params)) (λ not.
    cond_both (code == CC_NV_UNDEFINE_SPACE) _ _ Well (λ is. silent_seed persist.seed (nv_undefine_row persist second params) (undefine_seed persist second params)) (λ not.
    cond_both (code == CC_NV_READ_PUBLIC) _ _ Well (λ is. keeping_seed persist (nv_read_public_row persist first params)) (λ not.
    cond_both (code == CC_NV_WRITE) _ _ Well (λ is. silent_seed persist.seed (nv_write_row persist first second params) (write_seed persist first second params)) (λ not.
    cond_both (code == CC_NV_INCREMENT) _ _ Well (λ is. silent_seed persist.seed (nv_increment_row persist first second params) (increment_seed persist first second params)) (λ not.
    cond_both (code == CC_NV_READ) (keeping persist (nv_read_row persist first second params)) (Err RC_COMMAND_CODE) Well
    (λ is. keeping_seed persist (nv_read_row persist first second params)) (λ not. tt))))))

row_seed : (code : ℕ) (persist : Persist) (first second : ℕ) (params : List ℕ) → SeedDone persist.seed (row_with code persist first second params)
row_seed code persist first second params =
    let Well : Result (Persist × List ℕ) ℕ → Type 0 = SeedDone persist.seed in
    cond_both (code == CC_SELF_TEST) _ _ Well (λ is. keeping_seed persist (self_test_row params)) (λ not.
    cond_both (code == CC_GET_RANDOM) _ _ Well (λ is. random_row_seed persist params) (λ not.
    cond_both (code == CC_PCR_READ) _ _ Well (λ is. keeping_seed persist (pcr_read_row persist params)) (λ not.
    cond_both (code == CC_PCR_EXTEND) (silent (pcr_extend_row persist first params)) (nv_row code persist first second params) Well
    (λ is. silent_seed persist.seed (pcr_extend_row persist first params) (extend_seed persist first params))
    (λ not. nv_seed code persist first second params))))

-- ---- objects and sessions

abbrev SeedChild : List ℕ → Result (Object × Persist) ℕ → Type 0
SeedChild seed (Err code) = Unit
SeedChild seed (Ok child) = child.1.seed ≡ seed

child_by_seed : (seed : List ℕ) (parent : Object) (t : Template) (drawn_bytes : List ℕ) (secret : Result (List ℕ × Persist) ℕ) → SeedDrawn seed secret
    → SeedChild seed (child_by parent t drawn_bytes secret)
child_by_seed seed parent t drawn_bytes (Err code) same = tt
child_by_seed seed parent t drawn_bytes (Ok secret) same = same

child_seed : (seed : List ℕ) (parent : Object) (t : Template) (draw : Result (List ℕ × Persist) ℕ) → SeedDrawn seed draw → SeedChild seed (child_from parent t draw)
child_seed seed parent t (Err code) same = tt
child_seed seed parent t (Ok draw) same =
    let size = secret_size t.public in
    cond_both (makes_secret t.public) (drawn draw.1 size) (Ok (t.sensitive.content, draw.1)) (λ secret. SeedChild seed (child_by parent t draw.0 secret))
    (λ makes. child_by_seed seed parent t draw.0 (drawn draw.1 size) (subst (λ (key : List ℕ). SeedDrawn key (drawn draw.1 size)) same (drawn_seed draw.1 size)))
    (λ takes. same)

created_seed : (persist : Persist) (parent : Object) (t : Template) (child : Result (Object × Persist) ℕ) → SeedChild persist.seed child
    → SeedDone persist.seed (created_child persist parent t child)
created_seed persist parent t (Err code) same = tt
created_seed persist parent t (Ok child) same = same

create_seed : (persist : Persist) (parent : Object) (params : List ℕ) → SeedDone persist.seed (create_row persist parent params)
create_seed persist parent params =
    let made : Template → Result (Persist × List ℕ) ℕ = λ t. created_child persist parent t (child_of persist parent t) in
    let Well : Result (Persist × List ℕ) ℕ → Type 0 = SeedDone persist.seed in
    cond_both (is_parent parent.public) (when_read (template_of params) (λ t. where_data_fits t (made t))) (Err (RC_TYPE + RC_1)) Well
    (λ storage. fitting_read Well (template_of params) (λ t. where_data_fits t (made t)) (λ code. tt) (λ t.
    cond_both _ (made t) (Err (RC_ATTRIBUTES + RC_P + RC_1)) Well
    (λ fits. created_seed persist parent t (child_of persist parent t) (child_seed persist.seed parent t (drawn persist 32) (drawn_seed persist 32))) (λ unfit. tt)))
    (λ other. tt)

abbrev SeedLeft : List ℕ → Result RowOutcome ℕ → Type 0
SeedLeft seed (Err code) = Unit
SeedLeft seed (Ok done) = done.persist.seed ≡ seed

nothing_seed : (seed : List ℕ) (row : Result (Persist × List ℕ) ℕ) → SeedDone seed row → SeedLeft seed (making_nothing row)
nothing_seed seed (Err code) same = tt
nothing_seed seed (Ok done) same = same

object_seed : (persist : Persist) (row : Result (Object × List ℕ) ℕ) → SeedLeft persist.seed (making_object persist row)
object_seed persist (Err code) = tt
object_seed persist (Ok done) = refl

policy_seed : (persist : Persist) (row : Result (Session × List ℕ) ℕ) → SeedLeft persist.seed (changing_policy persist row)
policy_seed persist (Err code) = tt
policy_seed persist (Ok done) = refl

started_seed : (seed : List ℕ) (kind : SessionKind) (draw : Result (List ℕ × Persist) ℕ) → SeedDrawn seed draw
    → SeedLeft seed (making_session (started_session (initial_session_with kind draw)))
started_seed seed kind (Err code) same = tt
started_seed seed kind (Ok draw) same = same

start_seed : (persist : Persist) (check : Result StartParameters ℕ) → SeedLeft persist.seed (making_session (session_started persist check))
start_seed persist (Err code) = tt
start_seed persist (Ok b) = started_seed persist.seed (kind_of b.kind) (drawn persist (length b.nonce)) (drawn_seed persist (length b.nonce))

item_seed : (code : ℕ) (persist : Persist) (item : Object) (params : List ℕ) → SeedDone persist.seed (item_row code persist item params)
item_seed code persist item params =
    let Well : Result (Persist × List ℕ) ℕ → Type 0 = SeedDone persist.seed in
    cond_both (code == CC_CREATE) _ _ Well (λ so. create_seed persist item params) (λ not.
    cond_both (code == CC_UNSEAL) _ _ Well (λ so. keeping_seed persist (unseal_row item params)) (λ not.
    cond_both (code == CC_HMAC) _ _ Well (λ so. keeping_seed persist (hmac_row item params)) (λ not.
    cond_both (code == CC_READ_PUBLIC) (keeping persist (read_public_row item params)) (Err RC_COMMAND_CODE) Well
    (λ so. keeping_seed persist (read_public_row item params)) (λ not. tt))))

by_seed : (code : ℕ) (persist : Persist) (operands : List Operand) (policy : Option Session) (item : Option Object) (params : List ℕ)
    → SeedLeft persist.seed (row_by code persist operands policy item params)
by_seed code persist operands (Some s) item params = policy_seed persist (policy_row code persist s (operand_name persist (operand_at operands 0)) params)
by_seed code persist operands None (Some item) params =
    cond_both (code == CC_LOAD) (making_object persist (load_row item params)) (making_nothing (item_row code persist item params)) (SeedLeft persist.seed)
    (λ so. object_seed persist (load_row item params)) (λ not. nothing_seed persist.seed (item_row code persist item params) (item_seed code persist item params))
by_seed code persist operands None None params =
    let first = number_of (operand_at operands 0) in
    let second = number_of (operand_at operands 1) in
    cond_both (code == CC_CREATE_PRIMARY) (making_object persist (create_primary_row persist params)) _ (SeedLeft persist.seed)
    (λ so. object_seed persist (create_primary_row persist params)) (λ not.
    cond_both (code == CC_START_AUTH_SESSION) (making_session (start_session_row persist params)) (making_nothing (row_with code persist first second params))
    (SeedLeft persist.seed) (λ so. start_seed persist (start_check params))
    (λ not. nothing_seed persist.seed (row_with code persist first second params) (row_seed code persist first second params)))

outcome_seed : (persist : Persist) (operands : Operands) (shape : Shape) (auths : Auths) (bytes : List ℕ)
    → SeedLeft persist.seed (outcome_of persist operands shape auths bytes)
outcome_seed persist operands shape auths bytes =
    let first = operand_at operands.handles 0 in
    let second = operand_at operands.handles 1 in
    let params = drop auths.params bytes in
    let row = effect_row shape.row.code persist operands.handles params in
    let fault = authorization_fault persist operands shape auths bytes in
    let missing = undefined_index persist.nv 1 (number_of first ∷ number_of second ∷ []) in
    faultless (SeedLeft persist.seed) missing (unless_fault fault row) (λ code. tt)
    (faultless (SeedLeft persist.seed) fault row (λ code. tt)
    (by_seed shape.row.code persist operands.handles (policy_session_in operands.handles) (object_in first) params))

-- ---- effects

abbrev SeedClosed : List ℕ → Result ResponseAuth ℕ → Type 0
SeedClosed seed (Err code) = Unit
SeedClosed seed (Ok c) = c.persist.seed ≡ seed

draw_closed : (seed : List ℕ) (entity : Entity) (s : Session) (auth : Auth) (bytes hash : List ℕ) (draw : Result (List ℕ × Persist) ℕ) → SeedDrawn seed draw
    → SeedClosed seed (session_response_auth (session_response_with entity s auth bytes hash draw))
draw_closed seed entity s auth bytes hash (Err code) same = tt
draw_closed seed entity s auth bytes hash (Ok draw) same = same

auth_closed : (persist : Persist) (entity : Entity) (session : Option Session) (auth : Auth) (bytes hash : List ℕ)
    → SeedClosed persist.seed (response_auth persist entity session auth bytes hash)
auth_closed persist entity None auth bytes hash = refl
auth_closed persist entity (Some s) auth bytes hash =
    draw_closed persist.seed entity s auth bytes hash (drawn persist (length s.nonce)) (drawn_seed persist (length s.nonce))

outcome_closed_seed : (seed : List ℕ) (persist : Persist) (operands : Operands) (shape : Shape) (auths : Auths) (bytes : List ℕ) (done : RowOutcome) → done.persist.seed ≡ seed
    → SeedClosed seed (response_auth_of persist operands shape auths bytes done)
outcome_closed_seed seed persist operands shape auths bytes done same =
    let answer = response_auth done.persist (command_entity persist operands) (named_session operands.session) (command_auth auths) bytes (rp_hash shape.row.code done.params) in
    cond_both (shape.tag == ST_SESSIONS) answer (Ok (record { persist = done.persist; session = named_session operands.session; answer = [] })) (SeedClosed seed)
    (λ sessions. subst (λ (key : List ℕ). SeedClosed key answer) same
    (auth_closed done.persist (command_entity persist operands) (named_session operands.session) (command_auth auths) bytes (rp_hash shape.row.code done.params)))
    (λ none. same)

closed_seed : (seed : List ℕ) (persist : Persist) (operands : Operands) (shape : Shape) (auths : Auths) (done : RowOutcome) (closed : Result ResponseAuth ℕ) → persist.seed ≡ seed
    → SeedClosed seed closed → (effect_authorized persist operands shape auths done closed).persist.seed ≡ seed
closed_seed seed persist operands shape auths done (Err code) same kept = same
closed_seed seed persist operands shape auths done (Ok closed) same kept = kept

effect_in_seed : (persist : Persist) (operands : Operands) (shape : Shape) (auths : Auths) (bytes : List ℕ) (row : Result RowOutcome ℕ) → SeedLeft persist.seed row
    → (effect_in persist operands shape auths bytes row).persist.seed ≡ persist.seed
effect_in_seed persist operands shape auths bytes (Err code) same = refl
effect_in_seed persist operands shape auths bytes (Ok done) same =
    closed_seed persist.seed persist operands shape auths done (response_auth_of persist operands shape auths bytes done) refl
    (outcome_closed_seed persist.seed persist operands shape auths bytes done same)

pub effect_seed : (persist : Persist) (operands : Operands) (shape : Shape) (auths : Auths) (bytes : List ℕ)
    → (effect_of persist operands shape auths bytes).persist.seed ≡ persist.seed
unfolding effect_of
effect_seed persist operands shape auths bytes =
    effect_in_seed persist operands shape auths bytes (outcome_of persist operands shape auths bytes) (outcome_seed persist operands shape auths bytes)

-- what was made gets a place, and what is kept stays
made_persist : (slots : SlotState) (created : Created) (reply : List ℕ) → (made_by slots created reply).0.persist ≡ slots.persist
made_persist slots nothing reply = refl
made_persist slots (new_object o) reply = refl
made_persist slots (new_session s) reply = refl

effect_by_seed : (slots : SlotState) (effect : Effect) → (effect_by slots effect).0.persist.seed ≡ effect.persist.seed
effect_by_seed slots effect =
    ap (λ (persist : Persist). persist.seed)
    (made_persist (record slots { persist = effect.persist; sessions = sessions_left slots.sessions effect.operands effect.outcome.auth_ended }) effect.outcome.created effect.reply)

made_numbers : (slots : SlotState) (created : Created) (reply : List ℕ) → (made_by slots created reply).0.numbers ≡ slots.numbers
made_numbers slots nothing reply = refl
made_numbers slots (new_object o) reply = refl
made_numbers slots (new_session s) reply = refl

effect_by_numbers : (slots : SlotState) (effect : Effect) → (effect_by slots effect).0.numbers ≡ slots.numbers
effect_by_numbers slots effect =
    made_numbers (record slots { persist = effect.persist; sessions = sessions_left slots.sessions effect.operands effect.outcome.auth_ended }) effect.outcome.created effect.reply

-- the slots after an effect, by what was made
abbrev made_slots : SlotState → Effect → Created → List (Option Object)
made_slots slots effect created =
    (made_by (record slots { persist = effect.persist; sessions = sessions_left slots.sessions effect.operands effect.outcome.auth_ended }) created effect.reply).0.slots

pub object_fills : (slots : SlotState) (effect : Effect) (o : Object) → effect.outcome.created ≡ new_object o
    → (effect_by slots effect).0.slots ≡ set slots.slots (free_slot slots.slots) (Some o)
object_fills slots effect o is = ap (made_slots slots effect) is

pub session_fills_none : (slots : SlotState) (effect : Effect) (s : Session) → effect.outcome.created ≡ new_session s → (effect_by slots effect).0.slots ≡ slots.slots
session_fills_none slots effect s is = ap (made_slots slots effect) is

pub nothing_fills_none : (slots : SlotState) (effect : Effect) → effect.outcome.created ≡ nothing → (effect_by slots effect).0.slots ≡ slots.slots
nothing_fills_none slots effect is = ap (made_slots slots effect) is

-- ---- the commands of the machine itself keep all that is kept, and its numbers

abbrev Keeps : SlotState → Result Step ℕ → Type 0
Keeps slots step = ((step_by slots step).0.persist ≡ slots.persist) × ((step_by slots step).0.numbers ≡ slots.numbers)

saved_object_keeps : (slots : SlotState) (slot : Option Object) → Keeps slots (object_saved slots slot)
saved_object_keeps slots None = (refl, refl)
saved_object_keeps slots (Some o) =
    cond_both (nat_le CONTEXT_LIMIT slots.object_counter) (Err RC_FAILURE) _ (Keeps slots) (λ last. (refl, refl)) (λ more. (refl, refl))

saved_session_keeps : (slots : SlotState) (handle : ℕ) (found : Option Session) → Keeps slots (session_saved slots handle found)
saved_session_keeps slots handle None = (refl, refl)
saved_session_keeps slots handle (Some s) =
    cond_both (nat_le CONTEXT_LIMIT slots.counter) (Err RC_FAILURE) _ (Keeps slots) (λ last. (refl, refl)) (λ more.
    cond_both (nat_le slots.numbers.gap (gap_of slots)) (Err RC_CONTEXT_GAP) _ (Keeps slots) (λ gap. (refl, refl)) (λ near. (refl, refl)))

save_keeps : (slots : SlotState) (handle : ℕ) (params : List ℕ) → Keeps slots (context_save slots handle params)
save_keeps slots handle params =
    fitting_read (Keeps slots) (nothing_of params)
    (λ none.
    if octet_of handle == HT_TRANSIENT then object_saved slots (in_slot slots handle) else session_saved slots handle (loaded_session slots handle))
    (λ code. (refl, refl)) (λ none.
    cond_both (octet_of handle == HT_TRANSIENT) (object_saved slots (in_slot slots handle)) (session_saved slots handle (loaded_session slots handle)) (Keeps slots)
    (λ object. saved_object_keeps slots (in_slot slots handle)) (λ session. saved_session_keeps slots handle (loaded_session slots handle)))

loaded_object_keeps : (slots : SlotState) (found : Option Object) → Keeps slots (object_loaded slots found)
loaded_object_keeps slots None = (refl, refl)
loaded_object_keeps slots (Some o) = (refl, refl)

loaded_session_keeps : (slots : SlotState) (c : Context) (found : Option Session) → Keeps slots (session_loaded slots c found)
loaded_session_keeps slots c None = (refl, refl)
loaded_session_keeps slots c (Some s) =
    cond_both (not (is_saved_under slots c.saved_handle c.sequence)) (Err (RC_HANDLE + RC_P + RC_1)) _ (Keeps slots) (λ other. (refl, refl)) (λ same.
    cond_both (nat_le slots.numbers.loaded (loaded_count slots.sessions)) (Err RC_SESSION_MEMORY) _ (Keeps slots) (λ full. (refl, refl)) (λ room. (refl, refl)))

load_keeps : (slots : SlotState) (params : List ℕ) → Keeps slots (context_load slots params)
load_keeps slots params =
    let seed = slots.persist.seed in
    fitting_read (Keeps slots) (in_parameter 1 (require blob_fits RC_SIZE (context_of params)))
    (λ c.
    if c.saved_handle == TRANSIENT_FIRST then object_loaded slots (opened_object slots.persist.seed params)
    else if is_session_handle c.saved_handle then session_loaded slots c (opened_session slots.persist.seed params)
    else Err (RC_VALUE + RC_P + RC_1))
    (λ code. (refl, refl)) (λ c.
    cond_both (c.saved_handle == TRANSIENT_FIRST) (object_loaded slots (opened_object seed params)) _ (Keeps slots)
    (λ object. loaded_object_keeps slots (opened_object seed params)) (λ other.
    cond_both (is_session_handle c.saved_handle) (session_loaded slots c (opened_session seed params)) (Err (RC_VALUE + RC_P + RC_1)) (Keeps slots)
    (λ session. loaded_session_keeps slots c (opened_session seed params)) (λ neither. (refl, refl))))

flushed_object_keeps : (slots : SlotState) (handle : ℕ) (slot : Option Object) → Keeps slots (object_flushed slots handle slot)
flushed_object_keeps slots handle None = (refl, refl)
flushed_object_keeps slots handle (Some o) = (refl, refl)

flushed_session_keeps : (slots : SlotState) (handle : ℕ) → Keeps slots (session_flushed slots handle)
flushed_session_keeps slots handle =
    let flushed : Result Step ℕ = Ok (with_place slots (number_of_session handle) inactive, response ST_NO_SESSIONS RC_SUCCESS []) in
    cond_both (is_active_with (octet_of handle) (place_of slots handle)) flushed (Err (RC_HANDLE + RC_P + RC_1)) (Keeps slots) (λ active. (refl, refl)) (λ none. (refl, refl))

flush_keeps : (slots : SlotState) (params : List ℕ) → Keeps slots (flush_context slots params)
flush_keeps slots params =
    fitting_read (Keeps slots) (in_parameter 1 (number32 RC_INSUFFICIENT params))
    (λ handle.
    if octet_of handle == HT_TRANSIENT then object_flushed slots handle (in_slot slots handle)
    else if is_session_handle handle then session_flushed slots handle
    else Err (RC_VALUE + RC_P + RC_1))
    (λ code. (refl, refl)) (λ handle.
    cond_both (octet_of handle == HT_TRANSIENT) (object_flushed slots handle (in_slot slots handle)) _ (Keeps slots)
    (λ object. flushed_object_keeps slots handle (in_slot slots handle)) (λ other.
    cond_both (is_session_handle handle) (session_flushed slots handle) (Err (RC_VALUE + RC_P + RC_1)) (Keeps slots)
    (λ session. flushed_session_keeps slots handle) (λ neither. (refl, refl))))

told_keeps : (slots : SlotState) (row : Result (List ℕ) ℕ) → Keeps slots (capability_told slots row)
told_keeps slots (Err code) = (refl, refl)
told_keeps slots (Ok params) = (refl, refl)

-- ---- every command

abbrev SameSeed : SlotState → Step → Type 0
SameSeed slots step = (step.0.persist.seed ≡ slots.persist.seed) × (step.0.numbers ≡ slots.numbers)

kept_seed : (slots : SlotState) (step : Result Step ℕ) → Keeps slots step → SameSeed slots (step_by slots step)
kept_seed slots step keeps = (ap (λ (persist : Persist). persist.seed) keeps.0, keeps.1)

unless_full_seed : (slots : SlotState) (full : Option ℕ) (next : Step) → SameSeed slots next → SameSeed slots (unless_full slots full next)
unless_full_seed slots (Some code) next same = (refl, refl)
unless_full_seed slots None next same = same

run_seed : (slots : SlotState) (shape : Shape) (auths : Auths) (bytes : List ℕ) → SameSeed slots (slot_effect slots shape auths bytes)
run_seed slots shape auths bytes =
    let params = drop auths.params bytes in
    let handle = get_or shape.handles 0 0 in
    let operands = slot_operands slots shape auths in
    let effect = effect_of slots.persist operands shape auths bytes in
    let room = room_for slots shape.row.code params in
    cond_both (shape.row.code == CC_STARTUP) (started_with slots (startup_code slots.started params)) _ (SameSeed slots)
    (λ so. cond_both (startup_code slots.started params == RC_SUCCESS) _ _ (SameSeed slots) (λ starts. (refl, refl)) (λ refused. (refl, refl))) (λ not.
    cond_both (shape.row.code == CC_CONTEXT_SAVE) _ _ (SameSeed slots) (λ so. kept_seed slots (context_save slots handle params) (save_keeps slots handle params)) (λ not.
    cond_both (shape.row.code == CC_CONTEXT_LOAD) _ _ (SameSeed slots) (λ so. kept_seed slots (context_load slots params) (load_keeps slots params)) (λ not.
    cond_both (shape.row.code == CC_FLUSH_CONTEXT) _ _ (SameSeed slots) (λ so. kept_seed slots (flush_context slots params) (flush_keeps slots params)) (λ not.
    cond_both (shape.row.code == CC_GET_CAPABILITY) (step_by slots (get_capability slots params)) (unless_full slots room (effect_by slots effect)) (SameSeed slots)
    (λ so. kept_seed slots (get_capability slots params) (told_keeps slots (capability_row slots params)))
    (λ not. unless_full_seed slots room (effect_by slots effect)
    (effect_by_seed slots effect ∙ effect_seed slots.persist operands shape auths bytes, effect_by_numbers slots effect))))))

admitted_seed : (slots : SlotState) (admitted : Result Admitted ℕ) (bytes : List ℕ) → SameSeed slots (slot_admitted slots admitted bytes)
admitted_seed slots (Err code) bytes = (refl, refl)
admitted_seed slots (Ok a) bytes = run_seed slots a.shape a.auths bytes

slot_row_seed : (slots : SlotState) (row : Result CommandRow ℕ) (bytes : List ℕ) → SameSeed slots (slot_row slots row bytes)
slot_row_seed slots (Err code) bytes = (refl, refl)
slot_row_seed slots (Ok row) bytes =
    let admitted = admitted_by (slot_tables slots) (Ok row) bytes in
    cond_both (slots.started || row.code == CC_STARTUP) (slot_admitted slots admitted bytes) (slots, error_reply RC_INITIALIZE) (SameSeed slots)
    (λ goes. admitted_seed slots admitted bytes) (λ refused. (refl, refl))

pub step_seed : (slots : SlotState) (bytes : List ℕ) → (slot_step slots bytes).0.persist.seed ≡ slots.persist.seed
unfolding slot_step
step_seed slots bytes = (slot_row_seed slots (row_in row_of bytes) bytes).0

pub step_numbers : (slots : SlotState) (bytes : List ℕ) → (slot_step slots bytes).0.numbers ≡ slots.numbers
unfolding slot_step
step_numbers slots bytes = (slot_row_seed slots (row_in row_of bytes) bytes).1
