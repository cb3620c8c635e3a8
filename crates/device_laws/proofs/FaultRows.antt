-- The rows of commands fail with plain codes, and so do their authorizations.
use Rattle.std.proofs.Common.{◌+◌, ◌-◌, ◌*◌, ◌^◌, ◌≤◌, ℕ, zero, suc, min, Bool, true, false, List, [], ◌∷◌, ◌++◌, length, refl, arith}
use Rattle.std.specs.Prelude.{Option, Some, None, IfSome, Result, Ok, Err, not, is_some, bytes_eq, slice_range, nat_lt, nat_le, ◌==◌, ◌||◌, if◌then◌else◌}
use Rattle.std.specs.List.{list_any}
use Rattle.std.specs.Int.{w64, from_be_bytes, to_be_bytes}
use Rattle.std.proofs.lemmas.Bool.{cond_both, lt-ltb}
use Rattle.tab_spec.specs.declared.Auth.{Auth}
use Rattle.tab_spec.specs.declared.Auths.{Auths}
use Rattle.tab_spec.specs.declared.Shape.{Shape}
use Rattle.tab_spec.specs.declared.SessionKind.{SessionKind}
use Rattle.tab_spec.specs.declared.SessionKind.TheVariants as kinds
use Rattle.tab_spec.specs.declared.AuthNeeded.{AuthNeeded}
use Rattle.tab_spec.specs.declared.AuthNeeded.TheVariants.{AuthValue, Password}
use Rattle.tab_spec.specs.declared.TheConstants.{LAST_PLACE, MOST_RANDOM_BYTES, NV_INDEXES, ALG_SHA256, ALG_NULL, CC_GET_RANDOM, CC_SELF_TEST, CC_PCR_READ, CC_PCR_EXTEND, CC_NV_DEFINE_SPACE, CC_NV_UNDEFINE_SPACE, CC_NV_READ_PUBLIC, CC_NV_WRITE, CC_NV_INCREMENT, CC_NV_READ, CC_CREATE_PRIMARY, CC_CREATE, CC_LOAD, CC_UNSEAL, CC_HMAC, CC_READ_PUBLIC, CC_START_AUTH_SESSION, CC_POLICY_SECRET, CC_POLICY_AUTH_VALUE, CC_POLICY_PASSWORD, CC_POLICY_COMMAND_CODE, CC_POLICY_OR, CC_POLICY_PCR, CC_POLICY_RESTART, CC_POLICY_GET_DIGEST, RC_P, RC_1, RC_S, RC_SIZE, RC_VALUE, RC_HASH, RC_TYPE, RC_KEY, RC_HANDLE, RC_NONCE, RC_ATTRIBUTES, RC_INTEGRITY, RC_INSUFFICIENT, RC_BAD_AUTH, RC_AUTH_UNAVAILABLE, RC_POLICY_FAIL, RC_POLICY_CC, RC_PCR_CHANGED, RC_FAILURE, RC_COMMAND_CODE, RC_NV_RANGE, RC_NV_AUTHORIZATION, RC_NV_UNINITIALIZED, RC_NV_SPACE, RC_NV_DEFINED}
use Rattle.tab_spec.specs.NvIndex.{NvIndex, index_in, is_counter, is_written, with_bytes, without_index}
use Rattle.tab_spec.specs.Hash.{name_of}
use Rattle.tab_spec.specs.Object.{Object}
use Rattle.tab_spec.specs.Session.{Session, restarted, is_set_to_another, is_kind_number, is_nonce}
use Rattle.tab_spec.specs.Persist.{Persist, drawn, words_for, selected_digest}
use Rattle.tab_spec.specs.Values.{Reading, PcrSelection, Public, fixed_bytes, number8, number16, number32, sized, auth_of, nv_public_bytes, nv_public_of, public_bytes, public_of, selection_of, sensitive_of, signs, sized_bytes, without_zeros}
use Rattle.tab_spec.specs.Parameters.{in_parameter, when_read, nothing_of}
use Rattle.effect_spec.specs.Authorization.{Entity, has_other_attributes, password_fault}
use Rattle.effect_spec.specs.Nv.{definition_of, defined, incremented, is_undefined, keeping_index, may_read, may_write, nv_define_row, nv_increment_row, nv_read_public_row, nv_read_row, nv_undefine_row, nv_write_row, part_of, read_part, undefined_index, when_there, writing_of, written}
use Rattle.effect_spec.specs.Objects.{Template, create_primary_row, create_row, created_child, child_by, child_from, child_of, data_fits, encrypted, hmac_of_params, integrity_value, object_name, plain_of, qualified, hmac_row, is_parent, load_row, loaded_by, loaded_with, loading_of, read_public_row, secret_size, template_of, unseal_row, where_data_fits, where_parent}
use Rattle.effect_spec.specs.Operands.{Operand, Operands, named_session, number_of, object_in, operand_at, policy_session_in, command_auth}
use Rattle.effect_spec.specs.Pcr.{digest_of, digest_with, pcr_extend_row, pcr_read_row}
use Rattle.effect_spec.specs.Policies.{SecretPolicy, extended_digest, branches_of, digests_of, is_trial, pcr_policed, pcr_policy_of, policy_command_code_row, policy_get_digest_row, policy_needs_row, policy_or_row, policy_pcr_row, policy_restart_row, policy_secret_row, secret_fault, secret_policed, secret_policy_of, silent_policy}
use Rattle.effect_spec.specs.SessionAuths.{asks_password, auth_fault, fault_by, field_fault, hmac_field, hmac_passes, nonce_caller, operand_name, policy_fault, response_auth, session_response_auth, session_response_with}
use Rattle.effect_spec.specs.Sessions.{StartParameters, initial_session_with, start_parameters_fault, start_parameters_of, session_started, start_check, start_session_row, started_session}
use Rattle.effect_spec.specs.Effect.{authorization_fault, changing_policy, item_row, keeping, keeping_session, making_nothing, making_object, making_session, nv_row, other_row, outcome_of, policy_row, random_row, random_row_drawn, row_by, row_with, self_test_row, silent}
use Rattle.device_laws.proofs.Faults.{Fails, IsBare, IsPlain, fails_8, fails_16, fails_32, fails_auth, fails_enclosed, fails_fixed, fails_nv_public, fails_parameter, fails_parameter_16, fails_parameter_32, fails_public, fails_read, fails_selection, fails_sensitive, fails_sized, fails_test, fails_tested, fails_then, fails_unless, format_one}

-- ---- NV indexes

undefined_plain : (nv : List NvIndex) (number : ℕ) (handles : List ℕ) → number + length handles ≤ 15 → IfSome (undefined_index nv number handles) IsPlain
undefined_plain nv number [] few = tt
undefined_plain nv number (handle ∷ handles) few =
    cond_both (is_undefined nv handle) (Some (RC_HANDLE + RC_1 * number)) (undefined_index nv (number + 1) handles) (λ fault. IfSome fault IsPlain)
    (λ missing. format_one RC_HANDLE number (omega arith) (omega arith) (lt-ltb number 16 (omega (arith, few))))
    (λ there. undefined_plain nv (number + 1) handles (omega (arith, few)))

there_plain : {Y : Type 0} (found : Option NvIndex) (next : NvIndex → Result Y ℕ) → ((item : NvIndex) → Fails IsPlain (next item))
    → Fails IsPlain (when_there found next)
there_plain None next goes = refl
there_plain (Some item) next goes = goes item

nothing_plain : (params : List ℕ) → Fails IsPlain (nothing_of params)
nothing_plain params = tt

-- a row without parameters that always succeeds
given_plain : {Y : Type 0} (params : List ℕ) (given : Y) → Fails IsPlain (when_read (nothing_of params) (λ none. Ok given))
given_plain params given = fails_read (nothing_of params) (λ none. Ok given) (nothing_plain params) (λ none. tt)

definition_plain : (params : List ℕ) → Fails IsPlain (definition_of params)
definition_plain params =
    fails_then IsPlain (in_parameter 1 (auth_of RC_INSUFFICIENT params)) _ (fails_parameter 1 (auth_of RC_INSUFFICIENT params) refl (fails_auth RC_INSUFFICIENT params refl)) (λ auth rest.
    fails_then IsPlain _ _
    (fails_parameter 2 _ refl
    (fails_test IsBare _ RC_ATTRIBUTES _ refl
    (fails_enclosed IsBare nv_public_of (sized RC_INSUFFICIENT rest) refl (fails_sized IsBare RC_INSUFFICIENT rest refl) fails_nv_public)))
    (λ public rest. tt))

define_plain : (persist : Persist) (params : List ℕ) → Fails IsPlain (nv_define_row persist params)
define_plain persist params =
    fails_read (definition_of params) (defined persist) (definition_plain params) (λ given.
    cond_both (is_some (index_in given.1.index persist.nv)) (Err RC_NV_DEFINED) _ (Fails IsPlain) (λ there. refl) (λ absent.
    cond_both (nat_le NV_INDEXES (length persist.nv)) (Err RC_NV_SPACE) _ (Fails IsPlain) (λ full. refl) (λ room. tt)))

undefine_plain : (persist : Persist) (index : ℕ) (params : List ℕ) → Fails IsPlain (nv_undefine_row persist index params)
undefine_plain persist index params =
    fails_unless (undefined_index persist.nv 2 (index ∷ [])) _ (undefined_plain persist.nv 2 (index ∷ []) (omega arith))
    (given_plain params (record persist { nv = without_index index persist.nv }))

read_public_plain : (persist : Persist) (index : ℕ) (params : List ℕ) → Fails IsPlain (nv_read_public_row persist index params)
read_public_plain persist index params =
    fails_unless (undefined_index persist.nv 1 (index ∷ [])) _ (undefined_plain persist.nv 1 (index ∷ []) (omega arith))
    (fails_read (nothing_of params) _ (nothing_plain params) (λ none.
    there_plain (index_in index persist.nv)
    (λ item. Ok (sized_bytes (nv_public_bytes item.public) ++ sized_bytes (name_of (nv_public_bytes item.public)))) (λ item. tt)))

keeping_plain : (persist : Persist) (index : ℕ) (changed : Result NvIndex ℕ) → Fails IsPlain changed → Fails IsPlain (keeping_index persist index changed)
keeping_plain persist index (Err code) plain = plain
keeping_plain persist index (Ok item) plain = tt

written_plain : (by : ℕ) (given : List ℕ × ℕ) (item : NvIndex) → Fails IsPlain (written by given item)
written_plain by given item =
    cond_both (not (may_write by item)) (Err RC_NV_AUTHORIZATION) _ (Fails IsPlain) (λ no. refl) (λ yes.
    cond_both (is_counter item) (Err (RC_ATTRIBUTES + RC_1 * 2)) _ (Fails IsPlain) (λ counts. refl) (λ ordinary.
    cond_both (nat_lt item.public.size (given.1 + length given.0)) (Err RC_NV_RANGE) _ (Fails IsPlain) (λ past. refl) (λ inside. tt)))

write_plain : (persist : Persist) (by index : ℕ) (params : List ℕ) → Fails IsPlain (nv_write_row persist by index params)
write_plain persist by index params =
    fails_unless (undefined_index persist.nv 1 (by ∷ index ∷ [])) _ (undefined_plain persist.nv 1 (by ∷ index ∷ []) (omega arith))
    (fails_read (writing_of params) _
    (fails_then IsPlain _ _ (fails_tested 1 _ params refl) (λ bytes rest. fails_then IsPlain _ _ (fails_parameter_16 2 rest refl) (λ offset rest. tt))) (λ given.
    there_plain (index_in index persist.nv) _ (λ item. keeping_plain persist index (written by given item) (written_plain by given item))))

incremented_plain : (by : ℕ) (item : NvIndex) → Fails IsPlain (incremented by item)
incremented_plain by item =
    let number = from_be_bytes w64 item.bytes in
    cond_both (not (may_write by item)) (Err RC_NV_AUTHORIZATION) _ (Fails IsPlain) (λ no. refl) (λ yes.
    cond_both (not (is_counter item)) (Err (RC_ATTRIBUTES + RC_1 * 2)) _ (Fails IsPlain) (λ ordinary. refl) (λ counts.
    cond_both (number == 2 ^ 64 - 1) (Err RC_NV_RANGE) (Ok (with_bytes item (to_be_bytes w64 (number + 1)))) (Fails IsPlain) (λ last. refl) (λ more. tt)))

increment_plain : (persist : Persist) (by index : ℕ) (params : List ℕ) → Fails IsPlain (nv_increment_row persist by index params)
increment_plain persist by index params =
    fails_unless (undefined_index persist.nv 1 (by ∷ index ∷ [])) _ (undefined_plain persist.nv 1 (by ∷ index ∷ []) (omega arith))
    (fails_read (nothing_of params) _ (nothing_plain params) (λ none.
    there_plain (index_in index persist.nv) _ (λ item. keeping_plain persist index (incremented by item) (incremented_plain by item))))

part_plain : (by : ℕ) (part : ℕ × ℕ) (item : NvIndex) → Fails IsPlain (read_part by part item)
part_plain by part item =
    cond_both (not (may_read by item)) (Err RC_NV_AUTHORIZATION) _ (Fails IsPlain) (λ no. refl) (λ yes.
    cond_both (not (is_written item)) (Err RC_NV_UNINITIALIZED) _ (Fails IsPlain) (λ never. refl) (λ some.
    cond_both (nat_lt item.public.size (part.1 + part.0)) (Err RC_NV_RANGE) _ (Fails IsPlain) (λ past. refl) (λ inside. tt)))

nv_read_plain : (persist : Persist) (by index : ℕ) (params : List ℕ) → Fails IsPlain (nv_read_row persist by index params)
nv_read_plain persist by index params =
    fails_unless (undefined_index persist.nv 1 (by ∷ index ∷ [])) _ (undefined_plain persist.nv 1 (by ∷ index ∷ []) (omega arith))
    (fails_read (part_of params) _
    (fails_then IsPlain _ _ (fails_parameter_16 1 params refl) (λ size rest. fails_then IsPlain _ _ (fails_parameter_16 2 rest refl) (λ offset rest. tt))) (λ part.
    there_plain (index_in index persist.nv) (read_part by part) (part_plain by part)))

-- ---- GetRandom, SelfTest, and PCRs

drawn_plain : (persist : Persist) (n : ℕ) → Fails IsPlain (drawn persist n)
drawn_plain persist n = cond_both (nat_le (persist.place + words_for n) LAST_PLACE) _ (Err RC_FAILURE) (Fails IsPlain) (λ there. tt) (λ past. refl)

random_drawn_plain : (draw : Result (List ℕ × Persist) ℕ) → Fails IsPlain draw → Fails IsPlain (random_row_drawn draw)
random_drawn_plain (Err code) plain = plain
random_drawn_plain (Ok draw) plain = tt

random_plain : (persist : Persist) (params : List ℕ) → Fails IsPlain (random_row persist params)
random_plain persist params =
    fails_read (in_parameter 1 (number16 RC_INSUFFICIENT params)) _ (fails_parameter_16 1 params refl) (λ requested.
    random_drawn_plain (drawn persist (min requested MOST_RANDOM_BYTES)) (drawn_plain persist (min requested MOST_RANDOM_BYTES)))

self_test_plain : (params : List ℕ) → Fails IsPlain (self_test_row params)
self_test_plain params =
    fails_read (in_parameter 1 (number8 RC_INSUFFICIENT params)) _
    (fails_parameter 1 (number8 RC_INSUFFICIENT params) refl (fails_8 IsBare RC_INSUFFICIENT params refl)) (λ full_test.
    cond_both (nat_le full_test 1) (Ok []) (Err (RC_VALUE + RC_P + RC_1)) (Fails IsPlain) (λ good. tt) (λ bad. refl))

pcr_read_plain : (persist : Persist) (params : List ℕ) → Fails IsPlain (pcr_read_row persist params)
pcr_read_plain persist params =
    fails_read (in_parameter 1 (selection_of params)) _ (fails_parameter 1 (selection_of params) refl (fails_selection params)) (λ selection. tt)

fails_digest : (count : ℕ) (bytes : List ℕ) → Fails IsBare (digest_with count bytes)
fails_digest count bytes =
    cond_both (count == 0) _ _ (Fails IsBare) (λ none. tt) (λ one.
    fails_then IsBare _ _ (fails_test IsBare _ RC_HASH (number16 RC_INSUFFICIENT bytes) refl (fails_16 IsBare RC_INSUFFICIENT bytes refl)) (λ hash rest.
    fails_then IsBare (fixed_bytes 32 RC_INSUFFICIENT rest) _ (fails_fixed IsBare 32 RC_INSUFFICIENT rest refl) (λ digest rest. tt)))

extend_plain : (persist : Persist) (pcr : ℕ) (params : List ℕ) → Fails IsPlain (pcr_extend_row persist pcr params)
extend_plain persist pcr params =
    fails_read (in_parameter 1 (digest_of params)) _
    (fails_parameter 1 (digest_of params) refl
    (fails_then IsBare _ digest_with (fails_test IsBare _ RC_SIZE (number32 RC_INSUFFICIENT params) refl (fails_32 IsBare RC_INSUFFICIENT params refl))
    (λ count rest. fails_digest count rest)))
    (λ digest. tt)

-- ---- what rows are put into

plain_keeping : (persist : Persist) (row : Result (List ℕ) ℕ) → Fails IsPlain row → Fails IsPlain (keeping persist row)
plain_keeping persist (Err code) plain = plain
plain_keeping persist (Ok params) plain = tt

plain_silent : (row : Result Persist ℕ) → Fails IsPlain row → Fails IsPlain (silent row)
plain_silent (Err code) plain = plain
plain_silent (Ok kept) plain = tt

plain_nothing : (row : Result (Persist × List ℕ) ℕ) → Fails IsPlain row → Fails IsPlain (making_nothing row)
plain_nothing (Err code) plain = plain
plain_nothing (Ok done) plain = tt

plain_object : (persist : Persist) (row : Result (Object × List ℕ) ℕ) → Fails IsPlain row → Fails IsPlain (making_object persist row)
plain_object persist (Err code) plain = plain
plain_object persist (Ok done) plain = tt

plain_session : (row : Result (Session × Persist × List ℕ) ℕ) → Fails IsPlain row → Fails IsPlain (making_session row)
plain_session (Err code) plain = plain
plain_session (Ok done) plain = tt

plain_policy : (persist : Persist) (row : Result (Session × List ℕ) ℕ) → Fails IsPlain row → Fails IsPlain (changing_policy persist row)
plain_policy persist (Err code) plain = plain
plain_policy persist (Ok done) plain = tt

plain_silent_policy : (row : Result Session ℕ) → Fails IsPlain row → Fails IsPlain (silent_policy row)
plain_silent_policy (Err code) plain = plain
plain_silent_policy (Ok s) plain = tt

plain_keeping_session : (s : Session) (row : Result (List ℕ) ℕ) → Fails IsPlain row → Fails IsPlain (keeping_session s row)
plain_keeping_session s (Err code) plain = plain
plain_keeping_session s (Ok params) plain = tt

nv_plain : (code : ℕ) (persist : Persist) (first second : ℕ) (params : List ℕ) → Fails IsPlain (nv_row code persist first second params)
nv_plain code persist first second params =
    cond_both (code == CC_NV_DEFINE_SPACE) _ _ (Fails IsPlain) (λ is. plain_silent (nv_define_row persist params) (define_plain persist params)) (λ not.
    cond_both (code == CC_NV_UNDEFINE_SPACE) _ _ (Fails IsPlain) (λ is. plain_silent (nv_undefine_row persist second params) (undefine_plain persist second params)) (λ not.
    cond_both (code == CC_NV_READ_PUBLIC) _ _ (Fails IsPlain) (λ is. plain_keeping persist (nv_read_public_row persist first params) (read_public_plain persist first params)) (λ not.
    cond_both (code == CC_NV_WRITE) _ _ (Fails IsPlain) (λ is. plain_silent (nv_write_row persist first second params) (write_plain persist first second params)) (λ not.
    cond_both (code == CC_NV_INCREMENT) _ _ (Fails IsPlain) (λ is. plain_silent (nv_increment_row persist first second params) (increment_plain persist first second params)) (λ not.
    cond_both (code == CC_NV_READ) (keeping persist (nv_read_row persist first second params)) (Err RC_COMMAND_CODE) (Fails IsPlain)
    (λ is. plain_keeping persist (nv_read_row persist first second params) (nv_read_plain persist first second params)) (λ not. refl))))))

plain_row : (code : ℕ) (persist : Persist) (first second : ℕ) (params : List ℕ) → Fails IsPlain (row_with code persist first second params)
plain_row code persist first second params =
    cond_both (code == CC_SELF_TEST) _ _ (Fails IsPlain) (λ is. plain_keeping persist (self_test_row params) (self_test_plain params)) (λ not.
    cond_both (code == CC_GET_RANDOM) _ _ (Fails IsPlain) (λ is. random_plain persist params) (λ not.
    cond_both (code == CC_PCR_READ) _ _ (Fails IsPlain) (λ is. plain_keeping persist (pcr_read_row persist params) (pcr_read_plain persist params)) (λ not.
    cond_both (code == CC_PCR_EXTEND) (silent (pcr_extend_row persist first params)) (nv_row code persist first second params) (Fails IsPlain)
    (λ is. plain_silent (pcr_extend_row persist first params) (extend_plain persist first params))
    (λ not. nv_plain code persist first second params))))

-- ---- objects

template_plain : (params : List ℕ) → Fails IsPlain (template_of params)
template_plain params =
    fails_then IsPlain _ _
    (fails_parameter 1 _ refl (fails_enclosed IsBare sensitive_of (sized RC_INSUFFICIENT params) refl (fails_sized IsBare RC_INSUFFICIENT params refl) fails_sensitive)) (λ sensitive rest.
    fails_then IsPlain _ _
    (fails_parameter 2 _ refl (fails_enclosed IsBare public_of (sized RC_INSUFFICIENT rest) refl (fails_sized IsBare RC_INSUFFICIENT rest refl) fails_public)) (λ public rest.
    fails_then IsPlain _ _ (fails_tested 3 _ rest refl) (λ outside rest.
    fails_then IsPlain _ _ (fails_parameter 4 (selection_of rest) refl (fails_selection rest)) (λ selection rest. tt))))

data_plain : {Y : Type 0} (t : Template) (next : Result Y ℕ) → Fails IsPlain next → Fails IsPlain (where_data_fits t next)
data_plain t next plain = cond_both (data_fits t) next (Err (RC_ATTRIBUTES + RC_P + RC_1)) (Fails IsPlain) (λ fits. plain) (λ other. refl)

parent_plain : {Y : Type 0} (parent : Object) (next : Result Y ℕ) → Fails IsPlain next → Fails IsPlain (where_parent parent next)
parent_plain parent next plain = cond_both (is_parent parent.public) next (Err (RC_TYPE + RC_1)) (Fails IsPlain) (λ is. plain) (λ other. refl)

primary_plain : (persist : Persist) (params : List ℕ) → Fails IsPlain (create_primary_row persist params)
primary_plain persist params = fails_read (template_of params) _ (template_plain params) (λ t. data_plain t _ tt)

child_by_plain : (parent : Object) (t : Template) (seed : List ℕ) (draw : Result (List ℕ × Persist) ℕ) → Fails IsPlain draw → Fails IsPlain (child_by parent t seed draw)
child_by_plain parent t seed (Err code) plain = plain
child_by_plain parent t seed (Ok secret) plain = tt

secret_drawn_plain : (makes : Bool) (persist : Persist) (size : ℕ) (content : List ℕ) → Fails IsPlain (if makes then drawn persist size else Ok (content, persist))
secret_drawn_plain true persist size content = drawn_plain persist size
secret_drawn_plain false persist size content = tt

child_from_plain : (parent : Object) (t : Template) (draw : Result (List ℕ × Persist) ℕ) → Fails IsPlain draw → Fails IsPlain (child_from parent t draw)
child_from_plain parent t (Err code) plain = plain
child_from_plain parent t (Ok seed) plain = child_by_plain parent t seed.0 _ (secret_drawn_plain _ seed.1 (secret_size t.public) t.sensitive.content)

child_plain : (persist : Persist) (parent : Object) (t : Template) (child : Result (Object × Persist) ℕ) → Fails IsPlain child
    → Fails IsPlain (created_child persist parent t child)
child_plain persist parent t (Err code) plain = plain
child_plain persist parent t (Ok child) plain = tt

create_plain : (persist : Persist) (parent : Object) (params : List ℕ) → Fails IsPlain (create_row persist parent params)
create_plain persist parent params =
    parent_plain parent _ (fails_read (template_of params) _ (template_plain params) (λ t.
    data_plain t _ (child_plain persist parent t (child_of persist parent t) (child_from_plain parent t (drawn persist 32) (drawn_plain persist 32)))))

loaded_with_plain : {X : Type 0} (reading : Reading X) (made : X → Object) → Fails IsPlain (loaded_with reading made)
loaded_with_plain (Err code) made = refl
loaded_with_plain (Ok plain) made = cond_both (length plain.1 == 0) _ (Err (RC_INTEGRITY + RC_P + RC_1)) (Fails IsPlain) (λ whole. tt) (λ more. refl)

loaded_by_plain : (parent : Object) (public : Public) (private : Reading (List ℕ)) → Fails IsPlain (loaded_by parent public private)
loaded_by_plain parent public (Err code) = refl
loaded_by_plain parent public (Ok private) =
    let name = object_name public in
    let plain = plain_of (encrypted parent name private.1) in
    let made : List ℕ × List ℕ × List ℕ → Object =
    λ plain. record { public = public; auth = plain.0; seed = plain.1; secret = plain.2; qualified_name = qualified parent.qualified_name public } in
    cond_both (bytes_eq private.0 (integrity_value parent name private.1)) (loaded_with plain made) (Err (RC_INTEGRITY + RC_P + RC_1)) (Fails IsPlain)
    (λ same. loaded_with_plain plain made) (λ other. refl)

load_plain : (parent : Object) (params : List ℕ) → Fails IsPlain (load_row parent params)
load_plain parent params =
    parent_plain parent _ (fails_read (loading_of params) _
    (fails_then IsPlain _ _ (fails_tested 1 _ params refl) (λ private rest.
    fails_then IsPlain _ _
    (fails_parameter 2 _ refl (fails_enclosed IsBare public_of (sized RC_INSUFFICIENT rest) refl (fails_sized IsBare RC_INSUFFICIENT rest refl) fails_public))
    (λ public rest. tt)))
    (λ given. loaded_by_plain parent given.1 (sized RC_SIZE given.0)))

unseal_plain : (item : Object) (params : List ℕ) → Fails IsPlain (unseal_row item params)
unseal_plain item params =
    cond_both (is_parent item.public) (Err (RC_TYPE + RC_1)) _ (Fails IsPlain) (λ is. refl) (λ not.
    cond_both (signs item.public.attributes) (Err (RC_ATTRIBUTES + RC_1)) _ (Fails IsPlain) (λ key. refl) (λ sealed.
    given_plain params (sized_bytes item.secret)))

hmac_plain : (item : Object) (params : List ℕ) → Fails IsPlain (hmac_row item params)
hmac_plain item params =
    cond_both (is_parent item.public) (Err (RC_TYPE + RC_1)) _ (Fails IsPlain) (λ is. refl) (λ no.
    cond_both (not (signs item.public.attributes)) (Err (RC_KEY + RC_1)) _ (Fails IsPlain) (λ other. refl) (λ key.
    fails_read (hmac_of_params params) _
    (fails_then IsPlain _ _ (fails_tested 1 _ params refl) (λ bytes rest. fails_then IsPlain _ _ (fails_parameter_16 2 rest refl) (λ hash rest. tt))) (λ given.
    cond_both (given.1 == ALG_SHA256) _ _ (Fails IsPlain) (λ sha. tt) (λ no.
    cond_both (given.1 == ALG_NULL) _ (Err (RC_VALUE + RC_P + RC_1 * 2)) (Fails IsPlain) (λ null. tt) (λ neither. refl)))))

item_public_plain : (item : Object) (params : List ℕ) → Fails IsPlain (read_public_row item params)
item_public_plain item params =
    given_plain params (sized_bytes (public_bytes item.public) ++ sized_bytes (object_name item.public) ++ sized_bytes item.qualified_name)

item_plain : (code : ℕ) (persist : Persist) (item : Object) (params : List ℕ) → Fails IsPlain (item_row code persist item params)
item_plain code persist item params =
    cond_both (code == CC_CREATE) _ _ (Fails IsPlain) (λ is. create_plain persist item params) (λ not.
    cond_both (code == CC_UNSEAL) _ _ (Fails IsPlain) (λ is. plain_keeping persist (unseal_row item params) (unseal_plain item params)) (λ not.
    cond_both (code == CC_HMAC) _ _ (Fails IsPlain) (λ is. plain_keeping persist (hmac_row item params) (hmac_plain item params)) (λ not.
    cond_both (code == CC_READ_PUBLIC) (keeping persist (read_public_row item params)) (Err RC_COMMAND_CODE) (Fails IsPlain)
    (λ is. plain_keeping persist (read_public_row item params) (item_public_plain item params)) (λ not. refl))))

-- ---- policies

command_code_plain : (s : Session) (params : List ℕ) → Fails IsPlain (policy_command_code_row s params)
command_code_plain s params =
    fails_read (in_parameter 1 (number32 RC_INSUFFICIENT params)) _ (fails_parameter_32 1 params refl) (λ code.
    cond_both (code == 0 || is_set_to_another s.command_code code) (Err (RC_VALUE + RC_P + RC_1)) _ (Fails IsPlain) (λ refused. refl) (λ taken. tt))

policed_plain : (persist : Persist) (s : Session) (given : List ℕ) (selection : PcrSelection) → Fails IsPlain (pcr_policed persist s given selection)
policed_plain persist s given selection =
    cond_both (length given == 0) _ _ (Fails IsPlain) (λ none. tt) (λ some.
    cond_both (is_trial s || bytes_eq given (selected_digest persist.pcrs selection.bits)) _ (Err (RC_VALUE + RC_P + RC_1)) (Fails IsPlain) (λ same. tt) (λ other. refl))

pcrs_plain : (persist : Persist) (s : Session) (params : List ℕ) → Fails IsPlain (policy_pcr_row persist s params)
pcrs_plain persist s params =
    fails_read (pcr_policy_of params) _
    (fails_then IsPlain _ _ (fails_tested 1 _ params refl) (λ digest rest.
    fails_then IsPlain _ _ (fails_parameter 2 (selection_of rest) refl (fails_selection rest)) (λ selection rest. tt))) (λ given.
    cond_both (is_set_to_another s.pcr_updates persist.updates) (Err RC_PCR_CHANGED) _ (Fails IsPlain) (λ past. refl)
    (λ present. policed_plain persist s given.0 given.1))

fails_digests : (count : ℕ) (bytes : List ℕ) → Fails IsBare (digests_of count bytes)
fails_digests zero bytes = tt
fails_digests (suc more) bytes =
    fails_then IsBare _ _ (fails_test IsBare _ RC_SIZE (sized RC_INSUFFICIENT bytes) refl (fails_sized IsBare RC_INSUFFICIENT bytes refl)) (λ digest rest.
    fails_then IsBare (digests_of more rest) _ (fails_digests more rest) (λ digests rest. tt))

or_plain : (s : Session) (params : List ℕ) → Fails IsPlain (policy_or_row s params)
or_plain s params =
    fails_read (in_parameter 1 (branches_of params)) _
    (fails_parameter 1 (branches_of params) refl
    (fails_then IsBare _ _ (fails_test IsBare _ RC_SIZE (number32 RC_INSUFFICIENT params) refl (fails_32 IsBare RC_INSUFFICIENT params refl))
    (λ count rest. fails_digests count rest))) (λ branches.
    cond_both (is_trial s || list_any (λ branch. bytes_eq branch s.digest) branches) _ (Err (RC_VALUE + RC_P + RC_1)) (Fails IsPlain) (λ found. tt) (λ none. refl))

secret_fault_plain : (s : Session) (given : SecretPolicy) → IfSome (secret_fault s given) IsPlain
secret_fault_plain s given =
    let Plain : Option ℕ → Type 0 = λ fault. IfSome fault IsPlain in
    cond_both (not (length given.nonce == 0 || bytes_eq given.nonce s.nonce)) (Some (RC_NONCE + RC_P + RC_1)) _ Plain (λ other. refl) (λ same.
    cond_both (not (length given.cp_hash == 0)) (Some (RC_VALUE + RC_P + RC_1 * 2)) _ Plain (λ some. refl) (λ none.
    cond_both (not (given.expiration == 0)) (Some (RC_VALUE + RC_P + RC_1 * 4)) None Plain (λ some. refl) (λ none. tt)))

secret_policed_plain : (s : Session) (name : List ℕ) (given : SecretPolicy) (fault : Option ℕ) → IfSome fault IsPlain → Fails IsPlain (secret_policed s name given fault)
secret_policed_plain s name given (Some code) plain = plain
secret_policed_plain s name given None plain = tt

secret_plain : (s : Session) (name params : List ℕ) → Fails IsPlain (policy_secret_row s name params)
secret_plain s name params =
    fails_read (secret_policy_of params) _
    (fails_then IsPlain _ _ (fails_tested 1 _ params refl) (λ nonce rest.
    fails_then IsPlain _ _ (fails_tested 2 _ rest refl) (λ cp_hash rest.
    fails_then IsPlain _ _ (fails_tested 3 _ rest refl) (λ policy_ref rest.
    fails_then IsPlain _ _ (fails_parameter_32 4 rest refl) (λ expiration rest. tt)))))
    (λ given. secret_policed_plain s name given (secret_fault s given) (secret_fault_plain s given))

policy_plain : (code : ℕ) (persist : Persist) (s : Session) (name params : List ℕ) → Fails IsPlain (policy_row code persist s name params)
policy_plain code persist s name params =
    let needs : (needed : AuthNeeded) → Fails IsPlain (silent_policy (policy_needs_row needed s params)) =
    λ needed.
    plain_silent_policy (policy_needs_row needed s params)
    (given_plain params (record s { digest = extended_digest s.digest CC_POLICY_AUTH_VALUE []; needed = needed })) in
    cond_both (code == CC_POLICY_SECRET) _ _ (Fails IsPlain) (λ is. secret_plain s name params) (λ not.
    cond_both (code == CC_POLICY_AUTH_VALUE) _ _ (Fails IsPlain) (λ is. needs AuthValue) (λ not.
    cond_both (code == CC_POLICY_PASSWORD) _ _ (Fails IsPlain) (λ is. needs Password) (λ not.
    cond_both (code == CC_POLICY_COMMAND_CODE) _ _ (Fails IsPlain) (λ is. plain_silent_policy (policy_command_code_row s params) (command_code_plain s params)) (λ not.
    cond_both (code == CC_POLICY_OR) _ _ (Fails IsPlain) (λ is. plain_silent_policy (policy_or_row s params) (or_plain s params)) (λ not.
    cond_both (code == CC_POLICY_PCR) _ _ (Fails IsPlain) (λ is. plain_silent_policy (policy_pcr_row persist s params) (pcrs_plain persist s params)) (λ not.
    cond_both (code == CC_POLICY_RESTART) _ _ (Fails IsPlain)
    (λ is. plain_silent_policy (policy_restart_row s params) (given_plain params (restarted s))) (λ not.
    cond_both (code == CC_POLICY_GET_DIGEST) (keeping_session s (policy_get_digest_row s params)) (Err RC_COMMAND_CODE) (Fails IsPlain)
    (λ is. plain_keeping_session s (policy_get_digest_row s params) (given_plain params (sized_bytes s.digest))) (λ not. refl))))))))

-- ---- sessions

start_parameters_plain : (params : List ℕ) → Fails IsPlain (start_parameters_of params)
start_parameters_plain params =
    fails_then IsPlain _ _ (fails_tested 1 _ params refl) (λ nonce rest.
    fails_then IsPlain _ _ (fails_tested 2 _ rest refl) (λ salt rest.
    fails_then IsPlain _ _ (fails_parameter 3 (number8 RC_INSUFFICIENT rest) refl (fails_8 IsBare RC_INSUFFICIENT rest refl)) (λ kind rest.
    fails_then IsPlain _ _ (fails_parameter_16 4 rest refl) (λ symmetric rest.
    fails_then IsPlain _ _ (fails_parameter_16 5 rest refl) (λ hash rest. tt)))))

start_parameters_fault_plain : (b : StartParameters) → IfSome (start_parameters_fault b) IsPlain
start_parameters_fault_plain b =
    let Plain : Option ℕ → Type 0 = λ fault. IfSome fault IsPlain in
    cond_both (not (is_nonce b.nonce)) (Some (RC_SIZE + RC_P + RC_1)) _ Plain (λ is. refl) (λ no.
    cond_both (not (length b.salt == 0)) (Some (RC_VALUE + RC_P + RC_1 * 2)) _ Plain (λ is. refl) (λ no.
    cond_both (not (is_kind_number b.kind)) (Some (RC_VALUE + RC_P + RC_1 * 3)) _ Plain (λ is. refl) (λ no.
    cond_both (not (b.symmetric == ALG_NULL)) (Some (RC_VALUE + RC_P + RC_1 * 4)) _ Plain (λ is. refl) (λ no.
    cond_both (not (b.hash == ALG_SHA256)) (Some (RC_HASH + RC_P + RC_1 * 5)) None Plain (λ is. refl) (λ no. tt)))))

check_plain : (params : List ℕ) → Fails IsPlain (start_check params)
check_plain params =
    fails_read (start_parameters_of params) _ (start_parameters_plain params) (λ b. fails_unless (start_parameters_fault b) (Ok b) (start_parameters_fault_plain b) tt)

initial_session_plain : (kind : SessionKind) (draw : Result (List ℕ × Persist) ℕ) → Fails IsPlain draw → Fails IsPlain (started_session (initial_session_with kind draw))
initial_session_plain kind (Err code) plain = plain
initial_session_plain kind (Ok nonce) plain = tt

started_plain : (persist : Persist) (check : Result StartParameters ℕ) → Fails IsPlain check → Fails IsPlain (session_started persist check)
started_plain persist (Err code) plain = plain
started_plain persist (Ok b) plain = initial_session_plain _ (drawn persist (length b.nonce)) (drawn_plain persist (length b.nonce))

-- ---- every row

other_plain : (code : ℕ) (persist : Persist) (first second : ℕ) (params : List ℕ) → Fails IsPlain (other_row code persist first second params)
other_plain code persist first second params =
    cond_both (code == CC_CREATE_PRIMARY) _ _ (Fails IsPlain) (λ is. plain_object persist (create_primary_row persist params) (primary_plain persist params)) (λ not.
    cond_both (code == CC_START_AUTH_SESSION) _ _ (Fails IsPlain)
    (λ is. plain_session (start_session_row persist params) (started_plain persist (start_check params) (check_plain params)))
    (λ not. plain_nothing (row_with code persist first second params) (plain_row code persist first second params)))

row_plain : (code : ℕ) (persist : Persist) (operands : List Operand) (policy : Option Session) (item : Option Object) (params : List ℕ)
    → Fails IsPlain (row_by code persist operands policy item params)
row_plain code persist operands (Some s) item params =
    let name = operand_name persist (operand_at operands 0) in
    plain_policy persist (policy_row code persist s name params) (policy_plain code persist s name params)
row_plain code persist operands None (Some item) params =
    cond_both (code == CC_LOAD) _ _ (Fails IsPlain) (λ is. plain_object persist (load_row item params) (load_plain item params))
    (λ not. plain_nothing (item_row code persist item params) (item_plain code persist item params))
row_plain code persist operands None None params = other_plain code persist (number_of (operand_at operands 0)) (number_of (operand_at operands 1)) params

-- ---- authorizations

password_plain : (entity : Entity) (auth : Auth) (bytes : List ℕ) → IfSome (password_fault entity auth bytes) IsPlain
password_plain entity auth bytes =
    let Plain : Option ℕ → Type 0 = λ fault. IfSome fault IsPlain in
    let same = bytes_eq (without_zeros (slice_range bytes auth.hmac.0 auth.hmac.1)) entity.auth in
    let compared = if same then None else Some (RC_BAD_AUTH + RC_S + RC_1) in
    let allowed = if not entity.user_with_auth then Some RC_AUTH_UNAVAILABLE else compared in
    let some = not (length (slice_range bytes auth.nonce.0 auth.nonce.1) == 0) in
    cond_both (has_other_attributes auth) (Some (RC_ATTRIBUTES + RC_S + RC_1)) (if some then Some (RC_NONCE + RC_S + RC_1) else allowed) Plain (λ is. refl) (λ no.
    cond_both some (Some (RC_NONCE + RC_S + RC_1)) allowed Plain (λ is. refl) (λ no.
    cond_both (not entity.user_with_auth) (Some RC_AUTH_UNAVAILABLE) compared Plain (λ is. refl) (λ no.
    cond_both same None (Some (RC_BAD_AUTH + RC_S + RC_1)) Plain (λ is. tt) (λ no. refl))))

field_plain : (entity : Entity) (s : Session) (auth : Auth) (bytes hash : List ℕ) → IfSome (field_fault entity s auth bytes hash) IsPlain
field_plain entity s auth bytes hash =
    let Plain : Option ℕ → Type 0 = λ fault. IfSome fault IsPlain in
    let compared = bytes_eq (without_zeros (hmac_field auth bytes)) entity.auth in
    cond_both (asks_password s) (if compared then None else Some (RC_BAD_AUTH + RC_S + RC_1))
    (if hmac_passes entity s auth bytes hash then None else Some (RC_BAD_AUTH + RC_S + RC_1)) Plain
    (λ is. cond_both compared None (Some (RC_BAD_AUTH + RC_S + RC_1)) Plain (λ same. tt) (λ other. refl))
    (λ no. cond_both (hmac_passes entity s auth bytes hash) None (Some (RC_BAD_AUTH + RC_S + RC_1)) Plain (λ same. tt) (λ other. refl))

policy_fault_plain : (entity : Entity) (s : Session) (code updates : ℕ) (field : Option ℕ) → IfSome field IsPlain
    → IfSome (policy_fault entity s code updates field) IsPlain
policy_fault_plain entity s code updates field plain =
    let Plain : Option ℕ → Type 0 = λ fault. IfSome fault IsPlain in
    cond_both (not entity.is_object) (Some RC_AUTH_UNAVAILABLE) _ Plain (λ is. refl) (λ no.
    cond_both (not (bytes_eq s.digest entity.policy)) (Some (RC_POLICY_FAIL + RC_S + RC_1)) _ Plain (λ is. refl) (λ no.
    cond_both (is_set_to_another s.command_code code) (Some (RC_POLICY_CC + RC_S + RC_1)) _ Plain (λ is. refl) (λ no.
    cond_both (is_set_to_another s.pcr_updates updates) (Some RC_PCR_CHANGED) field Plain (λ is. refl) (λ no. plain))))

fault_by_plain : (kind : SessionKind) (entity : Entity) (s : Session) (code updates : ℕ) (field : Option ℕ) → IfSome field IsPlain
    → IfSome (fault_by kind entity s code updates field) IsPlain
fault_by_plain kinds.Hmac entity s code updates field plain =
    cond_both (not entity.user_with_auth) (Some RC_AUTH_UNAVAILABLE) field (λ fault. IfSome fault IsPlain) (λ is. refl) (λ no. plain)
fault_by_plain kinds.Policy entity s code updates field plain = policy_fault_plain entity s code updates field plain
fault_by_plain kinds.Trial entity s code updates field plain = refl

auth_plain : (entity : Entity) (session : Option Session) (auth : Auth) (bytes : List ℕ) (code : ℕ) (hash : List ℕ) (updates : ℕ)
    → IfSome (auth_fault entity session auth bytes code hash updates) IsPlain
auth_plain entity None auth bytes code hash updates = password_plain entity auth bytes
auth_plain entity (Some s) auth bytes code hash updates =
    let Plain : Option ℕ → Type 0 = λ fault. IfSome fault IsPlain in
    cond_both (has_other_attributes auth) (Some (RC_ATTRIBUTES + RC_S + RC_1)) _ Plain (λ is. refl) (λ no.
    cond_both (nat_lt 32 (length (nonce_caller auth bytes))) (Some (RC_SIZE + RC_S + RC_1)) _ Plain (λ is. refl) (λ no.
    fault_by_plain s.kind entity s code updates (field_fault entity s auth bytes hash) (field_plain entity s auth bytes hash)))

authorization_plain : (persist : Persist) (operands : Operands) (shape : Shape) (auths : Auths) (bytes : List ℕ)
    → IfSome (authorization_fault persist operands shape auths bytes) IsPlain
authorization_plain persist operands shape auths bytes =
    cond_both (shape.row.authorized == 0) None _ (λ fault. IfSome fault IsPlain) (λ none. tt)
    (λ some. auth_plain _ (named_session operands.session) (command_auth auths) bytes shape.row.code _ persist.updates)

-- what a command fails with before its response is made
pub outcome_plain : (persist : Persist) (operands : Operands) (shape : Shape) (auths : Auths) (bytes : List ℕ)
    → Fails IsPlain (outcome_of persist operands shape auths bytes)
outcome_plain persist operands shape auths bytes =
    let first = operand_at operands.handles 0 in
    let second = operand_at operands.handles 1 in
    let handles = number_of first ∷ number_of second ∷ [] in
    fails_unless (undefined_index persist.nv 1 handles) _ (undefined_plain persist.nv 1 handles (omega arith))
    (fails_unless (authorization_fault persist operands shape auths bytes) _ (authorization_plain persist operands shape auths bytes)
    (row_plain shape.row.code persist operands.handles (policy_session_in operands.handles) (object_in first) _))

-- the authorization of the response: a nonce that can't be drawn
closed_draw_plain : (entity : Entity) (s : Session) (auth : Auth) (bytes hash : List ℕ) (draw : Result (List ℕ × Persist) ℕ) → Fails IsPlain draw
    → Fails IsPlain (session_response_auth (session_response_with entity s auth bytes hash draw))
closed_draw_plain entity s auth bytes hash (Err code) plain = plain
closed_draw_plain entity s auth bytes hash (Ok nonce) plain = tt

pub closed_plain : (persist : Persist) (entity : Entity) (session : Option Session) (auth : Auth) (bytes hash : List ℕ)
    → Fails IsPlain (response_auth persist entity session auth bytes hash)
closed_plain persist entity None auth bytes hash = tt
closed_plain persist entity (Some s) auth bytes hash =
    closed_draw_plain entity s auth bytes hash (drawn persist (length s.nonce)) (drawn_plain persist (length s.nonce))
