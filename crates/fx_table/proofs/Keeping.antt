-- What a row leaves of what is kept: a row that changes more than the place in the random stream leaves the place.
use Rattle.std.proofs.Common.{◌≡◌, ℕ, Bool, true, false, List, Result, Ok, Err, refl, subst, sym, ◌+◌, ◌++◌, [], ◌∷◌}
use Rattle.std.specs.Prelude.{Option, Some, None, ◌==◌, is_some, min, nat_le, length, replicate, if◌then◌else◌}
use Rattle.std.proofs.lemmas.Bool.{cond_both, eqb-true}
use Rattle.tab_spec.specs.declared.TheConstants.{CC_PCR_EXTEND, CC_NV_DEFINE_SPACE, CC_NV_UNDEFINE_SPACE, CC_NV_WRITE, CC_NV_INCREMENT, CC_NV_READ_PUBLIC, CC_NV_READ, CC_SELF_TEST, CC_GET_RANDOM, CC_PCR_READ, CC_CREATE, CC_UNSEAL, CC_HMAC, CC_READ_PUBLIC, CC_LOAD, CC_CREATE_PRIMARY, CC_START_AUTH_SESSION, LAST_PLACE, MOST_RANDOM_BYTES, NV_INDEXES, RC_COMMAND_CODE, RC_FAILURE, RC_INSUFFICIENT, RC_NV_DEFINED, RC_NV_SPACE, RC_1, RC_TYPE, RC_P, RC_ATTRIBUTES}
use Rattle.tab_spec.specs.NvIndex.{NvIndex, index_in, without_index}
use Rattle.tab_spec.specs.Object.{Object}
use Rattle.tab_spec.specs.Persist.{Persist, drawn, words_for, random_bytes}
use Rattle.tab_spec.specs.Session.{Session}
use Rattle.tab_spec.specs.Values.{Reading, makes_secret, number16}
use Rattle.tab_spec.specs.Admission.{unless_fault}
use Rattle.tab_spec.specs.Parameters.{when_read}
use Rattle.effect_spec.specs.Nv.{nv_undefine_row, nv_write_row, nv_increment_row, nv_read_public_row, nv_read_row, when_there, keeping_index, defined, definition_of, writing_of, written, incremented, undefined_index}
use Rattle.tab_spec.specs.Parameters.{nothing_of, in_parameter}
use Rattle.effect_spec.specs.Pcr.{extended, digest_of, pcr_extend_row, pcr_read_row}
use Rattle.effect_spec.specs.Objects.{unseal_row, hmac_row, read_public_row, load_row, create_primary_row, Template, is_parent, data_fits, where_data_fits, template_of, secret_size, child_of, child_by, child_from, created_child, create_row}
use Rattle.effect_spec.specs.SessionAuths.{operand_name}
use Rattle.effect_spec.specs.Sessions.{StartParameters, initial_session_with, session_started, started_session, start_check}
use Rattle.effect_spec.specs.Operands.{Operand, operand_at, object_in, policy_session_in, number_of}
use Rattle.effect_spec.specs.Effect.{RowOutcome, keeping, silent, making_nothing, making_object, making_session, changing_policy, policy_row, random_row, random_row_drawn, self_test_row, nv_row, row_with, item_row, row_by, effect_row}
use Rattle.tab_spec.specs.declared.SessionKind.{SessionKind}
use Rattle.fx_table.specs.Kept.{changes_kept}

-- of a command that changes more the place is left, and of another all but the place
abbrev pub Fine : Bool → Persist → Persist → Type 0
Fine true old new = new.place ≡ old.place
Fine false old new = record new { place = old.place } ≡ old

same : (b : Bool) (persist : Persist) → Fine b persist persist
same true persist = refl
same false persist = refl

moved : (b : Bool) (persist : Persist) (place : ℕ) → b ≡ false → Fine b persist (record persist { place = place })
moved b persist place is = subst (λ (c : Bool). Fine c persist (record persist { place = place })) (sym is) refl

placed : (b : Bool) (old new : Persist) → b ≡ true → new.place ≡ old.place → Fine b old new
placed b old new is place = subst (λ (c : Bool). Fine c old new) (sym is) place

unfoldable pub FineOutcome : Bool → Persist → Result RowOutcome ℕ → Type 0
FineOutcome b persist (Err code) = Unit {0}
FineOutcome b persist (Ok done) = Fine b persist done.persist

unfoldable FineRow : Bool → Persist → Result (Persist × List ℕ) ℕ → Type 0
FineRow b persist (Err code) = Unit {0}
FineRow b persist (Ok done) = Fine b persist done.0

unfoldable FineKept : Bool → Persist → Result Persist ℕ → Type 0
FineKept b persist (Err code) = Unit {0}
FineKept b persist (Ok new) = Fine b persist new

outcome_fails : (b : Bool) (persist : Persist) (code : ℕ) → FineOutcome b persist (Err code)
unfolding FineOutcome
outcome_fails b persist code = tt

outcome_done : (b : Bool) (persist : Persist) (done : RowOutcome) → Fine b persist done.persist → FineOutcome b persist (Ok done)
unfolding FineOutcome
outcome_done b persist done fine = fine

outcome_was : (b : Bool) (persist : Persist) (done : RowOutcome) → FineOutcome b persist (Ok done) → Fine b persist done.persist
unfolding FineOutcome
outcome_was b persist done fine = fine

row_fails : (b : Bool) (persist : Persist) (code : ℕ) → FineRow b persist (Err code)
unfolding FineRow
row_fails b persist code = tt

row_done : (b : Bool) (persist : Persist) (done : Persist × List ℕ) → Fine b persist done.0 → FineRow b persist (Ok done)
unfolding FineRow
row_done b persist done fine = fine

kept_fails : (b : Bool) (persist : Persist) (code : ℕ) → FineKept b persist (Err code)
unfolding FineKept
kept_fails b persist code = tt

kept_done : (b : Bool) (persist new : Persist) → Fine b persist new → FineKept b persist (Ok new)
unfolding FineKept
kept_done b persist new fine = fine

kept_was : (b : Bool) (persist new : Persist) → FineKept b persist (Ok new) → Fine b persist new
unfolding FineKept
kept_was b persist new fine = fine

row_was : (b : Bool) (persist : Persist) (done : Persist × List ℕ) → FineRow b persist (Ok done) → Fine b persist done.0
unfolding FineRow
row_was b persist done fine = fine

-- ---- the parts of rows

reading : {X Y : Type 0} (P : Result Y ℕ → Type 0) (read : Reading X) (next : X → Result Y ℕ) → ((code : ℕ) → P (Err code))
    → ((x : X) → P (next x)) → P (when_read read next)
reading P (Err code) next fails goes = fails code
reading P (Ok read) next fails goes = cond_both (length read.1 == 0) (next read.0) (Err _) P (λ all. goes read.0) (λ more. fails _)

tested : {Y : Type 0} (P : Result Y ℕ → Type 0) (fault : Option ℕ) (next : Result Y ℕ) → ((code : ℕ) → P (Err code)) → P next
    → P (unless_fault fault next)
tested P (Some code) next fails goes = fails code
tested P None next fails goes = goes

there : {Y : Type 0} (P : Result Y ℕ → Type 0) (item : Option NvIndex) (next : NvIndex → Result Y ℕ) → ((code : ℕ) → P (Err code))
    → ((i : NvIndex) → P (next i)) → P (when_there item next)
there P None next fails goes = fails _
there P (Some item) next fails goes = goes item

kept_row : (b : Bool) (persist : Persist) (r : Result (List ℕ) ℕ) → FineRow b persist (keeping persist r)
kept_row b persist (Err code) = row_fails b persist code
kept_row b persist (Ok params) = row_done b persist _ (same b persist)

silent_row : (b : Bool) (persist : Persist) (r : Result Persist ℕ) → FineKept b persist r → FineRow b persist (silent r)
silent_row b persist (Err code) fine = row_fails b persist code
silent_row b persist (Ok new) fine = row_done b persist _ (kept_was b persist new fine)

nothing_made : (b : Bool) (persist : Persist) (r : Result (Persist × List ℕ) ℕ) → FineRow b persist r → FineOutcome b persist (making_nothing r)
nothing_made b persist (Err code) fine = outcome_fails b persist code
nothing_made b persist (Ok done) fine = outcome_done b persist _ (row_was b persist done fine)

object_made : (b : Bool) (persist : Persist) (r : Result (Object × List ℕ) ℕ) → FineOutcome b persist (making_object persist r)
object_made b persist (Err code) = outcome_fails b persist code
object_made b persist (Ok done) = outcome_done b persist _ (same b persist)

policy_changed : (b : Bool) (persist : Persist) (r : Result (Session × List ℕ) ℕ) → FineOutcome b persist (changing_policy persist r)
policy_changed b persist (Err code) = outcome_fails b persist code
policy_changed b persist (Ok done) = outcome_done b persist _ (same b persist)

index_kept : (b : Bool) (persist : Persist) (index : ℕ) (r : Result NvIndex ℕ) → b ≡ true → FineKept b persist (keeping_index persist index r)
index_kept b persist index (Err code) is = kept_fails b persist code
index_kept b persist index (Ok item) is = kept_done b persist _ (placed b persist _ is refl)

-- a draw moves the place alone
draw_fine : {Y : Type 0} (P : Result Y ℕ → Type 0) (persist : Persist) (n : ℕ) (next : Result (List ℕ × Persist) ℕ → Result Y ℕ)
    → ((code : ℕ) → P (next (Err code))) → ((bytes : List ℕ) (place : ℕ) → P (next (Ok (bytes, record persist { place = place }))))
    → P (next (drawn persist n))
draw_fine P persist n next fails goes =
    cond_both (nat_le (persist.place + words_for n) LAST_PLACE)
    (Ok (random_bytes persist.seed persist.place n, record persist { place = persist.place + words_for n })) (Err RC_FAILURE)
    (λ (r : Result (List ℕ × Persist) ℕ). P (next r)) (λ some. goes _ _) (λ none. fails _)

random_fine : (b : Bool) (persist : Persist) (params : List ℕ) → b ≡ false → FineRow b persist (random_row persist params)
random_fine b persist params is =
    reading (FineRow b persist) (in_parameter 1 (number16 RC_INSUFFICIENT params)) (λ n. random_row_drawn (drawn persist (min n MOST_RANDOM_BYTES)))
    (λ code. row_fails b persist code) (λ n.
    draw_fine (FineRow b persist) persist (min n MOST_RANDOM_BYTES) random_row_drawn (λ code. row_fails b persist code)
    (λ bytes place. row_done b persist _ (moved b persist place is)))

session_fine : (b : Bool) (persist : Persist) (kind : SessionKind) (n : ℕ) → b ≡ false
    → FineOutcome b persist (making_session (started_session (initial_session_with kind (drawn persist n))))
session_fine b persist kind n is =
    draw_fine (FineOutcome b persist) persist n (λ (r : Result (List ℕ × Persist) ℕ). making_session (started_session (initial_session_with kind r)))
    (λ code. outcome_fails b persist code) (λ bytes place. outcome_done b persist _ (moved b persist place is))

starting_fine : (b : Bool) (persist : Persist) (check : Result StartParameters ℕ) → b ≡ false
    → FineOutcome b persist (making_session (session_started persist check))
starting_fine b persist (Err code) is = outcome_fails b persist code
starting_fine b persist (Ok parameters) is = session_fine b persist _ _ is

secret_fine : (b : Bool) (persist : Persist) (parent : Object) (t : Template) (seed : List ℕ) (place : ℕ) → b ≡ false
    → FineRow b persist (created_child persist parent t (child_by parent t seed
    (if makes_secret t.public then drawn (record persist { place = place }) (secret_size t.public) else Ok (t.sensitive.content, record persist { place = place }))))
secret_fine b persist parent t seed place is =
    cond_both (makes_secret t.public) (drawn (record persist { place = place }) (secret_size t.public)) (Ok (t.sensitive.content, record persist { place = place }))
    (λ (r : Result (List ℕ × Persist) ℕ). FineRow b persist (created_child persist parent t (child_by parent t seed r)))
    (λ makes. draw_fine (FineRow b persist) (record persist { place = place }) (secret_size t.public)
    (λ (r : Result (List ℕ × Persist) ℕ). created_child persist parent t (child_by parent t seed r)) (λ code. row_fails b persist code) (λ bytes next. row_done b persist _ (moved b persist next is)))
    (λ given. row_done b persist _ (moved b persist place is))

child_fine : (b : Bool) (persist : Persist) (parent : Object) (t : Template) → b ≡ false → FineRow b persist (created_child persist parent t (child_of persist parent t))
child_fine b persist parent t is =
    draw_fine (FineRow b persist) persist 32 (λ (r : Result (List ℕ × Persist) ℕ). created_child persist parent t (child_from parent t r))
    (λ code. row_fails b persist code) (λ seed place. secret_fine b persist parent t seed place is)

create_fine : (b : Bool) (persist : Persist) (parent : Object) (params : List ℕ) → b ≡ false → FineRow b persist (create_row persist parent params)
create_fine b persist parent params is =
    cond_both (is_parent parent.public) (when_read (template_of params) (λ t. where_data_fits t (created_child persist parent t (child_of persist parent t)))) (Err (RC_TYPE + RC_1))
    (FineRow b persist)
    (λ parent_is. reading (FineRow b persist) (template_of params) _ (λ code. row_fails b persist code) (λ t.
    cond_both (data_fits t) (created_child persist parent t (child_of persist parent t)) (Err (RC_ATTRIBUTES + RC_P + RC_1)) (FineRow b persist)
    (λ fits. child_fine b persist parent t is) (λ other. row_fails b persist _)))
    (λ other. row_fails b persist _)

-- ---- the table

-- which of the two a command is
of_code : (code known : ℕ) (b : Bool) → changes_kept code ≡ b → (code == known) ≡ true → changes_kept known ≡ b
of_code code known b is same = subst (λ (c : ℕ). changes_kept c ≡ b) (eqb-true code known same) is

extend_fine : (b : Bool) (persist : Persist) (pcr : ℕ) (digest : Option (List ℕ)) → b ≡ true → Fine b persist (extended persist pcr digest)
extend_fine b persist pcr None is = same b persist
extend_fine b persist pcr (Some digest) is = placed b persist _ is refl

define_fine : (b : Bool) (persist : Persist) (params : List ℕ) → b ≡ true → FineKept b persist (when_read (definition_of params) (defined persist))
define_fine b persist params is =
    reading (FineKept b persist) (definition_of params) (defined persist) (λ code. kept_fails b persist code) (λ given.
    let new = record persist { nv = persist.nv ++ record { public = given.1; auth = given.0; bytes = replicate given.1.size 0 } ∷ [] } in
    let room = if nat_le NV_INDEXES (length persist.nv) then Err RC_NV_SPACE else Ok new in
    cond_both (is_some (index_in given.1.index persist.nv)) (Err RC_NV_DEFINED) room (FineKept b persist) (λ there. kept_fails b persist _) (λ free.
    cond_both (nat_le NV_INDEXES (length persist.nv)) (Err RC_NV_SPACE) (Ok new) (FineKept b persist) (λ full. kept_fails b persist _)
    (λ room. kept_done b persist _ (placed b persist _ is refl))))

undefine_fine : (b : Bool) (persist : Persist) (index : ℕ) (params : List ℕ) → b ≡ true → FineKept b persist (nv_undefine_row persist index params)
undefine_fine b persist index params is =
    let new = record persist { nv = without_index index persist.nv } in
    tested (FineKept b persist) (undefined_index persist.nv 2 (index ∷ [])) (when_read (nothing_of params) (λ (none : ℕ). Ok new)) (λ code. kept_fails b persist code)
    (reading (FineKept b persist) (nothing_of params) (λ (none : ℕ). Ok new) (λ code. kept_fails b persist code)
    (λ none. kept_done b persist new (placed b persist new is refl)))

write_fine : (b : Bool) (persist : Persist) (by index : ℕ) (params : List ℕ) → b ≡ true → FineKept b persist (nv_write_row persist by index params)
write_fine b persist by index params is =
    let row = λ (given : List ℕ × ℕ). when_there (index_in index persist.nv) (λ item. keeping_index persist index (written by given item)) in
    tested (FineKept b persist) (undefined_index persist.nv 1 (by ∷ index ∷ [])) (when_read (writing_of params) row) (λ code. kept_fails b persist code)
    (reading (FineKept b persist) (writing_of params) row (λ code. kept_fails b persist code)
    (λ given. there (FineKept b persist) (index_in index persist.nv) (λ item. keeping_index persist index (written by given item)) (λ code. kept_fails b persist code)
    (λ item. index_kept b persist index (written by given item) is)))

increment_fine : (b : Bool) (persist : Persist) (by index : ℕ) (params : List ℕ) → b ≡ true → FineKept b persist (nv_increment_row persist by index params)
increment_fine b persist by index params is =
    let row = λ (none : ℕ). when_there (index_in index persist.nv) (λ item. keeping_index persist index (incremented by item)) in
    tested (FineKept b persist) (undefined_index persist.nv 1 (by ∷ index ∷ [])) (when_read (nothing_of params) row) (λ code. kept_fails b persist code)
    (reading (FineKept b persist) (nothing_of params) row (λ code. kept_fails b persist code)
    (λ none. there (FineKept b persist) (index_in index persist.nv) (λ item. keeping_index persist index (incremented by item)) (λ code. kept_fails b persist code)
    (λ item. index_kept b persist index (incremented by item) is)))

extend_row_fine : (b : Bool) (persist : Persist) (pcr : ℕ) (params : List ℕ) → b ≡ true → FineKept b persist (pcr_extend_row persist pcr params)
extend_row_fine b persist pcr params is =
    reading (FineKept b persist) (in_parameter 1 (digest_of params)) (λ digest. Ok (extended persist pcr digest)) (λ code. kept_fails b persist code)
    (λ digest. kept_done b persist (extended persist pcr digest) (extend_fine b persist pcr digest is))

nv_fine : (code : ℕ) (b : Bool) (persist : Persist) (first second : ℕ) (params : List ℕ) → changes_kept code ≡ b → FineRow b persist (nv_row code persist first second params)
nv_fine code b persist first second params is =
    let P = FineRow b persist in
    cond_both (code == CC_NV_DEFINE_SPACE) _ _ P
    (λ this. silent_row b persist _ (define_fine b persist params (sym (of_code code CC_NV_DEFINE_SPACE b is this)))) (λ other.
    cond_both (code == CC_NV_UNDEFINE_SPACE) _ _ P
    (λ this. silent_row b persist _ (undefine_fine b persist second params (sym (of_code code CC_NV_UNDEFINE_SPACE b is this)))) (λ other.
    cond_both (code == CC_NV_READ_PUBLIC) _ _ P (λ this. kept_row b persist (nv_read_public_row persist first params)) (λ other.
    cond_both (code == CC_NV_WRITE) _ _ P
    (λ this. silent_row b persist _ (write_fine b persist first second params (sym (of_code code CC_NV_WRITE b is this)))) (λ other.
    cond_both (code == CC_NV_INCREMENT) _ _ P
    (λ this. silent_row b persist _ (increment_fine b persist first second params (sym (of_code code CC_NV_INCREMENT b is this)))) (λ other.
    cond_both (code == CC_NV_READ) _ _ P (λ this. kept_row b persist (nv_read_row persist first second params)) (λ other. row_fails b persist RC_COMMAND_CODE))))))

row_fine : (code : ℕ) (b : Bool) (persist : Persist) (first second : ℕ) (params : List ℕ) → changes_kept code ≡ b → FineRow b persist (row_with code persist first second params)
row_fine code b persist first second params is =
    let P = FineRow b persist in
    cond_both (code == CC_SELF_TEST) _ _ P (λ this. kept_row b persist (self_test_row params)) (λ other.
    cond_both (code == CC_GET_RANDOM) _ _ P (λ this. random_fine b persist params (sym (of_code code CC_GET_RANDOM b is this))) (λ other.
    cond_both (code == CC_PCR_READ) _ _ P (λ this. kept_row b persist (pcr_read_row persist params)) (λ other.
    cond_both (code == CC_PCR_EXTEND) _ _ P
    (λ this. silent_row b persist _ (extend_row_fine b persist first params (sym (of_code code CC_PCR_EXTEND b is this)))) (λ other.
    nv_fine code b persist first second params is))))

item_fine : (code : ℕ) (b : Bool) (persist : Persist) (item : Object) (params : List ℕ) → changes_kept code ≡ b → FineRow b persist (item_row code persist item params)
item_fine code b persist item params is =
    let P = FineRow b persist in
    cond_both (code == CC_CREATE) _ _ P (λ this. create_fine b persist item params (sym (of_code code CC_CREATE b is this))) (λ other.
    cond_both (code == CC_UNSEAL) _ _ P (λ this. kept_row b persist (unseal_row item params)) (λ other.
    cond_both (code == CC_HMAC) _ _ P (λ this. kept_row b persist (hmac_row item params)) (λ other.
    cond_both (code == CC_READ_PUBLIC) _ _ P (λ this. kept_row b persist (read_public_row item params)) (λ other. row_fails b persist RC_COMMAND_CODE))))

by_fine : (code : ℕ) (b : Bool) (persist : Persist) (operands : List Operand) (policy : Option Session) (item : Option Object) (params : List ℕ) → changes_kept code ≡ b
    → FineOutcome b persist (row_by code persist operands policy item params)
by_fine code b persist operands (Some s) item params is = policy_changed b persist (policy_row code persist s (operand_name persist (operand_at operands 0)) params)
by_fine code b persist operands None (Some item) params is =
    cond_both (code == CC_LOAD) _ _ (FineOutcome b persist) (λ this. object_made b persist (load_row item params)) (λ other. nothing_made b persist _ (item_fine code b persist item params is))
by_fine code b persist operands None None params is =
    cond_both (code == CC_CREATE_PRIMARY) _ _ (FineOutcome b persist) (λ this. object_made b persist (create_primary_row persist params)) (λ other.
    cond_both (code == CC_START_AUTH_SESSION) _ _ (FineOutcome b persist) (λ this. starting_fine b persist (start_check params) (sym (of_code code CC_START_AUTH_SESSION b is this))) (λ other.
    nothing_made b persist _ (row_fine code b persist (number_of (operand_at operands 0)) (number_of (operand_at operands 1)) params is)))

effect_fine : (code : ℕ) (persist : Persist) (operands : List Operand) (params : List ℕ) → FineOutcome (changes_kept code) persist (effect_row code persist operands params)
effect_fine code persist operands params =
    by_fine code (changes_kept code) persist operands (policy_session_in operands) (object_in (operand_at operands 0)) params refl

pub place_left : (code : ℕ) (persist : Persist) (operands : List Operand) (params : List ℕ) (done : RowOutcome) → changes_kept code ≡ true
    → effect_row code persist operands params ≡ Ok done → done.persist.place ≡ persist.place
place_left code persist operands params done is row =
    let fine : FineOutcome (changes_kept code) persist (Ok done) = subst (FineOutcome (changes_kept code) persist) row (effect_fine code persist operands params) in
    subst (λ (b : Bool). Fine b persist done.persist) is (outcome_was (changes_kept code) persist done fine)

pub rest_left : (code : ℕ) (persist : Persist) (operands : List Operand) (params : List ℕ) (done : RowOutcome) → changes_kept code ≡ false
    → effect_row code persist operands params ≡ Ok done → record done.persist { place = persist.place } ≡ persist
rest_left code persist operands params done is row =
    let fine : FineOutcome (changes_kept code) persist (Ok done) = subst (FineOutcome (changes_kept code) persist) row (effect_fine code persist operands params) in
    subst (λ (b : Bool). Fine b persist done.persist) is (outcome_was (changes_kept code) persist done fine)
