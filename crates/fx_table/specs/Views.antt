-- Which operands a struct is, what was created, and a word for what a row leaves.
use Rattle.std.specs.Prelude.{◌≡◌, ◌⊎◌, ℕ, ◌==◌, ◌||◌, Bool, true, List, [], ◌∷◌, ◌++◌, drop, option_map, Result, Ok, Err, is_ok, MatchResult}
use Rattle.effect_spec.specs.Operands as operands
use Rattle.effect_spec.specs.Effect.{Effect, RowOutcome, effect_failed, effect_in, handle_area, making_nothing, response_auth_of, response_body, row_with}
use Rattle.tab_spec.specs.Persist.{Persist}
use Rattle.tab_values.specs.Views as values
use Rattle.fx_table.specs.declared.operands.Operand.{Operand}
use Rattle.fx_table.specs.declared.operands.Operand.TheVariants.{Absent, Plain, Object, Session}
use Rattle.fx_table.specs.declared.operands.Operands.{Operands}
use Rattle.fx_table.specs.declared.operands.Created.{Created}
use Rattle.fx_table.specs.declared.operands.Created.TheVariants as created
use Rattle.fx_table.specs.declared.operands.CommandOutcome.{CommandOutcome}
use Rattle.fx_table.specs.declared.operands.RowOutcome.{RowOutcome as CallOutcome}
use Rattle.effect_spec.specs.SessionAuths.{ResponseAuth}
use Rattle.tab_spec.specs.declared.Auths.{Auths}
use Rattle.tab_spec.specs.declared.Kind.{Kind}
use Rattle.tab_spec.specs.declared.Shape as shapes
use Rattle.tab_spec.specs.declared.TheConstants.{CC_CREATE_PRIMARY, CC_START_AUTH_SESSION, RC_FAILURE, RC_SUCCESS}
use Rattle.tab_spec.specs.Reply.{response}

abbrev pub operand_of : Operand → operands.Operand
operand_of Absent = operands.absent
operand_of (Plain handle) = operands.plain handle
operand_of (Object o) = operands.an_object (values.object_of o.now)
operand_of (Session handle s) = operands.a_session handle (values.session_of s)

abbrev pub operands_of : Operands → operands.Operands
operands_of o = record { handles = operand_of o.first ∷ operand_of o.second ∷ []; session = option_map (λ named. (named.0, values.session_of named.1)) o.session }

abbrev pub created_of : Created → operands.Created
created_of created.Nothing = operands.nothing
created_of (created.Object o) = operands.new_object (values.object_of o)
created_of (created.Session s) = operands.new_session (values.session_of s)

abbrev pub command_outcome_of : CommandOutcome → operands.CommandOutcome
command_outcome_of m = record { created = created_of m.created; auth_ended = m.auth_ended }

-- what a row leaves, by what its call leaves
abbrev pub left_by : Persist → CallOutcome → List ℕ → RowOutcome
left_by persist done params = record {
  persist = persist;
  created = created_of done.created;
  policy = option_map values.session_of done.policy;
  params = params;
}

-- leaves what the row leaves and appends its parameters; or where the row is an error, that is the error, and nothing is
-- changed and nothing appended
abbrev pub LeavesOutcome : Result CallOutcome ℕ → Result RowOutcome ℕ → Persist → Persist → List ℕ → List ℕ → Type 0
LeavesOutcome result row persist persist_new reply reply_new = MatchResult result
    (λ done. (params : List ℕ) × (row ≡ Ok (left_by persist_new done params)) × (reply_new ≡ reply ++ params))
    (λ code. (row ≡ Err code) × (persist_new ≡ persist) × (reply_new ≡ reply))

-- what an effect leaves, by what its call leaves
abbrev pub effect_left : Persist → Operands → CommandOutcome → List ℕ → Effect
effect_left persist o outcome reply = record { persist = persist; operands = operands_of o; outcome = command_outcome_of outcome; reply = reply }

-- the response so far, whose size isn't set yet
abbrev pub begun_response : shapes.Shape → List ℕ → List ℕ
begun_response shape body = response shape.tag RC_SUCCESS [] ++ handle_area shape.row.response_handle ++ body

-- what a row and the authorization of its response left, beside the response so far
pub record AuthorizedOutcome (persist : Persist) (named : operands.Operands) (shape : shapes.Shape) (auths : Auths) (bytes : List ℕ)
    (row : Result RowOutcome ℕ) (done : CallOutcome) (persist_new : Persist) (named_new : operands.Operands) (reply : List ℕ)
    : Type 0 where
  pub outcome : RowOutcome
  pub row_is : row ≡ Ok outcome
  pub created_is : outcome.created ≡ created_of done.created
  pub policy_is : outcome.policy ≡ option_map values.session_of done.policy
  pub authorized : ResponseAuth
  pub authorized_is : response_auth_of persist named shape auths bytes outcome ≡ Ok authorized
  pub persist_is : persist_new ≡ authorized.persist
  pub operands_is : named_new ≡ record named { session = operands.session_left named.session authorized.session }
  pub reply_is : reply ≡ begun_response shape (response_body shape.tag outcome.params authorized.answer)

-- how a row, or the authorization of its response, failed with a code, and what is kept then
abbrev pub RowFails : Persist → operands.Operands → shapes.Shape → Auths → List ℕ → Result RowOutcome ℕ → ℕ → Persist → Type 0
RowFails persist named shape auths bytes row code persist_new =
    ((row ≡ Err code) × (persist_new ≡ persist))
    ⊎ ((outcome : RowOutcome) × (row ≡ Ok outcome) × (response_auth_of persist named shape auths bytes outcome ≡ Err code)
    × (persist_new ≡ outcome.persist))

-- the code of a row that isn't run: its fault, or FAILURE where it has none
abbrev pub FaultOrFailure : Result RowOutcome ℕ → ℕ → Type 0
FaultOrFailure row code = (row ≡ Err code) ⊎ ((is_ok row ≡ true) × (code ≡ RC_FAILURE))

-- leaves what the effect leaves, and its response but for its size; or where the effect fails, that is the error, and
-- nothing is changed
abbrev pub LeavesEffect : Result CommandOutcome ℕ → shapes.Shape → Effect → Persist → Persist → operands.Operands → operands.Operands
    → List ℕ → Type 0
LeavesEffect result shape effect persist persist_new named named_new reply_new = MatchResult result
    (λ outcome. (body : List ℕ) × (reply_new ≡ response shape.tag RC_SUCCESS [] ++ body)
    × (effect ≡ record {
      persist = persist_new;
      operands = named_new;
      outcome = command_outcome_of outcome;
      reply = response shape.tag RC_SUCCESS body;
    }))
    (λ code. (effect ≡ effect_failed persist named code) × (persist_new ≡ persist) × (named_new ≡ named))

-- what an effect leaves that changes none of its operands and creates nothing
abbrev pub effect_alone : Persist → operands.Operands → List ℕ → Effect
effect_alone persist named reply = record { persist = persist; operands = named; outcome = operands.nothing_created; reply = reply }

-- the same as `LeavesEffect`, of such an effect
abbrev pub LeavesEffectAlone : {A : Type 0} → Result A ℕ → shapes.Shape → Effect → Persist → Persist → operands.Operands → List ℕ → Type 0
LeavesEffectAlone result shape effect persist persist_new named reply_new = MatchResult result
    (λ done. (body : List ℕ) × (reply_new ≡ response shape.tag RC_SUCCESS [] ++ body)
    × (effect ≡ effect_alone persist_new named (response shape.tag RC_SUCCESS body)))
    (λ code. (effect ≡ effect_failed persist named code) × (persist_new ≡ persist))

-- the effect of a command that names no object and no session, by the row of what all clients share
abbrev pub shared_row : Persist → shapes.Shape → Auths → List ℕ → ℕ → ℕ → Effect
shared_row persist shape auths bytes first second =
    effect_in persist (operands.plain_operands shape) shape auths bytes
    (making_nothing (row_with shape.row.code persist first second (drop auths.params bytes)))

-- whether the row of a command creates an object or a session of no other
abbrev pub creates : ℕ → Bool
creates code = code == CC_CREATE_PRIMARY || code == CC_START_AUTH_SESSION

-- the handle of this kind, 0 where there is none
abbrev pub plain_handle : Kind → ℕ → ℕ
plain_handle kind handle = operands.number_of (operands.plain_operand kind handle)
