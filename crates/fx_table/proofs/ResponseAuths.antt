-- How a response is authorized, and rows that are tested before.
use Rattle.std.proofs.Common.{◌≡◌, ◌∙◌, ℕ, Bool, true, false, List, ◌++◌, drop, Ok, Err, refl, ap, sym, subst, inl, inr}
use Rattle.std.specs.Prelude.{Result, Option, Some, None, ◌==◌, option_map, MatchResult}
use Rattle.std.proofs.lemmas.Bool.{eqb-true}
use Rattle.tab_spec.specs.declared.Auth.{Auth}
use Rattle.tab_spec.specs.declared.Auths.{Auths}
use Rattle.tab_spec.specs.declared.Shape.{Shape}
use Rattle.tab_spec.specs.declared.TheConstants.{CC_POLICY_SECRET, CC_POLICY_AUTH_VALUE, CC_POLICY_PASSWORD, CC_POLICY_COMMAND_CODE, CC_POLICY_OR, CC_POLICY_PCR, CC_POLICY_RESTART, CC_POLICY_GET_DIGEST, CC_LOAD, CC_CREATE, CC_UNSEAL, CC_HMAC, CC_READ_PUBLIC, RC_COMMAND_CODE, ST_SESSIONS}
use Rattle.tab_spec.specs.Object.{Object}
use Rattle.tab_spec.specs.Persist.{Persist}
use Rattle.tab_spec.specs.Session as session
use Rattle.effect_spec.specs.Authorization.{Entity}
use Rattle.effect_spec.specs.Operands.{Operand, Operands, number_of, object_in, operand_at, policy_session_in, session_left}
use Rattle.effect_spec.specs.Rows.{IsRefusedAs}
use Rattle.effect_spec.specs.SessionAuths.{ResponseAuth, operand_name, response_auth}
use Rattle.effect_spec.specs.Effect.{RowOutcome, effect_failed, effect_in, effect_row, making_nothing, object_row, other_row, policy_row, silent}
use Rattle.fx_sessions.specs.Views.{AuthorizesResponse}
use Rattle.fx_table.specs.Kept.{can_draw_nonce, changes_kept}
use Rattle.fx_table.specs.Views.{AuthorizedOutcome, FaultOrFailure, RowFails}
use Rattle.fx_table.specs.declared.operands.RowOutcome.{RowOutcome as CallOutcome}
use Rattle.fx_table.proofs.Ends.{can_authorize, cannot_authorize, response_auth_fails, row_fails}
use Rattle.fx_table.proofs.Keeping.{place_left, rest_left}

-- operands with a session of the authorization, and what is left of it
abbrev pub with_named : List Operand → ℕ → session.Session → Operands
with_named handles handle s = record { handles = handles; session = Some (handle, s) }

abbrev pub with_left : List Operand → ℕ → session.Session → Option session.Session → Operands
with_left handles handle s left = record { handles = handles; session = session_left (Some (handle, s)) left }

abbrev with_answer : List Operand → ℕ → Option session.Session → Operands
with_answer handles handle left = record { handles = handles; session = option_map (λ (s : session.Session). (handle, s)) left }

-- the authorization of a response, within the operands: by a session, and by a password
some_authorizes : {A : Type 0} (result : Result A ℕ) (persist persist_new : Persist) (e : Entity) (s s_new : session.Session) (auth : Auth) (bytes hash reply reply_new : List ℕ) (handle : ℕ) (handles : List Operand)
    → AuthorizesResponse result persist persist_new e (Some s) (Some s_new) auth bytes hash reply reply_new
    → MatchResult result
    (λ done. (answer : ResponseAuth) × (response_auth persist e (Some s) auth bytes hash ≡ Ok answer) × (persist_new ≡ answer.persist)
    × (with_named handles handle s_new ≡ with_left handles handle s answer.session)
    × (reply_new ≡ reply ++ answer.answer))
    (λ code. (response_auth persist e (Some s) auth bytes hash ≡ Err code) × (persist_new ≡ persist)
    × (with_named handles handle s_new ≡ with_named handles handle s))
some_authorizes (Ok done) persist persist_new e s s_new auth bytes hash reply reply_new handle handles (answer, is, put) =
    (record { persist = persist_new; session = Some s_new; answer = answer }, is, refl, refl, put)
some_authorizes (Err code) persist persist_new e s s_new auth bytes hash reply reply_new handle handles (is, kept, same, put) =
    (is, kept, ap (with_answer handles handle) same)

pub authorizes_as : {A : Type 0} (result : Result A ℕ) (persist persist_new : Persist) (e : Entity) (after : Option session.Session) (s s_new : session.Session) (auth : Auth) (bytes hash reply reply_new : List ℕ) (handle : ℕ) (handles : List Operand)
    → after ≡ Some s_new
    → AuthorizesResponse result persist persist_new e (Some s) after auth bytes hash reply reply_new
    → MatchResult result
    (λ done. (answer : ResponseAuth) × (response_auth persist e (Some s) auth bytes hash ≡ Ok answer) × (persist_new ≡ answer.persist)
    × (with_named handles handle s_new ≡ with_left handles handle s answer.session)
    × (reply_new ≡ reply ++ answer.answer))
    (λ code. (response_auth persist e (Some s) auth bytes hash ≡ Err code) × (persist_new ≡ persist)
    × (with_named handles handle s_new ≡ with_named handles handle s))
authorizes_as result persist persist_new e after s s_new auth bytes hash reply reply_new handle handles is authorizes =
    some_authorizes result persist persist_new e s s_new auth bytes hash reply reply_new handle handles
    (subst (λ (left : Option session.Session). AuthorizesResponse result persist persist_new e (Some s) left auth bytes hash reply reply_new) is authorizes)

abbrev pub unnamed : List Operand → Operands
unnamed handles = record { handles = handles; session = None }

pub password_authorizes : {A : Type 0} (result : Result A ℕ) (persist persist_new : Persist) (e : Entity) (after : Option session.Session) (auth : Auth) (bytes hash reply reply_new : List ℕ) (handles : List Operand)
    → AuthorizesResponse result persist persist_new e None after auth bytes hash reply reply_new
    → MatchResult result
    (λ done. (answer : ResponseAuth) × (response_auth persist e None auth bytes hash ≡ Ok answer) × (persist_new ≡ answer.persist)
    × (unnamed handles ≡ unnamed handles)
    × (reply_new ≡ reply ++ answer.answer))
    (λ code. (response_auth persist e None auth bytes hash ≡ Err code) × (persist_new ≡ persist)
    × (unnamed handles ≡ unnamed handles))
password_authorizes (Ok done) persist persist_new e after auth bytes hash reply reply_new handles (answer, is, put) =
    (record { persist = persist_new; session = after; answer = answer }, is, refl, refl, put)
password_authorizes (Err code) persist persist_new e after auth bytes hash reply reply_new handles (is, kept, same, put) =
    (is, kept, refl)

-- ---- rows that are tested before

refused_silent : {A : Type 0} (result : Result A ℕ) (row : Result Persist ℕ) → IsRefusedAs result row → IsRefusedAs result (making_nothing (silent row))
refused_silent (Ok a) (Ok kept) is = refl
refused_silent (Ok a) (Err code) is = cc
refused_silent (Err code) row is = ap (λ (r : Result Persist ℕ). making_nothing (silent r)) is

pub tested_row : {A : Type 0} (code known : ℕ) (persist : Persist) (operands : List Operand) (params : List ℕ) (result : Result A ℕ) (row : Result Persist ℕ) → code ≡ known
    → policy_session_in operands ≡ None → object_in (operand_at operands 0) ≡ None
    → other_row known persist (number_of (operand_at operands 0)) (number_of (operand_at operands 1)) params ≡ making_nothing (silent row)
    → IsRefusedAs result row → IsRefusedAs result (effect_row code persist operands params)
tested_row code known persist operands params result row is no_session no_object row_is refused =
    let whole : effect_row code persist operands params ≡ making_nothing (silent row) = rw (is, no_session, no_object) row_is in
    subst (IsRefusedAs result) (sym whole) (refused_silent result row refused)

differs_by : (test : Bool) (code known : ℕ) → (code == known) ≡ test → changes_kept code ≡ true → changes_kept known ≡ false → (code == known) ≡ false
differs_by false code known is kept other = is
differs_by true code known is kept other =
    let same : changes_kept known ≡ true = subst (λ (c : ℕ). changes_kept c ≡ true) (eqb-true code known is) kept in absurd cc

differs : (code known : ℕ) → changes_kept code ≡ true → changes_kept known ≡ false → (code == known) ≡ false
differs code known kept other = differs_by (code == known) code known refl kept other

no_policy_row : (code : ℕ) (persist : Persist) (s : session.Session) (name params : List ℕ) → changes_kept code ≡ true → policy_row code persist s name params ≡ Err RC_COMMAND_CODE
no_policy_row code persist s name params kept =
    rw (
      differs code CC_POLICY_SECRET kept refl,
      differs code CC_POLICY_AUTH_VALUE kept refl,
      differs code CC_POLICY_PASSWORD kept refl,
      differs code CC_POLICY_COMMAND_CODE kept refl,
      differs code CC_POLICY_OR kept refl,
      differs code CC_POLICY_PCR kept refl,
      differs code CC_POLICY_RESTART kept refl,
      differs code CC_POLICY_GET_DIGEST kept refl,
    ) refl

pub session_refused : (code : ℕ) (persist : Persist) (operands : List Operand) (params : List ℕ) (s : session.Session) → changes_kept code ≡ true → policy_session_in operands ≡ Some s
    → effect_row code persist operands params ≡ Err RC_COMMAND_CODE
session_refused code persist operands params s kept is =
    rw (is, no_policy_row code persist s (operand_name persist (operand_at operands 0)) params kept) refl

no_object_row : (code : ℕ) (persist : Persist) (item : Object) (params : List ℕ) → changes_kept code ≡ true → object_row code persist item params ≡ Err RC_COMMAND_CODE
no_object_row code persist item params kept =
    rw (differs code CC_LOAD kept refl, differs code CC_CREATE kept refl, differs code CC_UNSEAL kept refl, differs code CC_HMAC kept refl, differs code CC_READ_PUBLIC kept refl) refl

pub object_refused : (code : ℕ) (persist : Persist) (operands : List Operand) (params : List ℕ) (o : Object) → changes_kept code ≡ true → policy_session_in operands ≡ None
    → object_in (operand_at operands 0) ≡ Some o → effect_row code persist operands params ≡ Err RC_COMMAND_CODE
object_refused code persist operands params o kept none is = rw (none, is) (no_object_row code persist o params kept)

-- ---- where the nonce can't be drawn

false_true : false ≡ true → ⊥
false_true e = cc

fault_by : (persist : Persist) (named : Operands) (shape : Shape) (auths : Auths) (bytes : List ℕ) (row : Result RowOutcome ℕ) (code : ℕ)
    → effect_row shape.row.code persist named.handles (drop auths.params bytes) ≡ row → shape.tag ≡ ST_SESSIONS → changes_kept shape.row.code ≡ true
    → can_draw_nonce persist named ≡ false → FaultOrFailure row code → effect_in persist named shape auths bytes row ≡ effect_failed persist named code
fault_by persist named shape auths bytes row code row_is tag kept none (inl is) = row_fails persist named shape auths bytes row code is
fault_by persist named shape auths bytes (Err other) code row_is tag kept none (inr is) = absurd (false_true is.0)
fault_by persist named shape auths bytes (Ok outcome) code row_is tag kept none (inr is) =
    response_auth_fails persist named shape auths bytes (Ok outcome) outcome code refl
    (cannot_authorize persist named shape auths bytes outcome tag (place_left shape.row.code persist named.handles (drop auths.params bytes) outcome kept row_is) none
    ∙ ap (λ (c : ℕ). Err c) (sym is.1))

pub fault_ends : (persist : Persist) (named : Operands) (shape : Shape) (auths : Auths) (bytes : List ℕ) (code : ℕ)
    → shape.tag ≡ ST_SESSIONS → changes_kept shape.row.code ≡ true → can_draw_nonce persist named ≡ false
    → FaultOrFailure (effect_row shape.row.code persist named.handles (drop auths.params bytes)) code
    → effect_in persist named shape auths bytes (effect_row shape.row.code persist named.handles (drop auths.params bytes)) ≡ effect_failed persist named code
fault_ends persist named shape auths bytes code tag kept none fault =
    fault_by persist named shape auths bytes (effect_row shape.row.code persist named.handles (drop auths.params bytes)) code refl tag kept none fault

-- where it can be drawn, the row is run, and only the row fails
pub kept_authorizes : (result : Result CallOutcome ℕ) (persist : Persist) (named : Operands) (shape : Shape) (auths : Auths) (bytes : List ℕ) (persist_new : Persist) (named_new : Operands) (reply : List ℕ)
    → shape.tag ≡ ST_SESSIONS → changes_kept shape.row.code ≡ true → can_draw_nonce persist named ≡ true
    → (let row = effect_row shape.row.code persist named.handles (drop auths.params bytes) in
    MatchResult result (λ done. AuthorizedOutcome persist named shape auths bytes row done persist_new named_new reply)
    (λ code. RowFails persist named shape auths bytes row code persist_new × (named_new ≡ named)))
    → (let row = effect_row shape.row.code persist named.handles (drop auths.params bytes) in
    MatchResult result (λ done. AuthorizedOutcome persist named shape auths bytes row done persist_new named_new reply)
    (λ code. (effect_in persist named shape auths bytes row ≡ effect_failed persist named code) × (persist_new ≡ persist) × (named_new ≡ named)))
kept_authorizes (Ok done) persist named shape auths bytes persist_new named_new reply tag kept some authorized = authorized
kept_authorizes (Err code) persist named shape auths bytes persist_new named_new reply tag kept some (inl fails, same) =
    (row_fails persist named shape auths bytes (effect_row shape.row.code persist named.handles (drop auths.params bytes)) code fails.0, fails.1, same)
kept_authorizes (Err code) persist named shape auths bytes persist_new named_new reply tag kept some (inr (outcome, row_is, fails, left), same) =
    absurd (can_authorize persist named shape auths bytes outcome code tag (place_left shape.row.code persist named.handles (drop auths.params bytes) outcome kept row_is)
    some fails)

-- another row is taken back
pub taken_back : (persist : Persist) (named : Operands) (shape : Shape) (auths : Auths) (bytes : List ℕ) (code : ℕ) (persist_new rewound : Persist) (place : ℕ)
    → changes_kept shape.row.code ≡ false → place ≡ persist.place → rewound ≡ record persist_new { place = place }
    → RowFails persist named shape auths bytes (effect_row shape.row.code persist named.handles (drop auths.params bytes)) code persist_new
    → (effect_in persist named shape auths bytes (effect_row shape.row.code persist named.handles (drop auths.params bytes)) ≡ effect_failed persist named code)
    × (rewound ≡ persist)
taken_back persist named shape auths bytes code persist_new rewound place other place_is is (inl fails) = (
  row_fails persist named shape auths bytes (effect_row shape.row.code persist named.handles (drop auths.params bytes)) code fails.0,
  is ∙ ap (λ (q : ℕ). record persist_new { place = q }) place_is ∙ ap (λ (p : Persist). record p { place = persist.place }) fails.1,
)
taken_back persist named shape auths bytes code persist_new rewound place other place_is is (inr (outcome, row_is, fails, left)) = (
  response_auth_fails persist named shape auths bytes (effect_row shape.row.code persist named.handles (drop auths.params bytes)) outcome code row_is fails,
  is ∙ ap (λ (q : ℕ). record persist_new { place = q }) place_is ∙ ap (λ (p : Persist). record p { place = persist.place }) left
      ∙ rest_left shape.row.code persist named.handles (drop auths.params bytes) outcome other row_is,
)
