use Rattle.std.proofs.Common.{◌≡◌, ◌∙◌, ℕ, List, ap, drop, refl}
use Rattle.std.proofs.lemmas.List.{take_rest}
use Rattle.effect_spec.specs.SessionAuths.{rp_hash}
use Rattle.fx_sessions.specs.Views.{entity_of}
use Rattle.tab_values.specs.Views.{session_of}
use Rattle.fx_table.specs.Views.{operands_of}
use Rattle.fx_table.proofs.ResponseAuths.{authorizes_as, password_authorizes}
use Rattle.fx_table.proofs.response_auth.authorize_response.Goals as goal

pub returns-in-Some : goal.returns-in-Some
returns-in-Some c =
    let hashed : c.rp_hash-hash.result ≡ rp_hash c.args.code (drop c.args.start c.args.reply.now) =
    c.rp_hash-hash.ensures ∙ ap (rp_hash c.args.code) (take_rest c.as_slice.result.now c.args.start)
    ∙ ap (λ (bytes : List ℕ). rp_hash c.args.code (drop c.args.start bytes)) c.as_slice.ensures.value in
    rw (c.in-Some.is, ← hashed) (
    authorizes_as c.put_response_auth.result c.args.persist.now c.put_response_auth.new.p (entity_of c.args.entity.now) _
    (session_of c.in-Some.session) (session_of c.put_response_auth.new.session.0)
    c.args.auth.now c.args.bytes.now c.rp_hash-hash.result c.args.reply.now c.put_response_auth.new.reply c.in-Some.field-0-0 (operands_of c.args.ops.now).handles
    refl c.put_response_auth.ensures.authorizes)

pub returns-in-None : goal.returns-in-None
returns-in-None c = rw c.in-None.is (
    password_authorizes c.put_response_auth-in-None.result c.args.persist.now c.put_response_auth-in-None.new.p (entity_of c.args.entity.now) _
    c.args.auth.now c.args.bytes.now (rp_hash c.args.code (drop c.args.start c.args.reply.now)) c.args.reply.now c.put_response_auth-in-None.new.reply (operands_of c.args.ops.now).handles
    c.put_response_auth-in-None.ensures.authorizes)
