use Rattle.std.proofs.Common.{◌≡◌, ◌∙◌, ◌-◌, ℕ, List, length, take, drop, refl, ap}
use Rattle.std.specs.Result.{is_err}
use Rattle.tab_laws.proofs.Outcomes.{from_ok}
use Rattle.effect_spec.specs.Contexts.{session_context}
use Rattle.tab_values.specs.Views.{session_of}
use Rattle.plain_machine.proofs.Handing.{context_cut, kept_by}
use Rattle.plain_machine.proofs.contexts.put_context.Goals as goal

pub returns-clause-context : goal.returns-clause-context
returns-clause-context c =
    let s = session_of c.args.session.now in
    let whole = c.seal_session.new.out in
    let context : List ℕ = session_context c.new-keys.result c.args.handle c.args.sequence s in
    let behind : List ℕ → List ℕ = λ bytes. take (length bytes - 10) (drop 10 bytes) in
    let kept : c.unwrap-context.result ≡ behind c.as_slice.result.now = kept_by c.of.result _ _ _ _ c.unwrap-context.ensures c.of.ensures in
    context_cut c.start_response.new.reply context whole (behind whole) c.unwrap-context.result c.start_response.ensures
    (from_ok c.seal_session.result _ c.seal_session.ensures.ok (ap is_err c.unwrap.ensures)) refl
    (kept ∙ ap behind c.as_slice.ensures.value)
    ∙ ap (λ (seed : List ℕ). session_context seed c.args.handle c.args.sequence s) (c.new-keys.ensures ∙ c.seed.ensures)
