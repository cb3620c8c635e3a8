use Rattle.std.proofs.Common.{◌≡◌, ℕ, Bool, true, ap, sym, ◌∙◌}
use Rattle.std.specs.Prelude.{not, ◌==◌}
use Rattle.tab_spec.specs.Frame.{reported_code}
use Rattle.device_spec.specs.Answers.{takes}
use Rattle.client_machine.specs.Moves.{loads_kept}
use Rattle.client_machine.proofs.Sending.{kept_or_refused}
use Rattle.client_machine.proofs.machine.refuses_kept.Goals as goal

pub returns-else-reported_code-ne-RC_SUCCESS : goal.returns-else-reported_code-ne-RC_SUCCESS
returns-else-reported_code-ne-RC_SUCCESS c =
    let command = c.args.command.now in
    let reply = c.args.reply.now in
    let kept = loads_kept c.args.objects.now.items command in
    let zero : (c.reported_code.result == 0) ≡ true = ap (λ (code : ℕ). code == 0) c.if-reported_code-ne-RC_SUCCESS.false in
    let read : (reported_code reply == 0) ≡ true = ap (λ (code : ℕ). code == 0) (sym c.reported_code.ensures ∙ c.if-reported_code-ne-RC_SUCCESS.false) in
    λ contexts is_taken. ap (λ (succeeds : Bool). takes contexts (not succeeds) is_taken command reply) zero ∙ kept_or_refused contexts kept is_taken command reply true read
