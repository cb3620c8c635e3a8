use Rattle.std.proofs.Common.{◌∙◌}
use Rattle.effect_spec.specs.Capabilities.{is_of_device}
use Rattle.client_machine.proofs.Having.{answered_had, answered_own, refused_had, refused_own}
use Rattle.client_machine.proofs.replies.tell_capability.Goals as goal

pub returns-in-Answered-clause-told : goal.returns-in-Answered-clause-told
returns-in-Answered-clause-told c =
    let seen = c.args.seen.now in (
      answered_own c.client_capability.result (is_of_device c.args.params.now) c.client_capability.ensures.device c.in-Answered.is,
      answered_had seen.client seen.table.now.items seen.sessions.now c.from.result c.most.result c.args.params.now c.start_response.new.reply
          c.client_capability.new.reply c.end_response.new.reply seen.short (c.from.ensures ∙ c.active.ensures.count) c.most.ensures c.start_response.ensures
          c.in-Answered.ensures.told c.end_response.ensures,
    )

pub returns-in-Refused-clause-told : goal.returns-in-Refused-clause-told
returns-in-Refused-clause-told c =
    let seen = c.args.seen.now in (
      refused_own c.client_capability.result (is_of_device c.args.params.now) c.in-Refused.code c.client_capability.ensures.device c.in-Refused.is,
      refused_had seen.client seen.table.now.items seen.sessions.now c.from.result c.most.result c.in-Refused.code c.args.params.now
          c.error_reply.new.reply seen.short (c.from.ensures ∙ c.active.ensures.count) c.most.ensures c.in-Refused.ensures.told.0 c.error_reply.ensures,
    )
