use Rattle.std.proofs.Common.{◌≡◌, [], refl}
use Rattle.history_spec.specs.Examples.{eight_reply, four_reply, memory_reply}
use Rattle.history_spec.proofs.examples.a_client_is_told_its_entry.Goals as goal

pub returns-clause-entry : goal.returns-clause-entry
returns-clause-entry c = record { command_is = refl; reply_is = refl }

pub returns-clause-other : goal.returns-clause-other
returns-clause-other c = λ told. let same : four_reply ≡ memory_reply = told.reply_is in absurd (cc same)

pub returns-clause-in_order : goal.returns-clause-in_order
returns-clause-in_order c =
    (eight_reply, four_reply, refl, record { command_is = refl; reply_is = refl }, (four_reply, [], refl, record { command_is = refl; reply_is = refl }, refl))
