use Rattle.std.proofs.lemmas.List.{take_rest}
use Rattle.client_machine.proofs.Having.{own_reply}
use Rattle.client_machine.proofs.replies.answer_alone.Goals as goal

pub returns-in-378-clause-reply : goal.returns-in-378-clause-reply
returns-in-378-clause-reply c = λ alone.
    own_reply c.tell_capability.result _ c.args.client c.args.table.now.items c.args.sessions.now c.args.admitted.now c.args.bytes.now _
    c.tell_capability.new.reply c.tell_capability.ensures.told alone c.in-378.is (take_rest c.args.bytes.now c.args.admitted.now.auths.params)
