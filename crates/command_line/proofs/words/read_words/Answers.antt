use Rattle.std.proofs.Common.{map}
use Rattle.std.specs.String.{string_bytes}
use Rattle.command_line.proofs.WordLimits.{plan_keeps}
use Rattle.command_line.proofs.words.read_words.Goals as goal

pub returns-in-Some-clause-limit : goal.returns-in-Some-clause-limit
returns-in-Some-clause-limit c = (plan_keeps (map string_bytes c.args.words.now) c.in-Some.plan c.in-Some.ensures).within.limit

pub returns-in-Some-clause-audit : goal.returns-in-Some-clause-audit
returns-in-Some-clause-audit c = (plan_keeps (map string_bytes c.args.words.now) c.in-Some.plan c.in-Some.ensures).keeps

pub returns-in-Some-clause-lines : goal.returns-in-Some-clause-lines
returns-in-Some-clause-lines c = (plan_keeps (map string_bytes c.args.words.now) c.in-Some.plan c.in-Some.ensures).within.lines

pub returns-in-Some-clause-connections : goal.returns-in-Some-clause-connections
returns-in-Some-clause-connections c = (plan_keeps (map string_bytes c.args.words.now) c.in-Some.plan c.in-Some.ensures).within.connections

pub returns-in-Some-clause-socket : goal.returns-in-Some-clause-socket
returns-in-Some-clause-socket c = (plan_keeps (map string_bytes c.args.words.now) c.in-Some.plan c.in-Some.ensures).within.socket

pub returns-in-Some-clause-device : goal.returns-in-Some-clause-device
returns-in-Some-clause-device c = (plan_keeps (map string_bytes c.args.words.now) c.in-Some.plan c.in-Some.ensures).within.device
