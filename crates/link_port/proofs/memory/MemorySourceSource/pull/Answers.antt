use Rattle.std.proofs.Common.{◌≡◌, ◌<◌, ◌≤◌, take, drop, length, arith}
use Rattle.std.proofs.lemmas.Grind.{common_steps}
use Rattle.link_port.proofs.Fronts.{copy_takes_next}
use Rattle.link_port.proofs.memory.MemorySourceSource.pull.Goals as goal

pub returns-clause-pulled : goal.returns-clause-pulled
returns-clause-pulled c =
    let next = drop c.self.inside.given c.self.inside.bytes.items in
    let left : c.args.self.now.left ≡ next = cc in
    let copied : c.copy_from_slice.new.self ≡ take c.min-count.result next = grind (arith, common_steps) in
    let fits : c.min-count.result ≤ length next = grind (arith, common_steps) in
    let none : 0 < length c.args.into.now → c.min-count.result ≡ 0 → length next ≡ 0 = grind (arith, common_steps) in
    rw (left, copied) (copy_takes_next _ _ _ _ fits none)
