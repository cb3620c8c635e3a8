use Rattle.std.proofs.Common.{◌+◌, ◌*◌}
use Rattle.link_pool.proofs.servers.+fn-serve_as_needed-join+arg2+serve_as_needed.Given as goal

abbrev pub decreases-join+arg2 : goal.decreases-join+arg2
decreases-join+arg2 g l = 2 * l.rest + 1

abbrev pub decreases-serve_as_needed : goal.decreases-serve_as_needed
decreases-serve_as_needed g l = 2 * l.more
