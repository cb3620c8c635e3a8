use Rattle.std.proofs.Common.{◌+◌, ◌*◌}
use Rattle.accept_loop.proofs.serving.+fn-serve_coming-join+arg3+serve_coming.Given as goal

abbrev pub decreases-join+arg3 : goal.decreases-join+arg3
decreases-join+arg3 g l = 2 * l.rest + 1

abbrev pub decreases-serve_coming : goal.decreases-serve_coming
decreases-serve_coming g l = 2 * l.most
