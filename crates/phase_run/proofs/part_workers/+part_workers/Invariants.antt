use Rattle.std.proofs.Common.{◌+◌, ◌*◌}
use Rattle.phase_run.proofs.part_workers.+part_workers.Given as goal

abbrev pub decreases-spread : goal.decreases-spread
decreases-spread g l = 2 * l.claimer.shares

abbrev pub decreases-front : goal.decreases-front
decreases-front g l = 2 * l.claimer.shares + 1

abbrev pub decreases-back : goal.decreases-back
decreases-back g l = 2 * l.theirs.shares + 1
