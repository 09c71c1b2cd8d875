use Rattle.std.proofs.Common.{◌≡◌, ◌<◌, map, length, vec_len}
use Rattle.std.specs.List.{All}
use Rattle.phase_run.proofs.Places.{Placing}
use Rattle.phase_run.proofs.gathering.filled.Given as goal

abbrev pub invariant-loop-k : goal.invariant-loop-k
invariant-loop-k g l =
    (length l.slots.items ≡ vec_len l.fn.slots) × All (λ p. p.0 < vec_len l.fn.slots) l.results.items × All (λ p. p.1 ≡ g.W.PieceWork.out_of l.work p.0) l.results.items
    × Placing (g.W.PieceWork.out_of l.work) (map (λ p. p.0) l.fn.results.items) (map (λ p. p.0) l.results.items) l.slots.items

abbrev pub decreases-loop-k : goal.decreases-loop-k
decreases-loop-k g l = vec_len l.results
