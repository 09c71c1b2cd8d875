use Rattle.std.proofs.Common.{map, arith}
use Rattle.phase_run.proofs.Places.{keys_below, all_there}
use Rattle.phase_run.proofs.gathering.placed.Goals as goal

pub filled-slots-requires-clause-places : goal.filled-slots-requires-clause-places
filled-slots-requires-clause-places g c = λ k d h. let a = keys_below c.args.n c.args.results.items c.requires.pieces k d h in let e = c.in_ok-slots.ensures.1 in omega arith

pub gathered-requires : goal.gathered-requires
gathered-requires g c = all_there (g.W.PieceWork.out_of c.args.work.now) c.args.n (map (λ p. p.0) c.args.results.items) c.filled-slots.result.items c.requires.pieces (let a = c.filled-slots.result.ok in let b = c.filled-slots.ensures.1 in let e = c.in_ok-slots.ensures.1 in omega arith) c.filled-slots.ensures.0
