use Rattle.std.proofs.lemmas.Grind.{common_steps, elements}
use Rattle.std.proofs.Common.{map, vec_len, rules, arith}
use Rattle.phase_run.proofs.Places.{place_step}
use Rattle.phase_run.proofs.gathering.filled.Goals as goal

pub loop-k-preserved-in-Some : goal.loop-k-preserved-in-Some
loop-k-preserved-in-Some g c = let i = c.loop-k.invariant in
    place_step (g.W.PieceWork.out_of c.args.work.now) (vec_len c.args.slots) (map (λ p. p.0) c.args.results.items) c.loop-k.results.items c.pop.new.self.items c.in-Some.k c.in-Some.out c.loop-k.slots.items
    c.in-Some.ensures.items i.0 i.1 i.2 i.3

pub loop-k-preserved : goal.loop-k-preserved
loop-k-preserved g c = let i = c.loop-k.invariant in
    place_step (g.W.PieceWork.out_of c.args.work.now) (vec_len c.args.slots) (map (λ p. p.0) c.args.results.items) c.loop-k.results.items c.pop.new.self.items c.in-Some.k c.in-Some.out c.loop-k.slots.items
    c.in-Some.ensures.items i.0 i.1 i.2 i.3

pub loop-k-init : goal.loop-k-init
loop-k-init g c = grind (arith, common_steps)

pub index_mut-requires : goal.index_mut-requires
index_mut-requires g c = grind (arith, elements)

pub loop-k-smaller-in-Some : goal.loop-k-smaller-in-Some
loop-k-smaller-in-Some g c = search rules

pub loop-k-smaller : goal.loop-k-smaller
loop-k-smaller g c = search rules

pub returns : goal.returns
returns g c = grind (arith, common_steps)
