use Rattle.std.proofs.Common.{rules, ◌<◌, ◌∙◌, sym, length}
use Rattle.phase_run.proofs.Places.{gather_step}
use Rattle.phase_run.proofs.gathering.gathered.Goals as goal

pub loop-i-preserved : goal.loop-i-preserved
loop-i-preserved g c = let i = c.loop-i.invariant in
    let inside : c.loop-i.i < length c.loop-i.slots.items = search rules in
    let s = gather_step (g.W.PieceWork.out_of c.args.work.now) (length c.args.slots.items) c.loop-i.i c.loop-i.slots.items c.take.new.self c.index_mut.result.now c.loop-i.all.items c.in-Some.x i.0 inside
    (sym c.take.ensures.value ∙ c.in-Some.is) c.index_mut.ensures.value i.1 i.2 in
    (s.0, c.in_ok-push.ensures.items ∙ s.1, s.2)

pub loop-i-init : goal.loop-i-init
loop-i-init g c = search rules

pub index_mut-requires : goal.index_mut-requires
index_mut-requires g c = search rules

pub unreachable-requires : goal.unreachable-requires
unreachable-requires g c = search rules

pub unreachable-unreachable : goal.unreachable-unreachable
unreachable-unreachable g c = search rules

pub returns-in_err-push : goal.returns-in_err-push
returns-in_err-push g c = search rules

pub returns : goal.returns
returns g c = search rules
