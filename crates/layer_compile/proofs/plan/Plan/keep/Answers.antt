-- Each node of the row below is the next one that is there
use Rattle.std.proofs.Common.{◌≤◌, ◌<◌, ◌+◌, get_or, subst, arith}
use Rattle.layer_compile.specs.Rows.{is_at, IsMerged}
use Rattle.layer_compile.proofs.PlacesOf.{few_below}
use Rattle.layer_compile.proofs.Merging.{at_hand, level_low, merged_gap, merged_old, next_below, none_below}
use Rattle.layer_compile.proofs.plan.Plan.keep.Goals as goal

pub add_carried-requires-clause-inside : goal.add_carried-requires-clause-inside
add_carried-requires-clause-inside c =
    let list = c.args.self.now.list.now in
    (next_below list c.args.height c.loop-i.from c.loop-i.i c.loop-i.above.nodes.items c.args.below.now (omega (arith, c.requires.under)) (omega (arith, c.loop-i.invariant.before, c.requires.new.within)) c.loop-i.invariant.merged c.requires.below c.loop-i-test.true).1

pub loop-i-preserved : goal.loop-i-preserved
loop-i-preserved c =
    let list = c.args.self.now.list.now in
    let h = c.args.height in
    let from = c.loop-i.from in
    let i = c.loop-i.i in
    let above = c.loop-i.above.nodes.items in
    let k = get_or c.args.below.now i 0 in
    let next = (next_below list h from i above c.args.below.now (omega (arith, c.requires.under)) (omega (arith, c.loop-i.invariant.before, c.requires.new.within)) c.loop-i.invariant.merged c.requires.below c.loop-i-test.true) in
    let past : from ≤ k = next.0.past in
    let low : k < c.args.to = c.if-k-to.false in
    let gap = merged_gap list h from k i above c.loop-i.invariant.merged past next.0.none (λ j u v. c.requires.new.none j (omega (arith, u, c.loop-i.invariant.later)) (omega (arith, v, low))) in
    record {
      merged = merged_old list h (h + 1) k i above c.add_carried.new.above.nodes.items (omega arith) gap (next.0.here next.1) c.in_ok-add_carried.ensures.nodes;
      gates = c.in_ok-add_carried.ensures.gates;
      later = omega (arith, past, c.loop-i.invariant.later);
      before = omega (arith, low);
    }

pub returns-then-k-to-clause-merged : goal.returns-then-k-to-clause-merged
returns-then-k-to-clause-merged c =
    let list = c.args.self.now.list.now in
    let h = c.args.height in
    let from = c.loop-i.from in
    let i = c.loop-i.i in
    let above = c.loop-i.above.nodes.items in
    let k = get_or c.args.below.now i 0 in
    let next = (next_below list h from i above c.args.below.now (omega (arith, c.requires.under)) (omega (arith, c.loop-i.invariant.before, c.requires.new.within)) c.loop-i.invariant.merged c.requires.below c.loop-i-test.true) in
    let high : c.args.to ≤ k = c.if-k-to.true in
    merged_gap list h from c.args.to i above c.loop-i.invariant.merged c.loop-i.invariant.before
    (λ j u v. next.0.none j u (omega (arith, v, high)))
    (λ j u v. c.requires.new.none j (omega (arith, u, c.loop-i.invariant.later)) v)

pub returns-clause-merged : goal.returns-clause-merged
returns-clause-merged c =
    let list = c.args.self.now.list.now in
    let h = c.args.height in
    let from = c.loop-i.from in
    let i = c.loop-i.i in
    let above = c.loop-i.above.nodes.items in
    let none = none_below list h from i above c.args.below.now (omega (arith, c.requires.under)) (omega (arith, c.loop-i.invariant.before, c.requires.new.within)) c.loop-i.invariant.merged c.requires.below c.loop-i-test.false in
    subst (λ t. IsMerged list h c.args.to t above) none.1
    (merged_gap list h from c.args.to i above c.loop-i.invariant.merged c.loop-i.invariant.before
    (λ j u v. none.0.none j u (omega (arith, v, c.requires.new.within)))
    (λ j u v. c.requires.new.none j (omega (arith, u, c.loop-i.invariant.later)) v))

pub add_carried-requires-clause-low : goal.add_carried-requires-clause-low
add_carried-requires-clause-low c =
    let list = c.args.self.now.list.now in
    let h = c.args.height in
    level_low list h h (get_or c.args.below.now c.loop-i.i 0) (at_hand list h c.loop-i.from c.loop-i.i c.loop-i.above.nodes.items c.args.below.now (omega (arith, c.requires.under)) (omega (arith, c.loop-i.invariant.before, c.requires.new.within)) c.loop-i.invariant.merged c.requires.below c.loop-i-test.true).0

pub add_carried-requires-clause-at : goal.add_carried-requires-clause-at
add_carried-requires-clause-at c =
    let list = c.args.self.now.list.now in
    let h = c.args.height in
    omega (arith, (at_hand list h c.loop-i.from c.loop-i.i c.loop-i.above.nodes.items c.args.below.now (omega (arith, c.requires.under)) (omega (arith, c.loop-i.invariant.before, c.requires.new.within)) c.loop-i.invariant.merged c.requires.below c.loop-i-test.true).1)

pub overflow_add-i : goal.overflow_add-i
overflow_add-i c =
    let list = c.args.self.now.list.now in
    let h = c.args.height in
    omega (arith, (at_hand list h c.loop-i.from c.loop-i.i c.loop-i.above.nodes.items c.args.below.now (omega (arith, c.requires.under)) (omega (arith, c.loop-i.invariant.before, c.requires.new.within)) c.loop-i.invariant.merged c.requires.below c.loop-i-test.true).1, few_below (is_at list h) (get_or c.args.below.now c.loop-i.i 0), c.if-k-to.false, c.ranges.to.fits)

pub overflow_cast-i : goal.overflow_cast-i
overflow_cast-i c =
    let list = c.args.self.now.list.now in
    let h = c.args.height in
    omega (arith, (at_hand list h c.loop-i.from c.loop-i.i c.loop-i.above.nodes.items c.args.below.now (omega (arith, c.requires.under)) (omega (arith, c.loop-i.invariant.before, c.requires.new.within)) c.loop-i.invariant.merged c.requires.below c.loop-i-test.true).1, few_below (is_at list h) (get_or c.args.below.now c.loop-i.i 0), c.if-k-to.false, c.ranges.to.fits)
