-- The pairs passed are folded
use Rattle.std.proofs.Common.{◌*◌}
use Rattle.lane_kernel.specs.Kernel.{re_at, im_at, AreAt}
use Rattle.lane_kernel.proofs.fold.fold_pairs.Given as goal

abbrev pub invariant-loop-block : goal.invariant-loop-block
invariant-loop-block l = record {
  re : AreAt 0 (4 * l.block) (re_at l.fn.re l.fn.im l.r.0 l.r.1) l.fn.re l.re;
  im : AreAt 0 (4 * l.block) (im_at l.fn.re l.fn.im l.r.0 l.r.1) l.fn.im l.im;
}

abbrev pub invariant-loop-j : goal.invariant-loop-j
invariant-loop-j l = record {
  re : AreAt 0 l.j (re_at l.fn.re l.fn.im l.r.0 l.r.1) l.fn.re l.re;
  im : AreAt 0 l.j (im_at l.fn.re l.fn.im l.r.0 l.r.1) l.fn.im l.im;
}
