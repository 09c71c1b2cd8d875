-- The sums so far are those of the pairs passed
use Rattle.std.proofs.Common.{◌≡◌, ◌*◌}
use Rattle.lane_kernel.specs.Sums.{parts}
use Rattle.lane_kernel.specs.Lanes.{sums_of, AreReduced}
use Rattle.lane_kernel.proofs.sums.pair_sums.Given as goal

abbrev pub invariant-loop-block : goal.invariant-loop-block
invariant-loop-block l = record {
  sums : l.sums ≡ sums_of (4 * l.block) (parts l.v_re l.v_im) (parts l.g_re l.g_im) (parts l.a_re l.a_im);
  below : AreReduced l.sums;
}

abbrev pub invariant-loop-j : goal.invariant-loop-j
invariant-loop-j l = record {
  sums : l.sums ≡ sums_of l.j (parts l.v_re l.v_im) (parts l.g_re l.g_im) (parts l.a_re l.a_im);
  below : AreReduced l.sums;
}
