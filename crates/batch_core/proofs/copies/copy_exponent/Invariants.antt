-- The powers so far are too small
use Rattle.std.proofs.Common.{ℕ, ◌<◌, ◌^◌}
use Rattle.batch_core.proofs.copies.copy_exponent.Given as goal

abbrev pub invariant-loop-exponent : goal.invariant-loop-exponent
invariant-loop-exponent l = (i : ℕ) → i < l.exponent → 2 ^ i < l.count
