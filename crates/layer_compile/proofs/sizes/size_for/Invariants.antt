-- No smaller power of two is enough
use Rattle.std.proofs.Common.{◌≡◌, ◌+◌, ◌^◌, None}
use Rattle.std.specs.Prelude.{nat_lt}
use Rattle.circuit_core.specs.Faults.{first_below, unless}
use Rattle.layer_compile.proofs.sizes.size_for.Given as goal

abbrev pub invariant-loop-j : goal.invariant-loop-j
invariant-loop-j l = first_below l.j (λ j. unless (nat_lt (2 ^ (j + 1)) l.positions) (j + 1)) ≡ None
