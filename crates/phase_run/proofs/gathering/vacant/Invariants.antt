use Rattle.std.proofs.Common.{◌≡◌, vec_len, replicate, None}
use Rattle.phase_run.proofs.gathering.vacant.Given as goal

abbrev pub invariant-loop : goal.invariant-loop
invariant-loop g l = (l.slots.items ≡ replicate l.counter None) × (vec_len l.slots ≡ l.counter)
