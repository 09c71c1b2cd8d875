use Rattle.std.proofs.Common.{◌≡◌, ◌≤◌, vec_len, vec_capacity}
use Rattle.prove_serve.proofs.service.unended.Given as goal

abbrev pub invariant-loop : goal.invariant-loop
invariant-loop g l = (vec_len l.outcomes ≡ l.counter) × (l.count ≤ vec_capacity l.outcomes)
