use Rattle.std.proofs.Common.{◌≡◌, vec_len, replicate, None}
use Rattle.chunk_board.proofs.slots.vacant.Given as goal

abbrev pub invariant-loop : goal.invariant-loop
invariant-loop g l = (l.slots.items ≡ replicate l.counter None) × (vec_len l.slots ≡ l.counter)
