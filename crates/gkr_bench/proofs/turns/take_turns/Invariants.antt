use Rattle.std.proofs.Common.{◌≡◌, false, []}
use Rattle.gkr_bench.proofs.turns.take_turns.Given as goal

abbrev pub invariant-loop : goal.invariant-loop
invariant-loop g l = (l.turn.table ≡ l.lock.table) × (l.turn.holds ≡ false) × (l.turn.seen ≡ []) × (l.turn.fixed ≡ 0)
