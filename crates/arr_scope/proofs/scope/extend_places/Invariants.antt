use Rattle.std.proofs.Common.{◌≡◌, ◌+◌, ◌-◌, ℕ, length, get_or, None}
use Rattle.arr_scope.proofs.scope.extend_places.Given as goal

abbrev pub invariant-each : goal.invariant-each
invariant-each l = (other : ℕ) → get_or l.places.items other None ≡ get_or l.fn.places.items other None

abbrev pub decreases-each : goal.decreases-each
decreases-each l = (l.name + 1) - length l.places.items
