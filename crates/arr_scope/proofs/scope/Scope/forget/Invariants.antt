use Rattle.std.proofs.Common.{◌≡◌, length, take}
use Rattle.arr_scope.proofs.scope.Scope.forget.Given as goal

abbrev pub invariant-loop-self : goal.invariant-loop-self
invariant-loop-self g l = take l.kept l.self ≡ take l.kept l.fn.self

abbrev pub decreases-loop-self : goal.decreases-loop-self
decreases-loop-self g l = length l.self
