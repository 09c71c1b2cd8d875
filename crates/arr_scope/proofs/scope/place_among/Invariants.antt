use Rattle.std.proofs.Common.{◌≡◌, drop}
use Rattle.arr_scope.specs.Scope.{place_of, place_from}
use Rattle.arr_scope.proofs.scope.place_among.Given as goal

abbrev pub invariant-loop-place : goal.invariant-loop-place
invariant-loop-place g l = place_of l.name l.names ≡ place_from l.place l.name (drop l.place l.names)
