use Rattle.std.proofs.Common.{◌≡◌, ◌*◌}
use Rattle.shared_list.proofs.api.Transposes.{at_places, turned_at}
use Rattle.shared_list.proofs.turning.turned_items.Given as goal

abbrev pub invariant-each : goal.invariant-each
invariant-each g l = l.found.items ≡ at_places (l.j * l.n) (turned_at l.nothing l.n l.m l.items)
