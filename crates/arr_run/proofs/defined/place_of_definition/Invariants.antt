use Rattle.std.proofs.Common.{◌≡◌, ◌≤◌, length, take}
use Rattle.arr_run.specs.Steps.{newest_first, definition_named}
use Rattle.arr_run.proofs.defined.place_of_definition.Given as goal

abbrev pub invariant-each : goal.invariant-each
invariant-each l = record {
  within : l.place ≤ length l.definitions;
  same : definition_named l.name (newest_first l.definitions) ≡ definition_named l.name (newest_first (take l.place l.definitions));
}

abbrev pub decreases-each : goal.decreases-each
decreases-each l = l.place
