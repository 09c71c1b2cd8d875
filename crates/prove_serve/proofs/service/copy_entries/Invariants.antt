use Rattle.std.proofs.Common.{◌≡◌, ◌≤◌, ◌++◌, length, vec_capacity}
use Rattle.std.specs.Vec.Iter.{into_iter_items, into_iter_len}
use Rattle.job_table.specs.History.{entries_of}
use Rattle.prove_serve.proofs.service.copy_entries.Given as goal

abbrev pub invariant-loop-event : goal.invariant-loop-event
invariant-loop-event g l = record {
  all : l.yielded ++ into_iter_items l.event-iterator ≡ into_iter_items l.initial.event-iterator;
  left : into_iter_len l.event-iterator ≡ length (into_iter_items l.event-iterator);
  many : length l.entries.items ≡ length l.yielded;
  capacity : length (into_iter_items l.initial.event-iterator) ≤ vec_capacity l.entries;
  done : l.entries.items ≡ entries_of l.yielded;
}
