use Rattle.std.proofs.Common.{◌≡◌, ◌≤◌, ◌++◌, length, vec_capacity}
use Rattle.std.specs.Vec.Iter.{into_iter_items, into_iter_len}
use Rattle.script_prove.specs.Served.{AreReportedTo}
use Rattle.script_prove.proofs.history.replies.Given as goal

abbrev pub invariant-loop-outcome : goal.invariant-loop-outcome
invariant-loop-outcome l = record {
  all : l.yielded ++ into_iter_items l.outcome-iterator ≡ into_iter_items l.initial.outcome-iterator;
  left : into_iter_len l.outcome-iterator ≡ length (into_iter_items l.outcome-iterator);
  place : l.place ≡ length l.yielded;
  capacity : length (into_iter_items l.initial.outcome-iterator) ≤ vec_capacity l.served;
  reported : AreReportedTo l.clients l.yielded l.served.items;
}
