use Rattle.std.proofs.Common.{◌≡◌, ◌≤◌, ◌++◌, length, map, vec_capacity}
use Rattle.std.specs.Vec.Iter.{into_iter_items, into_iter_len}
use Rattle.prove_serve.specs.Script.{unmarked}
use Rattle.prove_serve.proofs.script.unmarked.Given as goal

abbrev pub invariant-loop-client : goal.invariant-loop-client
invariant-loop-client g l = record {
  all : l.yielded ++ into_iter_items l.client-iterator ≡ into_iter_items l.initial.client-iterator;
  left : into_iter_len l.client-iterator ≡ length (into_iter_items l.client-iterator);
  many : length l.all.items ≡ length l.yielded;
  capacity : length (into_iter_items l.initial.client-iterator) ≤ vec_capacity l.all;
  done : l.all.items ≡ map unmarked l.yielded;
}
