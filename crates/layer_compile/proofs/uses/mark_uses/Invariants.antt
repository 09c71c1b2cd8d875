-- The uses so far are those by the nodes passed, from the last
use Rattle.std.proofs.Common.{◌≡◌, length}
use Rattle.layer_compile.proofs.UsesOf.{AreUsesFrom}
use Rattle.layer_compile.proofs.uses.mark_uses.Given as goal

abbrev pub invariant-loop-m : goal.invariant-loop-m
invariant-loop-m l = record {
  long : length l.uses ≡ length l.list.nodes;
  used : AreUsesFrom l.list l.m l.uses;
}
