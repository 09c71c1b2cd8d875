use Rattle.std.proofs.Common.{◌≡◌}
use mathlib.Core.List.{IsPrefix}
use Rattle.std.specs.Vec.Iter.{into_iter_items}
use Rattle.job_table.specs.Passes.{IsPassOf}
use Rattle.prove_serve.specs.Sound.{ActsFor, AreMarked, submitted_by}
use Rattle.prove_serve.proofs.worker.withdraw_all.Given as goal

abbrev pub invariant-loop-receipt : goal.invariant-loop-receipt
invariant-loop-receipt g l = record {
  of : IsPassOf l.table l.pass;
  held : l.pass.held ≡ l.fn.pass.held;
  shares : l.pass.shares ≡ l.fn.pass.shares;
  acts : ActsFor l.script.value.items l.pass;
  begins : IsPrefix l.fn.pass.seen l.pass.seen;
  submits : submitted_by l.pass ≡ submitted_by l.fn.pass;
  marked : AreMarked l.pass.seen (into_iter_items l.receipt-iterator);
}
