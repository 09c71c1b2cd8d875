use Rattle.std.proofs.Common.{◌≡◌}
use Rattle.job_table.specs.Passes.{IsPassOf}
use Rattle.prove_serve.specs.Sound.{ActsFor, submitted_by}
use Rattle.prove_serve.proofs.worker.prover.Given as goal

abbrev pub invariant-loop : goal.invariant-loop
invariant-loop g l = record {
  of : IsPassOf l.table l.pass;
  idle : l.pass.held ≡ 0;
  shares : l.pass.shares ≡ l.fn.pass.shares;
  acts : ActsFor l.script.value.items l.pass;
  none : submitted_by l.pass ≡ 0;
}
