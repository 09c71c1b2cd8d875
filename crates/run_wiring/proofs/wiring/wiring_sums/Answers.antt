-- Run after run is summed
use Rattle.std.proofs.Common.{◌∙◌, arith, length, get_or, ap}
use Rattle.field_ext.specs.Field.{K, k_ops, add_k, zero_k}
use Rattle.field_ext.proofs.api.KLaws.{k_laws}
use Rattle.circuit_core.specs.declared.gate.Kind.TheVariants.{Add}
use Rattle.wiring_poly.specs.Wiring.{by_kind}
use Rattle.wiring_poly.proofs.api.GateSteps.{summed_none}
use Rattle.run_wiring.specs.declared.run.Run.{Run}
use Rattle.run_wiring.specs.Entries.{share}
use Rattle.run_wiring.proofs.RunSums.{runs_more, runs_all, add_runs, mul_runs, runs_within}
use Rattle.run_wiring.proofs.wiring.wiring_sums.Goals as goal

-- a read past the end
abbrev none : Run
none = record { kind = Add; first = 0; count = 0; left = 0; lstep = 0; right = 0; rstep = 0 }

pub loop-run-init : goal.loop-run-init
loop-run-init g c = record {
  add = summed_none k_ops k_laws _ _ c.zero.ensures ∙ add_runs k_ops k_laws c.args.z.now c.args.b.now c.args.c.now c.args.runs.now c.requires.in_order;
  mul = summed_none k_ops k_laws _ _ c.zero-2.ensures ∙ mul_runs k_ops k_laws c.args.z.now c.args.b.now c.args.c.now c.args.runs.now c.requires.in_order;
  steps = omega arith;
}

pub run_share-requires-clause-within : goal.run_share-requires-clause-within
run_share-requires-clause-within g c =
    runs_within (length c.args.z.now) (length c.args.b.now) c.args.runs.now c.requires.in_order c.requires.some c.requires.operands c.requires.positions c.loop-run.run-index none c.loop-run-test.true

pub loop-run-preserved : goal.loop-run-preserved
loop-run-preserved g c =
    let i = c.loop-run.run-index in
    let runs = c.args.runs.now in
    let run : Run = get_or c.args.runs.now c.loop-run.run-index none in
    let of : Run → K = share c.args.z.now c.args.b.now c.args.c.now in
    record {
      add = runs_more k_ops k_laws runs (λ run. by_kind run.kind (of run) zero_k) i none c.loop-run.sums.add c.with-sums.result.add _ c.loop-run-test.true
          (c.with-sums.ensures.add ∙ ap (λ (w : K). add_k c.loop-run.sums.add (by_kind run.kind w zero_k)) c.run_share.ensures.value) c.loop-run.invariant.add;
      mul = runs_more k_ops k_laws runs (λ run. by_kind run.kind zero_k (of run)) i none c.loop-run.sums.mul c.with-sums.result.mul _ c.loop-run-test.true
          (c.with-sums.ensures.mul ∙ ap (λ (w : K). add_k c.loop-run.sums.mul (by_kind run.kind zero_k w)) c.run_share.ensures.value) c.loop-run.invariant.mul;
      steps = omega (arith, c.loop-run.invariant.steps, c.run_share.ensures.steps);
    }

pub returns-clause-add : goal.returns-clause-add
returns-clause-add g c = runs_all k_ops k_laws c.args.runs.now _ c.loop-run.run-index _ _ c.loop-run-test.false c.loop-run.invariant.add

pub returns-clause-mul : goal.returns-clause-mul
returns-clause-mul g c = runs_all k_ops k_laws c.args.runs.now _ c.loop-run.run-index _ _ c.loop-run-test.false c.loop-run.invariant.mul
