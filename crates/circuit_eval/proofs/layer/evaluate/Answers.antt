-- All gates are passed
use Rattle.std.proofs.Common.{rules, arith}
use Rattle.circuit_core.specs.Parts.{gate_value, zero_gate, zero_f}
use Rattle.mle_table.proofs.api.Written.{written}
use Rattle.circuit_eval.proofs.layer.evaluate.Goals as goal

pub returns : goal.returns
returns c =
    written (gate_value c.args.below.now) c.args.gates.now c.loop-g.values zero_gate zero_f (omega (arith, c.requires.capacity, c.loop-g.auto.values))
    (λ k l. c.loop-g.invariant k (omega (arith, l, c.loop-g-test.false)))

pub loop-g-preserved : goal.loop-g-preserved
loop-g-preserved c = search rules
