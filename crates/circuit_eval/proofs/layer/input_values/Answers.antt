-- One value of padding more at each turn
use Rattle.std.proofs.lemmas.Grind.{common_steps}
use Rattle.std.proofs.Common.{◌≡◌, ◌+◌, ◌-◌, ◌∙◌, ◌∷◌, ◌++◌, [], map, length, replicate, ap, ap₂, arith}
use Rattle.std.proofs.lemmas.List.{append_assoc, replicate_more}
use Rattle.circuit_core.specs.Parts.{leaf_value, zero_f}
use Rattle.circuit_eval.proofs.layer.input_values.Goals as goal

pub loop-preserved : goal.loop-preserved
loop-preserved c =
    let leaves = c.args.circuit.now.parts.leaves in
    let start = zero_f ∷ map (leaf_value c.args.inputs.now) leaves in
    let before = c.loop.counter - (1 + length leaves) in
    let more : before + 1 ≡ c.loop.counter + 1 - (1 + length leaves) = omega (arith, c.loop.invariant.past) in
    record {
      filled = c.in_ok-push-3.ensures.items ∙ ap₂ (λ values zero. values ++ zero ∷ []) c.loop.invariant.filled c.zero-in-loop.ensures ∙ append_assoc start (replicate before zero_f) (zero_f ∷ []) ∙ ap (λ tail. start ++ tail) (replicate_more before zero_f) ∙ ap (λ m. start ++ replicate m zero_f) more;
      past = omega (arith, c.loop.invariant.past);
    }

pub loop-leaf-preserved : goal.loop-leaf-preserved
loop-leaf-preserved c = grind (arith, common_steps)
