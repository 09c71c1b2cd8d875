-- What is said of the plan's list is said of the list
use Rattle.std.proofs.Common.{◌≡◌, ◌+◌, ◌∙◌, length, List, ap, subst, IfOk}
use Rattle.std.proofs.lemmas.Result.{IfOk-weaker}
use Rattle.field_ext.specs.Field.{F}
use Rattle.circuit_core.specs.Parts.{layer_values, padded_values}
use Rattle.layer_compile.specs.Circuits.{circuit_of, size_for, output_values}
use Rattle.layer_compile.proofs.RowValues.{outputs_right}
use Rattle.layer_compile.proofs.layout.layer.Goals as goal

pub returns-clause-circuit : goal.returns-clause-circuit
returns-clause-circuit c = subst (λ list. IfOk c.circuit.result (λ circuit. circuit.parts ≡ circuit_of list)) c.in_ok-plan.ensures.list c.circuit.ensures.made

pub returns-clause-outputs : goal.returns-clause-outputs
returns-clause-outputs c =
    let list = c.args.list.now in
    IfOk-weaker c.circuit.result (λ circuit. circuit.parts ≡ circuit_of list)
    (λ circuit. (inputs : List F) → layer_values circuit.parts inputs 0 ≡ padded_values (size_for (1 + length list.outputs)) (output_values list inputs))
    (λ circuit made inputs. ap (λ parts. layer_values parts inputs 0) made ∙ outputs_right list c.in_ok-plan.ensures.fine inputs)
    (subst (λ list. IfOk c.circuit.result (λ circuit. circuit.parts ≡ circuit_of list)) c.in_ok-plan.ensures.list c.circuit.ensures.made)
