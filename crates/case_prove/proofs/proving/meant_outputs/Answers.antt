-- What is in the output layer is the program's meaning.
use Rattle.std.proofs.Common.{◌∙◌, ℕ, take, drop, ap, sym, refl}
use Rattle.std.proofs.lemmas.Result.{IfOk-weaker}
use Rattle.circuit_core.specs.Parts.{layer_values}
use Rattle.circuit_core.specs.Sound.{SoundCircuit}
use Rattle.case_prove.proofs.api.ProvedOutputs.{evaluated, outputs_read}
use Rattle.case_prove.proofs.proving.meant_outputs.Goals as goal

pub returns-clause-meaning : goal.returns-clause-meaning
returns-clause-meaning c =
    let circuit : SoundCircuit = c.args.circuit.now in
    IfOk-weaker c.real_parts.result _ _
    (λ outputs read. (evaluated c.circuit_computes.ensures.inputs c.circuit_computes.ensures.computes c.args.case.now circuit c.requires.compiled c.requires.counted c.args.case.now.inputs outputs.items c.args.values.now _ _ refl c.requires.tables c.table.ensures c.outputs.ensures.value read).1)
    c.real_parts.ensures

pub returns-clause-as_many : goal.returns-clause-as_many
returns-clause-as_many c =
    let circuit : SoundCircuit = c.args.circuit.now in
    IfOk-weaker c.real_parts.result _ _
    (λ outputs read. (evaluated c.circuit_computes.ensures.inputs c.circuit_computes.ensures.computes c.args.case.now circuit c.requires.compiled c.requires.counted c.args.case.now.inputs outputs.items c.args.values.now _ _ refl c.requires.tables c.table.ensures c.outputs.ensures.value read).0)
    c.real_parts.ensures

pub returns-clause-outputs : goal.returns-clause-outputs
returns-clause-outputs c =
    let circuit : SoundCircuit = c.args.circuit.now in
    IfOk-weaker c.real_parts.result _ _
    (λ outputs read.
    let many = (evaluated c.circuit_computes.ensures.inputs c.circuit_computes.ensures.computes c.args.case.now circuit c.requires.compiled c.requires.counted c.args.case.now.inputs outputs.items c.args.values.now _ _ refl c.requires.tables c.table.ensures c.outputs.ensures.value read).0 in
    outputs_read circuit c.args.case.now.inputs c.args.values.now c.requires.tables _ _ outputs.items c.table.ensures c.outputs.ensures.value read
    ∙ ap (λ (n : ℕ). take n (drop 1 (layer_values c.args.circuit.now.parts c.args.case.now.inputs 0))) (sym many))
    c.real_parts.ensures
