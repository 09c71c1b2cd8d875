use Rattle.std.proofs.Common.{◌+◌}
use Rattle.field_ext.specs.Field.{k_ops}
use Rattle.circuit_core.specs.Sound.{exponent_at}
use Rattle.circuit_core.proofs.api.Sizes.{gates_size, gates_over}
use Rattle.wiring_poly.specs.Wiring.{wiring_add, wiring_mul}
use Rattle.batch_core.proofs.AtField.{k_copied_add, k_copied_mul}
use Rattle.batch_core.proofs.WholePoints.{cut, at_whole}
use Rattle.batch_core.proofs.copied_wiring.wiring_of_copies.Goals as goal

pub returns-clause-add : goal.returns-clause-add
returns-clause-add c =
    let j = exponent_at c.args.circuit.now.parts c.args.layer in
    let k = exponent_at c.args.circuit.now.parts (c.args.layer + 1) in
    let n = c.args.exponent in
    at_whole (wiring_add k_ops) k_copied_add j k n _ c.args.z.now c.args.b.now c.args.c.now _ _ _ _ _ _ c.mul.result c.same_copy-same.result c.at-add.result.0
    (gates_size c.args.circuit.now c.args.layer c.requires.layer) (gates_over c.args.circuit.now c.args.layer c.requires.layer)
    (cut j n c.args.z.now _ _ c.requires.position c.split_at.ensures.front c.split_at.ensures.back)
    (cut k n c.args.b.now _ _ c.requires.left c.split_at-2.ensures.front c.split_at-2.ensures.back)
    (cut k n c.args.c.now _ _ c.requires.right c.split_at-3.ensures.front c.split_at-3.ensures.back)
    c.mul.ensures c.same_copy-same.ensures c.at-add.ensures.add

pub returns-clause-mul : goal.returns-clause-mul
returns-clause-mul c =
    let j = exponent_at c.args.circuit.now.parts c.args.layer in
    let k = exponent_at c.args.circuit.now.parts (c.args.layer + 1) in
    let n = c.args.exponent in
    at_whole (wiring_mul k_ops) k_copied_mul j k n _ c.args.z.now c.args.b.now c.args.c.now _ _ _ _ _ _ c.mul-2.result c.same_copy-same.result c.at-add.result.1
    (gates_size c.args.circuit.now c.args.layer c.requires.layer) (gates_over c.args.circuit.now c.args.layer c.requires.layer)
    (cut j n c.args.z.now _ _ c.requires.position c.split_at.ensures.front c.split_at.ensures.back)
    (cut k n c.args.b.now _ _ c.requires.left c.split_at-2.ensures.front c.split_at-2.ensures.back)
    (cut k n c.args.c.now _ _ c.requires.right c.split_at-3.ensures.front c.split_at-3.ensures.back)
    c.mul-2.ensures c.same_copy-same.ensures c.at-add.ensures.mul
