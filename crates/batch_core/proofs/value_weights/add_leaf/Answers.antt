use Rattle.std.proofs.Common.{◌≡◌, ◌<◌, length, get_or, set, sym, ◌∙◌, ap, subst}
use Rattle.std.proofs.lemmas.List.{get_or_read}
use Rattle.field_ext.specs.Field.{K, k_ops, zero_k, add_k, mul_k, embed_k}
use Rattle.field_ext.proofs.api.KLaws.{k_laws}
use Rattle.field_ext.proofs.api.Rings.{zero_add}
use Rattle.circuit_core.specs.declared.gate.Leaf.{Leaf}
use Rattle.circuit_core.specs.Parts.{leaf_value}
use Rattle.circuit_core.specs.Faults.{IsLeafWithin}
use Rattle.batch_core.specs.ListedInstances.{weighted_sum}
use Rattle.batch_core.proofs.WeightedSums.{weight_grown}
use Rattle.batch_core.proofs.value_weights.add_leaf.Goals as goal

pub returns-in-Input : goal.returns-in-Input
returns-in-Input c inputs s =
    let weights = c.args.weights.now in
    let j = c.in-Input.j in
    let inside : c.in-Input.j < length c.args.weights.now = subst (λ (leaf : Leaf). IsLeafWithin (length c.args.weights.now) leaf) c.in-Input.is c.requires in
    let grown : c.add.result ≡ add_k (get_or c.args.weights.now c.in-Input.j zero_k) c.args.weight =
    c.add.ensures ∙ ap (λ (x : K). add_k x c.args.weight) (get_or_read weights j c.index-weights-j.result inside c.index-weights-j.is zero_k) in
    ap (λ (x : K). add_k x (weighted_sum (set c.args.weights.now c.in-Input.j c.add.result) inputs)) c.zero.ensures
    ∙ zero_add k_ops k_laws _
    ∙ weight_grown weights inputs j c.args.weight c.add.result s inside grown
    ∙ ap (λ (leaf : Leaf). add_k (weighted_sum c.args.weights.now inputs) (mul_k (embed_k (leaf_value inputs leaf)) c.args.weight)) (sym c.in-Input.is)
