use Rattle.std.proofs.Common.{get_or, ◌∙◌}
use Rattle.field_ext.specs.Field.{K, k_ops, add_k, mul_k, zero_k}
use Rattle.field_ext.proofs.api.KLaws.{k_laws}
use Rattle.gkr_verify.proofs.BothSteps.{factors_more}
use Rattle.gkr_verify.proofs.blocks.Shares.with.Goals as goal

pub returns : goal.returns
returns c both block =
    let h : K = get_or both.first.high block zero_k in
    let k : K = get_or both.second.high block zero_k in
    (λ i. add_k (mul_k h (c.add.ensures i)) (mul_k both.weight (mul_k k (c.add-2.ensures i))))
    ∙ factors_more k_ops k_laws h both.weight k c.args.self.first c.args.self.second c.args.other.first c.args.other.second
