use Rattle.std.proofs.Common.{◌≡◌, ◌/◌, ◌%◌, get_or, ap, ◌∙◌}
use Rattle.field_ext.specs.Field.{K, k_ops, add_k, mul_k, zero_k}
use Rattle.field_ext.proofs.api.KLaws.{k_laws}
use Rattle.mle_table.proofs.api.EqualitySteps.{eq-split}
use Rattle.gkr_verify.specs.declared.blocks.BothEquality.{BothEquality}
use Rattle.gkr_verify.proofs.BothSteps.{factors_value}
use Rattle.gkr_verify.proofs.blocks.BothEquality.shares.Goals as goal

pub returns : goal.returns
returns c first second a at u v =
    let both : BothEquality = c.args.self.now in
    let g = c.args.g in
    let x : K = c.args.value in
    let h : K = get_or both.first.high (c.args.g / 1024) zero_k in
    let k : K = get_or both.second.high (c.args.g / 1024) zero_k in
    let here : c.mul.result ≡ mul_k (get_or both.first.low (c.args.g % 1024) zero_k) x = c.mul.ensures ∙ ap (λ (y : K). mul_k y x) c.within.ensures in
    let there : c.mul-2.result ≡ mul_k (get_or both.second.low (c.args.g % 1024) zero_k) x = c.mul-2.ensures ∙ ap (λ (y : K). mul_k y x) c.within-2.ensures in
    (λ i. add_k (mul_k h (here i)) (mul_k both.weight (mul_k k (there i))))
    ∙ factors_value k_ops k_laws h both.weight k (get_or both.first.low (c.args.g % 1024) zero_k) (get_or both.second.low (c.args.g % 1024) zero_k) x
    ∙ (λ i. mul_k (add_k (eq-split k_ops k_laws first both.first.low both.first.high g at.first.low at.first.high u i)
    (mul_k (at.weight i) (eq-split k_ops k_laws second both.second.low both.second.high g at.second.low at.second.high v i))) x)
