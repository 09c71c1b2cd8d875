-- Each half is a sum of two products of numbers
use Rattle.std.proofs.Common.{◌+◌, ◌-◌, ◌*◌, ◌∙◌}
use Rattle.field_ext.specs.Field.{prime, of}
use Rattle.field_ext.proofs.api.Elements.{product_re, product_im}
use Rattle.gate_gather.proofs.lazy_sum.LazySum.product.Goals as goal

pub returns-clause-element : goal.returns-clause-element
returns-clause-element c =
    let x = c.args.x in
    let y = c.args.y in
    let a = c.value.ensures ∙ (λ i. (c.re.ensures i).value) in
    let b = c.value-2.ensures ∙ (λ i. (c.im.ensures i).value) in
    let p = c.value-3.ensures ∙ (λ i. (c.re-2.ensures i).value) in
    let q = c.value-4.ensures ∙ (λ i. (c.im-2.ensures i).value) in
    λ i. record {
      re = (c.shortened.ensures.of
          ∙ (λ j. of (a j * p j + b j * (prime - q j)))
          ∙ product_re x.re.value x.im.value y.re.value y.im.value y.im.below) i;
      im = (c.shortened-2.ensures.of
          ∙ (λ j. of (a j * q j + b j * p j))
          ∙ product_im x.re.value x.im.value y.re.value y.im.value) i;
    }
