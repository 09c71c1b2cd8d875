use Rattle.std.proofs.Common.{◌∙◌, ◌+◌, ◌-◌, ◌*◌, ap₂}
use Rattle.field_ext.specs.Field.{prime, of, mul_k}
use Rattle.field_ext.proofs.api.Elements.{product_re, product_im}
use Rattle.field_ext.proofs.ext.Ext.mul.Goals as goal

pub returns : goal.returns
returns c =
    let x = c.self.inside in
    let y = c.other.inside in
    (λ i. record {
      re = (c.of_products.ensures
          ∙ (λ j. of (c.value.ensures j * c.value-3.ensures j + c.value-2.ensures j * (prime - c.value-4.ensures j)))
          ∙ product_re x.re.value x.im.value y.re.value y.im.value y.im.below) i;
      im = (c.of_products-2.ensures
          ∙ (λ j. of (c.value.ensures j * c.value-4.ensures j + c.value-2.ensures j * c.value-3.ensures j))
          ∙ product_im x.re.value x.im.value y.re.value y.im.value) i;
    })
    ∙ ap₂ mul_k c.self.view_is c.other.view_is
