use Rattle.std.proofs.Common.{◌∙◌, sym, ap, eqb-true, ◌≡◌}
use Rattle.std.proofs.lemmas.Bool.{eq-eqb}
use Rattle.field_ext.specs.Field.{K}
use Rattle.field_ext.proofs.api.ElementBytes.{K_eq}
use Rattle.field_ext.proofs.ext.Ext.equals.Goals as goal

pub returns-then-value-clause-equal : goal.returns-then-value-clause-equal
returns-then-value-clause-equal c =
    let same_re : c.self.inside.re.value ≡ c.other.inside.re.value = sym c.value.ensures ∙ c.if-value.true ∙ c.value-2.ensures in
    let first = ap (λ (k : K). k.im.value) c.self.view_is in
    let other = ap (λ (k : K). k.im.value) c.other.view_is in (
      (λ t. sym c.self.view_is ∙ K_eq _ _ same_re (sym c.value-then-value.ensures ∙ eqb-true _ _ t ∙ c.value-then-value-2.ensures) ∙ c.other.view_is),
      (λ e. eq-eqb _ _ (c.value-then-value.ensures ∙ first ∙ ap (λ (k : K). k.im.value) e ∙ sym other ∙ sym c.value-then-value-2.ensures)),
    )
