use Rattle.std.proofs.Common.{◌≡◌, List, ◌%◌, ◌/◌, arith, ◌∙◌, sym, ap, ap₂, get_or}
use Rattle.std.proofs.lemmas.List.{get_or_read}
use Rattle.field_ext.specs.Field.{K, k_ops, zero_k, mul_k}
use Rattle.field_ext.proofs.api.KLaws.{k_laws}
use Rattle.mle_table.specs.SplitEquality.{TwoTables}
use Rattle.mle_table.proofs.api.EqualitySteps.{eq-split}
use Rattle.mle_table.proofs.split_equality.SplitEquality.value.Goals as goal

pub returns : goal.returns
returns c point split b =
    let tables = c.args.self.now in
    let low_is : c.self.inside.low ≡ c.args.self.now.low = ap (λ (t : TwoTables). t.low) c.self.view_is in
    let high_is : c.self.inside.high ≡ c.args.self.now.high = ap (λ (t : TwoTables). t.high) c.self.view_is in
    let low = get_or_read c.self.inside.low (c.args.g % 1024) c.index-self-g.result (omega arith) c.index-self-g.is zero_k ∙ ap (λ (t : List K). get_or t (c.args.g % 1024) zero_k) low_is in
    let high = get_or_read c.self.inside.high (c.args.g / 1024) c.index-self-g-2.result (omega arith) c.index-self-g-2.is zero_k ∙ ap (λ (t : List K). get_or t (c.args.g / 1024) zero_k) high_is in
    c.mul.ensures ∙ ap₂ mul_k (sym c.index-self-g.is ∙ low) (sym c.index-self-g-2.is ∙ high) ∙ eq-split k_ops k_laws point tables.low tables.high c.args.g split.low split.high b
