-- One entry grows
use Rattle.std.proofs.Common.{◌≡◌, ◌<◌, ◌∙◌, arith, get_or, length, ap, ap₂}
use Rattle.std.proofs.lemmas.List.{get_or_read}
use Rattle.field_ext.specs.Field.{zero_k, add_k, mul_k}
use Rattle.run_wiring.specs.Entries.{weight, carried}
use Rattle.run_wiring.proofs.Entries.{passed_on}
use Rattle.run_wiring.proofs.digit_sum.pass_on.Goals as goal

pub returns : goal.returns
returns c =
    let t = c.args.next.now in
    let to = c.entry-to.result in
    let ws = c.args.weights.now in
    let place = c.weight_place-place.result in
    let inside : c.entry-to.result < length c.args.next.now = omega (arith, c.requires.size, c.entry-to.ensures.few) in
    let there : c.weight_place-place.result < length c.args.weights.now = omega (arith, c.requires.eight, c.weight_place-place.ensures.few) in
    let read : c.index-next-to.result ≡ get_or t to zero_k = get_or_read t to c.index-next-to.result inside c.index-next-to.is zero_k in
    let weight_is : c.index-weights-place.result ≡ weight c.args.column.now c.args.from c.args.digit =
    get_or_read ws place c.index-weights-place.result there c.index-weights-place.is zero_k
    ∙ ap (λ i. get_or ws i zero_k) c.weight_place-place.ensures.value
    ∙ c.requires.weights c.args.from c.args.digit in
    passed_on t to c.args.value (weight c.args.column.now c.args.from c.args.digit) (carried c.args.column.now c.args.from c.args.digit) c.add.result c.requires.size c.entry-to.ensures.few
    (c.entry-to.ensures.value ∙ c.carried.ensures.value)
    (c.add.ensures ∙ ap₂ add_k read (c.mul.ensures ∙ ap (mul_k c.args.value) weight_is))
