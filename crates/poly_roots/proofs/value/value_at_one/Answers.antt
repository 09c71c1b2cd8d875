-- Each step puts one more coefficient before those done, since a product by 1 changes nothing
use Rattle.std.proofs.Common.{◌≡◌, ◌+◌, ◌-◌, ◌<◌, List, length, get_or, drop, arith, sym, ◌∙◌, ap, ◌≤◌, drop_of_length-le}
use Rattle.std.proofs.lemmas.List.{drop_more, get_or_read}
use Rattle.field_ext.specs.Field.{K, k_ops, add_k, mul_k, zero_k, one_k}
use Rattle.field_ext.specs.Polynomial.{value_at}
use Rattle.field_ext.proofs.api.KLaws.{k_laws}
use Rattle.field_ext.proofs.api.Rings.{one_mul}
use Rattle.poly_roots.proofs.value.value_at_one.Goals as goal

pub loop-done-init : goal.loop-done-init
loop-done-init c =
    let all : length c.args.coefficients.now ≤ length c.args.coefficients.now - 0 = omega arith in
    c.zero-value.ensures ∙ ap (λ (cs : List K). value_at k_ops cs one_k) (sym (drop_of_length-le c.args.coefficients.now all))

pub loop-done-preserved : goal.loop-done-preserved
loop-done-preserved c =
    let cs = c.args.coefficients.now in
    let i = length cs - 1 - c.loop-done.done in
    let inside : length c.args.coefficients.now - 1 - c.loop-done.done < length c.args.coefficients.now = omega arith in
    let place : length c.args.coefficients.now - 1 - c.loop-done.done ≡ length c.args.coefficients.now - (c.loop-done.done + 1) = omega arith in
    let next : length c.args.coefficients.now - 1 - c.loop-done.done + 1 ≡ length c.args.coefficients.now - c.loop-done.done = omega arith in
    let here = get_or_read cs i c.index-coefficients-coefficients.result inside c.index-coefficients-coefficients.is zero_k in
    c.add-value.ensures
    ∙ (λ j. add_k (here j) (c.loop-done.invariant j))
    ∙ ap (add_k (get_or cs i zero_k)) (sym (one_mul k_ops k_laws (value_at k_ops (drop (length cs - c.loop-done.done) cs) one_k)))
    ∙ ap (λ (x : K). add_k (get_or cs i zero_k) (mul_k one_k x)) (sym (λ j. value_at k_ops (drop (next j) cs) one_k))
    ∙ ap (λ (xs : List K). value_at k_ops xs one_k) (sym (drop_more cs i zero_k inside))
    ∙ (λ j. value_at k_ops (drop (place j) cs) one_k)

pub returns : goal.returns
returns c =
    let none : length c.args.coefficients.now - c.loop-done.done ≡ 0 = omega arith in
    c.loop-done.invariant ∙ (λ j. value_at k_ops (drop (none j) c.args.coefficients.now) one_k)
