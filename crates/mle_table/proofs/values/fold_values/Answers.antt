-- Each step writes one value of the folded table over values that are read no more
use Rattle.std.proofs.Common.{◌≡◌, ◌≢◌, ◌*◌, ◌<◌, ◌/◌, take, ℕ, arith, ◌∙◌, ap, ap₂, length, ◌+◌, get_or, below_more, get_or-set_same, get_or-set_other}
use Rattle.std.proofs.lemmas.List.{get_or_read}
use Rattle.field_ext.specs.Field.{K, k_ops, add_k, mul_k, neg_k, zero_k}
use Rattle.field_ext.proofs.api.KLaws.{k_laws}
use Rattle.field_ext.specs.Multilinear.{folded}
use Rattle.mle_table.proofs.api.Steps.{fold_element, folded_whole}
use Rattle.mle_table.proofs.values.fold_values.Goals as goal

pub loop-j-preserved : goal.loop-j-preserved
loop-j-preserved c =
    let t = c.loop-j.values.items in
    let j = c.loop-j.j in
    let q = c.requires in
    let l : c.loop-j.j * 2 + 1 < length c.loop-j.values.items = omega (arith, c.loop-j.values.ok, c.loop-j.invariant.same_length, c.requires.1, c.len-half.ensures, c.loop-j-test.true) in
    let low : c.index-low.result.now ≡ get_or t (2 * j) zero_k = get_or_read t (2 * j) c.index-low.result.now (omega arith) c.index-low.ensures zero_k in
    let high : c.index-high.result.now ≡ get_or t (2 * j + 1) zero_k = get_or_read t (2 * j + 1) c.index-high.result.now (omega arith) c.index-high.ensures zero_k in
    let is : c.add.result ≡ get_or (folded k_ops c.args.values.now.items c.args.r) j zero_k =
    c.add.ensures ∙ ap (add_k c.index-low.result.now) (c.mul.ensures ∙ ap (mul_k c.args.r) c.sub.ensures)
    ∙ ap₂ (λ (a b : K). add_k a (mul_k c.args.r (add_k b (neg_k a)))) low high
    ∙ fold_element k_ops k_laws c.args.values.now.items t c.args.r j c.loop-j.invariant.rest in
    record {
      same_length = c.loop-j.invariant.same_length;
      done = below_more _ _ (λ i u. let ne : i ≢ j = omega arith in get_or-set_other t j i _ zero_k ne ∙ c.loop-j.invariant.done i u) (get_or-set_same t j _ zero_k (omega arith) ∙ is);
      rest = λ i u. let ne : i ≢ j = omega arith in get_or-set_other t j i _ zero_k ne ∙ c.loop-j.invariant.rest i (omega arith);
    }

pub returns-clause-folded : goal.returns-clause-folded
returns-clause-folded c =
    let h = c.requires.0 in
    let e = c.requires.1 in
    let m = c.len-half.ensures in
    let g : c.len-half.result / 2 ≡ c.requires.0 = omega arith in
    c.truncate.ensures.items ∙ ap (λ (k : ℕ). take k c.loop-j.values.items) g
    ∙ folded_whole k_ops k_laws c.args.values.now.items c.loop-j.values.items c.args.r c.requires.0 (omega (arith, c.args.values.now.ok)) (omega (arith, c.loop-j.values.ok, c.loop-j.invariant.same_length)) (λ i u. c.loop-j.invariant.done i (omega arith))
