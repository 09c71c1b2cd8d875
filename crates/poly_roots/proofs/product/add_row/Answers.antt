-- A write adds one product and leaves the other places
use Rattle.std.proofs.Common.{◌≡◌, ◌≢◌, ◌<◌, ◌≤◌, ◌+◌, inl, inr, length, get_or, ◌∙◌, ap, ap₂, arith, below_more, get_or-set_same, get_or-set_other}
use Rattle.std.proofs.lemmas.List.{get_or_read}
use Rattle.std.proofs.lemmas.Bool.{cases_lt}
use Rattle.field_ext.specs.Field.{k_ops, zero_k, add_k, mul_k}
use Rattle.field_ext.proofs.api.KLaws.{k_laws}
use Rattle.poly_roots.proofs.Coefficients.{nothing_added}
use Rattle.poly_roots.proofs.product.add_row.Goals as goal

pub loop-i-preserved : goal.loop-i-preserved
loop-i-preserved c =
    let t = c.loop-i.buffer in
    let i = c.loop-i.i in
    let w = c.args.row + c.loop-i.i in
    let x = c.add-sum.result in
    let inside : c.args.row + c.loop-i.i < length c.loop-i.buffer = omega arith in
    let old : c.index-buffer-row.result ≡ get_or c.args.buffer.now w zero_k =
    get_or_read t w c.index-buffer-row.result inside c.index-buffer-row.is zero_k ∙ c.loop-i.invariant.rest i (omega arith) in
    let by : c.index-coefficients-i.result ≡ get_or c.args.coefficients.now i zero_k =
    get_or_read c.args.coefficients.now i c.index-coefficients-i.result c.loop-i-test.true c.index-coefficients-i.is zero_k in
    let is : x ≡ add_k (get_or c.args.buffer.now w zero_k) (mul_k c.args.c (get_or c.args.coefficients.now i zero_k)) =
    c.add-sum.ensures ∙ ap₂ add_k old (c.mul.ensures ∙ ap (mul_k c.args.c) by) in
    record {
      before = λ k u. let ne : k ≢ c.args.row + c.loop-i.i = omega arith in get_or-set_other t w k x zero_k ne ∙ c.loop-i.invariant.before k u;
      done = below_more _ _ (λ k u. let ne : c.args.row + k ≢ c.args.row + c.loop-i.i = omega arith in get_or-set_other t w (c.args.row + k) x zero_k ne ∙ c.loop-i.invariant.done k u)
          (get_or-set_same t w x zero_k inside ∙ is);
      rest = λ k u. let ne : c.args.row + k ≢ c.args.row + c.loop-i.i = omega arith in get_or-set_other t w (c.args.row + k) x zero_k ne ∙ c.loop-i.invariant.rest k (omega arith);
    }

pub returns-clause-from : goal.returns-clause-from
returns-clause-from c k =
    elim (cases_lt k c.loop-i.i) [
      | inl u ↦ c.loop-i.invariant.done k u
      | inr u ↦
          let past : length c.args.coefficients.now ≤ k = omega arith in
          c.loop-i.invariant.rest k u ∙ nothing_added k_ops k_laws (get_or c.args.buffer.now (c.args.row + k) zero_k) c.args.c c.args.coefficients.now k past
    ]
