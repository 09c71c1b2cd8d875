use Rattle.std.proofs.Common.{◌≡◌, ◌≢◌, ℕ, ◌+◌, ◌<◌, List, length, get_or, set, arith, refl, ◌∙◌, ap, sym, get_or-set_other}
use Rattle.std.proofs.lemmas.List.{get_or_read}
use Rattle.field_ext.specs.Field.{K, k_ops, zero_k, add_k, sub_k, mul_k}
use Rattle.field_ext.proofs.api.KLaws.{k_laws}
use Rattle.line_reduce.specs.Rows.{row_value}
use Rattle.line_reduce.proofs.Steps.{carried}
use Rattle.line_reduce.proofs.SplitRows.{high_step, low_step, high_end, low_end, high_none, low_none}
use Rattle.line_reduce.proofs.weights.split_row.Goals as goal

-- what two writes leave
two_kept : (rows old : List K) (i j x : ℕ) (y z : K) → x ≢ i → x ≢ j → get_or rows x zero_k ≡ get_or old x zero_k → get_or (set (set rows i y) j z) x zero_k ≡ get_or old x zero_k
two_kept rows old i j x y z u v h = get_or-set_other (set rows i y) j x z zero_k v ∙ get_or-set_other rows i x y zero_k u ∙ h

pub loop-i-init : goal.loop-i-init
loop-i-init c =
    let rows = c.args.rows.now in
    record {
      high = λ e. high_none k_ops k_laws rows rows c.args.to c.args.at c.args.start c.args.step c.zero-carry.result e c.zero-carry.ensures;
      low = λ e. low_none k_ops k_laws rows rows c.args.to c.args.at e;
      before = λ x u. refl;
      unread = λ x u v. refl;
      after = λ x u. refl;
    }

pub loop-i-preserved : goal.loop-i-preserved
loop-i-preserved c =
    let rows = c.loop-i.rows in
    let old = c.args.rows.now in
    let to = c.args.to in
    let at = c.args.at in
    let n = c.args.n in
    let i = c.loop-i.i in
    let here = c.index-rows-at.result in
    let high = c.add-high.result in
    let rest = c.sub.result in
    let is : c.index-rows-at.result ≡ get_or c.args.rows.now (c.args.at + c.loop-i.i) zero_k =
    get_or_read rows (at + i) c.index-rows-at.result (omega arith) c.index-rows-at.is zero_k ∙ c.loop-i.invariant.unread (at + i) (omega arith) (omega arith) in
    let apart : c.args.at + c.loop-i.i < c.args.to = omega arith in
    let capacity : c.args.to + c.loop-i.i < length c.loop-i.rows = omega arith in
    record {
      high = λ e. high_step k_ops k_laws rows old to at i apart capacity c.args.start c.args.step here high c.loop-i.carry c.mul-carry.result rest e is (c.add-high.ensures ∙ ap (λ x. add_k x c.loop-i.carry) c.mul.ensures) c.mul-carry.ensures (c.loop-i.invariant.high e);
      low = λ e. low_step k_ops k_laws rows old to at i apart capacity here high rest e is c.sub.ensures (c.loop-i.invariant.low e);
      before = λ x u.
          let one : x ≢ c.args.to + c.loop-i.i = omega (arith, u) in
          let two : x ≢ c.args.at + c.loop-i.i = omega (arith, u) in
          two_kept rows old (to + i) (at + i) x high rest one two (c.loop-i.invariant.before x u);
      unread = λ x u v.
          let one : x ≢ c.args.to + c.loop-i.i = omega (arith, v) in
          let two : x ≢ c.args.at + c.loop-i.i = omega (arith, u) in
          two_kept rows old (to + i) (at + i) x high rest one two (c.loop-i.invariant.unread x (omega (arith, u)) v);
      after = λ x u.
          let one : x ≢ c.args.to + c.loop-i.i = omega (arith, u) in
          let two : x ≢ c.args.at + c.loop-i.i = omega (arith, u) in
          two_kept rows old (to + i) (at + i) x high rest one two (c.loop-i.invariant.after x (omega (arith, u)));
    }

pub returns : goal.returns
returns c =
    let rows = c.loop-i.rows in
    let old = c.args.rows.now in
    let to = c.args.to in
    let at = c.args.at in
    let n = c.args.n in
    let carry = c.loop-i.carry in
    let rest = c.sub-2.result in
    let all : c.loop-i.i ≡ c.args.n = omega arith in
    let apart : c.args.at + c.args.n < c.args.to = c.requires.apart in
    let capacity : c.args.to + c.args.n < length c.loop-i.rows = omega arith in
    record {
      high = λ e.
          high_end k_ops k_laws rows old to at n apart capacity c.args.start c.args.step carry rest e
          ((λ k. carried k_ops rows to (sym all k) carry e) ∙ c.loop-i.invariant.high e ∙ (λ k. mul_k (add_k c.args.start (mul_k e c.args.step)) (row_value k_ops old at (all k) e)));
      low = λ e.
          low_end k_ops k_laws rows old to at n apart capacity carry rest e (c.sub-2.ensures ∙ ap (λ x. sub_k x carry) c.zero.ensures)
          ((λ k. row_value k_ops rows at (sym all k) e) ∙ c.loop-i.invariant.low e ∙ (λ k. sub_k (row_value k_ops old at (all k) e) (row_value k_ops rows to (all k) e)));
      before = λ x u.
          let one : x ≢ c.args.to + c.args.n = omega (arith, u) in
          let two : x ≢ c.args.at + c.args.n = omega (arith, u) in
          two_kept rows old (to + n) (at + n) x carry rest one two (c.loop-i.invariant.before x u);
      middle = λ x u v.
          let one : x ≢ c.args.to + c.args.n = omega (arith, v) in
          let two : x ≢ c.args.at + c.args.n = omega (arith, u) in
          two_kept rows old (to + n) (at + n) x carry rest one two (c.loop-i.invariant.unread x (omega (arith, u)) v);
      after = λ x u.
          let one : x ≢ c.args.to + c.args.n = omega (arith, u) in
          let two : x ≢ c.args.at + c.args.n = omega (arith, u) in
          two_kept rows old (to + n) (at + n) x carry rest one two (c.loop-i.invariant.after x (omega (arith, u)));
    }
