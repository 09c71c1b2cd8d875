use Rattle.std.proofs.Common.{◌≡◌, ◌+◌, ◌*◌, arith, ◌∙◌, ap, ap₂, below_more}
use Rattle.field_ext.specs.Field.{K, k_ops, add_k, sub_k, mul_k}
use Rattle.field_ext.proofs.api.KLaws.{k_laws}
use Rattle.line_reduce.specs.Rows.{row_value}
use Rattle.line_reduce.proofs.Steps.{row-same, row_fits}
use Rattle.line_reduce.proofs.weights.split_rows.Goals as goal

pub split_row-requires-clause-apart : goal.split_row-requires-clause-apart
split_row-requires-clause-apart c = let fits = row_fits c.loop-q.q c.args.size c.args.width c.loop-q-test.true in omega (arith, fits)

pub split_row-requires-clause-to : goal.split_row-requires-clause-to
split_row-requires-clause-to c = let fits = row_fits c.loop-q.q c.args.size c.args.width c.loop-q-test.true in omega (arith, fits)

pub loop-q-preserved : goal.loop-q-preserved
loop-q-preserved c =
    let q = c.loop-q.q in
    let n = c.args.n in
    let width = c.args.width in
    let size = c.args.size in
    let old = c.args.rows.now in
    let before = c.loop-q.rows in
    let new = c.split_row.new.rows in
    let here = row_fits q size width c.loop-q-test.true in
    let same : (e : K) → row_value k_ops before (q * width) n e ≡ row_value k_ops old (q * width) n e =
    λ e. row-same k_ops k_laws before old (q * width) n e (λ x u v. c.loop-q.invariant.unread x u (omega (arith, here, v))) in
    record {
      high = λ e. below_more _ _
          (λ p u.
          let fits = row_fits p q width u in
          row-same k_ops k_laws new before ((size + p) * width) (n + 1) e (λ x v w. c.split_row.ensures.middle x (omega (arith, here, fits, v)) (omega (arith, here, fits, w)))
          ∙ c.loop-q.invariant.high e p u)
          (c.split_row.ensures.high e ∙ ap (mul_k (add_k c.args.start (mul_k e c.args.step))) (same e));
      low = λ e. below_more _ _
          (λ p u.
          let fits = row_fits p q width u in
          row-same k_ops k_laws new before (p * width) (n + 1) e (λ x v w. c.split_row.ensures.before x (omega (arith, fits, w)))
          ∙ c.loop-q.invariant.low e p u)
          (c.split_row.ensures.low e ∙ ap₂ sub_k (same e) (c.split_row.ensures.high e ∙ ap (mul_k (add_k c.args.start (mul_k e c.args.step))) (same e)));
      unread = λ x u v. c.split_row.ensures.middle x (omega (arith, u)) (omega (arith, v)) ∙ c.loop-q.invariant.unread x (omega (arith, u)) v;
    }
