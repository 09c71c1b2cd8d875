use Rattle.std.proofs.Common.{◌≡◌, ◌≢◌, ◌+◌, get_or, arith, ◌∙◌, ap, refl, sym, get_or-set_other}
use Rattle.std.proofs.lemmas.List.{get_or_read}
use Rattle.field_ext.specs.Field.{k_ops, zero_k, add_k, mul_k}
use Rattle.field_ext.proofs.api.KLaws.{k_laws}
use Rattle.line_reduce.specs.Rows.{row_value, between}
use Rattle.line_reduce.proofs.Steps.{carried, fold_none, fold_step, row_written}
use Rattle.line_reduce.proofs.rows.fold_row.Goals as goal

pub loop-i-init : goal.loop-i-init
loop-i-init c = record {
  row = λ e. fold_none k_ops k_laws c.args.rows.now c.args.rows.now c.args.to c.args.at (c.args.at + c.args.n) c.args.start c.args.step c.zero-carry.result e c.zero-carry.ensures;
  before = λ x u. refl;
  unread = λ x u. refl;
}

pub loop-i-preserved : goal.loop-i-preserved
loop-i-preserved c =
    let rows = c.loop-i.rows in
    let old = c.args.rows.now in
    let to = c.args.to in
    let at = c.args.at in
    let n = c.args.n in
    let i = c.loop-i.i in
    let low : c.index-rows-at.result ≡ get_or c.args.rows.now (c.args.at + c.loop-i.i) zero_k =
    get_or_read rows (at + i) c.index-rows-at.result (omega arith) c.index-rows-at.is zero_k ∙ c.loop-i.invariant.unread (at + i) (omega arith) in
    let high : c.index-rows-at-in-loop-i.result ≡ get_or c.args.rows.now (c.args.at + c.args.n + c.loop-i.i) zero_k =
    get_or_read rows (at + n + i) c.index-rows-at-in-loop-i.result (omega arith) c.index-rows-at-in-loop-i.is zero_k ∙ c.loop-i.invariant.unread (at + n + i) (omega arith) in
    record {
      row = λ e.
          fold_step k_ops k_laws rows old to at (at + n) i c.args.start c.args.step c.index-rows-at.result c.index-rows-at-in-loop-i.result c.sub-difference.result c.add-in-loop-i.result c.loop-i.carry c.mul-carry.result e
          (omega arith) low high c.sub-difference.ensures
          (c.add-in-loop-i.ensures ∙ ap (λ x. add_k x c.loop-i.carry) (c.add.ensures ∙ ap (add_k c.index-rows-at.result) c.mul.ensures))
          c.mul-carry.ensures (c.loop-i.invariant.row e);
      before = λ x u.
          let ne : x ≢ c.args.to + c.loop-i.i = omega arith in
          get_or-set_other rows (to + i) x c.add-in-loop-i.result zero_k ne ∙ c.loop-i.invariant.before x u;
      unread = λ x u.
          let ne : x ≢ c.args.to + c.loop-i.i = omega (arith, u) in
          get_or-set_other rows (to + i) x c.add-in-loop-i.result zero_k ne ∙ c.loop-i.invariant.unread x (omega (arith, u));
    }

pub returns : goal.returns
returns c =
    let rows = c.loop-i.rows in
    let to = c.args.to in
    let n = c.args.n in
    let all : c.loop-i.i ≡ c.args.n = omega arith in
    record {
      row = λ e.
          row_written k_ops k_laws rows to n c.loop-i.carry e (omega arith)
          ∙ (λ k. carried k_ops rows to (sym all k) c.loop-i.carry e)
          ∙ c.loop-i.invariant.row e
          ∙ (λ k. between k_ops (row_value k_ops c.args.rows.now c.args.at (all k) e) (row_value k_ops c.args.rows.now (c.args.at + n) (all k) e) (add_k c.args.start (mul_k e c.args.step)));
      before = λ x u.
          let ne : x ≢ c.args.to + c.args.n = omega (arith, u) in
          get_or-set_other rows (to + n) x c.loop-i.carry zero_k ne ∙ c.loop-i.invariant.before x u;
      after = λ x u.
          let ne : x ≢ c.args.to + c.args.n = omega (arith, u) in
          get_or-set_other rows (to + n) x c.loop-i.carry zero_k ne ∙ c.loop-i.invariant.unread x (omega (arith, u));
    }
