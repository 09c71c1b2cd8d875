use Rattle.std.proofs.Common.{◌≡◌, ℕ, ◌+◌, ◌-◌, ◌*◌, ◌/◌, ◌^◌, ◌<◌, ◌≤◌, length, arith, ◌∙◌, ap, ap₂, sym, subst}
use Rattle.std.proofs.lemmas.List.{get_or_read}
use Rattle.field_ext.specs.Field.{k_ops, zero_k, sub_k}
use Rattle.field_ext.proofs.api.KLaws.{k_laws}
use Rattle.line_reduce.specs.Rows.{row_value, HaveFolds}
use Rattle.line_reduce.proofs.Steps.{rows_more, even_count, rows_shrink, shifted}
use Rattle.line_reduce.proofs.rows.fold_by_line.Goals as goal

pub loop-j-init : goal.loop-j-init
loop-j-init c =
    let all = shifted (length c.args.b.now - c.args.from) (omega (arith, c.requires.most)) in
    record {
      count = all;
      size = subst (λ (n : ℕ). n * (c.args.from + 1) ≤ length c.args.rows.now) (sym all) c.requires.size;
      folds = λ t e h. subst (λ (n : ℕ). HaveFolds k_ops c.args.from n c.args.rows.now t c.args.b.now c.args.c.now e) (sym all) h;
    }

pub fold_rows-requires-clause-size : goal.fold_rows-requires-clause-size
fold_rows-requires-clause-size c =
    let half = even_count (length c.args.b.now) c.loop-j.j c.loop-j.count c.loop-j-test.true c.loop-j.invariant.count in
    omega (arith, ap (λ n. n * (c.loop-j.j + 1)) half.0, c.loop-j.invariant.size)

pub loop-j-preserved : goal.loop-j-preserved
loop-j-preserved c =
    let j = c.loop-j.j in
    let b = c.args.b.now in
    let old = c.loop-j.rows in
    let u : c.loop-j.j < length c.args.b.now = omega (arith, c.loop-j-test.true) in
    let half = even_count (length c.args.b.now) c.loop-j.j c.loop-j.count c.loop-j-test.true c.loop-j.invariant.count in
    record {
      count = half.1;
      size = subst (λ (n : ℕ). c.loop-j.count / 2 * (c.loop-j.j + 1 + 1) ≤ n) (sym c.fold_rows.auto.rows) (rows_shrink c.loop-j.count c.loop-j.j (length c.loop-j.rows) half.0 c.loop-j.invariant.size);
      folds = λ t e h p v.
          let at : 2 * p * (c.loop-j.j + 1) ≡ p * 2 * (c.loop-j.j + 1) = omega arith in
          let at' : 2 * p * (c.loop-j.j + 1) + (c.loop-j.j + 1) ≡ (p * 2 + 1) * (c.loop-j.j + 1) = omega arith in
          rows_more k_ops k_laws old c.fold_rows.new.rows t b c.args.c.now j p c.index-b-j.result c.sub.result e u c.requires.end
          (get_or_read b j c.index-b-j.result u c.index-b-j.is zero_k)
          (c.sub.ensures ∙ ap₂ sub_k (get_or_read c.args.c.now j c.index-c-j.result (omega arith) c.index-c-j.is zero_k) (get_or_read b j c.index-b-j-in-loop-j.result u c.index-b-j-in-loop-j.is zero_k))
          ((λ i. row_value k_ops old (at i) (j + 1) e) ∙ c.loop-j.invariant.folds t e h (p * 2) (omega (arith, half.0)))
          ((λ i. row_value k_ops old (at' i) (j + 1) e) ∙ c.loop-j.invariant.folds t e h (p * 2 + 1) (omega (arith, half.0)))
          (c.fold_rows.ensures e p v);
    }

pub returns : goal.returns
returns c t e h =
    let all : c.loop-j.j ≡ length c.args.b.now = omega (arith, c.requires.from) in
    let none : length c.args.b.now - c.loop-j.j ≡ 0 = omega arith in
    let one : c.loop-j.count ≡ 1 = c.loop-j.invariant.count ∙ ap (λ (m : ℕ). 2 ^ m) none in
    subst (λ (n : ℕ). HaveFolds k_ops n 1 c.loop-j.rows t c.args.b.now c.args.c.now e) all
    (subst (λ (n : ℕ). HaveFolds k_ops c.loop-j.j n c.loop-j.rows t c.args.b.now c.args.c.now e) one (c.loop-j.invariant.folds t e h))
