-- With each row the product by one more coefficient is in the buffer
use Rattle.std.proofs.Common.{◌≡◌, ◌+◌, ◌-◌, ◌<◌, ◌≤◌, ℕ, List, length, drop, get_or, ◌∙◌, ap, sym, arith, drop_of_length-le}
use Rattle.field_ext.specs.Field.{K, k_ops, zero_k}
use Rattle.field_ext.specs.Polynomial.{product_of}
use Rattle.field_ext.proofs.api.KLaws.{k_laws}
use Rattle.poly_roots.proofs.Coefficients.{rows_step, rows_whole}
use Rattle.poly_roots.proofs.product.add_rows.Goals as goal

pub loop-done-init : goal.loop-done-init
loop-done-init c =
    let left = c.args.left.now in
    let right = c.args.right.now in
    let all : length c.args.left.now ≤ length c.args.left.now - 0 = omega arith in
    record {
      before = λ k u. c.requires.zeros k;
      rows = λ k. c.requires.zeros (length left - 0 + k) ∙ ap (λ (xs : List K). get_or (product_of k_ops xs right) k zero_k) (sym (drop_of_length-le left all));
    }

pub loop-done-preserved : goal.loop-done-preserved
loop-done-preserved c =
    let left = c.args.left.now in
    let right = c.args.right.now in
    let buffer = c.loop-done.buffer in
    let new = c.add_row.new.buffer in
    let row : ℕ = length c.args.left.now - 1 - c.loop-done.done in
    let inside : length c.args.left.now - 1 - c.loop-done.done < length c.args.left.now = omega (arith, c.loop-done-test.true) in
    let place : length c.args.left.now - (c.loop-done.done + 1) ≡ length c.args.left.now - 1 - c.loop-done.done = omega (arith, c.loop-done-test.true) in
    let next : length c.args.left.now - c.loop-done.done ≡ length c.args.left.now - 1 - c.loop-done.done + 1 = omega (arith, c.loop-done-test.true) in
    record {
      before = λ k u. c.add_row.ensures.before k (omega (arith, u, place)) ∙ c.loop-done.invariant.before k (omega (arith, u, place, next));
      rows = λ k.
          ap (λ (n : ℕ). get_or new (n + k) zero_k) place
          ∙ rows_step k_ops k_laws buffer new left right row c.index-left-row.result inside c.index-left-row.is
          (λ j u. c.loop-done.invariant.before j (omega (arith, u, next)))
          (λ j. ap (λ (n : ℕ). get_or buffer (n + j) zero_k) (sym next) ∙ c.loop-done.invariant.rows j ∙ ap (λ (n : ℕ). get_or (product_of k_ops (drop n left) right) j zero_k) next)
          c.add_row.ensures.from k
          ∙ ap (λ (n : ℕ). get_or (product_of k_ops (drop n left) right) k zero_k) (sym place);
    }

pub returns : goal.returns
returns c =
    let left = c.args.left.now in
    let right = c.args.right.now in
    let none : length c.args.left.now - c.loop-done.done ≡ 0 = omega (arith, c.loop-done-test.false) in
    rows_whole k_ops k_laws c.loop-done.buffer left right c.requires.factors.0 c.requires.factors.1 (omega (arith, c.requires.size, c.loop-done.auto.buffer))
    (λ k.
    ap (λ (n : ℕ). get_or c.loop-done.buffer (n + k) zero_k) (sym none) ∙ c.loop-done.invariant.rows k
    ∙ ap (λ (n : ℕ). get_or (product_of k_ops (drop n left) right) k zero_k) none)
