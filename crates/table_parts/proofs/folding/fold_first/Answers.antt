-- Block after block is folded
use Rattle.std.proofs.Common.{◌≡◌, ◌+◌, ◌*◌, ◌%◌, ◌-◌, arith}
use Rattle.field_ext.specs.Field.{k_ops}
use Rattle.field_ext.proofs.api.KLaws.{k_laws}
use Rattle.table_parts.proofs.Folds.{done_more, rest_more}
use Rattle.table_parts.proofs.folding.fold_first.Goals as goal

pub loop-number-preserved : goal.loop-number-preserved
loop-number-preserved g c =
    let n = c.loop-number.number in
    let more : 128 * c.loop-number.number + 128 ≡ 128 * (c.loop-number.number + 1) = omega arith in
    record {
      steps = omega (arith, c.fold_block.ensures.steps);
      done = done_more k_ops k_laws c.args.values.now c.loop-number.values c.fold_block.new.values c.args.r (128 * n) 128 (128 * (n + 1)) more c.loop-number.invariant.done c.loop-number.invariant.rest c.fold_block.ensures.before c.fold_block.ensures.within;
      rest = rest_more k_ops k_laws c.args.values.now c.loop-number.values c.fold_block.new.values (128 * n) 128 (128 * (n + 1)) more c.loop-number.invariant.rest c.fold_block.ensures.after;
    }

pub returns-clause-folded : goal.returns-clause-folded
returns-clause-folded g c =
    let from = c.args.half - c.args.half % 128 in
    let all : 128 * c.loop-number.number ≡ c.args.half - c.args.half % 128 = omega (arith, c.loop-number-test.false, c.loop-number.auto.number-end) in
    let whole : c.args.half - c.args.half % 128 + c.args.half % 128 ≡ c.args.half = omega arith in
    done_more k_ops k_laws c.args.values.now c.loop-number.values c.fold_block-2.new.values c.args.r from (c.args.half % 128) c.args.half whole
    (λ i u. c.loop-number.invariant.done i (omega (arith, u, all))) (λ i u. c.loop-number.invariant.rest i (omega (arith, u, all))) c.fold_block-2.ensures.before c.fold_block-2.ensures.within
