-- Four pairs more, or one
use Rattle.std.proofs.Common.{rules, ◌≡◌, ℕ, ◌+◌, ◌*◌, ◌∙◌, ap, arith}
use Rattle.lane_kernel.specs.Sums.{Parts, parts}
use Rattle.lane_kernel.specs.Lanes.{sums_of, added}
use Rattle.lane_kernel.proofs.Totals.{four_added, one_added}
use Rattle.lane_kernel.proofs.sums.pair_sums.Goals as goal

pub loop-block-preserved : goal.loop-block-preserved
loop-block-preserved c =
    let v : Parts = parts c.args.v_re.now c.args.v_im.now in
    let g : Parts = parts c.args.g_re.now c.args.g_im.now in
    let a : Parts = parts c.args.a_re.now c.args.a_im.now in
    let n : ℕ = 4 * c.loop-block.block in
    let next : n + 4 ≡ 4 * (c.loop-block.block + 1) = omega arith in record {
      sums = c.with_lines-sums.ensures.value
          ∙ (λ i. added (c.loop-block.invariant.sums i) (c.four_lines-v.ensures.lines i) (c.four_lines-g.ensures.lines i) (c.four_lines.ensures.lines i))
          ∙ four_added n v g a
          ∙ ap (λ (m : ℕ). sums_of m v g a) next;
      below = c.with_lines-sums.ensures.below;
    }

pub loop-j-preserved : goal.loop-j-preserved
loop-j-preserved c =
    let v : Parts = parts c.args.v_re.now c.args.v_im.now in
    let g : Parts = parts c.args.g_re.now c.args.g_im.now in
    let a : Parts = parts c.args.a_re.now c.args.a_im.now in record {
      sums = c.with_lines-sums-in-loop-j.ensures.value
          ∙ (λ i. added (c.loop-j.invariant.sums i) (c.one_line-v.ensures.lines i) (c.one_line-g.ensures.lines i) (c.one_line.ensures.lines i))
          ∙ one_added c.loop-j.j v g a;
      below = c.with_lines-sums-in-loop-j.ensures.below;
    }

pub returns : goal.returns
returns c = search rules
