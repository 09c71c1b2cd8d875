-- Four pairs are folded
use Rattle.std.proofs.Common.{◌≡◌, ◌∙◌, List, ℕ, ap, sym, subst, arith}
use Rattle.lane_kernel.specs.Kernel.{re_at, im_at, AreAt}
use Rattle.lane_kernel.specs.Four.{stored, combination, lows, differences, all_of, opposite}
use Rattle.lane_kernel.proofs.Stored.{four_re, four_im}
use Rattle.lane_kernel.proofs.fold.fold_four.Goals as goal

pub returns-clause-re : goal.returns-clause-re
returns-clause-re c =
    let re = c.args.re.now in
    let im = c.args.im.now in
    let j = c.args.j in
    let other = c.opposites.ensures ∙ ap opposite c.differences_from-more_im.ensures.differences in
    let is : c.combined-new_re.result ≡ combination (lows re j) (differences re j) (all_of c.args.s) (opposite (differences im j)) (all_of c.args.t) =
    c.combined-new_re.ensures ∙ (λ i. combination (c.lows_from-low_re.ensures.lows i) (c.differences_from-more_re.ensures.differences i) (c.splat-by_re.ensures i) (other i) (c.splat-by_im.ensures i)) in
    subst (λ (l : List ℕ). AreAt j 4 (re_at re im c.args.s c.args.t) re l) (sym (c.store.ensures ∙ ap (stored re j) is)) (four_re re im c.args.s c.args.t j (omega arith))

pub returns-clause-im : goal.returns-clause-im
returns-clause-im c =
    let re = c.args.re.now in
    let im = c.args.im.now in
    let j = c.args.j in
    let is : c.combined-new_im.result ≡ combination (lows im j) (differences im j) (all_of c.args.s) (differences re j) (all_of c.args.t) =
    c.combined-new_im.ensures ∙ (λ i. combination (c.lows_from-low_im.ensures.lows i) (c.differences_from-more_im.ensures.differences i) (c.splat-by_re.ensures i) (c.differences_from-more_re.ensures.differences i) (c.splat-by_im.ensures i)) in
    subst (λ (l : List ℕ). AreAt j 4 (im_at re im c.args.s c.args.t) im l) (sym (c.store-2.ensures ∙ ap (stored im j) is)) (four_im re im c.args.s c.args.t j (omega arith))
