-- Each value is split into its two halves
use Rattle.std.proofs.Common.{◌≡◌, ◌≢◌, ℕ, List, ◌<◌, ◌+◌, arith, ◌∙◌, ap, length, get_or, set, below_more, get_or-set_same, get_or-set_other}
use Rattle.std.proofs.lemmas.List.{get_or_read, length-set}
use Rattle.field_ext.specs.Field.{K, k_ops, add_k, mul_k, neg_k, zero_k}
use Rattle.field_ext.proofs.api.KLaws.{k_laws}
use Rattle.mle_table.proofs.api.EqualitySteps.{equality_doubled}
use Rattle.mle_table.proofs.equality.extend_equality.Goals as goal

-- a place that neither write touches
untouched : (t : List K) (a b i : ℕ) (x y : K) → i ≢ a → i ≢ b → get_or (set (set t a x) b y) i zero_k ≡ get_or t i zero_k
untouched t a b i x y n m = get_or-set_other (set t a x) b i y zero_k m ∙ get_or-set_other t a i x zero_k n

pub loop-g-preserved : goal.loop-g-preserved
loop-g-preserved c =
    let t = c.loop-g.table in
    let g = c.loop-g.g in
    let n = c.args.size in
    let x = c.mul-high.result in
    let y = c.sub.result in
    let inside : c.args.size + c.loop-g.g < length c.loop-g.table = omega arith in
    let whole : c.index-table-g.result ≡ get_or c.args.table.now g zero_k =
    get_or_read t g c.index-table-g.result (omega arith) c.index-table-g.is zero_k ∙ c.loop-g.invariant.rest g (omega arith) (omega arith) in
    let high : x ≡ mul_k (get_or c.args.table.now g zero_k) c.args.u = c.mul-high.ensures ∙ ap (λ (w : K). mul_k w c.args.u) whole in
    let low : y ≡ add_k (get_or c.args.table.now g zero_k) (neg_k (mul_k (get_or c.args.table.now g zero_k) c.args.u)) =
    c.sub.ensures ∙ ap (λ (h : K). add_k c.index-table-g.result (neg_k h)) c.mul-high.ensures ∙ ap (λ (w : K). add_k w (neg_k (mul_k w c.args.u))) whole in
    record {
      low = below_more _ _ (λ i u. untouched t (n + g) g i x y (omega arith) (omega arith) ∙ c.loop-g.invariant.low i u)
          (get_or-set_same (set t (n + g) x) g y zero_k (omega (arith, length-set t (n + g) x)) ∙ low);
      high = below_more _ _ (λ i u. untouched t (n + g) g (n + i) x y (omega arith) (omega arith) ∙ c.loop-g.invariant.high i u)
          (let ne : n + g ≢ g = omega arith in get_or-set_other (set t (n + g) x) g (n + g) y zero_k ne ∙ get_or-set_same t (n + g) x zero_k inside ∙ high);
      rest = λ i u v. untouched t (n + g) g i x y (omega arith) (omega arith) ∙ c.loop-g.invariant.rest i (omega arith) v;
      behind = λ i u. untouched t (n + g) g i x y (omega arith) (omega arith) ∙ c.loop-g.invariant.behind i u;
    }

pub returns-clause-filled : goal.returns-clause-filled
returns-clause-filled c us size is =
    equality_doubled k_ops k_laws us c.args.u c.args.size c.args.table.now c.loop-g.table size is
    (λ g u. c.loop-g.invariant.low g (omega arith)) (λ g u. c.loop-g.invariant.high g (omega arith))
