use Rattle.std.proofs.Common.{◌≡◌, ℕ, ◌+◌, ◌^◌, ◌<◌, length, arith, refl, ◌∙◌, ap, ap₂, add-one, pow-suc, pow_pos, subst, get_or-set_same}
use Rattle.std.proofs.lemmas.List.{length-set, get_or_read}
use Rattle.field_ext.specs.Field.{k_ops, zero_k, sub_k}
use Rattle.field_ext.proofs.api.KLaws.{k_laws}
use Rattle.line_reduce.specs.Rows.{AreWeights}
use Rattle.line_reduce.proofs.SplitRows.{weights_begin, weights_more, weights_fit}
use Rattle.line_reduce.proofs.weights.fill_weights.Goals as goal

pub split_rows-requires-clause-fits : goal.split_rows-requires-clause-fits
split_rows-requires-clause-fits c =
    weights_fit c.loop-j.j c.args.known c.loop-j.size (length c.loop-j.weights) c.loop-j-test.true c.loop-j.invariant.size (omega (arith, c.requires.size, c.loop-j.invariant.places))

pub loop-j-init : goal.loop-j-init
loop-j-init c = record {
  size = refl;
  places = length-set c.args.weights.now 0 c.one.result;
  weights = λ e. weights_begin k_ops k_laws _ c.args.b.now c.args.c.now (c.args.known + 1) e (get_or-set_same c.args.weights.now 0 c.one.result zero_k (omega (arith, c.requires.size, pow_pos c.args.known)) ∙ c.one.ensures);
}

pub loop-j-preserved : goal.loop-j-preserved
loop-j-preserved c =
    let j = c.loop-j.j in
    let b = c.args.b.now in
    let u : c.loop-j.j < length c.args.b.now = omega arith in
    record {
      size = omega (arith, c.loop-j.invariant.size, ap (λ (k : ℕ). 2 ^ k) (add-one j), pow-suc 2 j);
      places = c.split_rows.auto.rows ∙ c.loop-j.invariant.places;
      weights = λ e.
          weights_more k_ops k_laws c.loop-j.weights c.split_rows.new.rows b c.args.c.now j (c.args.known + 1) c.loop-j.size c.index-b-j.result c.sub.result e u c.requires.end c.loop-j.invariant.size
          (get_or_read b j c.index-b-j.result u c.index-b-j.is zero_k)
          (c.sub.ensures ∙ ap₂ sub_k (get_or_read c.args.c.now j c.index-c-j.result (omega arith) c.index-c-j.is zero_k) (get_or_read b j c.index-b-j-in-loop-j.result u c.index-b-j-in-loop-j.is zero_k))
          (c.split_rows.ensures.high e) (c.split_rows.ensures.low e) (c.loop-j.invariant.weights e);
    }

pub returns : goal.returns
returns c e =
    let all : c.loop-j.j ≡ c.args.known = omega arith in
    subst (λ (n : ℕ). AreWeights k_ops n (c.args.known + 1) c.loop-j.weights c.args.b.now c.args.c.now e) all (c.loop-j.invariant.weights e)
