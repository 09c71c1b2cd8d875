-- A table of zeros has no such coordinate, and one that isn't zero has its first where its fold is
use Rattle.std.proofs.Common.{◌≡◌, ◌<◌, List, length, take, get_or, true, refl, sym, ◌∙◌, subst, arith, below_more}
use Rattle.std.proofs.lemmas.List.{get_or_read}
use Rattle.field_ext.specs.Field.{K, k_ops, zero_k}
use Rattle.field_ext.specs.Polynomial.{IsZero}
use Rattle.field_ext.specs.Multilinear.{folded, folded_all}
use Rattle.gkr_layers.specs.Sumcheck.{IsExceptionalFold}
use Rattle.audit_core.proofs.Folding.{folded_more, zeros_stay}
use Rattle.audit_core.proofs.outputs.first_zeroed.Goals as goal

pub returns-then-is_zero : goal.returns-then-is_zero
returns-then-is_zero c n u h =
    h.0 (zeros_stay c.args.table.items (take n c.args.point.now) (subst (λ (t : List K). IsZero k_ops t) c.values.ensures (c.is_zero.ensures.0 c.if-is_zero.true)))

pub returns-then-is_zero-2 : goal.returns-then-is_zero-2
returns-then-is_zero-2 c =
    let d : List K = c.args.table.items in
    let point : List K = c.args.point.now in
    let n = c.loop-n.n in
    let inv = c.loop-n.invariant in
    let u : c.loop-n.n < length c.args.point.now = omega arith in
    let read : c.index-point-n.result ≡ get_or point n zero_k = get_or_read point n c.index-point-n.result u c.index-point-n.is zero_k in
    let step : c.values-in-loop-n.result.now ≡ folded k_ops (folded_all k_ops d (take n point)) (get_or point n zero_k) =
    c.values-in-loop-n.ensures ∙ c.fold.ensures.items ∙ (λ i. folded k_ops (inv.folded i) (read i)) in (
      n,
      record {
        below = u;
        holds = (λ z. inv.remains (subst (λ (t : List K). IsZero k_ops t) (sym inv.folded) z), subst (λ (t : List K). IsZero k_ops t) step (c.is_zero-in-loop-n.ensures.0 c.if-is_zero-2.true));
        none_before = inv.none_before;
      },
      refl,
    )

pub loop-n-init : goal.loop-n-init
loop-n-init c = record {
  coordinates = omega arith;
  folded = refl;
  remains = λ z. (let e : c.is_zero.result ≡ true = c.is_zero.ensures.1 (subst (λ (t : List K). IsZero k_ops t) (sym c.values.ensures) z) in cc);
  none_before = λ m u. absurd (omega arith);
}

pub loop-n-preserved : goal.loop-n-preserved
loop-n-preserved c =
    let d : List K = c.args.table.items in
    let point : List K = c.args.point.now in
    let n = c.loop-n.n in
    let inv = c.loop-n.invariant in
    let u : c.loop-n.n < length c.args.point.now = omega arith in
    let read : c.index-point-n.result ≡ get_or point n zero_k = get_or_read point n c.index-point-n.result u c.index-point-n.is zero_k in
    let next : c.fold.new.self.items ≡ folded k_ops (folded_all k_ops d (take n point)) (get_or point n zero_k) = c.fold.ensures.items ∙ (λ i. folded k_ops (inv.folded i) (read i)) in
    let remains : ¬ IsZero k_ops c.fold.new.self.items = λ z. (let e : c.is_zero-in-loop-n.result ≡ true = c.is_zero-in-loop-n.ensures.1 (subst (λ (t : List K). IsZero k_ops t) (sym c.values-in-loop-n.ensures) z) in cc) in
    record {
      coordinates = omega (arith, c.fold.ensures.k, inv.coordinates);
      folded = next ∙ sym (folded_more d point n u);
      remains = remains;
      none_before = below_more (λ m. ¬ IsExceptionalFold k_ops d (take m point) (get_or point m zero_k)) n inv.none_before (λ h. remains (subst (λ (t : List K). IsZero k_ops t) (sym next) h.1));
    }

pub returns : goal.returns
returns c n u h = c.loop-n.invariant.none_before n (omega arith) h
