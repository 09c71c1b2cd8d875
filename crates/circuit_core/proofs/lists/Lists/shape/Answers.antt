use Rattle.std.proofs.Common.{◌≡◌, ◌∙◌, ◌++◌, ◌∷◌, [], length, sym, ap, ap₂, arith}
use Rattle.std.specs.Prelude.{unwrap_or}
use Rattle.std.proofs.lemmas.List.FromFn.{map-range_with_len_more, length-map-range_with_len}
use Rattle.circuit_core.specs.Faults.{exponent_of}
use Rattle.circuit_core.specs.Sound.{greatest, exponent_at}
use Rattle.circuit_core.proofs.api.Faultless.{height_bounds, exponents_bounded}
use Rattle.circuit_core.proofs.lists.Lists.shape.Goals as goal

pub loop-layer-preserved : goal.loop-layer-preserved
loop-layer-preserved c =
    let f = exponent_at c.args.self.now in
    let i = c.loop-layer.layer in
    let k : c.unwrap_or.result ≡ f i = c.unwrap_or.ensures ∙ ap (λ o. unwrap_or o 0) (c.exponent_of.ensures ∙ ap (exponent_of greatest) c.width.ensures) in
    c.in_ok-push.ensures.items ∙ ap₂ (λ ks k. ks ++ k ∷ []) c.loop-layer.invariant k ∙ sym (map-range_with_len_more f 0 i i (omega arith))

pub of-requires-clause-long : goal.of-requires-clause-long
of-requires-clause-long c =
    let bounds = height_bounds c.args.self.now c.requires in
    let count = ap length c.loop-layer.invariant ∙ length-map-range_with_len (exponent_at c.args.self.now) 0 c.loop-layer.layer in
    omega (arith, count, bounds.0, c.loop-layer.ks.ok.0)

pub of-requires-clause-short : goal.of-requires-clause-short
of-requires-clause-short c =
    let bounds = height_bounds c.args.self.now c.requires in
    let count = ap length c.loop-layer.invariant ∙ length-map-range_with_len (exponent_at c.args.self.now) 0 c.loop-layer.layer in
    omega (arith, count, bounds.1, c.loop-layer.ks.ok.0)

pub of-requires-clause-bounded : goal.of-requires-clause-bounded
of-requires-clause-bounded c = rw c.loop-layer.invariant (exponents_bounded c.args.self.now c.requires 0 c.loop-layer.layer (omega arith))
