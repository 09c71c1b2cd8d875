use Rattle.std.proofs.Common.{List, ◌∙◌, ap, map, sym, subst}
use Rattle.std.proofs.lemmas.List.{take_all}
use Rattle.proof_two.specs.declared.pairs.LayerPairs.{LayerPairs}
use Rattle.proof_two.specs.Lists.{HavePairs, short_layer}
use Rattle.proof_two.proofs.api.Shortened.{short_shape}
use Rattle.proof_two.proofs.shortening.shorten.Goals as goal

pub returns-clause-shape : goal.returns-clause-shape
returns-clause-shape c = λ ks h.
    let whole = take_all c.loop-layer.layer-index c.as_slice-from.result.now c.loop-layer-test.false in
    subst (λ (p : List LayerPairs). HavePairs ks p)
    (sym (c.of.ensures ∙ c.loop-layer.invariant ∙ ap (map short_layer) (whole ∙ c.as_slice-from.ensures)))
    (short_shape ks c.args.messages.now.layers h)
