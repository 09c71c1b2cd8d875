use Rattle.std.proofs.Common.{◌≡◌, ◌+◌, ℕ, List, [], ◌∷◌, ◌++◌, sym, ◌∙◌, ap, rules}
use Rattle.field_ext.specs.Field.{K}
use Rattle.transcript_fs.specs.Source.{Source, draws, state_after}
use Rattle.proof_wire.specs.declared.messages.LayerMessages.{LayerMessages}
use Rattle.proof_wire.specs.Lists.{messages_of}
use Rattle.gkr_verify.specs.ShortProof.{filled_layer, next_claim}
use Rattle.gkr_verify.proofs.FillSteps.{LayersFilled, layer_filled, layer_has}
use Rattle.gkr_verify.proofs.filling.fill_layers.Goals as goal

pub fill_layer-requires : goal.fill_layer-requires
fill_layer-requires g c = record {
  has = layer_has g.C.Challenges.source (g.C.Challenges.state c.args.challenges.now) c.args.first c.args.layers.now c.args.drawn.now.items c.loop-layer.layer-index (g.C.Challenges.state c.loop-layer.challenges) c.loop-layer.claim c.loop-layer.made.items c.loop-layer.drawn.items c.loop-layer.invariant
      c.layer-item.result c.loop-layer-test.true c.layer-item.is;
}

pub loop-layer-preserved : goal.loop-layer-preserved
loop-layer-preserved g c =
    let source : Source = g.C.Challenges.source in
    let s0 : List ℕ = g.C.Challenges.state c.args.challenges.now in
    let s : List ℕ = g.C.Challenges.state c.loop-layer.challenges in
    let claim : K = c.loop-layer.claim in
    let made : List LayerMessages = c.loop-layer.made.items in
    let drawn : List K = c.loop-layer.drawn.items in
    let messages : LayerMessages = filled_layer source s claim c.layer-item.result in
    let same : c.in_ok-next.next.messages ≡ messages = c.in_ok-next.ensures.messages in
    let state : g.C.Challenges.state c.fill_layer.new.challenges ≡ state_after source s (messages_of messages) =
    c.in_ok-next.ensures.state ∙ ap (λ (m : LayerMessages). state_after source s (messages_of m)) same in
    let value : c.in_ok-next.next.claim ≡ next_claim source s messages = c.in_ok-next.ensures.claim ∙ ap (next_claim source s) same in
    let grown : c.push.new.self.items ≡ made ++ messages ∷ [] = c.in_ok-push.ensures.items ∙ ap (λ (m : LayerMessages). made ++ m ∷ []) same in
    let behind : c.fill_layer.new.drawn.items ≡ drawn ++ draws source s (messages_of messages) =
    c.in_ok-next.ensures.drawn ∙ ap (λ (m : LayerMessages). drawn ++ draws source s (messages_of m)) same in
    coe 0 1 (j. LayersFilled source s0 c.args.first c.args.layers.now c.args.drawn.now.items (c.loop-layer.layer-index + 1) (sym state j) (sym value j) (sym grown j) (sym behind j))
    (layer_filled source s0 c.args.first c.args.layers.now c.args.drawn.now.items c.loop-layer.layer-index s claim made drawn c.loop-layer.invariant c.layer-item.result c.loop-layer-test.true c.layer-item.is)

pub returns-in_err-made-clause-messages : goal.returns-in_err-made-clause-messages
returns-in_err-made-clause-messages g c = search rules

pub returns-in_err-made-clause-drawn : goal.returns-in_err-made-clause-drawn
returns-in_err-made-clause-drawn g c = search rules

pub returns-in_err-made-clause-state : goal.returns-in_err-made-clause-state
returns-in_err-made-clause-state g c = search rules

pub loop-layer-init : goal.loop-layer-init
loop-layer-init g c = search rules

pub offset_bounds-layers-layer-index : goal.offset_bounds-layers-layer-index
offset_bounds-layers-layer-index g c = search rules

pub returns-in_err-next-clause-messages : goal.returns-in_err-next-clause-messages
returns-in_err-next-clause-messages g c = search rules

pub returns-in_err-next-clause-drawn : goal.returns-in_err-next-clause-drawn
returns-in_err-next-clause-drawn g c = search rules

pub returns-in_err-next-clause-state : goal.returns-in_err-next-clause-state
returns-in_err-next-clause-state g c = search rules

pub returns-in_err-push-clause-messages : goal.returns-in_err-push-clause-messages
returns-in_err-push-clause-messages g c = search rules

pub returns-in_err-push-clause-drawn : goal.returns-in_err-push-clause-drawn
returns-in_err-push-clause-drawn g c = search rules

pub returns-in_err-push-clause-state : goal.returns-in_err-push-clause-state
returns-in_err-push-clause-state g c = search rules
