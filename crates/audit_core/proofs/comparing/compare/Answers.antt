-- One layer more is compared
use Rattle.std.proofs.Common.{◌≡◌, ◌+◌, ◌<◌, length, refl, sym, ◌∙◌, ap, subst, arith}
use Rattle.std.proofs.lemmas.List.{get_or_read}
use Rattle.proof_wire.specs.declared.messages.LayerMessages.{LayerMessages}
use Rattle.proof_wire.specs.Lists.{messages_of, all_messages}
use Rattle.audit_core.specs.Found.{IsFoundBelow}
use Rattle.audit_core.proofs.Flat.{length-layer, layer_count, stands_here, number_most}
use Rattle.audit_core.proofs.comparing.compare.Goals as goal

pub loop-layer-init : goal.loop-layer-init
loop-layer-init c = record { number = refl; other_number = refl; found = c.nothing-found.ensures (all_messages c.args.messages.now) (all_messages c.args.truth.now) c.args.drawn.now }

pub compare_layer-found-requires-clause-drawn : goal.compare_layer-found-requires-clause-drawn
compare_layer-found-requires-clause-drawn c =
    let ms = c.args.messages.now in
    let i = c.loop-layer.layer in
    let u : c.loop-layer.layer < length c.args.messages.now = omega arith in
    omega (arith, c.loop-layer.invariant.number, layer_count ms i c.index-messages-layer.result u c.index-messages-layer.is, number_most ms (i + 1), c.requires.drawn)

pub overflow_add-number-in-loop-layer : goal.overflow_add-number-in-loop-layer
overflow_add-number-in-loop-layer c =
    let ms = c.args.messages.now in
    let i = c.loop-layer.layer in
    let u : c.loop-layer.layer < length c.args.messages.now = omega arith in
    omega (arith, c.loop-layer.invariant.number, ap length c.as_slice.ensures, layer_count ms i c.index-messages-layer.result u c.index-messages-layer.is, number_most ms (i + 1), c.requires.drawn, c.requires.few)

pub loop-layer-preserved : goal.loop-layer-preserved
loop-layer-preserved c =
    let ms = c.args.messages.now in
    let ts = c.args.truth.now in
    let i = c.loop-layer.layer in
    let m : LayerMessages = c.index-messages-layer.result in
    let t : LayerMessages = c.index-truth-layer.result in
    let inv = c.loop-layer.invariant in
    let u : c.loop-layer.layer < length c.args.messages.now = omega arith in
    let v : c.loop-layer.layer < length c.args.truth.now = omega (arith, u, c.requires.alike.count) in
    let size : length c.as_slice.result.now ≡ length m.rounds = ap length c.as_slice.ensures in
    let alike : length t.rounds ≡ length m.rounds =
    ap (λ (x : LayerMessages). length x.rounds) (get_or_read ts i t v c.index-truth-layer.is t) ∙ c.requires.alike.rounds i t u
    ∙ ap (λ (x : LayerMessages). length x.rounds) (sym (get_or_read ms i m u c.index-messages-layer.is t)) in
    let step : c.loop-layer.number + length (messages_of m) ≡ c.loop-layer.number + (length c.as_slice.result.now + 1) = omega (arith, size, length-layer m) in
    record {
      number = omega (arith, inv.number, size, layer_count ms i m u c.index-messages-layer.is);
      other_number = omega (arith, inv.other_number, size, alike, layer_count ts i t v c.index-truth-layer.is);
      found = subst (λ n. IsFoundBelow (all_messages c.args.messages.now) (all_messages c.args.truth.now) c.args.drawn.now n c.compare_layer-found.result) step
          (c.compare_layer-found.ensures (all_messages ms) (all_messages ts) inv.found (stands_here ms i m u c.index-messages-layer.is c.loop-layer.number inv.number) (stands_here ts i t v c.index-truth-layer.is c.loop-layer.number inv.other_number));
    }
