-- One message more is compared
use Rattle.std.proofs.Common.{◌≡◌, ◌+◌, ◌<◌, List, [], length, get_or, sym, ◌∙◌, ap, subst, arith}
use Rattle.std.proofs.lemmas.List.{get_or_read}
use Rattle.field_ext.specs.Field.{zero_k}
use Rattle.proof_wire.specs.declared.messages.LayerMessages.{LayerMessages}
use Rattle.proof_wire.specs.declared.messages.Round.{Round}
use Rattle.proof_wire.specs.Lists.{messages_of}
use Rattle.audit_core.specs.Found.{IsFoundBelow}
use Rattle.audit_core.proofs.Flat.{length-layer, read_round, read_last}
use Rattle.audit_core.proofs.comparing.compare_layer.Goals as goal

pub loop-j-preserved : goal.loop-j-preserved
loop-j-preserved c qs ts before stands true_stands =
    let m : LayerMessages = c.args.messages.now in
    let t : LayerMessages = c.args.truth.now in
    let j = c.loop-j.j in
    let n = c.args.number in
    let r : Round = c.index-rounds-j.result in
    let r' : Round = c.index-true_rounds-j.result in
    let u : c.loop-j.j < length c.args.messages.now.rounds = omega (arith, ap length c.as_slice-rounds.ensures) in
    let v : c.loop-j.j < length c.args.truth.now.rounds = omega (arith, u, c.requires.rounds) in
    let is = c.index-rounds-j.is ∙ ap (λ (xs : List Round). get_or xs c.loop-j.j r) c.as_slice-rounds.ensures in
    let is' = c.index-true_rounds-j.is ∙ ap (λ (xs : List Round). get_or xs c.loop-j.j r') c.as_slice-true_rounds.ensures in
    let inside : c.args.number + c.loop-j.j < length c.args.drawn.now = omega (arith, u, c.requires.drawn) in
    let next : c.args.number + c.loop-j.j + 1 ≡ c.args.number + (c.loop-j.j + 1) = omega arith in
    subst (λ i. IsFoundBelow qs ts c.args.drawn.now i c.with-found.result) next
    (c.with-found.ensures qs ts c.args.drawn.now (c.loop-j.invariant qs ts before stands true_stands)
    (stands j (omega (arith, u, length-layer m)) ∙ read_round m j r u is ∙ sym c.coefficients-message.ensures)
    (true_stands j (omega (arith, v, length-layer t)) ∙ read_round t j r' v is' ∙ sym c.coefficients-true_message.ensures)
    (sym (get_or_read c.args.drawn.now (n + j) c.index-drawn-number.result inside c.index-drawn-number.is zero_k)))

pub returns : goal.returns
returns c qs ts before stands true_stands =
    let m : LayerMessages = c.args.messages.now in
    let t : LayerMessages = c.args.truth.now in
    let n = c.args.number in
    let count : length c.as_slice-rounds.result.now ≡ length c.args.messages.now.rounds = ap length c.as_slice-rounds.ensures in
    let all : c.args.number + c.loop-j.j ≡ c.args.number + length c.as_slice-rounds.result.now = omega arith in
    let inside : c.args.number + length c.as_slice-rounds.result.now < length c.args.drawn.now = omega (arith, count, c.requires.drawn) in
    let here : c.args.number + length c.args.messages.now.rounds ≡ c.args.number + length c.as_slice-rounds.result.now = omega (arith, count) in
    let there : c.args.number + length c.args.truth.now.rounds ≡ c.args.number + length c.as_slice-rounds.result.now = omega (arith, count, c.requires.rounds) in
    let next : c.args.number + length c.as_slice-rounds.result.now + 1 ≡ c.args.number + length (messages_of c.args.messages.now) = omega (arith, count, length-layer m) in
    subst (λ i. IsFoundBelow qs ts c.args.drawn.now i c.with.result) next
    (c.with.ensures qs ts c.args.drawn.now
    (subst (λ i. IsFoundBelow qs ts c.args.drawn.now i c.loop-j.found) all (c.loop-j.invariant qs ts before stands true_stands))
    (ap (λ i. get_or qs i []) (sym here) ∙ stands (length m.rounds) (omega (arith, length-layer m)) ∙ read_last m ∙ sym c.as_slice.ensures)
    (ap (λ i. get_or ts i []) (sym there) ∙ true_stands (length t.rounds) (omega (arith, length-layer t)) ∙ read_last t ∙ sym c.as_slice-2.ensures)
    (sym (get_or_read c.args.drawn.now (n + length c.as_slice-rounds.result.now) c.index-drawn-last.result inside c.index-drawn-last.is zero_k)))
