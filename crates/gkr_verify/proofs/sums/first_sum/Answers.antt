use Rattle.std.proofs.Common.{ℕ, List, All, IsTrue, length, ◌≤◌, sym, subst}
use Rattle.circuit_core.specs.Sound.{exponent_at}
use Rattle.transcript_fs.specs.Source.{Source}
use Rattle.transcript_fs.proofs.api.Draws.{has_front}
use Rattle.proof_wire.specs.declared.messages.LayerMessages.{LayerMessages}
use Rattle.proof_wire.specs.Lists.{all_messages}
use Rattle.gkr_layers.specs.Layers.{layers_of, message_count}
use Rattle.gkr_verify.proofs.SumSteps.{few_rounds, has_messages}
use Rattle.gkr_verify.proofs.sums.first_sum.Goals as goal

pub start-requires-clause-has : goal.start-requires-clause-has
start-requires-clause-has g c =
    let p = c.args.circuit.now.parts in
    has_front g.C.Challenges.source (g.C.Challenges.state c.args.challenges.now) (exponent_at p 0) (message_count (layers_of p)) c.requires.has

pub first_of_layers-requires-clause-few : goal.first_of_layers-requires-clause-few
first_of_layers-requires-clause-few g c =
    subst (λ (ms : List LayerMessages). All (λ (layer : LayerMessages). length layer.rounds ≤ 40) ms) (sym c.as_slice-layers.ensures) (few_rounds c.args.circuit.now c.args.messages.now c.requires.shape)

pub first_of_layers-requires-clause-has : goal.first_of_layers-requires-clause-has
first_of_layers-requires-clause-has g c =
    let source : Source = g.C.Challenges.source in
    let s : List ℕ = g.C.Challenges.state c.args.challenges.now in
    coe 0 1 (j. IsTrue (source.has (sym c.in_ok-start.ensures.state j) (length (all_messages (sym c.as_slice-layers.ensures j)))))
    (has_messages c.args.circuit.now c.args.messages.now c.requires.shape source s c.requires.has)
