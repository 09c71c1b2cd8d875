use Rattle.std.proofs.Common.{ℕ, List, IsTrue, drop, length, sym, ◌∙◌, subst}
use Rattle.field_ext.specs.Field.{K}
use Rattle.circuit_core.specs.Sound.{exponent_at, exponents}
use Rattle.transcript_fs.specs.Source.{Source}
use Rattle.transcript_fs.proofs.api.Draws.{has_front}
use Rattle.proof_wire.specs.declared.messages.LayerMessages.{LayerMessages}
use Rattle.proof_wire.specs.declared.form.ProofForm.TheVariants.{Line}
use Rattle.proof_wire.specs.Lists.{all_messages, HaveShape}
use Rattle.proof_two.specs.declared.pairs.LayerPairs.{LayerPairs}
use Rattle.proof_two.specs.Lists.{HavePairs}
use Rattle.gkr_layers.specs.Layers.{layers_of, message_count}
use Rattle.gkr_verify.specs.ShortProof.{filled_layers}
use Rattle.gkr_verify.proofs.api.Filled.{filled-shape}
use Rattle.gkr_verify.proofs.SumSteps.{has_messages}
use Rattle.gkr_verify.proofs.filling.fill_drawn.Goals as goal

pub start-requires-clause-has : goal.start-requires-clause-has
start-requires-clause-has g c =
    let p = c.args.circuit.now.parts in
    has_front g.C.Challenges.source (g.C.Challenges.state c.args.challenges.now) (exponent_at p 0) (message_count (layers_of p)) c.requires.has

pub fill_layers-requires : goal.fill_layers-requires
fill_layers-requires g c =
    let source : Source = g.C.Challenges.source in
    let behind : List ℕ = g.C.Challenges.state c.start.new.challenges in
    let claim : K = c.in_ok-start.start.claim in
    let ks : List ℕ = drop 1 (exponents c.args.circuit.now.parts) in
    let made : List LayerMessages = filled_layers source behind claim c.as_slice-from.result.now in
    let pairs : HavePairs (drop 1 (exponents c.args.circuit.now.parts)) c.as_slice-from.result.now = subst (λ (ms : List LayerPairs). HavePairs ks ms) (sym c.as_slice-from.ensures) c.requires.shape in
    record {
      has = subst (λ (t : List ℕ). IsTrue (source.has t (length (all_messages made)))) (sym c.in_ok-start.ensures.state)
          (has_messages c.args.circuit.now (record { layers = made }) (filled-shape source behind claim ks c.as_slice-from.result.now pairs) source (g.C.Challenges.state c.args.challenges.now) c.requires.has);
    }

pub returns-clause-shape : goal.returns-clause-shape
returns-clause-shape g c =
    let source : Source = g.C.Challenges.source in
    let behind : List ℕ = g.C.Challenges.state c.start.new.challenges in
    let ks : List ℕ = drop 1 (exponents c.args.circuit.now.parts) in
    let pairs : HavePairs (drop 1 (exponents c.args.circuit.now.parts)) c.as_slice-from.result.now = subst (λ (ms : List LayerPairs). HavePairs ks ms) (sym c.as_slice-from.ensures) c.requires.shape in
    subst (λ (ms : List LayerMessages). HaveShape Line ks ms) (sym (c.of.ensures ∙ c.in_ok-layers.ensures.messages)) (filled-shape source behind c.in_ok-start.start.claim ks c.as_slice-from.result.now pairs)
