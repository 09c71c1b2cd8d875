use Rattle.std.proofs.Common.{◌≡◌, ℕ, ◌^◌, ◌++◌, length, map, take, IsTrue, arith, ◌∙◌, ap, sym, subst}
use Rattle.field_ext.specs.Field.{k_ops, embed_k}
use Rattle.field_ext.specs.Multilinear.{extension_at}
use Rattle.circuit_core.specs.Parts.{padded_values}
use Rattle.circuit_core.specs.Sound.{exponent_at}
use Rattle.gkr_layers.specs.Layers.{layers_of, message_count}
use Rattle.circuit_core.proofs.api.Sizes.{size_of}
use Rattle.transcript_fs.specs.Source.{Source, point_draws, state_after_point, draws}
use Rattle.gkr_layers.specs.Equations.{equations, answer}
use Rattle.gkr_layers.specs.Acceptance.{CircuitClaim, claim_in}
use Rattle.proof_wire.specs.Lists.{all_messages}
use Rattle.transcript_fs.proofs.api.Draws.{has_front, has_after_point}
use Rattle.gkr_layers.proofs.api.Shapes.{have_shape, messages_height, outputs_room}
use Rattle.gkr_layers.proofs.api.Lists.{front-take}
use Rattle.gkr_verify.proofs.buffers.check_in.Goals as goal
use Rattle.gkr_layers.specs.Places.Place.{At}

pub claim_there-claim-requires-clause-has : goal.claim_there-claim-requires-clause-has
claim_there-claim-requires-clause-has g c =
    let source : Source = g.C.Challenges.source in
    let s = g.C.Challenges.state c.args.challenges.now in
    let p = c.args.circuit.now.parts in
    subst (λ n. IsTrue (source.has s n)) (sym (c.split_at_mut-point.ensures.front_len ∙ c.coordinates.ensures.value)) (has_front source s (exponent_at p 0) (message_count (layers_of p)) c.requires.has)

pub claim_there-claim-requires-clause-fits : goal.claim_there-claim-requires-clause-fits
claim_there-claim-requires-clause-fits g c =
    let circuit = c.args.circuit.now in
    let size = c.split_at_mut-point.ensures.front_len ∙ c.coordinates.ensures.value in
    omega (arith, c.requires.outputs, outputs_room circuit, (size_of circuit 0 (omega arith)).0, ap (λ (n : ℕ). 2 ^ n) size)

pub check_layers-requires-clause-layers : goal.check_layers-requires-clause-layers
check_layers-requires-clause-layers g c = messages_height c.args.form c.args.circuit.now.parts (record { layers = c.args.messages.now }) c.requires.shape

pub check_layers-requires-clause-shape : goal.check_layers-requires-clause-shape
check_layers-requires-clause-shape g c =
    have_shape c.args.form c.args.circuit.now.parts (record { layers = c.args.messages.now }) c.requires.shape

pub check_layers-requires-clause-has : goal.check_layers-requires-clause-has
check_layers-requires-clause-has g c =
    let source : Source = g.C.Challenges.source in
    let s = g.C.Challenges.state c.args.challenges.now in
    let p = c.args.circuit.now.parts in
    let after = c.claim_there-claim.ensures.state ∙ ap (state_after_point source s) (c.split_at_mut-point.ensures.front_len ∙ c.coordinates.ensures.value) in
    subst (λ t. IsTrue (source.has t (message_count (layers_of p)))) (sym after) (has_after_point source s (exponent_at p 0) (message_count (layers_of p)) c.requires.has)

pub returns : goal.returns
returns g c =
    let source : Source = g.C.Challenges.source in
    let s = g.C.Challenges.state c.args.challenges.now in
    let circuit = c.args.circuit.now in
    let k : ℕ = exponent_at circuit.parts 0 in
    let qs = all_messages c.args.messages.now in
    let stated : CircuitClaim = claim_in c.args.form circuit.parts c.args.inputs.now c.args.outputs.now in
    let count : length c.split_at_mut-point.result.0.now ≡ k = c.split_at_mut-point.ensures.front_len ∙ c.coordinates.ensures.value in
    let z : c.claim_there-claim.new.point ≡ point_draws source s k = c.claim_there-claim.ensures.point ∙ ap (point_draws source s) count in
    let first : take k (c.claim_there-claim.new.point ++ c.split_at_mut-point.result.1.now) ≡ point_draws source s k =
    front-take c.claim_there-claim.new.point c.split_at_mut-point.result.1.now k (c.claim_there-claim.auto.point ∙ count) ∙ z in
    let after : g.C.Challenges.state c.claim_there-claim.new.challenges ≡ state_after_point source s k = c.claim_there-claim.ensures.state ∙ ap (state_after_point source s) count in
    let width = ap (λ (n : ℕ). 2 ^ n) count ∙ sym (size_of circuit 0 (omega arith)).0 in
    c.check_layers.ensures
    ∙ (λ i. answer source (after i) (equations c.args.form 0 stated.layers stated.input_table (At (first i)) (c.claim_there-claim.ensures.claim i) qs (draws source (after i) qs)) qs)
    ∙ (λ i. answer source (state_after_point source s k) (equations c.args.form 0 stated.layers stated.input_table (At (point_draws source s k)) (extension_at k_ops k_ops (λ x. x) (map embed_k (padded_values (width i) c.args.outputs.now)) (point_draws source s (count i))) qs (draws source (state_after_point source s k) qs)) qs)
