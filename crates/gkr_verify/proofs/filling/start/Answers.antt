use Rattle.std.proofs.Common.{rules, ◌≡◌, ℕ, ◌^◌, List, length, map, arith, ◌∙◌, ap, sym}
use Rattle.field_ext.specs.Field.{k_ops, embed_k}
use Rattle.field_ext.specs.Multilinear.{extension_at}
use Rattle.circuit_core.specs.Parts.{padded_values}
use Rattle.circuit_core.specs.Sound.{exponent_at}
use Rattle.circuit_core.proofs.api.Sizes.{size_of}
use Rattle.transcript_fs.specs.Source.{Source, point_draws}
use Rattle.gkr_layers.proofs.api.Shapes.{outputs_room}
use Rattle.gkr_verify.proofs.filling.start.Goals as goal

pub claim_there-claim-requires-clause-fits : goal.claim_there-claim-requires-clause-fits
claim_there-claim-requires-clause-fits g c =
    let circuit = c.args.circuit.now in
    let size : length c.deref_mut.result.now ≡ exponent_at c.args.circuit.now.parts 0 = search rules in
    omega (arith, c.requires.outputs, outputs_room circuit, (size_of circuit 0 (omega arith)).0, ap (λ (n : ℕ). 2 ^ n) size)

pub returns-clause-claim : goal.returns-clause-claim
returns-clause-claim g c =
    let source : Source = g.C.Challenges.source in
    let s : List ℕ = g.C.Challenges.state c.args.challenges.now in
    let circuit = c.args.circuit.now in
    let size : length c.deref_mut.result.now ≡ exponent_at c.args.circuit.now.parts 0 = search rules in
    let width = ap (λ (n : ℕ). 2 ^ n) size ∙ sym (size_of circuit 0 (omega arith)).0 in
    c.claim_there-claim.ensures.claim
    ∙ (λ i. extension_at k_ops k_ops (λ x. x) (map embed_k (padded_values (width i) c.args.outputs.now)) (point_draws source s (size i)))

pub coordinates-requires : goal.coordinates-requires
coordinates-requires g c = search rules

pub returns-in_err-point-clause-point : goal.returns-in_err-point-clause-point
returns-in_err-point-clause-point g c = search rules

pub returns-in_err-point-clause-claim : goal.returns-in_err-point-clause-claim
returns-in_err-point-clause-claim g c = search rules

pub returns-in_err-point-clause-state : goal.returns-in_err-point-clause-state
returns-in_err-point-clause-state g c = search rules

pub claim_there-claim-requires-clause-few : goal.claim_there-claim-requires-clause-few
claim_there-claim-requires-clause-few g c = search rules

pub claim_there-claim-requires-clause-has : goal.claim_there-claim-requires-clause-has
claim_there-claim-requires-clause-has g c = search rules

pub returns-clause-state : goal.returns-clause-state
returns-clause-state g c = search rules
