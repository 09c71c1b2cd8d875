-- The verifier draws the challenges of the list
use Rattle.std.proofs.Common.{◌≡◌, ℕ, ◌+◌, List, length, map, IsTrue, sym, ◌∙◌, ap, arith}
use Rattle.field_ext.specs.Field.{K, embed_k}
use Rattle.circuit_core.specs.Parts.{Parts, width_of, padded_values, input_table}
use Rattle.circuit_core.specs.Sound.{exponent_at}
use Rattle.transcript_fs.specs.Given.{given, numbers_of}
use Rattle.transcript_fs.specs.Source.{all_draws}
use Rattle.proof_wire.specs.Lists.{all_messages}
use Rattle.gkr_layers.specs.Layers.{layers_of, message_count}
use Rattle.gkr_layers.specs.Acceptance.{verdict_of}
use Rattle.gkr_layers.proofs.api.Shapes.{have_shape, length-all}
use Rattle.gkr_verify.proofs.api.GivenDraws.{given-has, given-all}
use Rattle.audit_core.proofs.auditor.verdict_on.Goals as goal

pub check_as-requires-clause-has : goal.check_as-requires-clause-has
check_as-requires-clause-has c =
    let same = c.of-given.ensures in
    let size = c.requires.drawn in
    coe 0 1 (i. IsTrue (given.has (numbers_of (sym same i)) (size i))) (given-has c.args.drawn.items)

pub returns : goal.returns
returns c inputs tables =
    let p : Parts = c.args.circuit.now.parts in
    let k : ℕ = exponent_at c.args.circuit.now.parts 0 in
    let rs : List K = c.args.drawn.items in
    let qs = all_messages c.args.messages.now.layers in
    let all : length (all_messages c.args.messages.now.layers) ≡ message_count (layers_of p) = length-all c.args.form (layers_of p) c.args.messages.now.layers (have_shape c.args.form p c.args.messages.now c.requires.shape) in
    let size : length c.args.drawn.items ≡ exponent_at c.args.circuit.now.parts 0 + length (all_messages c.args.messages.now.layers) = omega (arith, c.requires.drawn, all) in
    let table = ap (input_table p) c.deref.ensures.value ∙ c.in_ok-inputs.ensures.values inputs tables in
    let drawn = ap (λ (xs : List K). all_draws given (numbers_of xs) k qs) c.of-given.ensures ∙ given-all rs k qs size in
    c.in_ok-verdict.ensures.verdict
    ∙ (λ i. verdict_of (record { form = c.args.form; k = k; layers = layers_of p; input_table = table i; claimed_table = map embed_k (padded_values (width_of p 0) c.args.outputs.now) }) qs (drawn i))
