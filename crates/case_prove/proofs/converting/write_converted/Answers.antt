-- What is written keeps to the limits of cases.
use Rattle.std.proofs.Common.{◌≡◌, ◌≤◌, ◌∙◌, ℕ, List, length, ap, arith, sym, subst}
use Rattle.field_ext.specs.Field.{F}
use Rattle.circuit_core.specs.Sound.{SoundCircuit}
use Rattle.proof_two.specs.declared.kind.ProofKind.TheVariants.{ByLines}
use Rattle.case_prove.proofs.ProvedSizes.{fits, kind_length}
use Rattle.case_prove.proofs.converting.write_converted.Goals as goal

pub new-requires : goal.new-requires
new-requires c =
    let circuit : SoundCircuit = c.args.circuit.now in
    let program : c.in_ok-program.program.items ≡ c.args.case.now.program = c.in_ok-program.ensures.items ∙ c.program.ensures.program in
    let inputs : c.in_ok-inputs.inputs.items ≡ c.args.case.now.inputs = c.in_ok-inputs.ensures.items ∙ c.inputs.ensures.inputs in
    let outputs : c.in_ok-outputs.outputs.items ≡ c.args.outputs.now = c.in_ok-outputs.ensures.items in
    let size : length c.in_ok-proof.proof.items ≤ 1155076 =
    omega (arith, ap length c.in_ok-proof.ensures, kind_length (ByLines c.args.version) circuit c.args.messages.now c.requires.proof.of_shape) in
    fits circuit c.lang.result c.in_ok-program.program.items c.in_ok-inputs.inputs.items c.in_ok-outputs.outputs.items c.in_ok-proof.proof.items
    (subst (λ (xs : List ℕ). length xs ≤ 65536) (sym program) c.program.ensures.fits.program)
    (subst (λ (xs : List F). length xs ≤ 262144) (sym inputs) c.program.ensures.fits.inputs)
    (ap length outputs ∙ c.requires.proof.as_many)
    (c.circuit_is_sound.ensures.few_outputs c.args.case.now.lang c.args.case.now.program c.args.circuit.now.parts c.requires.proof.claim.compiled) size
