-- The proof spells honest messages of the program's meaning.
use Rattle.std.proofs.Common.{◌≡◌, ◌≤◌, ◌∙◌, ℕ, List, length, ap, arith, sym, subst}
use Rattle.field_ext.specs.Field.{F}
use Rattle.circuit_core.specs.Sound.{SoundCircuit}
use Rattle.proof_two.specs.Kinds.{kind_spelling}
use Rattle.case_text.specs.Content.{Content}
use Rattle.case_prove.proofs.api.ProvedCases.{same_content}
use Rattle.case_prove.proofs.ProvedSizes.{fits, kind_length}
use Rattle.case_prove.proofs.proving.proved_case.Goals as goal

pub new-requires : goal.new-requires
new-requires c =
    let circuit : SoundCircuit = c.args.circuit.now in
    let program : c.in_ok-program.program.items ≡ c.args.case.now.program = c.in_ok-program.ensures.items ∙ c.program.ensures.program in
    let inputs : c.in_ok-inputs.inputs.items ≡ c.args.case.now.inputs = c.in_ok-inputs.ensures.items ∙ c.inputs.ensures.inputs in
    let size : length c.in_ok-proof.proof.items ≤ 1155076 = omega (arith, ap length c.in_ok-proof.ensures, kind_length c.args.kind circuit c.args.messages.now c.requires.shape) in
    fits circuit c.lang.result c.in_ok-program.program.items c.in_ok-inputs.inputs.items c.args.outputs.items c.in_ok-proof.proof.items (subst (λ (xs : List ℕ). length xs ≤ 65536) (sym program) c.program.ensures.fits.program)
    (subst (λ (xs : List F). length xs ≤ 262144) (sym inputs) c.program.ensures.fits.inputs) c.requires.as_many (c.circuit_is_sound.ensures.few_outputs c.args.case.now.lang c.args.case.now.program c.args.circuit.now.parts c.requires.compiled) size

pub returns : goal.returns
returns c =
    let circuit : SoundCircuit = c.args.circuit.now in
    let case : Content = c.args.case.now in
    record {
      parts = circuit.parts;
      compiled = c.requires.compiled;
      outputs = c.args.outputs.items;
      evaluated = c.requires.evaluated;
      messages = c.args.messages.now;
      of_shape = c.requires.shape;
      honest = c.requires.honest;
      proved_is =
          c.new.ensures
          ∙ same_content _ case.lang _ case.program _ case.inputs c.args.outputs.items _ (kind_spelling c.args.kind c.args.messages.now) c.lang.ensures (c.in_ok-program.ensures.items ∙ c.program.ensures.program)
          (c.in_ok-inputs.ensures.items ∙ c.inputs.ensures.inputs) c.in_ok-proof.ensures;
    }
