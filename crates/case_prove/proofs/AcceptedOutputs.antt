-- Accepted outputs that aren't the meaning aren't the circuit's, so that some challenge is exceptional.
use Rattle.std.proofs.Common.{◌≡◌, ◌∙◌, ◌≤◌, ℕ, List, [], ◌∷◌, ◌++◌, length, take, drop, replicate, subst, refl, sym, ap}
use Rattle.std.specs.Prelude.{IsTrue, is_none, Option, Some, None}
use Rattle.arr_ast.specs.declared.lang.Lang.{Lang}
use Rattle.field_ext.specs.Field.{F, K}
use Rattle.circuit_core.specs.Faults.{fault_of}
use Rattle.circuit_core.specs.Parts.{Parts, layer_values, zero_f}
use Rattle.circuit_core.specs.Sound.{SoundCircuit, greatest, exponents}
use Rattle.proof_wire.specs.declared.messages.Messages.{Messages}
use Rattle.transcript_fs.specs.Source.{Source, all_draws}
use Rattle.transcript_fs.specs.Transcript.{transcript}
use Rattle.gkr_layers.specs.declared.verdict.Verdict.TheVariants.{Accepted}
use Rattle.gkr_layers.specs.Acceptance.{challenge_count, claim_in, verdict_of}
use Rattle.proof_wire.specs.Lists.{all_messages, HaveShape}
use Rattle.gkr_layers.specs.Soundness.{IsFalse, LetsPass}
use Rattle.arr_compile.specs.Circuits.{IsCompiled}
use Rattle.case_text.specs.Content.{Content}
use Rattle.proof_wire.specs.declared.form.ProofForm.{ProofForm}
use Rattle.case_prove.specs.Started.{start_of}
use Rattle.case_prove.specs.Verified.{IsClaim, IsVerdictOn}
use Rattle.case_prove.specs.Sound.{HasMeaning, HasExceptionalChallenge}
use Rattle.case_prove.proofs.api.ProvedOutputs.{InputsAre, IsComputed}

-- what is known of the circuits of programs, and of the verifier
pub record IsKnown : Type 0 where
  pub inputs : InputsAre
  pub computes : IsComputed
  pub faultless : (lang : Lang) (text : List ℕ) (parts : Parts) → IsCompiled lang text parts → fault_of greatest parts ≡ None
  pub has_output : (lang : Lang) (text : List ℕ) (parts : Parts) → IsCompiled lang text parts → 1 ≤ parts.outputs
  pub lists : (form : ProofForm) (circuit : SoundCircuit) (inputs outputs : List F) (messages : Messages) (rs : List K) → length outputs ≡ circuit.parts.outputs → HaveShape form (drop 1 (exponents circuit.parts)) messages.layers →
      let stated = claim_in form circuit.parts inputs outputs in let qs = all_messages messages.layers in
      length rs ≡ challenge_count stated → verdict_of stated qs rs ≡ Accepted → IsFalse circuit.parts inputs outputs → (n : ℕ) × LetsPass stated qs rs n
  pub draws : (form : ProofForm) (circuit : SoundCircuit) (inputs outputs : List F) (messages : Messages) (source : Source) (state : List ℕ) → HaveShape form (drop 1 (exponents circuit.parts)) messages.layers →
      let stated = claim_in form circuit.parts inputs outputs in
      length (all_draws source state stated.k (all_messages messages.layers)) ≡ challenge_count stated

no_fault : {X : Type 0} (o : Option X) → o ≡ None → IsTrue (is_none o)
no_fault o e = subst (λ p. IsTrue (is_none p)) (sym e) refl

-- the first values after position 0, as many as there are outputs
front : (xs ys : List F) → take (length xs) (xs ++ ys) ≡ xs
front [] ys = refl
front (x ∷ xs) ys = ap (λ (zs : List F). x ∷ zs) (front xs ys)

-- outputs that the circuit has are the program's meaning
pub meant : InputsAre → IsComputed → (c : Content) (parts : Parts) (outputs : List F) (claim : IsClaim c parts outputs) → length outputs ≡ parts.outputs → outputs ≡ take (length outputs) (drop 1 (layer_values parts c.inputs 0)) → HasMeaning c
meant inputs_are computes c parts outputs claim many same =
    let compiled = claim.compiled in
    let values = computes c.lang c.program parts compiled c.inputs claim.counted in
    let as_many : length outputs ≡ length values.outputs = many ∙ sym values.as_many in
    let are : outputs ≡ values.outputs =
    same
    ∙ ap (λ (table : List F). take (length outputs) (drop 1 table)) values.values_are
    ∙ ap (λ (n : ℕ). take n (values.outputs ++ replicate values.zeros zero_f)) as_many
    ∙ front values.outputs (replicate values.zeros zero_f) in
    record {
      outputs = outputs;
      outputs_are = claim.outputs_are;
      evaluated = record {
        tree = compiled.tree;
        accepted = compiled.lowered.accepted;
        counted = claim.counted ∙ inputs_are c.lang c.program parts compiled;
        meaning_is = values.meaning_is ∙ ap (λ (xs : List F). Some xs) (sym are);
      };
    }

pub sound : IsKnown → (c : Content) → IsVerdictOn c Accepted → ¬ HasMeaning c → (n : ℕ) × HasExceptionalChallenge c n
sound known c is wrong =
    let circuit : SoundCircuit = record {
      parts = is.parts;
      faultless = no_fault (fault_of greatest is.parts) (known.faultless c.lang c.program is.parts is.claim.compiled);
      has_output = known.has_output c.lang c.program is.parts is.claim.compiled;
    } in
    let state = start_of is.form c.program c.inputs is.outputs in
    let stated = claim_in is.form is.parts c.inputs is.outputs in
    let rs = all_draws transcript state stated.k (all_messages is.messages.layers) in
    let found = known.lists is.form circuit c.inputs is.outputs is.messages rs is.as_many is.of_shape (known.draws is.form circuit c.inputs is.outputs is.messages transcript state is.of_shape) (sym is.verdict_is) (λ same. wrong (meant known.inputs known.computes c is.parts is.outputs is.claim is.as_many same)) in (
      found.0,
      record {
        parts = is.parts;
        outputs = is.outputs;
        claim = is.claim;
        form = is.form;
        messages = is.messages;
        of_shape = is.of_shape;
        spelled = is.spelled;
        passes = found.1;
      },
    )
