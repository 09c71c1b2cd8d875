-- The verifier accepts what is proved, and there is one of it.
use Rattle.std.proofs.Common.{◌≡◌, inl, inr, ℕ, List, [], ◌∷◌, ◌++◌, Some, length, take, drop, refl, sym, ap, ◌∙◌, subst}
use Rattle.std.specs.List.{flat_map}
use Rattle.std.proofs.lemmas.List.{append-nil}
use Rattle.std.proofs.lemmas.List.Concat.{flat_map-append}
use Rattle.arr_ast.specs.declared.lang.Lang.{Lang}
use Rattle.field_ext.specs.Field.{F, K}
use Rattle.field_ext.specs.Bytes.{bytes_of}
use Rattle.circuit_core.specs.Parts.{Parts, layer_values, input_table}
use Rattle.circuit_core.specs.Sound.{SoundCircuit, exponent_at, exponents}
use Rattle.gkr_layers.specs.Layers.{GateLayer, layers_of, message_count}
use Rattle.transcript_fs.specs.Source.{Source, point_draws, state_after_point, draws, all_draws}
use Rattle.transcript_fs.specs.Transcript.{transcript}
use Rattle.proof_wire.specs.declared.messages.Round.{Round}
use Rattle.proof_wire.specs.declared.messages.LayerMessages.{LayerMessages}
use Rattle.proof_wire.specs.declared.messages.Messages.{Messages}
use Rattle.proof_wire.specs.Forms.{magic}
use Rattle.proof_wire.specs.Spelling.{coefficients_of, layer_coefficients, all_coefficients, spelling}
use Rattle.gkr_layers.specs.declared.verdict.Verdict.TheVariants.{Accepted}
use Rattle.gkr_layers.specs.Acceptance.{claim_in, verdict_of}
use Rattle.proof_wire.specs.Lists.{messages_of, all_messages, round_messages, HaveShape}
use Rattle.gkr_layers.proofs.api.Shapes.{have_shape, length-all}
use Rattle.gkr_layers.specs.Honest.{AreHonest, AreHonestMessages}
use Rattle.gkr_layers.specs.Places.Place.{At}
use Rattle.proof_wire.specs.declared.form.ProofForm.{ProofForm}
use Rattle.proof_wire.specs.declared.form.ProofForm.TheVariants.{Line}
use Rattle.proof_wire.proofs.api.Apart.{one_reading}
use Rattle.proof_two.specs.declared.kind.ProofKind.{ProofKind}
use Rattle.proof_two.specs.declared.kind.ProofKind.TheVariants.{ByLines, ByPairs}
use Rattle.proof_two.specs.declared.kind.ProofVersion.TheVariants.{One, Two}
use Rattle.proof_two.specs.Kinds.{form_in, kind_spelling}
use Rattle.proof_two.specs.Lists.{shortened}
use Rattle.proof_two.proofs.api.Shortened.{short_shape}
use Rattle.gkr_verify.proofs.api.Filled.{accepted_sums, sums-fill}
use Rattle.arr_compile.specs.Circuits.{IsCompiled}
use Rattle.case_text.specs.Content.{Content}
use Rattle.case_prove.specs.Proved.{IsProved}
use Rattle.case_prove.specs.Started.{start_of}
use Rattle.case_prove.specs.Verified.{IsVerdictOn, Says}
use Rattle.case_prove.proofs.api.ProvedOutputs.{OneTree, InputsAre, IsComputed, sound, one_meaning, meaning_there}

-- ---- acceptance

abbrev pub HonestIsAccepted : ProofForm → Type 0
HonestIsAccepted form = (c : SoundCircuit) (inputs outputs : List F) (source : Source) (s : List ℕ) (messages : Messages) → length outputs ≡ c.parts.outputs →
    outputs ≡ take (length outputs) (drop 1 (layer_values c.parts inputs 0)) → HaveShape form (drop 1 (exponents c.parts)) messages.layers → AreHonestMessages form c.parts inputs source s (all_messages messages.layers) →
    verdict_of (claim_in form c.parts inputs outputs) (all_messages messages.layers) (all_draws source s (exponent_at c.parts 0) (all_messages messages.layers)) ≡ Accepted

-- what is written of accepted messages says them
pub kind_says : (kind : ProofKind) (lang : Lang) (program : List ℕ) (inputs outputs : List F) (p : Parts) (m : Messages) → HaveShape (form_in kind) (drop 1 (exponents p)) m.layers
    → verdict_of (claim_in (form_in kind) p inputs outputs) (all_messages m.layers) (all_draws transcript (start_of (form_in kind) program inputs outputs) (exponent_at p 0) (all_messages m.layers)) ≡ Accepted
    → Says (form_in kind) (record { lang = lang; program = program; inputs = inputs; outputs = Some outputs; proof = Some (kind_spelling kind m) }) p outputs m
kind_says (ByLines One) lang program inputs outputs p m shape verdict = inl refl
kind_says (ByLines Two) lang program inputs outputs p m shape verdict = inr (record {
  pairs = shortened m;
  pairs_shape = short_shape (drop 1 (exponents p)) m.layers shape;
  pairs_spelled = refl;
  filled_is = sym (sums-fill p outputs transcript (start_of Line program inputs outputs) m (accepted_sums p inputs outputs transcript (start_of Line program inputs outputs) m shape verdict));
})
kind_says ByPairs lang program inputs outputs p m shape verdict = refl

pub accepted : (kind : ProofKind) → OneTree → InputsAre → IsComputed → HonestIsAccepted (form_in kind) → (c p : Content) → IsProved kind c p → IsVerdictOn p Accepted
accepted kind one inputs_are computes honest c p is =
    let there = meaning_there one inputs_are computes c is.parts is.compiled is.outputs is.evaluated in
    let verdict = honest (sound c.lang c.program is.parts is.compiled) c.inputs is.outputs transcript (start_of (form_in kind) c.program c.inputs is.outputs) is.messages there.as_many there.stand is.of_shape is.honest in
    subst (λ (q : Content). IsVerdictOn q Accepted) (sym is.proved_is) (record {
      parts = is.parts;
      outputs = is.outputs;
      claim = record { compiled = is.compiled; counted = there.counted; outputs_are = refl };
      as_many = there.as_many;
      form = form_in kind;
      messages = is.messages;
      of_shape = is.of_shape;
      spelled = kind_says kind c.lang c.program c.inputs is.outputs is.parts is.messages is.of_shape verdict;
      verdict_is = sym verdict;
    })

-- ---- one proof

-- messages as one list of coefficients
abbrev flat : List (List K) → List K
flat qs = flat_map (λ q. q) qs

flat_rounds : (rounds : List Round) → flat (round_messages rounds) ≡ flat_map coefficients_of rounds
flat_rounds [] = refl
flat_rounds (round ∷ rounds) = ap (λ (xs : List K). coefficients_of round ++ xs) (flat_rounds rounds)

flat_layer : (m : LayerMessages) (qs : List (List K)) → flat (messages_of m ++ qs) ≡ layer_coefficients m ++ flat qs
flat_layer m qs =
    flat_map-append (λ (q : List K). q) (messages_of m) qs
    ∙ ap (λ (xs : List K). xs ++ flat qs)
    (flat_map-append (λ (q : List K). q) (round_messages m.rounds) (m.last ∷ [])
    ∙ ap (λ (xs : List K). xs ++ (m.last ++ [])) (flat_rounds m.rounds)
    ∙ ap (λ (xs : List K). flat_map coefficients_of m.rounds ++ xs) (append-nil m.last))

flat_messages : (ms : List LayerMessages) → flat (all_messages ms) ≡ all_coefficients ms
flat_messages [] = refl
flat_messages (m ∷ ms) = flat_layer m (all_messages ms) ∙ ap (λ (xs : List K). layer_coefficients m ++ xs) (flat_messages ms)

-- messages that are one list have one spelling
same_spelling : (form : ProofForm) (a b : Messages) → all_messages a.layers ≡ all_messages b.layers → spelling form a ≡ spelling form b
same_spelling form a b e = ap (λ (xs : List K). magic form ++ flat_map bytes_of xs) (sym (flat_messages a.layers) ∙ ap flat e ∙ flat_messages b.layers)

abbrev pub OneCircuit : Type 0
OneCircuit = (lang : Lang) (text : List ℕ) (a b : Parts) → IsCompiled lang text a → IsCompiled lang text b → a ≡ b

abbrev pub HonestIsUnique : ProofForm → Type 0
HonestIsUnique form = (layers : List GateLayer) (input z : List K) (source : Source) (s : List ℕ) (qs others : List (List K)) → length qs ≡ message_count layers → length others ≡ message_count layers →
    AreHonest form layers input (At z) qs (draws source s qs) → AreHonest form layers input (At z) others (draws source s others) → qs ≡ others

count : (form : ProofForm) (p : Parts) (messages : Messages) → HaveShape form (drop 1 (exponents p)) messages.layers → length (all_messages messages.layers) ≡ message_count (layers_of p)
count form p messages shape = length-all form (layers_of p) messages.layers (have_shape form p messages shape)

one_proof : (form : ProofForm) → HonestIsUnique form → (p : Parts) (inputs : List F) (s : List ℕ) (a b : Messages) → HaveShape form (drop 1 (exponents p)) a.layers → HaveShape form (drop 1 (exponents p)) b.layers →
    AreHonestMessages form p inputs transcript s (all_messages a.layers) → AreHonestMessages form p inputs transcript s (all_messages b.layers) → spelling form a ≡ spelling form b
one_proof form unique p inputs s a b shape shape' honest honest' =
    let k : ℕ = exponent_at p 0 in
    same_spelling form a b
    (unique (layers_of p) (input_table p inputs) (point_draws transcript s k) transcript (state_after_point transcript s k) (all_messages a.layers) (all_messages b.layers)
    (count form p a shape) (count form p b shape') honest honest')

pub one_proved : (kind : ProofKind) → OneTree → OneCircuit → HonestIsUnique (form_in kind) → (c p q : Content) → IsProved kind c p → IsProved kind c q → p ≡ q
one_proved kind one circuit unique c p q is is' =
    let form : ProofForm = form_in kind in
    let parts : is.parts ≡ is'.parts = circuit c.lang c.program is.parts is'.parts is.compiled is'.compiled in
    let outputs : is.outputs ≡ is'.outputs = one_meaning one c is.outputs is'.outputs is.evaluated is'.evaluated in
    let shape = subst (λ (p : Parts). HaveShape (form_in kind) (drop 1 (exponents p)) is.messages.layers) parts is.of_shape in
    let honest = coe 0 1 (i. AreHonestMessages (form_in kind) (parts i) c.inputs transcript (start_of (form_in kind) c.program c.inputs (outputs i)) (all_messages is.messages.layers)) is.honest in
    let bytes = one_proof form unique is'.parts c.inputs (start_of form c.program c.inputs is'.outputs) is.messages is'.messages shape is'.of_shape honest is'.honest in
    let messages : is.messages ≡ is'.messages = one_reading form (exponents is'.parts) is.messages is'.messages shape is'.of_shape bytes in
    is.proved_is ∙ (λ i. record { lang = c.lang; program = c.program; inputs = c.inputs; outputs = Some (outputs i); proof = Some (kind_spelling kind (messages i)) }) ∙ sym is'.proved_is

-- cases of the same parts are the same
pub same_content : (lang lang' : Lang) (program program' : List ℕ) (inputs inputs' outputs : List F) (proof proof' : List ℕ) → lang ≡ lang' → program ≡ program' → inputs ≡ inputs' → proof ≡ proof' →
    ◌≡◌ {A = Content} (record { lang = lang; program = program; inputs = inputs; outputs = Some outputs; proof = Some proof }) (record { lang = lang'; program = program'; inputs = inputs'; outputs = Some outputs; proof = Some proof' })
same_content lang lang' program program' inputs inputs' outputs proof proof' l e f g = λ i. record { lang = l i; program = e i; inputs = f i; outputs = Some outputs; proof = Some (g i) }
