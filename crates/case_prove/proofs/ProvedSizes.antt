-- How long the outputs and the proof of a circuit are at most.
use Rattle.std.proofs.Common.{◌≡◌, ℕ, ◌+◌, ◌*◌, ◌≤◌, ◌&&◌, true, List, [], ◌∷◌, Some, length, map, drop, ap, ◌∙◌, arith, add-one}
use Rattle.std.specs.Prelude.{nat_le}
use Rattle.std.specs.List.{list_all, range_with_len}
use Rattle.std.proofs.lemmas.Bool.{and_parts, leb-true}
use Rattle.std.proofs.lemmas.List.{length-map}
use Rattle.std.proofs.lemmas.List.FromFn.{length-range_with_len}
use Rattle.std.proofs.lemmas.List.Sums.{sum_by-cons}
use Rattle.arr_ast.specs.declared.lang.Lang.{Lang}
use Rattle.field_ext.specs.Field.{F}
use Rattle.circuit_core.specs.Parts.{Parts, height}
use Rattle.circuit_core.specs.Sound.{SoundCircuit, exponent_at, exponents}
use Rattle.circuit_core.proofs.api.Faultless.{none_from_test, height_bounds, exponents_bounded}
use Rattle.proof_wire.specs.declared.form.ProofForm.{ProofForm}
use Rattle.proof_wire.specs.declared.form.ProofForm.TheVariants.{Line, Pair}
use Rattle.proof_wire.specs.Forms.{last_degree}
use Rattle.proof_wire.specs.Spelling.{coefficient_count, length_of}
use Rattle.proof_wire.specs.declared.messages.Messages.{Messages}
use Rattle.proof_wire.specs.Lists.{HaveShape}
use Rattle.proof_wire.proofs.api.Lengths as wire_lengths
use Rattle.proof_two.specs.declared.kind.ProofKind.{ProofKind}
use Rattle.proof_two.specs.declared.kind.ProofKind.TheVariants.{ByLines, ByPairs}
use Rattle.proof_two.specs.declared.kind.ProofVersion.TheVariants.{One, Two}
use Rattle.proof_two.specs.Kinds.{form_in, kind_spelling}
use Rattle.proof_two.specs.Lists.{shortened}
use Rattle.proof_two.specs.Spelling.{element_count}
use Rattle.proof_two.proofs.api.Lengths as two_lengths
use Rattle.proof_two.proofs.api.Shortened.{short_shape}
use Rattle.arr_compile.specs.Circuits.{IsCompiled}
use Rattle.case_text.specs.Content.{Fits}

-- a program's circuit has few outputs
abbrev pub HaveFewOutputs : Type 0
HaveFewOutputs = (lang : Lang) (text : List ℕ) (parts : Parts) → IsCompiled lang text parts → parts.outputs ≤ 65535

few_each : (form : ProofForm) (k : ℕ) → 1 ≤ k → k ≤ 20 → 6 * k + (last_degree form k + 1) ≤ 141
few_each Line k u v = omega (arith, v)
few_each Pair k u v = omega (arith, v)

few_coefficients : (form : ProofForm) (ks : List ℕ) → list_all (λ k. nat_le 1 k && nat_le k 20) ks ≡ true → coefficient_count form ks ≤ 141 * length ks
few_coefficients form [] h = omega arith
few_coefficients form (k ∷ ks) h =
    let parts = and_parts (nat_le 1 k && nat_le k 20) (list_all (λ k. nat_le 1 k && nat_le k 20) ks) h in
    let ends = and_parts (nat_le 1 k) (nat_le k 20) parts.0 in
    let each = few_each form k (leb-true 1 k ends.0) (leb-true k 20 ends.1) in
    omega (arith, few_coefficients form ks parts.1, each, sum_by-cons (λ k. 6 * k + (last_degree form k + 1)) k ks)

-- the bytes of a proof
pub short_proof : (form : ProofForm) (c : SoundCircuit) → length_of form (exponents c.parts) ≤ 1155076
short_proof form c =
    let p : Parts = c.parts in
    let none = none_from_test _ c.faultless in
    let below : List ℕ = map (exponent_at p) (range_with_len 1 (height p)) in
    let same : drop 1 (exponents c.parts) ≡ map (exponent_at c.parts) (range_with_len 1 (height c.parts)) = ap (λ (n : ℕ). drop 1 (map (exponent_at p) (range_with_len 0 n))) (add-one (height p)) in
    let many : length (map (exponent_at c.parts) (range_with_len 1 (height c.parts))) ≡ height c.parts =
    length-map (range_with_len 1 (height p)) (exponent_at p) ∙ length-range_with_len 1 (height p) in
    let few : coefficient_count form (map (exponent_at c.parts) (range_with_len 1 (height c.parts))) ≤ 141 * length (map (exponent_at c.parts) (range_with_len 1 (height c.parts))) =
    few_coefficients form below (exponents_bounded p none 1 (height p) (omega arith)) in
    let whole : coefficient_count form (drop 1 (exponents c.parts)) ≡ coefficient_count form (map (exponent_at c.parts) (range_with_len 1 (height c.parts))) = ap (coefficient_count form) same in
    let low : height c.parts ≤ 1024 = (height_bounds p none).1 in
    omega (arith, whole, few, many, low)

few_elements : (ks : List ℕ) → element_count ks ≤ coefficient_count Line ks
few_elements [] = omega arith
few_elements (k ∷ ks) = omega (arith, few_elements ks, sum_by-cons (λ k. 6 * k + (last_degree Line k + 1)) k ks, sum_by-cons (λ k. 4 * k + (k + 1)) k ks)

pub kind_length : (kind : ProofKind) (c : SoundCircuit) (m : Messages) → HaveShape (form_in kind) (drop 1 (exponents c.parts)) m.layers → length (kind_spelling kind m) ≤ 1155076
kind_length (ByLines One) c m h = omega (arith, wire_lengths.spelling_length Line (exponents c.parts) m h, short_proof Line c)
kind_length (ByLines Two) c m h =
    omega (arith, two_lengths.spelling_length (exponents c.parts) (shortened m) (short_shape (drop 1 (exponents c.parts)) m.layers h), few_elements (drop 1 (exponents c.parts)), short_proof Line c)
kind_length ByPairs c m h = omega (arith, wire_lengths.spelling_length Pair (exponents c.parts) m h, short_proof Pair c)

-- what is proved is within the limits of cases
pub fits : (c : SoundCircuit) (lang : Lang) (program : List ℕ) (inputs outputs : List F) (proof : List ℕ) → length program ≤ 65536 → length inputs ≤ 262144 → length outputs ≡ c.parts.outputs → c.parts.outputs ≤ 65535 →
    length proof ≤ 1155076 → Fits (record { lang = lang; program = program; inputs = inputs; outputs = Some outputs; proof = Some proof })
fits c lang program inputs outputs proof text line many few size = record {
  program = text;
  inputs = line;
  outputs = omega (arith, many, few);
  proof = omega (arith, size);
}
