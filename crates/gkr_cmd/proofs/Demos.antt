-- The case that `demo` generates, and what is reported of it.
use Rattle.std.proofs.Common.{◌≡◌, ℕ, ◌+◌, ◌-◌, ◌*◌, ◌<◌, ◌≤◌, List, [], ◌∷◌, ◌++◌, length, get_or, decimal, subst, Option, Some, None, sym, ap, ◌∙◌, arith, length-append}
use Rattle.std.proofs.lemmas.Fmt.{length-decimal-le}
use Rattle.std.proofs.lemmas.List.FromFn.{length-map-range_with_len, map-range_with_len_more}
use Rattle.std.proofs.Math.Nat.{mul-le-mul}
use Rattle.std.specs.List.{concat}
use Rattle.std.specs.Prelude.{codes}
use Rattle.field_ext.specs.Field.{F, of}
use Rattle.sha2.specs.Sha256.{sha256}
use Rattle.circuit_core.specs.Parts.{Parts, height}
use Rattle.arr_ast.specs.declared.lang.Lang.{Lang}
use Rattle.arr_ast.specs.declared.lang.Lang.TheVariants as langs
use Rattle.arr_ast.specs.ProgramTree.{ProgramTree}
use Rattle.arr_run.specs.Program.{input_count}
use Rattle.arr_compile.specs.Programs.{IsRead}
use Rattle.arr_compile.specs.Circuits.{IsCompiled, Computes}
use Rattle.arr_eval.specs.Meaning.{meaning}
use Rattle.arr_lower.proofs.api.Counted.{is-list}
use Rattle.gkr_layers.specs.declared.verdict.Verdict.TheVariants.{Accepted}
use Rattle.case_text.specs.Content.{Content, Fits}
use Rattle.case_text.specs.declared.reply.demo.DemoSummary.{DemoSummary}
use Rattle.proof_two.specs.declared.kind.ProofKind.TheVariants.{ByLines}
use Rattle.proof_two.specs.declared.kind.ProofVersion.TheVariants.{One}
use Rattle.case_prove.specs.Proved.{IsProved}
use Rattle.case_prove.specs.Verified.{IsVerdictOn}
use Rattle.gkr_cmd.specs.Demo.{HasFirst, IsDemo, square_text, demo_case, demo_size, demo_program, demo_inputs}
use Rattle.case_prove.proofs.api.ReadProofs.{one_value as same_some}

-- ---- the case has a text

square_short : (words : List ℕ) (n : ℕ) → n < 100 → length words ≤ 8 → length (square_text words n) ≤ 20
unfolding square_text
square_short words n small short =
    let digits = length-decimal-le 2 n (omega arith) small (omega arith) in
    let last : List ℕ = concat (codes "]; " ∷ []) in
    let second : List ℕ = decimal n ++ last in
    let between : List ℕ = codes "][" ++ second in
    let first : List ℕ = decimal n ++ between in
    omega (arith, digits, short, length-append words first, length-append (decimal n) between, length-append (decimal n) last)

pub demo_fits : (number : ℕ) → Fits (demo_case number)
demo_fits number =
    let n = demo_size number in
    let most : n ≤ 16 = omega arith in
    let square : n * n ≤ 16 * 16 = mul-le-mul {n₁ = n} {m₁ = n} {n₂ = 16} {m₂ = 16} most most in
    let last : List ℕ = concat (codes "output sum(matmul(a,b));" ∷ []) in
    let first = square_short (codes "input a[") n (omega arith) (omega arith) in
    let second = square_short (codes "input b[") n (omega arith) (omega arith) in
    let whole = length-append (square_text (codes "input a[") n) (square_text (codes "input b[") n ++ last) in
    let back = length-append (square_text (codes "input b[") n) last in
    let values = length-map-range_with_len (λ j. of (1 + number + j)) 0 (2 * (n * n)) in
    record { program = omega (arith, first, second, whole, back); inputs = omega (arith, square, values); outputs = tt; proof = tt }

abbrev case_of : List ℕ → List F → Content
case_of program inputs = record { lang = langs.One; program = program; inputs = inputs; outputs = None; proof = None }

pub fits_as : (number n : ℕ) (program : List ℕ) (inputs : List F) → n ≡ demo_size number → program ≡ demo_program n → inputs ≡ demo_inputs number (2 * (n * n)) → Fits (case_of program inputs)
fits_as number n program inputs size program_is inputs_are =
    let sized : Fits (case_of (demo_program n) (demo_inputs number (2 * (n * n)))) =
    subst (λ m. Fits (case_of (demo_program m) (demo_inputs number (2 * (m * m))))) (sym size) (demo_fits number) in
    subst (λ text. Fits (case_of text inputs)) (sym program_is) (subst (λ xs. Fits (case_of (demo_program n) xs)) (sym inputs_are) sized)

-- ---- its inputs, one more

pub one_more : (number j : ℕ) (x : F) (old new : List F) → old ≡ demo_inputs number j → new ≡ old ++ x ∷ [] → x ≡ of (1 + number + j) → new ≡ demo_inputs number (j + 1)
one_more number j x old new was put is =
    put
    ∙ ap (λ (xs : List F). xs ++ x ∷ []) was
    ∙ ap (λ (y : F). demo_inputs number j ++ y ∷ []) is
    ∙ sym (map-range_with_len_more (λ i. of (1 + number + i)) 0 j j (omega arith))

-- ---- the first output

-- a text has one tree, and its circuit computes what the program means
pub record IsComputed : Type 0 where
  pub tree : (lang : Lang) (text : List ℕ) (a b : ProgramTree) → IsRead lang text a → IsRead lang text b → a ≡ b
  pub inputs : (lang : Lang) (text : List ℕ) (parts : Parts) (is : IsCompiled lang text parts) → parts.inputs ≡ input_count is.tree.inputs
  pub computes : (lang : Lang) (text : List ℕ) (parts : Parts) (is : IsCompiled lang text parts) (inputs : List F) → length inputs ≡ parts.inputs → Computes lang is.tree parts inputs

-- a case that is proved has an output
pub some_output : IsComputed → (c p : Content) (is : IsProved (ByLines One) c p) → 1 ≤ length is.outputs
some_output laws c p is =
    let accepted = is.evaluated in
    let same = laws.tree c.lang c.program is.compiled.tree accepted.tree is.compiled.lowered.accepted.read accepted.accepted.read in
    let counted : length c.inputs ≡ is.parts.inputs =
    accepted.counted ∙ ap (λ (t : ProgramTree). input_count t.inputs) (sym same) ∙ sym (laws.inputs c.lang c.program is.parts is.compiled) in
    let computed = laws.computes c.lang c.program is.parts is.compiled c.inputs counted in
    let outputs = same_some (meaning c.lang is.compiled.tree c.inputs) computed.outputs is.outputs computed.meaning_is (ap (λ (t : ProgramTree). meaning c.lang t c.inputs) same ∙ accepted.meaning_is) in
    let has_one = (is-list c.lang is.compiled.tree is.compiled.nodes is.compiled.lowered.nodes_are).has_output in
    let as_many : length is.outputs ≡ length is.compiled.nodes.outputs =
    ap length (sym outputs) ∙ computed.as_many ∙ ap (λ (q : Parts). q.outputs) is.compiled.laid_out in
    omega (arith, has_one, as_many)

pub has_output : IsComputed → (c p : Content) → IsProved (ByLines One) c p → (o : List F) → Some o ≡ p.outputs → 0 < length o
has_output laws c p is o told =
    let same = same_some p.outputs o is.outputs (sym told) (ap (λ (q : Content). q.outputs) is.proved_is) in
    let some = some_output laws c p is in
    omega (arith, some, ap length same)

pub first_is : (outputs : Option (List F)) (o : List F) (x d : F) → outputs ≡ Some o → 0 < length o → x ≡ get_or o 0 d → HasFirst outputs x
first_is outputs [] x d is some read = absurd (omega (arith, some))
first_is outputs (y ∷ ys) x d is some read = record { others = ys; outputs_are = is ∙ ap (λ (z : F). Some (z ∷ ys)) (sym read) }

-- ---- what is reported

pub reported : (number : ℕ) (s : DemoSummary) (c p : Content) (parts : Parts) (proof : List ℕ) → c ≡ demo_case number → IsCompiled c.lang c.program parts → IsProved (ByLines One) c p → IsVerdictOn p Accepted → HasFirst p.outputs s.output → p.proof ≡ Some proof
    → s.number ≡ number → s.size ≡ demo_size number → s.layers ≡ height parts → s.proof ≡ length proof → s.digest ≡ sha256 proof → IsDemo number s
reported number s c p parts proof case compiled proved accepted first proof_is number_is size_is layers_are length_is digest_is = record {
  number_is = number_is;
  size_is = size_is;
  parts = parts;
  compiled = subst (λ (d : Content). IsCompiled d.lang d.program parts) case compiled;
  layers_are = layers_are;
  proved = p;
  is_proved = subst (λ (d : Content). IsProved (ByLines One) d p) case proved;
  is_accepted = accepted;
  output_is = first;
  proof = proof;
  proof_is = proof_is;
  length_is = length_is;
  digest_is = digest_is;
}
