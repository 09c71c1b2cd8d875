-- The case that `demo` generates from a number, and what is reported of its proof.
use Rattle.std.specs.Prelude.{◌≡◌, ℕ, ◌+◌, ◌*◌, ◌%◌, List, [], ◌∷◌, length, map, codes, decimal, Option, Some, None}
use Rattle.std.specs.List.{concat, range_with_len}
use Rattle.sha2.specs.Sha256.{sha256}
use Rattle.field_ext.specs.Field.{F, of}
use Rattle.circuit_core.specs.Parts.{Parts, height}
use Rattle.arr_ast.specs.declared.lang.Lang.TheVariants as langs
use Rattle.arr_compile.specs.Circuits.{IsCompiled}
use Rattle.gkr_layers.specs.declared.verdict.Verdict.TheVariants.{Accepted}
use Rattle.proof_two.specs.declared.kind.ProofKind.TheVariants.{ByLines}
use Rattle.proof_two.specs.declared.kind.ProofVersion.TheVariants.{One}
use Rattle.case_text.specs.Content.{Content}
use Rattle.case_text.specs.declared.reply.demo.DemoSummary.{DemoSummary}
use Rattle.case_prove.specs.Proved.{IsProved}
use Rattle.case_prove.specs.Verified.{IsVerdictOn}

-- how many rows, and columns, each of the two matrices has
abbrev pub demo_size : ℕ → ℕ
demo_size number = 2 + number % 15

-- the declaration of a square matrix, after these words
unfoldable pub square_text : List ℕ → ℕ → List ℕ
square_text words n = concat (words ∷ decimal n ∷ codes "][" ∷ decimal n ∷ codes "]; " ∷ [])

-- the sum of the elements of the product of two square matrices
abbrev pub demo_program : ℕ → List ℕ
demo_program n =
    concat (square_text (codes "input a[") n ∷ square_text (codes "input b[") n
    ∷ codes "output sum(matmul(a,b));" ∷ [])

-- as many numbers, in order, from one past the given on
abbrev pub demo_inputs : ℕ → ℕ → List F
demo_inputs number count = map (λ j. of (1 + number + j)) (range_with_len 0 count)

abbrev pub demo_case : ℕ → Content
demo_case number =
    let n = demo_size number in
    record {
      lang = langs.One;
      program = demo_program n;
      inputs = demo_inputs number (2 * (n * n));
      outputs = None;
      proof = None;
    }

-- There are outputs, and this is the first.
pub record HasFirst (outputs : Option (List F)) (first : F) : Type 0 where
  pub others : List F
  pub outputs_are : outputs ≡ Some (first ∷ others)

-- The case of the number was proved, its proof is accepted, and these are its size, its first
-- output, the height of its circuit, and the length and the digest of its proof.
pub record IsDemo (number : ℕ) (summary : DemoSummary) : Type 0 where
  pub number_is : summary.number ≡ number
  pub size_is : summary.size ≡ demo_size number
  pub parts : Parts
  pub compiled : IsCompiled langs.One (demo_program (demo_size number)) parts
  pub layers_are : summary.layers ≡ height parts
  pub proved : Content
  pub is_proved : IsProved (ByLines One) (demo_case number) proved
  pub is_accepted : IsVerdictOn proved Accepted
  pub output_is : HasFirst proved.outputs summary.output
  pub proof : List ℕ
  pub proof_is : proved.proof ≡ Some proof
  pub length_is : summary.proof ≡ length proof
  pub digest_is : summary.digest ≡ sha256 proof
