-- The text of a case.
use Rattle.std.specs.Prelude.{◌≡◌, ℕ, List, [], ◌∷◌, ◌++◌, length, codes, decimal, Option, Some, None, IfSome}
use Rattle.std.specs.List.{concat}
use Rattle.field_ext.specs.Field.{F}
use Rattle.arr_ast.specs.declared.lang.Lang.{Lang}
use Rattle.arr_ast.specs.declared.lang.Lang.TheVariants.{One, Two}
use Rattle.text_parts.specs.Bytes.{newline}
use Rattle.case_text.specs.Rules.{after_value}
use Rattle.case_text.specs.declared.case.form.Form.{Form}
use Rattle.case_text.specs.Hex.{IsHexOf, lower_digits}
use Rattle.case_text.specs.Forms.{Allows}
use Rattle.case_text.specs.Content.{Content, Fits}

-- the language of a case, in its header
abbrev pub language_text : Lang → List ℕ
language_text One = codes "1"
language_text Two = codes "2"

-- a decimal, and the byte after it
abbrev pub number : ℕ → ℕ → List ℕ
number n close = decimal n ++ close ∷ []

-- the program after its length, each on lines of its own
abbrev pub program_text : List ℕ → List ℕ
program_text program = concat (codes "program " ∷ number (length program) newline ∷ program
    ∷ (newline ∷ []) ∷ [])

-- values, a space after each but the last
abbrev pub values_text : List F → List ℕ
values_text [] = []
values_text (v ∷ vs) = number v.value (after_value (length vs)) ++ values_text vs

-- values after their count
abbrev pub counted_text : List F → List ℕ
counted_text vs = number (length vs) (after_value (length vs)) ++ values_text vs

abbrev pub last_line : List ℕ
last_line = codes "end" ++ newline ∷ []

abbrev pub outputs_text : Option (List F) → List ℕ
outputs_text None = []
outputs_text (Some vs) = codes "output " ++ counted_text vs

-- a proof by its hex digits, after the count of its bytes
abbrev pub proof_text : Option (List ℕ) → List ℕ → List ℕ
proof_text None digits = []
proof_text (Some proof) digits =
    concat (codes "proof " ∷ number (length proof) newline ∷ digits ∷ (newline ∷ []) ∷ [])

-- with its digits in lower case
abbrev pub lower_proof_text : Option (List ℕ) → List ℕ
lower_proof_text proof = proof_text proof (lower_digits proof)

abbrev pub case_text : Content → List ℕ → List ℕ
case_text c digits = concat
    (codes "gkr case " ∷ language_text c.lang ∷ (newline ∷ []) ∷ program_text c.program
    ∷ codes "input " ∷ counted_text c.inputs ∷ outputs_text c.outputs ∷ proof_text c.proof digits
    ∷ last_line ∷ [])

-- the text whose hex digits are in lower case
abbrev pub lower_case_text : Content → List ℕ
lower_case_text c = case_text c (lower_digits c.proof)

-- These bytes are a text of the case, of this form. Only the case of the hex digits is open.
pub record Spells (form : Form) (bytes : List ℕ) (c : Content) : Type 0 where
  pub fits : Fits c
  pub outputs : Allows form c.outputs
  pub proof : Allows form c.proof
  pub digits : List ℕ
  pub hex : IfSome c.proof (λ proof. IsHexOf proof digits)
  pub text : bytes ≡ case_text c digits
