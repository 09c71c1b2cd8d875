-- The equations of a proof in their order, and the first that fails
use Rattle.std.specs.Prelude.{ℕ, suc, ◌+◌, List, [], ◌∷◌, ◌++◌, take, drop, if◌then◌else◌, slice_index_or}
use Rattle.field_ext.specs.Field.{K, k_ops, zero_k, one_k, same_k}
use Rattle.field_ext.specs.Polynomial.{value_at}
use Rattle.gkr_layers.specs.Places.{Place, value_over, weighted_summand_from}
use Rattle.proof_wire.specs.declared.form.ProofForm.{ProofForm}
use Rattle.gkr_layers.specs.Forms.{said_left, said_right}
use Rattle.gkr_layers.specs.Layers.{GateLayer, next_place}
use Rattle.transcript_fs.specs.Source.{Source, state_after}
use Rattle.gkr_layers.specs.declared.verdict.Verdict.{Verdict}
use Rattle.gkr_layers.specs.declared.verdict.Verdict.TheVariants.{Accepted, Sum, End, Input}

infixl 65 ◌⊕◌
open k_ops use {add as ◌⊕◌}

-- two sides, and the answer where they differ
pub record Equation : Type 0 where
  pub had : K
  pub want : K
  pub failed : Verdict

abbrev pub sum_equation : ℕ → ℕ → List K → K → Equation
sum_equation layer round q claim =
    let had = value_at k_ops q zero_k ⊕ value_at k_ops q one_k in
    record { had = had; want = claim; failed = Sum layer round had claim }

abbrev pub end_equation : ℕ → K → K → Equation
end_equation layer claim want = record { had = claim; want = want; failed = End layer claim want }

abbrev pub input_equation : K → K → Equation
input_equation claim want = record { had = claim; want = want; failed = Input claim want }

-- the claim after these messages and challenges
abbrev pub claim_after : K → List (List K) → List K → K
claim_after claim [] rs = claim
claim_after claim (q ∷ qs) [] = claim
claim_after claim (q ∷ qs) (r ∷ rs) = claim_after (value_at k_ops q r) qs rs

-- the equations of a layer's rounds, the first of which has this number
abbrev pub sum_equations : ℕ → ℕ → K → List (List K) → List K → List Equation
sum_equations layer round claim [] rs = []
sum_equations layer round claim (q ∷ qs) [] = []
sum_equations layer round claim (q ∷ qs) (r ∷ rs) =
    sum_equation layer round q claim ∷ sum_equations layer (suc round) (value_at k_ops q r) qs rs

-- The equations of all layers, the first of which has this number. Each layer takes 2 k messages of rounds and a last one, and a
-- challenge after each.
abbrev pub equations : ProofForm → ℕ → List GateLayer → List K → Place K → K → List (List K) → List K
    → List Equation
equations form number [] input place claim qs rs =
    input_equation claim (value_over k_ops input place) ∷ []
equations form number (layer ∷ layers) input place claim qs rs =
    let k = layer.k in
    let rounds = take (k + k) qs in
    let bound = take (k + k) rs in
    let q = slice_index_or qs (k + k) [] in
    sum_equations number 1 claim rounds bound
    ++ end_equation number (claim_after claim rounds bound)
    (weighted_summand_from k_ops layer.gates place (take k bound) (drop k bound)
    (said_left k_ops form q) (said_right k_ops form q))
    ∷ equations form (suc number) layers input (next_place k_ops form k rs)
    (value_at k_ops q (slice_index_or rs (k + k) zero_k)) (drop (k + k + 1) qs)
    (drop (k + k + 1) rs)

-- the answer of the first equation whose sides differ
abbrev pub first_failure : List Equation → Verdict
first_failure [] = Accepted
first_failure (equation ∷ equations) =
    if same_k equation.had equation.want then first_failure equations else equation.failed

-- an answer, and the state of the challenges that is left with it
pub record Answered : Type 0 where
  pub verdict : Verdict
  pub state : List ℕ

-- The answer to equations, of which each comes before one of these messages, the last aside. Once an equation holds, its message is
-- taken in and a challenge drawn after it, so that the first that fails leaves the state before its message.
abbrev pub answer : Source → List ℕ → List Equation → List (List K) → Answered
answer source s [] qs = record { verdict = Accepted; state = s }
answer source s (equation ∷ equations) qs =
    if same_k equation.had equation.want then answer source (state_after source s (take 1 qs))
    equations (drop 1 qs)
    else record { verdict = equation.failed; state = s }
