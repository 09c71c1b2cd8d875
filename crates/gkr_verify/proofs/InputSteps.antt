-- The answer to the last equation
use Rattle.std.proofs.Common.{◌≡◌, [], ◌∷◌, true, false, sym, ◌∙◌}
use Rattle.field_ext.specs.Field.{K, same_k}
use Rattle.gkr_layers.specs.declared.verdict.Verdict.TheVariants.{Accepted, Input}
use Rattle.gkr_layers.specs.Equations.{input_equation, first_failure}
use Rattle.gkr_layers.proofs.api.Accepted.{first_holds, first_fails}

-- the answer to the last equation
pub input_holds : (claim want x : K) → want ≡ x → same_k claim want ≡ true → Accepted ≡ first_failure (input_equation claim x ∷ [])
input_holds claim want x e h = sym ((λ i. first_failure (input_equation claim (sym e i) ∷ [])) ∙ first_holds (same_k claim want) _ _ h)

pub input_fails : (claim want x : K) → want ≡ x → same_k claim want ≡ false → Input claim want ≡ first_failure (input_equation claim x ∷ [])
input_fails claim want x e h = sym ((λ i. first_failure (input_equation claim (sym e i) ∷ [])) ∙ first_fails (same_k claim want) _ _ h)
