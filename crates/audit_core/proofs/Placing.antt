-- Where a message is, one more layer at a time
use Rattle.std.proofs.Common.{◌≡◌, ℕ, suc, ◌+◌, ◌-◌, ◌*◌, ◌<◌, List, Some, None, ◌∙◌, ap, arith}
use Rattle.circuit_core.specs.Parts.{Parts, height}
use Rattle.circuit_core.specs.Sound.{exponent_at}
use Rattle.gkr_layers.specs.Layers.{GateLayer, layers_below}
use Rattle.gkr_layers.proofs.api.Circuits.{below_more, below_none}
use Rattle.audit_core.specs.Audit.{place_in}
use Rattle.audit_core.proofs.Truth.{at_round, at_last, at_below}

module _ (p : Parts) (i n : ℕ) (u : i < height p) where
  pub place_round : n < 2 * exponent_at p (i + 1) → place_in (layers_below p i) i n ≡ record { layer = i; round = Some (n + 1) }
  place_round w =
      let one : suc n ≡ n + 1 = omega arith in
      ap (λ (layers : List GateLayer). place_in layers i n) (below_more p i u)
      ∙ at_round n (exponent_at p (i + 1)) _ _ _ (omega (arith, w))
      ∙ (λ j. record { layer = i; round = Some (one j) })

  pub place_last : n ≡ 2 * exponent_at p (i + 1) → place_in (layers_below p i) i n ≡ record { layer = i; round = None }
  place_last e = ap (λ (layers : List GateLayer). place_in layers i n) (below_more p i u) ∙ at_last n (exponent_at p (i + 1)) _ _ _ (omega (arith, e))

  pub place_more : 2 * exponent_at p (i + 1) < n → place_in (layers_below p i) i n ≡ place_in (layers_below p (i + 1)) (i + 1) (n - (2 * exponent_at p (i + 1) + 1))
  place_more w =
      let one : suc i ≡ i + 1 = omega arith in
      let left : n - (exponent_at p (i + 1) + exponent_at p (i + 1) + 1) ≡ n - (2 * exponent_at p (i + 1) + 1) = omega arith in
      ap (λ (layers : List GateLayer). place_in layers i n) (below_more p i u)
      ∙ at_below n (exponent_at p (i + 1)) _ _ _ (omega (arith, w))
      ∙ (λ j. place_in (layers_below p (i + 1)) (one j) (left j))

pub place_behind : (p : Parts) (i n : ℕ) → height p < i + 1 → place_in (layers_below p i) i n ≡ record { layer = i; round = None }
place_behind p i n u = ap (λ (layers : List GateLayer). place_in layers i n) (below_none p i (omega arith))
