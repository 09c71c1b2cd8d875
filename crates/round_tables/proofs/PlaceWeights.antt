-- The products of a point's two tables are the weights of the positions
use Rattle.std.proofs.Common.{◌≡◌, ℕ, ◌+◌, ◌-◌, ◌/◌, ◌%◌, ◌^◌, ◌<◌, ◌≤◌, ◌⊎◌, inl, inr, List, length, take, get_or, if◌then◌else◌, refl, sym, ◌∙◌, ap, arith, subst, length-take}
use Rattle.std.proofs.lemmas.Bool.{cases_lt}
use Rattle.std.proofs.lemmas.Nat.{pow-add, pow_below}
use Rattle.field_ext.specs.Field.{K, k_ops, zero_k, add_k, mul_k}
use Rattle.field_ext.proofs.api.KLaws.{k_laws}
use Rattle.field_ext.proofs.api.Rings.{mul_left_comm}
use Rattle.field_ext.specs.Multilinear.{eq_poly}
use Rattle.mle_table.proofs.api.EqualitySteps.{eq-split}
use Rattle.circuit_core.specs.declared.gate.CircuitGate.{CircuitGate}
use Rattle.gkr_layers.specs.Places.{Place}
use Rattle.gkr_layers.specs.Places.Place.{At, AtBoth}
use Rattle.round_tables.specs.Phase.{IsLayer}
use Rattle.round_tables.specs.declared.kept_point.KeptPoint.{KeptPoint}
use Rattle.round_tables.specs.declared.layer_gates.LayerGates.{LayerGates}
use Rattle.round_tables.specs.Working.{IsLayerGates, place_of}
use Rattle.round_tables.specs.Weights.{position_weight, HasRows, HasTables, IsSamePoint, IsScaled, product_at}

-- a product is the equality polynomial's value
pub product-is : (p : KeptPoint) (g : ℕ) → HasTables p → g < 2 ^ length p.point.items → product_at p g ≡ eq_poly k_ops p.point.items g
product-is p g has u = eq-split k_ops k_laws p.point.items p.low.items p.high.items g has.low has.high u

-- the first coordinates fit the low table, and the others the high one
pub low-fits : (point : List K) (n : ℕ) → n ≤ 10 → 2 ^ length (take n point) ≤ 1024
low-fits point n u = pow-few (length (take n point)) (omega (arith, length-take n point))
  where
    pow-few : (i : ℕ) → i ≤ 10 → 2 ^ i ≤ 1024
    pow-few i u = here (cases_lt i 10)
      where
        here : (i < 10) ⊎ (10 ≤ i) → 2 ^ i ≤ 1024
        here (inl v) = let p = pow_below i 10 v in omega arith
        here (inr v) = let e : i ≡ 10 = omega arith in omega (arith, ap (λ (k : ℕ). 2 ^ k) e)

pub high-fits : (k rest high : ℕ) → rest ≡ k - 10 → high ≡ 2 ^ k / 1024 + 1 → 2 ^ rest ≤ high
high-fits k rest high e h = here (cases_lt k 10)
  where
    here : (k < 10) ⊎ (10 ≤ k) → 2 ^ rest ≤ high
    here (inl v) = let none : rest ≡ 0 = omega (arith, e, v) in omega (arith, ap (λ (i : ℕ). 2 ^ i) none, h)
    here (inr v) = let whole : rest + 10 ≡ k = omega (arith, e, v) in let p = pow-add 2 rest 10 in let q : 2 ^ (rest + 10) ≡ 2 ^ k = ap (λ (i : ℕ). 2 ^ i) whole in omega (arith, h, p, q)

-- a table that is scaled scales the products
pub product-scaled : (weight : K) (p : KeptPoint) (g : ℕ) (q : KeptPoint) → q.low ≡ p.low → IsScaled weight p.high.items q.high.items → g / 1024 < length p.high.items → product_at q g ≡ mul_k weight (product_at p g)
product-scaled weight p g q low scaled u =
    (λ i. mul_k (get_or (low i).items (g % 1024) zero_k) (scaled (g / 1024) u i))
    ∙ mul_left_comm k_ops k_laws (get_or p.low.items (g % 1024) zero_k) weight (get_or p.high.items (g / 1024) zero_k)

-- the row of a position is there
pub row-there : (n high position : ℕ) → high ≡ n / 1024 + 1 → position < n → position / 1024 < high
row-there n high position e u = omega (arith, e, u)

-- the same layer in other words
pub layer-as : (k k' : ℕ) (gates : List CircuitGate) (values : List K) (place place' : Place K) → k' ≡ k → place' ≡ place → IsLayer K k gates values place → IsLayer K k' gates values place'
layer-as k k' gates values place place' e f layer = subst (λ (p : Place K). IsLayer K k' gates values p) (sym f) (subst (λ (n : ℕ). IsLayer K n gates values place) (sym e) layer)

-- a layer with copies of its points is the same layer
pub copied-place : (layer : LayerGates) (first second : KeptPoint) → IsSamePoint layer.first first → IsSamePoint layer.second second → place_of (record layer { first = first; second = second }) ≡ place_of layer
copied-place layer first second one two = λ i. if layer.both then AtBoth (one.point i) (two.point i) layer.weight else At (one.point i)

copied-rows : (n : ℕ) (p q : KeptPoint) → IsSamePoint p q → HasRows n p → HasRows n q
copied-rows n p q same rows = record {
  low = omega (arith, q.low.ok.0, p.low.ok.0, ap length same.low, rows.low);
  high = omega (arith, q.high.ok.0, p.high.ok.0, ap length same.high, rows.high);
}

pub copied-layer : (layer : LayerGates) (first second : KeptPoint) → IsLayerGates layer → IsSamePoint layer.first first → IsSamePoint layer.second second → IsLayerGates (record layer { first = first; second = second })
copied-layer layer first second is one two =
    let place = copied-place layer first second one two in
    record {
      layer_is = layer-as layer.k layer.k layer.gates.now layer.values.now.items (place_of layer) (place_of (record layer { first = first; second = second })) refl place is.layer_is;
      weights = λ g u.
          (λ i. if layer.both
          then add_k (mul_k (get_or (one.low i) (g % 1024) zero_k) (get_or (one.high i) (g / 1024) zero_k)) (mul_k (get_or (two.low i) (g % 1024) zero_k) (get_or (two.high i) (g / 1024) zero_k))
          else mul_k (get_or (one.low i) (g % 1024) zero_k) (get_or (one.high i) (g / 1024) zero_k))
          ∙ is.weights g u
          ∙ ap (λ (p : Place K). position_weight k_ops p g) (sym place);
      first_rows = copied-rows (length layer.gates.now) layer.first first one is.first_rows;
      second_rows = λ b. copied-rows (length layer.gates.now) layer.second second two (is.second_rows b);
    }
