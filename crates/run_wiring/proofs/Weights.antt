-- The eight weights of a column, each at its place
use Rattle.std.proofs.Common.{◌≡◌, ℕ, ◌+◌, ◌*◌, ◌/◌, ◌%◌, ◌<◌, ◌⊎◌, inl, inr, List, length, get_or, set, if◌then◌else◌, ◌==◌, sym, ◌∙◌, ap, arith, get_or-set_same, get_or-set_other}
use Rattle.std.proofs.lemmas.Bool.{cases_eq}
use Rattle.field_ext.specs.Field.{K, k_ops, zero_k, one_k, add_k, mul_k, neg_k}
use Rattle.run_wiring.specs.declared.column.Column.{Column}
use Rattle.run_wiring.specs.Entries.{factor}
use Rattle.run_wiring.specs.Weights.{AreWeights, weight_at, weight_place}

-- one more weight is filled in
pub filled_more : (weights : List K) (of : ℕ → K) (place : ℕ) (x : K) → place < length weights → x ≡ of place →
    ((i : ℕ) → i < place → get_or weights i zero_k ≡ of i) → (i : ℕ) → i < place + 1 → get_or (set weights place x) i zero_k ≡ of i
filled_more weights of place x inside is filled i u = by_place (cases_eq i place)
  where
    by_place : (i ≡ place) ⊎ (i ≡ place → ⊥) → get_or (set weights place x) i zero_k ≡ of i
    by_place (inl e) = ap (λ (k : ℕ). get_or (set weights place x) k zero_k) e ∙ get_or-set_same weights place x zero_k inside ∙ is ∙ ap of (sym e)
    by_place (inr d) = get_or-set_other weights place i x zero_k d ∙ filled i (omega (arith, u, d))

-- the digits of a place
position_digit : (x y z : ℕ) → (x % 2 * 4 + y % 2 * 2 + z % 2) / 4 % 2 ≡ x % 2
position_digit x y z = omega arith

left_digit : (x y z : ℕ) → (x % 2 * 4 + y % 2 * 2 + z % 2) / 2 % 2 ≡ y % 2
left_digit x y z = omega arith

right_digit : (x y z : ℕ) → (x % 2 * 4 + y % 2 * 2 + z % 2) % 2 ≡ z % 2
right_digit x y z = omega arith

few_places : (x y z : ℕ) → x % 2 * 4 + y % 2 * 2 + z % 2 < 8
few_places x y z = omega arith

same_factor : (u : K) (i j : ℕ) → i % 2 ≡ j % 2 → factor k_ops u i ≡ factor k_ops u j
same_factor u i j e = ap (λ (d : ℕ). if d == 1 then u else add_k one_k (neg_k u)) e

-- and each weight at its place
pub are_weights : (column : Column) (weights : List K) → ((i : ℕ) → i < 8 → get_or weights i zero_k ≡ weight_at column i) → AreWeights column weights
are_weights column weights filled from digit =
    let x : ℕ = column.position + from.position + digit in
    let y : ℕ = column.left + from.left + digit * column.lstep in
    let z : ℕ = column.right + from.right + digit * column.rstep in
    let place : ℕ = x % 2 * 4 + y % 2 * 2 + z % 2 in
    filled (weight_place column from digit) (few_places x y z)
    ∙ (λ i. mul_k (same_factor column.z (place / 4) x (position_digit x y z) i) (mul_k (same_factor column.b (place / 2) y (left_digit x y z) i) (same_factor column.c place z (right_digit x y z) i)))
