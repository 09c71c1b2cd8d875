-- The layers of a circuit with no fault fit together, and their values over K are those over F_p
use Rattle.std.proofs.Common.{◌≡◌, ℕ, zero, suc, ◌+◌, ◌^◌, ◌<◌, ◌≤◌, List, [], ◌∷◌, length, map, get_or, drop, All, refl, sym, ◌∙◌, ap, ap₂, arith, subst, ◌-◌, ◌*◌, replicate, length-append, drop_of_length-le}
use Rattle.std.proofs.lemmas.List.{drop_more, length-replicate, length-map}
use Rattle.std.proofs.lemmas.Bool.{cond-false, le-ltb}
use Rattle.circuit_core.specs.declared.gate.CircuitGate.{CircuitGate}
use Rattle.field_ext.specs.Field.{F, K, k_ops, zero_k, add_k, mul_k, embed_k}
use Rattle.field_ext.proofs.api.Embedding.{embed-add, embed-mul}
use Rattle.circuit_core.specs.declared.gate.Kind.{Kind}
use Rattle.circuit_core.specs.declared.gate.Kind.TheVariants.{Add, Mul}
use Rattle.circuit_core.specs.Parts.{Parts, height, width_of, IsOver, combined, gate_value, values_of, zero_f, padded_values}
use Rattle.circuit_core.specs.Sound.{SoundCircuit, exponent_at}
use Rattle.circuit_core.proofs.api.Sizes.{gates_size, gates_over}
use Rattle.wiring_poly.specs.Wiring.{by_kind, gate_output, values_above}
use Rattle.gkr_layers.specs.Layers.{GateLayer, layers_from, layers_of, FitTogether, values_over, layer_at, layers_below, message_count, total_exponent}
use Rattle.std.specs.Prelude.{nat_lt}

module _ (c : SoundCircuit) where
  fit_from : (i : ℕ) (layers : List (List CircuitGate)) → layers ≡ drop i c.parts.layers → i + length layers ≡ height c.parts → FitTogether (exponent_at c.parts i) (layers_from c.parts i layers)
  fit_from i [] e s = tt
  fit_from i (gates ∷ layers) e s =
      let u : i < height c.parts = omega arith in
      let first : gates ∷ layers ≡ get_or c.parts.layers i [] ∷ drop (i + 1) c.parts.layers = e ∙ drop_more c.parts.layers i [] u in
      let here : gates ≡ get_or c.parts.layers i [] = ap (λ (xs : List (List CircuitGate)). get_or xs 0 []) first in
      let below : layers ≡ drop (i + 1) c.parts.layers = ap (drop 1) first in (
        ap length here ∙ gates_size c i u,
        subst (λ (gs : List CircuitGate). All (IsOver (2 ^ exponent_at c.parts (i + 1))) gs) (sym here) (gates_over c i u),
        fit_from (i + 1) layers below (omega arith),
      )

  -- all layers fit together
  pub layers_fit : FitTogether (exponent_at c.parts 0) (layers_of c.parts)
  layers_fit = fit_from 0 c.parts.layers refl (omega arith)

-- the k of the input layer, below layers of which the first has 2 ^ j positions
abbrev pub input_exponent : ℕ → List GateLayer → ℕ
input_exponent j [] = j
input_exponent j (layer ∷ layers) = input_exponent layer.k layers

input_from : (p : Parts) (i : ℕ) (layers : List (List CircuitGate)) → input_exponent (exponent_at p i) (layers_from p i layers) ≡ exponent_at p (i + length layers)
input_from p i [] = ap (exponent_at p) (omega arith)
input_from p i (gates ∷ layers) = input_from p (i + 1) layers ∙ ap (exponent_at p) (omega arith)

-- the input layer's size
pub input_size : (p : Parts) → input_exponent (exponent_at p 0) (layers_of p) ≡ exponent_at p (height p)
input_size p = input_from p 0 p.layers ∙ ap (exponent_at p) (omega arith)

pub length-layers : (p : Parts) (i : ℕ) (layers : List (List CircuitGate)) → length (layers_from p i layers) ≡ length layers
length-layers p i [] = refl
length-layers p i (gates ∷ layers) = ap (λ (n : ℕ). suc n) (length-layers p (i + 1) layers)

-- what a gate makes of values of F_p is what it makes of them as elements of K
output-embed : (gate : CircuitGate) (x y : F) → embed_k (combined gate.kind x y) ≡ gate_output k_ops gate (embed_k x) (embed_k y)
output-embed gate x y = by gate.kind
  where
    by : (kind : Kind) → embed_k (combined kind x y) ≡ by_kind kind (add_k (embed_k x) (embed_k y)) (mul_k (embed_k x) (embed_k y))
    by Add = embed-add x y
    by Mul = embed-mul x y

pub read-embed : (xs : List F) (i : ℕ) → get_or (map embed_k xs) i zero_k ≡ embed_k (get_or xs i zero_f)
read-embed [] i = refl
read-embed (x ∷ xs) zero = refl
read-embed (x ∷ xs) (suc i) = read-embed xs i

above-embed : (gates : List CircuitGate) (below : List F) → map embed_k (map (gate_value below) gates) ≡ values_above k_ops gates (map embed_k below)
above-embed [] below = refl
above-embed (gate ∷ gates) below =
    ap₂ (λ (x : K) (xs : List K). x ∷ xs)
    (output-embed gate (get_or below gate.left zero_f) (get_or below gate.right zero_f) ∙ ap₂ (gate_output k_ops gate) (sym (read-embed below gate.left)) (sym (read-embed below gate.right)))
    (above-embed gates below)

-- the values of layers over K are those over F_p
pub over-embed : (p : Parts) (i : ℕ) (layers : List (List CircuitGate)) (input : List F) → map embed_k (values_of layers input) ≡ values_over k_ops (layers_from p i layers) (map embed_k input)
over-embed p i [] input = refl
over-embed p i (gates ∷ layers) input = above-embed gates (values_of layers input) ∙ ap (values_above k_ops gates) (over-embed p (i + 1) layers input)

pub below_more : (p : Parts) (i : ℕ) → i < height p → layers_below p i ≡ layer_at p i ∷ layers_below p (i + 1)
below_more p i u = ap (layers_from p i) (drop_more p.layers i [] u)

pub below_none : (p : Parts) (i : ℕ) → height p ≤ i → layers_below p i ≡ []
below_none p i u = ap (layers_from p i) (drop_of_length-le p.layers u)

-- the last layer is the input
pub input_width : (p : Parts) → width_of p (height p) ≡ p.input_width
input_width p = cond-false (nat_lt (height p) (height p)) _ _ (le-ltb (height p) (height p) (omega arith))

-- how many values a table has
pub length-table : (width : ℕ) (values : List F) → length values < width → length (map embed_k (padded_values width values)) ≡ width
length-table width values u =
    omega (arith, u, length-map (padded_values width values) embed_k, length-append values (replicate (width - (1 + length values)) zero_f), length-replicate (width - (1 + length values)) zero_f)

count_all : (layers : List GateLayer) → message_count layers ≡ 2 * total_exponent layers + length layers
count_all [] = refl
count_all (layer ∷ layers) = omega (arith, count_all layers)

-- a circuit has two messages for each coordinate below the outputs, and one for each layer
pub circuit_count : (p : Parts) → message_count (layers_of p) ≡ 2 * total_exponent (layers_of p) + height p
circuit_count p = omega (arith, count_all (layers_of p), length-layers p 0 p.layers)
