-- A circuit's output layer is 0, the outputs and zeros
use Rattle.std.proofs.Common.{◌≡◌, ℕ, zero, suc, ◌+◌, ◌-◌, ◌<◌, ◌≤◌, ◌⊎◌, inl, inr, List, [], ◌∷◌, ◌++◌, Bool, true, false, ◌||◌, ◌==◌, not, None, length, take, drop, get_or, replicate, refl, sym, ◌∙◌, ap, ap₂, arith, ext_get_or, get_or-take, length-append, pow_pos}
use Rattle.std.proofs.lemmas.Bool.{cases_lt, and_parts, eqb-true, lt-ltb, cond-true}
use Rattle.std.proofs.lemmas.List.{get_or-map, get_or-drop, get_or_past, length-replicate}
use Rattle.field_ext.specs.Field.{F, of, add_f}
use Rattle.field_ext.proofs.api.Elements.{F_eq}
use Rattle.circuit_core.specs.declared.gate.Kind.{Kind}
use Rattle.circuit_core.specs.declared.gate.Kind.TheVariants.{Add, Mul}
use Rattle.circuit_core.specs.declared.gate.CircuitGate.{CircuitGate}
use Rattle.circuit_core.specs.Parts.{height, width_of, gate_of, zero_gate, zero_f, combined, gate_value, padded_values, layer_values}
use Rattle.circuit_core.specs.Faults.{first_below, first_in_layer, first_at_gate, depth_fault, width_fault, zero_fault, is_add, is_zero_gate, is_padding}
use Rattle.circuit_core.specs.Sound.{SoundCircuit, greatest, exponent_at}
use Rattle.circuit_core.proofs.api.First.{or_none, none_below}
use Rattle.circuit_core.proofs.api.Faultless.{none_from_test, unless-none, width_power, height_bounds}
use Rattle.circuit_core.proofs.api.LayerValues.{layer_values_last, layer_values_step, length-layer}
use Rattle.gkr_layers.proofs.api.Shapes.{outputs_room}

zero-sum : add_f zero_f zero_f ≡ zero_f
unfolding of
zero-sum = F_eq (add_f zero_f zero_f) zero_f refl

either : (b : Bool) → (b || true) ≡ true
either true = refl
either false = refl

-- a gate that adds position 0 to itself gives 0 where the value there is 0
zero_value : (below : List F) (gate : CircuitGate) → is_zero_gate gate ≡ true → get_or below 0 zero_f ≡ zero_f → gate_value below gate ≡ zero_f
zero_value below gate e z = of_kind gate.kind parts.0
  where
    parts : (is_add gate.kind ≡ true) × (gate.left ≡ 0) × (gate.right ≡ 0)
    parts =
        let a = and_parts _ _ e in
        let b = and_parts _ _ a.0 in
        (b.0, eqb-true _ _ b.1, eqb-true _ _ a.1)

    at : (n : ℕ) → n ≡ 0 → get_or below n zero_f ≡ zero_f
    at n h = ap (λ (i : ℕ). get_or below i zero_f) h ∙ z

    of_kind : (kind : Kind) → is_add kind ≡ true → combined kind (get_or below gate.left zero_f) (get_or below gate.right zero_f) ≡ zero_f
    of_kind Add h = ap₂ add_f (at gate.left parts.1) (at gate.right parts.2) ∙ zero-sum
    of_kind Mul h = cc

module _ {A : Type 0} (z : A) where
  zeros-at : (m i : ℕ) → get_or (replicate m z) i z ≡ z
  zeros-at zero i = refl
  zeros-at (suc m) zero = refl
  zeros-at (suc m) (suc i) = zeros-at m i

  pub behind-zero : (values : List A) (m i : ℕ) → get_or (values ++ replicate m z) i z ≡ get_or values i z
  behind-zero [] m i = zeros-at m i
  behind-zero (v ∷ vs) m zero = refl
  behind-zero (v ∷ vs) m (suc i) = behind-zero vs m i

module _ (c : SoundCircuit) (inputs : List F) where
  -- each gate of position 0 and of padding is add(0, 0)
  zero_gate_at : (i g : ℕ) → i < height c.parts → g < width_of c.parts i → is_padding c.parts i g ≡ true → is_zero_gate (gate_of c.parts i g) ≡ true
  zero_gate_at i g u v e = by_padding (is_padding c.parts i g) e (unless-none _ _ none)
    where
      none : zero_fault c.parts i g ≡ None
      none =
          let a = or_none (depth_fault greatest c.parts) _ (none_from_test _ c.faultless) in
          let b = or_none (first_below (height c.parts + 1) (width_fault greatest c.parts)) _ a.1 in
          let d = or_none (first_at_gate c.parts (zero_fault c.parts)) _ b.1 in
          none_below (zero_fault c.parts i) (width_of c.parts i) g (none_below (first_in_layer c.parts (zero_fault c.parts)) (height c.parts) i d.0 u) v

      by_padding : (b : Bool) → b ≡ true → (not b || is_zero_gate (gate_of c.parts i g)) ≡ true → is_zero_gate (gate_of c.parts i g) ≡ true
      by_padding true e h = h
      by_padding false e h = cc

  value_at_gate : (i g : ℕ) → i < height c.parts → g < width_of c.parts i → get_or (layer_values c.parts inputs i) g zero_f ≡ gate_value (layer_values c.parts inputs (i + 1)) (gate_of c.parts i g)
  value_at_gate i g u v =
      let width : width_of c.parts i ≡ length (get_or c.parts.layers i []) = cond-true _ _ _ (lt-ltb i (height c.parts) u) in
      let inside : g < length (get_or c.parts.layers i []) = omega arith in
      ap (λ (values : List F). get_or values g zero_f) (layer_values_step c.parts inputs i u)
      ∙ get_or-map (gate_value (layer_values c.parts inputs (i + 1))) (get_or c.parts.layers i []) g zero_gate zero_f inside

  some : (i : ℕ) → i < height c.parts → 0 < width_of c.parts i
  some i u = let size = width_power c.parts (none_from_test _ c.faultless) i (omega arith) in omega (arith, size.0, pow_pos (exponent_at c.parts i))

  -- position 0 holds 0
  first_zero : (n i : ℕ) → i + n ≡ height c.parts → get_or (layer_values c.parts inputs i) 0 zero_f ≡ zero_f
  first_zero zero i e =
      let last : i ≡ height c.parts = omega arith in
      ap (λ (j : ℕ). get_or (layer_values c.parts inputs j) 0 zero_f) last ∙ ap (λ (values : List F). get_or values 0 zero_f) (layer_values_last c.parts inputs)
  first_zero (suc n) i e =
      let u : i < height c.parts = omega arith in
      value_at_gate i 0 u (some i u)
      ∙ zero_value (layer_values c.parts inputs (i + 1)) (gate_of c.parts i 0) (zero_gate_at i 0 u (some i u) refl) (first_zero n (i + 1) (omega arith))

  -- padding after the outputs holds 0
  past_zero : (g : ℕ) → c.parts.outputs < g → g < width_of c.parts 0 → get_or (layer_values c.parts inputs 0) g zero_f ≡ zero_f
  past_zero g u v =
      let h : 0 < height c.parts = (let b = height_bounds c.parts (none_from_test _ c.faultless) in omega (arith, b.0)) in
      value_at_gate 0 g h v
      ∙ zero_value (layer_values c.parts inputs 1) (gate_of c.parts 0 g)
      (zero_gate_at 0 g h v (ap (λ (b : Bool). (g == 0) || b) (lt-ltb c.parts.outputs g u) ∙ either (g == 0)))
      (first_zero (height c.parts - 1) 1 (omega arith))

  pub outputs_padded : (outputs : List F) → length outputs ≡ c.parts.outputs → outputs ≡ take (length outputs) (drop 1 (layer_values c.parts inputs 0)) →
      layer_values c.parts inputs 0 ≡ padded_values (width_of c.parts 0) outputs
  outputs_padded outputs count are =
      let h : 0 < height c.parts = (let b = height_bounds c.parts (none_from_test _ c.faultless) in omega (arith, b.0)) in
      let m : ℕ = width_of c.parts 0 - (1 + length outputs) in
      let size : length (layer_values c.parts inputs 0) ≡ width_of c.parts 0 = length-layer c.parts inputs 0 h in
      let padded : length (padded_values (width_of c.parts 0) outputs) ≡ width_of c.parts 0 =
      omega (arith, count, outputs_room c, length-append outputs (replicate m zero_f), length-replicate m zero_f) in
      ext_get_or zero_f (layer_values c.parts inputs 0) (padded_values (width_of c.parts 0) outputs) (size ∙ sym padded) (λ g u. at g (omega (arith, u, size)))
    where
      is : (g : ℕ) → get_or (padded_values (width_of c.parts 0) outputs) (suc g) zero_f ≡ get_or outputs g zero_f
      is g = behind-zero zero_f outputs (width_of c.parts 0 - (1 + length outputs)) g

      at : (g : ℕ) → g < width_of c.parts 0 → get_or (layer_values c.parts inputs 0) g zero_f ≡ get_or (padded_values (width_of c.parts 0) outputs) g zero_f
      at zero u = first_zero (height c.parts) 0 (omega arith)
      at (suc g) u = by_place (cases_lt g (length outputs))
        where
          by_place : (g < length outputs) ⊎ (length outputs ≤ g) → get_or (layer_values c.parts inputs 0) (suc g) zero_f ≡ get_or (padded_values (width_of c.parts 0) outputs) (suc g) zero_f
          by_place (inl v) =
              let e : suc g ≡ 1 + g = omega arith in
              ap (λ (i : ℕ). get_or (layer_values c.parts inputs 0) i zero_f) e
              ∙ sym (get_or-drop 1 (layer_values c.parts inputs 0) g zero_f)
              ∙ sym (get_or-take (length outputs) (drop 1 (layer_values c.parts inputs 0)) g zero_f v)
              ∙ sym (ap (λ (values : List F). get_or values g zero_f) are)
              ∙ sym (is g)
          by_place (inr v) = past_zero (suc g) (omega (arith, count)) u ∙ sym (is g ∙ get_or_past outputs g zero_f v)
