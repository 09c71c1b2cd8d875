-- How many values a layer has, and their table
use Rattle.std.proofs.Common.{◌≡◌, ℕ, ◌+◌, ◌-◌, ◌^◌, ◌<◌, ◌≤◌, List, [], ◌∷◌, ◌++◌, None, length, map, reverse, get_or, refl, sym, ap, ap₂, ◌∙◌, subst, inl, inr, arith}
use Rattle.std.proofs.Math.Pow.{pow-lt}
use Rattle.std.proofs.lemmas.Bool.{cases_lt, cond-false, le-ltb}
use Rattle.std.proofs.lemmas.List.{get_or-reverse, get_or_append_left, get_or_push, length_push, length-map, length-reverse, map-append, reverse-append}
use Rattle.field_ext.specs.Field.{F, K, embed_k}
use Rattle.circuit_core.specs.declared.gate.CircuitGate.{CircuitGate}
use Rattle.circuit_core.specs.Parts.{height, width_of, gate_value, layer_values}
use Rattle.circuit_core.specs.Faults.{fault_of}
use Rattle.circuit_core.specs.Sound.{SoundCircuit, greatest, exponent_at}
use Rattle.circuit_core.proofs.api.Faultless.{none_from_test, width_power, leaves_room}
use Rattle.circuit_core.proofs.api.LayerValues.{layer_values_step, length-layer, length-input}
use Rattle.circuit_eval.specs.Tables.{table_of, AreTables}

pub map-reverse : {X Y : Type 0} (f : X → Y) (xs : List X) → map f (reverse xs) ≡ reverse (map f xs)
map-reverse f [] = refl
map-reverse f (x ∷ xs) =
    ap (map f) (reverse-append (x ∷ []) xs) ∙ map-append f (reverse xs) (x ∷ []) ∙ ap (λ ys. ys ++ f x ∷ []) (map-reverse f xs) ∙ sym (reverse-append (f x ∷ []) (map f xs))

pub same_exponent : (i j : ℕ) → 2 ^ i ≡ 2 ^ j → i ≡ j
same_exponent i j e =
    elim (cases_lt i j) [
      | inl less ↦ let more = pow-lt less in absurd (omega (arith, more, e))
      | inr u ↦
          elim (cases_lt j i) [
            | inl less ↦ let more = pow-lt less in absurd (omega (arith, more, e))
            | inr v ↦ omega arith
          ]
    ]

module _ (c : SoundCircuit) (inputs : List F) where
  no_fault : fault_of greatest c.parts ≡ None
  no_fault = none_from_test (fault_of greatest c.parts) c.faultless

  pub length-values : (i : ℕ) → i ≤ height c.parts → length (layer_values c.parts inputs i) ≡ width_of c.parts i
  length-values i l =
      elim (cases_lt i (height c.parts)) [
        | inl inner ↦ length-layer c.parts inputs i inner
        | inr last ↦
            let same : i ≡ height c.parts = omega arith in
            let width : width_of c.parts (height c.parts) ≡ c.parts.input_width = cond-false _ _ _ (le-ltb (height c.parts) (height c.parts) (omega arith)) in
            let capacity : 1 + length c.parts.leaves ≤ c.parts.input_width = subst (λ w. 1 + length c.parts.leaves ≤ w) width (leaves_room c.parts no_fault) in
            ap (λ (i : ℕ). length (layer_values c.parts inputs i)) same
            ∙ length-input c.parts inputs capacity ∙ sym width ∙ ap (λ (i : ℕ). width_of c.parts i) (sym same)
      ]

  -- there is a power of two of them
  pub values_power : (i : ℕ) → i ≤ height c.parts → (k : ℕ) × (length (layer_values c.parts inputs i) ≡ 2 ^ k)
  values_power i l = (exponent_at c.parts i, length-values i l ∙ (width_power c.parts no_fault i l).0)

  pub length-table : (i : ℕ) → i ≤ height c.parts → length (table_of c.parts inputs i) ≡ 2 ^ exponent_at c.parts i
  length-table i l = length-map (layer_values c.parts inputs i) embed_k ∙ length-values i l ∙ (width_power c.parts no_fault i l).0

  -- a layer's values, from those of its gates
  pub made : (h next : ℕ) (below values : List F) (gates : List CircuitGate) → h < height c.parts → next ≡ h + 1 → below ≡ layer_values c.parts inputs next → gates ≡ get_or c.parts.layers h [] → values ≡ map (gate_value below) gates → values ≡ layer_values c.parts inputs h
  made h next below values gates l up under of e =
      e ∙ ap₂ (λ below gates. map (gate_value below) gates) (under ∙ ap (λ (i : ℕ). layer_values c.parts inputs i) up) of ∙ sym (layer_values_step c.parts inputs h l)

  -- the tables from the leaves up
  pub record AreTold (tables : List (List K)) : Type 0 where
    pub each : (k : ℕ) → k < length tables → get_or tables k [] ≡ table_of c.parts inputs (height c.parts - k)

  pub told_none : AreTold []
  told_none = record { each = λ k l. absurd (omega arith) }

  pub told_push : (tables : List (List K)) (table : List K) (h : ℕ) → length tables + h ≡ height c.parts → AreTold tables → table ≡ table_of c.parts inputs h → AreTold (tables ++ table ∷ [])
  told_push tables table h many told e = record {
    each = λ k l.
        elim (cases_lt k (length tables)) [
          | inl earlier ↦ get_or_append_left tables (table ∷ []) [] k earlier ∙ told.each k earlier
          | inr last ↦
              let here : length tables ≡ k = omega (arith, l, last, length_push tables table) in
              let at : h ≡ height c.parts - k = omega (arith, here, many) in
              get_or_push tables table [] k here ∙ e ∙ ap (λ (i : ℕ). table_of c.parts inputs i) at
        ];
  }

  -- turned round, the outputs' is the first
  pub turned : (tables : List (List K)) → length tables ≡ height c.parts + 1 → AreTold tables → AreTables c.parts inputs (reverse tables)
  turned tables many told = record {
    count = length-reverse tables ∙ many;
    each = λ i l.
        let at : height c.parts - (length tables - 1 - i) ≡ i = omega (arith, many) in
        get_or-reverse tables i [] (omega (arith, many)) ∙ told.each (length tables - 1 - i) (omega (arith, many)) ∙ ap (λ (i : ℕ). table_of c.parts inputs i) at;
  }
