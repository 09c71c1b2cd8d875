-- A table of the equality polynomial becomes one of the instances' weights by one write
use Rattle.std.proofs.Common.{◌≡◌, ℕ, ◌+◌, ◌-◌, ◌^◌, ◌<◌, ◌≤◌, ◌⊎◌, inl, inr, List, length, drop, get_or, set, sym, ◌∙◌, ap, arith, length-drop, get_or-set_other}
use Rattle.std.proofs.lemmas.Bool.{cases_eq}
use Rattle.std.proofs.lemmas.List.{get_or-drop}
use Rattle.std.proofs.lemmas.Grind.{get_or-set_at}
use Rattle.field_ext.specs.Ring.{Ops, Laws}
use Rattle.field_ext.specs.Sums.{sum_below}
use Rattle.field_ext.specs.Multilinear.{eq_poly}
use Rattle.mle_table.specs.Equality.{IsEqTable}
use Rattle.mle_table.proofs.api.SumLaws.{sum_below-same}
use Rattle.batch_core.specs.CopiedValues.{instance_weight}
use Rattle.batch_core.proofs.api.Extensions.{weight-before, weight-last}

module _ {A : Type 0} (o : Ops A) (l : Laws A o) where
  -- the values from the last instance's copy on add to its weight
  last_weight : (t point : List A) (count : ℕ) → length t ≡ 2 ^ length point → 1 ≤ count → count ≤ 2 ^ length point → IsEqTable o point t →
      sum_below o (length (drop (count - 1) t)) (λ i. get_or (drop (count - 1) t) i o.zero) ≡ instance_weight o point count (count - 1)
  last_weight t point count size some room is =
      let k : ℕ = count - 1 in
      let few : count - 1 < 2 ^ length point = omega arith in
      let many : length (drop (count - 1) t) ≡ 2 ^ length point - (count - 1) = omega (arith, length-drop (count - 1) t, size) in
      let all : count - 1 + 1 ≡ count = omega arith in
      ap (λ (n : ℕ). sum_below o n (λ i. get_or (drop (count - 1) t) i o.zero)) many
      ∙ sum_below-same o l (2 ^ length point - (count - 1)) _ (λ e. eq_poly o point (count - 1 + e)) (λ e u.
      let inside : count - 1 + e < 2 ^ length point = omega (arith, u, few) in
      get_or-drop (count - 1) t e o.zero ∙ is (count - 1 + e) inside)
      ∙ sym (weight-last o l (count - 1) point few)
      ∙ ap (λ (n : ℕ). instance_weight o point n (count - 1)) all

  pub filled_weights : (t point : List A) (count m : ℕ) (last : A) → length t ≡ 2 ^ length point → 1 ≤ count → count ≤ 2 ^ length point → IsEqTable o point t →
      last ≡ sum_below o (length (drop (count - 1) t)) (λ i. get_or (drop (count - 1) t) i o.zero) → m < count → get_or (set t (count - 1) last) m o.zero ≡ instance_weight o point count m
  filled_weights t point count m last size some room is sum u = by_place (cases_eq m (count - 1))
    where
      by_place : (m ≡ count - 1) ⊎ (m ≡ count - 1 → ⊥) → get_or (set t (count - 1) last) m o.zero ≡ instance_weight o point count m
      by_place (inl e) =
          let inside : count - 1 < length t = omega (arith, size, room, some) in
          get_or-set_at t (count - 1) m last o.zero e inside ∙ sum ∙ last_weight t point count size some room is
          ∙ ap (instance_weight o point count) (sym e)
      by_place (inr n) =
          let before : m + 1 < count = omega (arith, n, u) in
          let inside : m < 2 ^ length point = omega (arith, u, room) in
          get_or-set_other t (count - 1) m last o.zero n ∙ is m inside ∙ sym (weight-before o l count point m before room)
