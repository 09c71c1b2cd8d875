-- Sums over gates, one more gate at a time
use Rattle.std.proofs.Common.{◌≡◌, ℕ, ◌+◌, ◌<◌, ◌≤◌, List, length, get_or, drop, sym, ◌∙◌, ap, drop_of_length-le}
use Rattle.std.proofs.lemmas.List.{drop_more}
use Rattle.field_ext.specs.Ring.{Ops, Laws}
use Rattle.circuit_core.specs.declared.gate.CircuitGate.{CircuitGate}
use Rattle.wiring_poly.specs.Wiring.{sum_gates}
use Rattle.field_ext.proofs.api.Rings.{zero_add}

module _ {A : Type 0} (o : Ops A) (l : Laws A o) where
  pub summed_none : (sum all : A) → sum ≡ o.zero → o.add sum all ≡ all
  summed_none sum all e = ap (λ (x : A). o.add x all) e ∙ zero_add o l all

  pub summed_more : (gates : List CircuitGate) (f : ℕ → CircuitGate → A) (g : ℕ) (d : CircuitGate) (sum next all : A) → g < length gates →
      next ≡ o.add sum (f g (get_or gates g d)) → o.add sum (sum_gates o g (drop g gates) f) ≡ all → o.add next (sum_gates o (g + 1) (drop (g + 1) gates) f) ≡ all
  summed_more gates f g d sum next all u e h =
      ap (λ (x : A). o.add x (sum_gates o (g + 1) (drop (g + 1) gates) f)) e
      ∙ l.add_assoc sum (f g (get_or gates g d)) (sum_gates o (g + 1) (drop (g + 1) gates) f)
      ∙ ap (λ (gs : List CircuitGate). o.add sum (sum_gates o g gs f)) (sym (drop_more gates g d u))
      ∙ h

  pub summed_all : (gates : List CircuitGate) (f : ℕ → CircuitGate → A) (g : ℕ) (sum all : A) → length gates ≤ g → o.add sum (sum_gates o g (drop g gates) f) ≡ all → sum ≡ all
  summed_all gates f g sum all u h = sym (l.add_zero sum) ∙ ap (λ (gs : List CircuitGate). o.add sum (sum_gates o g gs f)) (sym (drop_of_length-le gates u)) ∙ h
