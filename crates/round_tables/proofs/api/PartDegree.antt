-- A part of a round has few coefficients
use Rattle.std.proofs.Common.{◌≡◌, ℕ, zero, suc, ◌+◌, ◌-◌, ◌/◌, ◌%◌, ◌≤◌, List, [], ◌∷◌, ◌++◌, map, length, take, drop, Bool, true, false, if◌then◌else◌, ◌==◌, refl, arith}
use Rattle.field_ext.specs.Ring.{Ops}
use Rattle.field_ext.specs.Multilinear.{bits_of}
use Rattle.circuit_core.specs.declared.gate.CircuitGate.{CircuitGate}
use Rattle.field_ext.specs.Polynomial.{polynomial_ops, constant}
use Rattle.gkr_layers.proofs.api.Degree.{degrees, degrees-append, degrees-parts, degrees-constants, length-sum_below, length-sum_cube, length-weighted_summand}
use Rattle.gkr_layers.specs.Places.{Place}
use Rattle.round_tables.specs.LayerSum.{left_in_phase, after_phase, part_of_round}

module _ {A : Type 0} (o : Ops A) where
  degrees-bits : (n h : ℕ) → degrees (bits_of (polynomial_ops o) n h) ≡ 0
  degrees-bits zero h = refl
  degrees-bits (suc n) h = let b = bit (h % 2 == 1) in omega (arith, b, degrees-bits n (h / 2))
    where
      bit : (b : Bool) → length (if b then o.one ∷ [] else []) - 1 ≡ 0
      bit true = refl
      bit false = refl

  -- a part of a round has at most three coefficients
  pub length-part : (k : ℕ) (gates : List CircuitGate) (t : List A) (z : Place A) (bound : List A) (from to : ℕ) → length (part_of_round o k gates t z bound from to) ≤ 3
  length-part k gates t z bound from to =
      let n : ℕ = left_in_phase k (length bound) - 1 in
      length-sum_below o (to - from) _ 3 (λ j.
      length-sum_cube o (after_phase k (length bound)) _ 3 (λ c e.
      let w : List (List A) = bits_of (polynomial_ops o) n (from + j) ++ c in
      let ws : List (List A) = map (constant o) bound ++ (o.zero ∷ o.one ∷ []) ∷ w in
      let s = length-weighted_summand o gates t z (take k ws) (drop k ws) in
      omega (arith, s, degrees-parts k ws, degrees-append (map (constant o) bound) ((o.zero ∷ o.one ∷ []) ∷ w), degrees-constants o bound, degrees-append (bits_of (polynomial_ops o) n (from + j)) c, degrees-bits n (from + j), e)))
