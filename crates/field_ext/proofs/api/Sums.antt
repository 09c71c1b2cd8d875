-- The first term of a sum below a number, and the others
use Rattle.std.proofs.Common.{◌≡◌, ℕ, zero, suc, ◌∙◌, ap}
use Rattle.field_ext.specs.Ring.{Ops, Laws}
use Rattle.field_ext.specs.Sums.{sum_below}

module _ {A : Type 0} (o : Ops A) (l : Laws A o) where
  pub sum_below-front : (n : ℕ) (f : ℕ → A) → sum_below o (suc n) f ≡ o.add (f 0) (sum_below o n (λ k. f (suc k)))
  sum_below-front zero f = l.add_comm o.zero (f 0)
  sum_below-front (suc n) f = ap (λ (t : A). o.add t (f (suc n))) (sum_below-front n f) ∙ l.add_assoc (f 0) (sum_below o n (λ k. f (suc k))) (f (suc n))
