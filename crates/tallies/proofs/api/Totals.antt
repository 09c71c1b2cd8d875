-- What the step of one seat does to a total over all views, and to a fact about each view.
use Rattle.std.proofs.Common.{◌≡◌, ◌≢◌, ℕ, zero, suc, ◌+◌, ◌<◌, ◌≤◌, List, [], ◌∷◌, ◌++◌, length, set, sym, refl, ap, subst, ⊎_elim, arith}
use mathlib.Core.Option.{some, some-injective, some-ne-none}
use lib.ListN.{get_elem?}
use Rattle.atomic_table.proofs.Lists.{at_set, at_snoc}
use Rattle.tallies.specs.Tallies.{total}

module _ {V : Type 0} where
  pub total_set : (f : V → ℕ) (vs : List V) (i : ℕ) (v w : V) → get_elem? vs i ≡ some v → total f (set vs i w) + f v ≡ total f vs + f w
  total_set f [] i v w e = absurd (some-ne-none v (sym e))
  total_set f (x ∷ xs) zero v w e = let is : f x ≡ f v = ap f (some-injective x v e) in omega arith
  total_set f (x ∷ xs) (suc i) v w e = omega (arith, total_set f xs i v w e)

  pub total_snoc : (f : V → ℕ) (vs : List V) (w : V) → total f (vs ++ w ∷ []) ≡ total f vs + f w
  total_snoc f [] w = omega arith
  total_snoc f (x ∷ xs) w = omega (arith, total_snoc f xs w)

  pub one_le : (f : V → ℕ) (vs : List V) (i : ℕ) (v : V) → get_elem? vs i ≡ some v → f v ≤ total f vs
  one_le f [] i v e = absurd (some-ne-none v (sym e))
  one_le f (x ∷ xs) zero v e = let is : f x ≡ f v = ap f (some-injective x v e) in omega arith
  one_le f (x ∷ xs) (suc i) v e = omega (arith, one_le f xs i v e)

  pub two_le : (f : V → ℕ) (vs : List V) (i j : ℕ) (v u : V) → get_elem? vs i ≡ some v → get_elem? vs j ≡ some u → i ≢ j → f v + f u ≤ total f vs
  two_le f [] i j v u e d n = absurd (some-ne-none v (sym e))
  two_le f (x ∷ xs) zero zero v u e d n = absurd (n refl)
  two_le f (x ∷ xs) zero (suc j) v u e d n = let is : f x ≡ f v = ap f (some-injective x v e) in omega (arith, one_le f xs j u d)
  two_le f (x ∷ xs) (suc i) zero v u e d n = let is : f x ≡ f u = ap f (some-injective x u d) in omega (arith, one_le f xs i v e)
  two_le f (x ∷ xs) (suc i) (suc j) v u e d n = omega (arith, two_le f xs i j v u e d (λ s. n (ap suc s)))

  pub total_le : (f g : V → ℕ) (vs : List V) → ((i : ℕ) (v : V) → get_elem? vs i ≡ some v → f v ≤ g v) → total f vs ≤ total g vs
  total_le f g [] h = omega arith
  total_le f g (x ∷ xs) h = let here = h 0 x refl in let r = total_le f g xs (λ i v e. h (suc i) v e) in omega arith

  pub each_set : (F : V → Type 0) (vs : List V) (i : ℕ) (w : V) → F w → ((j : ℕ) (v : V) → get_elem? vs j ≡ some v → F v) → (j : ℕ) (v : V) → get_elem? (set vs i w) j ≡ some v → F v
  each_set F vs i w here old j u e = ⊎_elim (λ (x : (j ≡ i) × (w ≡ u)). subst F x.1 here) (λ (x : (j ≢ i) × (get_elem? vs j ≡ some u)). old j u x.1) (at_set vs i j w u e)

  -- the same where the others know their place
  pub each_other : (F : V → Type 0) (vs : List V) (i : ℕ) (w : V) → F w → ((j : ℕ) (v : V) → j ≢ i → get_elem? vs j ≡ some v → F v) → (j : ℕ) (v : V) → get_elem? (set vs i w) j ≡ some v → F v
  each_other F vs i w here old j u e = ⊎_elim (λ (x : (j ≡ i) × (w ≡ u)). subst F x.1 here) (λ (x : (j ≢ i) × (get_elem? vs j ≡ some u)). old j u x.0 x.1) (at_set vs i j w u e)

  pub each_snoc : (F : V → Type 0) (vs : List V) (w : V) → F w → ((j : ℕ) (v : V) → get_elem? vs j ≡ some v → F v) → (j : ℕ) (v : V) → get_elem? (vs ++ w ∷ []) j ≡ some v → F v
  each_snoc F vs w here old j u e = ⊎_elim (λ (x : get_elem? vs j ≡ some u). old j u x) (λ (x : w ≡ u). subst F x here) (at_snoc vs w u j e)

  zeros : (f g : V → ℕ) (vs : List V) → ((i : ℕ) (u : V) → get_elem? vs i ≡ some u → g u ≡ 0 → f u ≡ 0) → total g vs ≡ 0 → total f vs ≡ 0
  zeros f g [] h z = refl
  zeros f g (x ∷ xs) h z = let here = h 0 x refl (omega arith) in let r = zeros f g xs (λ i u e. h (suc i) u e) (omega arith) in omega arith

  -- where one has the whole of g, it has the whole of f
  pub whole : (f g : V → ℕ) (vs : List V) (i : ℕ) (v : V) → get_elem? vs i ≡ some v → ((i : ℕ) (u : V) → get_elem? vs i ≡ some u → g u ≡ 0 → f u ≡ 0) → total g vs ≡ g v → total f vs ≡ f v
  whole f g [] i v e h z = absurd (some-ne-none v (sym e))
  whole f g (x ∷ xs) zero v e h z = let is : g x ≡ g v = ap g (some-injective x v e) in let is' : f x ≡ f v = ap f (some-injective x v e) in
      let r = zeros f g xs (λ i u e. h (suc i) u e) (omega arith) in omega arith
  whole f g (x ∷ xs) (suc i) v e h z = let m = one_le g xs i v e in let here = h 0 x refl (omega arith) in let r = whole f g xs i v e (λ i u e. h (suc i) u e) (omega arith) in omega arith

  pub inside : (l : List V) (i : ℕ) (v : V) → get_elem? l i ≡ some v → i < length l
  inside [] i v e = absurd (some-ne-none v (sym e))
  inside (x ∷ xs) zero v e = omega arith
  inside (x ∷ xs) (suc i) v e = omega (arith, inside xs i v e)
