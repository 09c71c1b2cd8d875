-- Rising lists stay rising.
use Rattle.std.proofs.Common.{◌≡◌, ℕ, ◌+◌, ◌<◌, ◌≤◌, Bool, true, false, ltb, eqb, cond, List, [], ◌∷◌, ◌++◌, refl, arith}
use Rattle.std.proofs.lemmas.Bool.Decides.{nat_tests}
use Rattle.tallies.specs.Tallies.{times, Apart}
use Rattle.turn_lock.specs.Lists.{put_in, unite, IsAbove, IsRising}
use Rattle.tallies.proofs.api.Once.{self_one}
use Rattle.turn_lock.proofs.api.United.{times-unite}

above_put : (x z : ℕ) (l : List ℕ) → z < x → IsAbove z l → IsAbove z (put_in x l)
above_put x z [] lt a = lt
above_put x z (y ∷ l) lt a = by_test (ltb x y) where
  by_test : (t : Bool) → IsAbove z (cond t (x ∷ (y ∷ l)) (y ∷ put_in x l))
  by_test true = lt
  by_test false = a

-- a new place into a rising list
rising_put : (x : ℕ) (l : List ℕ) → times x l ≡ 0 → IsRising l → IsRising (put_in x l)
rising_put x [] none r = (tt, tt)
rising_put x (y ∷ l) none r = by_test (λ n. rising_put x l n r.1) (ltb x y) refl where
  here : (x y n : ℕ) → cond {A = ℕ} (eqb x y) 1 0 + n ≡ 0 → ltb x y ≡ false → (y < x) × (n ≡ 0)
  here x y n e f = (grind (arith, nat_tests), grind (arith, nat_tests))

  by_test : (times x l ≡ 0 → IsRising (put_in x l)) → (t : Bool) → ltb x y ≡ t → IsRising (cond t (x ∷ (y ∷ l)) (y ∷ put_in x l))
  by_test put true e = (grind (arith, nat_tests), r)
  by_test put false e = let h = here x y (times x l) none e in (above_put x y l h.0 r.0, put h.1)

none_of : (x y n m : ℕ) → cond {A = ℕ} (eqb x y) 1 0 + n + m ≤ 1 → 1 ≤ cond {A = ℕ} (eqb x y) 1 0 → (n ≡ 0) × (m ≡ 0)
none_of x y n m h k = (omega arith, omega arith)

-- two rising lists that have no place in common, as one
pub rising_unite : (a b : List ℕ) → IsRising a → IsRising b → Apart a b → IsRising (unite a b)
rising_unite a [] r s apart = r
rising_unite a (y ∷ b) r s apart = let t = apart y in let one = self_one y in let u = times-unite y a b in
    rising_put y (unite a b) (omega arith) (rising_unite a b r s.1 (λ x. let z = apart x in omega arith))

-- a place after all others
pub rising_snoc : (l : List ℕ) (n : ℕ) → IsRising l → ((x : ℕ) → n ≤ x → times x l ≡ 0) → IsRising (l ++ n ∷ [])
rising_snoc [] n r w = (tt, tt)
rising_snoc (x ∷ l) n r w = (above l r.0, rising_snoc l n r.1 (λ y h. let z = w y h in omega arith)) where
  low : (x n m : ℕ) → (n ≤ x → cond {A = ℕ} (eqb x x) 1 0 + m ≡ 0) → x < n
  low x n m h = let one = self_one x in dite_lt x n (λ k. let z = h k in absurd (omega arith)) where
    dite_lt : (x n : ℕ) → (n ≤ x → ⊥) → x < n
    dite_lt x n f = omega arith

  above : (l : List ℕ) → IsAbove x l → IsAbove x (l ++ n ∷ [])
  above [] a = low x n (times x l) (w x)
  above (y ∷ l) a = a
