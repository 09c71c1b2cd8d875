-- How often a place is in two lists put into one.
use Rattle.std.proofs.Common.{◌≡◌, ℕ, ◌+◌, Bool, true, false, eqb, ltb, cond, List, [], ◌∷◌, refl, arith}
use Rattle.tallies.specs.Tallies.{times}
use Rattle.turn_lock.specs.Lists.{put_in, unite}

put_test : (x y z : ℕ) (l : List ℕ) → times x (put_in y l) ≡ cond (eqb x y) 1 0 + times x l → (t : Bool) → times x (cond t (y ∷ (z ∷ l)) (z ∷ put_in y l)) ≡ cond (eqb x y) 1 0 + times x (z ∷ l)
put_test x y z l more true = refl
put_test x y z l more false = omega arith

pub times-put_in : (x y : ℕ) (l : List ℕ) → times x (put_in y l) ≡ cond (eqb x y) 1 0 + times x l
times-put_in x y [] = refl
times-put_in x y (z ∷ l) = put_test x y z l (times-put_in x y l) (ltb y z)

pub times-unite : (x : ℕ) (a b : List ℕ) → times x (unite a b) ≡ times x a + times x b
times-unite x a [] = omega arith
times-unite x a (y ∷ b) = omega (arith, times-put_in x y (unite a b), times-unite x a b)
