-- Elements at places of a list.
use Rattle.std.proofs.Common.{◌≡◌, ◌≢◌, ℕ, zero, suc, ◌+◌, ◌<◌, List, [], ◌∷◌, ◌++◌, length, map, get_or, set, Option, Some, None, sym, refl, ap, ◌∙◌, arith}
use Rattle.std.specs.List.{slice_get}

module _ {X : Type 0} where
  pub no_some : (y : X) → ◌≡◌ {A = Option X} None (Some y) → ⊥
  no_some y e = cc

  pub some_here : (xs : List X) (k : ℕ) (d : X) → k < length xs → slice_get xs k ≡ Some (get_or xs k d)
  some_here [] k d h = absurd (omega arith)
  some_here (x ∷ xs) zero d h = refl
  some_here (x ∷ xs) (suc k) d h = some_here xs k d (omega arith)

  -- an element that was read
  pub some_read : (xs ys : List X) (k : ℕ) (x y : X) → k < length xs → x ≡ get_or xs k y → xs ≡ ys → x ≡ y → slice_get ys k ≡ Some y
  some_read xs ys k x y low read same is = ap (λ (l : List X). slice_get l k) (sym same) ∙ some_here xs k y low ∙ ap (λ (z : X). Some z) (sym read ∙ is)

  pub get_within : (xs : List X) (y : X) (k : ℕ) → slice_get xs k ≡ Some y → k < length xs
  get_within [] y k e = absurd (no_some y e)
  get_within (z ∷ xs) y zero e = omega arith
  get_within (z ∷ xs) y (suc k) e = omega (arith, get_within xs y k e)

  pub get_longer : (xs ys : List X) (k : ℕ) (y : X) → slice_get xs k ≡ Some y → slice_get (xs ++ ys) k ≡ Some y
  get_longer [] ys k y e = absurd (no_some y e)
  get_longer (x ∷ xs) ys zero y e = e
  get_longer (x ∷ xs) ys (suc k) y e = get_longer xs ys k y e

  pub get_after : (xs ys : List X) (k : ℕ) (y : X) → slice_get ys k ≡ Some y → slice_get (xs ++ ys) (length xs + k) ≡ Some y
  get_after [] ys k y e = ap (slice_get ys) {x = 0 + k} (omega arith) ∙ e
  get_after (x ∷ xs) ys k y e = ap (slice_get (x ∷ (xs ++ ys))) {x = suc (length xs) + k} {y = suc (length xs + k)} (omega arith) ∙ get_after xs ys k y e

  pub get_front : (xs ys : List X) (k : ℕ) → k < length xs → slice_get (xs ++ ys) k ≡ slice_get xs k
  get_front [] ys k h = absurd (omega arith)
  get_front (x ∷ xs) ys zero h = refl
  get_front (x ∷ xs) ys (suc k) h = get_front xs ys k (omega arith)

  pub get_last : (xs : List X) (x : X) → slice_get (xs ++ x ∷ []) (length xs) ≡ Some x
  get_last [] x = refl
  get_last (z ∷ xs) x = get_last xs x

  pub get_set_same : (xs : List X) (i : ℕ) (z : X) → i < length xs → slice_get (set xs i z) i ≡ Some z
  get_set_same [] i z h = absurd (omega arith)
  get_set_same (x ∷ xs) zero z h = refl
  get_set_same (x ∷ xs) (suc i) z h = get_set_same xs i z (omega arith)

  pub get_set_else : (xs : List X) (i k : ℕ) (z : X) → k ≢ i → slice_get (set xs i z) k ≡ slice_get xs k
  get_set_else [] i k z n = refl
  get_set_else (x ∷ xs) zero zero z n = absurd (n refl)
  get_set_else (x ∷ xs) zero (suc k) z n = refl
  get_set_else (x ∷ xs) (suc i) zero z n = refl
  get_set_else (x ∷ xs) (suc i) (suc k) z n = get_set_else xs i k z (λ s. n (ap suc s))

  pub some_eq : (x y : X) → Some x ≡ Some y → x ≡ y
  some_eq x y e = cc

  pub get_snoc_else : (xs : List X) (k : ℕ) (x : X) → k ≢ length xs → slice_get (xs ++ x ∷ []) k ≡ slice_get xs k
  get_snoc_else [] zero x n = absurd (n refl)
  get_snoc_else [] (suc k) x n = refl
  get_snoc_else (z ∷ xs) zero x n = refl
  get_snoc_else (z ∷ xs) (suc k) x n = get_snoc_else xs k x (λ e. n (ap suc e))

pub get_map : {X Y : Type 0} (f : X → Y) (xs : List X) (k : ℕ) (x : X) → slice_get xs k ≡ Some x → slice_get (map f xs) k ≡ Some (f x)
get_map {X} {Y} f [] k x e = absurd (no_some x e)
get_map {X} {Y} f (z ∷ xs) zero x e = ap (λ (y : X). Some (f y)) (some_eq z x e)
get_map {X} {Y} f (z ∷ xs) (suc k) x e = get_map f xs k x e
