-- Two lists of one length whose elements are in a relation, place by place.
use Rattle.std.proofs.Common.{◌≡◌, ℕ, zero, suc, ◌+◌, ◌<◌, ◌≤◌, List, [], ◌∷◌, ◌++◌, map, take, drop, set, length, get_or, refl, ap, arith}
use Rattle.std.specs.List.{zip, range_with_len}

abbrev pub Each : {A B : Type 0} → (A → B → Type 0) → List A → List B → Type 0
Each R [] [] = Unit {0}
Each R (x ∷ xs) (y ∷ ys) = R x y × Each R xs ys
Each R [] (y ∷ ys) = ⊥
Each R (x ∷ xs) [] = ⊥

module _ {A B : Type 0} (R : A → B → Type 0) where
  pub each-length : (xs : List A) (ys : List B) → Each R xs ys → length xs ≡ length ys
  each-length [] [] e = refl
  each-length [] (y ∷ ys) e = absurd e
  each-length (x ∷ xs) [] e = absurd e
  each-length (x ∷ xs) (y ∷ ys) e = ap suc (each-length xs ys e.1)

  pub each-append : (xs zs : List A) (ys ws : List B) → Each R xs ys → Each R zs ws → Each R (xs ++ zs) (ys ++ ws)
  each-append [] zs [] ws e f = f
  each-append [] zs (y ∷ ys) ws e f = absurd e
  each-append (x ∷ xs) zs [] ws e f = absurd e
  each-append (x ∷ xs) zs (y ∷ ys) ws e f = (e.0, each-append xs zs ys ws e.1 f)

  pub each-take : (n : ℕ) (xs : List A) (ys : List B) → Each R xs ys → Each R (take n xs) (take n ys)
  each-take zero xs ys e = tt
  each-take (suc n) [] [] e = tt
  each-take (suc n) [] (y ∷ ys) e = absurd e
  each-take (suc n) (x ∷ xs) [] e = absurd e
  each-take (suc n) (x ∷ xs) (y ∷ ys) e = (e.0, each-take n xs ys e.1)

  pub each-drop : (n : ℕ) (xs : List A) (ys : List B) → Each R xs ys → Each R (drop n xs) (drop n ys)
  each-drop zero xs ys e = e
  each-drop (suc n) [] [] e = tt
  each-drop (suc n) [] (y ∷ ys) e = absurd e
  each-drop (suc n) (x ∷ xs) [] e = absurd e
  each-drop (suc n) (x ∷ xs) (y ∷ ys) e = each-drop n xs ys e.1

  pub each-set : (xs : List A) (ys : List B) (k : ℕ) (x : A) (y : B) → Each R xs ys → R x y → Each R (set xs k x) (set ys k y)
  each-set [] [] k x y e r = tt
  each-set [] (z ∷ ys) k x y e r = absurd e
  each-set (z ∷ xs) [] k x y e r = absurd e
  each-set (z ∷ xs) (w ∷ ys) zero x y e r = (r, e.1)
  each-set (z ∷ xs) (w ∷ ys) (suc k) x y e r = (e.0, each-set xs ys k x y e.1 r)

  pub each-get : (xs : List A) (ys : List B) (k : ℕ) (d : A) (c : B) → Each R xs ys → k < length xs → R (get_or xs k d) (get_or ys k c)
  each-get [] ys k d c e inside = absurd (omega arith)
  each-get (x ∷ xs) [] k d c e inside = absurd e
  each-get (x ∷ xs) (y ∷ ys) zero d c e inside = e.0
  each-get (x ∷ xs) (y ∷ ys) (suc k) d c e inside = each-get xs ys k d c e.1 (omega arith)

  pub each-from : (xs : List A) (ys : List B) (d : A) (c : B) → length xs ≡ length ys → ((k : ℕ) → k < length xs → R (get_or xs k d) (get_or ys k c)) → Each R xs ys
  each-from [] [] d c long at = tt
  each-from [] (y ∷ ys) d c long at = absurd (omega arith)
  each-from (x ∷ xs) [] d c long at = absurd (omega arith)
  each-from (x ∷ xs) (y ∷ ys) d c long at = (at 0 (omega arith), each-from xs ys d c (omega arith) (λ k inside. at (suc k) (omega arith)))

  pub each-range : (f : ℕ → A) (g : ℕ → B) (first n : ℕ) → ((k : ℕ) → first ≤ k → k < first + n → R (f k) (g k)) → Each R (map f (range_with_len first n)) (map g (range_with_len first n))
  each-range f g first zero at = tt
  each-range f g first (suc n) at = (at first (omega arith) (omega arith), each-range f g (first + 1) n (λ k low high. at k (omega arith) (omega arith)))

module _ {B : Type 0} (R : ℕ → B → Type 0) where
  pub each-counted : (g : ℕ → B) (first n : ℕ) → ((k : ℕ) → first ≤ k → k < first + n → R k (g k)) → Each R (range_with_len first n) (map g (range_with_len first n))
  each-counted g first zero at = tt
  each-counted g first (suc n) at = (at first (omega arith) (omega arith), each-counted g (first + 1) n (λ k low high. at k (omega arith) (omega arith)))

module _ {A B C : Type 0} (R : A → B → Type 0) (S : A → C → Type 0) where
  -- along a function of the right sides
  pub each-map : (g : B → C) → ((x : A) (y : B) → R x y → S x (g y)) → (xs : List A) (ys : List B) → Each R xs ys → Each S xs (map g ys)
  each-map g along [] [] e = tt
  each-map g along [] (y ∷ ys) e = absurd e
  each-map g along (x ∷ xs) [] e = absurd e
  each-map g along (x ∷ xs) (y ∷ ys) e = (along x y e.0, each-map g along xs ys e.1)

module _ {A B : Type 0} (R S : A → B → Type 0) where
  pub each-more : ((x : A) (y : B) → R x y → S x y) → (xs : List A) (ys : List B) → Each R xs ys → Each S xs ys
  each-more along [] [] e = tt
  each-more along [] (y ∷ ys) e = absurd e
  each-more along (x ∷ xs) [] e = absurd e
  each-more along (x ∷ xs) (y ∷ ys) e = (along x y e.0, each-more along xs ys e.1)

-- both of a pair
abbrev pub Both : {A B : Type 0} → (A → B → Type 0) → A × A → B × B → Type 0
Both R x y = R x.0 y.0 × R x.1 y.1

module _ {A B : Type 0} (R : A → B → Type 0) where
  pub each-zip : (xs us : List A) (ys vs : List B) → Each R xs ys → Each R us vs → Each (Both R) (zip xs us) (zip ys vs)
  each-zip [] us [] vs e f = tt
  each-zip [] us (y ∷ ys) vs e f = absurd e
  each-zip (x ∷ xs) us [] vs e f = absurd e
  each-zip (x ∷ xs) [] (y ∷ ys) [] e f = tt
  each-zip (x ∷ xs) [] (y ∷ ys) (v ∷ vs) e f = absurd f
  each-zip (x ∷ xs) (u ∷ us) (y ∷ ys) [] e f = absurd f
  each-zip (x ∷ xs) (u ∷ us) (y ∷ ys) (v ∷ vs) e f = ((e.0, f.0), each-zip xs us ys vs e.1 f.1)
