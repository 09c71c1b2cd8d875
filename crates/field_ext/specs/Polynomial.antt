-- Polynomials as lists of coefficients, constant first, over the operations of a ring
use Rattle.std.specs.Prelude.{◌≡◌, ◌≢◌, ℕ, zero, suc, ◌≤◌, List, [], ◌∷◌, map, length, All, slice_index_or}
use Rattle.field_ext.specs.Ring.{Ops}

module _ {A : Type 0} (o : Ops A) where
  infixl 65 ◌⊕◌
  infixl 70 ◌⊗◌
  open o use {add as ◌⊕◌, mul as ◌⊗◌}

  -- e times itself, n times
  abbrev pub power : A → ℕ → A
  power e zero = o.one
  power e (suc n) = e ⊗ power e n

  -- the value at e, by Horner's rule: a law says that it is the sum of the coefficients times the powers of e
  abbrev pub value_at : List A → A → A
  value_at [] e = o.zero
  value_at (c ∷ cs) e = c ⊕ e ⊗ value_at cs e

  -- every coefficient is 0
  abbrev pub IsZero : List A → Type 0
  IsZero cs = All (λ c. c ≡ o.zero) cs

  -- equal coefficients at each power: the lists are equal after trailing zeros
  abbrev pub SamePolynomial : List A → List A → Type 0
  SamePolynomial p q = (n : ℕ) → slice_index_or p n o.zero ≡ slice_index_or q n o.zero

  abbrev pub sum_of : List A → List A → List A
  sum_of [] ds = ds
  sum_of (c ∷ cs) [] = c ∷ cs
  sum_of (c ∷ cs) (d ∷ ds) = (c ⊕ d) ∷ sum_of cs ds

  abbrev pub product_of : List A → List A → List A
  product_of [] ds = []
  product_of (c ∷ cs) [] = []
  product_of (c ∷ cs) (d ∷ ds) = (c ⊗ d) ∷ sum_of (map (c ⊗◌) ds) (product_of cs (d ∷ ds))

  -- the polynomials' own operations; as lists, p + (-p) is zeros and not the empty list
  abbrev pub polynomial_ops : Ops (List A)
  polynomial_ops = record {
    zero = [];
    one = o.one ∷ [];
    add = sum_of;
    mul = product_of;
    neg = map o.neg;
  }

  -- the polynomial without variable
  abbrev pub constant : A → List A
  constant c = c ∷ []

  -- the first n coefficients, with zeros where there are fewer
  abbrev pub coefficients : ℕ → List A → List A
  coefficients zero p = []
  coefficients (suc n) [] = o.zero ∷ coefficients n []
  coefficients (suc n) (c ∷ cs) = c ∷ coefficients n cs

-- no two elements are equal
abbrev pub Distinct : {A : Type 0} → List A → Type 0
Distinct [] = Unit {0}
Distinct (x ∷ xs) = All (λ y. x ≢ y) xs × Distinct xs

-- every list of distinct elements of S has at most d members
abbrev pub HasAtMost : {A : Type 0} → ℕ → (A → Type 0) → Type 0
HasAtMost {A} d S = (xs : List A) → Distinct xs → All S xs → length xs ≤ d
