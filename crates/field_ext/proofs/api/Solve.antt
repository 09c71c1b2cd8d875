-- A solver for equations that hold in every commutative ring: both sides are written as expressions, and compared as sums of signed monomials
use Rattle.std.proofs.Common.{◌≡◌, ℕ, Bool, true, false, not, eqb, ltb, leb, List, [], ◌∷◌, refl, sym, ◌∙◌, ap, ap₂, get_or, eqb-true}
use Rattle.field_ext.specs.Ring.{Ops, Laws}
use Rattle.field_ext.proofs.api.Rings.{zero_add, neg_add, add_left_comm, mul_left_comm, add_mul, one_mul, mul_zero, zero_mul, mul_neg, neg_mul, neg_neg, neg-add, neg-zero}

infixl 20 ◌⊕◌
infixl 30 ◌⊗◌
pub data Expr : Type 0 where
  var : ℕ → Expr
  nil : Expr
  unit : Expr
  ◌⊕◌ : Expr → Expr → Expr
  ◌⊗◌ : Expr → Expr → Expr
  minus : Expr → Expr

-- a signed product of variables; true is plus
abbrev Mono : Type 0
Mono = Bool × List ℕ

-- places a variable in a product
abbrev place : ℕ → List ℕ → List ℕ
place i [] = i ∷ []
place i (j ∷ js) = elim (leb i j) [ true ↦ i ∷ j ∷ js | false ↦ j ∷ place i js ]

abbrev joined : List ℕ → List ℕ → List ℕ
joined [] js = js
joined (i ∷ is) js = place i (joined is js)

abbrev sign : Bool → Bool → Bool
sign true s = s
sign false s = not s

abbrev mul_mono : Mono → Mono → Mono
mul_mono m n = (sign m.0 n.0, joined m.1 n.1)

-- whether two products are the same
abbrev same_vars : List ℕ → List ℕ → Bool
same_vars [] [] = true
same_vars [] (j ∷ js) = false
same_vars (i ∷ is) [] = false
same_vars (i ∷ is) (j ∷ js) = elim (eqb i j) [ true ↦ same_vars is js | false ↦ false ]

-- an order of products, of which nothing is proved
abbrev before : List ℕ → List ℕ → Bool
before [] js = true
before (i ∷ is) [] = false
before (i ∷ is) (j ∷ js) = elim (eqb i j) [ true ↦ before is js | false ↦ ltb i j ]

abbrev opposite : Bool → Bool → Bool
opposite true s = not s
opposite false s = s

-- adds a monomial to a sum, or takes its opposite away
abbrev insert_mono : Mono → List Mono → List Mono
insert_mono m [] = m ∷ []
insert_mono m (n ∷ ns) =
    elim (same_vars m.1 n.1) [
      | true ↦ elim (opposite m.0 n.0) [ true ↦ ns | false ↦ m ∷ n ∷ ns ]
      | false ↦ elim (before m.1 n.1) [ true ↦ m ∷ n ∷ ns | false ↦ n ∷ insert_mono m ns ]
    ]

abbrev sum_monos : List Mono → List Mono → List Mono
sum_monos [] ns = ns
sum_monos (m ∷ ms) ns = insert_mono m (sum_monos ms ns)

abbrev scale_monos : Mono → List Mono → List Mono
scale_monos m [] = []
scale_monos m (n ∷ ns) = insert_mono (mul_mono m n) (scale_monos m ns)

abbrev product_monos : List Mono → List Mono → List Mono
product_monos [] ns = []
product_monos (m ∷ ms) ns = sum_monos (scale_monos m ns) (product_monos ms ns)

abbrev flip_monos : List Mono → List Mono
flip_monos [] = []
flip_monos (m ∷ ms) = (not m.0, m.1) ∷ flip_monos ms

abbrev pub normal : Expr → List Mono
normal (var i) = (true, i ∷ []) ∷ []
normal nil = []
normal unit = (true, []) ∷ []
normal (e ⊕ f) = sum_monos (normal e) (normal f)
normal (e ⊗ f) = product_monos (normal e) (normal f)
normal (minus e) = flip_monos (normal e)

same_vars_is : (is js : List ℕ) → same_vars is js ≡ true → is ≡ js
same_vars_is [] [] h = refl
same_vars_is [] (j ∷ js) h = absurd (cc)
same_vars_is (i ∷ is) [] h = absurd (cc)
same_vars_is (i ∷ is) (j ∷ js) h = by_head (eqb i j) refl h (same_vars_is is js)
  where
    by_head : (b : Bool) → eqb i j ≡ b → (elim b as (λ _. Bool) [ true ↦ same_vars is js | false ↦ false ]) ≡ true → (same_vars is js ≡ true → is ≡ js) → i ∷ is ≡ j ∷ js
    by_head true e h rest = ap₂ (λ (x : ℕ) (xs : List ℕ). x ∷ xs) (eqb-true i j e) (rest h)
    by_head false e h rest = absurd (cc)

module _ {A : Type 0} (o : Ops A) (l : Laws A o) (ρ : List A) where
  abbrev pub eval : Expr → A
  eval (var i) = get_or ρ i o.zero
  eval nil = o.zero
  eval unit = o.one
  eval (e ⊕ f) = o.add (eval e) (eval f)
  eval (e ⊗ f) = o.mul (eval e) (eval f)
  eval (minus e) = o.neg (eval e)

  abbrev vars_value : List ℕ → A
  vars_value [] = o.one
  vars_value (i ∷ is) = o.mul (get_or ρ i o.zero) (vars_value is)

  abbrev signed : Bool → A → A
  signed true x = x
  signed false x = o.neg x

  abbrev mono_value : Mono → A
  mono_value m = signed m.0 (vars_value m.1)

  abbrev total : List Mono → A
  total [] = o.zero
  total (m ∷ ms) = o.add (mono_value m) (total ms)

  place_is : (i : ℕ) (js : List ℕ) → vars_value (place i js) ≡ o.mul (get_or ρ i o.zero) (vars_value js)
  place_is i [] = refl
  place_is i (j ∷ js) =
      elim (leb i j) as (λ b. vars_value (elim b as (λ _. List ℕ) [ true ↦ i ∷ j ∷ js | false ↦ j ∷ place i js ]) ≡ o.mul (get_or ρ i o.zero) (o.mul (get_or ρ j o.zero) (vars_value js))) [
        | true ↦ refl
        | false ↦ ap (o.mul (get_or ρ j o.zero)) (place_is i js) ∙ mul_left_comm o l (get_or ρ j o.zero) (get_or ρ i o.zero) (vars_value js)
      ]

  joined_is : (is js : List ℕ) → vars_value (joined is js) ≡ o.mul (vars_value is) (vars_value js)
  joined_is [] js = sym (one_mul o l (vars_value js))
  joined_is (i ∷ is) js =
      place_is i (joined is js) ∙ ap (o.mul (get_or ρ i o.zero)) (joined_is is js) ∙ sym (l.mul_assoc (get_or ρ i o.zero) (vars_value is) (vars_value js))

  not_is : (s : Bool) (x : A) → signed (not s) x ≡ o.neg (signed s x)
  not_is true x = refl
  not_is false x = sym (neg_neg o l x)

  sign_is : (s t : Bool) (x y : A) → signed (sign s t) (o.mul x y) ≡ o.mul (signed s x) (signed t y)
  sign_is true true x y = refl
  sign_is true false x y = sym (mul_neg o l x y)
  sign_is false true x y = sym (neg_mul o l x y)
  sign_is false false x y = sym (neg_mul o l x (o.neg y) ∙ ap o.neg (mul_neg o l x y) ∙ neg_neg o l (o.mul x y))

  mul_mono_is : (m n : Mono) → mono_value (mul_mono m n) ≡ o.mul (mono_value m) (mono_value n)
  mul_mono_is m n = ap (signed (sign m.0 n.0)) (joined_is m.1 n.1) ∙ sign_is m.0 n.0 (vars_value m.1) (vars_value n.1)

  opposite_is : (s t : Bool) (x y : A) → opposite s t ≡ true → o.add (signed s x) (o.add (signed t x) y) ≡ y
  opposite_is true true x y h = absurd (cc)
  opposite_is true false x y h = sym (l.add_assoc x (o.neg x) y) ∙ ap (λ (t : A). o.add t y) (l.add_neg x) ∙ zero_add o l y
  opposite_is false true x y h = sym (l.add_assoc (o.neg x) x y) ∙ ap (λ (t : A). o.add t y) (neg_add o l x) ∙ zero_add o l y
  opposite_is false false x y h = absurd (cc)

  insert_is : (m : Mono) (ms : List Mono) → total (insert_mono m ms) ≡ o.add (mono_value m) (total ms)
  insert_is m [] = refl
  insert_is m (n ∷ ns) = by_same (same_vars m.1 n.1) refl (insert_is m ns)
    where
      by_sign : (b : Bool) → opposite m.0 n.0 ≡ b → m.1 ≡ n.1 → total (elim b as (λ _. List Mono) [ true ↦ ns | false ↦ m ∷ n ∷ ns ]) ≡ o.add (mono_value m) (o.add (mono_value n) (total ns))
      by_sign true e v = sym (ap (λ (t : A). o.add t (o.add (mono_value n) (total ns))) (ap (λ (xs : List ℕ). signed m.0 (vars_value xs)) v) ∙ opposite_is m.0 n.0 (vars_value n.1) (total ns) e)
      by_sign false e v = refl

      by_before : (b : Bool) → total (insert_mono m ns) ≡ o.add (mono_value m) (total ns) → total (elim b as (λ _. List Mono) [ true ↦ m ∷ n ∷ ns | false ↦ n ∷ insert_mono m ns ]) ≡ o.add (mono_value m) (o.add (mono_value n) (total ns))
      by_before true rest = refl
      by_before false rest = ap (o.add (mono_value n)) rest ∙ add_left_comm o l (mono_value n) (mono_value m) (total ns)

      by_same : (b : Bool) → same_vars m.1 n.1 ≡ b → total (insert_mono m ns) ≡ o.add (mono_value m) (total ns) → total (elim b as (λ _. List Mono) [
        | true ↦ elim (opposite m.0 n.0) [ true ↦ ns | false ↦ m ∷ n ∷ ns ]
        | false ↦ elim (before m.1 n.1) [ true ↦ m ∷ n ∷ ns | false ↦ n ∷ insert_mono m ns ]
      ]) ≡ o.add (mono_value m) (o.add (mono_value n) (total ns))
      by_same true e rest = by_sign (opposite m.0 n.0) refl (same_vars_is m.1 n.1 e)
      by_same false e rest = by_before (before m.1 n.1) rest

  sum_is : (ms ns : List Mono) → total (sum_monos ms ns) ≡ o.add (total ms) (total ns)
  sum_is [] ns = sym (zero_add o l (total ns))
  sum_is (m ∷ ms) ns = insert_is m (sum_monos ms ns) ∙ ap (o.add (mono_value m)) (sum_is ms ns) ∙ sym (l.add_assoc (mono_value m) (total ms) (total ns))

  scale_is : (m : Mono) (ns : List Mono) → total (scale_monos m ns) ≡ o.mul (mono_value m) (total ns)
  scale_is m [] = sym (mul_zero o l (mono_value m))
  scale_is m (n ∷ ns) = insert_is (mul_mono m n) (scale_monos m ns) ∙ ap₂ o.add (mul_mono_is m n) (scale_is m ns) ∙ sym (l.mul_add (mono_value m) (mono_value n) (total ns))

  product_is : (ms ns : List Mono) → total (product_monos ms ns) ≡ o.mul (total ms) (total ns)
  product_is [] ns = sym (zero_mul o l (total ns))
  product_is (m ∷ ms) ns = sum_is (scale_monos m ns) (product_monos ms ns) ∙ ap₂ o.add (scale_is m ns) (product_is ms ns) ∙ sym (add_mul o l (mono_value m) (total ms) (total ns))

  flip_is : (ms : List Mono) → total (flip_monos ms) ≡ o.neg (total ms)
  flip_is [] = sym (neg-zero o l)
  flip_is (m ∷ ms) = ap₂ o.add (not_is m.0 (vars_value m.1)) (flip_is ms) ∙ sym (neg-add o l (mono_value m) (total ms))

  normal_is : (e : Expr) → total (normal e) ≡ eval e
  normal_is (var i) = l.add_zero (o.mul (get_or ρ i o.zero) o.one) ∙ l.mul_one (get_or ρ i o.zero)
  normal_is nil = refl
  normal_is unit = l.add_zero o.one
  normal_is (e ⊕ f) = sum_is (normal e) (normal f) ∙ ap₂ o.add (normal_is e) (normal_is f)
  normal_is (e ⊗ f) = product_is (normal e) (normal f) ∙ ap₂ o.mul (normal_is e) (normal_is f)
  normal_is (minus e) = flip_is (normal e) ∙ ap o.neg (normal_is e)

  -- expressions with one normal form have one value
  pub solve : (e f : Expr) → normal e ≡ normal f → eval e ≡ eval f
  solve e f h = sym (normal_is e) ∙ ap total h ∙ normal_is f
