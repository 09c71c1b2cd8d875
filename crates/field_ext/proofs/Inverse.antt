-- Below a prime each number has an inverse, a product that is 0 has a factor 0, and -1 is no square where the prime leaves 3 modulo 4
use Rattle.std.proofs.Common.{◌≡◌, ℕ, zero, suc, ◌+◌, ◌*◌, ◌/◌, ◌%◌, ◌<◌, ◌≤◌, ◌≢◌, ◌⊎◌, inl, inr, refl, sym, ◌∙◌, ap, arith, mod-eq_of_lt, mod-lt, mul-le-mul}
use Rattle.std.proofs.Math.Nat.{zero-mod, div-add-mod, add-mul-mod_self_left, mul-mod_right, add-mod, le_of_mul-le-mul_left}
use Rattle.std.proofs.lemmas.Bool.{cases_lt, cases_eq}
use Rattle.std.proofs.lemmas.Nat.{mul-mod_first}
use Rattle.field_ext.proofs.api.Prime.{apart, same_rem}

step_squares : (m q a b r s t k1 k2 u v : ℕ) → b * q + r ≡ a → m * k1 ≡ a * a + s * s → m * k2 ≡ b * b + t * t → a * b + m * u ≡ s * t + m * v →
    r * r + (s + q * t) * (s + q * t) + m * (2 * q * v) ≡ 0 + m * (k1 + q * q * k2 + 2 * q * u)
step_squares m q a b r s t k1 k2 u v is h1 h2 h3 =
    let g1 : m * k1 ≡ (b * q + r) * (b * q + r) + s * s = rw is h1 in
    let g3 : (b * q + r) * b + m * u ≡ s * t + m * v = rw is h3 in
    let t2 : q * q * (m * k2) ≡ q * q * (b * b + t * t) = ap (λ (x : ℕ). q * q * x) h2 in
    let t3 : 2 * q * ((b * q + r) * b + m * u) ≡ 2 * q * (s * t + m * v) = ap (λ (x : ℕ). 2 * q * x) g3 in
    omega (arith, g1, t2, t3)

step_cross : (m q a b r s t k2 u v : ℕ) → b * q + r ≡ a → m * k2 ≡ b * b + t * t → a * b + m * u ≡ s * t + m * v →
    b * r + m * (q * k2 + u) ≡ t * (s + q * t) + m * v
step_cross m q a b r s t k2 u v is h2 h3 =
    let g3 : (b * q + r) * b + m * u ≡ s * t + m * v = rw is h3 in
    let t2 : q * (m * k2) ≡ q * (b * b + t * t) = ap (λ (x : ℕ). q * x) h2 in
    omega (arith, g3, t2)

-- a square leaves 0 or 1 modulo 4
square_mod : (x : ℕ) → ((x * x) % 4 ≡ 0) ⊎ ((x * x) % 4 ≡ 1)
square_mod x =
    elim (cases_eq (x % 2) 0) [
      | inl e ↦ let h = div-add-mod x 2 in inl (even x (x / 2) (omega (arith, h, e)))
      | inr ne ↦ let h = div-add-mod x 2 in let l : x % 2 < 2 = mod-lt x (omega arith) in inr (odd x (x / 2) (omega (arith, h, ne, l)))
    ]
  where
    even : (x h : ℕ) → x ≡ 2 * h → (x * x) % 4 ≡ 0
    even x h e = let d : 0 + 4 * (h * h) ≡ x * x = rw e (omega arith) in ap (λ (y : ℕ). y % 4) (sym d) ∙ add-mul-mod_self_left 0 4 (h * h)

    odd : (x h : ℕ) → x ≡ 2 * h + 1 → (x * x) % 4 ≡ 1
    odd x h e = let d : 1 + 4 * (h * h + h) ≡ x * x = rw e (omega arith) in ap (λ (y : ℕ). y % 4) (sym d) ∙ add-mul-mod_self_left 1 4 (h * h + h)

pub no_two_squares : (x y m : ℕ) → x * x + y * y ≡ m → m % 4 ≡ 3 → ⊥
no_two_squares x y m e r =
    let a = add-mod (x * x) (y * y) 4 in
    let b : ((x * x) % 4 + (y * y) % 4) % 4 ≡ 3 = sym a ∙ ap (λ (k : ℕ). k % 4) e ∙ r in
    elim (square_mod x) [
      | inl p ↦ elim (square_mod y) [ inl q ↦ absurd (omega (arith, p, q, b)) | inr q ↦ absurd (omega (arith, p, q, b)) ]
      | inr p ↦ elim (square_mod y) [ inl q ↦ absurd (omega (arith, p, q, b)) | inr q ↦ absurd (omega (arith, p, q, b)) ]
    ]

square_step : (m x y c z k l j : ℕ) → m * k ≡ x * x + y * y → m * l + z ≡ x * c → m * j + 1 ≡ y * c →
    z * z + 1 + m * (m * l * l + 2 * l * z + m * j * j + 2 * j) ≡ 0 + m * (c * c * k)
square_step m x y c z k l j h1 h2 h3 =
    let a : (m * l + z) * (m * l + z) ≡ x * c * (x * c) = rw h2 refl in
    let b : (m * j + 1) * (m * j + 1) ≡ y * c * (y * c) = rw h3 refl in
    let d : c * c * (m * k) ≡ c * c * (x * x + y * y) = ap (λ (t : ℕ). c * c * t) h1 in
    omega (arith, a, b, d)

module _ (n : ℕ) (two : 1 < suc n) (prime : (k : ℕ) → 1 < k → k < suc n → suc n % k ≢ 0) where
  -- by Euclid's way: the inverse of p % a gives that of a
  pub inverse : (fuel a : ℕ) → a < fuel → 0 < a → a < suc n → (b : ℕ) × ((a * b) % suc n ≡ 1)
  inverse zero a f l u = absurd (omega arith)
  inverse (suc fuel) a f l u =
      elim (cases_eq a 1) [
        | inl one ↦ (1, ap (λ (x : ℕ). (x * 1) % suc n) one ∙ mod-eq_of_lt two)
        | inr ne ↦
            let r = suc n % a in
            let q = suc n / a in
            let nz : r ≢ 0 = prime a (omega arith) u in
            let below : r < a = mod-lt (suc n) l in
            let found = inverse fuel r (omega arith) (omega arith) (omega arith) in
            let c = found.0 in
            let split : a * q + r ≡ suc n = div-add-mod (suc n) a in
            let times : (a * q + r) * (n * c) ≡ suc n * (n * c) = ap (λ (x : ℕ). x * (n * c)) split in
            let same : a * (n * q * c) + suc n * (r * c) ≡ r * c + suc n * (n * c) = omega (arith, times) in
            (n * q * c, same_rem (a * (n * q * c)) (r * c) (suc n) (r * c) (n * c) same ∙ found.1)
      ]

  pub euclid : (a b : ℕ) → (a * b) % suc n ≡ 0 → a % suc n ≢ 0 → b % suc n ≡ 0
  euclid a b z nz =
      let r = a % suc n in
      let found = inverse (suc n) r (mod-lt a (omega arith)) (omega arith) (mod-lt a (omega arith)) in
      let c = found.0 in
      -- b = c a b modulo p
      let e1 : (r * c * b) % suc n ≡ (1 * b) % suc n = sym (mul-mod_first (r * c) b (suc n)) ∙ ap (λ (x : ℕ). (x * b) % suc n) found.1 in
      let e2 : (r * (c * b)) % suc n ≡ (a * (c * b)) % suc n = mul-mod_first a (c * b) (suc n) in
      let e3 : ((a * b) % suc n * c) % suc n ≡ (a * b * c) % suc n = mul-mod_first (a * b) c (suc n) in
      let e4 : ((a * b) % suc n * c) % suc n ≡ (0 * c) % suc n = ap (λ (x : ℕ). (x * c) % suc n) z in
      let s1 : r * c * b ≡ r * (c * b) = omega arith in
      let s2 : a * (c * b) ≡ a * b * c = omega arith in
      let s3 : 0 * c ≡ 0 = omega arith in
      let s4 : 1 * b ≡ b = omega arith in
      ap (λ (x : ℕ). x % suc n) (sym s4) ∙ sym e1 ∙ ap (λ (x : ℕ). x % suc n) s1 ∙ e2 ∙ ap (λ (x : ℕ). x % suc n) s2 ∙ sym e3 ∙ e4 ∙ ap (λ (x : ℕ). x % suc n) s3 ∙ zero-mod (suc n)

  -- what is 0 modulo p and below 2p is 0 or p
  zero_or_p : (x : ℕ) → x % suc n ≡ 0 → x < 2 * suc n → (x ≡ 0) ⊎ (x ≡ suc n)
  zero_or_p x z u =
      let d = div-add-mod x (suc n) in
      elim (cases_lt (x / suc n) 1) [
        | inl l ↦ let e : x / suc n ≡ 0 = omega arith in let f : suc n * (x / suc n) ≡ suc n * 0 = ap (λ (k : ℕ). suc n * k) e in inl (omega (arith, f, d))
        | inr g ↦
            elim (cases_lt (x / suc n) 2) [
              | inl l ↦ let e : x / suc n ≡ 1 = omega arith in let f : suc n * (x / suc n) ≡ suc n * 1 = ap (λ (k : ℕ). suc n * k) e in inr (omega (arith, f, d))
              | inr h ↦ let f : suc n * 2 ≤ suc n * (x / suc n) = mul-le-mul (omega arith) h in absurd (omega (arith, f, d))
            ]
      ]

  -- By Euclid's way on p and a root of -1: the first remainder whose square is below p, and its cofactor, have squares that add to p
  two_squares : (fuel a b s t : ℕ) → b < fuel → suc n ≤ a * a → a * t + b * s ≡ suc n → (a * a + s * s) % suc n ≡ 0 → (b * b + t * t) % suc n ≡ 0 → (a * b) % suc n ≡ (s * t) % suc n → (x : ℕ) × (y : ℕ) × (x * x + y * y ≡ suc n)
  two_squares zero a b s t f big split z1 z2 cross = absurd (omega arith)
  two_squares (suc fuel) a b s t f big split z1 z2 cross =
      elim (cases_lt (b * b) (suc n)) [
        | inl l ↦
            let at : a * t ≤ suc n = omega arith in
            let sq : a * t * (a * t) ≤ suc n * suc n = mul-le-mul at at in
            let lo : suc n * (t * t) ≤ a * a * (t * t) = mul-le-mul big (omega arith) in
            let tt : suc n * (t * t) ≤ suc n * suc n = omega (arith, sq, lo) in
            let t_le : t * t ≤ suc n = le_of_mul-le-mul_left tt (omega arith) in
            elim (zero_or_p (b * b + t * t) z2 (omega arith)) [
              | inl e ↦ absurd (none a b s t split e)
              | inr e ↦ (b, t, e)
            ]
        | inr g ↦
            let q = a / b in
            let r = a % b in
            let pos : 0 < b = positive b (omega arith) in
            let is : b * q + r ≡ a = div-add-mod a b in
            let c1 = apart (a * b) (s * t) (suc n) cross in
            let k1 = div-add-mod (a * a + s * s) (suc n) in
            let k2 = div-add-mod (b * b + t * t) (suc n) in
            two_squares fuel b r t (s + q * t) (omega (arith, mod-lt a pos)) g
            (omega (arith, split, ap (λ (x : ℕ). x * t) is))
            z2
            (same_rem (r * r + (s + q * t) * (s + q * t)) 0 (suc n) (2 * q * (a * b / suc n)) ((a * a + s * s) / suc n + q * q * ((b * b + t * t) / suc n) + 2 * q * (s * t / suc n))
            (step_squares (suc n) q a b r s t ((a * a + s * s) / suc n) ((b * b + t * t) / suc n) (s * t / suc n) (a * b / suc n) is (omega (arith, k1, z1)) (omega (arith, k2, z2)) c1) ∙ zero-mod (suc n))
            (same_rem (b * r) (t * (s + q * t)) (suc n) (q * ((b * b + t * t) / suc n) + s * t / suc n) (a * b / suc n)
            (step_cross (suc n) q a b r s t ((b * b + t * t) / suc n) (s * t / suc n) (a * b / suc n) is (omega (arith, k2, z2)) c1))
      ]
    where
      none : (a b s t : ℕ) → a * t + b * s ≡ suc n → b * b + t * t ≡ 0 → ⊥
      none a zero s zero e z = absurd (omega arith)
      none a zero s (suc t) e z = absurd (omega arith)
      none a (suc b) s t e z = absurd (omega arith)

      positive : (b : ℕ) → 0 < b * b → 0 < b
      positive zero h = absurd (omega arith)
      positive (suc b) h = omega arith

  -- where p leaves 3 modulo 4, x x + 1 is no multiple of p
  pub no_root : suc n % 4 ≡ 3 → (x : ℕ) → x < suc n → (x * x + 1) % suc n ≡ 0 → ⊥
  no_root four x u z =
      let found = two_squares (suc x) (suc n) x 0 1 (omega arith) (omega arith) (omega arith)
      (same_rem (suc n * suc n + 0 * 0) 0 (suc n) 0 (suc n) (omega arith) ∙ zero-mod (suc n)) (ap (λ (k : ℕ). k % suc n) one_one ∙ z) (mul-mod_right (suc n) x ∙ sym (zero-mod (suc n))) in
      no_two_squares found.0 found.1 (suc n) found.2 four
    where
      one_one : x * x + 1 * 1 ≡ x * x + 1
      one_one = omega arith

  -- a sum of two squares is 0 modulo p only where both are
  pub sum_zero : suc n % 4 ≡ 3 → (x y : ℕ) → (x * x + y * y) % suc n ≡ 0 → y % suc n ≡ 0
  sum_zero four x y z =
      elim (cases_eq (y % suc n) 0) [
        | inl e ↦ e
        | inr ne ↦
            let r : ℕ = y % suc n in
            let below : r < suc n = mod-lt y (omega arith) in
            let found = inverse (suc n) r below (omega arith) below in
            let c : ℕ = found.0 in
            let one : (y * c) % suc n ≡ 1 = sym (mul-mod_first y c (suc n)) ∙ found.1 in
            let dz = div-add-mod (x * x + y * y) (suc n) in
            let dx = div-add-mod (x * c) (suc n) in
            let dy = div-add-mod (y * c) (suc n) in
            absurd (no_root four (x * c % suc n) (mod-lt (x * c) (omega arith))
            (same_rem (x * c % suc n * (x * c % suc n) + 1) 0 (suc n) (suc n * (x * c / suc n) * (x * c / suc n) + 2 * (x * c / suc n) * (x * c % suc n) + suc n * (y * c / suc n) * (y * c / suc n) + 2 * (y * c / suc n)) (c * c * ((x * x + y * y) / suc n)) (square_step (suc n) x y c (x * c % suc n) ((x * x + y * y) / suc n) (x * c / suc n) (y * c / suc n) (omega (arith, dz, z)) dx (omega (arith, dy, one))) ∙ zero-mod (suc n)))
      ]
