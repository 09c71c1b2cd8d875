-- The equality polynomial at points that are put together, and the steps of filling a table with it
use Rattle.std.proofs.Common.{◌≡◌, ℕ, zero, suc, ◌+◌, ◌-◌, ◌*◌, ◌/◌, ◌%◌, ◌^◌, ◌<◌, ◌≤◌, ◌⊎◌, inl, inr, List, [], ◌∷◌, ◌++◌, length, take, drop, get_or, if◌then◌else◌, ◌==◌, refl, sym, ◌∙◌, ap, ap₂, arith, pow-suc, length-append, add-one, div-one, mul_comm, drop_of_length-le, length-take, length-drop}
use Rattle.std.proofs.Math.Nat.{div-add-mod, div-div-eq-div-mul}
use Rattle.std.proofs.lemmas.Nat.{pow_below, div-mul-add, pow-add}
use Rattle.std.proofs.lemmas.List.{take_all}
use Rattle.std.proofs.lemmas.Bool.{cases_eq, cases_lt}
use Rattle.field_ext.specs.Ring.{Ops, Laws}
use Rattle.field_ext.proofs.api.Solve.{var, unit, ◌⊕◌, ◌⊗◌, minus, solve}
use Rattle.field_ext.proofs.api.Rings.{one_mul}
use Rattle.field_ext.specs.Multilinear.{eq_poly}
use Rattle.mle_table.specs.Equality.{IsEqTable}

module _ {A : Type 0} (o : Ops A) (l : Laws A o) where
  pub eq-append : (us vs : List A) (g : ℕ) → eq_poly o (us ++ vs) g ≡ o.mul (eq_poly o us g) (eq_poly o vs (g / 2 ^ length us))
  eq-append [] vs g = let e : g ≡ g / 1 = sym (div-one g) in ap (eq_poly o vs) e ∙ sym (one_mul o l (eq_poly o vs (g / 1)))
  eq-append (u ∷ us) vs g =
      let e : g / 2 / 2 ^ length us ≡ g / 2 ^ suc (length us) = div-div-eq-div-mul g 2 (2 ^ length us) ∙ ap (λ (k : ℕ). g / k) (mul_comm 2 (2 ^ length us) ∙ sym (pow-suc 2 (length us))) in
      let x : A = if g % 2 == 1 then u else o.add o.one (o.neg u) in
      ap (o.mul x) (eq-append us vs (g / 2)) ∙ sym (l.mul_assoc x (eq_poly o us (g / 2)) (eq_poly o vs (g / 2 / 2 ^ length us)))
      ∙ ap (λ (k : ℕ). o.mul (o.mul x (eq_poly o us (g / 2))) (eq_poly o vs k)) e

  eq-period : (us : List A) (g : ℕ) → eq_poly o us (g + 2 ^ length us) ≡ eq_poly o us g
  eq-period [] g = refl
  eq-period (u ∷ us) g =
      let p = pow-suc 2 (length us) in
      let m : (g + 2 ^ suc (length us)) % 2 ≡ g % 2 = omega (arith, p) in
      let d : (g + 2 ^ suc (length us)) / 2 ≡ g / 2 + 2 ^ length us = omega (arith, p, div-add-mod g 2, div-add-mod (g + 2 ^ suc (length us)) 2) in
      ap₂ o.mul (ap (λ (b : ℕ). if b == 1 then u else o.add o.one (o.neg u)) m) (ap (eq_poly o us) d ∙ eq-period us (g / 2))

  -- the lower half of the values of Eq with one more coordinate at the end
  pub eq-low : (us : List A) (u : A) (g : ℕ) → g < 2 ^ length us → eq_poly o (us ++ u ∷ []) g ≡ o.mul (eq_poly o us g) (o.add o.one (o.neg u))
  eq-low us u g b =
      let i : g ≡ 0 * 2 ^ length us + g = omega arith in
      let d : g / 2 ^ length us ≡ 0 = ap (λ (x : ℕ). x / 2 ^ length us) i ∙ div-mul-add 0 (2 ^ length us) g b in
      eq-append us (u ∷ []) g ∙ ap (λ (k : ℕ). o.mul (eq_poly o us g) (eq_poly o (u ∷ []) k)) d
      ∙ ap (o.mul (eq_poly o us g)) (l.mul_one (o.add o.one (o.neg u)))

  -- and the upper half
  pub eq-high : (us : List A) (u : A) (g : ℕ) → g < 2 ^ length us → eq_poly o (us ++ u ∷ []) (g + 2 ^ length us) ≡ o.mul (eq_poly o us g) u
  eq-high us u g b =
      let i : g + 2 ^ length us ≡ 1 * 2 ^ length us + g = omega arith in
      let d : (g + 2 ^ length us) / 2 ^ length us ≡ 1 = ap (λ (x : ℕ). x / 2 ^ length us) i ∙ div-mul-add 1 (2 ^ length us) g b in
      eq-append us (u ∷ []) (g + 2 ^ length us) ∙ ap₂ (λ (x : A) (k : ℕ). o.mul x (eq_poly o (u ∷ []) k)) (eq-period us g) d
      ∙ ap (o.mul (eq_poly o us g)) (l.mul_one u)

  -- a table of Eq doubles with one more coordinate
  pub equality_doubled : (us : List A) (u : A) (n : ℕ) (t t' : List A) → n ≡ 2 ^ length us → IsEqTable o us t →
      ((g : ℕ) → g < n → get_or t' g o.zero ≡ o.add (get_or t g o.zero) (o.neg (o.mul (get_or t g o.zero) u))) →
      ((g : ℕ) → g < n → get_or t' (n + g) o.zero ≡ o.mul (get_or t g o.zero) u) → IsEqTable o (us ++ u ∷ []) t'
  equality_doubled us u n t t' size is low high g b = by_half (cases_lt g n)
    where
      twice : 2 ^ length (us ++ u ∷ []) ≡ 2 * 2 ^ length us
      twice = ap (λ (k : ℕ). 2 ^ k) (length-append us (u ∷ []) ∙ add-one (length us)) ∙ omega (arith, pow-suc 2 (length us))

      by_half : (g < n) ⊎ (n ≤ g) → get_or t' g o.zero ≡ eq_poly o (us ++ u ∷ []) g
      by_half (inl h) =
          low g h
          ∙ ap (λ (x : A). o.add x (o.neg (o.mul x u))) (is g (omega arith))
          ∙ solve o l (eq_poly o us g ∷ u ∷ []) (var 0 ⊕ minus (var 0 ⊗ var 1)) (var 0 ⊗ (unit ⊕ minus (var 1))) refl
          ∙ sym (eq-low us u g (omega arith))
      by_half (inr h) =
          let i : g ≡ n + (g - n) = omega arith in
          let j : g - n + 2 ^ length us ≡ g = omega arith in
          let v : g - n < 2 ^ length us = omega (arith, twice, b) in
          ap (λ (k : ℕ). get_or t' k o.zero) i
          ∙ high (g - n) (omega arith)
          ∙ ap (λ (x : A). o.mul x u) (is (g - n) v)
          ∙ sym (eq-high us u (g - n) v)
          ∙ ap (eq_poly o (us ++ u ∷ [])) j

  -- whole multiples of a power of two beyond the coordinates change nothing
  pub eq-beyond : (us : List A) (m r q : ℕ) → length us ≤ m → eq_poly o us (r + q * 2 ^ m) ≡ eq_poly o us r
  eq-beyond [] m r q u = refl
  eq-beyond (x ∷ us) zero r q u = absurd (omega arith)
  eq-beyond (x ∷ us) (suc m) r q u =
      let twice : q * 2 ^ suc m ≡ 2 * (q * 2 ^ m) = ap (λ (p : ℕ). q * p) (pow-suc 2 m) ∙ omega arith in
      let even : (r + q * 2 ^ suc m) % 2 ≡ r % 2 = omega (arith, twice) in
      let half : (r + q * 2 ^ suc m) / 2 ≡ r / 2 + q * 2 ^ m = omega (arith, twice, div-add-mod r 2, div-add-mod (r + q * 2 ^ suc m) 2) in
      ap₂ o.mul (ap (λ (b : ℕ). if b == 1 then x else o.add o.one (o.neg x)) even) (ap (eq_poly o us) half ∙ eq-beyond us m (r / 2) q (omega arith))

pub pow_up : (i j : ℕ) → i ≤ j → 2 ^ i ≤ 2 ^ j
pow_up i j u = by_size (cases_eq i j)
  where
    by_size : (i ≡ j) ⊎ (i ≡ j → ⊥) → 2 ^ i ≤ 2 ^ j
    by_size (inl e) = omega (arith, ap (λ (k : ℕ). 2 ^ k) e)
    by_size (inr n) = let h : i < j = omega arith in omega (arith, pow_below i j h)

-- a table of 2 ^ i values doubles within a table of 2 ^ n
pub doubling_fits : (i n m size : ℕ) → i < n → size ≡ 2 ^ i → 2 ^ n ≤ m → 2 * size ≤ m
doubling_fits i n m size u e h = let p : 2 ^ (i + 1) ≤ 2 ^ n = pow_up (i + 1) n (omega arith) in let q : 2 ^ (i + 1) ≡ 2 ^ i * 2 = ap (λ (k : ℕ). 2 ^ k) (add-one i) ∙ pow-suc 2 i in omega arith

module _ {A : Type 0} (o : Ops A) (l : Laws A o) where
  rest_of : (us : List A) (n : ℕ) → n ≤ length us → take n us ++ drop n us ≡ us
  rest_of us zero u = refl
  rest_of [] (suc n) u = refl
  rest_of (x ∷ us) (suc n) u = ap (λ (ys : List A). x ∷ ys) (rest_of us n (omega arith))

  -- a value at a point is the product of a value at the first ten coordinates and one at the others
  pub eq-split : (us low high : List A) (g : ℕ) → IsEqTable o (take 10 us) low → IsEqTable o (drop 10 us) high → g < 2 ^ length us →
      o.mul (get_or low (g % 1024) o.zero) (get_or high (g / 1024) o.zero) ≡ eq_poly o us g
  eq-split us low high g lows highs b = by_size (cases_lt (length us) 10)
    where
      by_size : (length us < 10) ⊎ (10 ≤ length us) → o.mul (get_or low (g % 1024) o.zero) (get_or high (g / 1024) o.zero) ≡ eq_poly o us g
      by_size (inl h) =
          let most : 2 ^ length us < 1024 = pow_below (length us) 10 h in
          let whole : take 10 us ≡ us = take_all 10 us (omega arith) in
          let short : length us ≤ 10 = omega arith in
          let none : drop 10 us ≡ [] = drop_of_length-le us short in
          let same : g % 1024 ≡ g = omega arith in
          let over : g / 1024 ≡ 0 = omega arith in
          let in' : g < 2 ^ length (take 10 us) = omega (arith, ap (λ (ys : List A). 2 ^ length ys) whole) in
          let first : 0 < 2 ^ length (drop 10 us) = omega (arith, ap (λ (ys : List A). 2 ^ length ys) none) in
          ap₂ o.mul (ap (λ (k : ℕ). get_or low k o.zero) same ∙ lows g in' ∙ ap (λ (ys : List A). eq_poly o ys g) whole)
          (ap (λ (k : ℕ). get_or high k o.zero) over ∙ highs 0 first ∙ ap (λ (ys : List A). eq_poly o ys 0) none)
          ∙ l.mul_one (eq_poly o us g)
      by_size (inr h) =
          let ten : length (take 10 us) ≡ 10 = omega (arith, length-take 10 us) in
          let size : 2 ^ length (take 10 us) ≡ 1024 = ap (λ (k : ℕ). 2 ^ k) ten in
          let others : length (drop 10 us) + 10 ≡ length us = omega (arith, length-drop 10 us) in
          let total : 2 ^ length us ≡ 2 ^ length (drop 10 us) * 1024 = ap (λ (k : ℕ). 2 ^ k) (sym others) ∙ pow-add 2 (length (drop 10 us)) 10 in
          let here : g % 1024 < 2 ^ length (take 10 us) = omega arith in
          let there : g / 1024 < 2 ^ length (drop 10 us) = omega arith in
          let parts : g % 1024 + g / 1024 * 1024 ≡ g = omega arith in
          let lower : eq_poly o (take 10 us) (g % 1024) ≡ eq_poly o (take 10 us) g =
          sym (eq-beyond o l (take 10 us) 10 (g % 1024) (g / 1024) (omega arith)) ∙ ap (eq_poly o (take 10 us)) parts in
          ap₂ o.mul (lows (g % 1024) here ∙ lower) (highs (g / 1024) there ∙ ap (λ (k : ℕ). eq_poly o (drop 10 us) (g / k)) (sym size))
          ∙ sym (eq-append o l (take 10 us) (drop 10 us) g)
          ∙ ap (λ (ys : List A). eq_poly o ys g) (rest_of us 10 h)
