-- p is prime, by trial division; each number below it has an inverse; and it is no sum of two squares modulo p but of multiples of p
use Rattle.std.proofs.Common.{◌≡◌, ℕ, zero, suc, ◌+◌, ◌*◌, ◌/◌, ◌%◌, ◌<◌, ◌≤◌, ◌≢◌, inl, inr, Bool, true, false, refl, sym, ◌∙◌, ap, subst, arith, mul-le-mul}
use Rattle.std.proofs.Math.Nat.{div-add-mod, add-mul-mod_self_left, mul-mod_left}
use Rattle.std.proofs.lemmas.Bool.{cases_lt, cases_eq}

-- none of the n numbers from d on divides m
abbrev pub none_divides : ℕ → ℕ → ℕ → Bool
none_divides zero d m = true
none_divides (suc n) d m = elim (m % d) [ zero ↦ false | suc _ ↦ none_divides n (suc d) m ]

tested : none_divides 46340 2 2147483647 ≡ true
tested = refl

step : (n d m r : ℕ) → m % d ≡ r → (elim r as (λ _. Bool) [ zero ↦ false | suc _ ↦ none_divides n (suc d) m ]) ≡ true → (m % d ≢ 0) × (none_divides n (suc d) m ≡ true)
step n d m zero e h = absurd (cc)
step n d m (suc r) e h = ((λ z. let c : suc r ≡ 0 = sym e ∙ z in absurd (omega arith)), h)

pub none_divides_is : (n d m k : ℕ) → none_divides n d m ≡ true → d ≤ k → k < d + n → m % k ≢ 0
none_divides_is zero d m k h l u = absurd (omega arith)
none_divides_is (suc n) d m k h l u =
    let s = step n d m (m % d) refl h in
    elim (cases_eq d k) [ inl e ↦ subst (λ (j : ℕ). m % j ≢ 0) e s.0 | inr ne ↦ none_divides_is n (suc d) m k s.1 (omega arith) (omega arith) ]

-- two numbers with one remainder differ by multiples, and so back
pub apart : (x y m : ℕ) → x % m ≡ y % m → x + m * (y / m) ≡ y + m * (x / m)
apart x y m e = let u = div-add-mod x m in let v = div-add-mod y m in omega (arith, u, v, e)

pub same_rem : (x y m u v : ℕ) → x + m * u ≡ y + m * v → x % m ≡ y % m
same_rem x y m u v e =
    sym (add-mul-mod_self_left x m u) ∙ ap (λ (k : ℕ). k % m) e ∙ add-mul-mod_self_left y m v

-- a divisor of 2147483647 between 1 and itself would lie, or its codivisor, among the tested numbers
small : (k c : ℕ) → k * c ≡ 2147483647 → k < 2147483647 → c < 2 → ⊥
small k c e u t =
    elim (cases_eq c 0) [
      | inl z ↦ let f : k * c ≡ k * 0 = ap (λ (x : ℕ). k * x) z in absurd (omega (arith, f, e))
      | inr nz ↦ let one : c ≡ 1 = omega arith in let f : k * c ≡ k * 1 = ap (λ (x : ℕ). k * x) one in absurd (omega (arith, f, e))
    ]

codivisor : (k c : ℕ) → k * c ≡ 2147483647 → k < 2147483647 → 46342 ≤ k → ⊥
codivisor k c e u g =
    elim (cases_lt c 46342) [
      | inl s ↦
          elim (cases_lt c 2) [
            | inl t ↦ small k c e u t
            | inr t ↦ none_divides_is 46340 2 2147483647 c tested t s (ap (λ (x : ℕ). x % c) (sym e) ∙ mul-mod_left k c)
          ]
      | inr s ↦ let b = mul-le-mul g s in absurd (omega (arith, b, e))
    ]

pub p_prime : (k : ℕ) → 1 < k → k < 2147483647 → 2147483647 % k ≢ 0
p_prime k l u z =
    elim (cases_lt k 46342) [
      | inl s ↦ none_divides_is 46340 2 2147483647 k tested (omega arith) (omega arith) z
      | inr g ↦
          let e : k * (2147483647 / k) ≡ 2147483647 = omega (arith, div-add-mod 2147483647 k) in
          codivisor k (2147483647 / k) e u g
    ]
