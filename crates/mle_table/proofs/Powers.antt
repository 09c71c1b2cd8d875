-- The exponent of a power of two is one alone
use Rattle.std.proofs.Common.{◌≡◌, ℕ, ◌+◌, ◌*◌, ◌^◌, ◌<◌, ◌≤◌, inl, inr, arith, pow-suc, add-one, ap, ◌∙◌}
use Rattle.std.proofs.lemmas.Bool.{cases_lt}
use Rattle.mle_table.proofs.api.EqualitySteps.{pow_up}

next : (k : ℕ) → 2 ^ (k + 1) ≡ 2 * 2 ^ k
next k = let e : 2 ^ (k + 1) ≡ 2 ^ k * 2 = ap (λ (n : ℕ). 2 ^ n) (add-one k) ∙ pow-suc 2 k in omega (arith, e)

-- between two neighbouring powers there is no power but the lower
pub one_power : (n k m : ℕ) → 2 ^ k ≤ n → n < 2 * 2 ^ k → n ≡ 2 ^ m → n ≡ 2 ^ k
one_power n k m low high e =
    elim (cases_lt m k) [
      | inl u ↦ let p : 2 ^ (m + 1) ≤ 2 ^ k = pow_up (m + 1) k (omega arith) in let q = next m in absurd (omega (arith, p, q, low, e))
      | inr u ↦
          elim (cases_lt k m) [
            | inl v ↦ let p : 2 ^ (k + 1) ≤ 2 ^ m = pow_up (k + 1) m (omega arith) in let q = next k in absurd (omega (arith, p, q, high, e))
            | inr v ↦ let same : m ≡ k = omega arith in e ∙ ap (λ (n : ℕ). 2 ^ n) same
          ]
    ]
