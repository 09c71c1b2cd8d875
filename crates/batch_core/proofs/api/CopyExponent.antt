-- The copies' exponent is the least for which each instance has a copy
use Rattle.std.proofs.Common.{◌≡◌, ℕ, zero, suc, ◌+◌, ◌^◌, ◌<◌, ◌≤◌, inl, inr, Bool, if◌then◌else◌, refl, sym, ◌∙◌, ap, arith, subst, pow-suc, pow_pos}
use Rattle.std.proofs.lemmas.Bool.{cases_lt, lt-ltb, le-ltb}
use Rattle.mle_table.proofs.api.EqualitySteps.{pow_up}
use Rattle.batch_core.specs.Copies.{powers_below, copy_exponent}

one_more : (m b : ℕ) → 2 ^ m < b → powers_below (suc m) b ≡ powers_below m b + 1
one_more m b u = ap (λ (t : Bool). powers_below m b + (if t then 1 else 0)) (lt-ltb (2 ^ m) b u)

no_more : (m b : ℕ) → b ≤ 2 ^ m → powers_below (suc m) b ≡ powers_below m b
no_more m b u = ap (λ (t : Bool). powers_below m b + (if t then 1 else 0)) (le-ltb (2 ^ m) b u) ∙ omega arith

at_most : (m b : ℕ) → powers_below m b ≤ m
at_most zero b = omega arith
at_most (suc m) b = elim (cases_lt (2 ^ m) b) [ inl u ↦ omega (arith, one_more m b u, at_most m b) | inr u ↦ omega (arith, no_more m b u, at_most m b) ]

-- where a power is below the number, so are those before it
all_below : (m b : ℕ) → 2 ^ m < b → powers_below m b ≡ m
all_below zero b u = refl
all_below (suc m) b u =
    let v : 2 ^ m < b = omega (arith, pow-suc 2 m, u) in
    omega (arith, one_more m b v, all_below m b v)

enough_of : (m b : ℕ) → b ≤ 2 ^ m → b ≤ 2 ^ powers_below m b
enough_of zero b u = u
enough_of (suc m) b u =
    elim (cases_lt (2 ^ m) b) [
      | inl v ↦ let e : suc m ≡ powers_below (suc m) b = omega (arith, one_more m b v, all_below m b v) in subst (λ (i : ℕ). b ≤ 2 ^ i) e u
      | inr v ↦ subst (λ (i : ℕ). b ≤ 2 ^ i) (sym (no_more m b v)) (enough_of m b v)
    ]

least_of : (m b i : ℕ) → b ≤ 2 ^ i → powers_below m b ≤ i
least_of zero b i u = omega arith
least_of (suc m) b i u =
    elim (cases_lt (2 ^ m) b) [
      | inl v ↦ elim (cases_lt m i) [ inl w ↦ omega (arith, one_more m b v, at_most m b, w) | inr w ↦ absurd (omega (arith, pow_up i m w, v, u)) ]
      | inr v ↦ omega (arith, no_more m b v, least_of m b i u)
    ]

below_power : (b : ℕ) → b ≤ 2 ^ b
below_power zero = omega arith
below_power (suc b) = omega (arith, pow-suc 2 b, pow_pos b, below_power b)

pub enough : (count : ℕ) → count ≤ 2 ^ copy_exponent count
enough count = enough_of count count (below_power count)

pub least : (count i : ℕ) → count ≤ 2 ^ i → copy_exponent count ≤ i
least count i u = least_of count count i u

-- the number whose power is enough, where those of all before it are too small
pub exponent_is : (count e : ℕ) → count ≤ 2 ^ e → ((i : ℕ) → i < e → 2 ^ i < count) → copy_exponent count ≡ e
exponent_is count e u small =
    let most = least count e u in
    elim (cases_lt (copy_exponent count) e) [
      | inl v ↦ absurd (omega (arith, small (copy_exponent count) v, enough count))
      | inr v ↦ omega (arith, most, v)
    ]
