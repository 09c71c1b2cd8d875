-- In words of 32 and 64 bits, wrapping differences and the lesser of two words reduce a number modulo the prime
use Rattle.std.proofs.Common.{◌≡◌, ℕ, ◌+◌, ◌-◌, ◌*◌, ◌/◌, ◌%◌, ◌<◌, ◌^◌, min, bit_and, arith, ◌∙◌, ap}
use Rattle.std.proofs.Math.Nat.{div-add-mod, add-mod-mod}
use Rattle.std.proofs.lemmas.Nat.{and_mask}
use Rattle.field_ext.specs.Field.{prime}
use Rattle.field_ext.proofs.api.Prime.{same_rem}

-- below twice the prime one difference is enough
pub least : (n : ℕ) → n < 2 * prime → min n ((n + (2 ^ 32 - prime)) % 2 ^ 32) ≡ n % prime
least n u = omega arith

-- a difference that wraps is mended by the prime
pub least_difference : (a b : ℕ) → a < prime → b < prime →
    min ((a + (2 ^ 32 - b)) % 2 ^ 32) (((a + (2 ^ 32 - b)) % 2 ^ 32 + prime) % 2 ^ 32) ≡ (a + (prime - b)) % prime
least_difference a b u v = omega arith

-- the low bits and the high bits of a number leave its remainder
pub folded : (x : ℕ) → (bit_and x prime + x / 2147483648) % prime ≡ x % prime
folded x =
    let d = div-add-mod x 2147483648 in
    let m : bit_and x prime ≡ x % 2147483648 = and_mask x 31 in
    same_rem (bit_and x prime + x / 2147483648) x prime (x / 2147483648) 0 (omega (arith, d, m))

-- and so where the high bits are reduced first
pub folded_twice : (x m : ℕ) → m ≡ x / 2147483648 % prime → (bit_and x prime + m) % prime ≡ x % prime
folded_twice x m e = ap (λ (k : ℕ). (bit_and x prime + k) % prime) e ∙ add-mod-mod (bit_and x prime) (x / 2147483648) prime ∙ folded x
