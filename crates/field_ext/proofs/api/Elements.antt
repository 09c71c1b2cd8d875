-- Elements with one number are one, `of` forgets multiples of the prime, and the operations follow those of numbers
use Rattle.std.proofs.Common.{◌≡◌, ℕ, ◌+◌, ◌-◌, ◌*◌, ◌/◌, ◌%◌, ◌<◌, refl, sym, ◌∙◌, ap, ap₂, arith, mod-eq_of_lt, mod-lt, lit<}
use Rattle.std.specs.Coded.{le_prop}
use Rattle.std.proofs.Math.Nat.{div-add-mod, add-mod, add-mod-mod}
use Rattle.std.proofs.lemmas.Nat.{mul-mod}
use Rattle.field_ext.proofs.api.Prime.{same_rem}
use mathlib.Core.HLevel.{is_prop→PathP}
use Rattle.field_ext.specs.Field.{prime, F, of, add_f, mul_f, neg_f, sub_f}

pub F_eq : (a b : F) → a.value ≡ b.value → a ≡ b
F_eq a b e = λ i. record { value = e i; below = is_prop→PathP (λ j. e j < prime) (λ j. le_prop) a.below b.below i }

pub of-value : (n : ℕ) → (of n).value ≡ n % prime
unfolding of
of-value n = refl

pub of_self : (a : F) → of a.value ≡ a
of_self a = F_eq (of a.value) a (of-value a.value ∙ mod-eq_of_lt a.below)

pub of_same : (m n : ℕ) → m % prime ≡ n % prime → of m ≡ of n
of_same m n e = F_eq (of m) (of n) (of-value m ∙ e ∙ sym (of-value n))

-- what an element is, by a number that leaves its remainder
pub is_of : (a : F) (n : ℕ) → a.value ≡ n % prime → a ≡ of n
is_of a n e = F_eq a (of n) (e ∙ sym (of-value n))

-- a number that leaves the remainder of another is the same element
pub of_rem : (m n : ℕ) → m ≡ n % prime → of m ≡ of n
of_rem m n e = of_same m n (ap (λ (k : ℕ). k % prime) e ∙ mod-eq_of_lt (mod-lt n (lit< tt)))

-- the operations on remainders of numbers
pub add-of : (m n : ℕ) → add_f (of m) (of n) ≡ of (m + n)
add-of m n =
    of_same ((of m).value + (of n).value) (m + n)
    (ap₂ (λ (a b : ℕ). (a + b) % prime) (of-value m) (of-value n) ∙ sym (add-mod m n prime))

pub mul-of : (m n : ℕ) → mul_f (of m) (of n) ≡ of (m * n)
mul-of m n =
    of_same ((of m).value * (of n).value) (m * n)
    (ap₂ (λ (a b : ℕ). (a * b) % prime) (of-value m) (of-value n) ∙ sym (mul-mod m n prime))

pub neg-of : (n : ℕ) → neg_f (of n) ≡ of (2147483646 * n)
neg-of n =
    of_same (prime - (of n).value) (2147483646 * n)
    (let v = of-value n in let d = div-add-mod n prime in let l : n % prime < prime = mod-lt n (lit< tt) in
    same_rem (prime - (of n).value) (2147483646 * n) prime n (1 + n / prime) (omega (arith, v, d, l)))

-- the difference by a word that leaves its remainder
pub sub-of : (m a b : ℕ) → m ≡ (a + (prime - b)) % prime → of m ≡ of (a + (of (prime - b)).value)
sub-of m a b e =
    of_rem m (a + (of (prime - b)).value)
    (e ∙ sym (add-mod-mod a (prime - b) prime) ∙ ap (λ (k : ℕ). (a + k) % prime) (sym (of-value (prime - b))))

-- the halves of a product in K by one remainder each
pub product_re : (a b c d : ℕ) → d < prime → of (a * c + b * (prime - d)) ≡ sub_f (of (a * c)) (of (b * d))
product_re a b c d u =
    of_same (a * c + b * (prime - d)) (a * c + 2147483646 * (b * d))
    (let rest : b * (prime - d) + b * d ≡ b * prime = whole (prime - d) d (omega (arith, u)) in
    same_rem (a * c + b * (prime - d)) (a * c + 2147483646 * (b * d)) prime (b * d) b (omega (arith, rest)))
    ∙ sym (ap (add_f (of (a * c))) (neg-of (b * d)) ∙ add-of (a * c) (2147483646 * (b * d)))
  where
    whole : (e f : ℕ) → e + f ≡ prime → b * e + b * f ≡ b * prime
    whole e f h = let g : b * (e + f) ≡ b * prime = ap (λ (k : ℕ). b * k) h in omega (arith, g)

pub product_im : (a b c d : ℕ) → of (a * d + b * c) ≡ add_f (of (a * d)) (of (b * c))
product_im a b c d = sym (add-of (a * d) (b * c))
