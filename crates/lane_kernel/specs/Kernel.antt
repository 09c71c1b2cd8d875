-- What the kernels compute: elements by their two parts, numbers modulo p
use Rattle.std.specs.Prelude.{◌≡◌, ℕ, ◌+◌, ◌-◌, ◌*◌, ◌%◌, ◌<◌, ◌≤◌, List, All, slice_index_or}

-- the Mersenne prime 2 ^ 31 - 1
abbrev pub prime : ℕ
prime = 2147483647

abbrev pub AreBelow : List ℕ → Type 0
AreBelow xs = All (λ x. x < prime) xs

-- the numbers from place n on are
abbrev pub IsBelowFrom : ℕ → List ℕ → Type 0
IsBelowFrom n xs = (k : ℕ) → n ≤ k → slice_index_or xs k 0 < prime

-- b - a
abbrev pub minus : ℕ → ℕ → ℕ
minus a b = (b + (prime - a)) % prime

-- the parts of low + r * (high - low), for low = a + b i, high = c + d i and r = s + t i
abbrev pub folded_re : ℕ → ℕ → ℕ → ℕ → ℕ → ℕ → ℕ
folded_re s t a b c d = (a + s * minus a c + t * (prime - minus b d)) % prime

abbrev pub folded_im : ℕ → ℕ → ℕ → ℕ → ℕ → ℕ → ℕ
folded_im s t a b c d = (b + s * minus b d + t * minus a c) % prime

-- the same for the pair at place j of a table
abbrev pub re_at : List ℕ → List ℕ → ℕ → ℕ → ℕ → ℕ
re_at re im s t j = folded_re s t (slice_index_or re (2 * j) 0) (slice_index_or im (2 * j) 0)
    (slice_index_or re (2 * j + 1) 0) (slice_index_or im (2 * j + 1) 0)

abbrev pub im_at : List ℕ → List ℕ → ℕ → ℕ → ℕ → ℕ
im_at re im s t j = folded_im s t (slice_index_or re (2 * j) 0) (slice_index_or im (2 * j) 0)
    (slice_index_or re (2 * j + 1) 0) (slice_index_or im (2 * j + 1) 0)

-- the n places from j on have these values, and all others are as they were
pub record AreAt (j n : ℕ) (value : ℕ → ℕ) (old new : List ℕ) : Type 0 where
  pub within : (k : ℕ) → j ≤ k → k < j + n → slice_index_or new k 0 ≡ value k
  pub before : (k : ℕ) → k < j → slice_index_or new k 0 ≡ slice_index_or old k 0
  pub after : (k : ℕ) → j + n ≤ k → slice_index_or new k 0 ≡ slice_index_or old k 0
