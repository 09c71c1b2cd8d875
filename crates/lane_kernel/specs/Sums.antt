-- What the pairs of three tables v, g and a add up to: the sum over j of lin(v, j) lin(g, j) + lin(a, j), where lin(x, j) is the line through the elements 2j and 2j + 1
use Rattle.std.specs.Prelude.{ℕ, suc, zero, ◌+◌, ◌-◌, ◌*◌, ◌%◌, List, slice_index_or}
use Rattle.lane_kernel.specs.Kernel.{prime, minus}

-- the real and the imaginary parts of a table
pub record Parts : Type 0 where
  pub re : List ℕ
  pub im : List ℕ

abbrev pub parts : List ℕ → List ℕ → Parts
parts re im = record { re = re; im = im }

-- a line by its value at 0 and its slope
abbrev pub low : List ℕ → ℕ → ℕ
low xs j = slice_index_or xs (2 * j) 0

abbrev pub slope : List ℕ → ℕ → ℕ
slope xs j = minus (slice_index_or xs (2 * j) 0) (slice_index_or xs (2 * j + 1) 0)

-- the parts of the coefficients of 1, X and X ^ 2 that pair j gives, not reduced
module _ (v g a : Parts) (j : ℕ) where
  abbrev pub constant_re : ℕ
  constant_re = low a.re j + low v.re j * low g.re j + low v.im j * (prime - low g.im j)

  abbrev pub constant_im : ℕ
  constant_im = low a.im j + low v.re j * low g.im j + low v.im j * low g.re j

  abbrev pub linear_re : ℕ
  linear_re = slope a.re j + low v.re j * slope g.re j + low v.im j * (prime - slope g.im j)
      + (slope v.re j * low g.re j + slope v.im j * (prime - low g.im j))

  abbrev pub linear_im : ℕ
  linear_im = slope a.im j + low v.re j * slope g.im j + low v.im j * slope g.re j
      + (slope v.re j * low g.im j + slope v.im j * low g.re j)

  abbrev pub square_re : ℕ
  square_re = slope v.re j * slope g.re j + slope v.im j * (prime - slope g.im j)

  abbrev pub square_im : ℕ
  square_im = slope v.re j * slope g.im j + slope v.im j * slope g.re j

abbrev pub sum_of : ℕ → (ℕ → ℕ) → ℕ
sum_of zero f = 0
sum_of (suc n) f = sum_of n f + f n

-- the sum over n pairs, modulo p
abbrev pub total : ℕ → (ℕ → ℕ) → ℕ
total n f = sum_of n f % prime
