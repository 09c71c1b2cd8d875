-- Sums whose halves are not reduced yet, and how large the halves are
use Rattle.std.proofs.Common.{◌≡◌, ℕ, ◌+◌, ◌*◌, ◌^◌, ◌≤◌, arith}
use Rattle.field_ext.specs.Field.{of, zero_k}
use Rattle.gate_gather.specs.declared.lazy_sum.LazySum.{LazySum}
use Rattle.gate_gather.specs.LazySum.{element_of, IsBelow}

-- the halves are those of a sum of n numbers below 2 ^ 35
pub record IsUpTo (n : ℕ) (s : LazySum) : Type 0 where
  pub re : s.re ≤ n * 2 ^ 35
  pub im : s.im ≤ n * 2 ^ 35

pub nothing_yet : (n : ℕ) (s : LazySum) → s.re ≡ 0 → s.im ≡ 0 → IsUpTo n s
nothing_yet n s re im = record { re = omega (arith, re); im = omega (arith, im) }

pub one_more : (j : ℕ) (s x new : LazySum) → IsUpTo j s → IsBelow (2 ^ 35) x → new.re ≡ s.re + x.re → new.im ≡ s.im + x.im → IsUpTo (j + 1) new
one_more j s x new before here re im = record { re = omega (arith, before.re, here.re, re); im = omega (arith, before.im, here.im, im) }

pub none_is_zero : (s : LazySum) → s.re ≡ 0 → s.im ≡ 0 → element_of s ≡ zero_k
none_is_zero s re im = λ i. record { re = of (re i); im = of (im i) }
