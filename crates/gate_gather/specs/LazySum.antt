-- Sums whose halves are not reduced yet
use Rattle.std.specs.Prelude.{ℕ, ◌<◌}
use Rattle.field_ext.specs.Field.{K, of}
use Rattle.gate_gather.specs.declared.lazy_sum.LazySum.{LazySum}

-- the element that the halves stand for
abbrev pub element_of : LazySum → K
element_of s = record { re = of s.re; im = of s.im }

-- both halves are below a number
pub record IsBelow (n : ℕ) (s : LazySum) : Type 0 where
  pub re : s.re < n
  pub im : s.im < n
