-- Four numbers at once
use Rattle.std.specs.Prelude.{ℕ, ◌+◌, ◌-◌, ◌*◌, ◌%◌, ◌<◌, ◌≤◌, List, slice_index_or, slice_set}
use Rattle.lane_kernel.specs.Kernel.{prime, minus}
use Rattle.lane_kernel.specs.declared.lanes.Four.{Four}

abbrev pub EachBelow : Four → Type 0
EachBelow x = (x.a < prime) × (x.b < prime) × (x.c < prime) × (x.d < prime)

abbrev pub EachAtMost : Four → Type 0
EachAtMost x = (x.a ≤ prime) × (x.b ≤ prime) × (x.c ≤ prime) × (x.d ≤ prime)

-- x + y s + z t in each
abbrev pub combination : Four → Four → Four → Four → Four → Four
combination x y s z t = record {
  a = x.a + y.a * s.a + z.a * t.a;
  b = x.b + y.b * s.b + z.b * t.b;
  c = x.c + y.c * s.c + z.c * t.c;
  d = x.d + y.d * s.d + z.d * t.d;
}

abbrev pub all_of : ℕ → Four
all_of n = record { a = n; b = n; c = n; d = n }

abbrev pub opposite : Four → Four
opposite x = record { a = prime - x.a; b = prime - x.b; c = prime - x.c; d = prime - x.d }

-- the first numbers of four pairs, from pair j on
abbrev pub lows : List ℕ → ℕ → Four
lows xs j = record {
  a = slice_index_or xs (2 * j) 0;
  b = slice_index_or xs (2 * j + 2) 0;
  c = slice_index_or xs (2 * j + 4) 0;
  d = slice_index_or xs (2 * j + 6) 0;
}

-- and how much the second ones are more
abbrev pub differences : List ℕ → ℕ → Four
differences xs j = record {
  a = minus (slice_index_or xs (2 * j) 0) (slice_index_or xs (2 * j + 1) 0);
  b = minus (slice_index_or xs (2 * j + 2) 0) (slice_index_or xs (2 * j + 3) 0);
  c = minus (slice_index_or xs (2 * j + 4) 0) (slice_index_or xs (2 * j + 5) 0);
  d = minus (slice_index_or xs (2 * j + 6) 0) (slice_index_or xs (2 * j + 7) 0);
}

-- the list with the remainders of these from place j on
abbrev pub stored : List ℕ → ℕ → Four → List ℕ
stored xs j x = slice_set (slice_set (slice_set (slice_set xs j (x.a % prime)) (j + 1) (x.b % prime))
    (j + 2) (x.c % prime)) (j + 3) (x.d % prime)
