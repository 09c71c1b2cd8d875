-- The lines of four pairs, and what they add to sums
use Rattle.std.specs.Prelude.{◌≡◌, ℕ, ◌+◌, ◌%◌, ◌<◌, List, [], ◌∷◌, length}
use Rattle.lane_kernel.specs.Kernel.{prime, AreBelow}
use Rattle.lane_kernel.specs.Four.{EachBelow, combination, all_of, opposite}
use Rattle.lane_kernel.specs.Sums.{Parts, constant_re, constant_im, linear_re, linear_im, square_re, square_im, total}
use Rattle.lane_kernel.specs.declared.lanes.Four.{Four}
use Rattle.lane_kernel.specs.declared.sums.Lines.{Lines}
use Rattle.lane_kernel.specs.declared.sums.Sums.{Sums}

abbrev pub AreLines : Lines → Type 0
AreLines x = EachBelow x.low_re × EachBelow x.low_im × EachBelow x.slope_re × EachBelow x.slope_im

abbrev pub one_lane : ℕ → Four
one_lane n = record { a = n; b = 0; c = 0; d = 0 }

-- the sum of all lanes
abbrev pub across : Four → ℕ
across x = x.a + x.b + x.c + x.d

abbrev pub more : ℕ → Four → ℕ
more acc x = (acc + across x) % prime

-- the products of two lines' parts, with a third number, in each lane
abbrev pub product_re : Four → Four → Four → Four → Four → Four
product_re x a b c d = combination x a c b (opposite d)

abbrev pub product_im : Four → Four → Four → Four → Four → Four
product_im x a b c d = combination x a d b c

-- the sums with what these lines add
abbrev pub added : Sums → Lines → Lines → Lines → Sums
added s v g a = let none = all_of 0 in record {
  constant_re = more s.constant_re (product_re a.low_re v.low_re v.low_im g.low_re g.low_im);
  constant_im = more s.constant_im (product_im a.low_im v.low_re v.low_im g.low_re g.low_im);
  linear_re = more (more s.linear_re
      (product_re a.slope_re v.low_re v.low_im g.slope_re g.slope_im))
      (product_re none v.slope_re v.slope_im g.low_re g.low_im);
  linear_im = more (more s.linear_im
      (product_im a.slope_im v.low_re v.low_im g.slope_re g.slope_im))
      (product_im none v.slope_re v.slope_im g.low_re g.low_im);
  square_re = more s.square_re (product_re none v.slope_re v.slope_im g.slope_re g.slope_im);
  square_im = more s.square_im (product_im none v.slope_re v.slope_im g.slope_re g.slope_im);
}

-- the sums over n pairs
abbrev pub sums_of : ℕ → Parts → Parts → Parts → Sums
sums_of n v g a = record {
  constant_re = total n (constant_re v g a);
  constant_im = total n (constant_im v g a);
  linear_re = total n (linear_re v g a);
  linear_im = total n (linear_im v g a);
  square_re = total n (square_re v g a);
  square_im = total n (square_im v g a);
}

abbrev pub AreReduced : Sums → Type 0
AreReduced s = (s.constant_re < prime) × (s.constant_im < prime) × (s.linear_re < prime)
    × (s.linear_im < prime) × (s.square_re < prime) × (s.square_im < prime)

-- both parts of a table of n elements
abbrev pub IsTableOf : ℕ → List ℕ → List ℕ → Type 0
IsTableOf n re im = (length re ≡ n) × (length im ≡ n) × AreBelow re × AreBelow im

abbrev pub coefficients_of : Sums → List (ℕ × ℕ)
coefficients_of s = (s.constant_re, s.constant_im) ∷ (s.linear_re, s.linear_im)
    ∷ (s.square_re, s.square_im) ∷ []
