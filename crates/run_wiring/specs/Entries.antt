-- Sums over the places of a run, digit by digit.
--
-- For t below the count of a run, first + t, left + t * lstep and right + t * rstep are added in binary, the lowest digit first, and
-- t is held against the greatest place. What the low digits carry over names one of 36 entries of a table.
use Rattle.std.specs.Prelude.{ℕ, ◌+◌, ◌-◌, ◌*◌, ◌/◌, ◌%◌, ◌≤◌, List, if◌then◌else◌, ◌==◌, slice_index_or}
use Rattle.field_ext.specs.Ring.{Ops}
use Rattle.field_ext.specs.Field.{K, k_ops, zero_k, add_k, mul_k}
use Rattle.field_ext.specs.Sums.{sum_below}
use Rattle.field_ext.specs.Multilinear.{eq_poly}
use Rattle.run_wiring.specs.declared.run.Run.{Run}
use Rattle.run_wiring.specs.declared.carries.Carries.{Carries}
use Rattle.run_wiring.specs.declared.column.Column.{Column}

module _ {A : Type 0} (o : Ops A) where
  infixl 65 ◌⊕◌
  infixl 70 ◌⊗◌
  open o use {add as ◌⊕◌, mul as ◌⊗◌}

  -- what the lowest digit of an index contributes to the equality polynomial at a coordinate
  abbrev pub factor : A → ℕ → A
  factor u d = if d % 2 == 1 then u else o.one ⊕ o.neg u

  -- the weight of the gate at place t of such a run
  abbrev pub place_weight : List A → List A → List A → ℕ → ℕ → ℕ → ℕ → ℕ → ℕ → A
  place_weight z b c first left lstep right rstep t =
      eq_poly o z (first + t)
      ⊗ (eq_poly o b (left + t * lstep) ⊗ eq_poly o c (right + t * rstep))

  -- and the sum of those of the first n places
  abbrev pub run_sum : List A → List A → List A → ℕ → ℕ → ℕ → ℕ → ℕ → ℕ → A
  run_sum z b c first left lstep right rstep n =
      sum_below o n (place_weight z b c first left lstep right rstep)

-- a run's share of the wiring polynomial of its kind
abbrev pub share : List K → List K → List K → Run → K
share z b c run = run_sum k_ops z b c run.first run.left run.lstep run.right run.rstep run.count

-- the carries of an entry
abbrev pub carries_of : ℕ → Carries
carries_of i = record { position = i / 9 % 2; left = i / 3 % 3; right = i % 3; within = i / 18 }

pub record AreSmall (carries : Carries) : Type 0 where
  pub position : carries.position ≤ 1
  pub left : carries.left ≤ 2
  pub right : carries.right ≤ 2
  pub within : carries.within ≤ 1

-- a column has binary digits, and steps of at most 2
pub record HasDigits (column : Column) : Type 0 where
  pub position : column.position ≤ 1
  pub left : column.left ≤ 1
  pub right : column.right ≤ 1
  pub last : column.last ≤ 1
  pub lstep : column.lstep ≤ 2
  pub rstep : column.rstep ≤ 2

-- the carries into the next column, where the digit of t is this
abbrev pub carried : Column → Carries → ℕ → Carries
carried column from digit = record {
  position = (column.position + from.position + digit) / 2;
  left = (column.left + from.left + digit * column.lstep) / 2;
  right = (column.right + from.right + digit * column.rstep) / 2;
  within = (column.last + from.within + (1 - digit)) / 2;
}

-- what the digits of the sums in this column contribute
abbrev pub weight : Column → Carries → ℕ → K
weight column from digit =
    mul_k (factor k_ops column.z (column.position + from.position + digit))
    (mul_k (factor k_ops column.b (column.left + from.left + digit * column.lstep))
    (factor k_ops column.c (column.right + from.right + digit * column.rstep)))

-- the sum of the entries of a table, each times a value of its carries
unfoldable pub weighed : List K → (Carries → K) → K
weighed table value =
    sum_below k_ops 36 (λ i. mul_k (slice_index_or table i zero_k) (value (carries_of i)))

-- what a value of carries is one column before
abbrev pub before_column : Column → (Carries → K) → Carries → K
before_column column value from =
    add_k (mul_k (weight column from 0) (value (carried column from 0)))
    (mul_k (weight column from 1) (value (carried column from 1)))
