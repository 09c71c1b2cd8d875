-- A part of a phase's tables: the same range of all three, in buffers of its own
use Rattle.std.specs.Prelude.{◌≡◌, ℕ, ◌+◌, ◌-◌, ◌/◌, ◌^◌, ◌≤◌, min, List, [], ◌∷◌, ◌++◌, length, take, if◌then◌else◌, nat_lt, All}
use Rattle.field_ext.specs.Field.{K, k_ops}
use Rattle.field_ext.specs.Multilinear.{folded}
use Rattle.field_ext.specs.Polynomial.{coefficients, polynomial_ops}
use Rattle.field_ext.specs.Sums.{sum_below}
use Rattle.table_parts.specs.Tables.{pair_poly}

-- the values of its range in each table, and for how many it has capacity
pub record PartTables : Type 0 where
  pub table : List K
  pub scales : List K
  pub shifts : List K
  pub capacity : ℕ

-- a table with its first coordinate bound to r: one of a single value stays
abbrev pub halved : K → List K → List K
halved r t = if nat_lt 1 (length t) then take (length t / 2) (folded k_ops t r) else t

-- a part with the first coordinate bound to r
abbrev pub folded_part : K → PartTables → PartTables
folded_part r p = record {
  table = halved r p.table;
  scales = halved r p.scales;
  shifts = halved r p.shifts;
  capacity = p.capacity;
}

-- how many pairs the three tables of a part have
abbrev pub part_pairs : PartTables → ℕ
part_pairs p = length p.table / 2 + length p.scales / 2 + length p.shifts / 2

-- how many pairs of all three tables are summed: there are at most 1,024 in a part
abbrev pub summed_pairs : PartTables → ℕ
summed_pairs p = min (min (min (length p.table) (length p.scales)) (length p.shifts)) 2048 / 2

-- the coefficients of 1, X and X² of what the pairs of the part sum to
unfoldable pub part_sum : PartTables → List K
part_sum p = coefficients k_ops 3 (sum_below (polynomial_ops k_ops) (summed_pairs p)
    (pair_poly k_ops p.table p.scales p.shifts))

-- each table of the part has n values
pub record HasSize (n : ℕ) (p : PartTables) : Type 0 where
  pub table : length p.table ≡ n
  pub scales : length p.scales ≡ n
  pub shifts : length p.shifts ≡ n

abbrev pub HasCapacity : ℕ → PartTables → Type 0
HasCapacity n p = n ≤ p.capacity

-- one table of all parts, one after another
abbrev pub flat : (PartTables → List K) → List PartTables → List K
flat f [] = []
flat f (p ∷ ps) = f p ++ flat f ps

abbrev pub flat_table : List PartTables → List K
flat_table ps = flat (λ p. p.table) ps

abbrev pub flat_scales : List PartTables → List K
flat_scales ps = flat (λ p. p.scales) ps

abbrev pub flat_shifts : List PartTables → List K
flat_shifts ps = flat (λ p. p.shifts) ps

-- a part has at most 2 ^ 11 values
abbrev pub part_exponent : ℕ
part_exponent = 11

-- how often the 2 ^ k values of a phase are halved into parts
abbrev pub cuts : ℕ → ℕ
cuts k = k - part_exponent

-- the same with m coordinates of the phase left: where a part would have one value, all are in one
abbrev pub cuts_left : ℕ → ℕ → ℕ
cuts_left k m = if nat_lt (cuts k) m then cuts k else 0

-- the tables of 2 ^ m values are in parts of one size
pub record AreLaidOut (k m : ℕ) (parts : List PartTables) : Type 0 where
  pub number : length parts ≡ 2 ^ cuts_left k m
  pub sizes : All (HasSize (2 ^ (m - cuts_left k m))) parts
