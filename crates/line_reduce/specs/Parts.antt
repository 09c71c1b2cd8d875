-- The line of a table by parts
use Rattle.std.specs.Prelude.{ℕ, zero, suc, ◌+◌, ◌-◌, ◌*◌, ◌^◌, List, [], ◌++◌, length, take, drop, if◌then◌else◌, nat_lt}
use Rattle.field_ext.specs.Field.{K, k_ops}
use Rattle.field_ext.specs.Polynomial.{coefficients}
use Rattle.gkr_layers.specs.Sumcheck.{line_polynomial}

-- how many coordinates a table has at most
abbrev pub most_coordinates : ℕ
most_coordinates = 20

-- how many coordinates a part is for, the first ones
abbrev pub part_coordinates : ℕ
part_coordinates = 11

-- how many values a part has
abbrev pub part_values : ℕ
part_values = 2 ^ part_coordinates

-- how many coefficients the line of a part has
abbrev pub part_coefficients : ℕ
part_coefficients = part_coordinates + 1

-- how many parts a table of 2 ^ k values has, where it has a whole one
abbrev pub parts_of : ℕ → ℕ
parts_of k = 2 ^ (k - part_coordinates)

-- how many coordinates of a part are bound at once, in blocks of its values
abbrev pub part_known : ℕ
part_known = 4

-- the places of the weights for one block
abbrev pub part_weights : ℕ
part_weights = 2 ^ part_known * (part_known + 1)

-- the places of the rows of all blocks of a part
abbrev pub part_rows : ℕ
part_rows = 2 ^ (part_coordinates - part_known) * (part_known + 1)

-- the line's points for the coordinates of a part, and the coefficients of the part's line
pub record PartOfLine : Type 0 where
  pub b : List K
  pub c : List K
  pub line : List K

-- the values of part k of a table
unfoldable pub values_of : List K → ℕ → List K
values_of values k = take part_values (drop (k * part_values) values)

-- the coefficients of the line from b to c of these values' extension
unfoldable pub part_line : List K → List K → List K → List K
part_line values b c = coefficients k_ops part_coefficients (line_polynomial k_ops values b c)

-- part k after it is worked: where the table has no such part, it stays as it is
abbrev pub worked_part : List K → ℕ → PartOfLine → PartOfLine
worked_part values k p = if nat_lt (length values) (k * part_values + part_values) then p
    else record p { line = part_line (values_of values k) p.b p.c }

-- the lists f 0 to f (n - 1), one after another
abbrev pub joined : (ℕ → List K) → ℕ → List K
joined f zero = []
joined f (suc n) = joined f n ++ f n

-- the lines of the first n parts, one after another
abbrev pub part_lines : List K → List K → List K → ℕ → List K
part_lines values b c n = joined (λ k. part_line (values_of values k) b c) n
