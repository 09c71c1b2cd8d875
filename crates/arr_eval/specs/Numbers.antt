-- Lists of field elements: sums, products, and matrices that are held row by row.
use Rattle.std.specs.Prelude.{ℕ, ◌+◌, ◌*◌, ◌/◌, ◌%◌, List, map, fold, get_or}
use Rattle.std.specs.List.{zip, range_with_len}
use Rattle.field_ext.specs.Field.{F, of, add_f, mul_f}

-- the element at a place, and zero past the end
abbrev pub element : List F → ℕ → F
element items place = get_or items place (of 0)

abbrev pub element_wise : (F → F → F) → List F → List F → List F
element_wise op left right = map (λ pair. op pair.0 pair.1) (zip left right)

abbrev pub sum_of : List F → F
sum_of items = fold add_f (of 0) items

abbrev pub dot_of : List F → List F → F
dot_of left right = sum_of (element_wise mul_f left right)

-- the elements of a function of the first count places
abbrev pub at_places : ℕ → (ℕ → F) → List F
at_places count item = map item (range_with_len 0 count)

-- the element at place k of the m rows of n that n rows of m are turned into
abbrev pub transposed_at : ℕ → ℕ → List F → ℕ → F
transposed_at n m items k = element items (k % n * m + k / n)

-- n rows of m elements, as m rows of n
abbrev pub transpose_of : ℕ → ℕ → List F → List F
transpose_of n m items = at_places (m * n) (transposed_at n m items)

-- row i of rows of m elements
abbrev pub row : ℕ → List F → ℕ → List F
row m items i = at_places m (λ l. element items (i * m + l))

-- column j of m rows of q elements
abbrev pub column : ℕ → ℕ → List F → ℕ → List F
column m q items j = at_places m (λ l. element items (l * q + j))

-- row i of rows of m elements times column j of rows of q
abbrev pub product_at : ℕ → ℕ → List F → List F → ℕ → ℕ → F
product_at m q left right i j =
    sum_of (at_places m (λ l. mul_f (element left (i * m + l)) (element right (l * q + j))))

-- the element at place k of rows of q
abbrev pub product_place : ℕ → ℕ → List F → List F → ℕ → F
product_place m q left right k = product_at m q left right (k / q) (k % q)

-- n rows of m elements times m rows of q
abbrev pub matmul_of : ℕ → ℕ → ℕ → List F → List F → List F
matmul_of n m q left right = at_places (n * q) (product_place m q left right)
