-- Matrices as lists, row by row, and their transposes.
use Rattle.std.specs.Prelude.{ℕ, ◌+◌, ◌*◌, ◌/◌, ◌%◌, List, map, get_or}
use Rattle.std.specs.List.{range_with_len}

-- n rows of m items, as m rows of n; past the end of the list there is nothing
abbrev pub turned : {A : Type 0} → A → ℕ → ℕ → List A → List A
turned nothing n m items =
    map (λ k. get_or items (k % n * m + k / n) nothing) (range_with_len 0 (m * n))
