-- The eight bytes of an element of K
use Rattle.std.specs.Prelude.{ℕ, List, ◌++◌, take, drop}
use Rattle.std.specs.Int.{w32, to_le_bytes, from_le_bytes}
use Rattle.field_ext.specs.Field.{K}

-- the part without i and then the factor of i, four bytes each, the lowest first
abbrev pub bytes_of : K → List ℕ
bytes_of x = to_le_bytes w32 x.re.value ++ to_le_bytes w32 x.im.value

-- the number of the first four bytes
abbrev pub real_half : List ℕ → ℕ
real_half bytes = from_le_bytes w32 (take 4 bytes)

-- the number of the other four
abbrev pub imaginary_half : List ℕ → ℕ
imaginary_half bytes = from_le_bytes w32 (drop 4 bytes)
