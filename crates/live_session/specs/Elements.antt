-- The elements that bytes begin with
use Rattle.std.specs.Prelude.{ℕ, zero, suc, List, [], ◌∷◌, Bool, ◌&&◌, length, take, drop, if◌then◌else◌, nat_le, nat_lt}
use Rattle.field_ext.specs.Field.{prime, K, of}
use Rattle.field_ext.specs.Bytes.{real_half, imaginary_half}

-- the element of eight bytes
abbrev pub element_of : List ℕ → K
element_of bytes = record { re = of (real_half bytes); im = of (imaginary_half bytes) }

-- whether both halves of eight bytes are below the prime
abbrev pub in_range : List ℕ → Bool
in_range bytes = nat_lt (real_half bytes) prime && nat_lt (imaginary_half bytes) prime

-- whether the first eight bytes are there and in range
abbrev pub has_element : List ℕ → Bool
has_element bytes = nat_le 8 (length bytes) && in_range (take 8 bytes)

-- the elements before the first that isn't whole or not in range, at most n of them
abbrev pub leading : ℕ → List ℕ → List K
leading zero bytes = []
leading (suc n) bytes =
    if has_element bytes then element_of (take 8 bytes) ∷ leading n (drop 8 bytes) else []
