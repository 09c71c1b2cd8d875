-- A map from names to their numbers.
use Rattle.std.specs.Prelude.{ℕ, List, Option, Some, None, Vec, map}
use Rattle.std.specs.declared.alloc.Global.{Global}
use Rattle.std.specs.BTreeMap.{BTreeMap, get_by}
use Rattle.std.specs.Cmp.Lexicographic.{slice_cmp}
use Rattle.std.specs.Ordering.{nat_cmp}

-- what a map has for these bytes
abbrev pub found : BTreeMap (Vec ℕ Global) ℕ → List ℕ → Option ℕ
found places bytes = get_by (λ key. slice_cmp nat_cmp bytes key.items) places

-- the first of two numbers that is there
abbrev pub or_else : Option ℕ → Option ℕ → Option ℕ
or_else None other = other
or_else (Some number) other = Some number

-- the entries of a map as names
abbrev pub entries_of : List (Vec ℕ Global × ℕ) → List (List ℕ × ℕ)
entries_of entries = map (λ entry. (entry.0.items, entry.1)) entries
