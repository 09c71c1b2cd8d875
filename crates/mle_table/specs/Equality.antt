-- Tables of the equality polynomial at a point
use Rattle.std.specs.Prelude.{◌≡◌, ℕ, ◌^◌, ◌<◌, List, length, slice_index_or}
use Rattle.field_ext.specs.Ring.{Ops}
use Rattle.field_ext.specs.Multilinear.{eq_poly}

-- the table begins with the equality polynomial's values at these coordinates
abbrev pub IsEqTable : {A : Type 0} → Ops A → List A → List A → Type 0
IsEqTable o us t = (g : ℕ) → g < 2 ^ length us → slice_index_or t g o.zero ≡ eq_poly o us g
