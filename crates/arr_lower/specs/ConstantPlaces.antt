-- A map that answers where constants are among nodes.
use Rattle.std.specs.Prelude.{◌≡◌, ℕ, List}
use Rattle.std.specs.BTreeMap.{BTreeMap, get}
use Rattle.std.specs.List.{position}
use Rattle.std.specs.Ordering.{nat_cmp}
use Rattle.field_ext.specs.Field.{F}
use Rattle.node_core.specs.declared.node.Node.{Node}
use Rattle.arr_lower.specs.Operations.{is_constant}

-- what the map has for a constant's number is the place of the constant
abbrev pub Answers : BTreeMap ℕ ℕ → List Node → Type 0
Answers places nodes = (x : F) → get nat_cmp places x.value ≡ position (is_constant x) nodes
