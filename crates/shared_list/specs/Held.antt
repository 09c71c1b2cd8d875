-- What a held list is: one item, a list, or the transpose of a list.
use Rattle.std.specs.Prelude.{◌≡◌, ◌*◌, List, [], ◌∷◌, length}
use Rattle.shared_list.specs.declared.held.Held.{Held}
use Rattle.shared_list.specs.declared.held.Held.TheVariants.{One, Rows, Turned}
use Rattle.shared_list.specs.Turned.{turned}

abbrev pub items_of : {A : Type 0} → Held A → List A
items_of (One item) = item ∷ []
items_of (Rows items) = items
items_of (Turned turn) = turned turn.value.nothing turn.value.rows turn.value.columns turn.value.items

-- a transpose is that of a whole matrix
abbrev pub IsWhole : {A : Type 0} → Held A → Type 0
IsWhole (One item) = Unit {0}
IsWhole (Rows items) = Unit {0}
IsWhole (Turned turn) = length turn.value.items ≡ turn.value.rows * turn.value.columns
