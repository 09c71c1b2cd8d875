-- What kept items are: a list, or a list with its changes.
use Rattle.std.specs.Prelude.{List}
use Rattle.shared_list.specs.declared.items.Kept.{Kept}
use Rattle.shared_list.specs.declared.items.Kept.TheVariants.{Whole, Written}
use Rattle.shared_list.specs.Changes.{changed}

abbrev pub kept_items : {A : Type 0} → Kept A → List A
kept_items (Whole items) = items.value.items
kept_items (Written written) = changed written.value.changes.value written.value.base.value.items
