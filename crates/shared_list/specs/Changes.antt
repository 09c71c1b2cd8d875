-- Changes of items of a list, by their places.
use Rattle.std.specs.Prelude.{◌≡◌, ℕ, suc, ◌/◌, ◌%◌, ◌<◌, cond, nat_eq, Some, None, List, [], ◌∷◌, length, get_or}
use Rattle.std.specs.declared.option.Option.{Option}
use Rattle.shared_list.specs.declared.changes.Changes.{Changes, Unchanged, Changed'}

-- the item that a place is changed to; the way has the digits of the place that are left, and p and
-- q point to the sides
abbrev pub change_at : {A : Type 0} → Changes A → ℕ → ℕ → Option A
change_at Unchanged place way = None
change_at (Changed' here item p even q odd) place way =
    cond (nat_eq place here) (Some item) (cond (nat_eq (way % 2) 0)
    (change_at even place (way / 2)) (change_at odd place (way / 2)))

-- an item, or what it is changed to
abbrev pub item_after : {A : Type 0} → Option A → A → A
item_after (Some changed) item = changed
item_after None item = item

-- items, the first of which stands at this place, with their changes
abbrev pub changed_from : {A : Type 0} → Changes A → ℕ → List A → List A
changed_from changes place [] = []
changed_from changes place (item ∷ items) =
    item_after (change_at changes place place) item ∷ changed_from changes (suc place) items

-- a list with its changes
unfoldable pub changed : {A : Type 0} → Changes A → List A → List A
changed changes items = changed_from changes 0 items

-- a list that is being changed: its changes give the same, and what stands as it will be stays
pub record Proceeds {A : Type 0} (changes : Changes A) (before after : List A) : Type 0 where
  pub same : changed changes after ≡ changed changes before
  pub stays : (k : ℕ) (past : A) → get_or before k past ≡ get_or (changed changes before) k past
      → get_or after k past ≡ get_or (changed changes before) k past

-- and what a part of the changes is about stands as it will be
pub record Settles {A : Type 0} (part changes : Changes A) (before after : List A) : Type 0 where
  pub proceeds : Proceeds changes before after
  pub settled : (k way : ℕ) (item past : A) → k < length before → change_at part k way ≡ Some item
      → get_or after k past ≡ get_or (changed changes before) k past
