-- A list that answers where names are in scope.
use Rattle.std.specs.Prelude.{◌≡◌, ℕ, List, Option, None, get_or}
use Rattle.arr_scope.specs.Scope.{Names, place_of}

-- what the list has at a name's number is the oldest place of the name
abbrev pub Answers : {A : Type 0} → List (Option ℕ) → Names A → Type 0
Answers places names = (name : ℕ) → get_or places name None ≡ place_of name names
