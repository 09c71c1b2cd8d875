-- Items one after another.
use Rattle.std.specs.Prelude.{◌≡◌, ℕ, List, [], ◌∷◌, ◌++◌}

-- the texts of items one after another, and then a last word
abbrev pub AreListed : {A : Type 0} → (A → List ℕ → Type 0) → List ℕ → List A → List ℕ → Type 0
AreListed Text last [] text = text ≡ last
AreListed Text last (a ∷ others) text =
    (s : List ℕ) × (t : List ℕ) × Text a s × AreListed Text last others t × (text ≡ s ++ t)
