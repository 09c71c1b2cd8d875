-- White space between tokens.
use Rattle.std.specs.Prelude.{◌≡◌, true, ℕ, List, [], ◌∷◌}
use Rattle.arr_lex.specs.Byte.{is_blank}

-- each byte is blank
abbrev pub AreBlank : List ℕ → Type 0
AreBlank [] = Unit {0}
AreBlank (byte ∷ bytes) = (is_blank byte ≡ true) × AreBlank bytes

-- one blank byte or more, and no other bytes
abbrev pub IsWhiteSpace : List ℕ → Type 0
IsWhiteSpace [] = ⊥
IsWhiteSpace (byte ∷ bytes) = (is_blank byte ≡ true) × AreBlank bytes
