-- Bytes that texts name.
use Rattle.std.specs.Prelude.{ℕ, List, [], ◌∷◌}

-- the end of a line
abbrev pub newline : ℕ
newline = 10

abbrev pub space : ℕ
space = 32

abbrev pub comma : ℕ
comma = 44

-- the digit 0, after which come the digits to 9
abbrev pub digit_zero : ℕ
digit_zero = 48

abbrev pub digit_nine : ℕ
digit_nine = 57

-- the byte that a word begins with
abbrev pub initial : List ℕ → ℕ
initial [] = 0
initial (b ∷ word) = b
