-- The challenges that words are
use Rattle.std.specs.Prelude.{List, [], ◌∷◌}
use Rattle.field_ext.specs.Field.{F, K}

-- the elements whose real and imaginary parts the words are, one after another
abbrev pub challenges_in : List F → List K
challenges_in [] = []
challenges_in (re ∷ []) = []
challenges_in (re ∷ im ∷ words) = record { re = re; im = im } ∷ challenges_in words
