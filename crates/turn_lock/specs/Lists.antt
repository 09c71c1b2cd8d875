-- Lists of places, and histories of which one begins the other.
use Rattle.std.specs.Prelude.{⊤, ℕ, ◌<◌, cond, ltb, List, [], ◌∷◌, length}

-- a place put into a rising list
abbrev pub put_in : ℕ → List ℕ → List ℕ
put_in x [] = x ∷ []
put_in x (y ∷ ys) = cond (ltb x y) (x ∷ (y ∷ ys)) (y ∷ put_in x ys)

-- two rising lists as one
abbrev pub unite : List ℕ → List ℕ → List ℕ
unite a [] = a
unite a (y ∷ ys) = put_in y (unite a ys)

abbrev pub longer : {E : Type 0} → List E → List E → List E
longer a b = cond (ltb (length a) (length b)) b a

abbrev pub shorter : {E : Type 0} → List E → List E → List E
shorter a b = cond (ltb (length a) (length b)) a b

-- x is below the first of the list
abbrev pub IsAbove : ℕ → List ℕ → Type 0
IsAbove x [] = ⊤
IsAbove x (y ∷ ys) = x < y

-- each place is above the one before it
abbrev pub IsRising : List ℕ → Type 0
IsRising [] = ⊤
IsRising (x ∷ xs) = IsAbove x xs × IsRising xs
