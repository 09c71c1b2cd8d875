-- The words that bytes spell.
use Rattle.std.specs.Prelude.{ℕ, List, [], ◌∷◌, ◌++◌, codes, if◌then◌else◌, nat_eq}

-- the words so far, the word so far, and those of the bytes that are left, where a byte 0 stands
-- between two words
abbrev pub split_from : List (List ℕ) → List ℕ → List ℕ → List (List ℕ)
split_from words word [] = words ++ word ∷ []
split_from words word (b ∷ bs) =
    if nat_eq b 0
    then split_from (words ++ word ∷ []) [] bs
    else split_from words (word ++ b ∷ []) bs

-- the words of a command line that bytes spell, after the program's own name
abbrev pub words_in : List ℕ → List (List ℕ)
words_in bytes = split_from (codes "gkr" ∷ []) [] bytes
