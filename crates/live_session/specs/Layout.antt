-- How the elements that a prover sends by lines are cut into messages
use Rattle.std.specs.Prelude.{ℕ, suc, ◌+◌, ◌-◌, ◌*◌, List, [], ◌∷◌, ◌++◌, take, drop, replicate, if◌then◌else◌, nat_le}
use Rattle.field_ext.specs.Field.{K}

-- three elements each
abbrev pub triples : List K → List (List K)
triples [] = []
triples (a ∷ []) = []
triples (a ∷ b ∷ []) = []
triples (a ∷ b ∷ c ∷ xs) = (a ∷ b ∷ c ∷ []) ∷ triples xs

-- for each layer, where the layer below has k coordinates, 2 k rounds of three elements and a line of k + 1
abbrev pub messages_in : List ℕ → List K → List (List K)
messages_in [] xs = []
messages_in (k ∷ ks) xs =
    (triples (take (6 * k) xs) ++ take (k + 1) (drop (6 * k) xs) ∷ [])
    ++ messages_in ks (drop (6 * k + (k + 1)) xs)

-- how many elements each message has
abbrev pub sizes_of : List ℕ → List ℕ
sizes_of [] = []
sizes_of (k ∷ ks) = replicate (k + k) 3 ++ (k + 1) ∷ sizes_of ks

-- how many messages of these sizes are whole in n elements
abbrev pub whole : List ℕ → ℕ → ℕ
whole [] n = 0
whole (size ∷ sizes) n = if nat_le size n then suc (whole sizes (n - size)) else 0
