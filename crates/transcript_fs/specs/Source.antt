-- Where challenges come from.
use Rattle.std.specs.Prelude.{ℕ, zero, suc, List, [], ◌∷◌, ◌++◌, Bool, IsTrue}
use Rattle.field_ext.specs.Field.{K}

-- How a state takes a message in, which challenge it gives next, which state that leaves, and whether it has so many left.
-- Where there are n + 1, there are n, also after a draw, and a message takes none away.
pub record Source : Type 0 where
  pub absorb : List ℕ → List K → List ℕ
  pub draw : List ℕ → K
  pub after : List ℕ → List ℕ
  pub has : List ℕ → ℕ → Bool
  pub has_fewer : (s : List ℕ) (n : ℕ) → IsTrue (has s (suc n)) → IsTrue (has s n)
  pub has_after : (s : List ℕ) (n : ℕ) → IsTrue (has s (suc n)) → IsTrue (has (after s) n)
  pub has_absorbed : (s : List ℕ) (message : List K) (n : ℕ) → IsTrue (has s n)
      → IsTrue (has (absorb s message) n)

-- so many challenges with no message between them
abbrev pub point_draws : Source → List ℕ → ℕ → List K
point_draws source s zero = []
point_draws source s (suc n) = source.draw s ∷ point_draws source (source.after s) n

-- the state after them
abbrev pub state_after_point : Source → List ℕ → ℕ → List ℕ
state_after_point source s zero = s
state_after_point source s (suc n) = state_after_point source (source.after s) n

-- the challenges that follow the messages, one each
abbrev pub draws : Source → List ℕ → List (List K) → List K
draws source s [] = []
draws source s (q ∷ qs) =
    source.draw (source.absorb s q) ∷ draws source (source.after (source.absorb s q)) qs

-- the state after them
abbrev pub state_after : Source → List ℕ → List (List K) → List ℕ
state_after source s [] = s
state_after source s (q ∷ qs) = state_after source (source.after (source.absorb s q)) qs

-- Every challenge of a run in order: the coordinates of the output point, and one after each message, where the messages
-- of a layer are those of its rounds and then its line.
abbrev pub all_draws : Source → List ℕ → ℕ → List (List K) → List K
all_draws source s coordinate_count messages =
    point_draws source s coordinate_count ++ draws source
    (state_after_point source s coordinate_count) messages
