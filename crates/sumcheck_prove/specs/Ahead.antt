-- The message of a round, and those of its pieces, where they are summed ahead
use Rattle.std.specs.Prelude.{◌≡◌, ⊤, ℕ, List, map, Option, MatchOption}
use Rattle.std.specs.Global.{Vec}
use Rattle.std.specs.List.{range_with_len}
use Rattle.field_ext.specs.Field.{K, k_ops}
use Rattle.field_ext.specs.Polynomial.{coefficients}
use Rattle.round_tables.specs.LayerSum.{LayerSum, pieces_of, piece_poly, next_poly}

-- the message is that of the next round
abbrev pub IsNextMessage : LayerSum → List K → Type 0
IsNextMessage s message = message ≡ coefficients k_ops 3 (next_poly s)

-- the message of a piece
unfoldable pub message_of : LayerSum → ℕ → List K
message_of s piece = coefficients k_ops 3 (piece_poly s piece)

-- nothing is summed ahead, or each piece is, in order
abbrev pub AreAhead : LayerSum → Option (Vec (List K)) → Type 0
AreAhead s ahead = MatchOption ahead ⊤
    (λ sums. sums.items ≡ map (message_of s) (range_with_len 0 (pieces_of s)))
