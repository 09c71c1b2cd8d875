-- What was summed ahead is each piece's message, at its place
use Rattle.std.proofs.Common.{◌≡◌, ℕ, ◌<◌, List, map, length, get_or, Option, Some, ap, ◌∙◌, subst, arith}
use Rattle.std.specs.Global.{Vec}
use Rattle.std.specs.List.{range_with_len}
use Rattle.std.proofs.lemmas.List.{length-map}
use Rattle.std.proofs.lemmas.List.FromFn.{length-range_with_len, get_or-map-range_with_len}
use Rattle.field_ext.specs.Field.{K, k_ops}
use Rattle.field_ext.specs.Polynomial.{coefficients}
use Rattle.round_tables.specs.LayerSum.{LayerSum, pieces_of, piece_poly}
use Rattle.sumcheck_prove.specs.Ahead.{message_of, AreAhead}

pub all_ahead : (s : LayerSum) (ahead : Option (Vec (List K))) (sums : Vec (List K)) → ahead ≡ Some sums → AreAhead s ahead → sums.items ≡ map (message_of s) (range_with_len 0 (pieces_of s))
all_ahead s ahead sums is h = subst (AreAhead s) is h

pub as_many : (s : LayerSum) (sums : List (List K)) → sums ≡ map (message_of s) (range_with_len 0 (pieces_of s)) → length sums ≡ pieces_of s
as_many s sums is = ap length is ∙ length-map (range_with_len 0 (pieces_of s)) (message_of s) ∙ length-range_with_len 0 (pieces_of s)

pub read_ahead : (s : LayerSum) (sums : List (List K)) (piece : ℕ) (sum : List K) → sums ≡ map (message_of s) (range_with_len 0 (pieces_of s)) → piece < pieces_of s → sum ≡ get_or sums piece sum → sum ≡ coefficients k_ops 3 (piece_poly s piece)
unfolding message_of
read_ahead s sums piece sum is lt found = found ∙ ap (λ (l : List (List K)). get_or l piece sum) is ∙ get_or-map-range_with_len (message_of s) 0 (pieces_of s) piece piece sum lt (omega arith)
