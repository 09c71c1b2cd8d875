-- How bytes grow by the pieces of one more item.
use Rattle.std.proofs.Common.{◌≡◌, ℕ, ◌+◌, ◌<◌, List, [], ◌∷◌, ◌++◌, length, get_or, take, sym, ◌∙◌, ap, append_assoc, append-nil}
use Rattle.std.specs.List.{flat_map}
use Rattle.std.proofs.lemmas.List.{take_more}
use Rattle.std.proofs.lemmas.Grind.{flat_map-append}

pub one_more : {X Y : Type 0} (f : X → List Y) (xs : List X) (i : ℕ) (d : X) → i < length xs → flat_map f (take i xs) ++ f (get_or xs i d) ≡ flat_map f (take (i + 1) xs)
one_more f xs i d h = sym (ap (flat_map f) (take_more xs i d h) ∙ flat_map-append f (take i xs) (get_or xs i d ∷ []) ∙ ap (λ ys. flat_map f (take i xs) ++ ys) (append-nil (f (get_or xs i d))))

-- a list of pieces of pieces after some bytes, and one more piece
pub one_more_within : {X Y Z : Type 0} (g : Y → List Z) (f : X → List Y) (before : List Z) (xs : List X) (i : ℕ) (d : X) → i < length xs → (before ++ flat_map g (flat_map f (take i xs))) ++ flat_map g (f (get_or xs i d)) ≡ before ++ flat_map g (flat_map f (take (i + 1) xs))
one_more_within g f before xs i d h =
    append_assoc before (flat_map g (flat_map f (take i xs))) (flat_map g (f (get_or xs i d)))
    ∙ ap (λ ys. before ++ ys) (sym (flat_map-append g (flat_map f (take i xs)) (f (get_or xs i d))) ∙ ap (flat_map g) (one_more f xs i d h))
