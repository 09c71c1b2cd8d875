-- Lists that are written element by element, and values of the base field as elements of K
use Rattle.std.proofs.Common.{◌≡◌, ℕ, zero, suc, ◌+◌, ◌<◌, ◌≤◌, ◌⊎◌, inl, inr, List, [], ◌∷◌, length, map, take, drop, get_or, get_or-take, get_or-drop, length-take, refl, sym, ◌∙◌, ap, arith}
use Rattle.std.proofs.lemmas.Bool.{cases_lt}
use Rattle.std.proofs.lemmas.List.{get_or_default, get_or-map, get_or_past, length-map, same_lists}
use Rattle.field_ext.specs.Field.{F, K, embed_k, of, zero_k}
use Rattle.mle_table.specs.Shape.{AreBase}

-- a list that was written element by element
pub written : {X Y : Type 0} (f : X → Y) (xs : List X) (ys : List Y) (e : X) (d : Y) → length ys ≡ length xs → ((k : ℕ) → k < length xs → get_or ys k d ≡ f (get_or xs k e)) → ys ≡ map f xs
written f xs ys e d long each =
    same_lists ys (map f xs) (long ∙ sym (length-map xs f)) (λ k other l.
    get_or_default ys k other d l ∙ each k (omega (arith, l, long)) ∙ sym (get_or-map f xs k e other (omega (arith, l, long))))

pub embedded_base : (xs : List F) → AreBase (map embed_k xs)
embedded_base [] i = refl
embedded_base (x ∷ xs) zero = refl
embedded_base (x ∷ xs) (suc i) = embedded_base xs i

-- a value that is read of numbers of the base field, as an element of K
pub embedded_read : (xs : List F) (i : ℕ) (x : F) (y : K) → i < length xs → x ≡ get_or xs i x → y ≡ embed_k x → y ≡ get_or (map embed_k xs) i zero_k
embedded_read xs i x y u is e = e ∙ ap embed_k is ∙ sym (get_or-map embed_k xs i x zero_k u)

-- a range of values of the base field
pub base_range : (values : List K) (from size : ℕ) → AreBase values → AreBase (take size (drop from values))
base_range values from size base i = by_size (cases_lt i size)
  where
    by_size : (i < size) ⊎ (size ≤ i) → (get_or (take size (drop from values)) i zero_k).im ≡ of 0
    by_size (inl u) = ap (λ (x : K). x.im) (get_or-take size (drop from values) i zero_k u ∙ get_or-drop from values i zero_k) ∙ base (from + i)
    by_size (inr u) = let past : length (take size (drop from values)) ≤ i = omega (arith, length-take size (drop from values)) in ap (λ (x : K). x.im) (get_or_past (take size (drop from values)) i zero_k past)
