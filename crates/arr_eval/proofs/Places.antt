-- Lists made place by place.
use Rattle.std.proofs.Common.{◌≡◌, ℕ, ◌+◌, ◌*◌, ◌%◌, ◌<◌, List, [], ◌∷◌, ◌++◌, ap, sym, ◌∙◌, arith}
use Rattle.std.proofs.lemmas.Nat.{div-mul-add, mod-mul-add}
use Rattle.std.proofs.lemmas.List.FromFn.{map-range_with_len_more}
use Rattle.std.proofs.lemmas.List.Sums.{fold_push}
use Rattle.field_ext.specs.Field.{F, of, add_f}
use Rattle.arr_eval.specs.Numbers.{sum_of, at_places, product_at, product_place}
use Rattle.field_ext.proofs.api.Elements.{add-of}

pub at_places-more : (f : ℕ → F) (count : ℕ) (x : F) (found more : List F) → found ≡ at_places count f → more ≡ found ++ (x ∷ []) → x ≡ f count → more ≡ at_places (count + 1) f
at_places-more f count x found more so_far pushed value =
    pushed ∙ ap (λ front. front ++ (x ∷ [])) so_far ∙ ap (λ y. at_places count f ++ (y ∷ [])) value
    ∙ sym (map-range_with_len_more f 0 count count (omega arith))

-- the sum of one element more, by a number that stands for it
pub sum_of-more : (f : ℕ → F) (count total part : ℕ) (value : F) → of total ≡ sum_of (at_places count f) → of part ≡ value → value ≡ f count → of (total + part) ≡ sum_of (at_places (count + 1) f)
sum_of-more f count total part value so_far stands is_next =
    sym (add-of total part)
    ∙ (λ i. add_f (so_far i) ((stands ∙ is_next) i))
    ∙ sym (ap sum_of (map-range_with_len_more f 0 count count (omega arith)) ∙ fold_push add_f (of 0) (at_places count f) (f count))

-- the next element of row i of a product
pub product-more : (m q : ℕ) (left right : List F) (i j : ℕ) (x : F) (found more : List F) → j < q → found ≡ at_places (i * q + j) (product_place m q left right) → more ≡ found ++ (x ∷ []) →
    x ≡ product_at m q left right i j → more ≡ at_places (i * q + (j + 1)) (product_place m q left right)
product-more m q left right i j x found more inside so_far pushed value =
    at_places-more (product_place m q left right) (i * q + j) x found more so_far pushed
    (value ∙ sym (ap (λ a. product_at m q left right a ((i * q + j) % q)) (div-mul-add i q j inside) ∙ ap (product_at m q left right i) (mod-mul-add i q j inside)))
    ∙ ap (λ count. at_places count (product_place m q left right)) (omega arith)
