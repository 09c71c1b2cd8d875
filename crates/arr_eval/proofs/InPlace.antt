-- Lists of which the first places are changed already.
use Rattle.std.proofs.Common.{◌≡◌, ℕ, zero, suc, ◌+◌, ◌<◌, ◌≤◌, List, [], ◌∷◌, ◌++◌, map, take, drop, set, length, get_or, refl, ap, sym, ◌∙◌, add-one, arith}
use Rattle.std.proofs.Math.Seq.{take-append_seam}
use Rattle.field_ext.specs.Field.{F}
use Rattle.arr_eval.specs.Numbers.{element_wise}

-- the first places combined, and the rest as it was
abbrev pub combined : (F → F → F) → ℕ → List F → List F → List F
combined op zero left right = left
combined op (suc i) [] right = []
combined op (suc i) (a ∷ left) [] = a ∷ left
combined op (suc i) (a ∷ left) (b ∷ right) = op a b ∷ combined op i left right

combined-whole : (op : F → F → F) (left right : List F) → length left ≤ length right → combined op (length left) left right ≡ element_wise op left right
combined-whole op [] right inside = refl
combined-whole op (a ∷ left) [] inside = absurd (omega arith)
combined-whole op (a ∷ left) (b ∷ right) inside = ap (λ rest. op a b ∷ rest) (combined-whole op left right (omega arith))

-- the first places changed, and the rest as it was
abbrev pub changed : (F → F) → ℕ → List F → List F
changed f zero items = items
changed f (suc i) [] = []
changed f (suc i) (a ∷ items) = f a ∷ changed f i items

changed-whole : (f : F → F) (items : List F) → changed f (length items) items ≡ map f items
changed-whole f [] = refl
changed-whole f (a ∷ items) = ap (λ rest. f a ∷ rest) (changed-whole f items)

combined_step : (op : F → F → F) (i : ℕ) (left right : List F) (a b : F) → i < length left → length left ≤ length right →
    a ≡ get_or (combined op i left right) i a → b ≡ get_or right i b → set (combined op i left right) i (op a b) ≡ combined op (suc i) left right
combined_step op zero [] right a b here inside is_a is_b = absurd (omega arith)
combined_step op zero (x ∷ left) [] a b here inside is_a is_b = absurd (omega arith)
combined_step op zero (x ∷ left) (y ∷ right) a b here inside is_a is_b = λ k. op (is_a k) (is_b k) ∷ left
combined_step op (suc i) [] right a b here inside is_a is_b = absurd (omega arith)
combined_step op (suc i) (x ∷ left) [] a b here inside is_a is_b = absurd (omega arith)
combined_step op (suc i) (x ∷ left) (y ∷ right) a b here inside is_a is_b =
    ap (λ rest. op x y ∷ rest) (combined_step op i left right a b (omega arith) (omega arith) is_a is_b)

-- one more place combined
pub combined_more : (op : F → F → F) (i : ℕ) (left right now : List F) (a b value : F) → i < length left → length left ≤ length right → now ≡ combined op i left right →
    a ≡ get_or now i a → b ≡ get_or right i b → value ≡ op a b → set now i value ≡ combined op (i + 1) left right
combined_more op i left right now a b value here inside so_far is_a is_b is_value =
    (λ k. set (so_far k) i (is_value k))
    ∙ combined_step op i left right a b here inside (is_a ∙ ap (λ xs. get_or xs i a) so_far) is_b
    ∙ ap (λ n. combined op n left right) (sym (add-one i))

-- all places combined
pub combined_all : (op : F → F → F) (i : ℕ) (left right now : List F) → length left ≤ length right → i ≡ length left → now ≡ combined op i left right → now ≡ element_wise op left right
combined_all op i left right now inside whole so_far = so_far ∙ ap (λ n. combined op n left right) whole ∙ combined-whole op left right inside

changed_step : (f : F → F) (i : ℕ) (items : List F) (a : F) → i < length items → a ≡ get_or (changed f i items) i a → set (changed f i items) i (f a) ≡ changed f (suc i) items
changed_step f zero [] a here is_a = absurd (omega arith)
changed_step f zero (x ∷ items) a here is_a = ap (λ y. f y ∷ items) is_a
changed_step f (suc i) [] a here is_a = absurd (omega arith)
changed_step f (suc i) (x ∷ items) a here is_a = ap (λ rest. f x ∷ rest) (changed_step f i items a (omega arith) is_a)

-- one more place changed
pub changed_more : (f : F → F) (i : ℕ) (items now : List F) (a value : F) → i < length items → now ≡ changed f i items → a ≡ get_or now i a → value ≡ f a →
    set now i value ≡ changed f (i + 1) items
changed_more f i items now a value here so_far is_a is_value =
    (λ k. set (so_far k) i (is_value k))
    ∙ changed_step f i items a here (is_a ∙ ap (λ xs. get_or xs i a) so_far)
    ∙ ap (λ n. changed f n items) (sym (add-one i))

-- all places changed
pub changed_all : (f : F → F) (i : ℕ) (items now : List F) → i ≡ length items → now ≡ changed f i items → now ≡ map f items
changed_all f i items now whole so_far = so_far ∙ ap (λ n. changed f n items) whole ∙ changed-whole f items

-- what has no partner takes no part
element_wise-take : (op : F → F → F) (left right : List F) → element_wise op (take (length right) left) right ≡ element_wise op left right
element_wise-take op [] [] = refl
element_wise-take op [] (b ∷ right) = refl
element_wise-take op (a ∷ left) [] = refl
element_wise-take op (a ∷ left) (b ∷ right) = ap (λ rest. op a b ∷ rest) (element_wise-take op left right)

-- a vector whose prefix, cut to the length of the right side, was combined
pub cut_and_combined : (op : F → F → F) (left right cut now : List F) (size : ℕ) → cut ≡ take (length right) left → size ≡ length cut → length now ≡ length cut → now ≡ element_wise op cut right →
    take size (now ++ drop (length now) cut) ≡ element_wise op left right
cut_and_combined op left right cut now size is_cut sized same is_now =
    ap (λ n. take n (now ++ drop (length now) cut)) (sized ∙ sym same)
    ∙ take-append_seam now (drop (length now) cut)
    ∙ is_now
    ∙ ap (λ xs. element_wise op xs right) is_cut
    ∙ element_wise-take op left right
