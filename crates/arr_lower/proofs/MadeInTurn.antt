-- Lists of nodes that a loop makes, one after another.
use Rattle.std.proofs.Common.{◌≡◌, ℕ, ◌+◌, ◌<◌, ◌≤◌, List, [], ◌∷◌, ◌++◌, map, drop, length, get_or, min, ap, sym, ◌∙◌, arith}
use Rattle.std.specs.List.{zip, range_with_len}
use Rattle.std.proofs.lemmas.List.{at_drop_more, at_drop_all}
use Rattle.std.proofs.lemmas.List.FromFn.{length-range_with_len, get_or-range_with_len, length-map-range_with_len, get_or-map-range_with_len, map-range_with_len_more}
use Rattle.std.proofs.lemmas.Slice.Zip.{length-zip, get_or-zip}
use Rattle.node_core.specs.declared.node.Node.{Node}
use Rattle.arr_lower.specs.Operations.{Made, MadeOne, made_after}

abbrev pub made_of : List ℕ → List Node → Made
made_of items nodes = record { items = items; nodes = nodes }

abbrev pub one_of : ℕ → List Node → MadeOne
one_of item nodes = record { item = item; nodes = nodes }

module _ {A : Type 0} (make : A → List Node → MadeOne) (xs : List A) where
  -- one more
  pub made_after-more : (i : ℕ) (x : A) (items more : List ℕ) (nodes after : List Node) (item : ℕ) (all : Made) → i < length xs → get_or xs i x ≡ x → make x nodes ≡ one_of item after
      → more ≡ items ++ item ∷ [] → all ≡ made_after make (drop i xs) (made_of items nodes) → all ≡ made_after make (drop (i + 1) xs) (made_of more after)
  made_after-more i x items more nodes after item all inside is_x one is_more so_far =
      so_far ∙ at_drop_more (λ ys. made_after make ys (made_of items nodes)) xs i x inside
      ∙ ap (λ y. made_after make (y ∷ drop (i + 1) xs) (made_of items nodes)) is_x
      ∙ ap (λ (made : MadeOne). made_after make (drop (i + 1) xs) (made_of (items ++ made.item ∷ []) made.nodes)) one
      ∙ ap (λ all. made_after make (drop (i + 1) xs) (made_of all after)) (sym is_more)

  -- all
  pub made_after-all : (i : ℕ) (items : List ℕ) (nodes : List Node) (all : Made) → length xs ≤ i → all ≡ made_after make (drop i xs) (made_of items nodes) → all ≡ made_of items nodes
  made_after-all i items nodes all past so_far = so_far ∙ at_drop_all (λ ys. made_after make ys (made_of items nodes)) xs i past

-- one more pair
pub pairs-more : (make : ℕ × ℕ → List Node → MadeOne) (left right : List ℕ) (i next a b : ℕ) (items more : List ℕ) (nodes after : List Node) (item : ℕ) (all : Made) →
    i < length left → i < length right → next ≡ i + 1 → a ≡ get_or left i a → b ≡ get_or right i b → make (a, b) nodes ≡ one_of item after → more ≡ items ++ item ∷ []
    → all ≡ made_after make (drop i (zip left right)) (made_of items nodes) → all ≡ made_after make (drop next (zip left right)) (made_of more after)
pairs-more make left right i next a b items more nodes after item all in_left in_right is_next is_a is_b one is_more so_far =
    let long = length-zip left right in
    made_after-more make (zip left right) i (a, b) items more nodes after item all (omega arith)
    (get_or-zip left right i (a, b) in_left in_right ∙ λ k. (sym is_a k, sym is_b k)) one is_more so_far
    ∙ ap (λ n. made_after make (drop n (zip left right)) (made_of more after)) (sym is_next)

-- all pairs
pub pairs-all : (make : ℕ × ℕ → List Node → MadeOne) (left right : List ℕ) (i : ℕ) (items : List ℕ) (nodes : List Node) (all : Made) → i ≡ min (length left) (length right)
    → all ≡ made_after make (drop i (zip left right)) (made_of items nodes) → all ≡ made_of items nodes
pairs-all make left right i items nodes all whole so_far =
    let long = length-zip left right in
    let past : length (zip left right) ≤ i = omega arith in
    made_after-all make (zip left right) i items nodes all past so_far

-- one more of those at the places below a number
pub places-more : {A : Type 0} (make : A → List Node → MadeOne) (f : ℕ → A) (n i : ℕ) (x : A) (items more : List ℕ) (nodes after : List Node) (item : ℕ) (all : Made) → i < n → x ≡ f i → make x nodes ≡ one_of item after
    → more ≡ items ++ item ∷ [] → all ≡ made_after make (drop i (map f (range_with_len 0 n))) (made_of items nodes) → all ≡ made_after make (drop (i + 1) (map f (range_with_len 0 n))) (made_of more after)
places-more make f n i x items more nodes after item all inside is_x one is_more so_far =
    let long = length-map-range_with_len f 0 n in
    made_after-more make (map f (range_with_len 0 n)) i x items more nodes after item all (omega arith)
    (get_or-map-range_with_len f 0 n i i x inside (omega arith) ∙ sym is_x) one is_more so_far

pub places-all : {A : Type 0} (make : A → List Node → MadeOne) (f : ℕ → A) (n i : ℕ) (items : List ℕ) (nodes : List Node) (all : Made) → n ≤ i
    → all ≡ made_after make (drop i (map f (range_with_len 0 n))) (made_of items nodes) → all ≡ made_of items nodes
places-all make f n i items nodes all past so_far =
    let long = length-map-range_with_len f 0 n in
    let whole : length (map f (range_with_len 0 n)) ≤ i = omega arith in
    made_after-all make (map f (range_with_len 0 n)) i items nodes all whole so_far

-- one more of the numbers below a number
pub numbers-more : (make : ℕ → List Node → MadeOne) (n i : ℕ) (items more : List ℕ) (nodes after : List Node) (item : ℕ) (all : Made) → i < n → make i nodes ≡ one_of item after
    → more ≡ items ++ item ∷ [] → all ≡ made_after make (drop i (range_with_len 0 n)) (made_of items nodes) → all ≡ made_after make (drop (i + 1) (range_with_len 0 n)) (made_of more after)
numbers-more make n i items more nodes after item all inside one is_more so_far =
    let long = length-range_with_len 0 n in
    let here = get_or-range_with_len 0 n i i inside in
    made_after-more make (range_with_len 0 n) i i items more nodes after item all (omega arith) (here ∙ omega arith) one is_more so_far

pub numbers-all : (make : ℕ → List Node → MadeOne) (n i : ℕ) (items : List ℕ) (nodes : List Node) (all : Made) → n ≤ i
    → all ≡ made_after make (drop i (range_with_len 0 n)) (made_of items nodes) → all ≡ made_of items nodes
numbers-all make n i items nodes all past so_far =
    let long = length-range_with_len 0 n in
    let whole : length (range_with_len 0 n) ≤ i = omega arith in
    made_after-all make (range_with_len 0 n) i items nodes all whole so_far

-- one more item at a place
pub at_places-more : (f : ℕ → ℕ) (count x : ℕ) (found more : List ℕ) → found ≡ map f (range_with_len 0 count) → more ≡ found ++ (x ∷ []) → x ≡ f count → more ≡ map f (range_with_len 0 (count + 1))
at_places-more f count x found more so_far pushed value =
    pushed ∙ ap (λ front. front ++ (x ∷ [])) so_far ∙ ap (λ y. map f (range_with_len 0 count) ++ (y ∷ [])) value
    ∙ sym (map-range_with_len_more f 0 count count (omega arith))
