-- How many nodes sums, dot products and matrix products make, and how high these are.
use Rattle.std.proofs.Common.{◌≡◌, ℕ, zero, suc, ◌+◌, ◌-◌, ◌*◌, ◌/◌, ◌%◌, ◌^◌, ◌<◌, ◌≤◌, List, [], ◌∷◌, ◌++◌, length, map, take, drop, get_or, refl, sym, ap, ◌∙◌, subst, arith, All, length-append, append_assoc}
use Rattle.std.specs.List.{range_with_len}
use Rattle.std.proofs.lemmas.List.{append-nil, length-take, length-drop}
use Rattle.std.proofs.lemmas.List.Elements.{All-head, All-tail, All-weaker, All-take, All-drop, All-nil, All-push, All-map, All-from_get_or}
use Rattle.std.proofs.lemmas.List.FromFn.{length-range_with_len, length-map-range_with_len, get_or-map-range_with_len, get_or-range_with_len}
use Rattle.circuit_core.specs.declared.gate.Kind.{Kind}
use Rattle.circuit_core.specs.declared.gate.Kind.TheVariants.{Add, Mul}
use Rattle.node_core.specs.declared.node.Node.{Node}
use Rattle.node_core.specs.declared.node.Node.TheVariants.{Input, Operation}
use Rattle.node_core.specs.Order.{made_in_order}
use Rattle.node_core.proofs.api.InOrder.{get_or-made_append, get_or-made_push, get_or-made_in_order}
use Rattle.layer_compile.specs.Levels.{level_of}
use Rattle.arr_lower.specs.Operations.{Made, MadeOne, made_after, made_each, operation_node, first_half, sum_within, dot_node, product_pairs, matmul_nodes}

-- a node that was made, whose level is at most h
pub record IsLow (nodes : List Node) (h item : ℕ) : Type 0 where
  pub made : item < length nodes
  pub low : get_or (made_in_order level_of nodes) item 0 ≤ h

-- so many more nodes, or fewer, come after those before
pub record Adds (before after : List Node) (most : ℕ) : Type 0 where
  pub more : List Node
  pub is : after ≡ before ++ more
  pub few : length more ≤ most

-- a node of level h or below, after so many more
pub record MakesLow (before : List Node) (one : MadeOne) (h most : ℕ) : Type 0 where
  pub adds : Adds before one.nodes most
  pub low : IsLow one.nodes h one.item

-- the same of several
pub record MakesAllLow (before : List Node) (made : Made) (h most count : ℕ) : Type 0 where
  pub adds : Adds before made.nodes most
  pub low : All (IsLow made.nodes h) made.items
  pub count_is : length made.items ≡ count

pub adds_none : (nodes : List Node) (most : ℕ) → Adds nodes nodes most
adds_none nodes most = record { more = []; is = sym (append-nil nodes); few = omega arith }

pub adds_then : (first middle last : List Node) (m n most : ℕ) → m + n ≤ most → Adds first middle m → Adds middle last n → Adds first last most
adds_then first middle last m n most sum a b = record {
  more = a.more ++ b.more;
  is = b.is ∙ ap (λ (nodes : List Node). nodes ++ b.more) a.is ∙ append_assoc first a.more b.more;
  few = omega (arith, sum, a.few, b.few, length-append a.more b.more);
}

pub length-adds : (before after : List Node) (most : ℕ) → Adds before after most → length after ≤ length before + most
length-adds before after most a = omega (arith, ap length a.is, length-append before a.more, a.few)

-- what is low stays so
pub low_kept : (before after : List Node) (most h item : ℕ) → Adds before after most → IsLow before h item → IsLow after h item
low_kept before after most h item a l = record {
  made = omega (arith, l.made, ap length a.is, length-append before a.more);
  low =
      subst (λ (level : ℕ). level ≤ h)
      (sym (ap (λ (nodes : List Node). get_or (made_in_order level_of nodes) item 0) a.is ∙ get_or-made_append level_of before a.more item 0 l.made))
      l.low;
}

pub lower : (nodes : List Node) (g h item : ℕ) → g ≤ h → IsLow nodes g item → IsLow nodes h item
lower nodes g h item le l = record { made = l.made; low = omega (arith, le, l.low) }

-- a sum or product of two low nodes is one higher
pub operation-low : (kind : Kind) (pair : ℕ × ℕ) (nodes : List Node) (h : ℕ) → IsLow nodes h pair.0 → IsLow nodes h pair.1 → MakesLow nodes (operation_node kind pair nodes) (h + 1) 1
operation-low kind pair nodes h left right =
    let gate : Node = Operation (record { kind = kind; left = pair.0; right = pair.1 }) in
    let own : get_or (made_in_order level_of (nodes ++ gate ∷ [])) (length nodes) 0 ≡ level_of (made_in_order level_of nodes) gate = get_or-made_push level_of nodes gate 0 in
    record {
      adds = record { more = gate ∷ []; is = refl; few = omega arith };
      low = record {
        made = omega (arith, length-append nodes (gate ∷ []));
        low = omega (arith, own, left.low, right.low);
      };
    }

-- ---- one node for each of a list

module _ {A : Type 0} (make : A → List Node → MadeOne) (IsReady : List Node → A → Type 0) (h most : ℕ)
    (kept : (before after : List Node) (n : ℕ) → Adds before after n → (a : A) → IsReady before a → IsReady after a)
    (makes : (a : A) (nodes : List Node) → IsReady nodes a → MakesLow nodes (make a nodes) h most) where
  after-low : (elements : List A) (made : Made) → All (IsReady made.nodes) elements → All (IsLow made.nodes h) made.items →
      MakesAllLow made.nodes (made_after make elements made) h (most * length elements) (length made.items + length elements)
  after-low [] made ready low = record { adds = adds_none made.nodes (most * 0); low = low; count_is = omega arith }
  after-low (a ∷ elements) made ready low =
      let one = make a made.nodes in
      let has : MakesLow made.nodes one h most = makes a made.nodes (All-head (IsReady made.nodes) a elements ready) in
      let next : Made = record { items = made.items ++ one.item ∷ []; nodes = one.nodes } in
      let rest : All (IsReady one.nodes) elements =
      All-weaker (IsReady made.nodes) (IsReady one.nodes) (kept made.nodes one.nodes most has.adds) elements (All-tail (IsReady made.nodes) a elements ready) in
      let before : All (IsLow one.nodes h) made.items =
      All-weaker (IsLow made.nodes h) (IsLow one.nodes h) (λ item. low_kept made.nodes one.nodes most h item has.adds) made.items low in
      let tail = after-low elements next rest (All-push (IsLow one.nodes h) made.items one.item before has.low) in
      record {
        adds = adds_then made.nodes one.nodes (made_after make elements next).nodes most (most * length elements) (most * suc (length elements)) (omega arith) has.adds tail.adds;
        low = tail.low;
        count_is = omega (arith, tail.count_is, length-append made.items (one.item ∷ []));
      }

  pub each-low : (elements : List A) (nodes : List Node) → All (IsReady nodes) elements → MakesAllLow nodes (made_each make elements nodes) h (most * length elements) (length elements)
  each-low elements nodes ready =
      let made = after-low elements (record { items = []; nodes = nodes }) ready (All-nil (IsLow nodes h)) in
      record { adds = made.adds; low = made.low; count_is = omega (arith, made.count_is) }

-- ---- sums by halves

half : (n d : ℕ) → 2 ≤ n → n ≤ 2 ^ suc d → (1 ≤ first_half n) × (first_half n < n) × (first_half n ≤ 2 ^ d) × (n - first_half n ≤ 2 ^ d)
half n d two small = (omega arith, omega arith, omega arith, omega arith)

-- the sum of at most 2^d nodes is at most d above them, and takes fewer new nodes than these are
pub sum-low : (depth d h : ℕ) (items : List ℕ) (nodes : List Node) → 1 ≤ length items → length items ≤ depth → length items ≤ 2 ^ d → All (IsLow nodes h) items →
    MakesLow nodes (sum_within depth items nodes) (h + d) (length items - 1)
sum-low depth d h [] nodes some deep small low = absurd (omega (arith, some))
sum-low depth d h (item ∷ []) nodes some deep small low = record {
  adds = adds_none nodes 0;
  low = lower nodes h (h + d) item (omega arith) (All-head (IsLow nodes h) item [] low);
}
sum-low zero d h (item ∷ next ∷ items) nodes some deep small low = absurd (omega (arith, deep))
sum-low (suc depth) zero h (item ∷ next ∷ items) nodes some deep small low = absurd (omega (arith, small))
sum-low (suc depth) (suc d) h (item ∷ next ∷ items) nodes some deep small low =
    let all = item ∷ next ∷ items in
    let at = first_half (length all) in
    let sizes = half (length all) d (omega arith) small in
    let front = take at all in
    let rest = drop at all in
    let long : length front ≡ at = length-take at all ∙ omega (arith, sizes.1) in
    let short : length rest ≡ length all - at = length-drop at all in
    let left = sum_within depth front nodes in
    let first = sum-low depth d h front nodes (omega (arith, long, sizes.0)) (omega (arith, long, sizes.1, deep)) (omega (arith, long, sizes.2)) (All-take (IsLow nodes h) at all low) in
    let moved : All (IsLow left.nodes h) rest =
    All-weaker (IsLow nodes h) (IsLow left.nodes h) (λ item. low_kept nodes left.nodes (length front - 1) h item first.adds) rest (All-drop (IsLow nodes h) at all low) in
    let right = sum_within depth rest left.nodes in
    let second = sum-low depth d h rest left.nodes (omega (arith, short, sizes.1)) (omega (arith, short, sizes.0, deep)) (omega (arith, short, sizes.3)) moved in
    let both = operation-low Add (left.item, right.item) right.nodes (h + d) (low_kept left.nodes right.nodes (length rest - 1) (h + d) left.item second.adds first.low) second.low in
    let so_far = adds_then nodes left.nodes right.nodes (length front - 1) (length rest - 1) (length all - 2) (omega (arith, long, short, sizes.0, sizes.1)) first.adds second.adds in
    record {
      adds = adds_then nodes right.nodes (sum_within (suc depth) all nodes).nodes (length all - 2) 1 (length all - 1) (omega arith) so_far both.adds;
      low = lower (sum_within (suc depth) all nodes).nodes (h + d + 1) (h + suc d) (sum_within (suc depth) all nodes).item (omega arith) both.low;
    }

-- ---- products of matrices

pub record IsLowPair (nodes : List Node) (h : ℕ) (pair : ℕ × ℕ) : Type 0 where
  pub left : IsLow nodes h pair.0
  pub right : IsLow nodes h pair.1

pair_kept : (h : ℕ) (before after : List Node) (n : ℕ) → Adds before after n → (pair : ℕ × ℕ) → IsLowPair before h pair → IsLowPair after h pair
pair_kept h before after n adds pair l = record {
  left = low_kept before after n h pair.0 adds l.left;
  right = low_kept before after n h pair.1 adds l.right;
}

pub dot-low : (d h : ℕ) (pairs : List (ℕ × ℕ)) (nodes : List Node) → 1 ≤ length pairs → length pairs ≤ 2 ^ d → All (IsLowPair nodes h) pairs →
    MakesLow nodes (dot_node pairs nodes) (h + 1 + d) (2 * length pairs)
dot-low d h pairs nodes some small ready =
    let products = made_each (operation_node Mul) pairs nodes in
    let made = each-low (operation_node Mul) (λ nodes pair. IsLowPair nodes h pair) (h + 1) 1 (pair_kept h) (λ pair nodes is. operation-low Mul pair nodes h is.left is.right) pairs nodes ready in
    let total = sum-low (length products.items) d (h + 1) products.items products.nodes (omega (arith, made.count_is, some)) (omega arith) (omega (arith, made.count_is, small)) made.low in
    record {
      adds = adds_then nodes products.nodes (dot_node pairs nodes).nodes (1 * length pairs) (length products.items - 1) (2 * length pairs) (omega (arith, made.count_is)) made.adds total.adds;
      low = total.low;
    }

-- an element of a list of low nodes, or node 0
low_read : (nodes : List Node) (h : ℕ) (xs : List ℕ) (k : ℕ) → All (IsLow nodes h) xs → IsLow nodes h 0 → IsLow nodes h (get_or xs k 0)
low_read nodes h [] k low zeroth = zeroth
low_read nodes h (x ∷ xs) zero low zeroth = All-head (IsLow nodes h) x xs low
low_read nodes h (x ∷ xs) (suc k) low zeroth = low_read nodes h xs k (All-tail (IsLow nodes h) x xs low) zeroth

pub pairs-low : (h m q : ℕ) (left right : List ℕ) (nodes : List Node) (k : ℕ) → All (IsLow nodes h) left → All (IsLow nodes h) right → IsLow nodes h 0 →
    All (IsLowPair nodes h) (product_pairs m q left right k)
pairs-low h m q left right nodes k l r zeroth =
    let pair : ℕ → ℕ × ℕ = λ l. (get_or left (k / q * m + l) 0, get_or right (l * q + k % q) 0) in
    All-map (IsLowPair nodes h) pair (range_with_len 0 m)
    (All-from_get_or (λ l. IsLowPair nodes h (pair l)) (range_with_len 0 m) 0 (λ i below.
    record {
      left = low_read nodes h left (k / q * m + get_or (range_with_len 0 m) i 0) l zeroth;
      right = low_read nodes h right (get_or (range_with_len 0 m) i 0 * q + k % q) r zeroth;
    }))

-- the lists of a product, low nodes, and node 0
record AreLow (h : ℕ) (left right : List ℕ) (nodes : List Node) (k : ℕ) : Type 0 where
  lefts : All (IsLow nodes h) left
  rights : All (IsLow nodes h) right
  zeroth : IsLow nodes h 0

are_kept : (h : ℕ) (left right : List ℕ) (before after : List Node) (n : ℕ) → Adds before after n → (k : ℕ) → AreLow h left right before k → AreLow h left right after k
are_kept h left right before after n adds k are = record {
  lefts = All-weaker (IsLow before h) (IsLow after h) (λ item. low_kept before after n h item adds) left are.lefts;
  rights = All-weaker (IsLow before h) (IsLow after h) (λ item. low_kept before after n h item adds) right are.rights;
  zeroth = low_kept before after n h 0 adds are.zeroth;
}

pub matmul-low : (d h n m q : ℕ) (left right : List ℕ) (nodes : List Node) → 1 ≤ m → m ≤ 2 ^ d → All (IsLow nodes h) left → All (IsLow nodes h) right → IsLow nodes h 0 →
    MakesAllLow nodes (matmul_nodes n m q left right nodes) (h + 1 + d) (2 * m * (n * q)) (n * q)
matmul-low d h n m q left right nodes some small l r zeroth =
    let many = length-range_with_len 0 (n * q) in
    let wide : (k : ℕ) → length (product_pairs m q left right k) ≡ m = λ k. length-map-range_with_len (λ l. (get_or left (k / q * m + l) 0, get_or right (l * q + k % q) 0)) 0 m in
    let made =
    each-low (λ k. dot_node (product_pairs m q left right k)) (λ nodes k. AreLow h left right nodes k) (h + 1 + d) (2 * m) (are_kept h left right)
    (λ k nodes are. subst (λ (size : ℕ). MakesLow nodes (dot_node (product_pairs m q left right k) nodes) (h + 1 + d) (2 * size)) (wide k)
    (dot-low d h (product_pairs m q left right k) nodes (omega (arith, wide k, some)) (omega (arith, wide k, small)) (pairs-low h m q left right nodes k are.lefts are.rights are.zeroth)))
    (range_with_len 0 (n * q)) nodes
    (All-from_get_or (AreLow h left right nodes) (range_with_len 0 (n * q)) 0 (λ i below. record { lefts = l; rights = r; zeroth = zeroth })) in
    subst (λ (size : ℕ). MakesAllLow nodes (matmul_nodes n m q left right nodes) (h + 1 + d) (2 * m * size) size) many made

-- ---- leaves

-- input leaves have level 0
pub leaf-low : (count item : ℕ) → item < count → IsLow (map Input (range_with_len 0 count)) 0 item
leaf-low count item below =
    let nodes = map Input (range_with_len 0 count) in
    let long : length nodes ≡ count = length-map-range_with_len Input 0 count in
    let own : get_or nodes item (Input 0) ≡ Input item = get_or-map-range_with_len Input 0 count item item (Input 0) below (omega arith) in
    let made = get_or-made_in_order level_of nodes item 0 (Input 0) (omega (arith, long, below)) in
    record {
      made = omega (arith, long, below);
      low = subst (λ (level : ℕ). level ≤ 0) (sym (made ∙ ap (level_of (take item (made_in_order level_of nodes))) own)) (omega arith);
    }

pub leaves-low : (count first many : ℕ) → first + many ≤ count → All (IsLow (map Input (range_with_len 0 count)) 0) (range_with_len first many)
leaves-low count first many within =
    let long = length-range_with_len first many in
    All-from_get_or (IsLow (map Input (range_with_len 0 count)) 0) (range_with_len first many) 0 (λ i below.
    let here = get_or-range_with_len first many i 0 (omega (arith, long, below)) in
    leaf-low count (get_or (range_with_len first many) i 0) (omega (arith, here, long, below, within)))
