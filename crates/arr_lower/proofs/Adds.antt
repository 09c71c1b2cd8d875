-- How many nodes operations make, none of which is a constant.
use Rattle.std.proofs.Common.{◌≡◌, ℕ, zero, suc, ◌+◌, ◌-◌, ◌*◌, ◌≤◌, Bool, true, false, List, [], ◌∷◌, ◌++◌, map, take, drop, length, not, refl, sym, ap, ◌∙◌, subst, arith, append_assoc, length-append}
use Rattle.std.specs.Prelude.{nat_lt, ◌||◌, min}
use Rattle.std.specs.List.{zip, range_with_len, position_or_len}
use Rattle.std.proofs.lemmas.Bool.Decides.{nat_tests}
use Rattle.std.proofs.lemmas.List.{append-nil, length_push, length-take-le, length-drop}
use Rattle.std.proofs.lemmas.List.Folds.{position_or_len_push}
use Rattle.std.proofs.lemmas.List.FromFn.{length-range_with_len, length-map-range_with_len}
use Rattle.std.proofs.lemmas.List.Sums.{prefix_len-le-length}
use Rattle.std.proofs.lemmas.Slice.Zip.{length-zip}
use Rattle.field_ext.specs.Field.{F}
use Rattle.circuit_core.specs.declared.gate.Kind.{Kind}
use Rattle.circuit_core.specs.declared.gate.Kind.TheVariants.{Add, Mul}
use Rattle.node_core.specs.declared.node.Node.{Node}
use Rattle.node_core.specs.declared.node.Node.TheVariants.{Input, Operation}
use Rattle.arr_lower.specs.Operations.{Made, MadeOne, made_after, made_each, is_constant, leaf_nodes, operation_node, difference_node, first_half, sum_within, sum_node, dot_node, product_pairs, matmul_nodes}

-- whether a constant has a node
abbrev pub has : F → List Node → Bool
has x nodes = nat_lt (position_or_len (is_constant x) nodes) (length nodes)

pub has-push : (x : F) (nodes : List Node) (node : Node) → has x (nodes ++ node ∷ []) ≡ (is_constant x node || has x nodes)
has-push x nodes node = by (is_constant x node) refl
  where
    inside : position_or_len (is_constant x) nodes ≤ length nodes
    inside = prefix_len-le-length (λ n. not (is_constant x n)) nodes

    by : (b : Bool) → is_constant x node ≡ b → has x (nodes ++ node ∷ []) ≡ (b || has x nodes)
    by true is =
        let more = position_or_len_push (is_constant x) nodes node in
        let long = length_push nodes node in
        let within = inside in
        grind (arith, nat_tests)
    by false is =
        let more = position_or_len_push (is_constant x) nodes node in
        let long = length_push nodes node in
        let within = inside in
        grind (arith, nat_tests)

-- so many nodes more, and the same constants
pub record Adds (more : ℕ) (before after : List Node) : Type 0 where
  pub long : length after ≡ length before + more
  pub same : (x : F) → has x after ≡ has x before

pub adds-none : (nodes : List Node) → Adds 0 nodes nodes
adds-none nodes = record { long = omega arith; same = λ x. refl }

adds-then : (first next : ℕ) (a b c : List Node) → Adds first a b → Adds next b c → Adds (first + next) a c
adds-then first next a b c f g = record { long = omega (arith, f.long, g.long); same = λ x. g.same x ∙ f.same x }

pub adds-as : (more count : ℕ) (before after : List Node) → more ≡ count → Adds more before after → Adds count before after
adds-as more count before after is a = record { long = omega (arith, is, a.long); same = a.same }

push-adds : (nodes : List Node) (node : Node) → ((x : F) → is_constant x node ≡ false) → Adds 1 nodes (nodes ++ node ∷ [])
push-adds nodes node other = record { long = length_push nodes node; same = λ x. has-push x nodes node ∙ ap (λ b. b || has x nodes) (other x) }

pub operation-adds : (kind : Kind) (pair : ℕ × ℕ) (nodes : List Node) → Adds 1 nodes (operation_node kind pair nodes).nodes
operation-adds kind pair nodes = push-adds nodes (Operation (record { kind = kind; left = pair.0; right = pair.1 })) (λ x. refl)

pub difference-adds : (factor : ℕ) (pair : ℕ × ℕ) (nodes : List Node) → Adds 2 nodes (difference_node factor pair nodes).nodes
difference-adds factor pair nodes =
    let product = operation_node Mul (pair.1, factor) nodes in
    adds-then 1 1 nodes product.nodes (difference_node factor pair nodes).nodes (operation-adds Mul (pair.1, factor) nodes) (operation-adds Add (pair.0, length nodes) product.nodes)

leaves_from-adds : (count first : ℕ) (nodes : List Node) → Adds count nodes (nodes ++ map Input (range_with_len first count))
leaves_from-adds zero first nodes = subst (Adds 0 nodes) (sym (append-nil nodes)) (adds-none nodes)
leaves_from-adds (suc count) first nodes =
    let next : List Node = nodes ++ Input first ∷ [] in
    let all : next ++ map Input (range_with_len (first + 1) count) ≡ nodes ++ map Input (range_with_len first (suc count)) = append_assoc nodes (Input first ∷ []) (map Input (range_with_len (first + 1) count)) in
    subst (Adds (suc count) nodes) all
    (adds-as (1 + count) (suc count) nodes (next ++ map Input (range_with_len (first + 1) count)) (omega arith)
    (adds-then 1 count nodes next (next ++ map Input (range_with_len (first + 1) count)) (push-adds nodes (Input first) (λ x. refl)) (leaves_from-adds count (first + 1) next)))

pub leaves-add : (count : ℕ) (nodes : List Node) → Adds count nodes (leaf_nodes count nodes).nodes
leaves-add count nodes = leaves_from-adds count (length nodes) nodes

module _ {A : Type 0} (make : A → List Node → MadeOne) where
  after-size : (xs : List A) (made : Made) → length (made_after make xs made).items ≡ length made.items + length xs
  after-size [] made = omega arith
  after-size (x ∷ xs) made =
      let next : Made = record { items = made.items ++ (make x made.nodes).item ∷ []; nodes = (make x made.nodes).nodes } in
      let rest : length (made_after make xs next).items ≡ length next.items + length xs = after-size xs next in
      let more : length next.items ≡ length made.items + 1 = length-append made.items ((make x made.nodes).item ∷ []) in
      rest ∙ omega (arith, more)

  pub each-size : (xs : List A) (nodes : List Node) → length (made_each make xs nodes).items ≡ length xs
  each-size xs nodes =
      let all : length (made_each make xs nodes).items ≡ 0 + length xs = after-size xs (record { items = []; nodes = nodes }) in
      omega (arith, all)

  module _ (more : ℕ) (one : (x : A) (nodes : List Node) → Adds more nodes (make x nodes).nodes) where
    after-adds : (xs : List A) (made : Made) → Adds (length xs * more) made.nodes (made_after make xs made).nodes
    after-adds [] made = adds-as 0 (0 * more) made.nodes made.nodes (omega arith) (adds-none made.nodes)
    after-adds (x ∷ xs) made =
        let next : Made = record { items = made.items ++ (make x made.nodes).item ∷ []; nodes = (make x made.nodes).nodes } in
        adds-as (more + length xs * more) (suc (length xs) * more) made.nodes (made_after make xs next).nodes (omega arith)
        (adds-then more (length xs * more) made.nodes next.nodes (made_after make xs next).nodes (one x made.nodes) (after-adds xs next))

    pub each-adds : (xs : List A) (nodes : List Node) → Adds (length xs * more) nodes (made_each make xs nodes).nodes
    each-adds xs nodes = after-adds xs (record { items = []; nodes = nodes })

sum_within-adds : (depth : ℕ) (items : List ℕ) (nodes : List Node) → 1 ≤ length items → length items ≤ depth → Adds (length items - 1) nodes (sum_within depth items nodes).nodes
sum_within-adds depth [] nodes some small = absurd (omega (arith, some))
sum_within-adds zero (item ∷ items) nodes some small = absurd (omega (arith, small))
sum_within-adds (suc depth) (item ∷ []) nodes some small = adds-as 0 (length (item ∷ []) - 1) nodes nodes (omega arith) (adds-none nodes)
sum_within-adds (suc depth) (item ∷ next ∷ items) nodes some small =
    let all : List ℕ = item ∷ next ∷ items in
    let half : ℕ = first_half (length all) in
    let within : half ≤ length all = omega arith in
    let front : length (take half all) ≡ half = length-take-le half all within in
    let rest : length (drop half all) ≡ length all - half = length-drop half all in
    let left = sum_within depth (take half all) nodes in
    let right = sum_within depth (drop half all) left.nodes in
    let first : Adds (length (take half all) - 1) nodes left.nodes = sum_within-adds depth (take half all) nodes (omega (arith, front)) (omega (arith, front, small)) in
    let second : Adds (length (drop half all) - 1) left.nodes right.nodes = sum_within-adds depth (drop half all) left.nodes (omega (arith, rest)) (omega (arith, rest, small)) in
    let total = operation-adds Add (left.item, right.item) right.nodes in
    let both = adds-then (length (take half all) - 1) (length (drop half all) - 1) nodes left.nodes right.nodes first second in
    adds-as (length (take half all) - 1 + (length (drop half all) - 1) + 1) (length all - 1) nodes (operation_node Add (left.item, right.item) right.nodes).nodes (omega (arith, front, rest, within))
    (adds-then (length (take half all) - 1 + (length (drop half all) - 1)) 1 nodes right.nodes (operation_node Add (left.item, right.item) right.nodes).nodes both total)

pub sum-adds : (items : List ℕ) (nodes : List Node) → 1 ≤ length items → Adds (length items - 1) nodes (sum_node items nodes).nodes
sum-adds items nodes some = sum_within-adds (length items) items nodes some (omega arith)

pub dot-adds : (pairs : List (ℕ × ℕ)) (nodes : List Node) → 1 ≤ length pairs → Adds (length pairs + length pairs - 1) nodes (dot_node pairs nodes).nodes
dot-adds pairs nodes some =
    let products = made_each (operation_node Mul) pairs nodes in
    let many : length products.items ≡ length pairs = each-size (operation_node Mul) pairs nodes in
    let first : Adds (length pairs * 1) nodes products.nodes = each-adds (operation_node Mul) 1 (operation-adds Mul) pairs nodes in
    let next : Adds (length products.items - 1) products.nodes (dot_node pairs nodes).nodes = sum-adds products.items products.nodes (omega (arith, many, some)) in
    adds-as (length pairs * 1 + (length products.items - 1)) (length pairs + length pairs - 1) nodes (dot_node pairs nodes).nodes (omega (arith, many, some))
    (adds-then (length pairs * 1) (length products.items - 1) nodes products.nodes (dot_node pairs nodes).nodes first next)

pub matmul-adds : (n m q : ℕ) (left right : List ℕ) (nodes : List Node) → 1 ≤ m → Adds ((n * q) * (m + m - 1)) nodes (matmul_nodes n m q left right nodes).nodes
matmul-adds n m q left right nodes some =
    let long : (k : ℕ) → length (product_pairs m q left right k) ≡ m = λ k. length-map-range_with_len _ 0 m in
    let one : (k : ℕ) (before : List Node) → Adds (m + m - 1) before (dot_node (product_pairs m q left right k) before).nodes = λ k before.
    let here = long k in
    adds-as (length (product_pairs m q left right k) + length (product_pairs m q left right k) - 1) (m + m - 1) before (dot_node (product_pairs m q left right k) before).nodes (ap (λ j. j + j - 1) here)
    (dot-adds (product_pairs m q left right k) before (omega (arith, here, some))) in
    adds-as (length (range_with_len 0 (n * q)) * (m + m - 1)) ((n * q) * (m + m - 1)) nodes (matmul_nodes n m q left right nodes).nodes (ap (λ j. j * (m + m - 1)) (length-range_with_len 0 (n * q)))
    (each-adds (λ k. dot_node (product_pairs m q left right k)) (m + m - 1) one (range_with_len 0 (n * q)) nodes)

pub zip-size : (left right : List ℕ) (size : ℕ) → length left ≡ size → length right ≡ size → length (zip left right) ≡ size
zip-size left right size l r =
    let zipped : length (zip left right) ≡ min (length left) (length right) = length-zip left right in
    omega (arith, zipped, l, r)
