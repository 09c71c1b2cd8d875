-- The nodes of sums by halves, of dot products and of products of matrices have their values; a transpose only moves them.
use Rattle.std.proofs.Common.{◌≡◌, ℕ, zero, suc, ◌+◌, ◌-◌, ◌*◌, ◌/◌, ◌%◌, ◌<◌, ◌≤◌, List, [], ◌∷◌, ◌++◌, take, drop, length, get_or, refl, sym, ap, ◌∙◌, subst, arith}
use Rattle.std.specs.List.{range_with_len}
use Rattle.std.proofs.Math.Nat.{mul_comm, mul-zero, div-lt_iff_lt-mul}
use Rattle.std.proofs.lemmas.Nat.{mul-add-lt}
use Rattle.std.proofs.lemmas.List.{length-take, length-drop, take-append-drop}
use Rattle.field_ext.specs.Field.{F, of, mul_f}
use Rattle.circuit_core.specs.declared.gate.Kind.TheVariants.{Add, Mul}
use Rattle.node_core.specs.declared.node.Node.{Node}
use Rattle.arr_eval.specs.Numbers.{element, sum_of, at_places, transposed_at, transpose_of, product_place, matmul_of}
use Rattle.arr_eval.proofs.api.NumberLaws.{zero-add_f, sum_of-append}
use Rattle.arr_lower.specs.Operations.{made_each, operation_node, first_half, sum_within, sum_node, dot_node, product_pairs, matmul_nodes, transposed_items}
use Rattle.arr_lower.proofs.Grown.{Stands, HasOne, grows-none, stands-kept, constant-has, operation-has, one-then}
use Rattle.arr_lower.proofs.MadeEach.{AllStand, HasEach, IsKept, Makes, Ready, ready-kept, ready-makes, each-has, all-kept}
use Rattle.arr_lower.proofs.Pairwise.{Each, each-take, each-drop, each-get, each-more, each-range, each-counted}

-- both halves are shorter
halves : (n depth : ℕ) → 2 ≤ n → n ≤ suc depth → (first_half n ≤ depth) × (n - first_half n ≤ depth)
halves n depth many within = (omega arith, omega arith)

-- the row and the column of a place
row_column : (n q k : ℕ) → k < n * q → (k / q < n) × (k % q < q)
row_column n zero k inside = absurd (omega (arith, mul-zero n))
row_column n (suc q) k inside = ((div-lt_iff_lt-mul {k = suc q} {x = k} {y = n} (omega arith)).1 inside, omega arith)

-- a row and a column within are a place within
place : (n q i j : ℕ) → i < n → j < q → i * q + j < n * q
place n q i j row_in column_in = omega (arith, mul-add-lt i q j n row_in column_in, mul_comm n q)

module _ (inputs : List F) where
  sum_within-has : (depth : ℕ) (items : List ℕ) (nodes : List Node) (xs : List F) → length items ≤ depth → AllStand inputs nodes items xs → HasOne inputs nodes (sum_within depth items nodes) (sum_of xs)
  sum_within-has zero [] nodes [] small s = constant-has inputs 0 nodes
  sum_within-has (suc depth) [] nodes [] small s = constant-has inputs 0 nodes
  sum_within-has depth [] nodes (x ∷ xs) small s = absurd s
  sum_within-has depth (item ∷ items) nodes [] small s = absurd s
  sum_within-has zero (item ∷ items) nodes (x ∷ xs) small s = absurd (omega arith)
  sum_within-has (suc depth) (item ∷ []) nodes (x ∷ []) small s = record { grows = grows-none inputs nodes; stands = subst (Stands inputs nodes item) (sym (zero-add_f x)) s.0 }
  sum_within-has (suc depth) (item ∷ []) nodes (x ∷ y ∷ xs) small s = absurd s.1
  sum_within-has (suc depth) (item ∷ next ∷ items) nodes (x ∷ xs) small s =
      let all : List ℕ = item ∷ next ∷ items in
      let numbers : List F = x ∷ xs in
      let half = first_half (length all) in
      let short = halves (length all) depth (omega arith) small in
      let front_short : length (take half all) ≤ depth = omega (arith, length-take half all, short) in
      let rest_short : length (drop half all) ≤ depth = omega (arith, length-drop half all, short) in
      let left = sum_within depth (take half all) nodes in
      let first : HasOne inputs nodes left (sum_of (take half numbers)) =
      sum_within-has depth (take half all) nodes (take half numbers) front_short (each-take (Stands inputs nodes) half all numbers s) in
      let right = sum_within depth (drop half all) left.nodes in
      let rest : AllStand inputs left.nodes (drop half all) (drop half numbers) =
      each-drop (Stands inputs left.nodes) half all numbers (all-kept inputs nodes left.nodes first.grows all numbers s) in
      let second : HasOne inputs left.nodes right (sum_of (drop half numbers)) =
      sum_within-has depth (drop half all) left.nodes (drop half numbers) rest_short rest in
      let kept = stands-kept inputs left.nodes right.nodes second.grows left.item (sum_of (take half numbers)) first.stands in
      let total = operation-has inputs Add (left.item, right.item) right.nodes (sum_of (take half numbers)) (sum_of (drop half numbers)) kept second.stands in
      let parts : sum_of (take half numbers ++ drop half numbers) ≡ sum_of numbers = ap sum_of (take-append-drop half numbers) in
      let one = operation_node Add (left.item, right.item) right.nodes in
      one-then inputs nodes left.nodes one (sum_of numbers) first.grows
      (one-then inputs left.nodes right.nodes one (sum_of numbers) second.grows
      (subst (HasOne inputs right.nodes one) (sym (sum_of-append (take half numbers) (drop half numbers)) ∙ parts) total))

  pub sum-has : (items : List ℕ) (nodes : List Node) (xs : List F) → AllStand inputs nodes items xs → HasOne inputs nodes (sum_node items nodes) (sum_of xs)
  sum-has items nodes xs s = sum_within-has (length items) items nodes xs (omega arith) s

  pub dot-has : (pairs : List (ℕ × ℕ)) (nodes : List Node) (xs : List F) → Each (Ready inputs Mul nodes) pairs xs → HasOne inputs nodes (dot_node pairs nodes) (sum_of xs)
  dot-has pairs nodes xs ready =
      let products = made_each (operation_node Mul) pairs nodes in
      let made : HasEach inputs nodes products xs = each-has inputs (operation_node Mul) (Ready inputs Mul) (ready-kept inputs Mul) (ready-makes inputs Mul) pairs nodes xs ready in
      one-then inputs nodes products.nodes (sum_node products.items products.nodes) (sum_of xs) made.grows (sum-has products.items products.nodes xs made.stand)

  -- the pairs whose products' sum is an element
  record Dots (m q : ℕ) (left right : List ℕ) (nodes : List Node) (k : ℕ) (x : F) : Type 0 where
    products : List F
    ready : Each (Ready inputs Mul nodes) (product_pairs m q left right k) products
    is : sum_of products ≡ x

  dots-kept : (m q : ℕ) (left right : List ℕ) → IsKept inputs (Dots m q left right)
  dots-kept m q left right before after g k x d = record {
    products = d.products;
    ready = each-more (Ready inputs Mul before) (Ready inputs Mul after) (ready-kept inputs Mul before after g) (product_pairs m q left right k) d.products d.ready;
    is = d.is;
  }

  dots-makes : (m q : ℕ) (left right : List ℕ) → Makes inputs (λ k. dot_node (product_pairs m q left right k)) (Dots m q left right)
  dots-makes m q left right k nodes x d =
      subst (HasOne inputs nodes (dot_node (product_pairs m q left right k) nodes)) d.is (dot-has (product_pairs m q left right k) nodes d.products d.ready)

  dots-there : (n m q : ℕ) (left right : List ℕ) (nodes : List Node) (xs ys : List F) → length left ≡ n * m → length right ≡ m * q → AllStand inputs nodes left xs → AllStand inputs nodes right ys →
      (k : ℕ) → k < n * q → Dots m q left right nodes k (product_place m q xs ys k)
  dots-there n m q left right nodes xs ys left_long right_long l r k inside =
      let at = row_column n q k inside in
      let f : ℕ → ℕ × ℕ = λ l. (get_or left (k / q * m + l) 0, get_or right (l * q + k % q) 0) in
      let g : ℕ → F = λ l. mul_f (element xs (k / q * m + l)) (element ys (l * q + k % q)) in
      let ready : (j : ℕ) → 0 ≤ j → j < 0 + m → Ready inputs Mul nodes (f j) (g j) = λ j low high.
      let within : j < m = omega arith in
      let in_left : k / q * m + j < length left = omega (arith, place n m (k / q) j at.0 within, left_long) in
      let in_right : j * q + k % q < length right = omega (arith, place m q j (k % q) within at.1, right_long) in
      record {
        left = element xs (k / q * m + j);
        right = element ys (j * q + k % q);
        first = each-get (Stands inputs nodes) left xs (k / q * m + j) 0 (of 0) l in_left;
        second = each-get (Stands inputs nodes) right ys (j * q + k % q) 0 (of 0) r in_right;
        is = refl;
      } in
      record { products = at_places m g; ready = each-range (Ready inputs Mul nodes) f g 0 m ready; is = refl }

  pub matmul-has : (n m q : ℕ) (left right : List ℕ) (nodes : List Node) (xs ys : List F) → length left ≡ n * m → length right ≡ m * q → AllStand inputs nodes left xs → AllStand inputs nodes right ys →
      HasEach inputs nodes (matmul_nodes n m q left right nodes) (matmul_of n m q xs ys)
  matmul-has n m q left right nodes xs ys left_long right_long l r =
      each-has inputs (λ k. dot_node (product_pairs m q left right k)) (Dots m q left right) (dots-kept m q left right) (dots-makes m q left right) (range_with_len 0 (n * q)) nodes (matmul_of n m q xs ys)
      (each-counted (Dots m q left right nodes) (product_place m q xs ys) 0 (n * q)
      (λ k low high. dots-there n m q left right nodes xs ys left_long right_long l r k (omega arith)))

  pub transposed-stand : (n m : ℕ) (items : List ℕ) (nodes : List Node) (xs : List F) → length items ≡ n * m → AllStand inputs nodes items xs → AllStand inputs nodes (transposed_items n m items) (transpose_of n m xs)
  transposed-stand n m items nodes xs long s =
      each-range (Stands inputs nodes) (λ k. get_or items (k % n * m + k / n) 0) (transposed_at n m xs) 0 (m * n)
      (λ k low high.
      let at = row_column m n k (omega arith) in
      let inside : k % n * m + k / n < length items = omega (arith, place n m (k % n) (k / n) at.1 at.0, long) in
      each-get (Stands inputs nodes) items xs (k % n * m + k / n) 0 (of 0) s inside)
