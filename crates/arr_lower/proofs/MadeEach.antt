-- Nodes made for each of a list have the values that the operation makes of those of its elements.
use Rattle.std.proofs.Common.{◌≡◌, ℕ, ◌*◌, ◌-◌, List, [], ◌∷◌, ◌++◌, map, length, refl, sym, ap, ◌∙◌, subst, arith, append_assoc}
use Rattle.std.specs.List.{zip}
use Rattle.std.proofs.lemmas.List.{append-nil}
use Rattle.field_ext.specs.Field.{F, of, add_f, mul_f, neg_f, sub_f}
use Rattle.field_ext.proofs.api.Elements.{of_same}
use Rattle.field_ext.proofs.api.Prime.{same_rem}
use Rattle.circuit_core.specs.declared.gate.Kind.{Kind}
use Rattle.circuit_core.specs.declared.gate.Kind.TheVariants.{Add, Mul}
use Rattle.circuit_core.specs.Parts.{combined}
use Rattle.node_core.specs.declared.node.Node.{Node}
use Rattle.arr_eval.specs.Numbers.{element_wise}
use Rattle.arr_scope.specs.Limits.{minus_one}
use Rattle.arr_lower.specs.Operations.{Made, MadeOne, made_after, made_each, constant_node, operation_node, difference_node, pairwise_nodes, scaled_nodes, negated_nodes, difference_nodes}
use Rattle.arr_lower.proofs.Grown.{Grows, Stands, HasOne, grows-none, grows-then, stands-kept, constant-has, operation-has, one-then}
use Rattle.arr_lower.proofs.Pairwise.{Each, Both, each-append, each-map, each-more, each-zip}

module _ (inputs : List F) where
  abbrev pub AllStand : List Node → List ℕ → List F → Type 0
  AllStand nodes items xs = Each (Stands inputs nodes) items xs

  -- nodes for a list of values, after those before
  pub record HasEach (before : List Node) (made : Made) (xs : List F) : Type 0 where
    pub grows : Grows inputs before made.nodes
    pub stand : AllStand made.nodes made.items xs

  pub all-kept : (before after : List Node) → Grows inputs before after → (items : List ℕ) (xs : List F) → AllStand before items xs → AllStand after items xs
  all-kept before after g items xs s = each-more (Stands inputs before) (Stands inputs after) (stands-kept inputs before after g) items xs s

  pub each-then : (first middle : List Node) (made : Made) (xs : List F) → Grows inputs first middle → HasEach middle made xs → HasEach first made xs
  each-then first middle made xs g h = record { grows = grows-then inputs first middle made.nodes g h.grows; stand = h.stand }

  -- what stays when nodes are made after them
  abbrev pub IsKept : {A : Type 0} → (List Node → A → F → Type 0) → Type 0
  IsKept {A} R = (before after : List Node) → Grows inputs before after → (a : A) (x : F) → R before a x → R after a x

  -- what makes a node for an element gives it this value
  abbrev pub Makes : {A : Type 0} → (A → List Node → MadeOne) → (List Node → A → F → Type 0) → Type 0
  Makes {A} make R = (a : A) (nodes : List Node) (x : F) → R nodes a x → HasOne inputs nodes (make a nodes) x

  module _ {A : Type 0} (make : A → List Node → MadeOne) (R : List Node → A → F → Type 0) (kept : IsKept R) (makes : Makes make R) where
    after-has : (elements : List A) (made : Made) (xs done : List F) → Each (R made.nodes) elements xs → AllStand made.nodes made.items done → HasEach made.nodes (made_after make elements made) (done ++ xs)
    after-has [] made [] done e s = record { grows = grows-none inputs made.nodes; stand = subst (AllStand made.nodes made.items) (sym (append-nil done)) s }
    after-has [] made (x ∷ xs) done e s = absurd e
    after-has (a ∷ elements) made [] done e s = absurd e
    after-has (a ∷ elements) made (x ∷ xs) done e s =
        let one = make a made.nodes in
        let has : HasOne inputs made.nodes one x = makes a made.nodes x e.0 in
        let next : Made = record { items = made.items ++ one.item ∷ []; nodes = one.nodes } in
        let rest : Each (R one.nodes) elements xs = each-more (R made.nodes) (R one.nodes) (kept made.nodes one.nodes has.grows) elements xs e.1 in
        let stand : AllStand one.nodes (made.items ++ one.item ∷ []) (done ++ x ∷ []) =
        each-append (Stands inputs one.nodes) made.items (one.item ∷ []) done (x ∷ []) (all-kept made.nodes one.nodes has.grows made.items done s) (has.stands, tt) in
        let tail = after-has elements next xs (done ++ x ∷ []) rest stand in
        each-then made.nodes one.nodes (made_after make elements next) (done ++ x ∷ xs) has.grows
        (subst (HasEach one.nodes (made_after make elements next)) (append_assoc done (x ∷ []) xs) tail)

    pub each-has : (elements : List A) (nodes : List Node) (xs : List F) → Each (R nodes) elements xs → HasEach nodes (made_each make elements nodes) xs
    each-has elements nodes xs e = after-has elements (record { items = []; nodes = nodes }) xs [] e tt

  -- a pair of nodes from whose values an operation makes this one
  pub record Ready (kind : Kind) (nodes : List Node) (pair : ℕ × ℕ) (x : F) : Type 0 where
    pub left : F
    pub right : F
    pub first : Stands inputs nodes pair.0 left
    pub second : Stands inputs nodes pair.1 right
    pub is : combined kind left right ≡ x

  pub ready-kept : (kind : Kind) → IsKept (Ready kind)
  ready-kept kind before after g pair x r = record {
    left = r.left;
    right = r.right;
    first = stands-kept inputs before after g pair.0 r.left r.first;
    second = stands-kept inputs before after g pair.1 r.right r.second;
    is = r.is;
  }

  pub ready-makes : (kind : Kind) → Makes (operation_node kind) (Ready kind)
  ready-makes kind pair nodes x r =
      subst (HasOne inputs nodes (operation_node kind pair nodes)) r.is (operation-has inputs kind pair nodes r.left r.right r.first r.second)

  pub ready-pairs : (kind : Kind) (left right : List ℕ) (nodes : List Node) (xs ys : List F) → AllStand nodes left xs → AllStand nodes right ys →
      Each (Ready kind nodes) (zip left right) (element_wise (combined kind) xs ys)
  ready-pairs kind left right nodes xs ys l r =
      each-map (Both (Stands inputs nodes)) (Ready kind nodes) (λ (pair : F × F). combined kind pair.0 pair.1)
      (λ items numbers both. record { left = numbers.0; right = numbers.1; first = both.0; second = both.1; is = refl })
      (zip left right) (zip xs ys) (each-zip (Stands inputs nodes) left right xs ys l r)

  pub pairwise-has : (kind : Kind) (left right : List ℕ) (nodes : List Node) (xs ys : List F) → AllStand nodes left xs → AllStand nodes right ys →
      HasEach nodes (pairwise_nodes kind left right nodes) (element_wise (combined kind) xs ys)
  pairwise-has kind left right nodes xs ys l r =
      each-has (operation_node kind) (Ready kind) (ready-kept kind) (ready-makes kind) (zip left right) nodes (element_wise (combined kind) xs ys)
      (ready-pairs kind left right nodes xs ys l r)

  pub scaled-has : (factor : ℕ) (items : List ℕ) (nodes : List Node) (c : F) (xs : List F) → Stands inputs nodes factor c → AllStand nodes items xs →
      HasEach nodes (scaled_nodes factor items nodes) (map (mul_f c) xs)
  scaled-has factor items nodes c xs f s =
      let R : List Node → ℕ → F → Type 0 = λ nodes item x. Ready Mul nodes (factor, item) x in
      each-has (λ item. operation_node Mul (factor, item)) R (λ before after g item x r. ready-kept Mul before after g (factor, item) x r) (λ item nodes x r. ready-makes Mul (factor, item) nodes x r)
      items nodes (map (mul_f c) xs)
      (each-map (Stands inputs nodes) (R nodes) (mul_f c) (λ item x here. record { left = c; right = x; first = f; second = here; is = refl }) items xs s)

  -- a product with p - 1 is the negative
  times_minus_one : (x : F) → mul_f x (of minus_one) ≡ neg_f x
  unfolding of
  times_minus_one x = of_same (x.value * 2147483646) (2147483647 - x.value) (same_rem (x.value * 2147483646) (2147483647 - x.value) 2147483647 1 x.value (omega (arith, x.below)))

  pub negated-has : (items : List ℕ) (nodes : List Node) (xs : List F) → AllStand nodes items xs → HasEach nodes (negated_nodes items nodes) (map neg_f xs)
  negated-has items nodes xs s =
      let factor = constant_node minus_one nodes in
      let has : HasOne inputs nodes factor (of minus_one) = constant-has inputs minus_one nodes in
      let R : List Node → ℕ → F → Type 0 = λ nodes item x. Ready Mul nodes (item, factor.item) x in
      each-then nodes factor.nodes (negated_nodes items nodes) (map neg_f xs) has.grows
      (each-has (λ item. operation_node Mul (item, factor.item)) R (λ before after g item x r. ready-kept Mul before after g (item, factor.item) x r) (λ item nodes x r. ready-makes Mul (item, factor.item) nodes x r)
      items factor.nodes (map neg_f xs)
      (each-map (Stands inputs factor.nodes) (R factor.nodes) neg_f (λ item x here. record { left = x; right = of minus_one; first = here; second = has.stands; is = times_minus_one x })
      items xs (all-kept nodes factor.nodes has.grows items xs s)))

  -- a pair of nodes, and one for -1
  record Apart (factor : ℕ) (nodes : List Node) (pair : ℕ × ℕ) (x : F) : Type 0 where
    left : F
    right : F
    first : Stands inputs nodes pair.0 left
    second : Stands inputs nodes pair.1 right
    minus : Stands inputs nodes factor (of minus_one)
    is : sub_f left right ≡ x

  apart-kept : (factor : ℕ) → IsKept (Apart factor)
  apart-kept factor before after g pair x r = record {
    left = r.left;
    right = r.right;
    first = stands-kept inputs before after g pair.0 r.left r.first;
    second = stands-kept inputs before after g pair.1 r.right r.second;
    minus = stands-kept inputs before after g factor (of minus_one) r.minus;
    is = r.is;
  }

  apart-makes : (factor : ℕ) → Makes (difference_node factor) (Apart factor)
  apart-makes factor pair nodes x r =
      let product = operation_node Mul (pair.1, factor) nodes in
      let opposite = operation-has inputs Mul (pair.1, factor) nodes r.right (of minus_one) r.second r.minus in
      let left = stands-kept inputs nodes product.nodes opposite.grows pair.0 r.left r.first in
      let total = operation-has inputs Add (pair.0, length nodes) product.nodes r.left (mul_f r.right (of minus_one)) left opposite.stands in
      one-then inputs nodes product.nodes (difference_node factor pair nodes) x opposite.grows
      (subst (HasOne inputs product.nodes (difference_node factor pair nodes)) (ap (add_f r.left) (times_minus_one r.right) ∙ r.is) total)

  pub difference-has : (left right : List ℕ) (nodes : List Node) (xs ys : List F) → AllStand nodes left xs → AllStand nodes right ys →
      HasEach nodes (difference_nodes left right nodes) (element_wise sub_f xs ys)
  difference-has left right nodes xs ys l r =
      let factor = constant_node minus_one nodes in
      let has : HasOne inputs nodes factor (of minus_one) = constant-has inputs minus_one nodes in
      let lefts = all-kept nodes factor.nodes has.grows left xs l in
      let rights = all-kept nodes factor.nodes has.grows right ys r in
      each-then nodes factor.nodes (difference_nodes left right nodes) (element_wise sub_f xs ys) has.grows
      (each-has (difference_node factor.item) (Apart factor.item) (apart-kept factor.item) (apart-makes factor.item) (zip left right) factor.nodes (element_wise sub_f xs ys)
      (each-map (Both (Stands inputs factor.nodes)) (Apart factor.item factor.nodes) (λ (pair : F × F). sub_f pair.0 pair.1)
      (λ items numbers both. record { left = numbers.0; right = numbers.1; first = both.0; second = both.1; minus = has.stands; is = refl })
      (zip left right) (zip xs ys) (each-zip (Stands inputs factor.nodes) left right xs ys lefts rights)))
