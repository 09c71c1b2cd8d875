-- Nodes after nodes: what is made later leaves the values of those before as they are.
use Rattle.std.proofs.Common.{◌≡◌, ℕ, ◌<◌, true, not, List, [], ◌∷◌, ◌++◌, length, get_or, refl, sym, ap, ap₂, ◌∙◌, subst, inl, inr, arith, append_assoc, length-append}
use Rattle.std.proofs.lemmas.Bool.{cases_lt, lt-ltb, le-ltb, cond-true, cond-false, eqb-true, false≢true}
use Rattle.std.proofs.lemmas.List.{get_or_append_left, get_or_push, length_push, append-nil}
use Rattle.std.proofs.lemmas.List.Sums.{passes_at_first, prefix_len-le-length}
use Rattle.field_ext.specs.Field.{F, of}
use Rattle.field_ext.proofs.api.Elements.{F_eq}
use Rattle.circuit_core.specs.declared.gate.Kind.{Kind}
use Rattle.circuit_core.specs.Parts.{zero_f, combined}
use Rattle.node_core.specs.declared.node.Node.{Node}
use Rattle.node_core.specs.declared.node.Node.TheVariants.{Input, Constant, Operation}
use Rattle.node_core.specs.Order.{made_in_order}
use Rattle.node_core.specs.Nodes.{IsFineAt, node_value}
use Rattle.node_core.proofs.api.InOrder.{get_or-made_in_order, get_or-made_append, get_or-made_push}
use Rattle.arr_lower.specs.Operations.{MadeOne, is_constant, constant_place, constant_node, operation_node}

module _ (inputs : List F) where
  abbrev pub value : List Node → ℕ → F
  value nodes k = get_or (made_in_order (node_value inputs) nodes) k zero_f

  -- each names inputs that there are, and nodes before it
  pub record IsFine (nodes : List Node) : Type 0 where
    pub at : (k : ℕ) → k < length nodes → IsFineAt (length inputs) k (get_or nodes k (Input 0))

  -- nodes after those before them
  pub record Grows (before after : List Node) : Type 0 where
    pub more : List Node
    pub is : after ≡ before ++ more
    pub fine : IsFine before → IsFine after

  -- a node that is there, with this value
  pub record Stands (nodes : List Node) (item : ℕ) (x : F) : Type 0 where
    pub inside : item < length nodes
    pub is : value nodes item ≡ x

  -- one node for a value, after those before
  pub record HasOne (before : List Node) (one : MadeOne) (x : F) : Type 0 where
    pub grows : Grows before one.nodes
    pub stands : Stands one.nodes one.item x

  pub grows-none : (nodes : List Node) → Grows nodes nodes
  grows-none nodes = record { more = []; is = sym (append-nil nodes); fine = λ f. f }

  pub grows-then : (first middle last : List Node) → Grows first middle → Grows middle last → Grows first last
  grows-then first middle last f g = record {
    more = f.more ++ g.more;
    is = g.is ∙ ap (λ nodes. nodes ++ g.more) f.is ∙ append_assoc first f.more g.more;
    fine = λ h. g.fine (f.fine h);
  }

  pub stands-kept : (before after : List Node) → Grows before after → (item : ℕ) (x : F) → Stands before item x → Stands after item x
  stands-kept before after g item x s = record {
    inside = subst (λ nodes. item < length nodes) (sym g.is) (let inside = s.inside in omega (arith, length-append before g.more));
    is = ap (λ nodes. value nodes item) g.is ∙ get_or-made_append (node_value inputs) before g.more item zero_f s.inside ∙ s.is;
  }

  fine-push : (nodes : List Node) (x : Node) → IsFineAt (length inputs) (length nodes) x → IsFine nodes → IsFine (nodes ++ x ∷ [])
  fine-push nodes x fine f = record {
    at = λ k l. elim (cases_lt k (length nodes)) [
      | inl u ↦ subst (IsFineAt (length inputs) k) (sym (get_or_append_left nodes (x ∷ []) (Input 0) k u)) (f.at k u)
      | inr u ↦
          let same : length nodes ≡ k = omega (arith, l, u, length_push nodes x) in
          subst (λ k. IsFineAt (length inputs) k (get_or (nodes ++ x ∷ []) k (Input 0))) same (subst (IsFineAt (length inputs) (length nodes)) (sym (get_or_push nodes x (Input 0) (length nodes) refl)) fine)
    ];
  }

  -- a node more has the value that it makes of those before
  pub push-has : (nodes : List Node) (x : Node) → IsFineAt (length inputs) (length nodes) x →
      HasOne nodes (record { item = length nodes; nodes = nodes ++ x ∷ [] }) (node_value inputs (made_in_order (node_value inputs) nodes) x)
  push-has nodes x fine = record {
    grows = record { more = x ∷ []; is = refl; fine = fine-push nodes x fine };
    stands = record {
      inside = omega (arith, length_push nodes x);
      is = get_or-made_push (node_value inputs) nodes x zero_f;
    };
  }

  constant-at : (x : F) (nodes : List Node) (k : ℕ) (node : Node) → k < length nodes → get_or nodes k (Input 0) ≡ node → is_constant x node ≡ true → value nodes k ≡ x
  constant-at x nodes k (Input j) l e h = absurd (false≢true h)
  constant-at x nodes k (Operation gate) l e h = absurd (false≢true h)
  constant-at x nodes k (Constant y) l e h =
      get_or-made_in_order (node_value inputs) nodes k zero_f (Input 0) l ∙ ap (node_value inputs _) e ∙ F_eq y x (eqb-true y.value x.value h)

  pub constant-has : (number : ℕ) (nodes : List Node) → HasOne nodes (constant_node number nodes) (of number)
  constant-has number nodes =
      let k = constant_place number nodes in
      elim (cases_lt k (length nodes)) [
        | inl u ↦
            let same : nodes ≡ (constant_node number nodes).nodes = sym (cond-true _ _ _ (lt-ltb k (length nodes) u)) in
            let stands : Stands nodes k (of number) = record {
              inside = u;
              is = constant-at (of number) nodes k (get_or nodes k (Input 0)) u refl (passes_at_first (is_constant (of number)) nodes (Input 0) u);
            } in
            record { grows = subst (Grows nodes) same (grows-none nodes); stands = subst (λ nodes. Stands nodes k (of number)) same stands }
        | inr u ↦
            let low = prefix_len-le-length (λ node. not (is_constant (of number) node)) nodes in
            let last : length nodes ≡ k = omega arith in
            let same : nodes ++ Constant (of number) ∷ [] ≡ (constant_node number nodes).nodes = sym (cond-false _ _ _ (le-ltb k (length nodes) u)) in
            let both : ◌≡◌ {A = MadeOne} (record { item = length nodes; nodes = nodes ++ Constant (of number) ∷ [] }) (constant_node number nodes) =
            λ i. record { item = last i; nodes = same i } in
            subst (λ one. HasOne nodes one (of number)) both (push-has nodes (Constant (of number)) tt)
      ]

  -- an operation on two nodes with values
  pub operation-has : (kind : Kind) (pair : ℕ × ℕ) (nodes : List Node) (x y : F) → Stands nodes pair.0 x → Stands nodes pair.1 y → HasOne nodes (operation_node kind pair nodes) (combined kind x y)
  operation-has kind pair nodes x y l r =
      let pushed = push-has nodes (Operation (record { kind = kind; left = pair.0; right = pair.1 })) (l.inside, r.inside) in
      subst (HasOne nodes (operation_node kind pair nodes)) (ap₂ (combined kind) l.is r.is) pushed

  -- one node made after others that were made before it
  pub one-then : (first middle : List Node) (one : MadeOne) (x : F) → Grows first middle → HasOne middle one x → HasOne first one x
  one-then first middle one x g h = record { grows = grows-then first middle one.nodes g h.grows; stands = h.stands }
