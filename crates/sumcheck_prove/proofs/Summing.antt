-- The sum of the pieces' messages is the round's
use Rattle.std.proofs.Common.{◌≡◌, ℕ, ◌+◌, ◌-◌, ◌*◌, ◌<◌, List, [], ◌∷◌, length, get_or, refl, sym, ◌∙◌, ap, ap₂, arith, add-one, lit<}
use Rattle.field_ext.specs.Ring.{Ops, Laws}
use Rattle.field_ext.specs.Field.{K, k_ops, add_k}
use Rattle.field_ext.proofs.api.KLaws.{k_laws}
use Rattle.field_ext.specs.Polynomial.{value_at, coefficients}
use Rattle.field_ext.proofs.api.Solve.{var, nil, ◌⊕◌, ◌⊗◌, solve}
use Rattle.field_ext.specs.Sums.{sum_below}
use Rattle.gkr_layers.proofs.api.Coefficients.{from_values, length-coefficients, value-coefficients}
use Rattle.gkr_layers.proofs.api.Degree.{length-round_polynomial}
use Rattle.round_tables.specs.LayerSum.{LayerSum, pieces_of, piece_poly, piece_pairs, next_poly}
use Rattle.round_tables.proofs.api.PartDegree.{length-part}
use Rattle.round_tables.proofs.api.Pieces.{pieces-value}

three : {A : Type 0} (xs : List A) (x y z : A) → length xs ≡ 3 → x ≡ get_or xs 0 x → y ≡ get_or xs 1 y → z ≡ get_or xs 2 z → xs ≡ x ∷ y ∷ z ∷ []
three [] x y z n a b c = absurd (omega arith)
three (p ∷ []) x y z n a b c = absurd (omega arith)
three (p ∷ q ∷ []) x y z n a b c = absurd (omega arith)
three {A} (p ∷ q ∷ r ∷ []) x y z n a b c = λ i. sym a i ∷ sym b i ∷ sym c i ∷ []
three (p ∷ q ∷ r ∷ s ∷ t) x y z n a b c = absurd (omega arith)

module _ {A : Type 0} (o : Ops A) (l : Laws A o) where
  pub none_summed : (x e : A) → x ≡ o.zero → value_at o (x ∷ x ∷ x ∷ []) e ≡ o.zero
  none_summed x e a = (λ i. value_at o (a i ∷ a i ∷ a i ∷ []) e) ∙ solve o l (e ∷ []) (nil ⊕ var 0 ⊗ (nil ⊕ var 0 ⊗ (nil ⊕ var 0 ⊗ nil))) nil refl

  sums : (x y z p q r e : A) → value_at o (o.add x p ∷ o.add y q ∷ o.add z r ∷ []) e ≡ o.add (value_at o (x ∷ y ∷ z ∷ []) e) (value_at o (p ∷ q ∷ r ∷ []) e)
  sums x y z p q r e =
      solve o l (x ∷ y ∷ z ∷ p ∷ q ∷ r ∷ e ∷ [])
      (var 0 ⊕ var 3 ⊕ var 6 ⊗ (var 1 ⊕ var 4 ⊕ var 6 ⊗ (var 2 ⊕ var 5 ⊕ var 6 ⊗ nil)))
      (var 0 ⊕ var 6 ⊗ (var 1 ⊕ var 6 ⊗ (var 2 ⊕ var 6 ⊗ nil)) ⊕ (var 3 ⊕ var 6 ⊗ (var 4 ⊕ var 6 ⊗ (var 5 ⊕ var 6 ⊗ nil)))) refl

-- the value of the sum of two messages
pub sum_value : (t m : List K) (x y z p q r x' y' z' e : K) → length t ≡ 3 → length m ≡ 3 → x ≡ get_or t 0 x → y ≡ get_or t 1 y → z ≡ get_or t 2 z → p ≡ get_or m 0 p → q ≡ get_or m 1 q → r ≡ get_or m 2 r →
    x' ≡ add_k (get_or t 0 x) (get_or m 0 p) → y' ≡ add_k (get_or t 1 y) (get_or m 1 q) → z' ≡ add_k (get_or t 2 z) (get_or m 2 r) → value_at k_ops (x' ∷ y' ∷ z' ∷ []) e ≡ add_k (value_at k_ops t e) (value_at k_ops m e)
sum_value t m x y z p q r x' y' z' e n k a b c d f h hx hy hz =
    (λ i. value_at k_ops (hx i ∷ hy i ∷ hz i ∷ []) e)
    ∙ (λ i. value_at k_ops (add_k (sym a i) (sym d i) ∷ add_k (sym b i) (sym f i) ∷ add_k (sym c i) (sym h i) ∷ []) e)
    ∙ sums k_ops k_laws x y z p q r e
    ∙ ap₂ add_k (ap (λ (xs : List K). value_at k_ops xs e) (sym (three t x y z n a b c))) (ap (λ (xs : List K). value_at k_ops xs e) (sym (three m p q r k d f h)))

-- the sum of one term more
pub one_more : (f : ℕ → K) (i : ℕ) (x y z : K) → x ≡ add_k y z → y ≡ sum_below k_ops i f → z ≡ f i → x ≡ sum_below k_ops (i + 1) f
one_more f i x y z is before here = is ∙ ap₂ add_k before here ∙ ap (λ (n : ℕ). sum_below k_ops n f) (sym (add-one i))

module _ (s : LayerSum) where
  pub three_each : (piece : ℕ) (m : List K) → m ≡ coefficients k_ops 3 (piece_poly s piece) → length m ≡ 3
  three_each piece m is = ap length is ∙ length-coefficients k_ops 3 (piece_poly s piece)

  pub piece_value : (piece : ℕ) (m : List K) (e : K) → m ≡ coefficients k_ops 3 (piece_poly s piece) → value_at k_ops m e ≡ value_at k_ops (piece_poly s piece) e
  piece_value piece m e is =
      ap (λ (xs : List K). value_at k_ops xs e) is
      ∙ value-coefficients k_ops k_laws 3 (piece_poly s piece) e (length-part k_ops s.k s.gates s.values s.place s.bound (piece * piece_pairs s) (piece * piece_pairs s + piece_pairs s))

  -- all pieces add to the round's message
  pub whole_round : (n : ℕ) (q : List K) → length s.bound < s.k + s.k → n ≡ pieces_of s → length q ≡ 3 → ((e : K) → value_at k_ops q e ≡ sum_below k_ops n (λ piece. value_at k_ops (piece_poly s piece) e)) → q ≡ coefficients k_ops 3 (next_poly s)
  whole_round n q left all size values =
      from_values 3 q (next_poly s) (lit< tt) size
      (length-round_polynomial k_ops s.k s.gates s.values s.place s.bound (s.k + s.k - length s.bound - 1)) (λ e.
      values e
      ∙ (λ i. sum_below k_ops (all i) (λ piece. value_at k_ops (piece_poly s piece) e))
      ∙ pieces-value s e left)
