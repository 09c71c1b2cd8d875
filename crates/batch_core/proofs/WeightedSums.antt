-- Sums of values by their weights: the extension of a table that begins with 0, one value changed, values in two lists
use Rattle.std.proofs.Common.{◌≡◌, ◌≢◌, ℕ, zero, suc, ◌+◌, ◌-◌, ◌*◌, ◌^◌, ◌<◌, ◌≤◌, inl, inr, min, List, [], ◌∷◌, ◌++◌, map, length, take, drop, get_or, set, replicate, refl, sym, ◌∙◌, ap, ap₂, arith, add-one, length-append, length-drop, length-take, get_or-set_same, get_or-set_other}
use Rattle.std.proofs.Math.Nat.{mul-le-mul_right}
use Rattle.std.proofs.lemmas.Bool.{cases_eq}
use Rattle.std.proofs.lemmas.List.{get_or_append_left, get_or-append_right, get_or-drop, get_or-take, get_or_past}
use Rattle.field_ext.specs.Ring.{Ops, Laws}
use Rattle.field_ext.specs.Field.{F, K, k_ops, zero_k, add_k, mul_k, embed_k}
use Rattle.field_ext.specs.Sums.{sum_below}
use Rattle.field_ext.specs.Multilinear.{eq_poly, extension_at}
use Rattle.field_ext.proofs.api.KLaws.{k_laws}
use Rattle.field_ext.proofs.api.Rings.{zero_add, zero_mul, mul_zero}
use Rattle.field_ext.proofs.api.Solve.{var, ◌⊕◌, solve}
use Rattle.field_ext.proofs.api.Sums.{sum_below-front}
use Rattle.mle_table.proofs.api.SumLaws.{sum_below-same}
use Rattle.wiring_poly.proofs.api.Sums.{sum_below-append, sum_below-zero}
use Rattle.circuit_core.specs.Parts.{padded_values, zero_f}
use Rattle.gkr_layers.proofs.api.Circuits.{read-embed}
use Rattle.gkr_layers.proofs.api.Outputs.{behind-zero}
use Rattle.batch_core.specs.ListedInstances.{block, weighted_sum}

-- a block within a list of so many
pub block_fits : (m count size : ℕ) → m < count → m * size + size ≤ count * size
block_fits m count size u =
    let here : m + 1 ≤ count = omega arith in
    let next : (m + 1) * size ≡ m * size + size = omega arith in
    omega (arith, next, mul-le-mul_right size here)

pub length-block : {X : Type 0} (m count size : ℕ) (xs : List X) → m < count → length xs ≡ count * size → length (block size xs m) ≡ size
length-block m count size xs u s =
    let all : length (drop (m * size) xs) ≡ length xs - m * size = length-drop (m * size) xs in
    let taken : length (take size (drop (m * size) xs)) ≡ min size (length (drop (m * size) xs)) = length-take size (drop (m * size) xs) in
    omega (arith, all, taken, s, block_fits m count size u)

pub block-most : {X : Type 0} (m size : ℕ) (xs : List X) → length (block size xs m) ≤ size
block-most m size xs =
    let taken : length (take size (drop (m * size) xs)) ≡ min size (length (drop (m * size) xs)) = length-take size (drop (m * size) xs) in
    omega (arith, taken)

module _ {A : Type 0} (o : Ops A) (l : Laws A o) where
  pub sum_below-more : (n : ℕ) (f : ℕ → A) (sum next : A) → next ≡ o.add sum (f n) → sum ≡ sum_below o n f → next ≡ sum_below o (n + 1) f
  sum_below-more n f sum next e h = e ∙ ap (λ (x : A). o.add x (f n)) h ∙ ap (λ (k : ℕ). sum_below o k f) (sym (add-one n))

  -- a sum of which one term has changed
  sum_below-changed : (n j : ℕ) (f h : ℕ → A) (a : A) → j < n → ((i : ℕ) → i ≢ j → h i ≡ f i) → h j ≡ o.add (f j) a → sum_below o n h ≡ o.add (sum_below o n f) a
  sum_below-changed zero j f h a u others here = absurd (omega arith)
  sum_below-changed (suc n) j f h a u others here =
      elim (cases_eq j n) [
        | inl e ↦
            ap₂ o.add (sum_below-same o l n h f (λ i v. others i (omega (arith, v, e)))) (ap h (sym e) ∙ here ∙ ap (λ (i : ℕ). o.add (f i) a) e)
            ∙ sym (l.add_assoc (sum_below o n f) (f n) a)
        | inr d ↦
            let last : n ≢ j = omega arith in
            ap₂ o.add (sum_below-changed n j f h a (omega arith) others here) (others n last)
            ∙ solve o l (sum_below o n f ∷ a ∷ f n ∷ []) (var 0 ⊕ var 1 ⊕ var 2) (var 0 ⊕ var 2 ⊕ var 1) refl
      ]

-- the weight of one value has grown
pub weight_grown : (weights : List K) (values : List F) (j : ℕ) (x y : K) → length values ≡ length weights → j < length weights → y ≡ add_k (get_or weights j zero_k) x →
    weighted_sum (set weights j y) values ≡ add_k (weighted_sum weights values) (mul_k (embed_k (get_or values j zero_f)) x)
weight_grown weights values j x y s u e =
    sum_below-changed k_ops k_laws (length values) j
    (λ i. mul_k (embed_k (get_or values i zero_f)) (get_or weights i zero_k))
    (λ i. mul_k (embed_k (get_or values i zero_f)) (get_or (set weights j y) i zero_k))
    (mul_k (embed_k (get_or values j zero_f)) x)
    (omega (arith, s, u))
    (λ i n. ap (mul_k (embed_k (get_or values i zero_f))) (get_or-set_other weights j i y zero_k n))
    (ap (mul_k (embed_k (get_or values j zero_f))) (get_or-set_same weights j y zero_k u ∙ e) ∙ k_laws.mul_add (embed_k (get_or values j zero_f)) (get_or weights j zero_k) x)

-- nothing weighs anything
pub weights-zero : (weights : List K) (values : List F) → ((i : ℕ) → get_or weights i zero_k ≡ zero_k) → weighted_sum weights values ≡ zero_k
weights-zero weights values z =
    sum_below-same k_ops k_laws (length values) _ (λ i. zero_k) (λ i u. ap (mul_k (embed_k (get_or values i zero_f))) (z i) ∙ mul_zero k_ops k_laws (embed_k (get_or values i zero_f)))
    ∙ sum_below-zero k_ops k_laws (length values)

-- the values of two lists
pub weights-append : (weights : List K) (xs ys : List F) →
    weighted_sum weights (xs ++ ys) ≡ add_k (weighted_sum (take (length xs) weights) xs) (weighted_sum (drop (length xs) weights) ys)
weights-append weights xs ys =
    let term : ℕ → K = λ i. mul_k (embed_k (get_or (xs ++ ys) i zero_f)) (get_or weights i zero_k) in
    ap (λ (n : ℕ). sum_below k_ops n (λ i. mul_k (embed_k (get_or (xs ++ ys) i zero_f)) (get_or weights i zero_k))) (length-append xs ys)
    ∙ sum_below-append k_ops k_laws (length xs) (length ys) term
    ∙ ap₂ add_k
    (sum_below-same k_ops k_laws (length xs) _ _ (λ i u. ap₂ (λ (x : F) (w : K). mul_k (embed_k x) w) (get_or_append_left xs ys zero_f i u) (sym (get_or-take (length xs) weights i zero_k u))))
    (sum_below-same k_ops k_laws (length ys) _ _ (λ i u.
    let past : length xs ≤ length xs + i = omega arith in
    let back : length xs + i - length xs ≡ i = omega arith in
    ap₂ (λ (x : F) (w : K). mul_k (embed_k x) w)
    (get_or-append_right xs ys (length xs) (length xs + i) zero_f refl past ∙ ap (λ (k : ℕ). get_or ys k zero_f) back)
    (sym (get_or-drop (length xs) weights i zero_k))))

-- the extension of the table 0, the values, zeros
pub padded_extension : (width : ℕ) (values : List F) (z : List K) → length values < 2 ^ length z →
    extension_at k_ops k_ops (λ x. x) (map embed_k (padded_values width values)) z ≡ sum_below k_ops (length values) (λ g. mul_k (embed_k (get_or values g zero_f)) (eq_poly k_ops z (g + 1)))
padded_extension width values z u =
    let n : ℕ = length values in
    let m : ℕ = 2 ^ length z - 1 - length values in
    let pad : ℕ = width - (1 + length values) in
    let t : List K = map embed_k (padded_values width values) in
    let term : ℕ → K = λ g. mul_k (get_or t g zero_k) (eq_poly k_ops z g) in
    let size : 2 ^ length z ≡ suc (length values + (2 ^ length z - 1 - length values)) = omega arith in
    let read : (g : ℕ) → get_or t (suc g) zero_k ≡ embed_k (get_or values g zero_f) = λ g. read-embed (values ++ replicate pad zero_f) g ∙ ap embed_k (behind-zero zero_f values pad g) in
    ap (λ (i : ℕ). sum_below k_ops i (λ g. mul_k (get_or (map embed_k (padded_values width values)) g zero_k) (eq_poly k_ops z g))) size
    ∙ sum_below-front k_ops k_laws (n + m) term
    ∙ ap₂ add_k (zero_mul k_ops k_laws (eq_poly k_ops z 0)) (sum_below-append k_ops k_laws n m (λ g. term (suc g)))
    ∙ zero_add k_ops k_laws _
    ∙ ap₂ add_k
    (sum_below-same k_ops k_laws n _ (λ g. mul_k (embed_k (get_or values g zero_f)) (eq_poly k_ops z (g + 1))) (λ g v.
    let next : suc g ≡ g + 1 = omega arith in ap₂ (λ (x : K) (i : ℕ). mul_k x (eq_poly k_ops z i)) (read g) next))
    (sum_below-same k_ops k_laws m _ (λ g. zero_k) (λ g v.
    let past : length values ≤ length values + g = omega arith in
    ap (λ (x : K). mul_k x (eq_poly k_ops z (suc (length values + g)))) (read (length values + g) ∙ ap embed_k (get_or_past values (length values + g) zero_f past))
    ∙ zero_mul k_ops k_laws (eq_poly k_ops z (suc (length values + g))))
    ∙ sum_below-zero k_ops k_laws m)
    ∙ k_laws.add_zero _

-- weights that are the equality polynomial's values give the extension
pub outputs_weighed : (width : ℕ) (weights : List K) (values : List F) (z : List K) → length values ≡ length weights → length weights < 2 ^ length z →
    ((i : ℕ) → i < length weights → get_or weights i zero_k ≡ eq_poly k_ops z (i + 1)) →
    weighted_sum weights values ≡ extension_at k_ops k_ops (λ x. x) (map embed_k (padded_values width values)) z
outputs_weighed width weights values z s u is =
    let few : length values < 2 ^ length z = omega (arith, s, u) in
    sum_below-same k_ops k_laws (length values) _ _ (λ i v. ap (mul_k (embed_k (get_or values i zero_f))) (is i (omega (arith, v, s))))
    ∙ sym (padded_extension width values z few)
