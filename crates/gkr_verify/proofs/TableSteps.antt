-- Sums over a table of 0, values and zeros, whose elements lie in F_p
use Rattle.std.proofs.Common.{◌≡◌, ℕ, zero, suc, ◌+◌, ◌-◌, ◌≤◌, ◌⊎◌, inl, inr, List, length, map, get_or, sym, ◌∙◌, ap, arith, add-one}
use Rattle.std.proofs.lemmas.List.{get_or_past}
use Rattle.std.proofs.lemmas.Bool.{cases_eq}
use Rattle.field_ext.specs.Ring.{Ops, Laws}
use Rattle.field_ext.specs.Field.{F, K, k_ops, zero_k, mul_k, add_k, embed_k}
use Rattle.field_ext.specs.Sums.{sum_below}
use Rattle.field_ext.proofs.api.KLaws.{k_laws}
use Rattle.field_ext.proofs.api.Rings.{zero_add, zero_mul}
use Rattle.circuit_core.specs.Parts.{padded_values, zero_f}
use Rattle.gkr_layers.proofs.api.Circuits.{read-embed}
use Rattle.gkr_layers.proofs.api.Outputs.{behind-zero}

module _ {A : Type 0} (o : Ops A) (l : Laws A o) where
  one_more : (n : ℕ) (f : ℕ → A) (sum next : A) → next ≡ o.add sum (f n) → sum ≡ sum_below o n f → next ≡ sum_below o (n + 1) f
  one_more n f sum next e h = e ∙ ap (λ (x : A). o.add x (f n)) h ∙ ap (λ (k : ℕ). sum_below o k f) (sym (add-one n))

  -- zeros at the end change nothing
  zeros_behind : (m n : ℕ) (f : ℕ → A) → m ≤ n → ((g : ℕ) → m ≤ g → f g ≡ o.zero) → sum_below o m f ≡ sum_below o n f
  zeros_behind m n f u z = by_size n (cases_eq m n) u
    where
      by_size : (n : ℕ) → (m ≡ n) ⊎ (m ≡ n → ⊥) → m ≤ n → sum_below o m f ≡ sum_below o n f
      by_size n (inl e) u = ap (λ (k : ℕ). sum_below o k f) e
      by_size zero (inr d) u = absurd (d (omega arith))
      by_size (suc n) (inr d) u =
          by_size n (cases_eq m n) (omega arith) ∙ sym (l.add_zero (sum_below o n f)) ∙ ap (o.add (sum_below o n f)) (sym (z n (omega arith)))

-- the table's values, embedded
abbrev pub table : ℕ → List F → List K
table width values = map embed_k (padded_values width values)

-- the values begin at place 1
value-behind : (width : ℕ) (values : List F) (i : ℕ) → get_or (table width values) (i + 1) zero_k ≡ embed_k (get_or values i zero_f)
value-behind width values i =
    read-embed (padded_values width values) (i + 1)
    ∙ ap (λ (k : ℕ). embed_k (get_or (padded_values width values) k zero_f)) (add-one i)
    ∙ ap embed_k (behind-zero zero_f values (width - (1 + length values)) i)

-- and zeros from their end on
zero-behind : (width : ℕ) (values : List F) (g : ℕ) → length values + 1 ≤ g → get_or (table width values) g zero_k ≡ zero_k
zero-behind width values zero u = absurd (omega arith)
zero-behind width values (suc g) u =
    let past : length values ≤ g = omega arith in
    read-embed (padded_values width values) (suc g) ∙ ap embed_k (behind-zero zero_f values (width - (1 + length values)) g ∙ get_or_past values g zero_f past)

-- the sum with these weights, one place more at a time
module _ (width : ℕ) (values : List F) (weight : ℕ → K) where
  abbrev term : ℕ → K
  term g = mul_k (get_or (table width values) g zero_k) (weight g)

  -- the sum up to place n
  abbrev pub IsSumTo : ℕ → K → Type 0
  IsSumTo n sum = sum ≡ sum_below k_ops n (λ g. mul_k (get_or (table width values) g zero_k) (weight g))

  pub sum_begun : (sum : K) → sum ≡ zero_k → IsSumTo (0 + 1) sum
  sum_begun sum e = e ∙ sym (zero_add k_ops k_laws _ ∙ zero_mul k_ops k_laws (weight 0))

  pub sum_more : (i : ℕ) (sum next : K) → next ≡ add_k sum (mul_k (embed_k (get_or values i zero_f)) (weight (i + 1))) → IsSumTo (i + 1) sum → IsSumTo (i + 1 + 1) next
  sum_more i sum next e h =
      one_more k_ops k_laws (i + 1) term sum next (e ∙ ap (λ (x : K). add_k sum (mul_k x (weight (i + 1)))) (sym (value-behind width values i))) h

  pub sum_all : (i n : ℕ) (sum : K) → length values ≤ i → i + 1 ≤ n → IsSumTo (i + 1) sum → IsSumTo n sum
  sum_all i n sum u v h =
      h ∙ zeros_behind k_ops k_laws (i + 1) n term v
      (λ g w. let past : length values + 1 ≤ g = omega arith in
      ap (λ (x : K). mul_k x (weight g)) (zero-behind width values g past) ∙ zero_mul k_ops k_laws (weight g))
