-- The steps of loops over the pairs of working tables
use Rattle.std.proofs.Common.{◌≡◌, ℕ, ◌+◌, ◌*◌, List, [], ◌∷◌, get_or, refl, sym, ◌∙◌, ap, ap₂, arith, add-one}
use Rattle.field_ext.specs.Ring.{Ops, Laws}
use Rattle.field_ext.proofs.api.Solve.{var, nil, ◌⊕◌, ◌⊗◌, minus, solve}
use Rattle.field_ext.specs.Sums.{sum_below}
use Rattle.field_ext.specs.Multilinear.{folded}
use Rattle.mle_table.proofs.api.Fold.{fold-at}
use Rattle.mle_table.proofs.api.SumLaws.{sum_below-same}
use Rattle.wiring_poly.proofs.api.Sums.{sum_below-zero}
use Rattle.table_parts.specs.Tables.{pair_at, quadratic_at}
use Rattle.table_parts.proofs.api.RoundPairs.{pair-quadratic, quadratic-add}

module _ {A : Type 0} (o : Ops A) (l : Laws A o) where
  -- the value of one pair
  pub pair_is : (t s h : List A) (j : ℕ) (t0 t1 s0 s1 h0 h1 z w q e : A) →
      t0 ≡ get_or t (2 * j) o.zero → t1 ≡ get_or t (2 * j + 1) o.zero → s0 ≡ get_or s (2 * j) o.zero → s1 ≡ get_or s (2 * j + 1) o.zero → h0 ≡ get_or h (2 * j) o.zero → h1 ≡ get_or h (2 * j + 1) o.zero →
      z ≡ o.add (o.mul t0 s0) h0 → w ≡ o.add (o.mul t1 s1) h1 → q ≡ o.mul (o.add t1 (o.neg t0)) (o.add s1 (o.neg s0)) →
      quadratic_at o z w q e ≡ pair_at o t s h e j
  pair_is t s h j t0 t1 s0 s1 h0 h1 z w q e a b c d f g hz hw hq =
      (λ i. quadratic_at o (hz i) (hw i) (hq i) e)
      ∙ pair-quadratic o l t0 t1 s0 s1 h0 h1 e
      ∙ ap₂ o.add (ap₂ o.mul (read t t0 t1 a b) (read s s0 s1 c d)) (read h h0 h1 f g)
    where
      read : (t : List A) (t0 t1 : A) → t0 ≡ get_or t (2 * j) o.zero → t1 ≡ get_or t (2 * j + 1) o.zero → o.add t0 (o.mul e (o.add t1 (o.neg t0))) ≡ get_or (folded o t e) j o.zero
      read t t0 t1 a b =
          let two : 2 * j ≡ j * 2 = omega arith in
          ap₂ (λ (x y : A). o.add x (o.mul e (o.add y (o.neg x)))) (a ∙ ap (λ (k : ℕ). get_or t k o.zero) two) (b ∙ ap (λ (k : ℕ). get_or t (k + 1) o.zero) two)
          ∙ sym (fold-at o l t e j)

  pub pairs_none : (z w q e : A) → z ≡ o.zero → w ≡ o.zero → q ≡ o.zero → quadratic_at o z w q e ≡ o.zero
  pairs_none z w q e hz hw hq =
      (λ i. quadratic_at o (hz i) (hw i) (hq i) e)
      ∙ solve o l (e ∷ []) (nil ⊕ var 0 ⊗ (nil ⊕ minus (nil ⊕ nil) ⊕ var 0 ⊗ (nil ⊕ var 0 ⊗ nil))) nil refl

  -- one more pair
  pub pairs_more : (j : ℕ) (f : ℕ → A) (z w q z1 w1 q1 z' w' q' e : A) → z' ≡ o.add z z1 → w' ≡ o.add w w1 → q' ≡ o.add q q1 →
      quadratic_at o z1 w1 q1 e ≡ f j → quadratic_at o z w q e ≡ sum_below o j f → quadratic_at o z' w' q' e ≡ sum_below o (j + 1) f
  pairs_more j f z w q z1 w1 q1 z' w' q' e hz hw hq here before =
      (λ i. quadratic_at o (hz i) (hw i) (hq i) e)
      ∙ quadratic-add o l z w q z1 w1 q1 e
      ∙ ap₂ o.add before here
      ∙ ap (λ (k : ℕ). sum_below o k f) (sym (add-one j))

  -- tables that read alike have the same pairs
  pub pair-alike : (t s s' h h' : List A) (e : A) (j : ℕ) → ((i : ℕ) → get_or s i o.zero ≡ get_or s' i o.zero) → ((i : ℕ) → get_or h i o.zero ≡ get_or h' i o.zero) → pair_at o t s h e j ≡ pair_at o t s' h' e j
  pair-alike t s s' h h' e j es eh =
      ap₂ (λ (x y : A). o.add (o.mul (get_or (folded o t e) j o.zero) x) y) (fold-alike s s' es) (fold-alike h h' eh)
    where
      fold-alike : (s s' : List A) → ((i : ℕ) → get_or s i o.zero ≡ get_or s' i o.zero) → get_or (folded o s e) j o.zero ≡ get_or (folded o s' e) j o.zero
      fold-alike s s' is = fold-at o l s e j ∙ ap₂ (λ (a b : A). o.add a (o.mul e (o.add b (o.neg a)))) (is (j * 2)) (is (j * 2 + 1)) ∙ sym (fold-at o l s' e j)

  -- pairs of zeros give nothing
  pub pairs-of-zeros : (t s h : List A) (e : A) (n : ℕ) → ((i : ℕ) → get_or s i o.zero ≡ o.zero) → ((i : ℕ) → get_or h i o.zero ≡ o.zero) → sum_below o n (λ j. pair_at o t s h e j) ≡ o.zero
  pairs-of-zeros t s h e n es eh =
      sum_below-same o l n _ _ (λ j u.
      pair-alike t s [] h [] e j es eh
      ∙ solve o l (get_or (folded o t e) j o.zero ∷ []) (var 0 ⊗ nil ⊕ nil) nil refl)
      ∙ sum_below-zero o l n
