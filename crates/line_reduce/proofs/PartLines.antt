-- The lines of a table's parts are rows of the table's folds
use Rattle.std.proofs.Common.{◌≡◌, ℕ, zero, suc, ◌+◌, ◌*◌, ◌^◌, ◌<◌, ◌≤◌, ◌⊎◌, inl, inr, List, [], ◌∷◌, ◌++◌, length, get_or, take, drop, refl, sym, ◌∙◌, ap, ap₂, arith, length-append, length-take, get_or-take, get_or-drop}
use Rattle.std.proofs.lemmas.Bool.{cases_eq}
use Rattle.std.proofs.lemmas.List.{get_or_append_left, take_all}
use Rattle.field_ext.specs.Ring.{Ops, Laws}
use Rattle.field_ext.specs.Field.{K, k_ops, zero_k}
use Rattle.field_ext.specs.Polynomial.{value_at}
use Rattle.field_ext.specs.Multilinear.{eq_poly, folded_all}
use Rattle.field_ext.proofs.api.KLaws.{k_laws}
use Rattle.mle_table.proofs.api.SumLaws.{sum_below-same}
use Rattle.gkr_layers.specs.Sumcheck.{point_between, line_polynomial}
use Rattle.gkr_layers.proofs.api.Lines.{value-line_polynomial}
use Rattle.gkr_layers.proofs.api.Degree.{length-line_polynomial}
use Rattle.gkr_layers.proofs.api.Coefficients.{value-coefficients}
use Rattle.line_reduce.specs.Rows.{row_value, HaveFolds}
use Rattle.line_reduce.specs.Parts.{values_of, part_line, part_lines}
use Rattle.line_reduce.proofs.api.PartLength.{length-part}
use Rattle.line_reduce.proofs.Steps.{row-same, row-shift, row-whole, length-point, folded_all-value}
use Rattle.line_reduce.proofs.BlockSums.{fold_block}

module _ {A : Type 0} (o : Ops A) (l : Laws A o) where
  -- a block of a table folds to the place of the block
  pub block_fold : (t rs : List A) (k m : ℕ) → m ≡ 2 ^ length rs → get_or (folded_all o (take m (drop (k * m) t)) rs) 0 o.zero ≡ get_or (folded_all o t rs) k o.zero
  block_fold t rs k m size =
      fold_block o l (take m (drop (k * m) t)) rs 0
      ∙ sum_below-same o l (2 ^ length rs) _ _ (λ q u.
      let first : 0 * 2 ^ length rs + q ≡ q = omega arith in
      ap (λ (x : A). o.mul x (eq_poly o rs q))
      (ap (λ (x : ℕ). get_or (take m (drop (k * m) t)) x o.zero) first
      ∙ get_or-take m (drop (k * m) t) q o.zero (omega (arith, size, u))
      ∙ get_or-drop (k * m) t q o.zero
      ∙ ap (λ (x : ℕ). get_or t (k * x + q) o.zero) size))
      ∙ sym (fold_block o l t rs k)

  -- the first coordinates of a point of the line
  pub points_cut : (n : ℕ) (b c : List A) (e : A) → length c ≡ length b → point_between o (take n b) (take n c) e ≡ take n (point_between o b c e)
  points_cut zero b c e v = refl
  points_cut (suc n) [] c e v = refl
  points_cut (suc n) (b ∷ bs) [] e v = absurd (omega arith)
  points_cut (suc n) (b ∷ bs) (c ∷ cs) e v = ap (λ (xs : List A). o.add b (o.mul e (o.add c (o.neg b))) ∷ xs) (points_cut n bs cs e (omega arith))

  -- what comes after a list is a row of its own
  row_behind : (xs ys : List A) (e : A) → row_value o (xs ++ ys) (length xs) (length ys) e ≡ value_at o ys e
  row_behind [] ys e = row-whole o l ys e
  row_behind (x ∷ xs) ys e = row-shift o l x (xs ++ ys) (length xs) (length ys) e ∙ row_behind xs ys e

  row_ahead : (xs ys : List A) (at n : ℕ) (e : A) → at + n ≤ length xs → row_value o (xs ++ ys) at n e ≡ row_value o xs at n e
  row_ahead xs ys at n e u = row-same o l (xs ++ ys) xs at n e (λ x _ w. get_or_append_left xs ys o.zero x (omega arith))

-- the value of a part's line
part_value : (vs b c : List K) (e : K) → length b ≡ 11 → length c ≡ 11 → value_at k_ops (part_line vs b c) e ≡ get_or (folded_all k_ops vs (point_between k_ops b c e)) 0 zero_k
unfolding part_line
part_value vs b c e u v =
    let few = length-line_polynomial k_ops vs b c in
    let same : length c ≡ length b = omega arith in
    let long = length-point k_ops k_laws b c e same in
    value-coefficients k_ops k_laws 12 (line_polynomial k_ops vs b c) e (omega (arith, few, u))
    ∙ value-line_polynomial k_ops k_laws vs b c e
    ∙ sym (folded_all-value k_ops k_laws vs b c e 11 same (omega arith))
    ∙ ap (λ (rs : List K). get_or (folded_all k_ops vs rs) 0 zero_k) (take_all 11 (point_between k_ops b c e) (omega (arith, long, u)))

-- which is the value of the folded table at the part's place
part_folds : (values b c : List K) (k : ℕ) (e : K) → length b ≡ 11 → length c ≡ 11 → value_at k_ops (part_line (values_of values k) b c) e ≡ get_or (folded_all k_ops values (point_between k_ops b c e)) k zero_k
unfolding values_of
part_folds values b c k e u v =
    let same : length c ≡ length b = omega arith in
    let long : 11 ≡ length (point_between k_ops b c e) = omega (arith, length-point k_ops k_laws b c e same, u) in
    part_value (take 2048 (drop (k * 2048) values)) b c e u v
    ∙ block_fold k_ops k_laws values (point_between k_ops b c e) k 2048 (ap (λ (n : ℕ). 2 ^ n) long)

pub length-parts : (values b c : List K) (n : ℕ) → length (part_lines values b c n) ≡ n * 12
length-parts values b c zero = refl
length-parts values b c (suc n) =
    omega (arith, length-append (part_lines values b c n) (part_line (values_of values n) b c), length-parts values b c n, length-part (values_of values n) b c)

-- each part's line is a row
part_row : (values b c : List K) (n p : ℕ) (e : K) → p < n → row_value k_ops (part_lines values b c n) (p * 12) 12 e ≡ value_at k_ops (part_line (values_of values p) b c) e
part_row values b c zero p e u = absurd (omega arith)
part_row values b c (suc n) p e u = by_place (cases_eq p n) (λ w. part_row values b c n p e w)
  where
    by_place : (p ≡ n) ⊎ (p ≡ n → ⊥) → (p < n → row_value k_ops (part_lines values b c n) (p * 12) 12 e ≡ value_at k_ops (part_line (values_of values p) b c) e) →
        row_value k_ops (part_lines values b c n ++ part_line (values_of values n) b c) (p * 12) 12 e ≡ value_at k_ops (part_line (values_of values p) b c) e
    by_place (inl is) rest =
        let before : List K = part_lines values b c n in
        let last : List K = part_line (values_of values n) b c in
        let at : p * 12 ≡ length (part_lines values b c n) = omega (arith, length-parts values b c n, is) in
        let size : 12 ≡ length (part_line (values_of values n) b c) = sym (length-part (values_of values n) b c) in
        ap₂ (λ (x y : ℕ). row_value k_ops (before ++ last) x y e) at size
        ∙ row_behind k_ops k_laws before last e
        ∙ ap (λ (k : ℕ). value_at k_ops (part_line (values_of values k) b c) e) (sym is)
    by_place (inr ne) rest =
        let less : p < n = omega arith in
        row_ahead k_ops k_laws (part_lines values b c n) (part_line (values_of values n) b c) (p * 12) 12 e (omega (arith, length-parts values b c n, less)) ∙ rest less

-- so all are rows of the table with its first coordinates bound
pub parts_fold : (values b c : List K) (n : ℕ) (e : K) → length c ≡ length b → 11 ≤ length b → HaveFolds k_ops 11 n (part_lines values (take 11 b) (take 11 c) n) values b c e
parts_fold values b c n e v w p u =
    part_row values (take 11 b) (take 11 c) n p e u
    ∙ part_folds values (take 11 b) (take 11 c) p e (omega (arith, length-take 11 b)) (omega (arith, length-take 11 c))
    ∙ ap (λ (rs : List K). get_or (folded_all k_ops values rs) p zero_k) (points_cut k_ops k_laws 11 b c e v)
