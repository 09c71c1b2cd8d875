-- The steps of folding rows
use Rattle.std.proofs.Common.{◌≡◌, ◌≢◌, ℕ, zero, suc, ◌+◌, ◌-◌, ◌*◌, ◌/◌, ◌%◌, ◌^◌, ◌<◌, ◌≤◌, List, [], ◌∷◌, ◌++◌, length, get_or, set, take, refl, sym, ◌∙◌, ap, ap₂, subst, arith, pow-suc, add-one, get_or-set_same, get_or-set_other, append-nil, take_all}
use Rattle.std.proofs.Math.Nat.{mul-le-mul_left}
use Rattle.std.proofs.lemmas.List.{take_more}
use Rattle.field_ext.specs.Ring.{Ops, Laws}
use Rattle.field_ext.specs.Polynomial.{value_at, power}
use Rattle.field_ext.specs.Multilinear.{extension_at, folded, folded_all}
use Rattle.gkr_layers.specs.Sumcheck.{point_between}
use Rattle.field_ext.proofs.api.Solve.{var, nil, unit, ◌⊕◌, ◌⊗◌, minus, solve}
use Rattle.mle_table.proofs.api.EqualitySteps.{pow_up}
use Rattle.mle_table.proofs.api.Fold.{fold-at}
use Rattle.mle_table.proofs.api.Points.{ext-nil, ext-folded_all}
use Rattle.line_reduce.specs.Rows.{row_value, between}

module _ {A : Type 0} (o : Ops A) where
  -- a row and what is still to be added at its end
  abbrev pub carried : List A → ℕ → ℕ → A → A → A
  carried xs at n carry e = o.add (row_value o xs at n e) (o.mul (power o e n) carry)

module _ {A : Type 0} (o : Ops A) (l : Laws A o) where
  -- a row reads its own places alone
  pub row-same : (xs ys : List A) (at n : ℕ) (e : A) → ((x : ℕ) → at ≤ x → x < at + n → get_or xs x o.zero ≡ get_or ys x o.zero) → row_value o xs at n e ≡ row_value o ys at n e
  row-same xs ys at zero e h = refl
  row-same xs ys at (suc n) e h = ap₂ (λ (x y : A). o.add x (o.mul e y)) (h at (omega arith) (omega arith)) (row-same xs ys (at + 1) n e (λ x u v. h x (omega arith) (omega arith)))

  -- one coefficient more at the end of a row
  pub row_end : (xs : List A) (at n : ℕ) (e : A) → row_value o xs at (suc n) e ≡ o.add (row_value o xs at n e) (o.mul (power o e n) (get_or xs (at + n) o.zero))
  row_end xs at zero e =
      let here : at ≡ at + 0 = omega arith in
      solve o l (get_or xs at o.zero ∷ e ∷ []) (var 0 ⊕ var 1 ⊗ nil) (nil ⊕ unit ⊗ var 0) refl
      ∙ ap (λ (x : ℕ). o.add o.zero (o.mul o.one (get_or xs x o.zero))) here
  row_end xs at (suc n) e =
      let next : at + 1 + n ≡ at + suc n = omega arith in
      ap (λ (x : A). o.add (get_or xs at o.zero) (o.mul e x)) (row_end xs (at + 1) n e)
      ∙ solve o l (get_or xs at o.zero ∷ e ∷ row_value o xs (at + 1) n e ∷ power o e n ∷ get_or xs (at + 1 + n) o.zero ∷ [])
      (var 0 ⊕ var 1 ⊗ (var 2 ⊕ var 3 ⊗ var 4)) (var 0 ⊕ var 1 ⊗ var 2 ⊕ var 1 ⊗ var 3 ⊗ var 4) refl
      ∙ ap (λ (x : ℕ). o.add (o.add (get_or xs at o.zero) (o.mul e (row_value o xs (at + 1) n e))) (o.mul (o.mul e (power o e n)) (get_or xs x o.zero))) next

  -- and where it is written there
  pub row_written : (xs : List A) (at n : ℕ) (x e : A) → at + n < length xs → row_value o (set xs (at + n) x) at (n + 1) e ≡ o.add (row_value o xs at n e) (o.mul (power o e n) x)
  row_written xs at n x e u =
      let more : n + 1 ≡ suc n = add-one n in
      (λ i. row_value o (set xs (at + n) x) at (more i) e)
      ∙ row_end (set xs (at + n) x) at n e
      ∙ ap₂ (λ (y z : A). o.add y (o.mul (power o e n) z))
      (row-same (set xs (at + n) x) xs at n e (λ j _ v. let ne : j ≢ at + n = omega arith in get_or-set_other xs (at + n) j x o.zero ne))
      (get_or-set_same xs (at + n) x o.zero u)

  -- one more coefficient of two rows that are folded
  pub fold_step : (rows old : List A) (to at at' i : ℕ) (start step low high d first carry next e : A) → to + i < length rows →
      low ≡ get_or old (at + i) o.zero → high ≡ get_or old (at' + i) o.zero → d ≡ o.add high (o.neg low) →
      first ≡ o.add (o.add low (o.mul start d)) carry → next ≡ o.mul step d →
      carried o rows to i carry e ≡ between o (row_value o old at i e) (row_value o old at' i e) (o.add start (o.mul e step)) →
      carried o (set rows (to + i) first) to (i + 1) next e ≡ between o (row_value o old at (i + 1) e) (row_value o old at' (i + 1) e) (o.add start (o.mul e step))
  fold_step rows old to at at' i start step low high d first carry next e capacity hl hh hd hf hn before =
      let more : i + 1 ≡ suc i = add-one i in
      let P : A = power o e i in
      let R : A = row_value o rows to i e in
      let L : A = row_value o old at i e in
      let H : A = row_value o old at' i e in
      ap₂ (λ (x : A) (k : ℕ). o.add x (o.mul (power o e k) next)) (row_written rows to i first e capacity) more
      ∙ ap₂ (λ (x y : A). o.add (o.add R (o.mul P x)) (o.mul (o.mul e P) y)) hf hn
      ∙ solve o l (R ∷ P ∷ low ∷ start ∷ d ∷ carry ∷ e ∷ step ∷ [])
      (var 0 ⊕ var 1 ⊗ (var 2 ⊕ var 3 ⊗ var 4 ⊕ var 5) ⊕ var 6 ⊗ var 1 ⊗ (var 7 ⊗ var 4))
      (var 0 ⊕ var 1 ⊗ var 5 ⊕ var 1 ⊗ (var 2 ⊕ (var 3 ⊕ var 6 ⊗ var 7) ⊗ var 4)) refl
      ∙ ap₂ (λ (x y : A). o.add x (o.mul P (o.add low (o.mul (o.add start (o.mul e step)) y)))) before hd
      ∙ solve o l (L ∷ H ∷ P ∷ low ∷ high ∷ start ∷ e ∷ step ∷ [])
      (var 0 ⊕ (var 5 ⊕ var 6 ⊗ var 7) ⊗ (var 1 ⊕ minus (var 0)) ⊕ var 2 ⊗ (var 3 ⊕ (var 5 ⊕ var 6 ⊗ var 7) ⊗ (var 4 ⊕ minus (var 3))))
      (var 0 ⊕ var 2 ⊗ var 3 ⊕ (var 5 ⊕ var 6 ⊗ var 7) ⊗ (var 1 ⊕ var 2 ⊗ var 4 ⊕ minus (var 0 ⊕ var 2 ⊗ var 3))) refl
      ∙ ap₂ (λ (x y : A). between o (o.add L (o.mul P x)) (o.add H (o.mul P y)) (o.add start (o.mul e step))) hl hh
      ∙ sym (ap₂ (λ (x y : A). between o x y (o.add start (o.mul e step)))
      ((λ k. row_value o old at (more k) e) ∙ row_end old at i e)
      ((λ k. row_value o old at' (more k) e) ∙ row_end old at' i e))

  -- rows without coefficients
  pub fold_none : (rows old : List A) (to at at' : ℕ) (start step carry e : A) → carry ≡ o.zero →
      carried o rows to 0 carry e ≡ between o (row_value o old at 0 e) (row_value o old at' 0 e) (o.add start (o.mul e step))
  fold_none rows old to at at' start step carry e h =
      ap (λ (x : A). o.add o.zero (o.mul o.one x)) h
      ∙ solve o l (start ∷ e ∷ step ∷ []) (nil ⊕ unit ⊗ nil) (nil ⊕ (var 0 ⊕ var 1 ⊗ var 2) ⊗ (nil ⊕ minus nil)) refl

  -- a list is its own row
  pub row-shift : (x : A) (xs : List A) (at n : ℕ) (e : A) → row_value o (x ∷ xs) (suc at) n e ≡ row_value o xs at n e
  row-shift x xs at zero e = refl
  row-shift x xs at (suc n) e = let s : suc at + 1 ≡ suc (at + 1) = omega arith in ap (λ (y : A). o.add (get_or xs at o.zero) (o.mul e y)) ((λ i. row_value o (x ∷ xs) (s i) n e) ∙ row-shift x xs (at + 1) n e)

  pub row-whole : (xs : List A) (e : A) → row_value o xs 0 (length xs) e ≡ value_at o xs e
  row-whole [] e = refl
  row-whole (x ∷ xs) e = ap (λ (y : A). o.add x (o.mul e y)) (row-shift x xs 0 (length xs) e ∙ row-whole xs e)

  -- to fold by one more coordinate
  pub folded_all-more : (t rs : List A) (r : A) → folded_all o t (rs ++ r ∷ []) ≡ folded o (folded_all o t rs) r
  folded_all-more t [] r = refl
  folded_all-more t (s ∷ rs) r = folded_all-more (folded o t s) rs r

  pub point-at : (b c : List A) (e : A) (j : ℕ) → j < length b → length c ≡ length b →
      get_or (point_between o b c e) j o.zero ≡ o.add (get_or b j o.zero) (o.mul e (o.add (get_or c j o.zero) (o.neg (get_or b j o.zero))))
  point-at [] c e j u v = absurd (omega arith)
  point-at (b ∷ bs) [] e j u v = absurd (omega arith)
  point-at (b ∷ bs) (c ∷ cs) e zero u v = refl
  point-at (b ∷ bs) (c ∷ cs) e (suc j) u v = point-at bs cs e j (omega arith) (omega arith)

  pub length-point : (b c : List A) (e : A) → length c ≡ length b → length (point_between o b c e) ≡ length b
  length-point [] c e v = refl
  length-point (b ∷ bs) [] e v = absurd (omega arith)
  length-point (b ∷ bs) (c ∷ cs) e v = ap (λ (k : ℕ). suc k) (length-point bs cs e (omega arith))

-- the rows that pairs before a pair are folded to lie before it
pub row_before : (p n : ℕ) → 1 ≤ n → p * (n + 1) ≤ 2 * p * n
row_before p n u = let h : p * 1 ≤ p * n = mul-le-mul_left p u in omega (arith, h)

pub pair_fits : (p count n : ℕ) → p < count → 2 * p * n + 2 * n ≤ 2 * count * n
pair_fits p count n u = let h : n * (p + 1) ≤ n * count = mul-le-mul_left n (let v : p + 1 ≤ count = omega arith in v) in omega (arith, h)

pub row_fits : (p count n : ℕ) → p < count → p * n + n ≤ count * n
row_fits p count n u = let h : n * (p + 1) ≤ n * count = mul-le-mul_left n (let v : p + 1 ≤ count = omega arith in v) in omega (arith, h)

module _ {A : Type 0} (o : Ops A) (l : Laws A o) where
  -- folded rows have the values of the table folded by one more coordinate of the line's point
  pub rows_more : (old new t b c : List A) (j p : ℕ) (start step e : A) → j < length b → length c ≡ length b →
      start ≡ get_or b j o.zero → step ≡ o.add (get_or c j o.zero) (o.neg (get_or b j o.zero)) →
      row_value o old (2 * p * (j + 1)) (j + 1) e ≡ get_or (folded_all o t (take j (point_between o b c e))) (p * 2) o.zero →
      row_value o old (2 * p * (j + 1) + (j + 1)) (j + 1) e ≡ get_or (folded_all o t (take j (point_between o b c e))) (p * 2 + 1) o.zero →
      row_value o new (p * (j + 1 + 1)) (j + 1 + 1) e ≡ between o (row_value o old (2 * p * (j + 1)) (j + 1) e) (row_value o old (2 * p * (j + 1) + (j + 1)) (j + 1) e) (o.add start (o.mul e step)) →
      row_value o new (p * (j + 1 + 1)) (j + 1 + 1) e ≡ get_or (folded_all o t (take (j + 1) (point_between o b c e))) p o.zero
  rows_more old new t b c j p start step e u v hs ht low high folded =
      let pt : List A = point_between o b c e in
      let r : A = get_or pt j o.zero in
      let T : List A = folded_all o t (take j pt) in
      let is : o.add start (o.mul e step) ≡ get_or (point_between o b c e) j o.zero = (λ k. o.add (hs k) (o.mul e (ht k))) ∙ sym (point-at o l b c e j u v) in
      let w : j < length (point_between o b c e) = omega (arith, length-point o l b c e v) in
      folded
      ∙ (λ k. between o (low k) (high k) (is k))
      ∙ sym (fold-at o l T r p)
      ∙ ap (λ (s : List A). get_or s p o.zero) (sym (folded_all-more o l t (take j pt) r) ∙ ap (folded_all o t) (sym (take_more pt j o.zero w)))

  -- a table folded by every coordinate has the extension's value
  pub folded_all-value : (t b c : List A) (e : A) (j : ℕ) → length c ≡ length b → length b ≤ j → get_or (folded_all o t (take j (point_between o b c e))) 0 o.zero ≡ extension_at o o (λ x. x) t (point_between o b c e)
  folded_all-value t b c e j v u =
      let pt : List A = point_between o b c e in
      let all : take j (point_between o b c e) ≡ point_between o b c e = take_all j pt (omega (arith, length-point o l b c e v)) in
      ap (λ (s : List A). get_or (folded_all o t s) 0 o.zero) all
      ∙ sym (ext-nil o l (folded_all o t pt))
      ∙ ext-folded_all o l t pt []
      ∙ ap (extension_at o o (λ x. x) t) (append-nil pt)

pub even_count : (k j count : ℕ) → j < k → count ≡ 2 ^ (k - j) → (count ≡ 2 * (count / 2)) × (count / 2 ≡ 2 ^ (k - (j + 1)))
even_count k j count u e =
    let s : k - j ≡ suc (k - (j + 1)) = omega arith in
    let d : count ≡ 2 ^ (k - (j + 1)) * 2 = e ∙ ap (λ (i : ℕ). 2 ^ i) s ∙ pow-suc 2 (k - (j + 1)) in
    (omega arith, omega arith)

-- half as many rows with one coefficient more need no more places
pub rows_shrink : (count n size : ℕ) → count ≡ 2 * (count / 2) → count * (n + 1) ≤ size → count / 2 * (n + 1 + 1) ≤ size
rows_shrink count n size even fits = rows_halved (count / 2) n size (subst (λ (c : ℕ). c * (n + 1) ≤ size) even fits)
  where
    rows_halved : (h n size : ℕ) → 2 * h * (n + 1) ≤ size → h * (n + 1 + 1) ≤ size
    rows_halved h n size fits = omega arith

-- a power of two that fits a word
pub shifted : (n : ℕ) → n ≤ 20 → 1 * 2 ^ n % 18446744073709551616 ≡ 2 ^ n
shifted n u = let most : 2 ^ n ≤ 2 ^ 20 = pow_up n 20 u in omega (arith, most)

module _ {A : Type 0} (o : Ops A) (l : Laws A o) where
  -- a table is rows of one coefficient each
  pub rows_begin : (xs t : List A) (p : ℕ) (e : A) → xs ≡ t → row_value o xs (p * 1) 1 e ≡ get_or t p o.zero
  rows_begin xs t p e h =
      let one : p * 1 ≡ p = omega arith in
      solve o l (get_or xs (p * 1) o.zero ∷ e ∷ []) (var 0 ⊕ var 1 ⊗ nil) (var 0) refl ∙ (λ i. get_or (h i) (one i) o.zero)
