-- The steps of writing rows of weights
use Rattle.std.proofs.Common.{◌≡◌, ◌≢◌, ℕ, suc, ◌+◌, ◌-◌, ◌*◌, ◌^◌, ◌<◌, ◌≤◌, ◌⊎◌, inl, inr, List, [], ◌∷◌, ◌++◌, length, get_or, set, take, length-take, refl, sym, ◌∙◌, ap, ap₂, arith, pow-suc, add-one, get_or-set_other}
use Rattle.std.proofs.Math.Nat.{mul-le-mul_left}
use Rattle.std.proofs.lemmas.List.{length-set, take_more}
use Rattle.std.proofs.lemmas.Bool.{cases_lt}
use Rattle.field_ext.specs.Ring.{Ops, Laws}
use Rattle.field_ext.specs.Polynomial.{power}
use Rattle.field_ext.specs.Multilinear.{eq_poly}
use Rattle.gkr_layers.specs.Sumcheck.{point_between}
use Rattle.field_ext.proofs.api.Solve.{var, nil, unit, ◌⊕◌, ◌⊗◌, minus, solve}
use Rattle.mle_table.proofs.api.EqualitySteps.{eq-low, eq-high, doubling_fits}
use Rattle.line_reduce.specs.Rows.{row_value, AreWeights}
use Rattle.line_reduce.proofs.Steps.{row-same, row_end, row_written, carried, point-at, length-point}

module _ {A : Type 0} (o : Ops A) (l : Laws A o) where
  -- a place outside a row
  row_apart : (xs : List A) (j at n : ℕ) (x e : A) → ((k : ℕ) → at ≤ k → k < at + n → k ≢ j) → row_value o (set xs j x) at n e ≡ row_value o xs at n e
  row_apart xs j at n x e apart = row-same o l (set xs j x) xs at n e (λ k u v. get_or-set_other xs j k x o.zero (apart k u v))

  module _ (rows old : List A) (to at i : ℕ) (apart : at + i < to) (capacity : to + i < length rows) where
    -- the row that a coefficient is written to, where another is written before it
    upper : (first rest e : A) → row_value o (set (set rows (to + i) first) (at + i) rest) to (i + 1) e ≡ o.add (row_value o rows to i e) (o.mul (power o e i) first)
    upper first rest e = row_apart (set rows (to + i) first) (at + i) to (i + 1) rest e (λ k u v. omega arith) ∙ row_written o l rows to i first e capacity

    lower : (first rest e : A) → row_value o (set (set rows (to + i) first) (at + i) rest) at (i + 1) e ≡ o.add (row_value o rows at i e) (o.mul (power o e i) rest)
    lower first rest e =
        row_written o l (set rows (to + i) first) at i rest e (omega (arith, length-set rows (to + i) first))
        ∙ ap (λ (x : A). o.add x (o.mul (power o e i) rest)) (row_apart rows (to + i) at i first e (λ k u v. omega arith))

    -- one more coefficient of what a row is times a polynomial
    pub high_step : (start step here first carry next rest e : A) →
        here ≡ get_or old (at + i) o.zero → first ≡ o.add (o.mul start here) carry → next ≡ o.mul step here →
        carried o rows to i carry e ≡ o.mul (o.add start (o.mul e step)) (row_value o old at i e) →
        carried o (set (set rows (to + i) first) (at + i) rest) to (i + 1) next e ≡ o.mul (o.add start (o.mul e step)) (row_value o old at (i + 1) e)
    high_step start step here first carry next rest e hl hf hn before =
        let more : i + 1 ≡ suc i = add-one i in
        let P : A = power o e i in
        let R : A = row_value o rows to i e in
        let V : A = row_value o old at i e in
        ap₂ (λ (x : A) (k : ℕ). o.add x (o.mul (power o e k) next)) (upper first rest e) more
        ∙ ap₂ (λ (x y : A). o.add (o.add R (o.mul P x)) (o.mul (o.mul e P) y)) hf hn
        ∙ solve o l (R ∷ P ∷ start ∷ here ∷ carry ∷ e ∷ step ∷ [])
        (var 0 ⊕ var 1 ⊗ (var 2 ⊗ var 3 ⊕ var 4) ⊕ var 5 ⊗ var 1 ⊗ (var 6 ⊗ var 3))
        (var 0 ⊕ var 1 ⊗ var 4 ⊕ (var 2 ⊕ var 5 ⊗ var 6) ⊗ (var 1 ⊗ var 3)) refl
        ∙ ap (λ (x : A). o.add x (o.mul (o.add start (o.mul e step)) (o.mul P here))) before
        ∙ sym (l.mul_add (o.add start (o.mul e step)) V (o.mul P here))
        ∙ ap (λ (x : A). o.mul (o.add start (o.mul e step)) (o.add V (o.mul P x))) hl
        ∙ sym (ap (o.mul (o.add start (o.mul e step))) ((λ k. row_value o old at (more k) e) ∙ row_end o l old at i e))

    -- and of what is left of the row
    pub low_step : (here first rest e : A) → here ≡ get_or old (at + i) o.zero → rest ≡ o.add here (o.neg first) →
        row_value o rows at i e ≡ o.add (row_value o old at i e) (o.neg (row_value o rows to i e)) →
        row_value o (set (set rows (to + i) first) (at + i) rest) at (i + 1) e
        ≡ o.add (row_value o old at (i + 1) e) (o.neg (row_value o (set (set rows (to + i) first) (at + i) rest) to (i + 1) e))
    low_step here first rest e hl hr before =
        let more : i + 1 ≡ suc i = add-one i in
        let P : A = power o e i in
        let R : A = row_value o rows to i e in
        let V : A = row_value o old at i e in
        lower first rest e
        ∙ ap₂ (λ (x y : A). o.add x (o.mul P y)) before hr
        ∙ solve o l (V ∷ R ∷ P ∷ here ∷ first ∷ [])
        (var 0 ⊕ minus (var 1) ⊕ var 2 ⊗ (var 3 ⊕ minus (var 4))) (var 0 ⊕ var 2 ⊗ var 3 ⊕ minus (var 1 ⊕ var 2 ⊗ var 4)) refl
        ∙ ap (λ (x : A). o.add (o.add V (o.mul P x)) (o.neg (o.add R (o.mul P first)))) hl
        ∙ sym (ap₂ (λ (x y : A). o.add x (o.neg y)) ((λ k. row_value o old at (more k) e) ∙ row_end o l old at i e) (upper first rest e))

    -- what is carried is the last coefficient
    pub high_end : (start step carry rest e : A) → carried o rows to i carry e ≡ o.mul (o.add start (o.mul e step)) (row_value o old at i e) →
        row_value o (set (set rows (to + i) carry) (at + i) rest) to (i + 1) e ≡ o.mul (o.add start (o.mul e step)) (row_value o old at i e)
    high_end start step carry rest e before = upper carry rest e ∙ before

    pub low_end : (carry rest e : A) → rest ≡ o.add o.zero (o.neg carry) → row_value o rows at i e ≡ o.add (row_value o old at i e) (o.neg (row_value o rows to i e)) →
        row_value o (set (set rows (to + i) carry) (at + i) rest) at (i + 1) e
        ≡ o.add (row_value o old at i e) (o.neg (row_value o (set (set rows (to + i) carry) (at + i) rest) to (i + 1) e))
    low_end carry rest e hr before =
        lower carry rest e
        ∙ ap₂ (λ (x y : A). o.add x (o.mul (power o e i) y)) before hr
        ∙ solve o l (row_value o old at i e ∷ row_value o rows to i e ∷ power o e i ∷ carry ∷ [])
        (var 0 ⊕ minus (var 1) ⊕ var 2 ⊗ (nil ⊕ minus (var 3))) (var 0 ⊕ minus (var 1 ⊕ var 2 ⊗ var 3)) refl
        ∙ sym (ap (λ (x : A). o.add (row_value o old at i e) (o.neg x)) (upper carry rest e))

  -- rows without coefficients
  pub high_none : (rows old : List A) (to at : ℕ) (start step carry e : A) → carry ≡ o.zero →
      carried o rows to 0 carry e ≡ o.mul (o.add start (o.mul e step)) (row_value o old at 0 e)
  high_none rows old to at start step carry e h =
      ap (λ (x : A). o.add o.zero (o.mul o.one x)) h
      ∙ solve o l (start ∷ e ∷ step ∷ []) (nil ⊕ unit ⊗ nil) ((var 0 ⊕ var 1 ⊗ var 2) ⊗ nil) refl

  pub low_none : (rows old : List A) (to at : ℕ) (e : A) → row_value o rows at 0 e ≡ o.add (row_value o old at 0 e) (o.neg (row_value o rows to 0 e))
  low_none rows old to at e = solve o l [] nil (nil ⊕ minus nil) refl

  -- with no coordinate the one weight is 1
  pub weights_begin : (ws b c : List A) (width : ℕ) (e : A) → get_or ws 0 o.zero ≡ o.one → AreWeights o 0 width ws b c e
  weights_begin ws b c width e one q u =
      let first : q ≡ 0 = omega arith in
      let none : 0 * width ≡ 0 = omega arith in
      let place : q * width ≡ 0 = ap (λ (x : ℕ). x * width) first ∙ none in
      (λ i. row_value o ws (place i) 1 e)
      ∙ ap (λ (x : A). o.add x (o.mul e o.zero)) one
      ∙ solve o l (e ∷ []) (unit ⊕ var 0 ⊗ nil) unit refl

  -- the weights for one more coordinate
  pub weights_more : (rows rows' b c : List A) (j width size : ℕ) (start step e : A) → j < length b → length c ≡ length b → size ≡ 2 ^ j →
      start ≡ get_or b j o.zero → step ≡ o.add (get_or c j o.zero) (o.neg (get_or b j o.zero)) →
      ((q : ℕ) → q < size → row_value o rows' ((size + q) * width) (j + 1 + 1) e ≡ o.mul (o.add start (o.mul e step)) (row_value o rows (q * width) (j + 1) e)) →
      ((q : ℕ) → q < size → row_value o rows' (q * width) (j + 1 + 1) e ≡ o.add (row_value o rows (q * width) (j + 1) e) (o.neg (o.mul (o.add start (o.mul e step)) (row_value o rows (q * width) (j + 1) e)))) →
      AreWeights o j width rows b c e → AreWeights o (j + 1) width rows' b c e
  weights_more rows rows' b c j width size start step e u v whole hs ht high low before q w = by_half (cases_lt q size)
    where
      inside : j < length (point_between o b c e)
      inside = omega (arith, length-point o l b c e v)

      long : length (take j (point_between o b c e)) ≡ j
      long = omega (arith, length-take j (point_between o b c e), length-point o l b c e v)

      size_is : size ≡ 2 ^ length (take j (point_between o b c e))
      size_is = whole ∙ ap (λ (k : ℕ). 2 ^ k) (sym long)

      factor : o.add start (o.mul e step) ≡ get_or (point_between o b c e) j o.zero
      factor = (λ k. o.add (hs k) (o.mul e (ht k))) ∙ sym (point-at o l b c e j u v)

      front : take (j + 1) (point_between o b c e) ≡ take j (point_between o b c e) ++ get_or (point_between o b c e) j o.zero ∷ []
      front = take_more (point_between o b c e) j o.zero inside

      twice : 2 ^ (j + 1) ≡ 2 ^ j * 2
      twice = ap (λ (k : ℕ). 2 ^ k) (add-one j) ∙ pow-suc 2 j

      by_half : (q < size) ⊎ (size ≤ q) → row_value o rows' (q * width) (j + 1 + 1) e ≡ eq_poly o (take (j + 1) (point_between o b c e)) q
      by_half (inl h) =
          let us : List A = take j (point_between o b c e) in
          let r : A = get_or (point_between o b c e) j o.zero in
          low q h
          ∙ ap₂ (λ (x y : A). o.add x (o.neg (o.mul y x))) (before q (omega (arith, whole, h))) factor
          ∙ solve o l (eq_poly o us q ∷ r ∷ []) (var 0 ⊕ minus (var 1 ⊗ var 0)) (var 0 ⊗ (unit ⊕ minus (var 1))) refl
          ∙ sym (eq-low o l us r q (omega (arith, size_is, h)))
          ∙ ap (λ (xs : List A). eq_poly o xs q) (sym front)
      by_half (inr h) =
          let us : List A = take j (point_between o b c e) in
          let r : A = get_or (point_between o b c e) j o.zero in
          let i : q ≡ size + (q - size) = omega arith in
          let back : q - size + 2 ^ length (take j (point_between o b c e)) ≡ q = omega (arith, size_is, h) in
          let less : q - size < size = omega (arith, twice, whole, w) in
          (λ k. row_value o rows' (i k * width) (j + 1 + 1) e)
          ∙ high (q - size) less
          ∙ ap₂ o.mul factor (before (q - size) (omega (arith, whole, less)))
          ∙ l.mul_comm r (eq_poly o us (q - size))
          ∙ sym (eq-high o l us r (q - size) (omega (arith, size_is, less)))
          ∙ ap₂ (eq_poly o) (sym front) back

-- rows of weights double within their buffer
pub weights_fit : (j known size places : ℕ) → j < known → size ≡ 2 ^ j → 2 ^ known * (known + 1) ≤ places → 2 * size * (known + 1) ≤ places
weights_fit j known size places u e fits =
    let half : 2 * size ≤ 2 ^ known = doubling_fits j known (2 ^ known) size u e (let v : 2 ^ known ≤ 2 ^ known = omega arith in v) in
    let h : (known + 1) * (2 * size) ≤ (known + 1) * 2 ^ known = mul-le-mul_left (known + 1) half in
    omega (arith, h, fits)
