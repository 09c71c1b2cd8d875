-- Places written along a row
use Rattle.std.proofs.Common.{◌≡◌, ◌≢◌, ℕ, zero, suc, ◌+◌, ◌<◌, ◌≤◌, Bool, true, List, [], ◌∷◌, ◌++◌, length, get_or, set, sym, ap, ◌∙◌, subst, inl, inr, arith, get_or-set_same, get_or-set_other}
use Rattle.std.specs.List.{filter, range_with_len}
use Rattle.std.proofs.lemmas.Bool.{cases_lt, cases_eq, cases_Bool}
use Rattle.std.proofs.lemmas.List.{get_or_append_left, get_or_push, length_push}
use Rattle.layer_compile.proofs.Places.{filter_range_yes, filter_range_no, filter_at}

module _ (p : ℕ → Bool) where
  -- the numbers below one that pass
  abbrev pub those_below : ℕ → List ℕ
  those_below k = filter p (range_with_len 0 k)

  pub few_below : (k : ℕ) → length (those_below k) ≤ k
  few_below zero = omega arith
  few_below (suc k) =
      let next : suc k ≡ k + 1 = omega arith in
      let moved : those_below (suc k) ≡ those_below (k + 1) = ap (λ (m : ℕ). those_below m) next in
      elim (cases_Bool (p k)) [
        | inl passes ↦ omega (arith, few_below k, ap length (moved ∙ filter_range_yes p k passes), length_push (those_below k) k)
        | inr fails ↦ omega (arith, few_below k, ap length (moved ∙ filter_range_no p k fails))
      ]

  -- as many that pass are before an element as its index says
  pub filter_rank : (many i d : ℕ) → i < length (those_below many) → length (those_below (get_or (those_below many) i d)) ≡ i
  filter_rank zero i d l = absurd (omega arith)
  filter_rank (suc many) i d l =
      let next : suc many ≡ many + 1 = omega arith in
      let moved : those_below (suc many) ≡ those_below (many + 1) = ap (λ (m : ℕ). those_below m) next in
      elim (cases_Bool (p many)) [
        | inl passes ↦
            let pushed : those_below (suc many) ≡ those_below many ++ many ∷ [] = moved ∙ filter_range_yes p many passes in
            elim (cases_lt i (length (those_below many))) [
              | inl earlier ↦
                  ap (λ xs. length (those_below (get_or xs i d))) pushed
                  ∙ ap (λ (k : ℕ). length (those_below k)) (get_or_append_left (those_below many) (many ∷ []) d i earlier)
                  ∙ filter_rank many i d earlier
              | inr last ↦
                  let same : length (those_below many) ≡ i = omega (arith, l, last, ap length pushed, length_push (those_below many) many) in
                  ap (λ xs. length (those_below (get_or xs i d))) pushed
                  ∙ ap (λ (k : ℕ). length (those_below k)) (get_or_push (those_below many) many d i same)
                  ∙ same
            ]
        | inr fails ↦
            let kept : those_below (suc many) ≡ those_below many = moved ∙ filter_range_no p many fails in
            ap (λ xs. length (those_below (get_or xs i d))) kept
            ∙ filter_rank many i d (subst (λ xs. i < length xs) kept l)
      ]

  -- the places of those before index i in the row
  pub record AreWritten (many i : ℕ) (places : List ℕ) : Type 0 where
    pub each : (k : ℕ) → k < many → p k ≡ true → length (those_below k) < i → get_or places k 0 ≡ 1 + length (those_below k)

  pub written_more : (many i x : ℕ) (places : List ℕ) → many ≤ length places → AreWritten many i places → i < length (those_below many) → x ≡ get_or (those_below many) i 0 → AreWritten many (i + 1) (set places x (i + 1))
  written_more many i x places capacity so_far l read = record {
    each = λ k u passes before.
        elim (cases_eq k x) [
          | inl here ↦
              let rank : length (those_below k) ≡ i = ap (λ (j : ℕ). length (those_below j)) (here ∙ read) ∙ filter_rank many i 0 l in
              ap (λ (j : ℕ). get_or (set places x (i + 1)) j 0) here ∙ get_or-set_same places x (i + 1) 0 (omega (arith, here, u, capacity)) ∙ (let e : i + 1 ≡ 1 + length (those_below k) = omega (arith, rank) in e)
          | inr other ↦
              let apart : k ≢ x = other in
              let earlier : length (those_below k) ≢ i = λ e. other (sym (filter_at p many k 0 u passes) ∙ ap (λ (j : ℕ). get_or (those_below many) j 0) e ∙ sym read) in
              get_or-set_other places x k (i + 1) 0 apart ∙ so_far.each k u passes (omega (arith, before, earlier))
        ];
  }
