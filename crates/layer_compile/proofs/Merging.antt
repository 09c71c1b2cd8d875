-- The row above a height, merged by number from the row below and the nodes of the next level
use Rattle.std.proofs.Common.{◌≡◌, ◌≢◌, ℕ, zero, suc, ◌+◌, ◌<◌, ◌≤◌, Bool, true, false, ◌&&◌, cond, List, [], ◌∷◌, ◌++◌, length, get_or, refl, sym, ap, ap₂, ◌∙◌, subst, arith}
use Rattle.std.specs.List.{filter, range_with_len}
use Rattle.std.proofs.lemmas.Bool.{and_parts, leb-true, le-leb, eqb-true, eq-eqb, false≢true}
use Rattle.std.proofs.lemmas.List.{length_push}
use Rattle.node_core.specs.Nodes.{Nodes}
use Rattle.layer_compile.specs.Levels.{level, levels, height_of, is_used_above}
use Rattle.layer_compile.specs.Next.{IsNext, has_level}
use Rattle.layer_compile.specs.Rows.{is_at, row, IsMerged}
use Rattle.layer_compile.proofs.UsedAbove.{used-lower}
use Rattle.layer_compile.proofs.Places.{filter_range_more, filter_range_yes, filter_range_no}
use Rattle.layer_compile.proofs.Next.{filter_gap, next_in_filter, next_past_filter}
use Rattle.layer_compile.proofs.Standing.{row_below, stands_from}

not_true : (b : Bool) → (b ≡ true → ⊥) → b ≡ false
not_true true h = absurd (h refl)
not_true false h = refl

module _ (n : Nodes) (h : ℕ) where
  -- a node that is at a height has at most its level
  pub level_low : (h k : ℕ) → is_at n h k ≡ true → level n k ≤ h
  level_low zero k e = let same : level n k ≡ 0 = eqb-true (level n k) 0 e in omega arith
  level_low (suc h) k e = leb-true (level n k) (suc h) (and_parts _ _ e).0

  -- it is at the next height where it is used above
  above_low : (k : ℕ) → level n k ≤ suc h → is_at n (suc h) k ≡ is_used_above n (suc h) k
  above_low k l = ap (λ b. b && is_used_above n (suc h) k) (le-leb (level n k) (suc h) l)

  -- a node of the next level isn't here
  new_apart : (k : ℕ) → level n k ≡ suc h → is_at n h k ≡ false
  new_apart k e = not_true (is_at n h k) (λ s. omega (arith, e, level_low h k s))

  -- what is neither here nor is of the next level isn't there
  nor_above : (k : ℕ) → is_at n h k ≡ false → has_level (levels n) (suc h) k ≡ false → is_at n (suc h) k ≡ false
  nor_above k old new =
      not_true (is_at n (suc h) k) (λ s.
      let parts = and_parts _ _ s in
      let low : level n k ≤ suc h = leb-true (level n k) (suc h) parts.0 in
      let other : level n k ≢ suc h = λ e. false≢true (sym new ∙ eq-eqb (level n k) (suc h) e) in
      let lower : level n k ≤ h = omega (arith, low, other) in
      false≢true (sym old ∙ stands_from n h k lower (used-lower n h (suc h) 0 n.nodes k (omega arith) parts.1)))

  pub merged_start : IsMerged n h 0 0 []
  merged_start = record { counted = refl; kept = refl }

  -- past numbers that are at neither height
  pub merged_gap : (from to taken : ℕ) (above : List ℕ) → IsMerged n h from taken above → from ≤ to → ((k : ℕ) → from ≤ k → k < to → is_at n h k ≡ false) → ((k : ℕ) → from ≤ k → k < to → has_level (levels n) (suc h) k ≡ false) → IsMerged n h to taken above
  merged_gap from to taken above is l old new = record {
    counted = is.counted ∙ ap length (sym (filter_gap (is_at n h) from to l old));
    kept = is.kept ∙ sym (filter_gap (is_at n (suc h)) from to l (λ k u v. nor_above k (old k u v) (new k u v)));
  }

  -- with a node of the row below
  pub merged_old : (up k taken : ℕ) (above added : List ℕ) → up ≡ suc h → IsMerged n h k taken above → is_at n h k ≡ true → added ≡ above ++ cond (is_used_above n up k) (k ∷ []) [] → IsMerged n h (k + 1) (taken + 1) added
  merged_old up k taken above added next is here e = record {
    counted = omega (arith, is.counted, ap length (filter_range_yes (is_at n h) k here), length_push (filter (is_at n h) (range_with_len 0 k)) k);
    kept = e ∙ ap₂ (λ xs b. xs ++ cond b (k ∷ []) []) is.kept (ap (λ i. is_used_above n i k) next ∙ sym (above_low k (let low = level_low h k here in omega (arith, low)))) ∙ sym (filter_range_more (is_at n (suc h)) k);
  }

  -- with a node of the next level
  pub merged_new : (up k taken : ℕ) (above added : List ℕ) → up ≡ suc h → IsMerged n h k taken above → level n k ≡ suc h → added ≡ above ++ cond (is_used_above n up k) (k ∷ []) [] → IsMerged n h (k + 1) taken added
  merged_new up k taken above added next is here e = record {
    counted = is.counted ∙ ap length (sym (filter_range_no (is_at n h) k (new_apart k here)));
    kept = e ∙ ap₂ (λ xs b. xs ++ cond b (k ∷ []) []) is.kept (ap (λ i. is_used_above n i k) next ∙ sym (above_low k (omega (arith, here)))) ∙ sym (filter_range_more (is_at n (suc h)) k);
  }

  -- the next of the row below
  pub next_below : (from taken : ℕ) (above below : List ℕ) → h < height_of n → from ≤ length n.nodes → IsMerged n h from taken above → below ≡ row n h → taken < length below → IsNext (is_at n h) (length n.nodes) from (get_or below taken 0) × (get_or below taken 0 < length n.nodes)
  next_below from taken above below l within is e more =
      let rows = filter (is_at n h) (range_with_len 0 (length n.nodes)) in
      let same : below ≡ rows = e ∙ row_below n h l in
      let next = next_in_filter (is_at n h) (length n.nodes) from taken within is.counted (subst (λ xs. taken < length xs) same more) in
      subst (λ xs. IsNext (is_at n h) (length n.nodes) from (get_or xs taken 0) × (get_or xs taken 0 < length n.nodes)) (sym same) next

  -- where the row below is at its end, none is left
  pub none_below : (from taken : ℕ) (above below : List ℕ) → h < height_of n → from ≤ length n.nodes → IsMerged n h from taken above → below ≡ row n h → length below ≤ taken → IsNext (is_at n h) (length n.nodes) from (length n.nodes) × (taken ≡ length below)
  none_below from taken above below l within is e ended =
      let same : below ≡ filter (is_at n h) (range_with_len 0 (length n.nodes)) = e ∙ row_below n h l in
      let none = next_past_filter (is_at n h) (length n.nodes) from taken within is.counted (subst (λ xs. length xs ≤ taken) same ended) in
      (none, is.counted ∙ ap length (sym (filter_gap (is_at n h) from (length n.nodes) within none.none)) ∙ ap length (sym same))

  -- the next of the row below is there after as many as were taken
  pub at_hand : (from taken : ℕ) (above below : List ℕ) → h < height_of n → from ≤ length n.nodes → IsMerged n h from taken above → below ≡ row n h → taken < length below → (is_at n h (get_or below taken 0) ≡ true) × (taken ≡ length (filter (is_at n h) (range_with_len 0 (get_or below taken 0))))
  at_hand from taken above below l within is e more =
      let next = next_below from taken above below l within is e more in
      (next.0.here next.1, is.counted ∙ ap length (sym (filter_gap (is_at n h) from (get_or below taken 0) next.0.past next.0.none)))
