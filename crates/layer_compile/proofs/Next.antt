-- The next number that passes a test, in a filtered range
use Rattle.std.proofs.Common.{◌≡◌, ℕ, zero, suc, ◌+◌, ◌-◌, ◌<◌, ◌≤◌, Bool, true, false, cond, List, [], ◌∷◌, ◌++◌, length, get_or, refl, sym, ap, ◌∙◌, subst, inl, inr, ◌⊎◌, arith, length-append}
use Rattle.std.specs.List.{filter, range_with_len}
use Rattle.std.proofs.lemmas.Bool.{cases_lt, cases_Bool}
use Rattle.std.proofs.lemmas.List.{get_or-append_right}
use Rattle.std.proofs.lemmas.List.Elements.{filter-append}
use Rattle.layer_compile.specs.Next.{IsNext}
use Rattle.layer_compile.proofs.Places.{range_split, filter_range_no}

module _ (p : ℕ → Bool) (many : ℕ) where
  pub next_none : IsNext p many many many
  next_none = record { past = omega arith; within = omega arith; here = λ l. absurd (omega arith); none = λ k l u. absurd (omega arith) }

  pub next_here : (k : ℕ) → k < many → p k ≡ true → IsNext p many k k
  next_here k l e = record { past = omega arith; within = omega arith; here = λ u. e; none = λ i u v. absurd (omega arith) }

  -- one number earlier, which doesn't pass
  pub next_earlier : (k next : ℕ) → p k ≡ false → IsNext p many (k + 1) next → IsNext p many k next
  next_earlier k next e is = record {
    past = omega (arith, is.past);
    within = is.within;
    here = is.here;
    none = λ i u v.
        elim (cases_lt k i) [
          | inl later ↦ is.none i (omega arith) v
          | inr here ↦ let same : k ≡ i = omega arith in subst (λ i. p i ≡ false) same e
        ];
  }

module _ (p : ℕ → Bool) where
  -- where none passes, nothing is added
  gap : (a d b : ℕ) → a + d ≡ b → ((k : ℕ) → a ≤ k → k < b → p k ≡ false) → filter p (range_with_len 0 b) ≡ filter p (range_with_len 0 a)
  gap a zero b e none = let same : b ≡ a = omega arith in ap (λ (m : ℕ). filter p (range_with_len 0 m)) same
  gap a (suc d) b e none =
      let last : b ≡ (a + d) + 1 = omega arith in
      ap (λ (m : ℕ). filter p (range_with_len 0 m)) last
      ∙ filter_range_no p (a + d) (none (a + d) (omega arith) (omega arith))
      ∙ gap a d (a + d) refl (λ k u v. none k u (omega arith))

  pub filter_gap : (a b : ℕ) → a ≤ b → ((k : ℕ) → a ≤ k → k < b → p k ≡ false) → filter p (range_with_len 0 b) ≡ filter p (range_with_len 0 a)
  filter_gap a b l none = gap a (b - a) b (omega arith) none

  -- the first that passes, and those after it
  record Head (many m : ℕ) (xs : List ℕ) : Type 0 where
    first : ℕ
    rest : List ℕ
    found : xs ≡ first ∷ rest
    below : first < many
    next : IsNext p many m first

  head : (m n many : ℕ) → m + n ≡ many → ((filter p (range_with_len m n) ≡ []) × IsNext p many m many) ⊎ Head many m (filter p (range_with_len m n))
  head m zero many e =
      let same : m ≡ many = omega arith in
      inl (refl, subst (λ i. IsNext p many i many) (sym same) (next_none p many))
  head m (suc n) many e =
      elim (cases_Bool (p m)) [
        | inl passes ↦
            inr (record {
              first = m;
              rest = filter p (range_with_len (m + 1) n);
              found = ap (λ b. cond b (m ∷ filter p (range_with_len (m + 1) n)) (filter p (range_with_len (m + 1) n))) passes;
              below = omega arith;
              next = next_here p many m (omega arith) passes;
            })
        | inr fails ↦
            let skip : filter p (range_with_len m (suc n)) ≡ filter p (range_with_len (m + 1) n) = ap (λ b. cond b (m ∷ filter p (range_with_len (m + 1) n)) (filter p (range_with_len (m + 1) n))) fails in
            elim (head (m + 1) n many (omega arith)) [
              | inl none ↦ inl (skip ∙ none.0, next_earlier p many m many fails none.1)
              | inr found ↦
                  inr (record { first = found.first; rest = found.rest; found = skip ∙ found.found; below = found.below; next = next_earlier p many m found.first fails found.next })
            ]
      ]

  cut : (many m : ℕ) → m ≤ many → filter p (range_with_len 0 many) ≡ filter p (range_with_len 0 m) ++ filter p (range_with_len m (many - m))
  cut many m l = ap (filter p) (range_split 0 m (many - m) m many (omega arith) (omega arith)) ∙ filter-append p (range_with_len 0 m) (range_with_len m (many - m))

  -- after those below m that pass, the row has the next one
  pub next_in_filter : (many m taken : ℕ) → m ≤ many → taken ≡ length (filter p (range_with_len 0 m)) → taken < length (filter p (range_with_len 0 many)) → IsNext p many m (get_or (filter p (range_with_len 0 many)) taken 0) × (get_or (filter p (range_with_len 0 many)) taken 0 < many)
  next_in_filter many m taken l counted more =
      let front = filter p (range_with_len 0 m) in
      let behind = filter p (range_with_len m (many - m)) in
      let whole = cut many m l in
      let here : get_or (filter p (range_with_len 0 many)) taken 0 ≡ get_or behind 0 0 =
      ap (λ xs. get_or xs taken 0) whole ∙ get_or-append_right front behind (length front) taken 0 refl (omega (arith, counted)) ∙ ap (λ (i : ℕ). get_or behind i 0) (let none : taken - length front ≡ 0 = omega (arith, counted) in none) in
      elim (head m (many - m) many (omega arith)) [
        | inl none ↦ absurd (omega (arith, more, counted, ap length whole, length-append front behind, ap length none.0))
        | inr found ↦
            let read : get_or (filter p (range_with_len 0 many)) taken 0 ≡ found.first = here ∙ ap (λ xs. get_or xs 0 0) found.found in
            (subst (IsNext p many m) (sym read) found.next, subst (λ x. x < many) (sym read) found.below)
      ]

  pub next_past_filter : (many m taken : ℕ) → m ≤ many → taken ≡ length (filter p (range_with_len 0 m)) → length (filter p (range_with_len 0 many)) ≤ taken → IsNext p many m many
  next_past_filter many m taken l counted ended =
      let front = filter p (range_with_len 0 m) in
      let behind = filter p (range_with_len m (many - m)) in
      elim (head m (many - m) many (omega arith)) [
        | inl none ↦ none.1
        | inr found ↦ absurd (omega (arith, ended, counted, ap length (cut many m l), length-append front behind, ap length found.found))
      ]
