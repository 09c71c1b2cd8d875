-- Places in a filtered range of numbers
use Rattle.std.proofs.Common.{◌≡◌, ℕ, zero, suc, ◌+◌, ◌-◌, ◌<◌, Bool, true, false, cond, List, [], ◌∷◌, ◌++◌, length, map, get_or, refl, ap, ◌∙◌, arith, length-append, All}
use Rattle.std.specs.List.{filter, range_with_len}
use Rattle.std.proofs.lemmas.List.{get_or_at, append-nil}
use Rattle.std.proofs.lemmas.List.Elements.{filter-append, filter_passes, All-filter}
use Rattle.std.proofs.lemmas.List.FromFn.{length-range_with_len, get_or-range_with_len, length-map-range_with_len, get_or-map-range_with_len}

-- a range, cut
pub range_split : (a m n b t : ℕ) → a + m ≡ b → m + n ≡ t → range_with_len a t ≡ range_with_len a m ++ range_with_len b n
range_split a zero n b t e f =
    let start : a ≡ b = omega arith in
    let size : t ≡ n = omega arith in
    rw (start, size) refl
range_split a (suc m) n b zero e f = absurd (omega arith)
range_split a (suc m) n b (suc t) e f = ap (λ xs. a ∷ xs) (range_split (a + 1) m n b t (omega arith) (omega arith))

range_below : (N : ℕ) → All (λ k. k < N) (range_with_len 0 N)
range_below N i d l =
    let long = length-range_with_len 0 N in
    omega (arith, long, get_or-range_with_len 0 N i d (omega arith))

module _ (p : ℕ → Bool) where
  -- the numbers below N that pass, cut at k
  filter_split : (N k : ℕ) → k < N → p k ≡ true → (rest : List ℕ) × (filter p (range_with_len 0 N) ≡ filter p (range_with_len 0 k) ++ k ∷ rest)
  filter_split N k l e =
      let after = filter p (range_with_len (k + 1) (N - suc k)) in
      let cut : range_with_len 0 N ≡ range_with_len 0 k ++ k ∷ range_with_len (k + 1) (N - suc k) = range_split 0 k (suc (N - suc k)) k N (omega arith) (omega arith) in
      (after, ap (filter p) cut ∙ filter-append p (range_with_len 0 k) (k ∷ range_with_len (k + 1) (N - suc k)) ∙ ap (λ b. filter p (range_with_len 0 k) ++ cond b (k ∷ after) after) e)

  -- a number that passes comes after those below it that pass
  pub filter_at : (N k d : ℕ) → k < N → p k ≡ true → get_or (filter p (range_with_len 0 N)) (length (filter p (range_with_len 0 k))) d ≡ k
  filter_at N k d l e =
      let cut = filter_split N k l e in
      ap (λ xs. get_or xs (length (filter p (range_with_len 0 k))) d) cut.1 ∙ get_or_at (filter p (range_with_len 0 k)) k cut.0 d _ refl

  pub filter_place : (N k : ℕ) → k < N → p k ≡ true → length (filter p (range_with_len 0 k)) < length (filter p (range_with_len 0 N))
  filter_place N k l e =
      let cut = filter_split N k l e in
      omega (arith, ap length cut.1, length-append (filter p (range_with_len 0 k)) (k ∷ cut.0))

  -- what a filtered range contains is in the range, and passes
  pub filter_within : (N : ℕ) → All (λ k. (k < N) × (p k ≡ true)) (filter p (range_with_len 0 N))
  filter_within N k d l =
      (All-filter p (λ k. k < N) (range_with_len 0 N) (range_below N) k d l, filter_passes p (range_with_len 0 N) k d l)

-- a loop's step over a filtered range
module _ (p : ℕ → Bool) where
  pub filter_range_more : (k : ℕ) → filter p (range_with_len 0 (k + 1)) ≡ filter p (range_with_len 0 k) ++ cond (p k) (k ∷ []) []
  filter_range_more k =
      ap (filter p) (range_split 0 k 1 k (k + 1) (omega arith) refl) ∙ filter-append p (range_with_len 0 k) (k ∷ [])

  pub filter_range_yes : (k : ℕ) → p k ≡ true → filter p (range_with_len 0 (k + 1)) ≡ filter p (range_with_len 0 k) ++ k ∷ []
  filter_range_yes k e = filter_range_more k ∙ ap (λ b. filter p (range_with_len 0 k) ++ cond b (k ∷ []) []) e

  pub filter_range_no : (k : ℕ) → p k ≡ false → filter p (range_with_len 0 (k + 1)) ≡ filter p (range_with_len 0 k)
  filter_range_no k e =
      filter_range_more k ∙ ap (λ b. filter p (range_with_len 0 k) ++ cond b (k ∷ []) []) e ∙ append-nil (filter p (range_with_len 0 k))

-- what is read in a list that is known by index
pub length-told : {X : Type 0} (f : ℕ → X) (N : ℕ) (xs : List X) → xs ≡ map f (range_with_len 0 N) → length xs ≡ N
length-told f N xs e = ap length e ∙ length-map-range_with_len f 0 N

pub get_or-told : {X : Type 0} (f : ℕ → X) (N k : ℕ) (xs : List X) (d : X) → xs ≡ map f (range_with_len 0 N) → k < N → get_or xs k d ≡ f k
get_or-told f N k xs d e l = ap (λ ys. get_or ys k d) e ∙ get_or-map-range_with_len f 0 N k k d l (omega arith)
