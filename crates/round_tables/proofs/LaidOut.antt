-- Tables in parts of one size, through a round
use Rattle.std.proofs.Common.{◌≡◌, ℕ, zero, suc, ◌+◌, ◌-◌, ◌*◌, ◌/◌, ◌^◌, ◌≢◌, ◌<◌, ◌≤◌, ◌⊎◌, inl, inr, List, length, map, get_or, All, Bool, if◌then◌else◌, refl, sym, ◌∙◌, ap, ap₂, arith, subst, add-zero, lt-ltb, lt_of_not-le}
use mathlib.Core.Logic.{dite}
use native.Mathlib.Decide.{dec_le}
use Rattle.std.proofs.lemmas.Bool.{cases_lt, le-ltb}
use Rattle.std.proofs.lemmas.Nat.{pow-add, pow_pos}
use Rattle.std.proofs.lemmas.List.{length-map}
use Rattle.std.proofs.lemmas.List.Elements.{All-map}
use Rattle.std.proofs.Math.Nat.{pow-suc}
use Rattle.field_ext.specs.Field.{K, k_ops, zero_k}
use Rattle.field_ext.proofs.api.KLaws.{k_laws}
use Rattle.field_ext.specs.Multilinear.{folded}
use Rattle.mle_table.proofs.api.EqualitySteps.{pow_up}
use Rattle.mle_table.proofs.api.Fold.{fold-at}
use Rattle.table_parts.specs.Tables.{pair_at}
use Rattle.table_parts.specs.PartTables.{PartTables, HasSize, halved, folded_part, cuts, cuts_left, flat, flat_table, flat_scales, flat_shifts, AreLaidOut}
use Rattle.round_tables.specs.LayerSum.{left_in_phase}
use Rattle.round_tables.proofs.PieceValues.{in_left_phase, in_right_phase}
use Rattle.table_parts.proofs.api.Halves.{flat-halved, flat-read, length-flat, length-halved}

-- so long as a part has two values it is one of all
pub in_many : (k m : ℕ) → cuts k < m → cuts_left k m ≡ cuts k
in_many k m u = ap (λ (b : Bool). if b then cuts k else 0) (lt-ltb (cuts k) m u)

in_one : (k m : ℕ) → m ≤ cuts k → cuts_left k m ≡ 0
in_one k m u = ap (λ (b : Bool). if b then cuts k else 0) (le-ltb (cuts k) m u)

pub cuts-below : (k m : ℕ) → 0 < m → cuts_left k m < m
cuts-below k m some = here (cases_lt (cuts k) m) where
  here : (cuts k < m) ⊎ (m ≤ cuts k) → cuts_left k m < m
  here (inl u) = omega (arith, in_many k m u)
  here (inr u) = omega (arith, in_one k m u)

pub pow-one : (x : ℕ) → 2 ^ x ≡ 1 → x ≡ 0
pow-one zero e = refl
pow-one (suc x) e = absurd (omega (arith, pow-suc 2 x, pow_pos x))

-- parts of a phase that begins have all its values
pub laid-size : (k : ℕ) (ps : List PartTables) (f : PartTables → List K) → AreLaidOut k k ps → ((n : ℕ) (p : PartTables) → HasSize n p → length (f p) ≡ n) → length (flat f ps) ≡ 2 ^ k
laid-size k ps f laid size =
    let whole : cuts_left k k + (k - cuts_left k k) ≡ k = here (cases_lt (cuts k) k) in
    length-flat f ps (2 ^ (k - cuts_left k k)) (λ i d u. size (2 ^ (k - cuts_left k k)) (get_or ps i d) (laid.sizes i d u))
    ∙ ap (λ (n : ℕ). n * 2 ^ (k - cuts_left k k)) laid.number
    ∙ sym (pow-add 2 (cuts_left k k) (k - cuts_left k k))
    ∙ ap (λ (n : ℕ). 2 ^ n) whole
  where
    here : (cuts k < k) ⊎ (k ≤ cuts k) → cuts_left k k + (k - cuts_left k k) ≡ k
    here (inl u) = omega (arith, in_many k k u)
    here (inr u) = omega (arith, in_one k k u)

-- more pairs than parts are more than one a part
pub more-than-one : (a b : ℕ) → 2 ^ b < 2 ^ a → 1 < 2 ^ (a - b)
more-than-one a b u = here (cases_lt b a) where
  here : (b < a) ⊎ (a ≤ b) → 1 < 2 ^ (a - b)
  here (inl v) = let e : a - b ≡ suc (a - b - 1) = omega (arith, v) in subst (λ (x : ℕ). 1 < 2 ^ x) (sym e) (omega (pow-suc 2 (a - b - 1), pow_pos (a - b - 1), arith))
  here (inr v) = absurd (omega (arith, u, pow_up a b v))

-- and more than one a part are more pairs than parts
pub more-pairs : (a b : ℕ) → 1 < 2 ^ (a - b) → 2 ^ b < 2 ^ a
more-pairs a b u = here (cases_lt b a) where
  here : (b < a) ⊎ (a ≤ b) → 2 ^ b < 2 ^ a
  here (inl v) = omega (arith, pow_up (suc b) a v, pow-suc 2 b, pow_pos b)
  here (inr v) = let none : a - b ≡ 0 = omega (arith, v) in absurd (omega (arith, u, ap (λ (x : ℕ). 2 ^ x) none))

-- the values of a part are pairs
pub size-pairs : (k m : ℕ) → 0 < m → 2 ^ (m - cuts_left k m) ≡ 2 * 2 ^ (m - 1 - cuts_left k m)
size-pairs k m some = let c = cuts-below k m some in let e : m - cuts_left k m ≡ suc (m - 1 - cuts_left k m) = omega arith in
    ap (λ (x : ℕ). 2 ^ x) e ∙ pow-suc 2 (m - 1 - cuts_left k m) ∙ omega arith

-- all parts have the pairs of the round
pub all-pairs : (k m : ℕ) → 0 < m → 2 ^ cuts_left k m * 2 ^ (m - 1 - cuts_left k m) ≡ 2 ^ (m - 1)
all-pairs k m some = let c = cuts-below k m some in let e : cuts_left k m + (m - 1 - cuts_left k m) ≡ m - 1 = omega arith in
    sym (pow-add 2 (cuts_left k m) (m - 1 - cuts_left k m)) ∙ ap (λ (x : ℕ). 2 ^ x) e

same-place : (p h j x : ℕ) → (p * h + j) * 2 + x ≡ p * (2 * h) + (j * 2 + x)
same-place p h j x = omega arith

-- the next round of a phase has one coordinate less
pub left-next : (k n n' : ℕ) → n' ≡ n + 1 → n < k + k → (n + 1 < k) ⊎ (k ≤ n) → left_in_phase k n' ≡ left_in_phase k n - 1
left-next k n n' e u (inl v) = omega (arith, (in_left_phase k n (omega arith)).0, (in_left_phase k n' (omega arith)).0)
left-next k n n' e u (inr v) = omega (arith, (in_right_phase k n v).0, (in_right_phase k n' (omega arith)).0)

pub left-few : (k n : ℕ) → left_in_phase k n ≤ k
left-few k n = here (cases_lt n k) where
  here : (n < k) ⊎ (k ≤ n) → left_in_phase k n ≤ k
  here (inl u) = omega (arith, (in_left_phase k n u).0)
  here (inr u) = omega (arith, (in_right_phase k n u).0)

at_least : (a b : ℕ) → 0 < b → a ≤ a * b
at_least a b h = let e : b ≡ suc (b - 1) = omega arith in let d : a * b ≡ a * suc (b - 1) = ap (λ (y : ℕ). a * y) e in omega arith

pow-most : (x n : ℕ) → x ≤ n → 2 ^ x ≤ 2 ^ n
pow-most x n u = let e : x + (n - x) ≡ n = omega arith in let p = pow-add 2 x (n - x) in let q : 2 ^ (x + (n - x)) ≡ 2 ^ n = ap (λ (y : ℕ). 2 ^ y) e in let r = at_least (2 ^ x) (2 ^ (n - x)) (pow_pos (n - x)) in omega arith

-- there are few parts
pub parts-few : (k m : ℕ) → k ≤ 20 → 2 ^ cuts_left k m ≤ 512
parts-few k m v = pow-most (cuts_left k m) 9 (by_cuts (cases_lt (cuts k) m)) where
  by_cuts : (cuts k < m) ⊎ (m ≤ cuts k) → cuts_left k m ≤ 9
  by_cuts (inl w) = omega (arith, in_many k m w)
  by_cuts (inr w) = omega (arith, in_one k m w)

-- a part has few pairs
pub half-few : (k m : ℕ) → 0 < m → m ≤ k → k ≤ 20 → 2 ^ (m - 1 - cuts_left k m) ≤ 1024
half-few k m some u v = pow-most (m - 1 - cuts_left k m) 10 (by_cuts (cases_lt (cuts k) m)) where
  by_cuts : (cuts k < m) ⊎ (m ≤ cuts k) → m - 1 - cuts_left k m ≤ 10
  by_cuts (inl w) = omega (arith, in_many k m w)
  by_cuts (inr w) = omega (arith, in_one k m w)

module _ (k m : ℕ) (ps : List PartTables) (some : 0 < m) (laid : AreLaidOut k m ps) where
  abbrev pub half : ℕ
  half = 2 ^ (m - 1 - cuts_left k m)

  pub halves : All (HasSize (2 * half)) ps
  halves i d u = subst (λ (n : ℕ). HasSize n (get_or ps i d)) (size-pairs k m some) (laid.sizes i d u)

  -- the first part's values are twice as many as its pairs
  pub first-half : (qs : List PartTables) (p : PartTables) (n : ℕ) → p ≡ get_or qs 0 p → qs ≡ ps → n ≡ length p.table → n / 2 ≡ half
  first-half qs p n is same size =
      let first : p ≡ get_or ps 0 p = is ∙ ap (λ (l : List PartTables). get_or l 0 p) same in
      let twice : n ≡ 2 * half = size ∙ ap (λ (p : PartTables). length p.table) first ∙ (halves 0 p (omega (arith, laid.number, pow_pos (cuts_left k m)))).table in
      omega (arith, twice)

  pub flat-folded : (f : PartTables → List K) (r : K) → ((p : PartTables) → f (folded_part r p) ≡ halved r (f p)) → ((n : ℕ) (p : PartTables) → HasSize n p → length (f p) ≡ n) → flat f (map (folded_part r) ps) ≡ folded k_ops (flat f ps) r
  flat-folded f r is size = flat-halved f r ps half (pow_pos (m - 1 - cuts_left k m)) is (λ i d u. size (2 * half) (get_or ps i d) (halves i d u))

  pub sizes-folded : (r : K) → All (HasSize half) (map (folded_part r) ps)
  sizes-folded r = All-map (HasSize half) (folded_part r) ps (λ i d u. let h = halves i d u in record {
    table = length-halved half r (get_or ps i d).table h.table (pow_pos (m - 1 - cuts_left k m));
    scales = length-halved half r (get_or ps i d).scales h.scales (pow_pos (m - 1 - cuts_left k m));
    shifts = length-halved half r (get_or ps i d).shifts h.shifts (pow_pos (m - 1 - cuts_left k m));
  })

  same-cuts : (1 < length ps → half ≢ 1) → cuts_left k (m - 1) ≡ cuts_left k m
  same-cuts thick = here (cases_lt (cuts k) m) where
    here : (cuts k < m) ⊎ (m ≤ cuts k) → cuts_left k (m - 1) ≡ cuts_left k m
    here (inr u) = in_one k (m - 1) (omega arith) ∙ sym (in_one k m u)
    here (inl u) = on (cases_lt (cuts k) (m - 1)) where
      on : (cuts k < m - 1) ⊎ (m - 1 ≤ cuts k) → cuts_left k (m - 1) ≡ cuts_left k m
      on (inl v) = in_many k (m - 1) v ∙ sym (in_many k m u)
      on (inr v) = let none : m - 1 - cuts_left k m ≡ 0 = omega (arith, in_many k m u) in let one : half ≡ 1 = ap (λ (x : ℕ). 2 ^ x) none in
          let few : length ps ≤ 1 = dite (dec_le (length ps) 1) (λ (h : length ps ≤ 1). h) (λ no. absurd (thick (lt_of_not-le no) one)) in
          let zero_cuts : cuts_left k m ≡ 0 = pow-one (cuts_left k m) (let p = pow_pos (cuts_left k m) in omega (arith, laid.number)) in
          in_one k (m - 1) v ∙ sym zero_cuts

  -- where the parts keep two values, or there is one, they are laid out as before
  pub laid-folded : (r : K) → (1 < length ps → half ≢ 1) → AreLaidOut k (m - 1) (map (folded_part r) ps)
  laid-folded r thick = let e = same-cuts thick in record {
    number = length-map ps (folded_part r) ∙ laid.number ∙ ap (λ (x : ℕ). 2 ^ x) (sym e);
    sizes = subst (λ (x : ℕ). All (HasSize (2 ^ (m - 1 - x))) (map (folded_part r) ps)) (sym e) (sizes-folded r);
  }

  -- where each has one value, and there are more, they go into one
  pub laid-merged : (r : K) (one : List PartTables) → 1 < length ps → half ≡ 1 → length one ≡ 1 → All (HasSize (length ps)) one → AreLaidOut k (m - 1) one
  laid-merged r one more thin single sizes =
      let many : cuts k < m = here (cases_lt (cuts k) m) in
      let c = in_many k m many in
      let none : m - 1 - cuts_left k m ≡ 0 = pow-one (m - 1 - cuts_left k m) thin in
      let d : cuts_left k (m - 1) ≡ 0 = in_one k (m - 1) (omega (arith, c, none)) in
      let n : length ps ≡ 2 ^ (m - 1 - cuts_left k (m - 1)) = let q : cuts_left k m ≡ m - 1 - cuts_left k (m - 1) = omega (arith, c, none, d) in laid.number ∙ ap (λ (x : ℕ). 2 ^ x) q in record {
        number = single ∙ ap (λ (x : ℕ). 2 ^ x) (sym d);
        sizes = subst (λ (x : ℕ). All (HasSize x) one) n sizes;
      } where
        here : (cuts k < m) ⊎ (m ≤ cuts k) → cuts k < m
        here (inl u) = u
        here (inr u) = let one' : length ps ≡ 1 = laid.number ∙ ap (λ (x : ℕ). 2 ^ x) (in_one k m u) in absurd (omega arith)

  -- the pairs of a part are those of the whole, from its first on
  pub part-pair : (p j : ℕ) (d : PartTables) (e : K) → p < length ps → j < half →
      pair_at k_ops (get_or ps p d).table (get_or ps p d).scales (get_or ps p d).shifts e j ≡ pair_at k_ops (flat_table ps) (flat_scales ps) (flat_shifts ps) e (p * half + j)
  part-pair p j d e u v = let size : (f : PartTables → List K) → ((n : ℕ) (p : PartTables) → HasSize n p → length (f p) ≡ n) → get_or (folded k_ops (f (get_or ps p d)) e) j zero_k ≡ get_or (folded k_ops (flat f ps) e) (p * half + j) zero_k = λ f size. one f size in
      λ i. k_ops.add (k_ops.mul (size (λ p. p.table) (λ n p h. h.table) i) (size (λ p. p.scales) (λ n p h. h.scales) i)) (size (λ p. p.shifts) (λ n p h. h.shifts) i) where
        one : (f : PartTables → List K) → ((n : ℕ) (p : PartTables) → HasSize n p → length (f p) ≡ n) → get_or (folded k_ops (f (get_or ps p d)) e) j zero_k ≡ get_or (folded k_ops (flat f ps) e) (p * half + j) zero_k
        one f size =
            let sizes : (i : ℕ) (d : PartTables) → i < length ps → length (f (get_or ps i d)) ≡ 2 * half = λ i d u. size (2 * half) (get_or ps i d) (halves i d u) in
            let read : (x : ℕ) → x < 2 → get_or (flat f ps) ((p * half + j) * 2 + x) zero_k ≡ get_or (f (get_or ps p d)) (j * 2 + x) zero_k = λ x w.
            ap (λ (i : ℕ). get_or (flat f ps) i zero_k) (same-place p half j x) ∙ flat-read f ps (2 * half) p (j * 2 + x) zero_k d sizes u (omega arith) in
            let low : get_or (flat f ps) ((p * half + j) * 2) zero_k ≡ get_or (f (get_or ps p d)) (j * 2) zero_k = ap (λ (i : ℕ). get_or (flat f ps) i zero_k) (sym (add-zero ((p * half + j) * 2))) ∙ read 0 (omega arith) ∙ ap (λ (i : ℕ). get_or (f (get_or ps p d)) i zero_k) (add-zero (j * 2)) in
            fold-at k_ops k_laws (f (get_or ps p d)) e j
            ∙ ap₂ (λ (a b : K). k_ops.add a (k_ops.mul e (k_ops.add b (k_ops.neg a)))) (sym low) (sym (read 1 (omega arith)))
            ∙ sym (fold-at k_ops k_laws (flat f ps) e (p * half + j))

  -- those of one part are among the round's
  pub pairs-within : (p : ℕ) → p < length ps → p * half + half ≤ 2 ^ (m - 1)
  pairs-within p u = let e = all-pairs k m some in let n = laid.number in here p (length ps) half u (ap (λ (x : ℕ). x * half) n ∙ e) where
    here : (p n h : ℕ) {t : ℕ} → p < n → n * h ≡ t → p * h + h ≤ t
    here p n h u e = let more : n ≡ p + 1 + (n - p - 1) = omega arith in let d : n * h ≡ (p + 1 + (n - p - 1)) * h = ap (λ (x : ℕ). x * h) more in omega arith
