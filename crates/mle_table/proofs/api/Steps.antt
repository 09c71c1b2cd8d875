-- The steps of loops over tables
use Rattle.std.proofs.Common.{◌≡◌, ℕ, zero, suc, ◌+◌, ◌*◌, ◌^◌, ◌-◌, pow-suc, pow_pos, ◌<◌, ◌≤◌, List, [], ◌∷◌, length, get_or, take, drop, sym, ◌∙◌, ap, ap₂, arith, get_or-take, ext_get_or, length-take, drop_of_length-le}
use Rattle.std.proofs.lemmas.List.{drop_more, get_or_default}
use Rattle.field_ext.specs.Ring.{Ops, Laws}
use Rattle.field_ext.proofs.api.Rings.{zero_add}
use Rattle.field_ext.specs.Multilinear.{folded, extension_at}
use Rattle.mle_table.proofs.api.Fold.{fold-at, fold_law}

module _ {A : Type 0} (o : Ops A) (l : Laws A o) where
  pub length-fold : (t : List A) (r : A) (h : ℕ) → length t ≡ h * 2 → length (folded o t r) ≡ h
  length-fold [] r h e = omega arith
  length-fold (a ∷ []) r h e = absurd (omega arith)
  length-fold (a ∷ b ∷ t) r zero e = absurd (omega arith)
  length-fold (a ∷ b ∷ t) r (suc h) e = let i : length (folded o t r) ≡ h = length-fold t r h (omega arith) in omega arith

  -- the element that a step of the loop writes
  pub fold_element : (t0 t : List A) (r : A) (j : ℕ) → ((i : ℕ) → j ≤ i → get_or t i o.zero ≡ get_or t0 i o.zero) →
      o.add (get_or t (2 * j) o.zero) (o.mul r (o.add (get_or t (2 * j + 1) o.zero) (o.neg (get_or t (2 * j) o.zero)))) ≡ get_or (folded o t0 r) j o.zero
  fold_element t0 t r j rest =
      let two : 2 * j ≡ j * 2 = omega arith in
      ap₂ (λ (a b : A). o.add a (o.mul r (o.add b (o.neg a)))) (rest (2 * j) (omega arith) ∙ ap (λ (k : ℕ). get_or t0 k o.zero) two) (rest (2 * j + 1) (omega arith) ∙ ap (λ (k : ℕ). get_or t0 (k + 1) o.zero) two)
      ∙ sym (fold-at o l t0 r j)

  pub folded_whole : (t0 t : List A) (r : A) (h : ℕ) → length t0 ≡ h * 2 → length t ≡ h * 2 → ((i : ℕ) → i < h → get_or t i o.zero ≡ get_or (folded o t0 r) i o.zero) → take h t ≡ folded o t0 r
  folded_whole t0 t r h u v done =
      let lf = length-fold t0 r h u in
      let lt : length (take h t) ≡ h = omega (arith, length-take h t) in
      ext_get_or o.zero (take h t) (folded o t0 r) (lt ∙ sym lf) (λ i b. let c : i < h = omega (arith, b, lt) in get_or-take h t i o.zero c ∙ done i c)

  -- one more coordinate of a point is bound
  pub bound_more : (t t' point : List A) (i : ℕ) (r all : A) → i < length point → r ≡ get_or point i r → t' ≡ folded o t r →
      extension_at o o (λ x. x) t (drop i point) ≡ all → extension_at o o (λ x. x) t' (drop (i + 1) point) ≡ all
  bound_more t t' point i r all u is e h =
      ap (λ (s : List A). extension_at o o (λ x. x) s (drop (i + 1) point)) e ∙ fold_law o l t (drop (i + 1) point) r
      ∙ ap (λ (q : A). extension_at o o (λ x. x) t (q ∷ drop (i + 1) point)) is ∙ ap (extension_at o o (λ x. x) t) (sym (drop_more point i r u)) ∙ h

  pub bound_all : (t point : List A) (i : ℕ) (x all : A) → length point ≤ i → 0 < length t → x ≡ get_or t 0 x → extension_at o o (λ x. x) t (drop i point) ≡ all → x ≡ all
  bound_all t point i x all u s is h =
      is ∙ get_or_default t 0 x o.zero s ∙ sym (zero_add o l (o.mul (get_or t 0 o.zero) o.one) ∙ l.mul_one (get_or t 0 o.zero))
      ∙ ap (extension_at o o (λ x. x) t) (sym (drop_of_length-le point u)) ∙ h

half_power : (n i v : ℕ) → i < n → v ≡ 2 ^ (n - i) → v ≡ 2 ^ (n - (i + 1)) * 2
half_power n i v u e = let s : n - i ≡ suc (n - (i + 1)) = omega arith in e ∙ ap (λ (k : ℕ). 2 ^ k) s ∙ pow-suc 2 (n - (i + 1))

pub even_power : (n i v : ℕ) → i < n → v ≡ 2 ^ (n - i) → (h : ℕ) × (v ≡ h * 2)
even_power n i v u e = (2 ^ (n - (i + 1)), half_power n i v u e)

pub next_power : (n i v w : ℕ) → i < n → v ≡ 2 ^ (n - i) → w * 2 ≡ v → w ≡ 2 ^ (n - (i + 1))
next_power n i v w u e f = omega (arith, half_power n i v u e)

pub last_power : (n i v : ℕ) → n ≤ i → v ≡ 2 ^ (n - i) → 0 < v
last_power n i v u e = omega (arith, pow_pos (n - i), e)
