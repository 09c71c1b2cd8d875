-- Lists of the same length one after another: what is in them, and when they are the same
use Rattle.std.proofs.Common.{◌≡◌, ℕ, zero, suc, ◌+◌, ◌-◌, ◌*◌, ◌<◌, ◌⊎◌, inl, inr, List, ◌++◌, map, length, get_or, All, refl, sym, ◌∙◌, ap, ap₂, arith, ext_get_or}
use Rattle.std.proofs.lemmas.Bool.{cases_eq}
use Rattle.std.proofs.lemmas.List.{get_or_append_left, get_or-append-add, map-append}
use Rattle.std.proofs.lemmas.List.Elements.{All-append, All-nil}
use Rattle.batch_core.specs.Copies.{joined}
use Rattle.batch_core.proofs.api.CopySums.{length-joined}

-- a place of block c is before the end of n blocks
pub block_below : (c n q u : ℕ) → c < n → u < q → c * q + u < n * q
block_below c n q u b v =
    let e : n ≡ c + 1 + (n - (c + 1)) = omega arith in
    let t : n * q ≡ (c + 1 + (n - (c + 1))) * q = ap (λ (i : ℕ). i * q) e in
    more (n - (c + 1)) t
  where
    more : (d : ℕ) → n * q ≡ (c + 1 + d) * q → c * q + u < n * q
    more d t = let s : (c + 1 + d) * q ≡ c * q + q + d * q = omega arith in omega (arith, t, s, v)

module _ {X : Type 0} where
  pub read-joined : (m q : ℕ) (f : ℕ → List X) (c u : ℕ) (d : X) → ((c : ℕ) → length (f c) ≡ q) → c < m → u < q → get_or (joined m f) (c * q + u) d ≡ get_or (f c) u d
  read-joined zero q f c u d s b v = absurd (omega arith)
  read-joined (suc m) q f c u d s b v = by_block (λ below. read-joined m q f c u d s below v) (cases_eq c m)
    where
      size : length (joined m f) ≡ m * q
      size = length-joined m q f s

      by_block : (c < m → get_or (joined m f) (c * q + u) d ≡ get_or (f c) u d) → (c ≡ m) ⊎ (c ≡ m → ⊥) → get_or (joined m f ++ f m) (c * q + u) d ≡ get_or (f c) u d
      by_block earlier (inl e) =
          let place : c * q + u ≡ length (joined m f) + u = ap (λ (i : ℕ). i * q + u) e ∙ ap (λ (i : ℕ). i + u) (sym size) in
          ap (λ (i : ℕ). get_or (joined m f ++ f m) i d) place
          ∙ get_or-append-add (joined m f) (f m) u d
          ∙ ap (λ (i : ℕ). get_or (f i) u d) (sym e)
      by_block earlier (inr n) =
          let below : c < m = omega arith in
          let inside : c * q + u < length (joined m f) = omega (arith, size, block_below c m q u below v) in
          get_or_append_left (joined m f) (f m) d (c * q + u) inside ∙ earlier below

  pub joined-same : (m : ℕ) (f g : ℕ → List X) → ((c : ℕ) → c < m → f c ≡ g c) → joined m f ≡ joined m g
  joined-same zero f g e = refl
  joined-same (suc m) f g e = ap₂ (λ (xs ys : List X). xs ++ ys) (joined-same m f g (λ c b. e c (omega arith))) (e m (omega arith))

  -- lists that are the same one after another are the same each
  pub joined-each : (m q : ℕ) (f g : ℕ → List X) (d : X) → ((c : ℕ) → length (f c) ≡ q) → ((c : ℕ) → length (g c) ≡ q) → joined m f ≡ joined m g → (c : ℕ) → c < m → f c ≡ g c
  joined-each m q f g d s t e c b =
      ext_get_or d (f c) (g c) (s c ∙ sym (t c)) (λ u v.
      let w : u < q = omega (arith, v, s c) in
      sym (read-joined m q f c u d s b w) ∙ ap (λ (xs : List X). get_or xs (c * q + u) d) e ∙ read-joined m q g c u d t b w)

  pub all-joined : (P : X → Type 0) (m : ℕ) (f : ℕ → List X) → ((c : ℕ) → c < m → All P (f c)) → All P (joined m f)
  all-joined P zero f a = All-nil P
  all-joined P (suc m) f a = All-append P (joined m f) (f m) (all-joined P m f (λ c b. a c (omega arith))) (a m (omega arith))

pub map-joined : {X Y : Type 0} (h : X → Y) (m : ℕ) (f : ℕ → List X) → map h (joined m f) ≡ joined m (λ c. map h (f c))
map-joined h zero f = refl
map-joined h (suc m) f = map-append h (joined m f) (f m) ∙ ap (λ (xs : List _). xs ++ map h (f m)) (map-joined h m f)
