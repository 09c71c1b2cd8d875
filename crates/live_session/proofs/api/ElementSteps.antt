-- The elements that bytes begin with, one after another, and after more bytes
use Rattle.std.proofs.Common.{◌≡◌, ℕ, zero, suc, ◌+◌, ◌-◌, ◌*◌, ◌<◌, ◌≤◌, List, [], ◌∷◌, ◌++◌, length, take, drop, Bool, true, false, if◌then◌else◌, ◌⊎◌, inl, inr, Option, Some, None, MatchOption, IsSome, IfSome, ◌↔◌, refl, sym, ◌∙◌, ap, ap₂, subst, arith, length-drop, length-append}
use Rattle.std.specs.Prelude.{◌&&◌, nat_le, nat_lt}
use Rattle.std.proofs.lemmas.Bool.{lt-leb, leb-true, le-leb}
use Rattle.std.proofs.lemmas.Bool.Decides.{nat_tests}
use Rattle.std.proofs.lemmas.List.{take-append-le, drop-append-le, drop-drop}
use Rattle.field_ext.specs.Field.{prime, K, of}
use Rattle.field_ext.specs.Bytes.{bytes_of, real_half, imaginary_half}
use Rattle.field_ext.proofs.api.ElementBytes.{real_half_is, imaginary_half_is}
use Rattle.field_ext.proofs.api.Elements.{of_self}
use Rattle.live_session.specs.Elements.{element_of, in_range, has_element, leading}

pub either : (b : Bool) → (b ≡ true) ⊎ (b ≡ false)
either true = inl refl
either false = inr refl

both_fail : (a b p : ℕ) → ((a < p) × (b < p) → ⊥) → (nat_lt a p && nat_lt b p) ≡ false
both_fail a b p fails = grind (arith, nat_tests)

both_pass : (a b p : ℕ) → a < p → b < p → (nat_lt a p && nat_lt b p) ≡ true
both_pass a b p u v = grind (arith, nat_tests)

and-false : (b : Bool) → (b && false) ≡ false
and-false true = refl
and-false false = refl

-- fewer than eight bytes hold no element
pub short : (bytes : List ℕ) → length bytes < 8 → has_element bytes ≡ false
short bytes u = ap (λ (b : Bool). b && in_range (take 8 bytes)) (lt-leb 8 (length bytes) u)

long : (bytes : List ℕ) → has_element bytes ≡ true → 8 ≤ length bytes
long bytes e = elim (either (nat_le 8 (length bytes))) [
  | inl h ↦ leb-true 8 (length bytes) h
  | inr h ↦ absurd (let f : false ≡ true = sym (ap (λ (b : Bool). b && in_range (take 8 bytes)) h) ∙ e in cc)
]

-- what the element of its own bytes is
pub element_of-bytes : (x : K) → element_of (bytes_of x) ≡ x
element_of-bytes x = λ j. record {
  re = (ap of (real_half_is x) ∙ of_self x.re) j;
  im = (ap of (imaginary_half_is x) ∙ of_self x.im) j;
}

-- what the reading of eight bytes says
pub read : (result : Option K) (chunk bytes : List ℕ) → 8 ≤ length bytes → chunk ≡ take 8 bytes
    → IsSome result ↔ ((real_half chunk < prime) × (imaginary_half chunk < prime)) → IfSome result (λ x. bytes_of x ≡ chunk)
    → MatchOption result (has_element bytes ≡ false) (λ x. (has_element bytes ≡ true) × (x ≡ element_of (take 8 bytes)))
read None chunk bytes u e tells is =
    ap₂ ◌&&◌ (le-leb 8 (length bytes) u)
    (sym (ap in_range e) ∙ both_fail (real_half chunk) (imaginary_half chunk) prime (λ h. let w = tells.1 h in cc))
read (Some x) chunk bytes u e tells is = (
  ap₂ ◌&&◌ (le-leb 8 (length bytes) u) (let w = tells.0 refl in sym (ap in_range e) ∙ both_pass (real_half chunk) (imaginary_half chunk) prime w.0 w.1),
  sym (element_of-bytes x) ∙ ap element_of (is ∙ e),
)

first_some : (n : ℕ) (bytes : List ℕ) → has_element bytes ≡ true → leading (suc n) bytes ≡ element_of (take 8 bytes) ∷ leading n (drop 8 bytes)
first_some n bytes e = ap (λ (b : Bool). if b then element_of (take 8 bytes) ∷ leading n (drop 8 bytes) else []) e

pub first_none : (n : ℕ) (bytes : List ℕ) → has_element bytes ≡ false → leading (suc n) bytes ≡ []
first_none n bytes e = ap (λ (b : Bool). if b then element_of (take 8 bytes) ∷ leading n (drop 8 bytes) else []) e

-- the elements from one on, where that one is there, and where it isn't
pub leading_some : (n i : ℕ) (bytes : List ℕ) → i < n → has_element (drop (8 * i) bytes) ≡ true
    → leading (n - i) (drop (8 * i) bytes) ≡ element_of (take 8 (drop (8 * i) bytes)) ∷ leading (n - (i + 1)) (drop (8 * (i + 1)) bytes)
leading_some n i bytes u e =
    ap (λ (m : ℕ). leading m (drop (8 * i) bytes)) (let f : n - i ≡ suc (n - (i + 1)) = omega arith in f)
    ∙ first_some (n - (i + 1)) (drop (8 * i) bytes) e
    ∙ ap (λ (b : List ℕ). element_of (take 8 (drop (8 * i) bytes)) ∷ leading (n - (i + 1)) b)
    (drop-drop 8 (8 * i) bytes ∙ ap (λ (m : ℕ). drop m bytes) (let f : 8 * i + 8 ≡ 8 * (i + 1) = omega arith in f))

pub leading_none : (n i : ℕ) (bytes : List ℕ) → i < n → has_element (drop (8 * i) bytes) ≡ false → leading (n - i) (drop (8 * i) bytes) ≡ []
leading_none n i bytes u e =
    ap (λ (m : ℕ). leading m (drop (8 * i) bytes)) (let f : n - i ≡ suc (n - (i + 1)) = omega arith in f) ∙ first_none (n - (i + 1)) (drop (8 * i) bytes) e

pub leading_end : (n i : ℕ) (bytes : List ℕ) → n ≤ i → leading (n - i) (drop (8 * i) bytes) ≡ []
leading_end n i bytes u = ap (λ (m : ℕ). leading m (drop (8 * i) bytes)) (let f : n - i ≡ 0 = omega arith in f)

pub leading-most : (n : ℕ) (bytes : List ℕ) → length (leading n bytes) ≤ n
leading-most zero bytes = omega arith
leading-most (suc n) bytes = elim (either (has_element bytes)) [
  | inl e ↦ omega (arith, ap length (first_some n bytes e), leading-most n (drop 8 bytes))
  | inr e ↦ omega (arith, ap length (first_none n bytes e))
]

pub leading-fits : (n : ℕ) (bytes : List ℕ) → 8 * length (leading n bytes) ≤ length bytes
leading-fits zero bytes = omega arith
leading-fits (suc n) bytes = elim (either (has_element bytes)) [
  | inl e ↦ omega (arith, ap length (first_some n bytes e), leading-fits n (drop 8 bytes), length-drop 8 bytes, long bytes e)
  | inr e ↦ omega (arith, ap length (first_none n bytes e))
]

-- where they are fewer, none comes after them
pub leading-stops : (n : ℕ) (bytes : List ℕ) → length (leading n bytes) < n → has_element (drop (8 * length (leading n bytes)) bytes) ≡ false
leading-stops zero bytes u = absurd (omega arith)
leading-stops (suc n) bytes u = elim (either (has_element bytes)) [
  | inl e ↦
      let m : ℕ = length (leading n (drop 8 bytes)) in
      let count : length (leading (suc n) bytes) ≡ suc m = ap length (first_some n bytes e) in
      ap (λ (i : ℕ). has_element (drop i bytes)) (let f : 8 * length (leading (suc n) bytes) ≡ 8 + 8 * m = omega (arith, count) in f)
      ∙ ap has_element (sym (drop-drop (8 * m) 8 bytes))
      ∙ leading-stops n (drop 8 bytes) (omega (arith, count, u))
  | inr e ↦
      ap (λ (i : ℕ). has_element (drop i bytes)) (let f : 8 * length (leading (suc n) bytes) ≡ 0 = omega (arith, ap length (first_none n bytes e)) in f) ∙ e
]

-- bytes after eight don't decide whether these hold an element
pub has_more : (a b : List ℕ) → 8 ≤ length a → has_element (a ++ b) ≡ has_element a
has_more a b u =
    ap₂ ◌&&◌ (le-leb 8 (length (a ++ b)) (omega (arith, u, length-append a b)) ∙ sym (le-leb 8 (length a) u)) (ap in_range (take-append-le 8 a b u))

-- with more bytes after them, the same and those that follow
pub leading-more : (n : ℕ) (a b : List ℕ) → leading n (a ++ b) ≡ leading n a ++ leading (n - length (leading n a)) (drop (8 * length (leading n a)) (a ++ b))
leading-more zero a b = refl
leading-more (suc n) a b = elim (either (has_element a)) [
  | inl e ↦
      let u = long a e in
      let x : K = element_of (take 8 a) in
      let rest : List ℕ = drop 8 a in
      let m : ℕ = length (leading n (drop 8 a)) in
      let front : take 8 (a ++ b) ≡ take 8 a = take-append-le 8 a b u in
      let back : drop 8 (a ++ b) ≡ drop 8 a ++ b = drop-append-le 8 a b u in
      let there : has_element (a ++ b) ≡ true = has_more a b u ∙ e in
      let grown : leading (suc n) (a ++ b) ≡ x ∷ (leading n rest ++ leading (n - m) (drop (8 * m) (rest ++ b))) =
      first_some n (a ++ b) there ∙ ap₂ (λ (p q : List ℕ). element_of p ∷ leading n q) front back ∙ ap (λ (xs : List K). x ∷ xs) (leading-more n rest b) in
      let at : leading (n - m) (drop (8 * m) (rest ++ b)) ≡ leading (suc n - suc m) (drop (8 * suc m) (a ++ b)) =
      ap₂ leading (let f : n - m ≡ suc n - suc m = omega arith in f)
      (ap (drop (8 * m)) (sym back) ∙ drop-drop (8 * m) 8 (a ++ b) ∙ ap (λ (i : ℕ). drop i (a ++ b)) (let f : 8 + 8 * m ≡ 8 * suc m = omega arith in f)) in
      subst (λ (xs : List K). leading (suc n) (a ++ b) ≡ xs ++ leading (suc n - length xs) (drop (8 * length xs) (a ++ b))) (sym (first_some n a e))
      (grown ∙ ap (λ (xs : List K). x ∷ (leading n rest ++ xs)) at)
  | inr e ↦
      subst (λ (xs : List K). leading (suc n) (a ++ b) ≡ xs ++ leading (suc n - length xs) (drop (8 * length xs) (a ++ b))) (sym (first_none n a e))
      (ap (λ (i : ℕ). leading i (a ++ b)) (let f : suc n ≡ suc n - 0 = omega arith in f))
]
