-- Tables of which one place after another is made anew
use Rattle.std.proofs.Common.{◌≡◌, ◌≢◌, ℕ, ◌+◌, ◌-◌, ◌<◌, ◌≤◌, ◌⊎◌, inl, inr, List, length, get_or, set, refl, sym, ◌∙◌, ap, arith, subst, get_or-set_same, get_or-set_other}
use Rattle.std.proofs.lemmas.Bool.{cases_eq, cases_lt}
use Rattle.std.proofs.lemmas.List.{get_or_read}
use Rattle.field_ext.specs.Field.{K, k_ops, mul_k, zero_k}
use Rattle.field_ext.proofs.api.KLaws.{k_laws}
use Rattle.field_ext.proofs.api.Rings.{mul_zero}
use Rattle.gate_gather.specs.Scaling.{IsMade}

-- a product with 0 is 0
pub zero_times : (a x : K) → x ≡ zero_k → x ≡ mul_k a x
zero_times a x e = e ∙ sym (ap (mul_k a) e ∙ mul_zero k_ops k_laws a)

pub made_none : (from i : ℕ) (t : List K) (f : ℕ → K) → i ≡ from → IsMade from (i - from) t t f
made_none from i t f e = record { before = λ x u. refl; within = λ x u v. absurd (omega (arith, e, u, v)); after = λ x u. refl }

-- one place more
pub made_more : (from i : ℕ) (t now : List K) (f : ℕ → K) (new : K) → from ≤ i → i < length now → new ≡ f i → IsMade from (i - from) t now f → IsMade from (i + 1 - from) t (set now i new) f
made_more from i t now f new u lt is made = record {
  before = λ x v. let ne : x ≢ i = omega (arith, u, v) in get_or-set_other now i x new zero_k ne ∙ made.before x v;
  within = λ x v w. at_place x v w (cases_eq x i);
  after = λ x v. let ne : x ≢ i = omega (arith, u, v) in get_or-set_other now i x new zero_k ne ∙ made.after x (omega (arith, u, v));
}
  where
    at_place : (x : ℕ) → from ≤ x → x < from + (i + 1 - from) → (x ≡ i) ⊎ (x ≡ i → ⊥) → get_or (set now i new) x zero_k ≡ f x
    at_place x v w (inl e) = ap (λ (y : ℕ). get_or (set now i new) y zero_k) e ∙ get_or-set_same now i new zero_k lt ∙ is ∙ ap f (sym e)
    at_place x v w (inr n) = get_or-set_other now i x new zero_k n ∙ made.within x v (omega (arith, u, w, n))

pub made_all : (from count i : ℕ) (t now : List K) (f : ℕ → K) → i ≡ from + count → IsMade from (i - from) t now f → IsMade from count t now f
made_all from count i t now f e made = let n : i - from ≡ count = omega (arith, e) in subst (λ (n : ℕ). IsMade from n t now f) n made

-- a place that isn't made yet
pub made_read : (from i : ℕ) (t now : List K) (f : ℕ → K) (x : K) → from ≤ i → i < length now → x ≡ get_or now i x → IsMade from (i - from) t now f → x ≡ get_or t i zero_k
made_read from i t now f x u lt is made = get_or_read now i x lt is zero_k ∙ made.after i (omega (arith, u))

-- a block more
pub made_next : (a count : ℕ) (t now new : List K) (f h : ℕ → K) → IsMade 0 a t now f → IsMade a count now new h → ((x : ℕ) → a ≤ x → h x ≡ f x) → IsMade 0 (a + count) t new f
made_next a count t now new f h made block same = record {
  before = λ x u. absurd (omega (arith, u));
  within = λ x u v. at_place x v (cases_lt x a);
  after = λ x u. block.after x (omega (arith, u)) ∙ made.after x (omega (arith, u));
}
  where
    at_place : (x : ℕ) → x < 0 + (a + count) → (x < a) ⊎ (a ≤ x) → get_or new x zero_k ≡ f x
    at_place x v (inl u) = block.before x u ∙ made.within x (omega arith) (omega (arith, u))
    at_place x v (inr u) = block.within x u (omega (arith, v)) ∙ same x u

-- what is made may be written in other words
pub made_as : (from count : ℕ) (t new : List K) (f h : ℕ → K) → IsMade from count t new f → ((x : ℕ) → from ≤ x → x < from + count → f x ≡ h x) → IsMade from count t new h
made_as from count t new f h made same = record { before = made.before; within = λ x u v. made.within x u v ∙ same x u v; after = made.after }

-- what is as it is to be stays
pub made_kept : (from count : ℕ) (t : List K) (f : ℕ → K) → ((x : ℕ) → from ≤ x → x < from + count → get_or t x zero_k ≡ f x) → IsMade from count t t f
made_kept from count t f same = record { before = λ x u. refl; within = same; after = λ x u. refl }
