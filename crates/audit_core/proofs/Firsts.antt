-- The first number of which something holds, as more numbers are looked at
use Rattle.std.proofs.Common.{◌≡◌, ℕ, ◌+◌, ◌-◌, ◌<◌, ◌≤◌, ◌⊎◌, inl, inr, Option, Some, None, refl, ap, subst, arith}
use Rattle.std.proofs.lemmas.Bool.{cases_lt, cases_eq}
use Rattle.std.specs.Prelude.{option_map}
use Rattle.std.specs.Option.{option_or}
use Rattle.audit_core.specs.First.{NamesFirst}

abbrev Named : (ℕ → Type 0) → ℕ → Option ℕ → Type 0
Named P count found = NamesFirst P count (λ n. n) found

module _ (P : ℕ → Type 0) where
  -- among none there is none
  pub named_none : {A : Type 0} (name : ℕ → A) → NamesFirst P 0 name None
  named_none name n u = absurd (omega arith)

  next_of : (n m : ℕ) → m < n + 1 → ¬ (m ≡ n) → m < n
  next_of n m u d = omega arith

  -- one more, of which it holds
  pub named_here : (n : ℕ) → P n → (found : Option ℕ) → Named P n found → Named P (n + 1) (option_or found (Some n))
  named_here n h None f = (n, record { below = omega arith; holds = h; none_before = f }, refl)
  named_here n h (Some m) f = (f.0, record { below = (let u = f.1.below in omega arith); holds = f.1.holds; none_before = f.1.none_before }, f.2)

  -- one more, of which it doesn't
  pub named_past : (n : ℕ) → ¬ P n → (found : Option ℕ) → Named P n found → Named P (n + 1) found
  named_past n d None f = λ m u h. elim (cases_eq m n) [ inl e ↦ d (subst P e h) | inr e ↦ f m (next_of n m u e) h ]
  named_past n d (Some m) f = (f.0, record { below = (let u = f.1.below in omega arith); holds = f.1.holds; none_before = f.1.none_before }, f.2)

-- numbers of which the same holds
pub named_same : {A : Type 0} (P Q : ℕ → Type 0) (count : ℕ) (name : ℕ → A) → ((n : ℕ) → n < count → P n → Q n) → ((n : ℕ) → n < count → Q n → P n) → (found : Option A) →
    NamesFirst P count name found → NamesFirst Q count name found
named_same P Q count name to from None f = λ n u h. f n u (from n u h)
named_same P Q count name to from (Some x) f =
    (f.0, record { below = f.1.below; holds = to f.0 f.1.below f.1.holds; none_before = λ m u h. f.1.none_before m u (from m (let v = f.1.below in omega arith) h) }, f.2)

-- said in other words
pub named_map : {A : Type 0} (P : ℕ → Type 0) (count : ℕ) (name : ℕ → A) (found : Option ℕ) → Named P count found → NamesFirst P count name (option_map name found)
named_map P count name None f = f
named_map P count name (Some m) f = (f.0, f.1, ap name f.2)

-- numbers from k on after those below
pub named_behind : (P : ℕ → Type 0) (k count : ℕ) (first found : Option ℕ) → Named P k first → Named (λ n. P (k + n)) count found → Named P (k + count) (option_or first (option_map (λ n. k + n) found))
named_behind P k count (Some m) found f g = (f.0, record { below = (let u = f.1.below in omega arith); holds = f.1.holds; none_before = f.1.none_before }, f.2)
named_behind P k count None None f g = λ n u h.
    elim (cases_lt n k) [
      | inl v ↦ f n v h
      | inr v ↦ (let e : n ≡ k + (n - k) = omega arith in g (n - k) (omega arith) (subst P e h))
    ]
named_behind P k count None (Some m) f g = (
  k + g.0,
  record {
    below = (let u = g.1.below in omega arith);
    holds = g.1.holds;
    none_before = λ n u h. before n u h (cases_lt n k);
  },
  ap (λ i. k + i) g.2,
)
  where
    before : (n : ℕ) → n < k + g.0 → P n → (n < k) ⊎ (k ≤ n) → ⊥
    before n u h (inl v) = f n v h
    before n u h (inr v) = (let e : n ≡ k + (n - k) = omega arith in g.1.none_before (n - k) (omega arith) (subst P e h))
