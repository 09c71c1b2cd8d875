-- Parts that are moved into slots and out of them.
use Rattle.std.proofs.Common.{◌≡◌, ℕ, zero, suc, ◌+◌, ◌<◌, List, [], ◌∷◌, ◌++◌, map, length, take, set, get_or, replicate, Option, Some, None, slice_get, sym, refl, ap, ◌∙◌, arith}
use mathlib.Core.Option.{some, some-ne-none, some-injective}
use lib.ListN.{get_elem?}

module _ {T : Type 0} where
  pub fill_step : (n : ℕ) (x : T) (rest : List T) (slots : List (Option T)) → slots ≡ replicate (suc n) None ++ map Some rest → set slots n (Some x) ≡ replicate n None ++ map Some (x ∷ rest)
  fill_step n x rest slots e = ap (λ (l : List (Option T)). set l n (Some x)) e ∙ here n where
    here : (n : ℕ) → set (replicate (suc n) None ++ map Some rest) n (Some x) ≡ replicate n None ++ map Some (x ∷ rest)
    here zero = refl
    here (suc n) = ap (λ (l : List (Option T)). None ∷ l) (here n)

  take_next : (l : List (Option T)) (i : ℕ) (x : Option T) → slice_get l i ≡ Some x → take (suc i) l ≡ take i l ++ x ∷ []
  take_next [] i x e = absurd (no_some e) where
    no_some : {A : Type 0} {a : A} → None ≡ Some a → ⊥
    no_some e = cc
  take_next (y ∷ l) zero x e = ap (λ (z : Option T). z ∷ []) (some_same y x e) where
    some_same : (a c : Option T) → Some a ≡ Some c → a ≡ c
    some_same a c e = cc
  take_next (y ∷ l) (suc i) x e = ap (λ (m : List (Option T)). y ∷ m) (take_next l i x e)

  pub take_more : (l : List (Option T)) (i : ℕ) (x : Option T) → slice_get l i ≡ Some x → take (i + 1) l ≡ take i l ++ x ∷ []
  take_more l i x e = let n : i + 1 ≡ suc i = omega arith in ap (λ (n : ℕ). take n l) n ∙ take_next l i x e

  pub got : (l : List (Option T)) (i : ℕ) (x d : Option T) → slice_get l i ≡ Some x → get_or l i d ≡ x
  got [] i x d e = absurd (no_some e) where
    no_some : {A : Type 0} {a : A} → None ≡ Some a → ⊥
    no_some e = cc
  got (y ∷ l) zero x d e = some_same y x e where
    some_same : (a c : Option T) → Some a ≡ Some c → a ≡ c
    some_same a c e = cc
  got (y ∷ l) (suc i) x d e = got l i x d e

  pub get_set_other : (l : List (Option T)) (i j : ℕ) (a : Option T) → i < j → slice_get (set l i a) j ≡ slice_get l j
  get_set_other [] i j a h = refl
  get_set_other (y ∷ l) i zero a h = absurd (omega arith)
  get_set_other (y ∷ l) zero (suc j) a h = refl
  get_set_other (y ∷ l) (suc i) (suc j) a h = get_set_other l i j a (omega arith)

  pub there : (l : List T) (k : ℕ) (x : T) → get_elem? l k ≡ some x → slice_get l k ≡ Some x
  there [] k x e = absurd (some-ne-none x (sym e))
  there (y ∷ l) zero x e = ap Some (some-injective y x e)
  there (y ∷ l) (suc k) x e = there l k x e

  pub there_last : (l : List T) (x : T) → slice_get (l ++ x ∷ []) (length l) ≡ Some x
  there_last [] x = refl
  there_last (y ∷ l) x = there_last l x

  pub there_before : (l : List T) (x y : T) (k : ℕ) → slice_get l k ≡ Some y → slice_get (l ++ x ∷ []) k ≡ Some y
  there_before [] x y k e = absurd (no_some e) where
    no_some : {A : Type 0} {a : A} → None ≡ Some a → ⊥
    no_some e = cc
  there_before (z ∷ l) x y zero e = e
  there_before (z ∷ l) x y (suc k) e = there_before l x y k e

  pub full_slots : (parts : List T) (slots : List (Option T)) → slots ≡ map Some parts → (i : ℕ) → i < length slots → (x : T) × (slice_get slots i ≡ Some (Some x))
  full_slots parts slots e i h = let r = here parts i (let n = ap length e in omega arith) in (r.0, ap (λ (l : List (Option T)). slice_get l i) e ∙ r.1) where
    here : (parts : List T) (i : ℕ) → i < length (map Some parts) → (x : T) × (slice_get (map Some parts) i ≡ Some (Some x))
    here [] i h = absurd (omega arith)
    here (y ∷ l) zero h = (y, refl)
    here (y ∷ l) (suc i) h = here l i (omega arith)

  pub same_parts : (a b : List T) → map Some a ≡ map Some b → a ≡ b
  same_parts [] [] e = refl
  same_parts [] (y ∷ b) e = absurd (empty e) where
    empty : {A : Type 0} {x : A} {l : List A} → [] ≡ x ∷ l → ⊥
    empty e = cc
  same_parts (x ∷ a) [] e = absurd (empty e) where
    empty : {A : Type 0} {x : A} {l : List A} → x ∷ l ≡ [] → ⊥
    empty e = cc
  same_parts (x ∷ a) (y ∷ b) e = let h : x ≡ y = first (map Some a) (map Some b) e in let r = same_parts a b (others (map Some a) (map Some b) e) in λ i. h i ∷ r i where
    first : (k l : List (Option T)) → Some x ∷ k ≡ Some y ∷ l → x ≡ y
    first k l e = cc

    others : (k l : List (Option T)) → Some x ∷ k ≡ Some y ∷ l → k ≡ l
    others k l e = cc

  pub here : (l : List T) (k : ℕ) (x : T) → slice_get l k ≡ Some x → get_elem? l k ≡ some x
  here [] k x e = absurd (no_some e) where
    no_some : {A : Type 0} {a : A} → None ≡ Some a → ⊥
    no_some e = cc
  here (y ∷ l) zero x e = ap some (same y x e) where
    same : (a c : T) → Some a ≡ Some c → a ≡ c
    same a c e = cc
  here (y ∷ l) (suc k) x e = here l k x e

pub at_there : {A : Type 0} (l : List A) (k : ℕ) → k < length l → (x : A) × (get_elem? l k ≡ some x)
at_there [] k h = absurd (omega arith)
at_there (x ∷ l) zero h = (x, refl)
at_there (x ∷ l) (suc k) h = at_there l k (omega arith)

pub at_or : {A : Type 0} (l : List A) (i : ℕ) (d : A) → i < length l → get_elem? l i ≡ some (get_or l i d)
at_or [] i d h = absurd (omega arith)
at_or (x ∷ l) zero d h = refl
at_or (x ∷ l) (suc i) d h = at_or l i d (omega arith)

pub within : {A : Type 0} (l : List A) (k : ℕ) (x : A) → get_elem? l k ≡ some x → k < length l
within [] k x e = absurd (some-ne-none x (sym e))
within (y ∷ l) zero x e = omega arith
within (y ∷ l) (suc k) x e = omega (arith, within l k x e)
