-- Parts that were worked, each once, and lie in their places.
use Rattle.std.proofs.Common.{◌≡◌, ◌≢◌, ℕ, zero, suc, ◌<◌, ◌≤◌, eqb, cond, List, [], ◌∷◌, ◌++◌, map, length, get_or, Some, None, slice_get, sym, ap, ◌∙◌, subst, arith}
use mathlib.Core.Logic.{dite}
use native.Mathlib.Decide.{ℕ_discrete}
use Rattle.std.specs.List.{All, range_with_len}
use Rattle.std.specs.List.Sorted.{IsPermutation}
use Rattle.std.proofs.lemmas.Bool.Decides.{nat_tests}
use Rattle.std.proofs.lemmas.List.{map-append}
use Rattle.std.proofs.lemmas.List.Elements.{All-cons, All-head, All-tail}
use Rattle.tallies.specs.Tallies.{times}
use Rattle.tallies.proofs.api.Once.{permutation_once}
use Rattle.phase_run.specs.Work.{ArePartsWorked}

module _ {T : Type 0} (f : ℕ → T → T) (parts : List T) where
  abbrev Right : ℕ × T → Type 0
  Right p = (x : T) × (slice_get parts p.0 ≡ Some x) × (p.1 ≡ f p.0 x)

  right_more : (put : List (ℕ × T)) (p : ℕ × T) → All Right put → Right p → All Right (put ++ p ∷ [])
  right_more [] p h r = All-cons Right p [] r h
  right_more (q ∷ put) p h r = All-cons Right q (put ++ p ∷ []) (All-head Right q put h) (right_more put p (All-tail Right q put h) r)

  right_both : (a b : List (ℕ × T)) → All Right a → All Right b → All Right (a ++ b)
  right_both [] b h k = k
  right_both (q ∷ a) b h k = All-cons Right q (a ++ b) (All-head Right q a h) (right_both a b (All-tail Right q a h) k)

  pub worked_step : (put : List (ℕ × T)) (drawn : List ℕ) (k : ℕ) (x y : T) (put' : List (ℕ × T)) (drawn' : List ℕ) → put' ≡ put ++ (k, y) ∷ [] → drawn' ≡ drawn ++ k ∷ []
      → ArePartsWorked f parts put drawn → slice_get parts k ≡ Some x → y ≡ f k x → ArePartsWorked f parts put' drawn'
  worked_step put drawn k x y put' drawn' e d w at is = record {
    numbers = ap (map (λ (p : ℕ × T). p.0)) e ∙ map-append (λ (p : ℕ × T). p.0) put ((k, y) ∷ []) ∙ ap (λ (l : List ℕ). l ++ k ∷ []) w.numbers ∙ sym d;
    each = subst (All Right) (sym e) (right_more put (k, y) w.each (x, at, is));
  }

  pub worked_both : (a b : List (ℕ × T)) (xs ys : List ℕ) (put : List (ℕ × T)) (drawn : List ℕ) → put ≡ a ++ b → drawn ≡ xs ++ ys → ArePartsWorked f parts a xs → ArePartsWorked f parts b ys → ArePartsWorked f parts put drawn
  worked_both a b xs ys put drawn e d v w = record {
    numbers = ap (map (λ (p : ℕ × T). p.0)) e ∙ map-append (λ (p : ℕ × T). p.0) a b ∙ ap (λ (l : List ℕ). l ++ map (λ (p : ℕ × T). p.0) b) v.numbers ∙ ap (λ (l : List ℕ). xs ++ l) w.numbers ∙ sym d;
    each = subst (All Right) (sym e) (right_both a b v.each w.each);
  }

  -- a key that is counted is at some place
  found : (l : List (ℕ × T)) (k : ℕ) → 1 ≤ times k (map (λ (p : ℕ × T). p.0) l) → (i : ℕ) × (i < length l) × ((d : ℕ × T) → (get_or l i d).0 ≡ k)
  found [] k h = absurd (omega arith)
  found (p ∷ l) k h = dite (ℕ_discrete k p.0)
      (λ (e : k ≡ p.0). (0, omega arith, λ d. sym e))
      (λ n. let r = found l k (let z : cond {A = ℕ} (eqb k p.0) 1 0 ≡ 0 = not_key k p.0 n in omega arith) in (suc r.0, (let lt = r.1 in omega arith), r.2)) where
        not_key : (j k : ℕ) → j ≢ k → cond {A = ℕ} (eqb j k) 1 0 ≡ 0
        not_key j k n = grind (arith, nat_tests)

  get_below : (l : List T) (k : ℕ) (x : T) → slice_get l k ≡ Some x → k < length l
  get_below [] k x e = absurd (no_some e) where
    no_some : {A : Type 0} {a : A} → None ≡ Some a → ⊥
    no_some e = cc
  get_below (y ∷ l) zero x e = omega arith
  get_below (y ∷ l) (suc k) x e = omega (arith, get_below l k x e)

  -- where each part was drawn, each place has what its part becomes
  pub all_worked : (put : List (ℕ × T)) (drawn : List ℕ) (items : List T) → IsPermutation (range_with_len 0 (length parts)) drawn → ArePartsWorked f parts put drawn → All (λ (p : ℕ × T). slice_get items p.0 ≡ Some p.1) put
      → (k : ℕ) (x : T) → slice_get parts k ≡ Some x → slice_get items k ≡ Some (f k x)
  all_worked put drawn items p w there k x at = let one = permutation_once (length parts) drawn p k (get_below parts k x at) in
      let r = found put k (let e = ap (times k) w.numbers in omega arith) in
      let d : ℕ × T = (k, x) in let q : ℕ × T = get_or put r.0 d in
      let key : q.0 ≡ k = r.2 d in
      let lies : slice_get items q.0 ≡ Some q.1 = there r.0 d r.1 in
      let right : Right q = w.each r.0 d r.1 in
      let same : x ≡ right.0 = some_same x right.0 (sym at ∙ ap (slice_get parts) (sym key) ∙ right.1) in
      ap (slice_get items) (sym key) ∙ lies ∙ ap Some (right.2 ∙ λ i. f (key i) (sym same i)) where
        some_same : (a c : T) → Some a ≡ Some c → a ≡ c
        some_same a c e = cc
