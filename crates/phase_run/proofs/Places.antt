-- Outputs at the places of their pieces.
use Rattle.std.proofs.Common.{◌≡◌, ◌≢◌, ℕ, ◌+◌, ◌<◌, ◌≤◌, eqb, cond, List, [], ◌∷◌, ◌++◌, map, length, get_or, set, replicate, Option, Some, None, MatchOption, sym, refl, ap, ◌∙◌, subst, arith, length-set, get_or-set_same, get_or-set_other}
use mathlib.Core.Logic.{dite}
use native.Mathlib.Decide.{ℕ_discrete}
use Rattle.std.proofs.Math.ListN.{get_or-map}
use Rattle.std.specs.List.{All, range_with_len}
use Rattle.std.specs.List.Sorted.{IsPermutation}
use Rattle.std.proofs.lemmas.List.Sorted.{All-permutation}
use Rattle.std.proofs.lemmas.List.FromFn.{map-range_with_len_more, length-range_with_len, get_or-range_with_len}
use Rattle.std.proofs.lemmas.Bool.Decides.{nat_tests}
use Rattle.std.proofs.lemmas.List.{length-map, get_or_default, get_or-replicate, map-append}
use Rattle.std.proofs.lemmas.List.Elements.{All-pop}
use Rattle.tallies.specs.Tallies.{times}
use Rattle.tallies.proofs.api.Once.{times-append, permutation_once}
use Rattle.phase_run.specs.Work.{AllPlaced}

abbrev pub key_of : {X : Type 0} → ℕ × X → ℕ
key_of p = p.0

-- Each place is vacant where all of its keys are left, and else has its output
abbrev pub Placing : {X : Type 0} → (ℕ → X) → List ℕ → List ℕ → List (Option X) → Type 0
Placing {X} out all left slots = (j : ℕ) → j < length slots → MatchOption (get_or slots j None) (times j left ≡ times j all) (λ (x : X). x ≡ out j)

module _ {X : Type 0} (out : ℕ → X) where
  pub none_placed : (all : List ℕ) (n : ℕ) (slots : List (Option X)) → slots ≡ replicate n None → length slots ≡ n → Placing out all all slots
  none_placed all n slots is len j h = subst (λ (o : Option X). MatchOption o (times j all ≡ times j all) (λ (x : X). x ≡ out j))
      (sym (ap (λ (l : List (Option X)). get_or l j None) is ∙ get_or-replicate n j None None (omega arith))) refl

  fewer : (o : Option X) (j : ℕ) (P Q : Type 0) → (P → Q) → MatchOption o P (λ (x : X). x ≡ out j) → MatchOption o Q (λ (x : X). x ≡ out j)
  fewer None j P Q f h = f h
  fewer (Some x) j P Q f h = h

  other_times : (j k : ℕ) (l : List ℕ) → j ≢ k → times j (l ++ k ∷ []) ≡ times j l
  other_times j k l n = let z : cond {A = ℕ} (eqb j k) 1 0 ≡ 0 = not_key j k n in omega (arith, times-append j l (k ∷ [])) where
    not_key : (j k : ℕ) → j ≢ k → cond {A = ℕ} (eqb j k) 1 0 ≡ 0
    not_key j k n = grind (arith, nat_tests)

  pub place_one : (all left left' : List ℕ) (k : ℕ) (x : X) (slots : List (Option X)) → left ≡ left' ++ k ∷ [] → k < length slots → x ≡ out k → Placing out all left slots → Placing out all left' (set slots k (Some x))
  place_one all left left' k x slots is here e old j h = let lt : j < length slots = let l = length-set slots k (Some x) in omega arith in dite (ℕ_discrete j k)
      (λ same. subst (λ (o : Option X). MatchOption o (times j left' ≡ times j all) (λ (y : X). y ≡ out j)) (sym (ap (λ (i : ℕ). get_or (set slots k (Some x)) i None) same ∙ get_or-set_same slots k (Some x) None here)) (e ∙ ap out (sym same)))
      (λ n. subst (λ (o : Option X). MatchOption o (times j left' ≡ times j all) (λ (y : X). y ≡ out j)) (sym (get_or-set_other slots k j (Some x) None n))
      (fewer (get_or slots j None) j (times j left ≡ times j all) (times j left' ≡ times j all) (λ o. sym (other_times j k left' n) ∙ ap (times j) (sym is) ∙ o) (old j lt)))

  pub all_placed : (all left : List ℕ) (slots : List (Option X)) → left ≡ [] → Placing out all left slots → AllPlaced out all slots
  all_placed all left slots is h j lt = fewer (get_or slots j None) j (times j left ≡ times j all) (times j all ≡ 0) (λ o. sym o ∙ ap (times j) is) (h j lt)

pub keys_pop : {X : Type 0} (xs ys : List (ℕ × X)) (p : ℕ × X) → xs ≡ ys ++ p ∷ [] → map (λ (p : ℕ × X). p.0) xs ≡ map (λ (p : ℕ × X). p.0) ys ++ p.0 ∷ []
keys_pop {X} xs ys p e = ap (map (λ (p : ℕ × X). p.0)) e ∙ map-append (λ (p : ℕ × X). p.0) ys (p ∷ [])

pub place_step : {X : Type 0} (out : ℕ → X) (n : ℕ) (all : List ℕ) (xs ys : List (ℕ × X)) (k : ℕ) (x : X) (slots : List (Option X)) → xs ≡ ys ++ (k, x) ∷ []
    → length slots ≡ n → All (λ (p : ℕ × X). p.0 < n) xs → All (λ (p : ℕ × X). p.1 ≡ out p.0) xs → Placing out all (map (λ (p : ℕ × X). p.0) xs) slots
    → (length (set slots k (Some x)) ≡ n) × All (λ (p : ℕ × X). p.0 < n) ys × All (λ (p : ℕ × X). p.1 ≡ out p.0) ys × Placing out all (map (λ (p : ℕ × X). p.0) ys) (set slots k (Some x))
place_step {X} out n all xs ys k x slots is len low right placed =
    let a = All-pop (λ (p : ℕ × X). p.0 < n) xs ys (Some (k, x)) is low in
    let b = All-pop (λ (p : ℕ × X). p.1 ≡ out p.0) xs ys (Some (k, x)) is right in
    let at : k < n = a.1 in
    (length-set slots k (Some x) ∙ len, a.0, b.0, place_one out all (map (λ (p : ℕ × X). p.0) xs) (map (λ (p : ℕ × X). p.0) ys) k x slots (keys_pop xs ys (k, x) is) (omega arith) b.1 placed)

pub gather_step : {X : Type 0} (out : ℕ → X) (n i : ℕ) (slots : List (Option X)) (o o' : Option X) (all : List X) (x : X) → length slots ≡ n → i < length slots → o' ≡ Some x → o' ≡ get_or slots i o' → all ≡ map out (range_with_len 0 i)
    → ((j : ℕ) → i ≤ j → j < length slots → get_or slots j None ≡ Some (out j))
    → (length (set slots i o) ≡ n) × (all ++ x ∷ [] ≡ map out (range_with_len 0 (i + 1))) × ((j : ℕ) → i + 1 ≤ j → j < length (set slots i o) → get_or (set slots i o) j None ≡ Some (out j))
gather_step {X} out n i slots o o' all x len at here found so each =
    let now : x ≡ out i = some_same x (out i) (sym here ∙ found ∙ get_or_default slots i o' None at ∙ each i (omega arith) at) in (
      length-set slots i o ∙ len,
      sym (map-range_with_len_more out 0 i i (omega arith) ∙ ap (λ (l : List X). l ++ out i ∷ []) (sym so) ∙ ap (λ (y : X). all ++ y ∷ []) (sym now)),
      λ j low lt. let l = length-set slots i o in get_or-set_other slots i j o None (λ e. absurd (omega arith)) ∙ each j (omega arith) (omega arith),
    ) where
      some_same : (a b : X) → Some a ≡ Some b → a ≡ b
      some_same a b e = cc

below_range : (n : ℕ) → All (λ x. x < n) (range_with_len 0 n)
below_range n k d h = let l = length-range_with_len 0 n in let lt : k < n = omega arith in let e = get_or-range_with_len 0 n k d lt in omega arith

pub keys_below : {X : Type 0} (n : ℕ) (pairs : List (ℕ × X)) → IsPermutation (range_with_len 0 n) (map (λ (p : ℕ × X). p.0) pairs) → All (λ (p : ℕ × X). p.0 < n) pairs
keys_below {X} n pairs p k d h = let a = All-permutation (λ x. x < n) _ _ p (below_range n) k d.0 (omega (arith, length-map pairs (λ (p : ℕ × X). p.0))) in
    subst (λ (x : ℕ). x < n) (get_or-map (λ (p : ℕ × X). p.0) pairs k d) a

pub all_there : {X : Type 0} (out : ℕ → X) (n : ℕ) (keys : List ℕ) (slots : List (Option X)) → IsPermutation (range_with_len 0 n) keys → length slots ≡ n → AllPlaced out keys slots
    → (j : ℕ) → j < length slots → get_or slots j None ≡ Some (out j)
all_there {X} out n keys slots p len placed j lt = there (get_or slots j None) (placed j lt) where
  there : (o : Option X) → MatchOption o (times j keys ≡ 0) (λ (x : X). x ≡ out j) → o ≡ Some (out j)
  there None z = let one = permutation_once n keys p j (omega arith) in absurd (omega arith)
  there (Some x) e = ap Some e
