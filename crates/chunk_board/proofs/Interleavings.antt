-- Where all workers have stopped and what was drawn was worked, the results are each piece's output, once.
use Rattle.std.proofs.Common.{◌≡◌, ℕ, zero, suc, ◌+◌, ◌<◌, ◌≤◌, Bool, true, false, eqb, ltb, cond, List, [], ◌∷◌, ◌++◌, map, Option, Some, sym, refl, ap, ap₂, ◌∙◌, arith, lt_of_not-le}
use mathlib.Core.Logic.{dite}
use native.Mathlib.Decide.{dec_le}
use Rattle.std.proofs.lemmas.Bool.Decides.{nat_tests}
use Rattle.std.specs.List.{All, range_with_len}
use Rattle.std.specs.List.Sorted.{IsPermutation}
use Rattle.std.proofs.lemmas.List.{append-nil}
use Rattle.std.proofs.lemmas.List.Elements.{All-head, All-tail}
use Rattle.tallies.specs.Tallies.{total, times, once_below, HasEachOnce}
use Rattle.tallies.proofs.api.Once.{times-append, split_at, once_suc, drawn_full, once_permutation, empty}
use Rattle.chunk_board.specs.ClaimMachine.{Worker, Phase, start, ClaimStep, IsAt, pieces_of, outputs_of, IsRun, AllStopped, AllWorked, drawn_by, result_at, sum_with}
use Rattle.chunk_board.proofs.Machine.{reached_sound}

-- some worker is left, where not all shares are gone
some_left : (ws : List Worker) → 0 < total (λ v. v.shares) ws → (w : ℕ) × (v : Worker) × IsAt ws w v
some_left [] h = absurd (omega arith)
some_left (v ∷ ws) h = dite (dec_le 1 v.shares) (λ (here : 1 ≤ v.shares). (0, v, (refl, here))) (λ (no : ¬ (1 ≤ v.shares)). let lt = lt_of_not-le no in let r = some_left ws (omega arith) in (suc r.0, r.1, r.2))

full_once : (x n d k : ℕ) → d ≡ once_below x n → (1 ≤ d → 1 ≤ k) → k ≤ d → k ≡ once_below x n
full_once x n d k is more most = on (ltb x n) refl where
  on : (t : Bool) → ltb x n ≡ t → k ≡ once_below x n
  on true e = let one : once_below x n ≡ 1 = ap (λ (b : Bool). cond b 1 0) e in let m = more (omega arith) in omega arith
  on false e = let none : once_below x n ≡ 0 = ap (λ (b : Bool). cond b 1 0) e in omega arith

module _ {X : Type 0} (out : ℕ → X) where
  here : (k : ℕ) (r : ℕ × X) (rs : List (ℕ × X)) (t : Bool) → eqb k r.0 ≡ t → r.1 ≡ out r.0 → 1 ≤ times k (pieces_of (r ∷ rs)) → (1 ≤ times k (pieces_of rs) → result_at k rs ≡ Some (out k)) → cond t (Some r.1) (result_at k rs) ≡ Some (out k)
  here k r rs true e is h more = let same : k ≡ r.0 = grind (arith, nat_tests) in ap Some (is ∙ ap out (sym same))
  here k r rs false e is h more = let none : cond {A = ℕ} (eqb k r.0) 1 0 ≡ 0 = ap (λ (b : Bool). cond b 1 0) e in more (omega arith)

  -- a piece that is in the results has its output there
  found : (k : ℕ) (rs : List (ℕ × X)) → All (λ (r : ℕ × X). r.1 ≡ out r.0) rs → 1 ≤ times k (pieces_of rs) → result_at k rs ≡ Some (out k)
  found k [] a h = absurd (omega arith)
  found k (r ∷ rs) a h = here k r rs (eqb k r.0) refl (All-head (λ (r : ℕ × X). r.1 ≡ out r.0) r rs a) h (λ l. found k rs (All-tail (λ (r : ℕ × X). r.1 ≡ out r.0) r rs a) l)

  outputs_are : (rs : List (ℕ × X)) → All (λ (r : ℕ × X). r.1 ≡ out r.0) rs → outputs_of rs ≡ map out (pieces_of rs)
  outputs_are [] a = refl
  outputs_are (r ∷ rs) a = ap₂ (λ (x : X) (l : List X). x ∷ l) (All-head (λ (r : ℕ × X). r.1 ≡ out r.0) r rs a) (outputs_are rs (All-tail (λ (r : ℕ × X). r.1 ≡ out r.0) r rs a))

  each_placed : (n a : ℕ) (rs : List (ℕ × X)) → ((k : ℕ) → k < a + n → result_at k rs ≡ Some (out k)) → map (λ k. result_at k rs) (range_with_len a n) ≡ map (λ k. Some (out k)) (range_with_len a n)
  each_placed zero a rs h = refl
  each_placed (suc n) a rs h = ap₂ (λ (x : Option X) (l : List (Option X)). x ∷ l) (h a (omega arith)) (each_placed n (a + 1) rs (λ k lt. h k (omega arith)))

  pub all_worked_once : (n shares : ℕ) → 0 < shares → (ss : List ClaimStep) (p : Phase X) → IsRun n out ss (start shares) p → AllStopped p → AllWorked p → HasEachOnce n (pieces_of p.results)
  all_worked_once n shares some_share ss p run stopped worked x = let sound = reached_sound n shares out ss p run in let rule = sound.0 in let left = some_left p.workers (let s = rule.shared in omega arith) in
      let full : n ≤ p.next = rule.done left.0 left.1 left.2.0 (stopped left.0 left.1 left.2) in
      full_once x n (drawn_by x p.workers) (times x (pieces_of p.results)) (rule.drawn x ∙ drawn_full x p.next n full) (worked x) (sound.1.once x)

  once_here : (k n : ℕ) → k < n → once_below k n ≡ 1
  once_here k n h = grind (arith, nat_tests)

  pub placed : (n shares : ℕ) → 0 < shares → (ss : List ClaimStep) (p : Phase X) → IsRun n out ss (start shares) p → AllStopped p → AllWorked p → map (λ k. result_at k p.results) (range_with_len 0 n) ≡ map (λ k. Some (out k)) (range_with_len 0 n)
  placed n shares some_share ss p run stopped worked = let once = all_worked_once n shares some_share ss p run stopped worked in
      each_placed n 0 p.results (λ k lt. found k p.results (reached_sound n shares out ss p run).1.outputs (let e = once k in omega (arith, once_here k n (omega arith))))

range_last : (n a j : ℕ) → a + n ≡ j → range_with_len a (suc n) ≡ range_with_len a n ++ j ∷ []
range_last zero a j e = let is : a ≡ j = omega arith in ap (λ (x : ℕ). x ∷ []) is
range_last (suc n) a j e = ap (λ (l : List ℕ). a ∷ l) (range_last n (a + 1) j (omega arith))

last_below : (n : ℕ) → once_below n (suc n) ≡ 1
last_below n = grind (arith, nat_tests)

-- the others, once n is taken out
without : (n : ℕ) (xs u w : List ℕ) → xs ≡ u ++ n ∷ w → HasEachOnce (suc n) xs → HasEachOnce n (u ++ w)
without n xs u w is h x = let e = h x in let g : times x xs ≡ times x (u ++ n ∷ w) = ap (times x) is in omega (arith, once_suc x n, times-append x u w, times-append x u (n ∷ w))

-- a sum over all numbers below n is the same in any order
module _ {A : Type 0} (add : A → A → A) (z : A) (comm : (x y : A) → add x y ≡ add y x) (assoc : (x y w : A) → add (add x y) w ≡ add x (add y w)) (f : ℕ → A) where
  abbrev sum_of : List ℕ → A
  sum_of xs = sum_with add z (map f xs)

  to_front : (u : List ℕ) (x : ℕ) (w : List ℕ) → sum_of (u ++ x ∷ w) ≡ add (f x) (sum_of (u ++ w))
  to_front [] x w = refl
  to_front (y ∷ u) x w = ap (add (f y)) (to_front u x w) ∙ sym (assoc (f y) (f x) (sum_of (u ++ w))) ∙ ap (λ (a : A). add a (sum_of (u ++ w))) (comm (f y) (f x)) ∙ assoc (f x) (f y) (sum_of (u ++ w))

  at_back : (l : List ℕ) (x : ℕ) → sum_of (l ++ x ∷ []) ≡ add (f x) (sum_of l)
  at_back l x = to_front l x [] ∙ ap (λ (m : List ℕ). add (f x) (sum_of m)) (append-nil l)

  sum_once : (n : ℕ) (xs : List ℕ) → HasEachOnce n xs → sum_of xs ≡ sum_of (range_with_len 0 n)
  sum_once zero xs h = ap sum_of (empty xs (λ x. h x ∙ none_below x)) where
    none_below : (x : ℕ) → once_below x 0 ≡ 0
    none_below x = grind (arith, nat_tests)
  sum_once (suc n) xs h = let s = split_at n xs (let e = h n in omega (arith, last_below n)) in
      ap sum_of s.2 ∙ to_front s.0 n s.1 ∙ ap (add (f n)) (sum_once n (s.0 ++ s.1) (without n xs s.0 s.1 s.2 h)) ∙ sym (at_back (range_with_len 0 n) n) ∙ ap sum_of (sym (range_last n 0 n (omega arith)))

-- what is in the laws
pub interleavings : {X : Type 0} (n shares : ℕ) (out : ℕ → X) (ss : List ClaimStep) (p : Phase X) → 0 < shares → IsRun n out ss (start shares) p → AllStopped p → AllWorked p
    → IsPermutation (range_with_len 0 n) (pieces_of p.results) × (map (λ k. result_at k p.results) (range_with_len 0 n) ≡ map (λ k. Some (out k)) (range_with_len 0 n))
interleavings n shares out ss p some_share run stopped worked = (
  once_permutation n (pieces_of p.results) (all_worked_once out n shares some_share ss p run stopped worked),
  placed out n shares some_share ss p run stopped worked,
)

pub one_sum : {A : Type 0} (n shares : ℕ) (out : ℕ → A) (add : A → A → A) (z : A) → ((x y : A) → add x y ≡ add y x) → ((x y w : A) → add (add x y) w ≡ add x (add y w))
    → (ss : List ClaimStep) (p : Phase A) → 0 < shares → IsRun n out ss (start shares) p → AllStopped p → AllWorked p
    → sum_with add z (outputs_of p.results) ≡ sum_with add z (map out (range_with_len 0 n))
one_sum n shares out add z comm assoc ss p some_share run stopped worked = ap (sum_with add z) (outputs_are out p.results (reached_sound n shares out ss p run).1.outputs)
    ∙ sum_once add z comm assoc out n (pieces_of p.results) (all_worked_once out n shares some_share ss p run stopped worked)
