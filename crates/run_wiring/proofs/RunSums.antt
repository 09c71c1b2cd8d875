-- The wiring polynomials of a layer are sums over its runs
use Rattle.std.proofs.Common.{◌≡◌, ℕ, zero, suc, ◌+◌, ◌^◌, ◌<◌, ◌≤◌, List, [], ◌∷◌, ◌++◌, length, map, get_or, All, drop, refl, sym, ◌∙◌, ap, ap₂, arith, subst, length-append, drop_of_length-le}
use Rattle.std.proofs.lemmas.List.{drop_more}
use Rattle.std.proofs.lemmas.List.FromFn.{get_or-map-range_with_len, length-map-range_with_len}
use Rattle.std.proofs.lemmas.List.Elements.{All-head, All-tail, All-cons, All-nil}
use Rattle.circuit_core.specs.Parts.{IsOver, zero_gate}
use Rattle.std.specs.List.{range_with_len}
use Rattle.field_ext.specs.Ring.{Ops, Laws}
use Rattle.field_ext.specs.Sums.{sum_below}
use Rattle.field_ext.proofs.api.Rings.{zero_add}
use Rattle.mle_table.proofs.api.SumLaws.{sum_below-same}
use Rattle.field_ext.proofs.api.Sums.{sum_below-front}
use Rattle.circuit_core.specs.declared.gate.CircuitGate.{CircuitGate}
use Rattle.circuit_core.specs.declared.gate.Kind.{Kind}
use Rattle.circuit_core.specs.declared.gate.Kind.TheVariants.{Add, Mul}
use Rattle.wiring_poly.specs.Wiring.{by_kind, sum_gates, gate_weight, wiring_add, wiring_mul}
use Rattle.run_wiring.specs.declared.run.Run.{Run}
use Rattle.run_wiring.specs.Runs.{gate_in, gates_in, gates_of, FollowOn, HasGates, IsWithin}
use Rattle.run_wiring.specs.Entries.{run_sum}

-- the sum of f over runs
abbrev pub sum_runs : {A : Type 0} → Ops A → List Run → (Run → A) → A
sum_runs o [] f = o.zero
sum_runs o (run ∷ runs) f = o.add (f run) (sum_runs o runs f)

module _ {A : Type 0} (o : Ops A) (l : Laws A o) where
  -- sums over gates, one list after another
  sum_gates-append : (g : ℕ) (xs ys : List CircuitGate) (f : ℕ → CircuitGate → A) → sum_gates o g (xs ++ ys) f ≡ o.add (sum_gates o g xs f) (sum_gates o (g + length xs) ys f)
  sum_gates-append g [] ys f = let e : g ≡ g + 0 = omega arith in ap (λ (k : ℕ). sum_gates o k ys f) e ∙ sym (zero_add o l (sum_gates o (g + 0) ys f))
  sum_gates-append g (x ∷ xs) ys f =
      let e : g + 1 + length xs ≡ g + suc (length xs) = omega arith in
      ap (o.add (f g x)) (sum_gates-append (g + 1) xs ys f ∙ ap (λ (k : ℕ). o.add (sum_gates o (g + 1) xs f) (sum_gates o k ys f)) e)
      ∙ sym (l.add_assoc (f g x) (sum_gates o (g + 1) xs f) (sum_gates o (g + suc (length xs)) ys f))

  -- over the gates of a run from place s on
  sum_run : (n g s : ℕ) (of : ℕ → CircuitGate) (f : ℕ → CircuitGate → A) → sum_gates o g (map of (range_with_len s n)) f ≡ sum_below o n (λ t. f (g + t) (of (s + t)))
  sum_run zero g s of f = refl
  sum_run (suc n) g s of f =
      let a : g ≡ g + 0 = omega arith in
      let b : s ≡ s + 0 = omega arith in
      ap₂ o.add (λ i. f (a i) (of (b i))) (sum_run n (g + 1) (s + 1) of f ∙ sum_below-same o l n _ _ (λ t u. let p : g + 1 + t ≡ g + suc t = omega arith in let q : s + 1 + t ≡ s + suc t = omega arith in λ i. f (p i) (of (q i))))
      ∙ sym (sum_below-front o l n (λ t. f (g + t) (of (s + t))))

  length-run : (n s : ℕ) (of : ℕ → CircuitGate) → length (map of (range_with_len s n)) ≡ n
  length-run zero s of = refl
  length-run (suc n) s of = ap (λ (k : ℕ). suc k) (length-run n (s + 1) of)

  -- a run's share of a sum that sees its kind, its positions and its operands
  abbrev share_of : List A → List A → List A → Run → A
  share_of z b c run = run_sum o z b c run.first run.left run.lstep run.right run.rstep run.count

  kinds_below : (kind : Kind) (n : ℕ) (f : ℕ → A) → sum_below o n (λ t. by_kind kind (f t) o.zero) ≡ by_kind kind (sum_below o n f) o.zero
  kinds_below Add n f = refl
  kinds_below Mul zero f = refl
  kinds_below Mul (suc n) f = ap (λ (x : A). o.add x o.zero) (kinds_below Mul n f) ∙ l.add_zero o.zero

  other_kinds_below : (kind : Kind) (n : ℕ) (f : ℕ → A) → sum_below o n (λ t. by_kind kind o.zero (f t)) ≡ by_kind kind o.zero (sum_below o n f)
  other_kinds_below Mul n f = refl
  other_kinds_below Add zero f = refl
  other_kinds_below Add (suc n) f = ap (λ (x : A). o.add x o.zero) (other_kinds_below Add n f) ∙ l.add_zero o.zero

  module _ (z b c : List A) where
    add_from : (g : ℕ) (runs : List Run) → FollowOn g runs →
        sum_gates o g (gates_of runs) (λ g gate. by_kind gate.kind (gate_weight o z b c g gate) o.zero) ≡ sum_runs o runs (λ run. by_kind run.kind (share_of z b c run) o.zero)
    add_from g [] follow = refl
    add_from g (run ∷ runs) follow =
        let f : ℕ → CircuitGate → A = λ g gate. by_kind gate.kind (gate_weight o z b c g gate) o.zero in
        let size : g + length (gates_in run) ≡ g + run.count = ap (λ (k : ℕ). g + k) (length-run run.count 0 (gate_in run)) in
        sum_gates-append g (gates_in run) (gates_of runs) f
        ∙ ap₂ o.add
        (sum_run run.count g 0 (gate_in run) f
        ∙ (λ i. sum_below o run.count (λ t. f (sym follow.0 i + t) (gate_in run (zero_plus t i))))
        ∙ kinds_below run.kind run.count (λ t. gate_weight o z b c (run.first + t) (gate_in run t)))
        (ap (λ (k : ℕ). sum_gates o k (gates_of runs) f) size ∙ add_from (g + run.count) runs follow.1)
      where
        zero_plus : (t : ℕ) → 0 + t ≡ t
        zero_plus t = omega arith

    mul_from : (g : ℕ) (runs : List Run) → FollowOn g runs →
        sum_gates o g (gates_of runs) (λ g gate. by_kind gate.kind o.zero (gate_weight o z b c g gate)) ≡ sum_runs o runs (λ run. by_kind run.kind o.zero (share_of z b c run))
    mul_from g [] follow = refl
    mul_from g (run ∷ runs) follow =
        let f : ℕ → CircuitGate → A = λ g gate. by_kind gate.kind o.zero (gate_weight o z b c g gate) in
        let size : g + length (gates_in run) ≡ g + run.count = ap (λ (k : ℕ). g + k) (length-run run.count 0 (gate_in run)) in
        sum_gates-append g (gates_in run) (gates_of runs) f
        ∙ ap₂ o.add
        (sum_run run.count g 0 (gate_in run) f
        ∙ (λ i. sum_below o run.count (λ t. f (sym follow.0 i + t) (gate_in run (zero_plus t i))))
        ∙ other_kinds_below run.kind run.count (λ t. gate_weight o z b c (run.first + t) (gate_in run t)))
        (ap (λ (k : ℕ). sum_gates o k (gates_of runs) f) size ∙ mul_from (g + run.count) runs follow.1)
      where
        zero_plus : (t : ℕ) → 0 + t ≡ t
        zero_plus t = omega arith

    pub add_runs : (runs : List Run) → FollowOn 0 runs → sum_runs o runs (λ run. by_kind run.kind (share_of z b c run) o.zero) ≡ wiring_add o (gates_of runs) z b c
    add_runs runs follow = sym (add_from 0 runs follow)

    pub mul_runs : (runs : List Run) → FollowOn 0 runs → sum_runs o runs (λ run. by_kind run.kind o.zero (share_of z b c run)) ≡ wiring_mul o (gates_of runs) z b c
    mul_runs runs follow = sym (mul_from 0 runs follow)

  -- sums over runs, one more run at a time
  pub runs_more : (runs : List Run) (f : Run → A) (i : ℕ) (d : Run) (sum next all : A) → i < length runs →
      next ≡ o.add sum (f (get_or runs i d)) → o.add sum (sum_runs o (drop i runs) f) ≡ all → o.add next (sum_runs o (drop (i + 1) runs) f) ≡ all
  runs_more runs f i d sum next all u e h =
      ap (λ (x : A). o.add x (sum_runs o (drop (i + 1) runs) f)) e
      ∙ l.add_assoc sum (f (get_or runs i d)) (sum_runs o (drop (i + 1) runs) f)
      ∙ ap (λ (rs : List Run). o.add sum (sum_runs o rs f)) (sym (drop_more runs i d u))
      ∙ h

  pub runs_all : (runs : List Run) (f : Run → A) (i : ℕ) (sum all : A) → length runs ≤ i → o.add sum (sum_runs o (drop i runs) f) ≡ all → sum ≡ all
  runs_all runs f i sum all u h = sym (l.add_zero sum) ∙ ap (λ (rs : List Run). o.add sum (sum_runs o rs f)) (sym (drop_of_length-le runs u)) ∙ h

-- a property of all of two lists, one after the other, is one of each
all_front : {X : Type 0} (P : X → Type 0) (xs ys : List X) → All P (xs ++ ys) → All P xs
all_front P [] ys h = All-nil P
all_front P (x ∷ xs) ys h = All-cons P x xs (All-head P x (xs ++ ys) h) (all_front P xs ys (All-tail P x (xs ++ ys) h))

all_back : {X : Type 0} (P : X → Type 0) (xs ys : List X) → All P (xs ++ ys) → All P ys
all_back P [] ys h = h
all_back P (x ∷ xs) ys h = all_back P xs ys (All-tail P x (xs ++ ys) h)

-- the runs of a layer with 2 ^ k positions over 2 ^ j have their gates within
within_from : (k j g : ℕ) (runs : List Run) → FollowOn g runs → All HasGates runs → All (IsOver (2 ^ j)) (gates_of runs) → g + length (gates_of runs) ≤ 2 ^ k → All (IsWithin k j) runs
within_from k j g [] follow some over capacity = All-nil (IsWithin k j)
within_from k j g (run ∷ runs) follow some over capacity =
    let size : length (gates_in run) ≡ run.count = length-map-range_with_len (gate_in run) 0 run.count in
    let all : length (gates_in run ++ gates_of runs) ≡ length (gates_in run) + length (gates_of runs) = length-append (gates_in run) (gates_of runs) in
    let first : run.first ≡ g = follow.0 in
    let here : All (IsOver (2 ^ j)) (gates_in run) = all_front (IsOver (2 ^ j)) (gates_in run) (gates_of runs) over in
    let at : (t : ℕ) → t < run.count → IsOver (2 ^ j) (gate_in run t) =
    λ t u. subst (IsOver (2 ^ j)) (get_or-map-range_with_len (gate_in run) 0 run.count t t zero_gate u (zero_plus t)) (here t zero_gate (below t (length (gates_in run)) run.count size u)) in
    All-cons (IsWithin k j) run runs
    (record { some = All-head HasGates run runs some; positions = omega (arith, first, capacity, all, size); left = λ t u. (at t u).left; right = λ t u. (at t u).right })
    (within_from k j (g + run.count) runs follow.1 (All-tail HasGates run runs some) (all_back (IsOver (2 ^ j)) (gates_in run) (gates_of runs) over) (omega (arith, capacity, all, size)))
  where
    zero_plus : (t : ℕ) → 0 + t ≡ t
    zero_plus t = omega arith

    below : (t m n : ℕ) → m ≡ n → t < n → t < m
    below t m n e u = omega arith

pub runs_within : (k j : ℕ) (runs : List Run) → FollowOn 0 runs → All HasGates runs → All (IsOver (2 ^ j)) (gates_of runs) → length (gates_of runs) ≡ 2 ^ k → All (IsWithin k j) runs
runs_within k j runs follow some over size = within_from k j 0 runs follow some over (omega (arith, size))
