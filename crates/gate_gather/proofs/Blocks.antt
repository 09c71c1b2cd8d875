-- Block after block, the gates that were chosen are sent
use Rattle.std.proofs.Common.{◌≡◌, ℕ, ◌+◌, ◌-◌, ◌<◌, ◌≤◌, List, length, get_or, if◌then◌else◌, ◌==◌, refl, sym, ap, subst, add-one, arith}
use Rattle.field_ext.specs.Ring.{Ops, Laws}
use Rattle.circuit_core.specs.declared.gate.CircuitGate.{CircuitGate}
use Rattle.circuit_core.specs.Parts.{zero_gate}
use Rattle.gate_gather.specs.Choosing.{position_after, AreChosen}
use Rattle.gate_gather.proofs.Chosen.{after-most}
use Rattle.gate_gather.proofs.Sent.{AreSentBefore, sent_next, passed_over}

module _ {A : Type 0} (o : Ops A) (l : Laws A o) (gates : List CircuitGate) (place : CircuitGate → ℕ) (weight : ℕ → CircuitGate → A) (from : ℕ) (start end : ℕ) (chosen : List ℕ) (n places : ℕ)
    (are : AreChosen place gates from places start end chosen n) (within : end ≤ length gates) where
  -- the next of those that were chosen
  pub chosen_sent : (now new : List A) (k : ℕ) → places ≡ length now → length new ≡ length now → k < n →
      ((x : ℕ) → x < length now → get_or new x o.zero ≡ o.add (get_or now x o.zero) (if place (get_or gates (get_or chosen k 0) zero_gate) == from + x then weight (get_or chosen k 0) (get_or gates (get_or chosen k 0) zero_gate) else o.zero)) →
      AreSentBefore o l gates place weight from now (position_after chosen start k) → AreSentBefore o l gates place weight from new (position_after chosen start (k + 1))
  chosen_sent now new k wide same u sends before =
      let p : ℕ = get_or chosen k 0 in
      let inside : get_or chosen k 0 < length gates = omega (arith, are.before k u, within) in
      let next : get_or chosen k 0 + 1 ≡ position_after chosen start (k + 1) = sym (ap (position_after chosen start) (add-one k)) in
      let reached : AreSentBefore o l gates place weight from now p =
      passed_over o l gates place weight from (p - position_after chosen start k) now (position_after chosen start k) p (omega (arith, are.order k u)) (omega (arith, inside))
      (λ q x a b c. are.between k u q x a b (omega (arith, c, wide))) before in
      subst (λ (g : ℕ). AreSentBefore o l gates place weight from new g) next
      (sent_next o l gates place weight from now new p (p + 1) zero_gate inside refl same sends reached)

  -- all of the block
  pub block_sent : (t : List A) (k next : ℕ) → places ≡ length t → start ≤ end → k ≡ n → next ≡ end →
      AreSentBefore o l gates place weight from t (position_after chosen start k) → AreSentBefore o l gates place weight from t next
  block_sent t k next wide u e f before =
      let most : position_after chosen start n ≤ end = after-most chosen start end n u are.before in
      subst (λ (g : ℕ). AreSentBefore o l gates place weight from t g) (sym f)
      (passed_over o l gates place weight from (end - position_after chosen start n) t (position_after chosen start n) end (omega (arith, most)) within
      (λ q x a b c. are.past q x a b (omega (arith, c, wide))) (subst (λ (k : ℕ). AreSentBefore o l gates place weight from t (position_after chosen start k)) e before))
