-- Copied layers fit together, and their values are those of each copy
use Rattle.std.proofs.Common.{◌≡◌, ℕ, ◌+◌, ◌*◌, ◌^◌, ◌<◌, List, [], ◌∷◌, map, length, get_or, All, refl, sym, ◌∙◌, ap, ap₂, arith, mul_comm}
use Rattle.std.proofs.lemmas.Nat.{pow-add}
use Rattle.std.proofs.lemmas.List.{length-map}
use Rattle.std.proofs.lemmas.List.Elements.{All-head, All-tail, All-cons, All-nil}
use Rattle.field_ext.specs.Ring.{Ops}
use Rattle.circuit_core.specs.declared.gate.CircuitGate.{CircuitGate}
use Rattle.circuit_core.specs.Parts.{IsOver}
use Rattle.wiring_poly.specs.Wiring.{gate_output, values_above}
use Rattle.gkr_layers.specs.Layers.{GateLayer, FitTogether, values_over}
use Rattle.gkr_layers.proofs.api.Circuits.{input_exponent}
use Rattle.batch_core.specs.Copies.{copies_table, moved, copies, copied_layers}
use Rattle.batch_core.proofs.api.CopySums.{length-joined}
use Rattle.batch_core.proofs.api.Joined.{block_below, read-joined, joined-same, map-joined, all-joined}

-- 2 ^ n copies of 2 ^ j positions
pub all_positions : (j n : ℕ) → 2 ^ n * 2 ^ j ≡ 2 ^ (j + n)
all_positions j n = mul_comm (2 ^ n) (2 ^ j) ∙ sym (pow-add 2 j n)

pub length-copies_table : {X : Type 0} (j n : ℕ) (table : ℕ → List X) → ((c : ℕ) → length (table c) ≡ 2 ^ j) → length (copies_table n table) ≡ 2 ^ (j + n)
length-copies_table j n table s = length-joined (2 ^ n) (2 ^ j) table s ∙ all_positions j n

pub length-copies : (j n k : ℕ) (gates : List CircuitGate) → length gates ≡ 2 ^ j → length (copies n k gates) ≡ 2 ^ (j + n)
length-copies j n k gates s = length-copies_table j n (λ c. map (moved (c * 2 ^ k)) gates) (λ c. length-map gates (moved (c * 2 ^ k)) ∙ s)

moved_over : (n k c : ℕ) (gates : List CircuitGate) → c < 2 ^ n → All (IsOver (2 ^ k)) gates → All (IsOver (2 ^ (k + n))) (map (moved (c * 2 ^ k)) gates)
moved_over n k c [] b over = All-nil (IsOver (2 ^ (k + n)))
moved_over n k c (gate ∷ gates) b over =
    let here = All-head (IsOver (2 ^ k)) gate gates over in
    let all = all_positions k n in
    let left = block_below c (2 ^ n) (2 ^ k) gate.left b here.left in
    let right = block_below c (2 ^ n) (2 ^ k) gate.right b here.right in
    All-cons (IsOver (2 ^ (k + n))) (moved (c * 2 ^ k) gate) (map (moved (c * 2 ^ k)) gates)
    (record { left = omega (arith, all, left); right = omega (arith, all, right) })
    (moved_over n k c gates b (All-tail (IsOver (2 ^ k)) gate gates over))

pub copies_over : (n k : ℕ) (gates : List CircuitGate) → All (IsOver (2 ^ k)) gates → All (IsOver (2 ^ (k + n))) (copies n k gates)
copies_over n k gates over = all-joined (IsOver (2 ^ (k + n))) (2 ^ n) (λ c. map (moved (c * 2 ^ k)) gates) (λ c b. moved_over n k c gates b over)

pub copies_fit : (j n : ℕ) (layers : List GateLayer) → FitTogether j layers → FitTogether (j + n) (copied_layers n layers)
copies_fit j n [] fit = tt
copies_fit j n (layer ∷ layers) fit = (
  length-copies j n layer.k layer.gates fit.0,
  copies_over n layer.k layer.gates fit.1,
  copies_fit layer.k n layers fit.2,
)

module _ {A : Type 0} (o : Ops A) where
  -- the values of one copy of a layer, over the table of all copies
  above_moved : (n k c : ℕ) (gates : List CircuitGate) (t : ℕ → List A) → ((c : ℕ) → length (t c) ≡ 2 ^ k) → c < 2 ^ n → All (IsOver (2 ^ k)) gates →
      values_above o (map (moved (c * 2 ^ k)) gates) (copies_table n t) ≡ values_above o gates (t c)
  above_moved n k c [] t s b over = refl
  above_moved n k c (gate ∷ gates) t s b over =
      let here = All-head (IsOver (2 ^ k)) gate gates over in
      ap₂ (λ (x : A) (xs : List A). x ∷ xs)
      (ap₂ (gate_output o gate) (read-joined (2 ^ n) (2 ^ k) t c gate.left o.zero s b here.left) (read-joined (2 ^ n) (2 ^ k) t c gate.right o.zero s b here.right))
      (above_moved n k c gates t s b (All-tail (IsOver (2 ^ k)) gate gates over))

  above_copies : (n k : ℕ) (gates : List CircuitGate) (t : ℕ → List A) → ((c : ℕ) → length (t c) ≡ 2 ^ k) → All (IsOver (2 ^ k)) gates →
      values_above o (copies n k gates) (copies_table n t) ≡ copies_table n (λ c. values_above o gates (t c))
  above_copies n k gates t s over =
      map-joined (λ gate. gate_output o gate (get_or (copies_table n t) gate.left o.zero) (get_or (copies_table n t) gate.right o.zero)) (2 ^ n) (λ c. map (moved (c * 2 ^ k)) gates)
      ∙ joined-same (2 ^ n) (λ c. values_above o (map (moved (c * 2 ^ k)) gates) (copies_table n t)) (λ c. values_above o gates (t c)) (λ c b. above_moved n k c gates t s b over)

  pub length-over : (j : ℕ) (layers : List GateLayer) (input : List A) → FitTogether j layers → length input ≡ 2 ^ input_exponent j layers → length (values_over o layers input) ≡ 2 ^ j
  length-over j [] input fit s = s
  length-over j (layer ∷ layers) input fit s = length-map layer.gates _ ∙ fit.0

  -- the values of copied layers are each copy's values, one after another
  pub over_copies : (j n : ℕ) (layers : List GateLayer) (input : ℕ → List A) → FitTogether j layers → ((c : ℕ) → length (input c) ≡ 2 ^ input_exponent j layers) →
      values_over o (copied_layers n layers) (copies_table n input) ≡ copies_table n (λ c. values_over o layers (input c))
  over_copies j n [] input fit s = refl
  over_copies j n (layer ∷ layers) input fit s =
      ap (values_above o (copies n layer.k layer.gates)) (over_copies layer.k n layers input fit.2 s)
      ∙ above_copies n layer.k layer.gates (λ c. values_over o layers (input c)) (λ c. length-over layer.k layers (input c) fit.2 (s c)) fit.1
