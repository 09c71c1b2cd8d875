-- Honest messages, one more layer at a time
use Rattle.std.proofs.Common.{◌≡◌, ℕ, ◌+◌, ◌-◌, ◌<◌, ◌≤◌, List, [], ◌∷◌, ◌++◌, length, map, take, drop, get_or, sym, ◌∙◌, ap, subst, arith, append_assoc, append-nil, length-take, length-drop}
use Rattle.std.proofs.lemmas.List.{get_or_append_left, take-append-le}
use Rattle.field_ext.specs.Field.{F, K, k_ops, zero_k}
use Rattle.field_ext.specs.Polynomial.{coefficients}
use Rattle.circuit_core.specs.declared.gate.CircuitGate.{CircuitGate}
use Rattle.circuit_core.specs.Parts.{Parts, height, leaf_value, padded_values, input_table}
use Rattle.circuit_core.specs.Sound.{exponent_at}
use Rattle.gkr_layers.specs.Sumcheck.{round_polynomial}
use Rattle.gkr_layers.specs.Forms.{last_polynomial, place_between}
use Rattle.proof_wire.specs.Forms.{last_degree}
use Rattle.gkr_layers.specs.Layers.{GateLayer, layers_of, values_over, layers_below, next_place}
use Rattle.wiring_poly.proofs.api.Identity.{drop-front}
use Rattle.gkr_layers.proofs.api.Circuits.{over-embed, below_more}
use Rattle.transcript_fs.specs.Source.{Source, draws, state_after}
use Rattle.circuit_eval.specs.Tables.{AreTables}
use Rattle.proof_wire.specs.declared.messages.LayerMessages.{LayerMessages}
use Rattle.proof_wire.specs.Lists.{messages_of, all_messages, HasShape}
use Rattle.transcript_fs.proofs.api.Draws.{draws-append, length-draws}
use Rattle.gkr_layers.proofs.api.Shapes.{length-messages}
use Rattle.gkr_layers.specs.Honest.{IsHonestLayer, AreHonest}
use Rattle.gkr_layers.proofs.api.Forms.{place_over}
use Rattle.proof_wire.specs.declared.form.ProofForm.{ProofForm}
use Rattle.gkr_layers.specs.Places.{Place, IsOver}

pub messages-more : (ms : List LayerMessages) (m : LayerMessages) → all_messages (ms ++ m ∷ []) ≡ all_messages ms ++ messages_of m
messages-more [] m = append-nil (messages_of m)
messages-more (n ∷ ms) m = ap (λ (xs : List (List K)). messages_of n ++ xs) (messages-more ms m) ∙ sym (append_assoc (messages_of n) (all_messages ms) (messages_of m))

-- the layer's messages at the beginning of longer lists
module _ (form : ProofForm) (k : ℕ) (gates : List CircuitGate) (qs qs' : List (List K)) (rs rs' : List K) (u : length qs ≡ k + k + 1) (v : length rs ≡ k + k + 1) where
  front : (j : ℕ) → j ≤ k + k → take j (rs ++ rs') ≡ take j rs
  front j w = take-append-le j rs rs' (omega arith)

  front_layer : (values : List K) (place : Place K) → IsHonestLayer form k gates values place qs rs → IsHonestLayer form k gates values place (qs ++ qs') (rs ++ rs')
  front_layer values place h = record {
    rounds = λ j w.
        get_or_append_left qs qs' [] j (omega arith) ∙ h.rounds j w
        ∙ ap (λ (bound : List K). coefficients k_ops 3 (round_polynomial k_ops k gates values place bound (k + k - j - 1))) (sym (front j (omega arith)));
    last =
        get_or_append_left qs qs' [] (k + k) (omega arith) ∙ h.last
        ∙ ap (λ (xs : List K). coefficients k_ops (last_degree form k + 1) (last_polynomial k_ops form values (take k xs) (drop k xs))) (sym (front (k + k) (omega arith)));
  }

  front_place : next_place k_ops form k (rs ++ rs') ≡ next_place k_ops form k rs
  front_place =
      λ i. place_between k_ops form (take k (front (k + k) (omega arith) i)) (drop k (front (k + k) (omega arith) i)) (get_or_append_left rs rs' zero_k (k + k) (omega arith) i)

  pub honest_more : (layers : List GateLayer) (input : List K) (place next : Place K) → next ≡ next_place k_ops form k rs →
      IsHonestLayer form k gates (values_over k_ops layers input) place qs rs → AreHonest form layers input next qs' rs' → AreHonest form (record { k = k; gates = gates } ∷ layers) input place (qs ++ qs') (rs ++ rs')
  honest_more layers input place next e h rest =
      let dq : qs' ≡ drop (k + k + 1) (qs ++ qs') = sym (ap (λ (i : ℕ). drop i (qs ++ qs')) (sym u) ∙ drop-front qs qs') in
      let dr : rs' ≡ drop (k + k + 1) (rs ++ rs') = sym (ap (λ (i : ℕ). drop i (rs ++ rs')) (sym v) ∙ drop-front rs rs') in
      let to : next ≡ next_place k_ops form k (rs ++ rs') = e ∙ sym front_place in
      (front_layer (values_over k_ops layers input) place h, coe 0 1 (i. AreHonest form layers input (to i) (dq i) (dr i)) rest)

-- the table of a layer holds the values that the layers below compute
pub table_values : (p : Parts) (inputs : List F) (tables : List (List K)) (i : ℕ) (values : List K) → AreTables p inputs tables → i ≤ height p → values ≡ get_or tables i [] →
    values ≡ values_over k_ops (layers_below p i) (input_table p inputs)
table_values p inputs tables i values h u e = e ∙ h.each i u ∙ over-embed p i (drop i p.layers) (padded_values p.input_width (map (leaf_value inputs) p.leaves))

-- one more layer's messages, where the rest is to be proved after them
pub layers_more : (form : ProofForm) (p : Parts) (inputs : List F) (source : Source) (s : List ℕ) (i : ℕ) (ms : List LayerMessages) (m : LayerMessages) (values : List K) (first place next : Place K) → i < height p →
    HasShape form (exponent_at p (i + 1)) m →
    values ≡ values_over k_ops (layers_below p (i + 1)) (input_table p inputs) →
    next ≡ next_place k_ops form (exponent_at p (i + 1)) (draws source (state_after source s (all_messages ms)) (messages_of m)) →
    IsHonestLayer form (exponent_at p (i + 1)) (get_or p.layers i []) values place (messages_of m) (draws source (state_after source s (all_messages ms)) (messages_of m)) →
    ((qs : List (List K)) (rs : List K) → AreHonest form (layers_below p i) (input_table p inputs) place qs rs →
    AreHonest form (layers_of p) (input_table p inputs) first (all_messages ms ++ qs) (draws source s (all_messages ms) ++ rs)) →
    (qs : List (List K)) (rs : List K) → AreHonest form (layers_below p (i + 1)) (input_table p inputs) next qs rs →
    AreHonest form (layers_of p) (input_table p inputs) first (all_messages (ms ++ m ∷ []) ++ qs) (draws source s (all_messages (ms ++ m ∷ [])) ++ rs)
layers_more form p inputs source s i ms m values first place next u shape is e h whole qs rs rest =
    let k : ℕ = exponent_at p (i + 1) in
    let gates : List CircuitGate = get_or p.layers i [] in
    let M : List (List K) = messages_of m in
    let before : List (List K) = all_messages ms in
    let d : List K = draws source (state_after source s before) M in
    let input : List K = input_table p inputs in
    let below : List GateLayer = layers_below p (i + 1) in
    let count : length (messages_of m) ≡ exponent_at p (i + 1) + exponent_at p (i + 1) + 1 = length-messages form k m shape in
    let h' : IsHonestLayer form (exponent_at p (i + 1)) (get_or p.layers i []) (values_over k_ops (layers_below p (i + 1)) (input_table p inputs)) place (messages_of m) (draws source (state_after source s (all_messages ms)) (messages_of m)) =
    subst (λ (v : List K). IsHonestLayer form k gates v place M d) is h in
    let one = honest_more form k gates M qs d rs count (length-draws source (state_after source s before) M ∙ count) below input place next e h' rest in
    let behind = whole (M ++ qs) (d ++ rs) (subst (λ (layers : List GateLayer). AreHonest form layers input place (M ++ qs) (d ++ rs)) (sym (below_more p i u)) one) in
    let joined : before ++ (M ++ qs) ≡ all_messages (ms ++ m ∷ []) ++ qs = sym (append_assoc before M qs) ∙ ap (λ (xs : List (List K)). xs ++ qs) (sym (messages-more ms m)) in
    let drawn : draws source s before ++ (d ++ rs) ≡ draws source s (all_messages (ms ++ m ∷ [])) ++ rs =
    sym (append_assoc (draws source s before) d rs) ∙ ap (λ (xs : List K). xs ++ rs) (sym (draws-append source s before M) ∙ ap (draws source s) (sym (messages-more ms m))) in
    coe 0 1 (i. AreHonest form (layers_of p) input first (joined i) (drawn i)) behind

-- the next place is one of the layer below
pub over-next : (form : ProofForm) (k : ℕ) (rs : List K) (next : Place K) → length rs ≡ k + k + 1 → next ≡ next_place k_ops form k rs → IsOver k next
over-next form k rs next v e =
    let b : List K = take k (take (k + k) rs) in
    let c : List K = drop k (take (k + k) rs) in
    let left : length (take k (take (k + k) rs)) ≡ k = omega (arith, length-take k (take (k + k) rs), length-take (k + k) rs) in
    let right : length (drop k (take (k + k) rs)) ≡ k = omega (arith, length-drop k (take (k + k) rs), length-take (k + k) rs) in
    subst (IsOver k) (sym e) (place_over k_ops form b c (get_or rs (k + k) zero_k) k left right)
