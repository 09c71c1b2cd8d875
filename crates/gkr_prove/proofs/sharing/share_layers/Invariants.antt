-- Where the layers that are left are proved honestly after these messages, all are
use Rattle.std.proofs.Common.{◌≡◌, ◌<◌, ◌^◌, List, ◌++◌, IsTrue}
use Rattle.field_ext.specs.Field.{F, K}
use Rattle.circuit_core.specs.Sound.{exponent_at}
use Rattle.circuit_eval.specs.Tables.{AreTables}
use Rattle.gkr_layers.specs.Layers.{layers_of, lower_exponents, message_count, layers_below}
use Rattle.transcript_fs.specs.Source.{draws, state_after}
use Rattle.proof_wire.specs.declared.messages.LayerMessages.{LayerMessages}
use Rattle.proof_wire.specs.Lists.{all_messages, HaveShape}
use Rattle.gkr_layers.specs.Honest.{AreHonest}
use Rattle.circuit_core.specs.Parts.{input_table}
use Rattle.gkr_prove.proofs.sharing.share_layers.Given as goal
use Rattle.gkr_layers.specs.Places.{IsOver}
use Rattle.gkr_prove.specs.Kept.{kept_place}

abbrev pub invariant-loop-layer : goal.invariant-loop-layer
invariant-loop-layer g l = record {
  few : l.shared.gather < 2 ^ 32;
  position : IsOver (exponent_at l.circuit.parts l.layer) (kept_place l.place);
  has : IsTrue (g.C.Challenges.source.has (g.C.Challenges.state l.challenges) (message_count (layers_below l.circuit.parts l.layer)));
  state : g.C.Challenges.state l.challenges ≡ state_after g.C.Challenges.source (g.C.Challenges.state l.fn.challenges) (all_messages l.messages.items);
  shape : (ms : List LayerMessages) → HaveShape l.form (lower_exponents (layers_below l.circuit.parts l.layer)) ms → HaveShape l.form (lower_exponents (layers_of l.circuit.parts)) (l.messages.items ++ ms);
  whole : (inputs : List F) → AreTables l.circuit.parts inputs l.values → (qs : List (List K)) (rs : List K) → AreHonest l.form (layers_below l.circuit.parts l.layer) (input_table l.circuit.parts inputs) (kept_place l.place) qs rs →
      AreHonest l.form (layers_of l.circuit.parts) (input_table l.circuit.parts inputs) (kept_place l.fn.place) (all_messages l.messages.items ++ qs) (draws g.C.Challenges.source (g.C.Challenges.state l.fn.challenges) (all_messages l.messages.items) ++ rs);
}
