-- The tables of the layer, with no challenge bound
use Rattle.std.proofs.Common.{◌≡◌, ◌+◌, ◌≤◌, ◌++◌, [], refl, ◌∙◌, ap, arith}
use Rattle.std.specs.List.{flat_map}
use Rattle.field_ext.specs.Bytes.{bytes_of}
use Rattle.circuit_core.specs.Parts.{height}
use Rattle.gkr_layers.specs.ClaimPlace.{place_of}
use Rattle.gkr_prove.proofs.api.LayerSteps.{table_values}
use Rattle.gkr_prove.proofs.api.TableShapes.{few_gates, is_layer, table_exponent}
use Rattle.round_tables.specs.LayerSum.{LayerSum}
use Rattle.live_session.specs.Begun.{message_due}
use Rattle.live_session.specs.ProverState.{tables_at}
use Rattle.live_session.proofs.course.begin.Goals as goal

pub start_at-requires-clause-layer : goal.start_at-requires-clause-layer
start_at-requires-clause-layer g c =
    let circuit = c.args.circuit.now in
    let e = table_exponent circuit c.requires.values.0 c.args.values.now (c.args.layer + 1) c.table-table.result.now c.requires.values.1 (omega (arith, c.requires.layer)) c.table-table.ensures in
    is_layer circuit c.args.layer c.table-table.result.now c.gates.result.now (place_of c.args.place.now) c.requires.layer e c.gates.ensures.value c.requires.place

pub start_at-requires-clause-few : goal.start_at-requires-clause-few
start_at-requires-clause-few g c = few_gates c.args.circuit.now c.args.layer c.gates.result.now c.requires.layer c.gates.ensures.value

pub returns : goal.returns
returns g c inputs tables =
    let circuit = c.args.circuit.now in
    let p = c.args.circuit.now.parts in
    let i = c.args.layer in
    let v : c.args.layer + 1 ≤ height c.args.circuit.now.parts = omega (arith, c.requires.layer) in
    let e = table_exponent circuit c.requires.values.0 c.args.values.now (i + 1) c.table-table.result.now c.requires.values.1 v c.table-table.ensures in
    let started = c.in_ok-tables.ensures in
    let is : c.in_ok-tables.tables ≡ tables_at p inputs i (place_of c.args.place.now) [] =
    λ j. record {
      k = (started.k ∙ e) j;
      gates = (started.gates ∙ c.gates.ensures.value) j;
      values = (started.values ∙ table_values p inputs c.args.values.now (i + 1) c.table-table.result.now.items tables v c.table-table.ensures) j;
      place = started.place j;
      bound = started.bound.0 j;
      lent = started.bound.1 j;
    } in
    record {
      layer_is = refl;
      base_is = refl;
      stage_is = is;
      sent_is = c.in_ok-send.ensures ∙ ap (λ (t : LayerSum). c.args.sent.items ++ flat_map bytes_of (message_due t)) is;
    }
