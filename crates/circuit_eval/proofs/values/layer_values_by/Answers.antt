-- Each layer is evaluated from the one below
use Rattle.std.proofs.Common.{◌≡◌, ◌<◌, ◌≤◌, ◌+◌, ◌-◌, ◌∙◌, ◌++◌, ◌∷◌, [], ℕ, length, map, reverse, sym, ap, subst, arith, All}
use Rattle.std.proofs.lemmas.List.{map-append, length-map, length_push}
use Rattle.field_ext.specs.Field.{embed_k}
use Rattle.circuit_core.specs.Parts.{IsOver, height, width_of}
use Rattle.circuit_eval.specs.Tables.{AreTables}
use Rattle.circuit_eval.proofs.api.LayerTables.{length-values, values_power, made, AreTold, told_push, turned, map-reverse}
use Rattle.circuit_eval.proofs.values.layer_values_by.Goals as goal

pub gate_values-requires-clause-operands : goal.gate_values-requires-clause-operands
gate_values-requires-clause-operands g c =
    let circuit = c.args.circuit.now in
    let inputs = c.args.inputs.now in
    let layer = c.loop-layer.layer in
    let up : layer ≡ (layer - 1) + 1 = omega (arith, c.loop-layer-test.true) in
    let within : layer ≤ height circuit.parts = omega (arith, c.loop-layer.auto.layer, c.height-layer.ensures) in
    let many : length c.deref.result.now ≡ width_of circuit.parts ((layer - 1) + 1) =
    ap length (c.deref.ensures.value ∙ c.loop-layer.invariant.below) ∙ length-values circuit inputs layer within ∙ ap (λ (i : ℕ). width_of circuit.parts i) up in
    subst (λ (width : ℕ). All (IsOver width) c.gates.result.now) (sym many) c.gates.ensures.operands

pub of-requires : goal.of-requires
of-requires g c =
    let circuit = c.args.circuit.now in
    let inputs = c.args.inputs.now in
    let power = values_power circuit inputs c.loop-layer.layer (omega (arith, c.loop-layer.auto.layer, c.height-layer.ensures)) in
    (power.0, c.loop-layer.below.ok.0 ∙ ap length c.loop-layer.invariant.below ∙ power.1)

pub of-requires-2 : goal.of-requires-2
of-requires-2 g c =
    let circuit = c.args.circuit.now in
    let inputs = c.args.inputs.now in
    let power = values_power circuit inputs c.loop-layer.layer (omega (arith, c.loop-layer.auto.layer, c.height-layer.ensures)) in
    (power.0, c.loop-layer.below.ok.0 ∙ ap length c.loop-layer.invariant.below ∙ power.1)

pub loop-layer-preserved : goal.loop-layer-preserved
loop-layer-preserved g c =
    let circuit = c.args.circuit.now in
    let inputs = c.args.inputs.now in
    let layer = c.loop-layer.layer in
    let h = layer - 1 in
    let up : layer ≡ h + 1 = omega (arith, c.loop-layer-test.true) in
    let inside : h < height circuit.parts = omega (arith, up, c.loop-layer.auto.layer, c.height-layer.ensures) in
    let values = made circuit inputs h layer c.deref.result.now c.in_ok-values.values.items c.gates.result.now inside up (c.deref.ensures.value ∙ c.loop-layer.invariant.below) c.gates.ensures.value c.in_ok-values.ensures in
    let tables = c.loop-layer.tables.items in
    let table = c.of.result in
    let pushed : map (λ t. t.items) c.push.new.self.items ≡ map (λ t. t.items) tables ++ table.items ∷ [] =
    ap (map (λ t. t.items)) c.in_ok-push.ensures.items ∙ map-append (λ t. t.items) tables (table ∷ []) in
    record {
      below = values;
      many = omega (arith, up, ap length c.in_ok-push.ensures.items, length_push tables table, c.loop-layer.invariant.many);
      told =
          subst (AreTold circuit inputs) (sym pushed)
          (told_push circuit inputs (map (λ t. t.items) tables) table.items layer (omega (arith, length-map tables (λ t. t.items), c.loop-layer.invariant.many)) c.loop-layer.invariant.told (c.of.ensures ∙ ap (map embed_k) c.loop-layer.invariant.below));
    }

pub returns : goal.returns
returns g c =
    let circuit = c.args.circuit.now in
    let inputs = c.args.inputs.now in
    let tables = c.loop-layer.tables.items in
    let table = c.of-2.result in
    let last : c.loop-layer.layer ≡ 0 = omega (arith, c.loop-layer-test.false) in
    let pushed : map (λ t. t.items) c.push-2.new.self.items ≡ map (λ t. t.items) tables ++ table.items ∷ [] =
    ap (map (λ t. t.items)) c.in_ok-push-2.ensures.items ∙ map-append (λ t. t.items) tables (table ∷ []) in
    let all = map (λ t. t.items) c.push-2.new.self.items in
    let many : length all ≡ height circuit.parts + 1 = omega (arith, last, length-map c.push-2.new.self.items (λ t. t.items), ap length c.in_ok-push-2.ensures.items, length_push tables table, c.loop-layer.invariant.many) in
    let told : AreTold circuit inputs all =
    subst (AreTold circuit inputs) (sym pushed)
    (told_push circuit inputs (map (λ t. t.items) tables) table.items c.loop-layer.layer (omega (arith, length-map tables (λ t. t.items), c.loop-layer.invariant.many)) c.loop-layer.invariant.told (c.of-2.ensures ∙ ap (map embed_k) c.loop-layer.invariant.below)) in
    let same : map (λ t. t.items) c.reverse.new.self.items ≡ reverse all = ap (map (λ t. t.items)) c.reverse.ensures.items ∙ map-reverse (λ t. t.items) c.push-2.new.self.items in
    subst (AreTables circuit.parts inputs) (sym same) (turned circuit inputs all many told)
