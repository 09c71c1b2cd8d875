-- The weights are the products of the point's tables
use Rattle.std.proofs.Common.{rules, ◌≡◌, ℕ, ◌+◌, ◌/◌, ◌^◌, length, vec_len, sym, ◌∙◌, ap, arith}
use Rattle.gkr_layers.specs.Places.Place.{At}
use Rattle.round_tables.proofs.PlaceWeights.{product-is, layer-as}
use Rattle.round_tables.proofs.layer_gates.LayerGates.new.Goals as goal

pub returns-clause-holds : goal.returns-clause-holds
returns-clause-holds c =
    let layer = c.requires.layer in
    let point = c.fill.new.self in
    let whole : length c.args.gates.now ≡ 2 ^ length c.fill.new.self.point.items = layer.width ∙ ap (λ (n : ℕ). 2 ^ n) (sym layer.coordinates ∙ sym (λ i. length (c.fill.ensures.point i).items)) in
    let number : vec_len c.args.first.point ≡ length c.args.first.point.items = omega (arith, c.args.first.point.ok.0) in
    let positions : 2 ^ vec_len c.args.first.point ≡ length c.args.gates.now = ap (λ (n : ℕ). 2 ^ n) (number ∙ layer.coordinates) ∙ sym layer.width in
    record {
      layer_is = layer-as c.args.values.now.k c.k.result c.args.gates.now c.args.values.now.items (At c.args.first.point.items) (At point.point.items) c.k.ensures (λ i. At (c.fill.ensures.point i).items) layer;
      weights = λ g u. product-is point g c.fill.ensures.tables (omega (arith, u, whole));
      first_rows = record { low = c.fill.ensures.rows.low; high = c.fill.ensures.rows.high ∙ ap (λ (n : ℕ). n / 1024 + 1) positions };
      second_rows = search rules;
    }
