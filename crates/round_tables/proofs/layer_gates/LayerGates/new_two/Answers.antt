-- The weights are the sums of both points' values
use Rattle.std.proofs.Common.{◌≡◌, ℕ, ◌+◌, ◌/◌, ◌^◌, length, vec_len, sym, ◌∙◌, ap, ap₂, arith}
use Rattle.field_ext.specs.Field.{k_ops, add_k, mul_k}
use Rattle.field_ext.specs.Multilinear.{eq_poly}
use Rattle.gkr_layers.specs.Places.Place.{AtBoth}
use Rattle.round_tables.proofs.PlaceWeights.{product-is, product-scaled, layer-as}
use Rattle.round_tables.proofs.layer_gates.LayerGates.new_two.Goals as goal

pub returns-clause-holds : goal.returns-clause-holds
returns-clause-holds c =
    let layer = c.requires.layer in
    let one = c.fill.new.self in
    let two = c.fill-2.new.self in
    let first : length c.args.gates.now ≡ 2 ^ length c.fill.new.self.point.items = layer.width ∙ ap (λ (n : ℕ). 2 ^ n) (sym layer.coordinates.0 ∙ sym (λ i. length (c.fill.ensures.point i).items)) in
    let second : length c.args.gates.now ≡ 2 ^ length c.fill-2.new.self.point.items = layer.width ∙ ap (λ (n : ℕ). 2 ^ n) (sym layer.coordinates.1 ∙ sym (λ i. length (c.fill-2.ensures.point i).items)) in
    let number : vec_len c.args.first.point ≡ length c.args.first.point.items = omega (arith, c.args.first.point.ok.0) in
    let number' : vec_len c.args.second.point ≡ length c.args.second.point.items = omega (arith, c.args.second.point.ok.0) in
    let positions : 2 ^ vec_len c.args.first.point ≡ length c.args.gates.now = ap (λ (n : ℕ). 2 ^ n) (number ∙ layer.coordinates.0) ∙ sym layer.width in
    let positions' : 2 ^ vec_len c.args.second.point ≡ length c.args.gates.now = ap (λ (n : ℕ). 2 ^ n) (number' ∙ layer.coordinates.1) ∙ sym layer.width in
    record {
      layer_is = layer-as c.args.values.now.k c.k.result c.args.gates.now c.args.values.now.items (AtBoth c.args.first.point.items c.args.second.point.items c.args.weight) (AtBoth one.point.items c.scale.new.self.point.items c.args.weight) c.k.ensures
          (λ i. AtBoth (c.fill.ensures.point i).items ((c.scale.ensures.point ∙ c.fill-2.ensures.point) i).items c.args.weight) layer;
      weights = λ g u. ap₂ add_k (product-is one g c.fill.ensures.tables (omega (arith, u, first)))
          (product-scaled c.args.weight two g c.scale.new.self c.scale.ensures.low c.scale.ensures.scaled (omega (arith, u, two.high.ok.0, c.fill-2.ensures.rows.high, positions'))
          ∙ ap (mul_k c.args.weight) (product-is two g c.fill-2.ensures.tables (omega (arith, u, second)))
          ∙ (λ i. mul_k c.args.weight (eq_poly k_ops (sym c.scale.ensures.point i).items g)));
      first_rows = record { low = c.fill.ensures.rows.low; high = c.fill.ensures.rows.high ∙ ap (λ (n : ℕ). n / 1024 + 1) positions };
      second_rows = λ _. record { low = ap vec_len c.scale.ensures.low ∙ c.fill-2.ensures.rows.low; high = c.scale.ensures.high ∙ c.fill-2.ensures.rows.high ∙ ap (λ (n : ℕ). n / 1024 + 1) positions' };
    }
