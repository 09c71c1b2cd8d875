-- The places passed have their weights
use Rattle.std.proofs.Common.{◌≡◌, ℕ, ◌<◌, get_or}
use Rattle.field_ext.specs.Field.{zero_k}
use Rattle.run_wiring.specs.Weights.{weight_at}
use Rattle.run_wiring.proofs.column.Column.fill_weights.Given as goal

abbrev pub invariant-loop-place : goal.invariant-loop-place
invariant-loop-place l = (i : ℕ) → i < l.place → get_or l.weights i zero_k ≡ weight_at l.self i
