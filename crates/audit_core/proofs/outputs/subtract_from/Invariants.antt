-- The places before are written, the others are as they were
use Rattle.std.proofs.Common.{◌≡◌, ℕ, ◌<◌, ◌≤◌, length, map, get_or}
use Rattle.field_ext.specs.Field.{zero_k, sub_k, embed_k}
use Rattle.circuit_core.specs.Parts.{padded_values}
use Rattle.audit_core.proofs.outputs.subtract_from.Given as goal

abbrev pub invariant-loop-g : goal.invariant-loop-g
invariant-loop-g l = record {
  size : length l.items ≡ length l.fn.items;
  written : (j : ℕ) → j < l.g → get_or l.items j zero_k ≡ sub_k (get_or (map embed_k (padded_values (length l.fn.items) l.outputs)) j zero_k) (get_or l.fn.items j zero_k);
  left : (j : ℕ) → l.g ≤ j → get_or l.items j zero_k ≡ get_or l.fn.items j zero_k;
}
