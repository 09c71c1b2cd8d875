use Rattle.std.proofs.Common.{◌≡◌, ℕ, ◌<◌, ◌≤◌, false, true, slice_index_or, slice_get, vec_len, vec_capacity, Some}
use mathlib.Core.Option.{some}
use lib.ListN.{get_elem?}
use Rattle.std.specs.Slots.{slots_items, slots_filled, slots_len}
use Rattle.chunk_board.proofs.slots.brought_home.Given as goal

abbrev pub invariant-loop-k : goal.invariant-loop-k
invariant-loop-k g l = record {
  items : slots_items l.closed.slots ≡ slots_items l.fn.closed.slots;
  len : slots_len l.closed.slots ≡ l.count;
  left : (j : ℕ) → l.k ≤ j → j < l.count → slice_index_or (slots_filled l.closed.slots) j false ≡ true;
  free : (j : ℕ) → j < l.k → slice_index_or (slots_filled l.closed.slots) j false ≡ false;
  taken : (j : ℕ) (x : g.row.T.Denot) → j < l.k → get_elem? (slots_items l.fn.closed.slots) j ≡ some (Some x) → slice_get l.parts.items j ≡ Some x;
  number : vec_len l.parts ≡ l.k;
  capacity : l.count ≤ vec_capacity l.parts;
}
