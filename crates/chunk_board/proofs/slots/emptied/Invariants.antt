use Rattle.std.proofs.Common.{◌≡◌, ◌≤◌, ℕ, map, take, slice_get, vec_len, vec_capacity, Some}
use Rattle.chunk_board.proofs.slots.emptied.Given as goal

abbrev pub invariant-loop-i : goal.invariant-loop-i
invariant-loop-i g l = record {
  len : vec_len l.slots ≡ vec_len l.fn.slots;
  left : (j : ℕ) → l.i ≤ j → slice_get l.slots.items j ≡ slice_get l.fn.slots.items j;
  moved : map Some l.parts.items ≡ take l.i l.fn.slots.items;
  count : vec_len l.parts ≡ l.i;
  capacity : vec_len l.fn.slots ≤ vec_capacity l.parts;
}
