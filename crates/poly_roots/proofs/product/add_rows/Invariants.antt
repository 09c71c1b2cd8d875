-- From the last row done on, the buffer holds the product by the rows done, and before it zeros
use Rattle.std.proofs.Common.{◌≡◌, ℕ, ◌<◌, ◌+◌, ◌-◌, length, drop, get_or}
use Rattle.field_ext.specs.Field.{k_ops, zero_k}
use Rattle.field_ext.specs.Polynomial.{product_of}
use Rattle.poly_roots.proofs.product.add_rows.Given as goal

abbrev pub invariant-loop-done : goal.invariant-loop-done
invariant-loop-done l = record {
  before : (k : ℕ) → k < length l.left - l.done → get_or l.buffer k zero_k ≡ zero_k;
  rows : (k : ℕ) → get_or l.buffer (length l.left - l.done + k) zero_k ≡ get_or (product_of k_ops (drop (length l.left - l.done) l.left) l.right) k zero_k;
}
