-- What instances give to the extension of a table of copies
use Rattle.std.specs.Prelude.{ℕ, ◌+◌, ◌^◌, ◌==◌, nat_lt, Bool, true, if◌then◌else◌}
use Rattle.std.specs.Prelude.{List, [], ◌∷◌, ◌++◌, length}
use Rattle.field_ext.specs.Ring.{Ops}
use Rattle.field_ext.specs.Field.{F, K, k_ops, zero_k, embed_k}
use Rattle.field_ext.specs.Sums.{sum_below}
use Rattle.field_ext.specs.Multilinear.{eq_poly}
use Rattle.circuit_core.specs.declared.gate.Leaf.{Leaf}
use Rattle.circuit_core.specs.declared.gate.Leaf.TheVariants.{Input, Const}
use Rattle.circuit_core.specs.Parts.{Parts, leaf_value}
use Rattle.batch_core.specs.Copies.{instance_of}

module _ {A : Type 0} (o : Ops A) where
  infixl 65 ◌⊕◌
  infixl 70 ◌⊗◌
  open o use {add as ◌⊕◌, mul as ◌⊗◌}

  -- the weight of instance m of so many at a point of the copies' coordinates: the sum over the
  -- copies that stand for it of the equality polynomial
  abbrev pub instance_weight : List A → ℕ → ℕ → A
  instance_weight y count m =
      sum_below o (2 ^ length y) (λ c. if instance_of count c == m then eq_poly o y c else o.zero)

  -- the sum over the leaves, of which the first is at position g, of the value times the equality
  -- polynomial at z
  abbrev pub leaves_sum : List A → ℕ → (Leaf → A) → List Leaf → A
  leaves_sum z g value [] = o.zero
  leaves_sum z g value (leaf ∷ leaves) =
      value leaf ⊗ eq_poly o z g ⊕ leaves_sum z (g + 1) value leaves

-- whether a leaf is the same in all instances, of which the first inputs, so many, are shared
abbrev pub is_shared : ℕ → Leaf → Bool
is_shared shared (Input j) = nat_lt j shared
is_shared shared (Const x) = true

-- what the shared inputs and the constants give to the extension of an input table at z, which is
-- the same in all instances
abbrev pub shared_part : Parts → List F → List K → K
shared_part p shared z =
    leaves_sum k_ops z 1
    (λ leaf. if is_shared (length shared) leaf then embed_k (leaf_value shared leaf) else zero_k)
    p.leaves

-- and what an instance's own inputs give
abbrev pub own_part : Parts → List F → List F → List K → K
own_part p shared own z =
    leaves_sum k_ops z 1
    (λ leaf. if is_shared (length shared) leaf then zero_k
    else embed_k (leaf_value (shared ++ own) leaf)) p.leaves
