-- The extension of the copies' input tables: what is shared once, and each instance's own inputs by its weight
use Rattle.std.proofs.Common.{◌≡◌, ℕ, zero, suc, ◌+◌, ◌-◌, ◌^◌, ◌<◌, ◌≤◌, Bool, true, false, if◌then◌else◌, List, [], ◌∷◌, ◌++◌, map, length, get_or, replicate, refl, sym, ◌∙◌, ap, ap₂, arith}
use Rattle.std.specs.Prelude.{nat_lt}
use Rattle.std.proofs.lemmas.Bool.{ltb-true}
use Rattle.std.proofs.lemmas.List.{get_or_append_left}
use Rattle.field_ext.specs.Ring.{Ops, Laws}
use Rattle.field_ext.specs.Sums.{sum_below}
use Rattle.field_ext.specs.Field.{F, K, k_ops, zero_k, add_k, mul_k, embed_k}
use Rattle.field_ext.specs.Multilinear.{eq_poly, extension_at}
use Rattle.field_ext.proofs.api.KLaws.{k_laws}
use Rattle.field_ext.proofs.api.Rings.{zero_add, zero_mul, one_mul}
use Rattle.field_ext.proofs.api.Solve.{var, ◌⊕◌, ◌⊗◌, solve}
use Rattle.field_ext.proofs.api.Sums.{sum_below-front}
use Rattle.mle_table.proofs.api.SumLaws.{sum_below-same}
use Rattle.wiring_poly.proofs.api.Sums.{sum_below-zero}
use Rattle.circuit_core.specs.declared.gate.Leaf.{Leaf}
use Rattle.circuit_core.specs.declared.gate.Leaf.TheVariants.{Input, Const}
use Rattle.circuit_core.specs.Parts.{height, width_of, leaf_value, input_table, zero_f}
use Rattle.circuit_core.specs.Sound.{SoundCircuit, exponent_at}
use Rattle.circuit_core.proofs.api.Sizes.{size_of}
use Rattle.proof_wire.specs.declared.form.ProofForm.{ProofForm}
use Rattle.gkr_layers.proofs.api.Circuits.{read-embed}
use Rattle.gkr_layers.proofs.api.Outputs.{behind-zero}
use Rattle.gkr_layers.proofs.api.Shapes.{leaves_fit}
use Rattle.batch_core.specs.Copies.{copy_exponent}
use Rattle.batch_core.specs.CopiedValues.{instance_weight, leaves_sum, is_shared, shared_part, own_part}
use Rattle.batch_core.specs.BatchClaim.{Instance, instance_at, claim_of_batch}
use Rattle.batch_core.proofs.api.CopySums.{sum_below-times}
use Rattle.batch_core.proofs.api.Extensions.{sum_below-add, weights_add, ext-instances}
use Rattle.batch_core.proofs.BatchTables.{input_table_size}

module _ {A : Type 0} (o : Ops A) (l : Laws A o) (z : List A) where
  no_leaves : (n s : ℕ) → sum_below o n (λ g. o.mul o.zero (eq_poly o z (s + g))) ≡ o.zero
  no_leaves n s = sum_below-same o l n _ (λ g. o.zero) (λ g u. zero_mul o l (eq_poly o z (s + g))) ∙ sum_below-zero o l n

  -- a table that begins with these values, and has zeros after them
  table_sum : (n s : ℕ) (value : Leaf → A) (leaves : List Leaf) → length leaves ≤ n →
      sum_below o n (λ g. o.mul (get_or (map value leaves) g o.zero) (eq_poly o z (s + g))) ≡ leaves_sum o z s value leaves
  table_sum n s value [] u = no_leaves n s
  table_sum zero s value (leaf ∷ leaves) u = absurd (omega arith)
  table_sum (suc n) s value (leaf ∷ leaves) u =
      let here : s + 0 ≡ s = omega arith in
      sum_below-front o l n (λ g. o.mul (get_or (map value (leaf ∷ leaves)) g o.zero) (eq_poly o z (s + g)))
      ∙ ap₂ o.add (ap (λ (i : ℕ). o.mul (value leaf) (eq_poly o z i)) here)
      (sum_below-same o l n _ _ (λ g v. let next : s + suc g ≡ s + 1 + g = omega arith in ap (λ (i : ℕ). o.mul (get_or (map value leaves) g o.zero) (eq_poly o z i)) next)
      ∙ table_sum n (s + 1) value leaves (omega arith))

  -- a table that is zero at position 0, and has these values after it
  leaves_extension : (t : List A) (value : Leaf → A) (leaves : List Leaf) → get_or t 0 o.zero ≡ o.zero → ((g : ℕ) → get_or t (suc g) o.zero ≡ get_or (map value leaves) g o.zero) →
      length leaves < 2 ^ length z → extension_at o o (λ x. x) t z ≡ leaves_sum o z 1 value leaves
  leaves_extension t value leaves first rest u =
      let n : ℕ = 2 ^ length z - 1 in
      let more : 2 ^ length z ≡ suc (2 ^ length z - 1) = omega arith in
      ap (λ (i : ℕ). sum_below o i (λ g. o.mul (get_or t g o.zero) (eq_poly o z g))) more
      ∙ sum_below-front o l n (λ g. o.mul (get_or t g o.zero) (eq_poly o z g))
      ∙ ap₂ o.add
      (ap (λ (x : A). o.mul x (eq_poly o z 0)) first ∙ zero_mul o l (eq_poly o z 0))
      (sum_below-same o l n _ (λ g. o.mul (get_or (map value leaves) g o.zero) (eq_poly o z (1 + g))) (λ g v.
      let next : suc g ≡ 1 + g = omega arith in ap₂ (λ (x : A) (i : ℕ). o.mul x (eq_poly o z i)) (rest g) next)
      ∙ table_sum n 1 value leaves (omega arith))
      ∙ zero_add o l (leaves_sum o z 1 value leaves)

  leaves_split : (s : ℕ) (leaves : List Leaf) (value f h : Leaf → A) → ((leaf : Leaf) → value leaf ≡ o.add (f leaf) (h leaf)) →
      leaves_sum o z s value leaves ≡ o.add (leaves_sum o z s f leaves) (leaves_sum o z s h leaves)
  leaves_split s [] value f h e = sym (l.add_zero o.zero)
  leaves_split s (leaf ∷ leaves) value f h e =
      ap₂ (λ (x y : A). o.add (o.mul x (eq_poly o z s)) y) (e leaf) (leaves_split (s + 1) leaves value f h e)
      ∙ solve o l (f leaf ∷ h leaf ∷ eq_poly o z s ∷ leaves_sum o z (s + 1) f leaves ∷ leaves_sum o z (s + 1) h leaves ∷ [])
      ((var 0 ⊕ var 1) ⊗ var 2 ⊕ (var 3 ⊕ var 4)) (var 0 ⊗ var 2 ⊕ var 3 ⊕ (var 1 ⊗ var 2 ⊕ var 4)) refl

  -- what is the same in all instances is there once
  pub shared_once : (count : ℕ) (y : List A) (x : A) (f : ℕ → A) → 1 ≤ count →
      sum_below o count (λ m. o.mul (instance_weight o y count m) (o.add x (f m))) ≡ o.add x (sum_below o count (λ m. o.mul (instance_weight o y count m) (f m)))
  shared_once count y x f some =
      sum_below-same o l count _ _ (λ m u. l.mul_add (instance_weight o y count m) x (f m))
      ∙ sum_below-add o l count (λ m. o.mul (instance_weight o y count m) x) (λ m. o.mul (instance_weight o y count m) (f m))
      ∙ ap (λ (t : A). o.add t (sum_below o count (λ m. o.mul (instance_weight o y count m) (f m))))
      (sum_below-times o l count (instance_weight o y count) x ∙ ap (λ (t : A). o.mul t x) (weights_add o l count y some) ∙ one_mul o l x)

map_twice : (f : Leaf → F) (leaves : List Leaf) → map embed_k (map f leaves) ≡ map (λ leaf. embed_k (f leaf)) leaves
map_twice f [] = refl
map_twice f (leaf ∷ leaves) = ap (λ (xs : List K). embed_k (f leaf) ∷ xs) (map_twice f leaves)

-- an input table at a point
input_extension : (c : SoundCircuit) (inputs : List F) (z : List K) → length z ≡ exponent_at c.parts (height c.parts) →
    extension_at k_ops k_ops (λ x. x) (input_table c.parts inputs) z ≡ leaves_sum k_ops z 1 (λ leaf. embed_k (leaf_value inputs leaf)) c.parts.leaves
input_extension c inputs z s =
    let values : List F = map (leaf_value inputs) c.parts.leaves in
    let m : ℕ = c.parts.input_width - (1 + length values) in
    let size : 2 ^ length z ≡ width_of c.parts (height c.parts) = ap (λ (i : ℕ). 2 ^ i) s ∙ sym (size_of c (height c.parts) (omega arith)).0 in
    leaves_extension k_ops k_laws z (input_table c.parts inputs) (λ leaf. embed_k (leaf_value inputs leaf)) c.parts.leaves refl
    (λ g. read-embed (values ++ replicate m zero_f) g ∙ ap embed_k (behind-zero zero_f values m g) ∙ sym (read-embed values g) ∙ ap (λ (xs : List K). get_or xs g zero_k) (map_twice (leaf_value inputs) c.parts.leaves))
    (omega (arith, size, leaves_fit c))

-- a leaf's value is the shared one where it is shared
leaf_parts : (shared own : List F) (leaf : Leaf) → embed_k (leaf_value (shared ++ own) leaf)
    ≡ add_k (if is_shared (length shared) leaf then embed_k (leaf_value shared leaf) else zero_k) (if is_shared (length shared) leaf then zero_k else embed_k (leaf_value (shared ++ own) leaf))
leaf_parts shared own (Const x) = sym (k_laws.add_zero (embed_k x))
leaf_parts shared own (Input j) = by_place (nat_lt j (length shared)) refl
  where
    by_place : (b : Bool) → nat_lt j (length shared) ≡ b → embed_k (get_or (shared ++ own) j zero_f)
        ≡ add_k (if nat_lt j (length shared) then embed_k (get_or shared j zero_f) else zero_k) (if nat_lt j (length shared) then zero_k else embed_k (get_or (shared ++ own) j zero_f))
    by_place true e =
        ap embed_k (get_or_append_left shared own zero_f j (ltb-true j (length shared) e))
        ∙ sym (k_laws.add_zero (embed_k (get_or shared j zero_f)))
        ∙ sym (ap (λ (b : Bool). add_k (if b then embed_k (get_or shared j zero_f) else zero_k) (if b then zero_k else embed_k (get_or (shared ++ own) j zero_f))) e)
    by_place false e =
        sym (zero_add k_ops k_laws (embed_k (get_or (shared ++ own) j zero_f)))
        ∙ sym (ap (λ (b : Bool). add_k (if b then embed_k (get_or shared j zero_f) else zero_k) (if b then zero_k else embed_k (get_or (shared ++ own) j zero_f))) e)

-- the extension of the input table of all copies
pub batch_extension : (c : SoundCircuit) (form : ProofForm) (shared : List F) (instances : List Instance) (z y : List K) → 1 ≤ length instances →
    length z ≡ exponent_at c.parts (height c.parts) → length y ≡ copy_exponent (length instances) →
    extension_at k_ops k_ops (λ x. x) (claim_of_batch form c.parts shared instances).input_table (z ++ y)
    ≡ add_k (shared_part c.parts shared z) (sum_below k_ops (length instances) (λ m. mul_k (instance_weight k_ops y (length instances) m) (own_part c.parts shared (instance_at instances m).own z)))
batch_extension c form shared instances z y some sz sy =
    let count = length instances in
    ext-instances k_ops k_laws (exponent_at c.parts (height c.parts)) (copy_exponent (length instances)) count z y (λ m. input_table c.parts (shared ++ (instance_at instances m).own)) some sz sy
    (λ m. input_table_size c (shared ++ (instance_at instances m).own))
    ∙ sum_below-same k_ops k_laws count _ _ (λ m u. ap (mul_k (instance_weight k_ops y (length instances) m))
    (input_extension c (shared ++ (instance_at instances m).own) z sz
    ∙ leaves_split k_ops k_laws z 1 c.parts.leaves (λ leaf. embed_k (leaf_value (shared ++ (instance_at instances m).own) leaf)) _ _ (leaf_parts shared (instance_at instances m).own)))
    ∙ shared_once k_ops k_laws z count y (shared_part c.parts shared z) (λ m. own_part c.parts shared (instance_at instances m).own z) some
