-- Inputs read off the values of the input layer
use Rattle.std.proofs.Common.{◌≡◌, ◌≢◌, ℕ, suc, ◌+◌, ◌-◌, ◌<◌, ◌≤◌, ◌⊎◌, inl, inr, List, [], ◌∷◌, length, map, set, get_or, replicate, refl, sym, ◌∙◌, ap, arith, get_or-set_other, get_or-set_same}
use Rattle.std.proofs.lemmas.Bool.{cases_eq, cases_lt}
use Rattle.std.proofs.lemmas.List.{get_or-map, get_or_append_left, get_or_read, length-map}
use Rattle.field_ext.specs.Field.{F, embed_k}
use Rattle.circuit_core.specs.declared.gate.Leaf.{Leaf}
use Rattle.circuit_core.specs.declared.gate.Leaf.TheVariants.{Input, Const}
use Rattle.circuit_core.specs.Parts.{Parts, height, leaf_value, padded_values, layer_values, input_table, zero_f}
use Rattle.circuit_core.proofs.api.LayerValues.{layer_values_last}
use Rattle.circuit_eval.specs.Tables.{table_of}
use Rattle.gkr_layers.proofs.api.Circuits.{read-embed}
use Rattle.audit_core.specs.Leaves.{AreLeafValues, GiveValues}

-- where one input is written, the leaf that reads it has that value
module _ (read wanted : List F) (x : ℕ) (v : F) (u : x < length read) (e : v ≡ get_or wanted x zero_f) where
  pub here : get_or (set read x v) x zero_f ≡ get_or wanted x zero_f
  here = get_or-set_same read x v zero_f u ∙ e

  -- and another that had its value has it still
  pub still : (leaf : Leaf) → leaf_value read leaf ≡ leaf_value wanted leaf → leaf_value (set read x v) leaf ≡ leaf_value wanted leaf
  still (Const c) h = h
  still (Input y) h = by (cases_eq y x)
    where
      by : (y ≡ x) ⊎ (y ≢ x) → get_or (set read x v) y zero_f ≡ get_or wanted y zero_f
      by (inl s) = ap (λ (i : ℕ). get_or (set read x v) i zero_f) s ∙ here ∙ ap (λ (i : ℕ). get_or wanted i zero_f) (sym s)
      by (inr d) = get_or-set_other read x y v zero_f d ∙ h

-- one leaf more has its value
pub values_more : (read read' wanted : List F) (leaves : List Leaf) (i : ℕ) (leaf : Leaf) → i < length leaves → leaf ≡ get_or leaves i leaf → leaf_value read' leaf ≡ leaf_value wanted leaf →
    ((other : Leaf) → leaf_value read other ≡ leaf_value wanted other → leaf_value read' other ≡ leaf_value wanted other) → GiveValues read wanted leaves i → GiveValues read' wanted leaves (i + 1)
values_more read read' wanted leaves i leaf u is now kept before j d w = by (cases_lt j i)
  where
    by : (j < i) ⊎ (i ≤ j) → leaf_value read' (get_or leaves j d) ≡ leaf_value wanted (get_or leaves j d)
    by (inl l) = kept (get_or leaves j d) (before j d l)
    by (inr l) =
        let same : j ≡ i = omega arith in
        let there : get_or leaves j d ≡ leaf = ap (λ (k : ℕ). get_or leaves k d) same ∙ sym (get_or_read leaves i leaf u is d) in
        ap (leaf_value read') there ∙ now ∙ ap (leaf_value wanted) (sym there)

-- all leaves' values make the table of the input layer
pub same_table : (p : Parts) (read inputs : List F) → GiveValues read inputs p.leaves (length p.leaves) → input_table p read ≡ input_table p inputs
same_table p read inputs h = ap (λ (values : List F). map embed_k (padded_values p.input_width values)) (same p.leaves h)
  where
    same : (leaves : List Leaf) → GiveValues read inputs leaves (length leaves) → map (leaf_value read) leaves ≡ map (leaf_value inputs) leaves
    same [] g = refl
    same (leaf ∷ leaves) g = λ i. g 0 leaf (omega arith) i ∷ same leaves (λ j d u. g (suc j) d (omega arith)) i

-- where a leaf's value is
pub leaf_values : (p : Parts) (inputs : List F) → AreLeafValues inputs p.leaves (table_of p inputs (height p))
leaf_values p inputs i d u =
    let values : List F = map (leaf_value inputs) p.leaves in
    let w : i < length (map (leaf_value inputs) p.leaves) = omega (arith, u, length-map p.leaves (leaf_value inputs)) in
    let one : i + 1 ≡ suc i = omega arith in
    read-embed (layer_values p inputs (height p)) (i + 1)
    ∙ ap embed_k (
    ap (λ (xs : List F). get_or xs (i + 1) zero_f) (layer_values_last p inputs)
    ∙ ap (λ (j : ℕ). get_or (padded_values p.input_width values) j zero_f) one
    ∙ get_or_append_left values (replicate (p.input_width - (1 + length values)) zero_f) zero_f i w
    ∙ get_or-map (leaf_value inputs) p.leaves i d zero_f u)
