-- The claimed outputs less the circuit's own, and when both are the same
use Rattle.std.proofs.Common.{◌≡◌, ℕ, zero, suc, ◌+◌, ◌-◌, ◌<◌, ◌≤◌, List, [], ◌∷◌, length, map, take, drop, get_or, replicate, refl, sym, ◌∙◌, ap, subst, arith}
use Rattle.std.proofs.lemmas.List.{get_or_past, get_or_read}
use Rattle.std.proofs.lemmas.List.Elements.{All-cons, All-nil}
use Rattle.field_ext.specs.Field.{F, K, k_ops, zero_k, sub_k, embed_k}
use Rattle.field_ext.specs.Polynomial.{IsZero}
use Rattle.field_ext.proofs.api.KLaws.{k_laws}
use Rattle.field_ext.proofs.api.Solve.{var, nil, ◌⊕◌, minus, solve}
use Rattle.circuit_core.specs.Parts.{width_of, padded_values, layer_values, zero_f}
use Rattle.circuit_core.specs.Sound.{SoundCircuit}
use Rattle.circuit_eval.specs.Tables.{table_of}
use Rattle.wiring_poly.proofs.api.Identity.{take-front}
use Rattle.gkr_layers.specs.Sumcheck.{difference}
use Rattle.gkr_layers.proofs.api.Outputs.{outputs_padded}
use Rattle.gkr_layers.proofs.api.Circuits.{read-embed, length-table}
use Rattle.gkr_layers.proofs.api.Shapes.{outputs_room}
use Rattle.circuit_core.proofs.api.Sizes.{size_of}
use Rattle.circuit_eval.proofs.api.LayerTables.{length-table as length-true}
use Rattle.audit_core.specs.Audit.{AreOutputs}
use Rattle.gkr_layers.proofs.api.Sound.{no_difference as equal_tables}
use Rattle.gkr_layers.proofs.api.Shapes.{parts_of as real_parts}
use Rattle.gkr_layers.proofs.api.Outputs.{behind-zero as padding-read}

pub read-difference : (ys vs : List K) (g : ℕ) → length ys ≡ length vs → g < length vs → get_or (difference k_ops ys vs) g zero_k ≡ sub_k (get_or ys g zero_k) (get_or vs g zero_k)
read-difference [] [] g e u = absurd (omega arith)
read-difference [] (v ∷ vs) g e u = absurd (omega arith)
read-difference (y ∷ ys) [] g e u = absurd (omega arith)
read-difference (y ∷ ys) (v ∷ vs) zero e u = refl
read-difference (y ∷ ys) (v ∷ vs) (suc g) e u = read-difference ys vs g (omega arith) (omega arith)

pub length-difference : (ys vs : List K) → length ys ≡ length vs → length (difference k_ops ys vs) ≡ length vs
length-difference [] [] e = refl
length-difference [] (v ∷ vs) e = absurd (omega arith)
length-difference (y ∷ ys) [] e = absurd (omega arith)
length-difference (y ∷ ys) (v ∷ vs) e = ap (λ (n : ℕ). suc n) (length-difference ys vs (omega arith))

pub no_difference : (vs : List K) → IsZero k_ops (difference k_ops vs vs)
no_difference [] = All-nil (λ (x : K). x ≡ k_ops.zero)
no_difference (v ∷ vs) = All-cons (λ (x : K). x ≡ k_ops.zero) (k_ops.add v (k_ops.neg v)) (difference k_ops vs vs) (solve k_ops k_laws (v ∷ []) (var 0 ⊕ minus (var 0)) nil refl) (no_difference vs)

pub claimed-first : (width : ℕ) (outputs : List F) → get_or (map embed_k (padded_values width outputs)) 0 zero_k ≡ zero_k
claimed-first width outputs = refl

pub claimed-read : (width : ℕ) (outputs : List F) (g : ℕ) → get_or (map embed_k (padded_values width outputs)) (suc g) zero_k ≡ embed_k (get_or outputs g zero_f)
claimed-read width outputs g = read-embed (padded_values width outputs) (suc g) ∙ ap embed_k (padding-read zero_f outputs (width - (1 + length outputs)) g)

-- past the outputs 0 is claimed, and at them they are
pub claimed-past : (width : ℕ) (outputs : List F) (g : ℕ) → length outputs < g → zero_k ≡ get_or (map embed_k (padded_values width outputs)) g zero_k
claimed-past width outputs zero u = absurd (omega arith)
claimed-past width outputs (suc g) u = sym (claimed-read width outputs g ∙ ap embed_k (get_or_past outputs g zero_f (omega arith)))

pub claimed-here : (width : ℕ) (outputs : List F) (g : ℕ) (x : F) → 0 < g → g ≤ length outputs → x ≡ get_or outputs (g - 1) x → embed_k x ≡ get_or (map embed_k (padded_values width outputs)) g zero_k
claimed-here width outputs zero x some u e = absurd (omega arith)
claimed-here width outputs (suc g) x some u e =
    let one : suc g - 1 ≡ g = omega arith in
    sym (claimed-read width outputs g ∙ ap embed_k (sym (get_or_read outputs g x (omega arith) (e ∙ ap (λ (i : ℕ). get_or outputs i x) one) zero_f)))

module _ (c : SoundCircuit) (inputs outputs : List F) (count : length outputs ≡ c.parts.outputs) where
  abbrev claimed_table : List K
  claimed_table = map embed_k (padded_values (width_of c.parts 0) outputs)

  pub outputs_from : claimed_table ≡ table_of c.parts inputs 0 → AreOutputs c.parts inputs outputs
  outputs_from e =
      let same : padded_values (width_of c.parts 0) outputs ≡ layer_values c.parts inputs 0 =
      sym (real_parts (padded_values (width_of c.parts 0) outputs)) ∙ ap (λ (t : List K). map (λ (x : K). x.re) t) e ∙ real_parts (layer_values c.parts inputs 0) in
      sym (take-front outputs (replicate (width_of c.parts 0 - (1 + length outputs)) zero_f)) ∙ ap (λ (t : List F). take (length outputs) (drop 1 t)) same

  pub outputs_to : AreOutputs c.parts inputs outputs → claimed_table ≡ table_of c.parts inputs 0
  outputs_to h = sym (ap (map embed_k) (outputs_padded c inputs outputs count h))

  -- the circuit's own table has the layer's width
  pub table_width : length (table_of c.parts inputs 0) ≡ width_of c.parts 0
  table_width = length-true c inputs 0 (omega arith) ∙ sym (size_of c 0 (omega arith)).0

  claimed_width : length claimed_table ≡ width_of c.parts 0
  claimed_width = length-table (width_of c.parts 0) outputs (omega (arith, count, outputs_room c))

  -- the difference of both is zero exactly where the outputs are the circuit's
  module _ (d : List K) (is : d ≡ difference k_ops claimed_table (table_of c.parts inputs 0)) where
    pub zero_to : IsZero k_ops d → AreOutputs c.parts inputs outputs
    zero_to z = outputs_from (equal_tables claimed_table (table_of c.parts inputs 0) (claimed_width ∙ sym table_width) (subst (λ (t : List K). IsZero k_ops t) is z))

    pub zero_from : AreOutputs c.parts inputs outputs → IsZero k_ops d
    zero_from h = subst (λ (t : List K). IsZero k_ops t) (sym (is ∙ ap (λ (t : List K). difference k_ops t (table_of c.parts inputs 0)) (outputs_to h))) (no_difference (table_of c.parts inputs 0))
