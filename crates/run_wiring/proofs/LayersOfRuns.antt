-- Which layers are gone over by their runs
use Rattle.std.proofs.Common.{◌≡◌, ℕ, ◌+◌, ◌<◌, ◌⊎◌, inl, inr, List, [], ◌∷◌, ◌++◌, length, get_or, sym, ◌∙◌, ap, arith, subst, length-append}
use Rattle.std.proofs.lemmas.Bool.{cases_eq}
use Rattle.std.proofs.lemmas.List.{get_or_append_left}
use Rattle.std.proofs.Math.Seq.{get_or-append_seam}
use Rattle.circuit_core.specs.Parts.{Parts}
use Rattle.run_wiring.specs.CircuitRuns.{IsWiringOf}
use Rattle.run_wiring.specs.declared.layer_wiring.LayerWiring.{LayerWiring}
use Rattle.run_wiring.specs.declared.layer_wiring.LayerWiring.TheVariants.{Gates}

-- the first layers have their wirings
pub record AreFirst (p : Parts) (n : ℕ) (wirings : List LayerWiring) : Type 0 where
  pub each : length wirings ≡ n
  pub of : (layer : ℕ) → layer < n → IsWiringOf p layer (get_or wirings layer Gates)

pub one_more : (p : Parts) (n : ℕ) (wirings : List LayerWiring) (wiring : LayerWiring) → IsWiringOf p n wiring → AreFirst p n wirings → AreFirst p (n + 1) (wirings ++ wiring ∷ [])
one_more p n wirings wiring is h = record {
  each = length-append wirings (wiring ∷ []) ∙ ap (λ (k : ℕ). k + 1) h.each;
  of = λ layer u. by_place layer u (cases_eq layer n);
}
  where
    by_place : (layer : ℕ) → layer < n + 1 → (layer ≡ n) ⊎ (layer ≡ n → ⊥) → IsWiringOf p layer (get_or (wirings ++ wiring ∷ []) layer Gates)
    by_place layer u (inl e) =
        let last : get_or (wirings ++ wiring ∷ []) layer Gates ≡ wiring =
        ap (λ (k : ℕ). get_or (wirings ++ wiring ∷ []) k Gates) (e ∙ sym h.each) ∙ get_or-append_seam wirings wiring [] Gates in
        subst (IsWiringOf p layer) (sym last) (subst (λ (k : ℕ). IsWiringOf p k wiring) (sym e) is)
    by_place layer u (inr d) =
        let below : layer < n = omega (arith, u, d) in
        let inside : layer < length wirings = let each = h.each in omega (arith, below, each) in
        subst (IsWiringOf p layer) (sym (get_or_append_left wirings (wiring ∷ []) Gates layer inside)) (h.of layer below)
