-- Challenges that are left
use Rattle.std.proofs.Common.{◌≡◌, ℕ, suc, ◌+◌, ◌-◌, ◌<◌, List, ◌∷◌, IsTrue, subst, arith}
use Rattle.circuit_core.specs.Parts.{Parts, height}
use Rattle.field_ext.specs.Field.{K}
use Rattle.transcript_fs.specs.Source.{Source}
use Rattle.gkr_layers.specs.Layers.{GateLayer, message_count, layers_below, layer_at}
use Rattle.gkr_layers.proofs.api.Circuits.{below_more}
use Rattle.transcript_fs.proofs.api.Draws.{has_any}

module _ (source : Source) (s : List ℕ) (message : List K) (n i : ℕ) (u : i < n) (h : IsTrue (source.has s (n - i))) where
  absorbed : IsTrue (source.has (source.absorb s message) (suc (n - (i + 1))))
  absorbed =
      let e : n - i ≡ suc (n - (i + 1)) = omega arith in
      source.has_absorbed s message (suc (n - (i + 1))) (subst (λ (m : ℕ). IsTrue (source.has s m)) e h)

  pub has_next : IsTrue (source.has (source.absorb s message) 1)
  has_next = has_any source (source.absorb s message) (n - (i + 1)) absorbed

  pub has_after_next : IsTrue (source.has (source.after (source.absorb s message)) (n - (i + 1)))
  has_after_next = source.has_after (source.absorb s message) (n - (i + 1)) absorbed

-- challenges for the layers from one on
pub has_here : (p : Parts) (source : Source) (s : List ℕ) (i : ℕ) → i < height p → IsTrue (source.has s (message_count (layers_below p i))) → IsTrue (source.has s (message_count (layer_at p i ∷ layers_below p (i + 1))))
has_here p source s i u h = subst (λ (layers : List GateLayer). IsTrue (source.has s (message_count layers))) (below_more p i u) h
