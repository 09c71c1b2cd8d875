-- Why a list of nodes has no circuit, and that it has one where there is no reason
use Rattle.std.proofs.Common.{◌≡◌, ℕ, ◌+◌, ◌≤◌, Some, None, ap₂, le-leb, arith}
use Rattle.std.specs.Option.{option_or}
use Rattle.circuit_core.specs.Parts.{Limits}
use Rattle.circuit_core.specs.Faults.{first_below}
use Rattle.circuit_core.proofs.api.First.{first_below_found}
use Rattle.circuit_core.proofs.api.Faultless.{unless_true}
use Rattle.node_core.specs.Nodes.{Nodes}
use Rattle.layer_compile.specs.declared.refused.LayerRefused.{LayerRefused}
use Rattle.layer_compile.specs.declared.refused.LayerRefused.TheVariants.{Deep, Wide, Memory}
use Rattle.layer_compile.specs.Levels.{height_of}
use Rattle.layer_compile.specs.Circuits.{too_wide, refusal_of, IsCauseOf}

cause : (limits : Limits) (n : Nodes) (refusal : LayerRefused) → refusal_of limits n ≡ Some refusal → IsCauseOf limits n refusal
cause limits n (Deep levels) e = e
cause limits n (Wide height width) e = e
cause limits n Memory e = tt

-- the first height with too many positions
pub wide_cause : (limits : Limits) (n : Nodes) (h : ℕ) (refusal : LayerRefused) → height_of n ≤ limits.height → h ≤ height_of n → first_below h (too_wide limits n) ≡ None → too_wide limits n h ≡ Some refusal → IsCauseOf limits n refusal
wide_cause limits n h refusal low l before here =
    cause limits n refusal
    (ap₂ option_or (unless_true _ _ (le-leb (height_of n) limits.height low)) (first_below_found (too_wide limits n) h (height_of n + 1) refusal (omega arith) before here))

pub accepted : (limits : Limits) (n : Nodes) → height_of n ≤ limits.height → first_below (height_of n + 1) (too_wide limits n) ≡ None → refusal_of limits n ≡ None
accepted limits n low none = ap₂ option_or (unless_true _ _ (le-leb (height_of n) limits.height low)) none
