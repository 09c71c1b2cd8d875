-- Coordinates of layers that are added
use Rattle.std.proofs.Common.{◌≡◌, ℕ, ◌+◌, ◌<◌, ◌≤◌, ap, arith}
use Rattle.circuit_core.specs.Parts.{Parts, height}
use Rattle.circuit_core.specs.Sound.{exponent_at}
use Rattle.gkr_layers.specs.Layers.{layers_of, layers_below, total_exponent}
use Rattle.gkr_layers.proofs.api.Circuits.{below_more, below_none}

pub width_more : (p : Parts) (i width : ℕ) → i < height p → width + total_exponent (layers_below p i) ≡ total_exponent (layers_of p) → width + exponent_at p (i + 1) + total_exponent (layers_below p (i + 1)) ≡ total_exponent (layers_of p)
width_more p i width u h =
    let widths : total_exponent (layers_below p i) ≡ exponent_at p (i + 1) + total_exponent (layers_below p (i + 1)) = ap total_exponent (below_more p i u) in
    omega (arith, widths, h)

pub width_all : (p : Parts) (i width : ℕ) → height p ≤ i → width + total_exponent (layers_below p i) ≡ total_exponent (layers_of p) → width ≡ total_exponent (layers_of p)
width_all p i width u h = let none : total_exponent (layers_below p i) ≡ 0 = ap total_exponent (below_none p i u) in omega (arith, none, h)
