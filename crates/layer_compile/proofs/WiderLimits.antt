-- What fits limits fits larger ones
use Rattle.std.proofs.Common.{◌≡◌, ℕ, ◌+◌, ◌^◌, ◌<◌, ◌≤◌, length, None, ap₂, arith}
use Rattle.std.specs.Prelude.{nat_le}
use Rattle.std.specs.Option.{option_or}
use Rattle.std.proofs.Math.Nat.{pow-le-pow_right}
use Rattle.std.proofs.lemmas.Bool.{leb-true, le-leb}
use Rattle.circuit_core.specs.Parts.{Limits}
use Rattle.circuit_core.specs.Faults.{unless}
use Rattle.circuit_core.proofs.api.First.{or_none, none_below, none_from_each}
use Rattle.circuit_core.proofs.api.Faultless.{unless-none, unless_true}
use Rattle.node_core.specs.Nodes.{Nodes}
use Rattle.layer_compile.specs.Levels.{height_of}
use Rattle.layer_compile.specs.Rows.{row}
use Rattle.layer_compile.specs.Circuits.{too_wide, refusal_of}
use Rattle.layer_compile.specs.declared.refused.LayerRefused.TheVariants.{Deep}

pub wider_fits : (limits larger : Limits) (n : Nodes) → limits.height ≤ larger.height → limits.exponent ≤ larger.exponent → refusal_of limits n ≡ None → refusal_of larger n ≡ None
wider_fits limits larger n taller wider none =
    let parts = or_none _ _ none in
    let low : height_of n ≤ limits.height = leb-true _ _ (unless-none _ _ parts.0) in
    let deep : unless (nat_le (height_of n) larger.height) (Deep (height_of n)) ≡ None = unless_true _ _ (le-leb _ _ (omega (arith, low, taller))) in
    let power : 2 ^ limits.exponent ≤ 2 ^ larger.exponent = pow-le-pow_right {n = 2} (omega arith) wider in
    let each : (h : ℕ) → h < height_of n + 1 → too_wide larger n h ≡ None = λ h l.
    let fits : 1 + length (row n h) ≤ 2 ^ limits.exponent = leb-true _ _ (unless-none _ _ (none_below (too_wide limits n) (height_of n + 1) h parts.1 l)) in
    unless_true _ _ (le-leb _ _ (omega (arith, fits, power))) in
    ap₂ option_or deep (none_from_each (too_wide larger n) (height_of n + 1) each)
