-- Points of copies are put together of a position's coordinates and a copy's
use Rattle.std.proofs.Common.{◌≡◌, ℕ, ◌+◌, ◌-◌, ◌^◌, List, ◌++◌, length, take, drop, All, sym, ◌∙◌, ap, ap₂, arith, length-take, length-drop}
use Rattle.std.proofs.lemmas.List.{take-append-drop}
use Rattle.field_ext.specs.Field.{K, k_ops, mul_k}
use Rattle.circuit_core.specs.declared.gate.CircuitGate.{CircuitGate}
use Rattle.circuit_core.specs.Parts.{IsOver}
use Rattle.batch_core.specs.Copies.{copies}
use Rattle.batch_core.specs.CopiedWiring.{same_copy}

-- a point that is cut into a front of j coordinates and n behind it
pub record IsCut (j n : ℕ) (point front back : List K) : Type 0 where
  pub size : length front ≡ j
  pub copy : length back ≡ n
  pub whole : front ++ back ≡ point

pub cut : (j n : ℕ) (point front back : List K) → length point ≡ j + n → front ≡ take (length point - n) point → back ≡ drop (length point - n) point → IsCut j n point front back
cut j n point front back s f b = record {
  size = ap length f ∙ omega (arith, length-take (length point - n) point, s);
  copy = ap length b ∙ omega (arith, length-drop (length point - n) point, s);
  whole = ap₂ (λ (xs ys : List K). xs ++ ys) f b ∙ take-append-drop (length point - n) point;
}

-- what is said of points that are put together, for points that are cut
pub at_whole : (wiring : List CircuitGate → List K → List K → List K → K) →
    ((j k n : ℕ) (gates : List CircuitGate) (z b c y x w : List K) → length gates ≡ 2 ^ j → All (IsOver (2 ^ k)) gates → length z ≡ j → length b ≡ k → length c ≡ k → length y ≡ n →
    wiring (copies n k gates) (z ++ y) (b ++ x) (c ++ w) ≡ mul_k (same_copy k_ops y x w) (wiring gates z b c)) →
    (j k n : ℕ) (gates : List CircuitGate) (z b c zf zb bf bb cf cb : List K) (result same one : K) → length gates ≡ 2 ^ j → All (IsOver (2 ^ k)) gates →
    IsCut j n z zf zb → IsCut k n b bf bb → IsCut k n c cf cb →
    result ≡ mul_k same one → same ≡ same_copy k_ops zb bb cb → one ≡ wiring gates zf bf cf → result ≡ wiring (copies n k gates) z b c
at_whole wiring product j k n gates z b c zf zb bf bb cf cb result same one size over cz cb' cc e es eo =
    e ∙ ap₂ mul_k es eo
    ∙ sym (product j k n gates zf bf cf zb bb cb size over cz.size cb'.size cc.size cz.copy)
    ∙ ap (λ (p : List K). wiring (copies n k gates) p (bf ++ bb) (cf ++ cb)) cz.whole
    ∙ ap₂ (wiring (copies n k gates) z) cb'.whole cc.whole
