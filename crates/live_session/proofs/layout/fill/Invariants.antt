-- The messages of the layers before hold the first elements, and the others are as they were
use Rattle.std.proofs.Common.{◌≡◌, ℕ, List, length, take}
use Rattle.proof_wire.specs.declared.form.ProofForm.TheVariants.{Line}
use Rattle.proof_wire.specs.Lists.{HaveShape}
use Rattle.proof_wire.specs.Spelling.{all_coefficients}
use Rattle.live_session.proofs.layout.fill.Given as goal

abbrev pub invariant-loop-layer : goal.invariant-loop-layer
invariant-loop-layer l = record {
  from : l.from ≡ length (all_coefficients (take l.layer-index l.layers));
  filled : all_coefficients (take l.layer-index l.layers) ≡ take l.from l.elements;
  total : length (all_coefficients l.layers) ≡ length l.elements;
  shape : (ks : List ℕ) → HaveShape Line ks l.fn.layers → HaveShape Line ks l.layers;
}
