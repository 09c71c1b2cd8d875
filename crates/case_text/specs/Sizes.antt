-- The sizes of a circuit.
use Rattle.std.specs.Prelude.{ℕ, List}
use Rattle.case_text.specs.declared.reply.sizes.LayerSize.{LayerSize}

pub record Sizes : Type 0 where
  pub layers : List LayerSize
  pub proof : ℕ
  pub challenges : ℕ
  pub bound : ℕ
