use Rattle.circuit_core.specs.Sound.{exponent_at}
use Rattle.transcript_fs.specs.Source.{state_after_point}
use Rattle.gkr_verify.specs.ShortProof.{output_claim}
use Rattle.gkr_verify.proofs.api.Filled.{filled-shape, shortened-filled}
use Rattle.gkr_verify.proofs.laws.filled_shape.Goals as goal

pub returns-clause-shape : goal.returns-clause-shape
returns-clause-shape c = λ ks p outputs source s pairs h. filled-shape source (state_after_point source s (exponent_at p 0)) (output_claim p outputs source s) ks pairs.layers h

pub returns-clause-shortens : goal.returns-clause-shortens
returns-clause-shortens c = shortened-filled
