-- The answers of rounds that fail
use Rattle.std.specs.Prelude.{ℕ}
use Rattle.sumcheck_verify.specs.declared.rounds.SumFault.{SumFault}
use Rattle.gkr_verify.specs.declared.sums.LayerSum.{LayerSum}
use Rattle.gkr_layers.specs.declared.verdict.Verdict.{Verdict}
use Rattle.gkr_layers.specs.declared.verdict.Verdict.TheVariants.{Sum}

-- the answer where a round of this layer has this fault
abbrev pub sum_failure : ℕ → SumFault → Verdict
sum_failure layer fault = Sum layer fault.round fault.had fault.claim

-- the answer where this round fails
abbrev pub layer_failure : LayerSum → Verdict
layer_failure fault = Sum fault.layer fault.round fault.had fault.claim
