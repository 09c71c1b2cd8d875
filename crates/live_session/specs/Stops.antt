-- Why a prover stops
use Rattle.std.specs.Prelude.{◌≡◌, Option, Some}
use Rattle.live_session.specs.declared.progress.LiveFault.{LiveFault}
use Rattle.live_session.specs.declared.progress.LiveFault.TheVariants as faults
use Rattle.live_session.specs.declared.progress.ProverStop.{ProverStop}
use Rattle.live_session.specs.declared.progress.ProverStop.TheVariants.{Range, Extra, Memory}

-- the stop names this fault, or that no memory was found
abbrev pub IsStopFor : Option LiveFault → ProverStop → Type 0
IsStopFor fault (Range at) = fault ≡ Some (faults.Range at)
IsStopFor fault (Extra at) = fault ≡ Some (faults.Extra at)
IsStopFor fault Memory = Unit {0}
