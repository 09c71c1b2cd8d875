-- Multiply gates and carries give nothing besides
use Rattle.field_ext.specs.Field.{k_ops}
use Rattle.field_ext.proofs.api.KLaws.{k_laws}
use Rattle.gate_gather.proofs.NoShifts.{first_phase, second_phase}
use Rattle.gate_gather.proofs.laws.no_shifts.Goals as goal

pub returns-clause-first : goal.returns-clause-first
returns-clause-first c = first_phase k_ops k_laws

pub returns-clause-second : goal.returns-clause-second
returns-clause-second c = second_phase k_ops k_laws
