-- The sums of factors make the tables of the second phase
use Rattle.std.proofs.Common.{◌≡◌, length, arith}
use Rattle.field_ext.specs.Field.{k_ops}
use Rattle.field_ext.specs.Multilinear.{eq_poly}
use Rattle.field_ext.proofs.api.KLaws.{k_laws}
use Rattle.gate_gather.proofs.Factors.{gathered_right}
use Rattle.gate_gather.proofs.gathering.gather_right.Goals as goal

pub returns-clause-gathers : goal.returns-clause-gathers
returns-clause-gathers g c =
    let adds : length c.gather_factors.new.adds ≡ length c.gather_factors.new.muls = omega arith in
    let scales : length c.scale_by.new.scales ≡ length c.gather_factors.new.muls = omega arith in
    let shifts : length c.scale_by.new.shifts ≡ length c.gather_factors.new.muls = omega arith in
    gathered_right k_ops k_laws c.args.gates.now (g.W.Weights.weight c.args.weights.now) (eq_poly k_ops c.args.left.now) c.args.value c.args.from
    c.gather_factors.new.adds c.gather_factors.new.muls c.scale_by.new.scales c.scale_by.new.shifts adds scales shifts
    c.gather_factors.ensures.gathers c.scale_by.ensures.scales c.scale_by.ensures.shifts
