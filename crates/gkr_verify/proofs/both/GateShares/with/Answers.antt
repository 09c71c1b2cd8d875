use Rattle.std.proofs.Common.{sym, ◌∙◌}
use Rattle.field_ext.specs.Field.{add_k, zero_k}
use Rattle.field_ext.proofs.api.KLaws.{k_laws}
use Rattle.wiring_poly.specs.Wiring.{by_kind}
use Rattle.gkr_verify.specs.Blocks.{with_factors}
use Rattle.gkr_verify.proofs.both.GateShares.with.Goals as goal

pub returns-in-Add-clause-mul : goal.returns-in-Add-clause-mul
returns-in-Add-clause-mul c both block =
    sym (k_laws.add_zero (with_factors both block c.args.self.mul))
    ∙ (λ i. add_k (with_factors both block c.args.self.mul) (by_kind (sym c.in-Add.is i) zero_k (with_factors both block c.args.shares)))

pub returns-in-Mul-clause-add : goal.returns-in-Mul-clause-add
returns-in-Mul-clause-add c both block =
    sym (k_laws.add_zero (with_factors both block c.args.self.add))
    ∙ (λ i. add_k (with_factors both block c.args.self.add) (by_kind (sym c.in-Mul.is i) (with_factors both block c.args.shares) zero_k))
