use Rattle.std.proofs.Common.{refl, sym, arith, ext_get_or}
use Rattle.field_ext.specs.Field.{zero_k}
use Rattle.audit_core.proofs.found.are_equal.Goals as goal

pub returns : goal.returns
returns c =
    (λ _. ext_get_or zero_k c.args.message.now c.args.truth.now (sym c.requires) (λ i u. c.loop-i.invariant i (omega (arith, u))), λ _. refl)
