use Rattle.std.proofs.Common.{ap, ◌∙◌, ◌++◌, ◌∷◌, [], arith}
use Rattle.field_ext.specs.Field.{F}
use Rattle.case_prove.proofs.api.ProvedOutputs.{one_more}
use Rattle.case_prove.proofs.proving.real_parts.Goals as goal

pub loop-position-preserved : goal.loop-position-preserved
loop-position-preserved c =
    let table = c.args.table.now in
    one_more table.items c.loop-position.position c.at.result c.loop-position.parts.items _ c.at.ensures (omega (arith, c.requires, c.loop-position-test.true)) c.loop-position.invariant
    (c.in_ok-push.ensures.items ∙ ap (λ (x : F). c.loop-position.parts.items ++ x ∷ []) c.re.ensures)
