-- Zeros that are halved are fewer zeros
use Rattle.std.proofs.Common.{◌∙◌, sym, ap}
use Rattle.table_parts.specs.Columns.{zeros}
use Rattle.table_parts.specs.PartTables.{halved}
use Rattle.table_parts.proofs.Columns.{when-not, halved-zeros}
use Rattle.table_parts.proofs.column.Column.halve.Goals as goal

pub returns-else-self-clause-halved : goal.returns-else-self-clause-halved
returns-else-self-clause-halved g c =
    let inside = c.self.inside in
    let items = sym (when-not inside.kept inside.values.items inside.count c.if-self.false) ∙ (λ i. (c.self.view_is i).items) in
    λ i. record {
      items = (when-not inside.kept inside.values.items c.halve_zeros-self-inside.result c.if-self.false ∙ ap zeros c.halve_zeros-self-inside.ensures.half ∙ halved-zeros inside.count c.args.r ∙ ap (halved c.args.r) items) i;
      capacity = (c.self.view_is i).capacity;
    }
