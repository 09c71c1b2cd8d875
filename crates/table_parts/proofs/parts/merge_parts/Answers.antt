-- The one part has all values
use Rattle.std.proofs.Common.{ap, length}
use Rattle.table_parts.specs.PartTables.{HasSize}
use Rattle.table_parts.proofs.api.Halves.{one-holds, gathered-size}
use Rattle.table_parts.proofs.parts.merge_parts.Goals as goal

pub returns-clause-sizes : goal.returns-clause-sizes
returns-clause-sizes c =
    let is = c.gather.ensures in
    one-holds (HasSize (length c.args.parts.now)) c.args.one.now c.gather.new.self c.requires.some
    (gathered-size c.args.parts.now c.gather.new.self (ap (λ q. q.table) is) (ap (λ q. q.scales) is) (ap (λ q. q.shifts) is) c.requires.sizes)
