-- The parts with capacity are the vector's
use Rattle.std.proofs.Common.{rules, ◌≡◌, ◌++◌, List, length, take, drop, sym, subst, IfOk, All}
use Rattle.table_parts.specs.PartTables.{PartTables, HasCapacity}
use Rattle.wiring_poly.proofs.api.Identity.{written_back}
use Rattle.table_parts.proofs.parts.fit_parts.Goals as goal

pub returns-clause-capacities : goal.returns-clause-capacities
returns-clause-capacities c =
    let old = c.loop-2.parts in
    let new = c.fit_each.new.parts in
    let same : length c.fit_each.new.parts ≡ c.loop-2.parts.len = search rules in
    let back : take c.loop-2.parts.len (c.fit_each.new.parts ++ drop (length c.fit_each.new.parts) c.loop-2.parts.items) ≡ c.fit_each.new.parts = written_back old.items new old.len same in
    subst (λ (l : List PartTables). IfOk c.fit_each.result (λ _. All (HasCapacity c.args.capacity) l)) (sym back) c.fit_each.ensures
