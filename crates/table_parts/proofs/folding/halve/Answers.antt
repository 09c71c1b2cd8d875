-- The first half is the halved table
use Rattle.std.proofs.Common.{rules, ◌≡◌, ◌/◌, ◌++◌, length, take, drop, arith, ◌∙◌, ap}
use Rattle.field_ext.specs.Field.{k_ops}
use Rattle.table_parts.specs.Tables.{IsFolded}
use Rattle.wiring_poly.proofs.api.Identity.{written_back}
use Rattle.table_parts.proofs.api.Halves.{halved-one, halved-front}
use Rattle.table_parts.proofs.folding.halve.Goals as goal

pub returns-then-half-eq0-clause-halved : goal.returns-then-half-eq0-clause-halved
returns-then-half-eq0-clause-halved g c = halved-one c.args.r c.args.values.now.items (omega (arith, c.if-half-eq0.true, c.len-half.ensures))

pub returns-clause-halved : goal.returns-clause-halved
returns-clause-halved g c =
    let t = c.args.values.now.items in
    let new = c.fold_first.new.values in
    let n : c.len-half.result ≡ length c.args.values.now.items = search rules in
    let same : length c.fold_first.new.values ≡ length c.args.values.now.items = search rules in
    let back : take c.args.values.now.len (c.fold_first.new.values ++ drop (length c.fold_first.new.values) c.args.values.now.items) ≡ c.fold_first.new.values = written_back t new c.args.values.now.len (omega (arith, same, c.args.values.now.ok)) in
    let folds : IsFolded k_ops (length c.args.values.now.items / 2) c.args.values.now.items c.args.r c.fold_first.new.values =
    coe 0 1 (i. IsFolded k_ops (n i / 2) (c.deref_mut.ensures.value i) c.args.r c.fold_first.new.values) c.fold_first.ensures.folded in
    c.truncate.ensures.items ∙ ap (take (c.len-half.result / 2)) back ∙ (λ i. take (n i / 2) new)
    ∙ halved-front c.args.r t new (omega (arith, c.if-half-eq0.false, n)) same folds
