use Rattle.std.proofs.Common.{◌≡◌, ℕ, ◌+◌, ◌-◌, ◌^◌, ◌++◌, length, take, drop, arith, ◌∙◌, ap}
use Rattle.field_ext.specs.Field.{k_ops}
use Rattle.field_ext.proofs.api.KLaws.{k_laws}
use Rattle.wiring_poly.proofs.api.Identity.{written_back}
use Rattle.line_reduce.proofs.Steps.{rows_begin}
use Rattle.line_reduce.proofs.BlockSums.{line_in_front, line_fits}
use Rattle.line_reduce.proofs.line.by_rows.Goals as goal

pub returns : goal.returns
returns c =
    let rows = c.args.rows.items in
    let b = c.args.b.now in
    let new = c.fold_by_line.new.rows in
    let whole : length c.args.b.now - 0 ≡ length c.args.b.now = omega arith in
    let places : length c.fold_by_line.new.rows ≡ length c.args.rows.items = c.fold_by_line.auto.rows ∙ ap length c.deref_mut.ensures.value in
    let written : take c.args.rows.len (c.fold_by_line.new.rows ++ drop (length c.fold_by_line.new.rows) c.args.rows.items) ≡ c.fold_by_line.new.rows =
    written_back rows new c.args.rows.len (c.fold_by_line.auto.rows ∙ c.deref_mut.ensures.len) in
    c.truncate.ensures.items
    ∙ ap (take (length b + 1)) written
    ∙ line_in_front rows new b c.args.c.now c.requires.end c.requires.most (line_fits (length b) 0 (length c.fold_by_line.new.rows) (omega arith) (omega (arith, c.requires.size, places, ap (λ (k : ℕ). 2 ^ k) whole))) (λ e.
    c.fold_by_line.ensures rows e (λ p u. rows_begin k_ops k_laws c.deref_mut.result.now rows p e c.deref_mut.ensures.value))
