use Rattle.std.proofs.Common.{◌≡◌, ◌+◌, ◌-◌, ◌*◌, ◌^◌, ◌≤◌, ℕ, List, length, take, arith, ◌∙◌, ap, sym, subst}
use Rattle.field_ext.specs.Field.{K, k_ops}
use Rattle.field_ext.specs.Polynomial.{coefficients}
use Rattle.gkr_layers.specs.Sumcheck.{line_polynomial}
use Rattle.wiring_poly.proofs.api.Identity.{written_back}
use Rattle.line_reduce.specs.Rows.{HaveFolds}
use Rattle.line_reduce.proofs.BlockSums.{line_in_front, line_fits}
use Rattle.line_reduce.proofs.PartLines.{length-parts, parts_fold}
use Rattle.line_reduce.proofs.parts.line_of_parts.Goals as goal

pub fold_by_line-requires-clause-size : goal.fold_by_line-requires-clause-size
fold_by_line-requires-clause-size c =
    let values = c.args.table.now.items in
    let k = c.args.table.now.k in
    let size : length c.args.lines.items ≡ 2 ^ (c.args.table.now.k - 11) * 12 = ap length c.requires.lines ∙ length-parts values (take 11 c.args.b.now) (take 11 c.args.c.now) (2 ^ (k - 11)) in
    let all : 2 ^ (length c.args.b.now - 11) ≡ 2 ^ (c.args.table.now.k - 11) = ap (λ (n : ℕ). 2 ^ (n - 11)) c.requires.start in
    omega (arith, size, all, c.deref_mut.ensures.len, c.args.lines.ok.0)

pub returns : goal.returns
returns c =
    let values = c.args.table.now.items in
    let k = c.args.table.now.k in
    let b = c.args.b.now in
    let rows = c.args.lines in
    let new = c.fold_by_line.new.rows in
    let size : length c.args.lines.items ≡ 2 ^ (c.args.table.now.k - 11) * 12 = ap length c.requires.lines ∙ length-parts values (take 11 b) (take 11 c.args.c.now) (2 ^ (k - 11)) in
    let all : 2 ^ (length c.args.b.now - 11) ≡ 2 ^ (c.args.table.now.k - 11) = ap (λ (n : ℕ). 2 ^ (n - 11)) c.requires.start in
    let same : length c.args.c.now ≡ length c.args.b.now = c.requires.end ∙ sym c.requires.start in
    let least : 11 ≤ length c.args.b.now = omega (arith, c.requires.start, c.requires.least) in
    let most : length c.args.b.now ≤ 20 = omega (arith, c.requires.start, c.requires.most) in
    let is : c.deref_mut.result.now ≡ c.args.lines.items = c.deref_mut.ensures.value in
    c.truncate.ensures.items
    ∙ ap (take (length b + 1)) (written_back rows.items new rows.len (c.fold_by_line.auto.rows ∙ c.deref_mut.ensures.len))
    ∙ line_in_front values new b c.args.c.now same most (line_fits (length b) 11 (length c.fold_by_line.new.rows) least (omega (arith, size, all, c.fold_by_line.auto.rows, c.deref_mut.ensures.len, rows.ok.0))) (λ e.
    c.fold_by_line.ensures values e
    (subst (λ (n : ℕ). HaveFolds k_ops 11 n c.deref_mut.result.now values b c.args.c.now e) (sym all)
    (subst (λ (xs : List K). HaveFolds k_ops 11 (2 ^ (k - 11)) xs values b c.args.c.now e) (sym (is ∙ c.requires.lines))
    (parts_fold values b c.args.c.now (2 ^ (k - 11)) e same least))))
    ∙ ap (λ (n : ℕ). coefficients k_ops (n + 1) (line_polynomial k_ops values b c.args.c.now)) c.requires.start
