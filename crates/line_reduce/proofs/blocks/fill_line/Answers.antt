use Rattle.std.proofs.Common.{◌+◌, ◌-◌, ◌*◌, ◌/◌, ◌%◌, ◌^◌, ℕ, length, map, arith, refl, sym, ◌∙◌, ap}
use Rattle.field_ext.specs.Field.{k_ops, embed_k}
use Rattle.field_ext.proofs.api.KLaws.{k_laws}
use Rattle.line_reduce.specs.Rows.{weighted_sum}
use Rattle.line_reduce.proofs.BlockSums.{a_block, blocks_of, block_folds, line_in_front, line_fits}
use Rattle.line_reduce.proofs.blocks.fill_line.Goals as goal

pub fill_rows-requires-clause-some : goal.fill_rows-requires-clause-some
fill_rows-requires-clause-some c = (a_block c.args.known (1 * 2 ^ c.args.known % 18446744073709551616) c.requires.some c.requires.few refl).some

pub fill_rows-requires-clause-values : goal.fill_rows-requires-clause-values
fill_rows-requires-clause-values c =
    let s : ℕ = 1 * 2 ^ c.args.known % 18446744073709551616 in
    let block = a_block c.args.known (1 * 2 ^ c.args.known % 18446744073709551616) c.requires.some c.requires.few refl in
    let blocks = blocks_of (length c.args.b.now) c.args.known s (length c.args.values.now) c.requires.known block.size c.requires.size in
    blocks.1 ∙ ap (λ (x : ℕ). length c.args.values.now / s * x) (sym block.fours)

pub fill_rows-requires-clause-weights : goal.fill_rows-requires-clause-weights
fill_rows-requires-clause-weights c =
    let block = a_block c.args.known (1 * 2 ^ c.args.known % 18446744073709551616) c.requires.some c.requires.few refl in
    let whole = ap (λ (x : ℕ). x * (c.args.known + 1)) (block.fours ∙ block.size) in
    omega (arith, whole, c.requires.weights)

pub fill_rows-requires-clause-capacity : goal.fill_rows-requires-clause-capacity
fill_rows-requires-clause-capacity c =
    let s : ℕ = 1 * 2 ^ c.args.known % 18446744073709551616 in
    let block = a_block c.args.known (1 * 2 ^ c.args.known % 18446744073709551616) c.requires.some c.requires.few refl in
    let blocks = blocks_of (length c.args.b.now) c.args.known s (length c.args.values.now) c.requires.known block.size c.requires.size in
    let whole = ap (λ (x : ℕ). x * (c.args.known + 1)) blocks.0 in
    omega (arith, whole, c.requires.rows)

pub returns : goal.returns
returns c =
    let s : ℕ = 1 * 2 ^ c.args.known % 18446744073709551616 in
    let n = c.args.known in
    let values = map embed_k c.args.values.now in
    let b = c.args.b.now in
    let block = a_block c.args.known (1 * 2 ^ c.args.known % 18446744073709551616) c.requires.some c.requires.few refl in
    let blocks = blocks_of (length c.args.b.now) c.args.known s (length c.args.values.now) c.requires.known block.size c.requires.size in
    let weights = c.fill_weights.new.weights in
    let rows = c.fill_rows.new.rows in
    line_in_front values c.fold_by_line.new.rows b c.args.c.now c.requires.end c.requires.most (line_fits (length b) n (length c.fold_by_line.new.rows) c.requires.known (omega (arith, c.requires.rows))) (λ e.
    c.fold_by_line.ensures values e
    (block_folds k_ops k_laws values weights rows b c.args.c.now n s (2 ^ (length b - n)) e c.requires.end c.requires.known block.size
    (c.fill_weights.ensures e)
    (λ p j u v.
    c.fill_rows.ensures p j (omega (arith, u, blocks.0)) v
    ∙ ap (λ (x : ℕ). weighted_sum k_ops values (p * x) weights j (n + 1) x) block.fours)))
