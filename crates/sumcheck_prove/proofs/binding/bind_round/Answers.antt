-- The parts come back folded
use Rattle.std.proofs.Common.{◌≡◌, map, length, refl, sym, ◌∙◌, ap, rules}
use Rattle.round_tables.specs.LayerSum.{LayerSum}
use Rattle.table_parts.specs.PartTables.{folded_part}
use Rattle.sumcheck_prove.proofs.FoldedParts.{all-worked}
use Rattle.sumcheck_prove.proofs.binding.bind_round.Goals as goal

pub parts_in-requires-clause-folded : goal.parts_in-requires-clause-folded
parts_in-requires-clause-folded g c =
    let r = c.args.r in
    let out = c.parts_out-parts.result in
    let back = c.in-Ok.parts in
    let done = c.in-Ok.ensures in
    let same : length c.in-Ok.parts.items ≡ length c.parts_out-parts.result.items = sym back.ok.0 ∙ done.len ∙ out.ok.0 in
    all-worked (folded_part r) (λ k. folded_part r) out.items back.items (λ k x _. refl) same done.each
    ∙ ap (λ (s : LayerSum). map (folded_part r) s.lent) (sym c.parts_out-parts.ensures.lent)

pub pairs-requires-clause-here : goal.pairs-requires-clause-here
pairs-requires-clause-here g c = search rules

pub pairs-requires-clause-left : goal.pairs-requires-clause-left
pairs-requires-clause-left g c = search rules

pub threads_from-threads-requires : goal.threads_from-threads-requires
threads_from-threads-requires g c = search rules

pub bind-requires-clause-here : goal.bind-requires-clause-here
bind-requires-clause-here g c = search rules

pub bind-requires-clause-left : goal.bind-requires-clause-left
bind-requires-clause-left g c = search rules

pub returns-then-threads-eq1-clause-bound : goal.returns-then-threads-eq1-clause-bound
returns-then-threads-eq1-clause-bound g c = search rules

pub returns-then-threads-eq1-clause-refused : goal.returns-then-threads-eq1-clause-refused
returns-then-threads-eq1-clause-refused g c = search rules

pub parts_out-parts-requires-clause-here : goal.parts_out-parts-requires-clause-here
parts_out-parts-requires-clause-here g c = search rules

pub parts_out-parts-requires-clause-left : goal.parts_out-parts-requires-clause-left
parts_out-parts-requires-clause-left g c = search rules

pub run_parts-requires-clause-parts : goal.run_parts-requires-clause-parts
run_parts-requires-clause-parts g c = search rules

pub run_parts-requires-clause-workers : goal.run_parts-requires-clause-workers
run_parts-requires-clause-workers g c = search rules

pub parts_in-requires-clause-some : goal.parts_in-requires-clause-some
parts_in-requires-clause-some g c = search rules

pub parts_in-requires-clause-left : goal.parts_in-requires-clause-left
parts_in-requires-clause-left g c = search rules

pub parts_back-requires-clause-some : goal.parts_back-requires-clause-some
parts_back-requires-clause-some g c = search rules

pub parts_back-requires-clause-same : goal.parts_back-requires-clause-same
parts_back-requires-clause-same g c = search rules

pub returns-in-Ok-clause-bound : goal.returns-in-Ok-clause-bound
returns-in-Ok-clause-bound g c = search rules

pub returns-in-Ok-clause-refused : goal.returns-in-Ok-clause-refused
returns-in-Ok-clause-refused g c = search rules

pub returns-in-Err-clause-bound : goal.returns-in-Err-clause-bound
returns-in-Err-clause-bound g c = search rules

pub returns-in-Err-clause-refused : goal.returns-in-Err-clause-refused
returns-in-Err-clause-refused g c = search rules
