-- The lines of the parts are the table's
use Rattle.std.proofs.Common.{◌≡◌, ◌^◌, ◌-◌, ◌++◌, ◌<◌, List, [], All, subst, map, length, take, drop, get_or, sym, ◌∙◌, ap, arith, rules}
use Rattle.wiring_poly.proofs.api.Identity.{written_back}
use Rattle.line_reduce.specs.Parts.{values_of, part_line, part_lines}
use Rattle.line_reduce.proofs.api.PartLength.{length-part}
use Rattle.sumcheck_prove.specs.declared.jobs.Job.{Job}
use Rattle.field_ext.specs.Field.{K}
use Rattle.sumcheck_prove.specs.Lines.{LineJobsView}
use Rattle.sumcheck_prove.specs.Jobs.{HasLine, line_of, aimed}
use Rattle.sumcheck_prove.proofs.LineParts.{joined-same, jobs_worked, parts_cover}
use Rattle.sumcheck_prove.proofs.lines.line_by.Goals as goal

pub collected-lines-requires-clause-sizes : goal.collected-lines-requires-clause-sizes
collected-lines-requires-clause-sizes g c k u =
    let values = c.args.table.now.items in
    let b = c.args.b.now in
    let e = c.args.c.now in
    let jobs = c.jobs.inside.jobs in
    let new = c.aim_all.new.jobs in
    let size : length c.aim_all.new.jobs ≡ c.jobs.inside.jobs.len = c.aim_all.auto.jobs ∙ c.deref_mut.ensures.len in
    let handed : take c.jobs.inside.jobs.len (c.aim_all.new.jobs ++ drop (length c.aim_all.new.jobs) c.jobs.inside.jobs.items) ≡ map (aimed c.args.b.now c.args.c.now) c.jobs.inside.jobs.items =
    written_back jobs.items new jobs.len size ∙ c.aim_all.ensures ∙ ap (map (aimed b e)) c.deref_mut.ensures.value in
    let number : length c.jobs.inside.jobs.items ≡ c.args.jobs.number = sym jobs.ok.0 ∙ ap (λ (l : LineJobsView). l.number) c.jobs.view_is in
    let over : All (HasLine c.args.table.now.items) c.jobs.inside.jobs.items = subst (λ (vs : List K). All (HasLine vs) jobs.items) (ap (λ (l : LineJobsView). l.values) c.jobs.view_is ∙ c.requires.values) c.jobs.invariant.0 in
    let fits = parts_cover c.args.table.now.k (length c.jobs.inside.jobs.items) c.args.jobs.number (length c.args.table.now.items) c.requires.least c.args.table.now.whole number c.requires.parts in
    let inside : k < length c.jobs.inside.jobs.items = omega (arith, u, c.deref.ensures.len, c.work-jobs.ensures.len, jobs.ok.0) in
    ap (λ (js : List Job). length (get_or (map line_of js) k [])) c.deref.ensures.value
    ∙ ap length (jobs_worked values b e jobs.items _ c.work-jobs.result.items handed over c.work-jobs.ensures.each fits k inside)
    ∙ length-part (values_of values k) (take 11 b) (take 11 e)

pub line_of_parts-requires-clause-lines : goal.line_of_parts-requires-clause-lines
line_of_parts-requires-clause-lines g c =
    let values = c.args.table.now.items in
    let b = c.args.b.now in
    let e = c.args.c.now in
    let jobs = c.jobs.inside.jobs in
    let new = c.aim_all.new.jobs in
    let size : length c.aim_all.new.jobs ≡ c.jobs.inside.jobs.len = c.aim_all.auto.jobs ∙ c.deref_mut.ensures.len in
    let handed : take c.jobs.inside.jobs.len (c.aim_all.new.jobs ++ drop (length c.aim_all.new.jobs) c.jobs.inside.jobs.items) ≡ map (aimed c.args.b.now c.args.c.now) c.jobs.inside.jobs.items =
    written_back jobs.items new jobs.len size ∙ c.aim_all.ensures ∙ ap (map (aimed b e)) c.deref_mut.ensures.value in
    let number : length c.jobs.inside.jobs.items ≡ c.args.jobs.number = sym jobs.ok.0 ∙ ap (λ (l : LineJobsView). l.number) c.jobs.view_is in
    let over : All (HasLine c.args.table.now.items) c.jobs.inside.jobs.items = subst (λ (vs : List K). All (HasLine vs) jobs.items) (ap (λ (l : LineJobsView). l.values) c.jobs.view_is ∙ c.requires.values) c.jobs.invariant.0 in
    let fits = parts_cover c.args.table.now.k (length c.jobs.inside.jobs.items) c.args.jobs.number (length c.args.table.now.items) c.requires.least c.args.table.now.whole number c.requires.parts in
    let count : length c.deref.result.now ≡ length c.jobs.inside.jobs.items = c.deref.ensures.len ∙ c.work-jobs.ensures.len ∙ jobs.ok.0 in
    let all : length c.deref.result.now ≡ 2 ^ (c.args.table.now.k - 11) = count ∙ number ∙ c.requires.parts in
    c.collected-lines.ensures
    ∙ joined-same (λ k. get_or (map line_of c.deref.result.now) k []) (λ k. part_line (values_of values k) (take 11 b) (take 11 e)) (length c.deref.result.now) (λ k u.
    ap (λ (js : List Job). get_or (map line_of js) k []) c.deref.ensures.value
    ∙ jobs_worked values b e jobs.items _ c.work-jobs.result.items handed over c.work-jobs.ensures.each fits k (omega (arith, u, count)))
    ∙ ap (part_lines values (take 11 b) (take 11 e)) all

pub aim_all-requires-clause-start : goal.aim_all-requires-clause-start
aim_all-requires-clause-start g c = search rules

pub aim_all-requires-clause-end : goal.aim_all-requires-clause-end
aim_all-requires-clause-end g c = search rules

pub work-jobs-requires : goal.work-jobs-requires
work-jobs-requires g c = search rules

pub collected-lines-requires-clause-none : goal.collected-lines-requires-clause-none
collected-lines-requires-clause-none g c = search rules

pub collected-lines-requires-clause-capacity : goal.collected-lines-requires-clause-capacity
collected-lines-requires-clause-capacity g c = search rules

pub line_of_parts-requires-clause-least : goal.line_of_parts-requires-clause-least
line_of_parts-requires-clause-least g c = search rules

pub line_of_parts-requires-clause-most : goal.line_of_parts-requires-clause-most
line_of_parts-requires-clause-most g c = search rules

pub line_of_parts-requires-clause-start : goal.line_of_parts-requires-clause-start
line_of_parts-requires-clause-start g c = search rules

pub line_of_parts-requires-clause-end : goal.line_of_parts-requires-clause-end
line_of_parts-requires-clause-end g c = search rules

pub returns : goal.returns
returns g c = search rules
