use Rattle.std.proofs.lemmas.Grind.{common_steps}
-- One line more
use Rattle.std.proofs.Common.{◌≡◌, ◌++◌, List, [], map, length, get_or, arith, ◌∙◌, ap, ap₂, sym, add-one, length-append, rules}
use Rattle.std.proofs.lemmas.List.{get_or-map}
use Rattle.field_ext.specs.Field.{K}
use Rattle.line_reduce.specs.Parts.{joined}
use Rattle.sumcheck_prove.specs.Jobs.{line_of}
use Rattle.sumcheck_prove.proofs.lines.collected.Goals as goal

pub add_line-requires : goal.add_line-requires
add_line-requires c =
    let here : get_or (map line_of c.args.jobs.now) c.loop-k.k [] ≡ line_of (get_or c.args.jobs.now c.loop-k.k c.index-jobs-k.result) =
    get_or-map line_of c.args.jobs.now c.loop-k.k c.index-jobs-k.result [] c.loop-k-test.true in
    let size : length (line_of c.index-jobs-k.result) ≡ 12 = ap (λ job. length (line_of job)) c.index-jobs-k.is ∙ ap length (sym here) ∙ c.requires.sizes c.loop-k.k c.loop-k-test.true in
    omega (arith, size, c.loop-k.invariant.size, c.loop-k.invariant.capacity, c.requires.capacity)

pub loop-k-preserved : goal.loop-k-preserved
loop-k-preserved c =
    let here : get_or (map line_of c.args.jobs.now) c.loop-k.k [] ≡ line_of (get_or c.args.jobs.now c.loop-k.k c.index-jobs-k.result) =
    get_or-map line_of c.args.jobs.now c.loop-k.k c.index-jobs-k.result [] c.loop-k-test.true in
    let line : line_of c.index-jobs-k.result ≡ get_or (map line_of c.args.jobs.now) c.loop-k.k [] = ap line_of c.index-jobs-k.is ∙ sym here in
    let items : c.add_line.new.lines.items ≡ c.loop-k.lines.items ++ line_of c.index-jobs-k.result = c.add_line.ensures.items in
    let size : length (line_of c.index-jobs-k.result) ≡ 12 = ap length line ∙ c.requires.sizes c.loop-k.k c.loop-k-test.true in
    record {
      lines = items ∙ ap₂ (λ (xs ys : List K). xs ++ ys) c.loop-k.invariant.lines line ∙ ap (joined (λ j. get_or (map line_of c.args.jobs.now) j [])) (sym (add-one c.loop-k.k));
      size = omega (arith, ap length items, length-append c.loop-k.lines.items (line_of c.index-jobs-k.result), size, c.loop-k.invariant.size, c.add_line.new.lines.ok.0, c.loop-k.lines.ok.0);
      capacity = omega (arith, c.loop-k.invariant.capacity, c.add_line.ensures.capacity);
    }

pub loop-k-init : goal.loop-k-init
loop-k-init g = grind (arith, common_steps)

pub offset_bounds-jobs-k : goal.offset_bounds-jobs-k
offset_bounds-jobs-k g = search rules

pub bounds-jobs-k : goal.bounds-jobs-k
bounds-jobs-k g = search rules

pub returns : goal.returns
returns g = search rules
