use Rattle.std.proofs.Common.{◌∙◌}
use Rattle.arr_run.proofs.Newest.{defined-place}
use Rattle.arr_run.proofs.defined.has_definition.Goals as goal

pub returns : goal.returns
returns c =
    let found = c.place_of_definition in
    c.is_some.ensures ∙ defined-place c.args.definitions.now c.args.name found.result found.ensures.found found.ensures.within found.ensures.none
