use Rattle.std.proofs.Common.{ap, sym, ◌∙◌}
use Rattle.std.specs.Cmp.{nat_cmp_total}
use Rattle.std.specs.FinSet as set
use Rattle.arr_scope.proofs.constants.Constants.contains.Goals as goal

pub returns : goal.returns
returns c =
    c.contains.ensures ∙ sym (set.contains-from_list nat_cmp_total c.self.inside.values.keys c.args.value)
    ∙ ap (λ s. set.contains s c.args.value) c.self.view_is
