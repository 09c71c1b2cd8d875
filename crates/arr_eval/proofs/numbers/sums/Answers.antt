use Rattle.field_ext.specs.Field.{add_f}
use Rattle.std.proofs.Common.{◌∙◌, ap, rules}
use Rattle.arr_eval.specs.Numbers.{element_wise}
use Rattle.arr_eval.proofs.InPlace.{cut_and_combined}
use Rattle.arr_eval.proofs.numbers.sums.Goals as goal

pub returns : goal.returns
returns c =
    cut_and_combined add_f c.args.left.items c.args.right.now c.truncate.new.self.items c.add_each.new.left c.truncate.new.self.len
    c.truncate.ensures.items (search rules) (search rules)
    (c.add_each.ensures ∙ ap (λ items. element_wise add_f items c.args.right.now) c.deref_mut.ensures.value)
