use Rattle.std.proofs.Common.{ap, sym, ◌∙◌}
use Rattle.std.specs.BTreeMap.{get}
use Rattle.std.specs.List.{position}
use Rattle.std.specs.Ordering.{nat_cmp}
use Rattle.field_ext.specs.Field.{of}
use Rattle.arr_lower.specs.Operations.{is_constant}
use Rattle.arr_lower.proofs.PlacesKept.{constant-made_by}
use Rattle.arr_lower.proofs.nodes.Nodes.constant.Goals as goal

pub returns-in-None : goal.returns-in-None
returns-in-None c =
    constant-made_by c.new_constant.result c.args.value c.reduce-constant.result c.args.self.now c.new_constant.new.self
    (c.reduce-constant.ensures ∙ ap of c.from.ensures)
    (ap (position (is_constant c.reduce-constant.result)) (sym c.self.view_is) ∙ sym (c.self.invariant.1 c.reduce-constant.result)
    ∙ ap (get nat_cmp c.self.inside.places) (sym c.value.ensures) ∙ sym c.get.ensures.value ∙ sym c.copied.ensures ∙ c.in-None.is)
    c.new_constant.ensures.number c.new_constant.ensures.nodes
