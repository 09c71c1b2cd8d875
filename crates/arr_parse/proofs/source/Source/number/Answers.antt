use Rattle.std.proofs.Common.{ap, ◌∙◌}
use Rattle.arr_parse.specs.Mark.{or_zero, number_in}
use Rattle.arr_parse.proofs.Naming.{found-entries}
use Rattle.arr_parse.proofs.source.Source.number.Goals as goal

pub returns-in-Some : goal.returns-in-Some
returns-in-Some c =
    ap or_zero (c.in-Some.ensures.value ∙ found-entries c.self.inside.places.entries c.args.name.now) ∙ ap (λ source. number_in source c.args.name.now) c.self.view_is

pub returns-in-None : goal.returns-in-None
returns-in-None c =
    ap or_zero (c.in-None.ensures.value ∙ found-entries c.self.inside.places.entries c.args.name.now) ∙ ap (λ source. number_in source c.args.name.now) c.self.view_is
