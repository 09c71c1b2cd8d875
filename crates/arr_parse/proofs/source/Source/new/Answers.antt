use Rattle.std.proofs.Common.{sym, ◌∙◌}
use Rattle.arr_parse.proofs.Naming.{found-entries}
use Rattle.arr_parse.proofs.source.Source.new.Goals as goal

pub returns-clause-names : goal.returns-clause-names
returns-clause-names c = λ name. sym (found-entries c.in_ok-places.places.entries name) ∙ c.in_ok-places.ensures name
