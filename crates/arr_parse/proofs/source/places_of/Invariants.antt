use Rattle.std.proofs.Common.{drop}
use Rattle.arr_parse.specs.Names.{words}
use Rattle.arr_parse.proofs.Naming.{Answers}
use Rattle.arr_parse.proofs.source.places_of.Given as goal

abbrev pub invariant-each : goal.invariant-each
invariant-each l = Answers l.places l.place (words l.text (drop l.place l.tokens)) (words l.text l.tokens)
