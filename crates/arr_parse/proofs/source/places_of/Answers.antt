use Rattle.std.proofs.lemmas.Grind.{common_steps}
use Rattle.std.proofs.Common.{rules, arith}
use Rattle.arr_parse.proofs.source.places_of.Goals as goal

pub each-init : goal.each-init
each-init g c = search rules

pub offset_bounds-tokens-place : goal.offset_bounds-tokens-place
offset_bounds-tokens-place g = search rules

pub bounds-tokens-place : goal.bounds-tokens-place
bounds-tokens-place g = search rules

pub returns-in_err-add_word : goal.returns-in_err-add_word
returns-in_err-add_word g = search rules

pub each-preserved : goal.each-preserved
each-preserved g c = grind (arith, common_steps)

pub returns : goal.returns
returns g c = grind (arith, common_steps)
