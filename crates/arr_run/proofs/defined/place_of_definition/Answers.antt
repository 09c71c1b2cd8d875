use Rattle.std.proofs.Common.{length, sym, ap, arith}
use Rattle.std.proofs.lemmas.List.{take_all}
use Rattle.arr_run.specs.Steps.{newest_first, definition_named}
use Rattle.arr_run.proofs.defined.place_of_definition.Goals as goal

pub each-init : goal.each-init
each-init c = record {
  within = omega arith;
  same = ap (λ these. definition_named c.args.name (newest_first these)) (sym (take_all (length c.args.definitions.now) c.args.definitions.now (omega arith)));
}
