-- Arrays of which nothing is known but the shape, and nothing beside them.
use Rattle.arr_run.specs.Operations.{Operations}
use Rattle.arr_check.specs.declared.shapes.Shapes.{Shapes}

abbrev pub shapes : Operations (Unit {0}) Shapes
shapes = record {
  input = λ shape kept. (tt, kept);
  constant = λ value kept. (tt, kept);
  signed = λ sign left right kept. (tt, kept);
  product = λ left right kept. (tt, kept);
  opposite = λ array kept. (tt, kept);
  single = λ function shape array kept. (tt, kept);
  pair = λ function shape other left right kept. (tt, kept);
  element = λ array place. tt;
  with_element = λ array place new. tt;
  output = λ array kept. kept;
}
