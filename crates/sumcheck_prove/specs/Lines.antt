-- A part of a line, over the values of which it is one
use Rattle.std.specs.Prelude.{ℕ, List, take}
use Rattle.field_ext.specs.Field.{K}
use Rattle.line_reduce.specs.Parts.{PartOfLine, part_coordinates, worked_part}

pub record LineView : Type 0 where
  pub part : PartOfLine
  pub values : List K

-- part k after it is worked
abbrev pub worked_line : ℕ → LineView → LineView
worked_line k line = record line { part = worked_part line.values k line.part }

-- the part with the first coordinates of the points b and c
abbrev pub aimed_line : List K → List K → LineView → LineView
aimed_line b c line = record line {
  part = record line.part { b = take part_coordinates b; c = take part_coordinates c };
}

-- how many parts a line has, over which values
pub record LineJobsView : Type 0 where
  pub number : ℕ
  pub values : List K
