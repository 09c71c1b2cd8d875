-- Which commands a library runs.
use Rattle.std.specs.Prelude.{Option, Some, None, ⊤}
use Rattle.gkr_words.specs.declared.words.Command.{Command}
use Rattle.gkr_words.specs.declared.words.Command.TheVariants.{OfCase}

-- The command is on a case, or there is none.
abbrev pub IsHere : Option Command → Type 0
IsHere None = ⊤
IsHere (Some (OfCase command)) = ⊤
IsHere command = ⊥
