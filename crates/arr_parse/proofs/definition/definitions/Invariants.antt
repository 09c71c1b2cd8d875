use Rattle.std.proofs.Common.{[], ◌∷◌, ◌≡◌, length, flat_map}
use Rattle.arr_parse.specs.ProgramSpelling.{definition_spelling}
use Rattle.arr_parse.specs.Grammar.{Definitions}
use Rattle.arr_parse.specs.Reading.{refusal}
use Rattle.arr_parse.specs.Steps.{Takes}
use Rattle.arr_parse.proofs.definition.definitions.Given as goal

abbrev pub invariant-each : goal.invariant-each
invariant-each l = record {
  taken : Takes [] l.initial.cursor (flat_map definition_spelling l.definitions.items) l.cursor;
  exact : refusal l.initial.cursor.source.lang (length l.initial.cursor.source.text) (Definitions ∷ []) l.initial.cursor.tokens ≡ refusal l.initial.cursor.source.lang (length l.initial.cursor.source.text) (Definitions ∷ []) l.cursor.tokens;
}

abbrev pub decreases-each : goal.decreases-each
decreases-each l = length l.cursor.tokens
