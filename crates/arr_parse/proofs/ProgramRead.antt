-- The inputs, then the definitions, and then the statements that were read are a whole program.
use Rattle.std.proofs.Common.{◌≡◌, List, [], ◌++◌, map, ap, ap₂, sym, ◌∙◌}
use Rattle.std.specs.Prelude.{flat_map}
use Rattle.std.proofs.lemmas.List.Folds.{flat_map-map}
use Rattle.arr_ast.specs.declared.program.Input.{Input}
use Rattle.arr_ast.specs.declared.program.Definition.{Definition}
use Rattle.arr_ast.specs.declared.program.TopStatement.{TopStatement}
use Rattle.arr_ast.specs.ProgramTree.{input_tree, definition_tree, top_tree}
use Rattle.arr_lex.specs.declared.token.Token.{Token}
use Rattle.arr_parse.specs.Mark.{Source, mark}
use Rattle.arr_parse.specs.ProgramSpelling.{input_marks, definition_marks, top_marks, input_spelling, definition_spelling, top_statement_spelling}
use Rattle.arr_parse.specs.Steps.{Rest, Takes}

pub program_read : (source : Source) (tokens : List Token) (inputs : List Input) (definitions : List Definition) (statements : List TopStatement) (first middle rest : Rest) → first.source ≡ source → first.tokens ≡ tokens →
    Takes [] first (flat_map input_spelling inputs) middle → Takes [] middle (flat_map definition_spelling definitions) rest → map (mark rest.source) rest.tokens ≡ flat_map top_statement_spelling statements →
    map (mark source) tokens ≡ flat_map input_marks (map input_tree inputs) ++ (flat_map definition_marks (map definition_tree definitions) ++ flat_map top_marks (map top_tree statements))
program_read source tokens inputs definitions statements first middle rest same all taken defined read =
    sym (ap (λ s. map (mark s) tokens) same)
    ∙ sym (ap (map (mark first.source)) all)
    ∙ taken.spelled
    ∙ sym (ap (λ s. flat_map input_spelling inputs ++ map (mark s) middle.tokens) taken.source)
    ∙ ap (λ marks. flat_map input_spelling inputs ++ marks) (defined.spelled
    ∙ sym (ap (λ s. flat_map definition_spelling definitions ++ map (mark s) rest.tokens) defined.source)
    ∙ ap (λ marks. flat_map definition_spelling definitions ++ marks) read)
    ∙ sym (ap₂ ◌++◌ (flat_map-map input_marks input_tree inputs) (ap₂ ◌++◌ (flat_map-map definition_marks definition_tree definitions) (flat_map-map top_marks top_tree statements)))
