-- The spelling of a tree without its places is its spelling without places, so the same words have one tree but for places.
use Rattle.std.proofs.Common.{◌≡◌, ℕ, List, [], ◌∷◌, ◌++◌, Option, Some, None, map, refl, ap, ap₂, sym, ◌∙◌}
use Rattle.std.specs.Prelude.{flat_map, option_map}
use Rattle.std.proofs.lemmas.List.{map-append}
use Rattle.arr_ast.specs.declared.expression.SingleFunction.TheVariants as single
use Rattle.arr_ast.specs.declared.program.Dimensions.{Dimensions}
use Rattle.arr_ast.specs.declared.program.Dimensions.TheVariants.{Scalar, Vector, Matrix}
use Rattle.arr_ast.specs.IndexTree as index
use Rattle.arr_ast.specs.declared.lang.Lang.{Lang}
use Rattle.arr_ast.specs.ExpressionTree.{NameTree, IndicesTree, ExpressionTree, ExpressionOf, AddedTree, NoTerm, Added, TermTree, TermOf, TimesTree, NoFactor, Times, FactorTree, Number, Name, Element, Negation, Parenthesized, Single, Pair, Call, ArgumentsTree, NoArgument, Argument}
use Rattle.arr_ast.specs.ProgramTree.{StatementTree, Let, Set, SetElement, For, BlockTree, EndOfBlock, Then, TopTree, Output, Inner, InputTree, DefinitionTree, ProgramTree}
use Rattle.arr_lex.specs.declared.token.Symbol.{Symbol}
use Rattle.arr_lex.specs.declared.token.Symbol.TheVariants as symbol
use Rattle.arr_lex.specs.declared.token.Token.{Token}
use Rattle.arr_parse.specs.Mark.{Mark, Separator, Placed, Named, Source, mark, mark_of, found_in, or_zero, number_at}
use Rattle.arr_parse.specs.Names.{words, names_from, source_of}
use Rattle.arr_parse.specs.IndexSpelling.{sign_symbol, sum_marks, terms_marks, product_marks, factors_marks, factor_marks as index_factor_marks, bracket_marks, second_marks, indices_marks}
use Rattle.arr_parse.specs.Spelling.{pair_symbol, expression_marks, added_marks, term_marks, times_marks, factor_marks, further_marks}
use Rattle.arr_parse.specs.ProgramSpelling.{statement_marks, block_marks, dimensions_spelling, input_marks, further_names_marks, parameters_marks, definition_marks, top_marks, program_marks}
use Rattle.arr_parse.specs.Parsed.{IsTreeOf}
use Rattle.arr_parse.specs.Unplaced.{SameWords, unplaced_sum, unplaced_terms, unplaced_product, unplaced_factors, unplaced_index_factor, unplaced_indices, unplaced_expression, unplaced_added, unplaced_term, unplaced_times, unplaced_factor, unplaced_arguments, unplaced_name, unplaced_statement, unplaced_block, unplaced_top, unplaced_dimensions, unplaced_input, unplaced_definition, unplaced}
use Rattle.arr_parse.proofs.OneProgram.{one_program_tree}

abbrev bare : Mark → Mark
bare (Separator symbol) = Separator symbol
bare (Placed at symbol) = Placed 0 symbol
bare (Named at number) = Named 0 number

abbrev bares : List Mark → List Mark
bares marks = map bare marks

-- two spellings, one after the other
both : (a b a' b' : List Mark) → a ≡ bares a' → b ≡ bares b' → a ++ b ≡ bares (a' ++ b')
both a b a' b' e f = ap₂ ◌++◌ e f ∙ sym (map-append bare a' b')

-- a spelling and a separator that ends it
closed : (a a' : List Mark) (close : Symbol) → a ≡ bares a' → a ++ Separator close ∷ [] ≡ bares (a' ++ Separator close ∷ [])
closed a a' close e = both a (Separator close ∷ []) a' (Separator close ∷ []) e refl

mutual
  bare_sum : (sum : index.Sum) → sum_marks (unplaced_sum sum) ≡ bares (sum_marks sum)
  bare_sum (index.SumOf first added) = both _ _ (product_marks first) (terms_marks added) (bare_product first) (bare_terms added)

  bare_terms : (terms : index.Terms) → terms_marks (unplaced_terms terms) ≡ bares (terms_marks terms)
  bare_terms index.NoTerm = refl
  bare_terms (index.Term sign at term rest) = ap (λ marks. Placed 0 (sign_symbol sign) ∷ marks) (both _ _ (product_marks term) (terms_marks rest) (bare_product term) (bare_terms rest))

  bare_product : (product : index.Product) → product_marks (unplaced_product product) ≡ bares (product_marks product)
  bare_product (index.ProductOf first times) = both _ _ (index_factor_marks first) (factors_marks times) (bare_index_factor first) (bare_factors times)

  bare_factors : (factors : index.Factors) → factors_marks (unplaced_factors factors) ≡ bares (factors_marks factors)
  bare_factors index.NoFactor = refl
  bare_factors (index.Times at factor rest) = ap (λ marks. Placed 0 symbol.Star ∷ marks) (both _ _ (index_factor_marks factor) (factors_marks rest) (bare_index_factor factor) (bare_factors rest))

  bare_index_factor : (factor : index.Factor) → index_factor_marks (unplaced_index_factor factor) ≡ bares (index_factor_marks factor)
  bare_index_factor (index.Number at value) = refl
  bare_index_factor (index.Name at number) = refl
  bare_index_factor (index.Parenthesized at inner) = ap (λ marks. Placed 0 symbol.OpenRound ∷ marks) (closed _ (sum_marks inner) symbol.CloseRound (bare_sum inner))

bare_bracket : (sum : index.Sum) → bracket_marks (unplaced_sum sum) ≡ bares (bracket_marks sum)
bare_bracket sum = ap (λ marks. Separator symbol.OpenSquare ∷ marks) (closed _ (sum_marks sum) symbol.CloseSquare (bare_sum sum))

bare_second : (second : Option index.Sum) → second_marks (option_map unplaced_sum second) ≡ bares (second_marks second)
bare_second None = refl
bare_second (Some sum) = bare_bracket sum

bare_indices : (indices : IndicesTree) → indices_marks (unplaced_indices indices) ≡ bares (indices_marks indices)
bare_indices indices = both _ _ (bracket_marks indices.first) (second_marks indices.second) (bare_bracket indices.first) (bare_second indices.second)

mutual
  bare_expression : (e : ExpressionTree) → expression_marks (unplaced_expression e) ≡ bares (expression_marks e)
  bare_expression (ExpressionOf first added) = both _ _ (term_marks first) (added_marks added) (bare_term first) (bare_added added)

  bare_added : (added : AddedTree) → added_marks (unplaced_added added) ≡ bares (added_marks added)
  bare_added NoTerm = refl
  bare_added (Added sign at term rest) = ap (λ marks. Placed 0 (sign_symbol sign) ∷ marks) (both _ _ (term_marks term) (added_marks rest) (bare_term term) (bare_added rest))

  bare_term : (term : TermTree) → term_marks (unplaced_term term) ≡ bares (term_marks term)
  bare_term (TermOf first times) = both _ _ (factor_marks first) (times_marks times) (bare_factor first) (bare_times times)

  bare_times : (times : TimesTree) → times_marks (unplaced_times times) ≡ bares (times_marks times)
  bare_times NoFactor = refl
  bare_times (Times at factor rest) = ap (λ marks. Placed 0 symbol.Star ∷ marks) (both _ _ (factor_marks factor) (times_marks rest) (bare_factor factor) (bare_times rest))

  bare_factor : (factor : FactorTree) → factor_marks (unplaced_factor factor) ≡ bares (factor_marks factor)
  bare_factor (Number at value) = refl
  bare_factor (Name name) = refl
  bare_factor (Element name indices) = ap (λ marks. Named 0 name.number ∷ marks) (bare_indices indices)
  bare_factor (Negation at operand) = ap (λ marks. Placed 0 symbol.Minus ∷ marks) (bare_factor operand)
  bare_factor (Parenthesized at inner) = ap (λ marks. Placed 0 symbol.OpenRound ∷ marks) (closed _ (expression_marks inner) symbol.CloseRound (bare_expression inner))
  bare_factor (Single single.Sum at parenthesis argument) =
      ap (λ marks. Placed 0 symbol.Sum ∷ Placed 0 symbol.OpenRound ∷ marks) (closed _ (expression_marks argument) symbol.CloseRound (bare_expression argument))
  bare_factor (Single single.Transpose at parenthesis argument) =
      ap (λ marks. Placed 0 symbol.Transpose ∷ Placed 0 symbol.OpenRound ∷ marks) (closed _ (expression_marks argument) symbol.CloseRound (bare_expression argument))
  bare_factor (Pair function at parenthesis left right) =
      ap (λ marks. Placed 0 (pair_symbol function) ∷ Placed 0 symbol.OpenRound ∷ marks)
      (both _ _ (expression_marks left) (Separator symbol.Comma ∷ (expression_marks right ++ Separator symbol.CloseRound ∷ [])) (bare_expression left)
      (ap (λ marks. Separator symbol.Comma ∷ marks) (closed _ (expression_marks right) symbol.CloseRound (bare_expression right))))
  bare_factor (Call name parenthesis first further) =
      ap (λ marks. Named 0 name.number ∷ Placed 0 symbol.OpenRound ∷ marks)
      (both _ _ (expression_marks first) (further_marks further ++ Separator symbol.CloseRound ∷ []) (bare_expression first)
      (closed _ (further_marks further) symbol.CloseRound (bare_further further)))

  bare_further : (further : ArgumentsTree) → further_marks (unplaced_arguments further) ≡ bares (further_marks further)
  bare_further NoArgument = refl
  bare_further (Argument argument rest) = ap (λ marks. Separator symbol.Comma ∷ marks) (both _ _ (expression_marks argument) (further_marks rest) (bare_expression argument) (bare_further rest))

-- a value and the semicolon after it
bare_ended : (value : ExpressionTree) → expression_marks (unplaced_expression value) ++ Separator symbol.Semicolon ∷ [] ≡ bares (expression_marks value ++ Separator symbol.Semicolon ∷ [])
bare_ended value = closed _ (expression_marks value) symbol.Semicolon (bare_expression value)

mutual
  bare_statement : (statement : StatementTree) → statement_marks (unplaced_statement statement) ≡ bares (statement_marks statement)
  bare_statement (Let at name value) = ap (λ marks. Placed 0 symbol.Let ∷ Named 0 name.number ∷ Separator symbol.Equals ∷ marks) (bare_ended value)
  bare_statement (Set name value) = ap (λ marks. Named 0 name.number ∷ Separator symbol.Equals ∷ marks) (bare_ended value)
  bare_statement (SetElement name indices value) =
      ap (λ marks. Named 0 name.number ∷ marks)
      (both _ _ (indices_marks indices) (Separator symbol.Equals ∷ (expression_marks value ++ Separator symbol.Semicolon ∷ [])) (bare_indices indices)
      (ap (λ marks. Separator symbol.Equals ∷ marks) (bare_ended value)))
  bare_statement (For at name low high body) =
      ap (λ marks. Placed 0 symbol.For ∷ Named 0 name.number ∷ Separator symbol.In ∷ marks)
      (both _ _ (sum_marks low) _ (bare_sum low)
      (ap (λ marks. Separator symbol.Range ∷ marks) (both _ _ (sum_marks high) (Separator symbol.OpenCurly ∷ (block_marks body ++ Separator symbol.CloseCurly ∷ [])) (bare_sum high)
      (ap (λ marks. Separator symbol.OpenCurly ∷ marks) (closed _ (block_marks body) symbol.CloseCurly (bare_block body))))))

  bare_block : (block : BlockTree) → block_marks (unplaced_block block) ≡ bares (block_marks block)
  bare_block EndOfBlock = refl
  bare_block (Then statement rest) = both _ _ (statement_marks statement) (block_marks rest) (bare_statement statement) (bare_block rest)

bare_top : (top : TopTree) → top_marks (unplaced_top top) ≡ bares (top_marks top)
bare_top (Output at value) = ap (λ marks. Placed 0 symbol.Output ∷ marks) (bare_ended value)
bare_top (Inner statement) = bare_statement statement

bare_dimensions : (dimensions : Dimensions) → dimensions_spelling (unplaced_dimensions dimensions) ≡ bares (dimensions_spelling dimensions)
bare_dimensions Scalar = refl
bare_dimensions (Vector n) = refl
bare_dimensions (Matrix n m) = refl

bare_input : (input : InputTree) → input_marks (unplaced_input input) ≡ bares (input_marks input)
bare_input input =
    ap (λ marks. Placed 0 symbol.Input ∷ Named 0 input.name.number ∷ marks) (closed _ (dimensions_spelling input.dimensions) symbol.Semicolon (bare_dimensions input.dimensions))

bare_inputs : (inputs : List InputTree) → flat_map input_marks (map unplaced_input inputs) ≡ bares (flat_map input_marks inputs)
bare_inputs [] = refl
bare_inputs (input ∷ inputs) = both _ _ (input_marks input) (flat_map input_marks inputs) (bare_input input) (bare_inputs inputs)

bare_tops : (tops : List TopTree) → flat_map top_marks (map unplaced_top tops) ≡ bares (flat_map top_marks tops)
bare_tops [] = refl
bare_tops (top ∷ tops) = both _ _ (top_marks top) (flat_map top_marks tops) (bare_top top) (bare_tops tops)

bare_names : (names : List NameTree) → further_names_marks (map unplaced_name names) ≡ bares (further_names_marks names)
bare_names [] = refl
bare_names (name ∷ names) = ap (λ marks. Separator symbol.Comma ∷ Named 0 name.number ∷ marks) (bare_names names)

bare_parameters : (names : List NameTree) → parameters_marks (map unplaced_name names) ≡ bares (parameters_marks names)
bare_parameters [] = refl
bare_parameters (name ∷ names) = ap (λ marks. Named 0 name.number ∷ marks) (bare_names names)

bare_definition : (definition : DefinitionTree) → definition_marks (unplaced_definition definition) ≡ bares (definition_marks definition)
bare_definition definition =
    ap (λ marks. Placed 0 symbol.Def ∷ Named 0 definition.name.number ∷ Placed 0 symbol.OpenRound ∷ marks)
    (both _ _ (parameters_marks definition.parameters) (Separator symbol.CloseRound ∷ Separator symbol.Equals ∷ (expression_marks definition.body ++ Separator symbol.Semicolon ∷ [])) (bare_parameters definition.parameters)
    (ap (λ marks. Separator symbol.CloseRound ∷ Separator symbol.Equals ∷ marks) (bare_ended definition.body)))

bare_definitions : (definitions : List DefinitionTree) → flat_map definition_marks (map unplaced_definition definitions) ≡ bares (flat_map definition_marks definitions)
bare_definitions [] = refl
bare_definitions (definition ∷ definitions) = both _ _ (definition_marks definition) (flat_map definition_marks definitions) (bare_definition definition) (bare_definitions definitions)

bare_program : (program : ProgramTree) → program_marks (unplaced program) ≡ bares (program_marks program)
bare_program program =
    both _ _ (flat_map input_marks program.inputs) (flat_map definition_marks program.definitions ++ flat_map top_marks program.statements) (bare_inputs program.inputs)
    (both _ _ (flat_map definition_marks program.definitions) (flat_map top_marks program.statements) (bare_definitions program.definitions) (bare_tops program.statements))

-- ---- words

-- what a mark without its place is of a word, where names have these numbers
abbrev word_mark : List (List ℕ × ℕ) → Symbol × List ℕ → Mark
word_mark names found = mark_of found.0 0 (or_zero (found_in names found.1))

bare_mark : (s : Symbol) (at number : ℕ) → bare (mark_of s at number) ≡ mark_of s 0 number
bare_mark symbol.Name at number = refl
bare_mark other at number = refl

bare_words : (source : Source) (tokens : List Token) → bares (map (mark source) tokens) ≡ map (word_mark source.names) (words source.text tokens)
bare_words source [] = refl
bare_words source (token ∷ tokens) = ap₂ ◌∷◌ (bare_mark token.symbol token.start (number_at source token)) (bare_words source tokens)

-- the marks of words, with the numbers of their own names
abbrev marks_of : List (Symbol × List ℕ) → List Mark
marks_of all = map (word_mark (names_from 0 all)) all

pub one_tree_of_words : (lang : Lang) (text other : List ℕ) (tokens others : List Token) (a b : ProgramTree) → SameWords text tokens other others → IsTreeOf lang text tokens a → IsTreeOf lang other others b → unplaced a ≡ unplaced b
one_tree_of_words lang text other tokens others a b same first second =
    one_program_tree (unplaced a) (unplaced b)
    (bare_program a ∙ ap bares (sym first.spelled) ∙ bare_words (source_of lang text tokens) tokens ∙ ap marks_of same ∙ sym (bare_words (source_of lang other others) others) ∙ ap bares second.spelled ∙ sym (bare_program b)) refl
