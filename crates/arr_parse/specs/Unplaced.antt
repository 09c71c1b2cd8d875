-- Trees and tokens without their places in the text.
use Rattle.std.specs.Prelude.{◌≡◌, ℕ, List, map, option_map}
use Rattle.arr_ast.specs.declared.program.Dimension.{Dimension}
use Rattle.arr_ast.specs.declared.program.Dimensions.{Dimensions}
use Rattle.arr_ast.specs.declared.program.Dimensions.TheVariants.{Scalar, Vector, Matrix}
use Rattle.arr_ast.specs.IndexTree as index
use Rattle.arr_ast.specs.ExpressionTree.{NameTree, IndicesTree, ExpressionTree, ExpressionOf, AddedTree, NoTerm, Added, TermTree, TermOf, TimesTree, NoFactor, Times, FactorTree, Number, Name, Element, Negation, Parenthesized, Single, Pair, Call, ArgumentsTree, NoArgument, Argument}
use Rattle.arr_ast.specs.ProgramTree.{StatementTree, Let, Set, SetElement, For, BlockTree, EndOfBlock, Then, TopTree, Output, Inner, InputTree, DefinitionTree, ProgramTree}
use Rattle.arr_lex.specs.declared.token.Token.{Token}
use Rattle.arr_parse.specs.Names.{words}

-- the tokens of two texts are the same words in the same order
abbrev pub SameWords : List ℕ → List Token → List ℕ → List Token → Type 0
SameWords text tokens other others = words text tokens ≡ words other others

abbrev mutual
  pub unplaced_sum : index.Sum → index.Sum
  unplaced_sum (index.SumOf first added) =
      index.SumOf (unplaced_product first) (unplaced_terms added)

  pub unplaced_terms : index.Terms → index.Terms
  unplaced_terms index.NoTerm = index.NoTerm
  unplaced_terms (index.Term sign at term rest) =
      index.Term sign 0 (unplaced_product term) (unplaced_terms rest)

  pub unplaced_product : index.Product → index.Product
  unplaced_product (index.ProductOf first times) =
      index.ProductOf (unplaced_index_factor first) (unplaced_factors times)

  pub unplaced_factors : index.Factors → index.Factors
  unplaced_factors index.NoFactor = index.NoFactor
  unplaced_factors (index.Times at factor rest) =
      index.Times 0 (unplaced_index_factor factor) (unplaced_factors rest)

  pub unplaced_index_factor : index.Factor → index.Factor
  unplaced_index_factor (index.Number at value) = index.Number 0 value
  unplaced_index_factor (index.Name at number) = index.Name 0 number
  unplaced_index_factor (index.Parenthesized at inner) = index.Parenthesized 0 (unplaced_sum inner)

abbrev pub unplaced_name : NameTree → NameTree
unplaced_name name = record { at = 0; number = name.number }

abbrev pub unplaced_indices : IndicesTree → IndicesTree
unplaced_indices indices =
    record { first = unplaced_sum indices.first; second = option_map unplaced_sum indices.second }

abbrev mutual
  pub unplaced_expression : ExpressionTree → ExpressionTree
  unplaced_expression (ExpressionOf first added) =
      ExpressionOf (unplaced_term first) (unplaced_added added)

  pub unplaced_added : AddedTree → AddedTree
  unplaced_added NoTerm = NoTerm
  unplaced_added (Added sign at term rest) = Added sign 0 (unplaced_term term) (unplaced_added rest)

  pub unplaced_term : TermTree → TermTree
  unplaced_term (TermOf first times) = TermOf (unplaced_factor first) (unplaced_times times)

  pub unplaced_times : TimesTree → TimesTree
  unplaced_times NoFactor = NoFactor
  unplaced_times (Times at factor rest) = Times 0 (unplaced_factor factor) (unplaced_times rest)

  pub unplaced_factor : FactorTree → FactorTree
  unplaced_factor (Number at value) = Number 0 value
  unplaced_factor (Name name) = Name (unplaced_name name)
  unplaced_factor (Element name indices) = Element (unplaced_name name) (unplaced_indices indices)
  unplaced_factor (Negation at operand) = Negation 0 (unplaced_factor operand)
  unplaced_factor (Parenthesized at inner) = Parenthesized 0 (unplaced_expression inner)
  unplaced_factor (Single function at parenthesis argument) =
      Single function 0 0 (unplaced_expression argument)
  unplaced_factor (Pair function at parenthesis left right) =
      Pair function 0 0 (unplaced_expression left) (unplaced_expression right)
  unplaced_factor (Call name parenthesis first further) =
      Call (unplaced_name name) 0 (unplaced_expression first) (unplaced_arguments further)

  pub unplaced_arguments : ArgumentsTree → ArgumentsTree
  unplaced_arguments NoArgument = NoArgument
  unplaced_arguments (Argument argument rest) =
      Argument (unplaced_expression argument) (unplaced_arguments rest)

abbrev mutual
  pub unplaced_statement : StatementTree → StatementTree
  unplaced_statement (Let at name value) = Let 0 (unplaced_name name) (unplaced_expression value)
  unplaced_statement (Set name value) = Set (unplaced_name name) (unplaced_expression value)
  unplaced_statement (SetElement name indices value) =
      SetElement (unplaced_name name) (unplaced_indices indices) (unplaced_expression value)
  unplaced_statement (For at name low high body) =
      For 0 (unplaced_name name) (unplaced_sum low) (unplaced_sum high) (unplaced_block body)

  pub unplaced_block : BlockTree → BlockTree
  unplaced_block EndOfBlock = EndOfBlock
  unplaced_block (Then statement rest) = Then (unplaced_statement statement) (unplaced_block rest)

abbrev pub unplaced_top : TopTree → TopTree
unplaced_top (Output at value) = Output 0 (unplaced_expression value)
unplaced_top (Inner statement) = Inner (unplaced_statement statement)

abbrev pub unplaced_dimension : Dimension → Dimension
unplaced_dimension dimension = record { at = 0; size = dimension.size }

abbrev pub unplaced_dimensions : Dimensions → Dimensions
unplaced_dimensions Scalar = Scalar
unplaced_dimensions (Vector n) = Vector (unplaced_dimension n)
unplaced_dimensions (Matrix n m) = Matrix (unplaced_dimension n) (unplaced_dimension m)

abbrev pub unplaced_input : InputTree → InputTree
unplaced_input input = record {
  at = 0;
  name = unplaced_name input.name;
  dimensions = unplaced_dimensions input.dimensions;
}

abbrev pub unplaced_definition : DefinitionTree → DefinitionTree
unplaced_definition definition = record {
  at = 0;
  name = unplaced_name definition.name;
  parenthesis = 0;
  parameters = map unplaced_name definition.parameters;
  body = unplaced_expression definition.body;
}

-- the program, whatever the places of its parts and the length of its text
abbrev pub unplaced : ProgramTree → ProgramTree
unplaced program = record {
  inputs = map unplaced_input program.inputs;
  definitions = map unplaced_definition program.definitions;
  statements = map unplaced_top program.statements;
  end = 0;
}
