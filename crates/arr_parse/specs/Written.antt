-- What the grammar of a language has of trees: a tree of the other programs is no text's. Definitions and calls are the second
-- language's, and a definition has one parameter or more, and at most eight.
use Rattle.std.specs.Prelude.{◌≤◌, List, [], ◌∷◌, length}
use Rattle.arr_ast.specs.declared.lang.Lang.{Lang}
use Rattle.arr_ast.specs.declared.lang.Lang.TheVariants.{One, Two}
use Rattle.arr_ast.specs.ExpressionTree.{ExpressionTree, ExpressionOf, AddedTree, NoTerm, Added, TermTree, TermOf, TimesTree, NoFactor, Times, FactorTree, Number, Name, Element, Negation, Parenthesized, Single, Pair, Call, ArgumentsTree, NoArgument, Argument}
use Rattle.arr_ast.specs.ProgramTree.{StatementTree, Let, Set, SetElement, For, BlockTree, EndOfBlock, Then, TopTree, Output, Inner, DefinitionTree, ProgramTree}

-- the second language
abbrev pub IsTwo : Lang → Type 0
IsTwo One = ⊥
IsTwo Two = Unit {0}

abbrev pub HaveAll : {X : Type 0} → (X → Type 0) → List X → Type 0
HaveAll Has [] = Unit {0}
HaveAll Has (x ∷ xs) = Has x × HaveAll Has xs

module _ (lang : Lang) where
  abbrev mutual
    pub HasExpression : ExpressionTree → Type 0
    HasExpression (ExpressionOf first added) = HasTerm first × HasAdded added

    pub HasAdded : AddedTree → Type 0
    HasAdded NoTerm = Unit {0}
    HasAdded (Added sign at term rest) = HasTerm term × HasAdded rest

    pub HasTerm : TermTree → Type 0
    HasTerm (TermOf first times) = HasFactor first × HasTimes times

    pub HasTimes : TimesTree → Type 0
    HasTimes NoFactor = Unit {0}
    HasTimes (Times at factor rest) = HasFactor factor × HasTimes rest

    pub HasFactor : FactorTree → Type 0
    HasFactor (Number at value) = Unit {0}
    HasFactor (Name name) = Unit {0}
    HasFactor (Element name indices) = Unit {0}
    HasFactor (Negation at operand) = HasFactor operand
    HasFactor (Parenthesized at inner) = HasExpression inner
    HasFactor (Single function at parenthesis argument) = HasExpression argument
    HasFactor (Pair function at parenthesis left right) = HasExpression left × HasExpression right
    HasFactor (Call name parenthesis first further) =
        IsTwo lang × HasExpression first × HasArguments further

    pub HasArguments : ArgumentsTree → Type 0
    HasArguments NoArgument = Unit {0}
    HasArguments (Argument argument rest) = HasExpression argument × HasArguments rest

  abbrev mutual
    pub HasStatement : StatementTree → Type 0
    HasStatement (Let at name value) = HasExpression value
    HasStatement (Set name value) = HasExpression value
    HasStatement (SetElement name indices value) = HasExpression value
    HasStatement (For at name low high body) = HasBlock body

    pub HasBlock : BlockTree → Type 0
    HasBlock EndOfBlock = Unit {0}
    HasBlock (Then statement rest) = HasStatement statement × HasBlock rest

  abbrev pub HasTop : TopTree → Type 0
  HasTop (Output at value) = HasExpression value
  HasTop (Inner statement) = HasStatement statement

  pub record HasDefinition (definition : DefinitionTree) : Type 0 where
    pub two : IsTwo lang
    pub some : 1 ≤ length definition.parameters
    pub few : length definition.parameters ≤ 8
    pub body : HasExpression definition.body

  -- a program of the language
  pub record Has (program : ProgramTree) : Type 0 where
    pub definitions : HaveAll HasDefinition program.definitions
    pub statements : HaveAll HasTop program.statements
