-- The program of a text in a language, or its first refusal: all lexing comes before all reading, and that before running.
use Rattle.std.specs.Prelude.{◌≡◌, ℕ, List, [], ◌∷◌, length, IsTrue, is_ok, Some, None, Ok, Err}
use Rattle.arr_ast.specs.declared.lang.Lang.{Lang}
use Rattle.arr_ast.specs.ProgramTree.{ProgramTree}
use Rattle.arr_ast.specs.declared.refusal.ProgramKind.{ProgramKind}
use Rattle.arr_ast.specs.declared.refusal.ProgramKind.TheVariants as kinds
use Rattle.arr_scope.specs.declared.refused.CheckKind.{CheckKind}
use Rattle.arr_scope.specs.declared.refused.CheckKind.TheVariants as checks
use Rattle.arr_scope.specs.declared.refused.CheckRefused.TheVariants.{Bad as BadCheck}
use Rattle.arr_check.specs.Program.{run_program}
use Rattle.arr_lex.specs.declared.token.Token.{Token}
use Rattle.arr_lex.specs.Lexing.{tokens_from}
use Rattle.arr_parse.specs.declared.refused.ParseRefused.{ParseRefused}
use Rattle.arr_parse.specs.declared.refused.ParseRefused.TheVariants.{Syntax, Nesting}
use Rattle.arr_parse.specs.Grammar.{Inputs}
use Rattle.arr_parse.specs.Parsed.{IsTreeOf}
use Rattle.arr_parse.specs.Reading.{refusal}
use Rattle.arr_compile.specs.declared.refused.BadProgram.{BadProgram}
use Rattle.arr_compile.specs.declared.refused.BadProgram.TheVariants.{At, Deep, Wide}
use Rattle.arr_compile.specs.declared.refused.CompileRefused.{CompileRefused}
use Rattle.arr_compile.specs.declared.refused.CompileRefused.TheVariants.{Bad, Memory}

-- The text's tokens are read to their end, where reading begins with the whole program due.
pub record IsRead (lang : Lang) (text : List ℕ) (tree : ProgramTree) : Type 0 where
  pub tokens : List Token
  pub lexed : tokens_from 0 0 text ≡ Ok tokens
  pub read : refusal lang (length text) (Inputs ∷ []) tokens ≡ None
  pub tree_of : IsTreeOf lang text tokens tree

-- The text has this tree, and no check refuses it.
pub record IsAccepted (lang : Lang) (text : List ℕ) (tree : ProgramTree) : Type 0 where
  pub read : IsRead lang text tree
  pub checked : IsTrue (is_ok (run_program lang tree))

-- The text has tokens, and reading them is refused.
pub record IsMisread (lang : Lang) (text : List ℕ) (refused : ParseRefused) : Type 0 where
  pub tokens : List Token
  pub lexed : tokens_from 0 0 text ≡ Ok tokens
  pub refusal_is : refusal lang (length text) (Inputs ∷ []) tokens ≡ Some refused

-- The text has a tree, and its run over shapes is refused.
pub record IsRefusedByRun (lang : Lang) (text : List ℕ) (at : ℕ) (kind : CheckKind) : Type 0 where
  pub tree : ProgramTree
  pub read : IsRead lang text tree
  pub refusal_is : run_program lang tree ≡ Err (BadCheck at kind)

-- The first refusal of the text is of this kind, at this place.
abbrev pub IsRefusedAs : Lang → List ℕ → ℕ → ProgramKind → Type 0
IsRefusedAs lang text at kinds.Lex = tokens_from 0 0 text ≡ Err at
IsRefusedAs lang text at kinds.Syntax = IsMisread lang text (Syntax at)
IsRefusedAs lang text at kinds.Nesting = IsMisread lang text (Nesting at)
IsRefusedAs lang text at kinds.Unknown = IsRefusedByRun lang text at checks.Unknown
IsRefusedAs lang text at kinds.Taken = IsRefusedByRun lang text at checks.Taken
IsRefusedAs lang text at kinds.Shape = IsRefusedByRun lang text at checks.Shape
IsRefusedAs lang text at kinds.Index = IsRefusedByRun lang text at checks.Index
IsRefusedAs lang text at kinds.IndexSize = IsRefusedByRun lang text at checks.IndexSize
IsRefusedAs lang text at kinds.Bounds = IsRefusedByRun lang text at checks.Bounds
IsRefusedAs lang text at kinds.Steps = IsRefusedByRun lang text at checks.Steps
IsRefusedAs lang text at kinds.Nodes = IsRefusedByRun lang text at checks.Nodes
IsRefusedAs lang text at kinds.Defs = IsRefusedByRun lang text at checks.Defs
IsRefusedAs lang text at kinds.Dims = IsRefusedByRun lang text at checks.Dims
IsRefusedAs lang text at kinds.Outputs = IsRefusedByRun lang text at checks.Outputs
IsRefusedAs lang text at kinds.NoOutput = IsRefusedByRun lang text at checks.NoOutput

-- Layout is no part of it.
abbrev pub IsRefusal : Lang → List ℕ → BadProgram → Type 0
IsRefusal lang text (At at kind) = IsRefusedAs lang text at kind
IsRefusal lang text (Deep levels) = ⊥
IsRefusal lang text (Wide height width) = ⊥

-- A call refuses a text as the definition does, or memory ran out.
abbrev pub Refuses : Lang → List ℕ → CompileRefused → Type 0
Refuses lang text (Bad bad) = IsRefusal lang text bad
Refuses lang text Memory = Unit {0}
