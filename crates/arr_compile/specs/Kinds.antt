-- The refusals of each pass, as those of the whole.
use Rattle.arr_ast.specs.declared.refusal.ProgramKind.{ProgramKind}
use Rattle.arr_ast.specs.declared.refusal.ProgramKind.TheVariants as kinds
use Rattle.arr_scope.specs.declared.refused.CheckKind.{CheckKind}
use Rattle.arr_scope.specs.declared.refused.CheckKind.TheVariants as checks
use Rattle.arr_scope.specs.declared.refused.CheckRefused.{CheckRefused}
use Rattle.arr_scope.specs.declared.refused.CheckRefused.TheVariants as check
use Rattle.arr_lex.specs.declared.refused.LexRefused.{LexRefused}
use Rattle.arr_lex.specs.declared.refused.LexRefused.TheVariants as lex
use Rattle.arr_parse.specs.declared.refused.ParseRefused.{ParseRefused}
use Rattle.arr_parse.specs.declared.refused.ParseRefused.TheVariants as parse
use Rattle.arr_compile.specs.declared.refused.BadProgram.TheVariants.{At}
use Rattle.arr_compile.specs.declared.refused.CompileRefused.{CompileRefused}
use Rattle.arr_compile.specs.declared.refused.CompileRefused.TheVariants.{Bad, Memory}

abbrev pub kind_of : CheckKind → ProgramKind
kind_of checks.Unknown = kinds.Unknown
kind_of checks.Taken = kinds.Taken
kind_of checks.Shape = kinds.Shape
kind_of checks.Index = kinds.Index
kind_of checks.IndexSize = kinds.IndexSize
kind_of checks.Bounds = kinds.Bounds
kind_of checks.Steps = kinds.Steps
kind_of checks.Nodes = kinds.Nodes
kind_of checks.Defs = kinds.Defs
kind_of checks.Dims = kinds.Dims
kind_of checks.Outputs = kinds.Outputs
kind_of checks.NoOutput = kinds.NoOutput

abbrev pub lexed : LexRefused → CompileRefused
lexed (lex.Lex at) = Bad (At at kinds.Lex)
lexed lex.Memory = Memory

abbrev pub parsed : ParseRefused → CompileRefused
parsed (parse.Syntax at) = Bad (At at kinds.Syntax)
parsed (parse.Nesting at) = Bad (At at kinds.Nesting)
parsed parse.Memory = Memory

abbrev pub checked : CheckRefused → CompileRefused
checked (check.Bad at kind) = Bad (At at (kind_of kind))
checked check.Memory = Memory
