-- A text has one reading: one tree, or one first refusal.
use Rattle.std.proofs.Common.{◌≡◌, ◌∙◌, subst, true, false, ℕ, List, [], ◌∷◌, length, refl, sym, ap, Result, Ok, Err, map}
use Rattle.std.specs.Prelude.{IsTrue, is_ok}
use Rattle.arr_ast.specs.declared.lang.Lang.{Lang}
use Rattle.arr_ast.specs.ProgramTree.{ProgramTree}
use Rattle.arr_ast.specs.declared.refusal.ProgramKind.{ProgramKind}
use Rattle.arr_ast.specs.declared.refusal.ProgramKind.TheVariants as kinds
use Rattle.arr_scope.specs.declared.refused.CheckKind.{CheckKind}
use Rattle.arr_scope.specs.declared.refused.CheckKind.TheVariants as checks
use Rattle.arr_scope.specs.declared.refused.CheckRefused.TheVariants.{Bad as BadCheck}
use Rattle.arr_check.specs.Program.{run_program}
use Rattle.arr_lex.specs.declared.token.Token.{Token}
use Rattle.arr_lex.specs.Lexing.{tokens_from}
use Rattle.arr_parse.specs.declared.refused.ParseRefused.{ParseRefused}
use Rattle.arr_parse.specs.declared.refused.ParseRefused.TheVariants.{Syntax, Nesting}
use Rattle.arr_parse.specs.Mark.{mark}
use Rattle.arr_parse.specs.Names.{source_of}
use Rattle.arr_parse.specs.Grammar.{Inputs}
use Rattle.arr_parse.specs.ProgramSpelling.{program_marks}
use Rattle.arr_parse.specs.Reading.{refusal}
use Rattle.arr_compile.specs.declared.refused.BadProgram.{BadProgram}
use Rattle.arr_compile.specs.declared.refused.BadProgram.TheVariants.{At, Deep, Wide}
use Rattle.arr_compile.specs.Kinds.{kind_of}
use Rattle.arr_compile.specs.Programs.{IsRead, IsAccepted, IsMisread, IsRefusedByRun, IsRefusedAs, IsRefusal}

abbrev pub OneTree : Type 0
OneTree = (lang : Lang) (text : List ℕ) (a b : ProgramTree) → IsRead lang text a → IsRead lang text b → a ≡ b

pub one_list : (r : Result (List Token) ℕ) (a b : List Token) → r ≡ Ok a → r ≡ Ok b → a ≡ b
one_list r a b is is' = cc

pub one_tree : ((a b : ProgramTree) → program_marks a ≡ program_marks b → a.end ≡ b.end → a ≡ b) → OneTree
one_tree law lang text a b read read' =
    let same = one_list (tokens_from 0 0 text) read.tokens read'.tokens read.lexed read'.lexed in
    law a b (sym read.tree_of.spelled ∙ ap (λ (tokens : List Token). map (mark (source_of lang text tokens)) tokens) same ∙ read'.tree_of.spelled) (read.tree_of.end ∙ sym read'.tree_of.end)

same_lexing : (r : Result (List Token) ℕ) (a b : ℕ) → r ≡ Err a → r ≡ Err b → a ≡ b
same_lexing r a b is is' = cc

lexed_or_not : (r : Result (List Token) ℕ) (tokens : List Token) (at : ℕ) → r ≡ Ok tokens → r ≡ Err at → ⊥
lexed_or_not r tokens at is is' = cc

same_reading : (lang : Lang) (text : List ℕ) (a b : ParseRefused) → IsMisread lang text a → IsMisread lang text b → a ≡ b
same_reading lang text a b found found' =
    let same = one_list (tokens_from 0 0 text) found.tokens found'.tokens found.lexed found'.lexed in
    let e = found'.refusal_is in
    let e' = found.refusal_is in
    let moved = ap (refusal lang (length text) (Inputs ∷ [])) same in cc

read_or_not : (lang : Lang) (text : List ℕ) (tree : ProgramTree) (refused : ParseRefused) → IsRead lang text tree → IsMisread lang text refused → ⊥
read_or_not lang text tree refused read found =
    let same = one_list (tokens_from 0 0 text) read.tokens found.tokens read.lexed found.lexed in
    let e = read.read in
    let e' = found.refusal_is in
    let moved = ap (refusal lang (length text) (Inputs ∷ [])) same in cc

same_run : OneTree → (lang : Lang) (text : List ℕ) (at at' : ℕ) (kind kind' : CheckKind) → IsRefusedByRun lang text at kind → IsRefusedByRun lang text at' kind' → At at (kind_of kind) ≡ At at' (kind_of kind')
same_run one lang text at at' kind kind' found found' =
    let same = one lang text found.tree found'.tree found.read found'.read in
    let e = found.refusal_is in
    let e' = found'.refusal_is in
    let moved = ap (run_program lang) same in
    let at_is : at ≡ at' = cc in
    let kind_is : kind ≡ kind' = cc in
    rw (at_is, kind_is) refl

-- the pass that refuses a text
data Found (lang : Lang) (text : List ℕ) : BadProgram → Type 0 where
  lexing : (at : ℕ) → tokens_from 0 0 text ≡ Err at → Found lang text (At at kinds.Lex)
  syntax : (at : ℕ) → IsMisread lang text (Syntax at) → Found lang text (At at kinds.Syntax)
  nesting : (at : ℕ) → IsMisread lang text (Nesting at) → Found lang text (At at kinds.Nesting)
  run : (at : ℕ) (kind : CheckKind) → IsRefusedByRun lang text at kind → Found lang text (At at (kind_of kind))

found_of : (lang : Lang) (text : List ℕ) (at : ℕ) (kind : ProgramKind) → IsRefusedAs lang text at kind → Found lang text (At at kind)
found_of lang text at kinds.Lex refused = lexing at refused
found_of lang text at kinds.Syntax refused = syntax at refused
found_of lang text at kinds.Nesting refused = nesting at refused
found_of lang text at kinds.Unknown refused = run at checks.Unknown refused
found_of lang text at kinds.Taken refused = run at checks.Taken refused
found_of lang text at kinds.Shape refused = run at checks.Shape refused
found_of lang text at kinds.Index refused = run at checks.Index refused
found_of lang text at kinds.IndexSize refused = run at checks.IndexSize refused
found_of lang text at kinds.Bounds refused = run at checks.Bounds refused
found_of lang text at kinds.Steps refused = run at checks.Steps refused
found_of lang text at kinds.Nodes refused = run at checks.Nodes refused
found_of lang text at kinds.Defs refused = run at checks.Defs refused
found_of lang text at kinds.Dims refused = run at checks.Dims refused
found_of lang text at kinds.Outputs refused = run at checks.Outputs refused
found_of lang text at kinds.NoOutput refused = run at checks.NoOutput refused

found : (lang : Lang) (text : List ℕ) (bad : BadProgram) → IsRefusal lang text bad → Found lang text bad
found lang text (At at kind) refused = found_of lang text at kind refused
found lang text (Deep levels) refused = absurd refused
found lang text (Wide height width) refused = absurd refused

syntax_or_nesting : (lang : Lang) (text : List ℕ) (at at' : ℕ) → IsMisread lang text (Syntax at) → IsMisread lang text (Nesting at') → ⊥
syntax_or_nesting lang text at at' found found' = let e = same_reading lang text (Syntax at) (Nesting at') found found' in cc

same_syntax : (lang : Lang) (text : List ℕ) (at at' : ℕ) → IsMisread lang text (Syntax at) → IsMisread lang text (Syntax at') → at ≡ at'
same_syntax lang text at at' found found' = let e = same_reading lang text (Syntax at) (Syntax at') found found' in cc

same_nesting : (lang : Lang) (text : List ℕ) (at at' : ℕ) → IsMisread lang text (Nesting at) → IsMisread lang text (Nesting at') → at ≡ at'
same_nesting lang text at at' found found' = let e = same_reading lang text (Nesting at) (Nesting at') found found' in cc

unlexed : (lang : Lang) (text : List ℕ) (at : ℕ) (refused : ParseRefused) → tokens_from 0 0 text ≡ Err at → IsMisread lang text refused → ⊥
unlexed lang text at refused e found = lexed_or_not (tokens_from 0 0 text) found.tokens at found.lexed e

unlexed_run : (lang : Lang) (text : List ℕ) (at : ℕ) (tree : ProgramTree) → tokens_from 0 0 text ≡ Err at → IsRead lang text tree → ⊥
unlexed_run lang text at tree e read = lexed_or_not (tokens_from 0 0 text) read.tokens at read.lexed e

one_found : OneTree → (lang : Lang) (text : List ℕ) {a b : BadProgram} → Found lang text a → Found lang text b → a ≡ b
one_found one lang text (lexing at e) (lexing at' e') = rw (same_lexing (tokens_from 0 0 text) at at' e e') refl
one_found one lang text (lexing at e) (syntax at' found) = absurd (unlexed lang text at (Syntax at') e found)
one_found one lang text (lexing at e) (nesting at' found) = absurd (unlexed lang text at (Nesting at') e found)
one_found one lang text (lexing at e) (run at' kind found) = absurd (unlexed_run lang text at found.tree e found.read)
one_found one lang text (syntax at found) (lexing at' e) = absurd (unlexed lang text at' (Syntax at) e found)
one_found one lang text (syntax at found) (syntax at' found') = rw (same_syntax lang text at at' found found') refl
one_found one lang text (syntax at found) (nesting at' found') = absurd (syntax_or_nesting lang text at at' found found')
one_found one lang text (syntax at found) (run at' kind found') = absurd (read_or_not lang text found'.tree (Syntax at) found'.read found)
one_found one lang text (nesting at found) (lexing at' e) = absurd (unlexed lang text at' (Nesting at) e found)
one_found one lang text (nesting at found) (syntax at' found') = absurd (syntax_or_nesting lang text at' at found' found)
one_found one lang text (nesting at found) (nesting at' found') = rw (same_nesting lang text at at' found found') refl
one_found one lang text (nesting at found) (run at' kind found') = absurd (read_or_not lang text found'.tree (Nesting at) found'.read found)
one_found one lang text (run at kind found) (lexing at' e) = absurd (unlexed_run lang text at' found.tree e found.read)
one_found one lang text (run at kind found) (syntax at' found') = absurd (read_or_not lang text found.tree (Syntax at') found.read found')
one_found one lang text (run at kind found) (nesting at' found') = absurd (read_or_not lang text found.tree (Nesting at') found.read found')
one_found one lang text (run at kind found) (run at' kind' found') = same_run one lang text at at' kind kind' found found'

pub one_refusal : OneTree → (lang : Lang) (text : List ℕ) (a b : BadProgram) → IsRefusal lang text a → IsRefusal lang text b → a ≡ b
one_refusal one lang text a b refused refused' = one_found one lang text (found lang text a refused) (found lang text b refused')

accepted_run : (lang : Lang) (tree tree' : ProgramTree) (at : ℕ) (kind : CheckKind) → tree ≡ tree' → IsTrue (is_ok (run_program lang tree)) → run_program lang tree' ≡ Err (BadCheck at kind) → ⊥
accepted_run lang tree tree' at kind same ok e = let moved : run_program lang tree ≡ Err (BadCheck at kind) = ap (run_program lang) same ∙ e in let shown : false ≡ true = subst (λ r. IsTrue (is_ok r)) moved ok in cc

not_found : OneTree → (lang : Lang) (text : List ℕ) (tree : ProgramTree) {bad : BadProgram} → IsAccepted lang text tree → Found lang text bad → ⊥
not_found one lang text tree accepted (lexing at e) = unlexed_run lang text at tree e accepted.read
not_found one lang text tree accepted (syntax at found) = read_or_not lang text tree (Syntax at) accepted.read found
not_found one lang text tree accepted (nesting at found) = read_or_not lang text tree (Nesting at) accepted.read found
not_found one lang text tree accepted (run at kind found) = accepted_run lang tree found.tree at kind (one lang text tree found.tree accepted.read found.read) accepted.checked found.refusal_is

pub not_both : OneTree → (lang : Lang) (text : List ℕ) (tree : ProgramTree) (bad : BadProgram) → IsAccepted lang text tree → ¬ IsRefusal lang text bad
not_both one lang text tree bad accepted refused = not_found one lang text tree accepted (found lang text bad refused)
