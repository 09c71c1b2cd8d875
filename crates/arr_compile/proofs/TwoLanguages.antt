-- What the first language accepts means the same in the second, and is laid out so.
use Rattle.std.proofs.Common.{◌≡◌, ◌≤◌, ◌∙◌, ℕ, List, [], ◌∷◌, length, None, arith}
use Rattle.std.specs.Prelude.{IsTrue, is_ok}
use Rattle.field_ext.specs.Field.{F}
use Rattle.circuit_core.specs.Parts.{Limits}
use Rattle.node_core.specs.Nodes.{Nodes}
use Rattle.layer_compile.specs.Circuits.{refusal_of}
use Rattle.arr_ast.specs.declared.lang.Lang.TheVariants.{One, Two}
use Rattle.arr_ast.specs.ProgramTree.{ProgramTree}
use Rattle.arr_lex.specs.declared.token.Token.{Token}
use Rattle.arr_parse.specs.Grammar.{Inputs}
use Rattle.arr_parse.specs.Parsed.{IsTreeOf}
use Rattle.arr_parse.specs.Reading.{refusal}
use Rattle.arr_check.specs.Program.{run_program}
use Rattle.arr_eval.specs.Meaning.{meaning}
use Rattle.arr_lower.specs.Lowering.{nodes_of}
use Rattle.arr_compile.specs.Programs.{IsAccepted}
use Rattle.arr_compile.specs.Circuits.{limits_of}
use Rattle.arr_compile.specs.Languages.{KeepsPrograms, KeepsCircuits}

-- the laws that it comes from
pub record AreWider : Type 0 where
  pub read : (text : List ℕ) (tokens : List Token) → refusal One (length text) (Inputs ∷ []) tokens ≡ None → refusal Two (length text) (Inputs ∷ []) tokens ≡ None
  pub tree : (text : List ℕ) (tokens : List Token) (tree : ProgramTree) → IsTreeOf One text tokens tree → IsTreeOf Two text tokens tree
  pub accepted : (program : ProgramTree) → IsTrue (is_ok (run_program One program)) → IsTrue (is_ok (run_program Two program))
  pub meaning_is : (program : ProgramTree) (inputs : List F) → IsTrue (is_ok (run_program One program)) → meaning Two program inputs ≡ meaning One program inputs
  pub nodes_are : (program : ProgramTree) → IsTrue (is_ok (run_program One program)) → nodes_of Two program ≡ nodes_of One program
  pub fits : (limits larger : Limits) (n : Nodes) → limits.height ≤ larger.height → limits.exponent ≤ larger.exponent → refusal_of limits n ≡ None → refusal_of larger n ≡ None

accepted_in_two : AreWider → (text : List ℕ) (tree : ProgramTree) → IsAccepted One text tree → IsAccepted Two text tree
accepted_in_two wider text tree is = record {
  read = record {
    tokens = is.read.tokens;
    lexed = is.read.lexed;
    read = wider.read text is.read.tokens is.read.read;
    tree_of = wider.tree text is.read.tokens tree is.read.tree_of;
  };
  checked = wider.accepted tree is.checked;
}

pub keeps_programs : AreWider → KeepsPrograms
keeps_programs wider text tree is = record {
  accepted = accepted_in_two wider text tree is;
  meaning_is = λ inputs. wider.meaning_is tree inputs is.checked;
  nodes_are = wider.nodes_are tree is.checked;
}

pub keeps_circuits : AreWider → KeepsCircuits
keeps_circuits wider text parts is = record {
  tree = is.tree;
  nodes = is.nodes;
  lowered = record {
    accepted = accepted_in_two wider text is.tree is.lowered.accepted;
    nodes_are = wider.nodes_are is.tree is.lowered.accepted.checked ∙ is.lowered.nodes_are;
  };
  fits = wider.fits (limits_of One) (limits_of Two) is.nodes (omega arith) (omega arith) is.fits;
  laid_out = is.laid_out;
}
