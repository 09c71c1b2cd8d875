use Rattle.std.proofs.Common.{◌≡◌, ap, sym, subst, ◌∙◌}
use Rattle.arr_ast.specs.ProgramTree.{ProgramTree}
use Rattle.arr_run.specs.Program.{input_count}
use Rattle.arr_compile.specs.Circuits.{Computes}
use Rattle.arr_compile.proofs.laws.compiled_computes.Goals as goal

pub returns : goal.returns
returns c = λ lang text parts tree inputs is read counted.
    let same : is.tree ≡ tree = c.one_tree.ensures lang text is.tree tree is.lowered.accepted.read read in
    subst (λ (t : ProgramTree). Computes lang t parts inputs) same
    (c.circuit_computes.ensures.computes lang text parts is inputs
    (counted ∙ ap (λ (t : ProgramTree). input_count t.inputs) (sym same) ∙ sym (c.circuit_computes.ensures.inputs lang text parts is)))
