-- The second language accepts what the first does.
use Rattle.std.proofs.Common.{Ok, Err, refl, sym, subst}
use Rattle.std.specs.Prelude.{IsTrue, is_ok}
use Rattle.arr_ast.specs.declared.lang.Lang.TheVariants.{One, Two}
use Rattle.arr_ast.specs.ProgramTree.{ProgramTree}
use Rattle.arr_scope.specs.declared.counts.Counts.{Counts}
use Rattle.arr_scope.specs.Agrees.{Answer, ◌>>=◌}
use Rattle.arr_run.specs.Program.{run_of}
use Rattle.arr_run.specs.State.{State}
use Rattle.arr_run.proofs.api.Wider.{Kept, state_in_two, run_kept}
use Rattle.arr_check.specs.declared.shapes.Shapes.{Shapes}
use Rattle.arr_check.specs.Program.{run_program}
use Rattle.arr_check.specs.Shapes.{shapes}

abbrev End : Type 0
End = State (Unit {0}) Shapes

abbrev counted : Answer End → Answer Counts
counted x = ◌>>=◌ {A = Counts × Shapes} (x >>= λ after. Ok (after.counts, after.kept)) (λ end. Ok end.0)

still_ok : (x y : Answer End) → Kept (state_in_two shapes) x y → IsTrue (is_ok (counted x)) → IsTrue (is_ok (counted y))
still_ok (Ok x) y kept accepted = subst (λ (answer : Answer End). IsTrue (is_ok (counted answer))) (sym kept) refl
still_ok (Err refused) y kept accepted = cc

pub accepted_in_two : (program : ProgramTree) → IsTrue (is_ok (run_program One program)) → IsTrue (is_ok (run_program Two program))
accepted_in_two program accepted = still_ok (run_of shapes One program (record {})) (run_of shapes Two program (record {})) (run_kept shapes program (record {})) accepted
