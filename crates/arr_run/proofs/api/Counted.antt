-- What outputs a program that isn't refused has.
use Rattle.std.proofs.Common.{◌≡◌, ℕ, ◌+◌, ◌≤◌, ◌==◌, Bool, true, false, [], reverse, Ok, Err, refl, sym, subst, arith}
use Rattle.std.specs.Prelude.{nat_le, if◌then◌else◌}
use Rattle.std.proofs.lemmas.Bool.Decides.{nat_tests}
use Rattle.arr_scope.specs.declared.counts.Counts.{Counts}
use Rattle.arr_scope.specs.declared.refused.CheckKind.TheVariants as kinds
use Rattle.arr_scope.specs.declared.refused.CheckRefused.TheVariants.{Bad}
use Rattle.arr_ast.specs.declared.lang.Lang.{Lang}
use Rattle.arr_ast.specs.ProgramTree.{ProgramTree}
use Rattle.arr_scope.specs.Agrees.{◌>>=◌, each}
use Rattle.arr_run.specs.Operations.{Operations}
use Rattle.arr_run.specs.Program.{outputs_at, after_input, after_top, if_any_output, none_counted, run_of}
use Rattle.arr_run.specs.Definitions.{after_definitions}
use Rattle.arr_run.specs.State.{State, state}
use Rattle.arr_scope.proofs.api.Answered.{bind_ok, if_ok, same_ok}

pub outputs_at-is : (at more : ℕ) (before counts : Counts) → outputs_at at more before ≡ Ok counts → (counts ≡ record before { outputs = more + before.outputs }) × (more + before.outputs ≤ 65535)
outputs_at-is at more before counts e =
    let found = if_ok (nat_le (more + before.outputs) 65535) (Ok (record before { outputs = more + before.outputs })) (Bad at kinds.Outputs) counts e in
    (sym (same_ok (record before { outputs = more + before.outputs }) counts found.1), grind (arith, nat_tests, found.0))

any-output : {A S : Type 0} (end : ℕ) (before after : State A S) → if_any_output end before ≡ Ok after → 1 ≤ after.counts.outputs
any-output {A} {S} end before after e = by (before.counts.outputs == 0) refl e
  where
    by : (none : Bool) → (before.counts.outputs == 0) ≡ none → (if none then Err (Bad end kinds.NoOutput) else Ok before) ≡ Ok after → 1 ≤ after.counts.outputs
    by true is e = cc
    by false is e =
        let some : 1 ≤ before.counts.outputs = grind (arith, nat_tests, is) in
        subst (λ (last : State A S). 1 ≤ last.counts.outputs) (same_ok before after e) some

-- a program that isn't refused has an output
pub some-output : {A S : Type 0} (operations : Operations A S) (lang : Lang) (program : ProgramTree) (kept : S) (after : State A S) → run_of operations lang program kept ≡ Ok after → 1 ≤ after.counts.outputs
some-output operations lang program kept after e =
    let inputs = each (after_input operations) program.inputs (state [] (none_counted lang) kept) in
    let tops = each (after_top operations (reverse program.definitions)) program.statements in
    let whole = bind_ok (inputs >>= after_definitions [] program.definitions >>= tops) (if_any_output program.end) after e in
    any-output program.end whole.0 after whole.2
