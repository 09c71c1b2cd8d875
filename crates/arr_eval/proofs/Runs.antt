-- The run over numbers goes through exactly where the run over shapes does, with the same counts.
use Rattle.std.proofs.Common.{◌≡◌, List, [], Option, Ok, Err, refl, ap, sym}
use Rattle.std.specs.Prelude.{IsTrue, IsSome, is_ok}
use Rattle.arr_ast.specs.declared.lang.Lang.{Lang}
use Rattle.arr_ast.specs.declared.lang.Lang.TheVariants.{One, Two}
use Rattle.arr_ast.specs.ProgramTree.{ProgramTree}
use Rattle.arr_ast.specs.declared.shape.ShapeOf.{ShapeOf}
use Rattle.arr_scope.specs.declared.counts.Counts.{Counts}
use Rattle.arr_scope.specs.declared.refused.CheckRefused.{CheckRefused}
use Rattle.arr_scope.specs.Agrees.{Answer, ◌>>=◌}
use Rattle.arr_run.specs.Program.{end_of, run_of}
use Rattle.arr_run.specs.State.{State}
use Rattle.arr_run.proofs.api.Wider.{Kept as IsKept, state_in_two, run_kept}
use Rattle.arr_run.proofs.api.Related.{GoTogether, GoOn, Begin, BothStates, programs}
use Rattle.arr_check.specs.declared.shapes.Shapes.{Shapes}
use Rattle.arr_check.specs.Shapes.{shapes}
use Rattle.arr_check.specs.Program.{run_program}
use Rattle.field_ext.specs.Field.{F}
use Rattle.arr_eval.specs.Meaning.{Kept, numbers, outputs_of, meaning}

abbrev Alike : Counts → Shapes → Kept → Type 0
Alike counts s t = Unit {0}

abbrev Stands : Shapes → Kept → ShapeOf → Unit {0} → List F → Type 0
Stands s t shape a b = Unit {0}

abbrev Later : Shapes → Kept → Shapes → Kept → Type 0
Later s t s' t' = Unit {0}

go : GoTogether shapes numbers Alike Stands Later
go = record {
  stays = λ s t. tt;
  further = λ s s' s'' t t' t'' first second. tt;
  kept = λ s s' t t' shape a b later stands. tt;
  constant = λ at n before counts s t e alike. (tt, tt, tt);
  signed = λ sign at left right shape before counts a a' b b' s t e alike first second. (tt, tt, tt);
  product = λ at left right shape before counts a a' b b' s t e alike first second. (tt, tt, tt);
  opposite = λ at of shape before counts a b s t e alike stands. (tt, tt, tt);
  single = λ function at of shape before counts a b s t e alike stands. (tt, tt, tt);
  pair = λ function at left right shape before counts a a' b b' s t e alike first second. (tt, tt, tt);
  stepped = λ at before counts s t e alike. tt;
  element = λ shape place a b s t within stands. tt;
}

more : GoOn shapes numbers Alike Stands Later
more = record {
  with_element = λ shape place a a' b b' s t stands new. tt;
  output = λ at shape before counts a b s t e alike stands. (tt, tt);
}

begin : Begin shapes numbers Alike Stands Later (λ trees s t. Unit {0})
begin = record { input = λ tree trees shape before counts s t fits e alike enough. ((tt, tt, tt), tt) }

-- both run through, or both are refused alike
abbrev SameEnds : Answer (Counts × Shapes) → Answer (Counts × Kept) → Type 0
SameEnds (Ok x) (Ok y) = x.0 ≡ y.0
SameEnds (Err e) (Err f) = e ≡ f
SameEnds x y = ⊥

ends : (x : Answer (State (Unit {0}) Shapes)) (y : Answer (State (List F) Kept)) → BothStates shapes numbers Alike Stands Later go more x y
    → SameEnds (x >>= λ after. Ok (after.counts, after.kept)) (y >>= λ after. Ok (after.counts, after.kept))
ends (Ok x) (Ok y) both = both.0
ends (Err e) (Err f) both = both
ends (Ok x) (Err f) both = absurd both
ends (Err e) (Ok y) both = absurd both

same_ends : (lang : Lang) (program : ProgramTree) (kept : Kept) → SameEnds (end_of shapes lang program (record {})) (end_of numbers lang program kept)
same_ends lang program kept =
    ends (run_of shapes lang program (record {})) (run_of numbers lang program kept)
    (programs shapes numbers Alike Stands Later go more (λ trees s t. Unit {0}) begin lang program (record {}) kept tt tt)

-- where the run over shapes isn't refused, the run over numbers isn't
there : (x : Answer (Counts × Shapes)) (y : Answer (Counts × Kept)) → SameEnds x y → IsTrue (is_ok (x >>= λ end. Ok end.0)) → (end : Counts × Kept) × (y ≡ Ok end)
there (Ok x) (Ok y) same accepted = (y, refl)
there (Err e) y same accepted = cc
there (Ok x) (Err f) same accepted = absurd same

pub is_there : (lang : Lang) (program : ProgramTree) (kept : Kept) → IsTrue (is_ok (run_program lang program)) → (end : Counts × Kept) × (end_of numbers lang program kept ≡ Ok end)
is_there lang program kept accepted = there (end_of shapes lang program (record {})) (end_of numbers lang program kept) (same_ends lang program kept) accepted

pub never_refused : (lang : Lang) (program : ProgramTree) (kept : Kept) (refused : CheckRefused) → IsTrue (is_ok (run_program lang program)) → end_of numbers lang program kept ≡ Err refused → ⊥
never_refused lang program kept refused accepted e = let found = is_there lang program kept accepted in let both = sym e in cc (found.1)

pub has_meaning : (lang : Lang) (program : ProgramTree) (inputs : List F) → IsTrue (is_ok (run_program lang program)) → IsSome (meaning lang program inputs)
has_meaning lang program inputs accepted =
    let found = is_there lang program (record { inputs = inputs; outputs = [] }) accepted in rw found.1 refl

-- ---- in both languages

abbrev RunEnd : Type 0
RunEnd = State (List F) Kept

abbrev put_out : Answer RunEnd → Option (List F)
put_out x = outputs_of (x >>= λ after. Ok (after.counts, after.kept))

same_out : (x y : Answer RunEnd) → IsKept (state_in_two numbers) x y → IsSome (put_out x) → put_out y ≡ put_out x
same_out (Ok x) y kept some = ap put_out kept
same_out (Err refused) y kept some = cc

pub same_meaning : (program : ProgramTree) (inputs : List F) → IsTrue (is_ok (run_program One program)) → meaning Two program inputs ≡ meaning One program inputs
same_meaning program inputs accepted =
    let start : Kept = record { inputs = inputs; outputs = [] } in
    same_out (run_of numbers One program start) (run_of numbers Two program start) (run_kept numbers program start) (has_meaning One program inputs accepted)
