-- The state of a run, and the names in it.
use Rattle.std.specs.Prelude.{ℕ, [], ◌∷◌, ◌++◌, Option, Some, None, Ok, Err}
use Rattle.arr_ast.specs.ExpressionTree.{NameTree}
use Rattle.arr_scope.specs.declared.bound.Bound.{Bound}
use Rattle.arr_scope.specs.declared.counts.Counts.{Counts}
use Rattle.arr_scope.specs.declared.refused.CheckKind.TheVariants.{Taken}
use Rattle.arr_scope.specs.declared.refused.CheckRefused.TheVariants.{Bad}
use Rattle.arr_scope.specs.Agrees.{Answer}
use Rattle.arr_scope.specs.Scope.{Names, binding_of}

-- the names in scope, what was counted, and what is kept beside arrays
pub record State (A S : Type 0) : Type 0 where
  pub names : Names A
  pub counts : Counts
  pub kept : S

abbrev pub state : {A S : Type 0} → Names A → Counts → S → State A S
state names counts kept = record { names = names; counts = counts; kept = kept }

abbrev pub bound : {A : Type 0} → NameTree → Names A → Option (Bound A)
bound name names = binding_of name.number names

abbrev pub with_name : {A : Type 0} → ℕ → Bound A → Names A → Names A
with_name name binding names = names ++ (name, binding) ∷ []

-- a name that isn't in scope
abbrev pub if_free : {A : Type 0} → ℕ → Option (Bound A) → Answer (Unit {0})
if_free at None = Ok tt
if_free at (Some binding) = Err (Bad at Taken)
