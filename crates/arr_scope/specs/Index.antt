-- The values of index expressions, each part within 2 ^ 31.
use Rattle.std.specs.Prelude.{ℕ, ℤ, pos, ◌+ℤ◌, ◌-ℤ◌, ◌*ℤ◌, nat_abs, Option, Some, None, Ok, Err, nat_le, if◌then◌else◌}
use Rattle.arr_ast.specs.declared.expression.Sign.{Sign}
use Rattle.arr_ast.specs.declared.expression.Sign.TheVariants.{Plus, Minus}
use Rattle.arr_ast.specs.IndexTree.{Sum, SumOf, Terms, NoTerm, Term, Product, ProductOf, Factors, NoFactor, Times, Factor, Number, Name, Parenthesized}
use Rattle.arr_scope.specs.declared.bound.Bound.{Bound}
use Rattle.arr_scope.specs.declared.bound.Bound.TheVariants.{Value, Turn}
use Rattle.arr_scope.specs.declared.refused.CheckKind.TheVariants.{Unknown, IndexSize}
use Rattle.arr_scope.specs.declared.refused.CheckRefused.TheVariants.{Bad}
use Rattle.arr_scope.specs.Agrees.{Answer, ◌>>=◌}
use Rattle.arr_scope.specs.Limits.{most_part}
use Rattle.arr_scope.specs.Scope.{Names, binding_of}

-- a part's value, of the index expression at this place
abbrev pub within : ℕ → ℤ → Answer ℤ
within whole value =
    if nat_le (nat_abs value) most_part then Ok value else Err (Bad whole IndexSize)

-- the number of a loop variable
abbrev pub turn_of : {A : Type 0} → ℕ → ℕ → Option (Bound A) → Answer ℤ
turn_of whole at None = Err (Bad at Unknown)
turn_of whole at (Some (Value shape array)) = Err (Bad at Unknown)
turn_of whole at (Some (Turn number)) = within whole (pos number)

abbrev pub signed : Sign → ℤ → ℤ → ℤ
signed Plus left right = left +ℤ right
signed Minus left right = left -ℤ right

abbrev mutual
  pub index_value : {A : Type 0} → Names A → ℕ → Sum → Answer ℤ
  index_value scope whole (SumOf first added) =
      index_term_value scope whole first >>= λ value. added_index_value scope whole added value

  pub added_index_value : {A : Type 0} → Names A → ℕ → Terms → ℤ → Answer ℤ
  added_index_value scope whole NoTerm value = Ok value
  added_index_value scope whole (Term sign at term rest) left =
      (index_term_value scope whole term >>= λ right. within whole (signed sign left right)) >>=
      λ value. added_index_value scope whole rest value

  pub index_term_value : {A : Type 0} → Names A → ℕ → Product → Answer ℤ
  index_term_value scope whole (ProductOf first times) =
      index_factor_value scope whole first >>= λ value. times_index_value scope whole times value

  pub times_index_value : {A : Type 0} → Names A → ℕ → Factors → ℤ → Answer ℤ
  times_index_value scope whole NoFactor value = Ok value
  times_index_value scope whole (Times at factor rest) left =
      (index_factor_value scope whole factor >>= λ right. within whole (left *ℤ right)) >>= λ value.
      times_index_value scope whole rest value

  pub index_factor_value : {A : Type 0} → Names A → ℕ → Factor → Answer ℤ
  index_factor_value scope whole (Number at value) = within whole (pos value)
  index_factor_value scope whole (Name at number) = turn_of whole at (binding_of number scope)
  index_factor_value scope whole (Parenthesized at inner) = index_value scope whole inner

abbrev pub index_factor_at : Factor → ℕ
index_factor_at (Number at value) = at
index_factor_at (Name at number) = at
index_factor_at (Parenthesized at inner) = at

abbrev pub index_term_at : Product → ℕ
index_term_at (ProductOf first times) = index_factor_at first

-- the place of the first byte
abbrev pub index_at : Sum → ℕ
index_at (SumOf first added) = index_term_at first
