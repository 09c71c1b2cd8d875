-- The bounds of a loop.
use Rattle.std.specs.Prelude.{ℕ, ℤ, pos, Ok, Err, nat_le, if◌then◌else◌}
use Rattle.arr_scope.specs.declared.refused.CheckKind.TheVariants.{Bounds}
use Rattle.arr_scope.specs.declared.refused.CheckRefused.TheVariants.{Bad}
use Rattle.arr_ast.specs.IndexTree.{Sum}
use Rattle.arr_scope.specs.Agrees.{Answer, ◌>>=◌}
use Rattle.arr_scope.specs.Index.{index_value, index_at}
use Rattle.arr_scope.specs.Limits.{modulus}
use Rattle.arr_scope.specs.Scope.{Names}

-- the first turn, and the one past the last
abbrev pub turns_of : ℕ → ℤ → ℤ → Answer (ℕ × ℕ)
turns_of at (pos low) (pos high) =
    if nat_le low high then (if nat_le high modulus then Ok (low, high) else Err (Bad at Bounds))
    else Err (Bad at Bounds)
turns_of at low high = Err (Bad at Bounds)

abbrev pub bounds_of : {A : Type 0} → Names A → Sum → Sum → Answer (ℕ × ℕ)
bounds_of scope low high =
    index_value scope (index_at low) low >>= λ from. index_value scope (index_at high) high >>=
    λ to. turns_of (index_at low) from to
