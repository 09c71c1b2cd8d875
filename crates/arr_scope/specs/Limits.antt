-- The numbers of the languages: what they count has a limit, and what they compute is modulo a prime.
use Rattle.std.specs.Prelude.{ℕ, ◌^◌}
use Rattle.arr_ast.specs.declared.lang.Lang.{Lang}
use Rattle.arr_ast.specs.declared.lang.Lang.TheVariants.{One, Two}

-- the prime that elements are numbers below, which is that of field_ext
abbrev pub modulus : ℕ
modulus = 2147483647

-- p - 1, which is -1
abbrev pub minus_one : ℕ
minus_one = 2147483646

-- how many steps a run takes
abbrev pub most_steps : ℕ
most_steps = 1048576

-- how many nodes a program of a language has
abbrev pub most_nodes : Lang → ℕ
most_nodes One = 262144
most_nodes Two = 1048576

-- how many definitions a program has
abbrev pub most_definitions : ℕ
most_definitions = 64

-- how many outputs a program has
abbrev pub most_outputs : ℕ
most_outputs = 65535

-- how many rows or columns an input has
abbrev pub most_dimension : ℕ
most_dimension = 4096

-- how large a part of an index expression is
abbrev pub most_part : ℕ
most_part = 2 ^ 31
