-- What a run counts, each within its limit.
use Rattle.std.specs.Prelude.{ℕ, ◌+◌, ◌%◌, Ok, Err, nat_lt, nat_le, if◌then◌else◌}
use Rattle.std.specs.FinSet as set
use Rattle.arr_scope.specs.declared.refused.CheckKind.TheVariants.{Steps, Nodes}
use Rattle.arr_scope.specs.declared.refused.CheckRefused.TheVariants.{Bad}
use Rattle.arr_scope.specs.declared.counts.Counts.{Counts}
use Rattle.arr_scope.specs.Agrees.{Answer, ◌>>=◌}
use Rattle.arr_scope.specs.Limits.{modulus, most_steps, most_nodes}

abbrev pub step_at : ℕ → Counts → Answer Counts
step_at at counts =
    if nat_lt counts.steps most_steps then Ok (record counts { steps = counts.steps + 1 })
    else Err (Bad at Steps)

abbrev pub nodes_at : ℕ → ℕ → Counts → Answer Counts
nodes_at at more counts =
    if nat_le (more + counts.nodes) (most_nodes counts.lang)
    then Ok (record counts { nodes = more + counts.nodes }) else Err (Bad at Nodes)

abbrev pub with_constant : ℕ → Counts → Counts
with_constant value counts = record counts { constants = set.insert counts.constants value }

-- the number of the element that a constant stands for
abbrev pub element_number : ℕ → ℕ
element_number value = value % modulus

-- a constant that has no node gets one, and so many nodes are counted
abbrev pub new_constant : ℕ → ℕ → ℕ → Counts → Answer Counts
new_constant at number more counts =
    nodes_at at more counts >>= λ counts. Ok (with_constant number counts)

-- a constant has a node from its first use on
abbrev pub constant_at : ℕ → ℕ → Counts → Answer Counts
constant_at at value counts =
    if set.contains counts.constants (element_number value) then Ok counts
    else new_constant at (element_number value) 1 counts

-- a constant, and so many nodes after it
abbrev pub constant_and_nodes : ℕ → ℕ → ℕ → Counts → Answer Counts
constant_and_nodes at value more counts = constant_at at value counts >>= nodes_at at more
