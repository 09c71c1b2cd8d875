-- A new constant and nodes after it, counted at once.
use Rattle.std.proofs.Common.{◌≡◌, ℕ, ◌+◌, Bool, true, false, Ok, Err, refl, sym, ap, ◌∙◌, arith}
use Rattle.std.specs.Prelude.{nat_le, if◌then◌else◌}
use Rattle.std.specs.FinSet as set
use Rattle.std.proofs.lemmas.Bool.Decides.{nat_tests}
use Rattle.arr_scope.specs.declared.counts.Counts.{Counts}
use Rattle.arr_scope.specs.declared.refused.CheckKind.TheVariants.{Nodes}
use Rattle.arr_scope.specs.declared.refused.CheckRefused.{CheckRefused}
use Rattle.arr_scope.specs.declared.refused.CheckRefused.TheVariants.{Bad}
use Rattle.arr_scope.specs.Agrees.{Answer, ◌>>=◌}
use Rattle.arr_scope.specs.Counting.{nodes_at, constant_and_nodes, new_constant, with_constant, element_number}
use Rattle.arr_scope.specs.Limits.{most_nodes}

mapped : (b : Bool) (counts : Counts) (refused : CheckRefused) (go_on : Counts → Counts) →
    ((if b then Ok counts else Err refused) >>= λ counts. Ok (go_on counts)) ≡ (if b then Ok (go_on counts) else Err refused)
mapped true counts refused go_on = refl
mapped false counts refused go_on = refl

-- where the first test refuses, so does all
chosen : (b : Bool) (counts : Counts) (refused : CheckRefused) (go_on : Counts → Counts) (last : Counts → Answer Counts) (whole : Answer Counts) →
    last (go_on counts) ≡ whole → (b ≡ false → whole ≡ Err refused) →
    (((if b then Ok counts else Err refused) >>= λ counts. Ok (go_on counts)) >>= last) ≡ whole
chosen true counts refused go_on last whole same refuses = same
chosen false counts refused go_on last whole same refuses = sym (refuses refl)

otherwise : (b : Bool) (counts : Counts) (refused : CheckRefused) → b ≡ false → ◌≡◌ {A = Answer Counts} (if b then Ok counts else Err refused) (Err refused)
otherwise true counts refused e = cc
otherwise false counts refused e = refl

absent : (b : Bool) (found new : Answer Counts) → b ≡ false → (if b then found else new) ≡ new
absent true found new e = cc
absent false found new e = refl

pub at_once : (at more value : ℕ) (counts : Counts) → set.contains counts.constants (element_number value) ≡ false →
    constant_and_nodes at value more counts ≡ new_constant at (element_number value) (1 + more) counts
at_once at more value counts new =
    let most = most_nodes counts.lang in
    let with_nodes = λ (nodes : ℕ). with_constant (element_number value) (record counts { nodes = nodes }) in
    ap (λ (found : Answer Counts). found >>= nodes_at at more) (absent (set.contains counts.constants (element_number value)) (Ok counts) _ new)
    ∙ chosen (nat_le (1 + counts.nodes) most) (record counts { nodes = 1 + counts.nodes }) (Bad at Nodes) (with_constant (element_number value)) (nodes_at at more)
    (if nat_le (1 + more + counts.nodes) most then Ok (with_nodes (1 + more + counts.nodes)) else Err (Bad at Nodes))
    (ap (λ (nodes : ℕ). if nat_le nodes most then Ok (with_nodes nodes) else Err (Bad at Nodes)) (omega arith))
    (λ refused. otherwise (nat_le (1 + more + counts.nodes) most) (with_nodes (1 + more + counts.nodes)) (Bad at Nodes) (grind (arith, nat_tests, refused)))
    ∙ sym (mapped (nat_le (1 + more + counts.nodes) most) (record counts { nodes = 1 + more + counts.nodes }) (Bad at Nodes) (with_constant (element_number value)))
