use Rattle.std.proofs.Common.{ℕ, ◌+◌, ◌^◌, ◌≤◌, length, arith, sym, ◌∙◌, ap, subst}
use Rattle.circuit_core.proofs.api.Sizes.{size_of, gates_size}
use Rattle.wiring_poly.proofs.wiring.wiring_at.Goals as goal

pub gate_sums-sums-requires-clause-positions : goal.gate_sums-sums-requires-clause-positions
gate_sums-sums-requires-clause-positions c =
    ap length c.gates.ensures.value ∙ gates_size c.args.circuit.now c.args.layer c.requires.layer ∙ ap (λ (n : ℕ). 2 ^ n) (sym c.requires.position)

pub gate_sums-sums-requires-clause-operands : goal.gate_sums-sums-requires-clause-operands
gate_sums-sums-requires-clause-operands c k d u =
    let size = (size_of c.args.circuit.now (c.args.layer + 1) (omega (arith, c.requires.layer))).0 ∙ ap (λ (n : ℕ). 2 ^ n) (sym c.requires.left) in
    let over = c.gates.ensures.operands k d u in
    record { left = omega (arith, size, over.left); right = omega (arith, size, over.right) }

pub gate_sums-sums-requires-clause-few_positions : goal.gate_sums-sums-requires-clause-few_positions
gate_sums-sums-requires-clause-few_positions c =
    let most = (size_of c.args.circuit.now c.args.layer (omega (arith, c.requires.layer))).2 in
    subst (λ (n : ℕ). n ≤ 20) (sym c.requires.position) most

pub gate_sums-sums-requires-clause-few_operands : goal.gate_sums-sums-requires-clause-few_operands
gate_sums-sums-requires-clause-few_operands c =
    let most = (size_of c.args.circuit.now (c.args.layer + 1) (omega (arith, c.requires.layer))).2 in
    subst (λ (n : ℕ). n ≤ 20) (sym c.requires.left) most
