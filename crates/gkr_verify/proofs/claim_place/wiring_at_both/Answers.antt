use Rattle.std.proofs.Common.{ℕ, ◌+◌, ◌^◌, ◌≤◌, length, arith, sym, ◌∙◌, ap, subst}
use Rattle.circuit_core.proofs.api.Sizes.{size_of, gates_size}
use Rattle.gkr_verify.proofs.claim_place.wiring_at_both.Goals as goal

pub gates_at_both-requires-clause-first : goal.gates_at_both-requires-clause-first
gates_at_both-requires-clause-first c =
    ap length c.gates.ensures.value ∙ gates_size c.args.circuit.now c.args.layer c.requires.layer ∙ ap (λ (n : ℕ). 2 ^ n) (sym c.requires.first)

pub gates_at_both-requires-clause-operands : goal.gates_at_both-requires-clause-operands
gates_at_both-requires-clause-operands c k d u =
    let size = (size_of c.args.circuit.now (c.args.layer + 1) (omega (arith, c.requires.layer))).0 ∙ ap (λ (n : ℕ). 2 ^ n) (sym c.requires.left) in
    let over = c.gates.ensures.operands k d u in
    record { left = omega (arith, size, over.left); right = omega (arith, size, over.right) }

pub gates_at_both-requires-clause-few_positions : goal.gates_at_both-requires-clause-few_positions
gates_at_both-requires-clause-few_positions c =
    let most = (size_of c.args.circuit.now c.args.layer (omega (arith, c.requires.layer))).2 in
    subst (λ (n : ℕ). n ≤ 20) (sym c.requires.first) most

pub gates_at_both-requires-clause-few_operands : goal.gates_at_both-requires-clause-few_operands
gates_at_both-requires-clause-few_operands c =
    let most = (size_of c.args.circuit.now (c.args.layer + 1) (omega (arith, c.requires.layer))).2 in
    subst (λ (n : ℕ). n ≤ 20) (sym c.requires.left) most
