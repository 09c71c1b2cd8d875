-- The greedy runs of a layer stand for it
use Rattle.std.proofs.Common.{◌≡◌, ℕ, ◌+◌, Option, IfSome, length, All, true, arith, sym, ◌∙◌, ap, subst}
use Rattle.mle_table.proofs.api.EqualitySteps.{pow_up}
use Rattle.circuit_core.specs.Parts.{IsOver}
use Rattle.circuit_core.specs.Sound.{exponent_at}
use Rattle.circuit_core.proofs.api.Sizes.{size_of, gates_size}
use Rattle.run_wiring.specs.Greedy.{AreGreedy}
use Rattle.run_wiring.specs.LayerRuns.{are_of_layer}
use Rattle.run_wiring.proofs.SoundRuns.{greedy_sound}
use Rattle.run_wiring.proofs.layer_runs.runs_within.Goals as goal

pub greedy_runs-requires : goal.greedy_runs-requires
greedy_runs-requires c =
    let circuit = c.args.circuit.now in
    let most = (size_of circuit c.args.layer (omega (arith, c.requires))).2 in
    let size = ap length c.gates.ensures.value ∙ gates_size circuit c.args.layer c.requires in
    let up = pow_up (exponent_at circuit.parts c.args.layer) 20 most in
    omega (arith, size, up)

pub invariant_of-layer_runs-inside : goal.invariant_of-layer_runs-inside
invariant_of-layer_runs-inside c =
    let circuit = c.args.circuit.now in
    let k : ℕ = exponent_at circuit.parts c.args.layer in
    let below : ℕ = exponent_at circuit.parts (c.args.layer + 1) in
    let gates = c.gates.result.now in
    let greedy : AreGreedy c.in-Some.runs.items c.gates.result.now = subst (λ (found : Option _). IfSome found (λ runs. AreGreedy runs.items gates)) c.in-Some.is c.in_ok-runs.ensures.runs in
    let size = ap length c.gates.ensures.value ∙ gates_size circuit c.args.layer c.requires in
    let width = (size_of circuit (c.args.layer + 1) (omega (arith, c.requires))).0 in
    let over = subst (λ (n : ℕ). All (IsOver n) c.gates.result.now) width c.gates.ensures.operands in
    let sound = greedy_sound k below c.in-Some.runs.items gates greedy size over in
    (coe 0 1 (i. are_of_layer (sym c.coordinates-k.ensures.value i) (sym c.coordinates-below.ensures.value i) c.in-Some.runs.items ≡ true) sound, tt)
