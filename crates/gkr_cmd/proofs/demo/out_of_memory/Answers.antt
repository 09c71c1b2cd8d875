use Rattle.gkr_cmd.specs.Demo.{demo_case}
use Rattle.gkr_cmd.proofs.CircuitAnswers.{IsOne, memory_alone}
use Rattle.gkr_cmd.proofs.demo.out_of_memory.Goals as goal

pub unreachable-requires : goal.unreachable-requires
unreachable-requires c =
    let one : IsOne = record { circuit = c.one_circuit.ensures; refusal = c.one_circuit_refusal.ensures; either = c.compiled_or_refused.ensures } in
    c.in_default.not-Memory (memory_alone one (demo_case c.args.number) c.args.refused (c.demo_has_circuit.ensures c.args.number) c.requires)
