use Rattle.std.proofs.Common.{rules}
use Rattle.proof_two.specs.declared.kind.ProofKind.TheVariants.{ByLines}
use Rattle.proof_two.specs.declared.kind.ProofVersion.TheVariants.{One}
use Rattle.gkr_cmd.proofs.CircuitAnswers.{IsOne}
use Rattle.gkr_cmd.proofs.ProofRefusals.{IsOneProof}
use Rattle.gkr_cmd.proofs.VerifyAnswers.{accepted_alone, accepted_or_memory}
use Rattle.gkr_cmd.proofs.demo.accept.Goals as goal

pub unreachable-requires : goal.unreachable-requires
unreachable-requires c =
    let one : IsOne = record { circuit = c.one_circuit.ensures; refusal = c.one_circuit_refusal.ensures; either = c.compiled_or_refused.ensures } in
    let proofs : IsOneProof = record { form = c.one_saying.ensures.form; reading = c.one_saying.ensures.reading; trouble = c.one_saying.ensures.trouble; none = c.one_saying.ensures.none } in
    let same = accepted_alone one proofs c.args.proved.now (c.proved_is_accepted.ensures (ByLines One) c.args.case.now c.args.proved.now c.requires.proved) c.in-Ok.verdict c.in-Ok.ensures.verdict in
    c.in_default.not-Accepted same

pub unreachable-requires-in_default-refused : goal.unreachable-requires-in_default-refused
unreachable-requires-in_default-refused c =
    let one : IsOne = record { circuit = c.one_circuit.ensures; refusal = c.one_circuit_refusal.ensures; either = c.compiled_or_refused.ensures } in
    let proofs : IsOneProof = record { form = c.one_saying.ensures.form; reading = c.one_saying.ensures.reading; trouble = c.one_saying.ensures.trouble; none = c.one_saying.ensures.none } in
    let same = accepted_or_memory one proofs c.args.proved.now (c.proved_is_accepted.ensures (ByLines One) c.args.case.now c.args.proved.now c.requires.proved) c.in-Err.refused c.in-Err.ensures.refused in
    c.in_default-refused.not-Memory same

pub verify_laid_out-requires-clause-compiled : goal.verify_laid_out-requires-clause-compiled
verify_laid_out-requires-clause-compiled g = search rules

pub unreachable-unreachable : goal.unreachable-unreachable
unreachable-unreachable g = search rules

pub unreachable-unreachable-in_default-refused : goal.unreachable-unreachable-in_default-refused
unreachable-unreachable-in_default-refused g = search rules

pub returns-in-Accepted-clause-accepted : goal.returns-in-Accepted-clause-accepted
returns-in-Accepted-clause-accepted g = search rules

pub returns-in-Accepted-clause-fault : goal.returns-in-Accepted-clause-fault
returns-in-Accepted-clause-fault g c = search rules

pub returns-in-Memory-clause-accepted : goal.returns-in-Memory-clause-accepted
returns-in-Memory-clause-accepted g = search rules

pub returns-in-Memory-clause-fault : goal.returns-in-Memory-clause-fault
returns-in-Memory-clause-fault g c = search rules
