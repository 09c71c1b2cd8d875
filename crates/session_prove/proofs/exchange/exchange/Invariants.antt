-- Each end was handed a prefix of what the other sends
use Rattle.session_prove.proofs.Standings.{HaveCome, left}
use Rattle.session_prove.proofs.exchange.exchange.Given as goal

abbrev pub invariant-loop-alloc : goal.invariant-loop-alloc
invariant-loop-alloc g l = HaveCome l.fn.verifier l.fn.prover l.verifier l.prover l.to_prover l.to_verifier

abbrev pub decreases-loop-alloc : goal.decreases-loop-alloc
decreases-loop-alloc g l = left l.fn.verifier.parts l.to_prover l.to_verifier
