use Rattle.session_prove.proofs.OneSession.{challenge-size, prover-size, verifier-size}
use Rattle.session_prove.proofs.laws.session_sizes.Goals as goal

pub returns : goal.returns
returns c = record { challenges = challenge-size; to_prover = prover-size; to_verifier = verifier-size }
