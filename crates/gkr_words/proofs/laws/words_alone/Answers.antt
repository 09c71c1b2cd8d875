use Rattle.gkr_words.proofs.WordLaws.{audit_words, circuit_words, eval_words, prove_words, serve_history_words, serve_words, verify_words}
use Rattle.gkr_words.proofs.laws.words_alone.Goals as goal

pub returns : goal.returns
returns c = record { eval = eval_words; circuit = circuit_words; prove = prove_words; verify = verify_words; audit = audit_words; serve = serve_words; history = serve_history_words }
