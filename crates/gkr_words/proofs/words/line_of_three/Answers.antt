use Rattle.std.proofs.Common.{[], ◌∷◌, codes}
use Rattle.std.proofs.lemmas.Result.{IfOk-weaker}
use Rattle.gkr_words.specs.Commands.{proof_option, subcommand, workers_option}
use Rattle.gkr_words.proofs.Lines.{top_is, with_line}
use Rattle.gkr_words.proofs.words.line_of_three.Goals as goal

pub returns : goal.returns
returns c =
    let one = with_line _ (subcommand (codes "eval") []) c.in_ok-subcommand.ensures c.new.ensures.local c.line_of_none.ensures (top_is c.new.result _ c.new.ensures.app) in
    let two = with_line _ (subcommand (codes "circuit") []) c.in_ok-line.ensures c.new-2.ensures.local one (top_is c.new-2.result _ c.new-2.ensures.app) in
    IfOk-weaker c.subcommand-3.result _ _ (λ line added. with_line _ (subcommand (codes "prove") (workers_option ∷ proof_option ∷ [])) added c.in_ok-prove_line.ensures.local two c.in_ok-prove_line.ensures.line) c.subcommand-3.ensures
