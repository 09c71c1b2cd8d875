use Rattle.std.proofs.Common.{[], ◌∷◌, codes}
use Rattle.std.proofs.lemmas.Result.{IfOk-weaker}
use Rattle.gkr_words.specs.Commands.{subcommand, to_option}
use Rattle.gkr_words.proofs.Lines.{top_is, with_line}
use Rattle.gkr_words.proofs.words.line_of_six.Goals as goal

pub returns : goal.returns
returns c =
    let four = with_line _ (subcommand (codes "verify") []) c.in_ok-subcommand.ensures c.new.ensures.local c.in_ok-line_of_three.ensures (top_is c.new.result _ c.new.ensures.app) in
    let five = with_line _ (subcommand (codes "audit") []) c.in_ok-line.ensures c.new-2.ensures.local four (top_is c.new-2.result _ c.new-2.ensures.app) in
    IfOk-weaker c.subcommand-3.result _ _ (λ line added. with_line _ (subcommand (codes "convert") (to_option ∷ [])) added c.in_ok-convert_line.ensures.local five c.in_ok-convert_line.ensures.line) c.subcommand-3.ensures
