use Rattle.std.proofs.Common.{[], codes}
use Rattle.std.proofs.lemmas.Result.{IfOk-weaker}
use Rattle.gkr_words.specs.Commands.{to_option}
use Rattle.gkr_words.proofs.Lines.{stays_local, top_is, with_argument}
use Rattle.gkr_words.proofs.words.convert_line.Goals as goal

pub returns-clause-line : goal.returns-clause-line
returns-clause-line c =
    IfOk-weaker c.arg.result _ _ (λ line added. with_argument (codes "convert") [] to_option added c.to_option.ensures.local (top_is c.new.result _ c.new.ensures.app) c.to_option.ensures.rule) c.arg.ensures

pub returns-clause-local : goal.returns-clause-local
returns-clause-local c = IfOk-weaker c.arg.result _ _ (λ line added. stays_local added c.new.ensures.local c.to_option.ensures.local) c.arg.ensures
