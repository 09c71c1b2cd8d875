use Rattle.std.proofs.Common.{[], ◌∷◌, codes}
use Rattle.std.proofs.lemmas.Result.{IfOk-weaker}
use Rattle.gkr_words.specs.Commands.{demo_number, workers_option}
use Rattle.gkr_words.proofs.Lines.{stays_local, top_is, with_argument}
use Rattle.gkr_words.proofs.words.demo_line.Goals as goal

pub returns-clause-line : goal.returns-clause-line
returns-clause-line c =
    let one = with_argument (codes "demo") [] demo_number c.in_ok-arg.ensures c.demo_number.ensures.local (top_is c.new.result _ c.new.ensures.app) c.demo_number.ensures.rule in
    IfOk-weaker c.arg-2.result _ _ (λ line added. with_argument (codes "demo") (demo_number ∷ []) workers_option added c.workers_option.ensures.local one c.workers_option.ensures.rule) c.arg-2.ensures

pub returns-clause-local : goal.returns-clause-local
returns-clause-local c =
    let one = stays_local c.in_ok-arg.ensures c.new.ensures.local c.demo_number.ensures.local in
    IfOk-weaker c.arg-2.result _ _ (λ line added. stays_local added one c.workers_option.ensures.local) c.arg-2.ensures
