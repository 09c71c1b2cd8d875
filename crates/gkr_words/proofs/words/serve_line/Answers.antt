use Rattle.std.proofs.Common.{[], ◌∷◌, codes}
use Rattle.std.proofs.lemmas.Result.{IfOk-weaker}
use Rattle.gkr_words.specs.Commands.{clients_option, history_option, provers_option, workers_option}
use Rattle.gkr_words.proofs.Lines.{stays_local, top_is, with_argument}
use Rattle.gkr_words.proofs.words.serve_line.Goals as goal

pub returns-clause-line : goal.returns-clause-line
returns-clause-line c =
    let one = with_argument (codes "serve") [] workers_option c.in_ok-arg.ensures c.workers_option.ensures.local (top_is c.new.result _ c.new.ensures.app) c.workers_option.ensures.rule in
    let two = with_argument (codes "serve") (workers_option ∷ []) provers_option c.in_ok-arg-2.ensures c.provers_option.ensures.local one c.provers_option.ensures.rule in
    let three = with_argument (codes "serve") (workers_option ∷ provers_option ∷ []) clients_option c.in_ok-arg-3.ensures c.clients_option.ensures.local two c.clients_option.ensures.rule in
    IfOk-weaker c.arg-4.result _ _ (λ line added. with_argument (codes "serve") (workers_option ∷ provers_option ∷ clients_option ∷ []) history_option added c.history_option.ensures.local three c.history_option.ensures.rule) c.arg-4.ensures

pub returns-clause-local : goal.returns-clause-local
returns-clause-local c =
    let one = stays_local c.in_ok-arg.ensures c.new.ensures.local c.workers_option.ensures.local in
    let two = stays_local c.in_ok-arg-2.ensures one c.provers_option.ensures.local in
    let three = stays_local c.in_ok-arg-3.ensures two c.clients_option.ensures.local in
    IfOk-weaker c.arg-4.result _ _ (λ line added. stays_local added three c.history_option.ensures.local) c.arg-4.ensures
