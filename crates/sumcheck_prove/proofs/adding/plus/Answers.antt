-- The values add
use Rattle.sumcheck_prove.proofs.Summing.{sum_value}
use Rattle.sumcheck_prove.proofs.adding.plus.Goals as goal

pub returns-clause-value : goal.returns-clause-value
returns-clause-value c e =
    sum_value c.args.total c.args.message
    c.index-total-0.result c.index-total-1.result c.index-total-2.result c.index-message-0.result c.index-message-1.result c.index-message-2.result
    c.add.result c.add-2.result c.add-3.result e c.requires.total c.requires.message
    c.index-total-0.is c.index-total-1.is c.index-total-2.is c.index-message-0.is c.index-message-1.is c.index-message-2.is
    c.add.ensures c.add-2.ensures c.add-3.ensures
