-- An element's halves are numbers below the prime
use Rattle.std.proofs.Common.{◌∙◌}
use Rattle.gate_gather.proofs.LazySums.{element_added}
use Rattle.gate_gather.proofs.lazy_sum.LazySum.plus.Goals as goal

pub returns-clause-element : goal.returns-clause-element
returns-clause-element c = element_added c.args.self c.args.x c.value.result c.value-2.result (c.value.ensures ∙ (λ i. (c.re.ensures i).value)) (c.value-2.ensures ∙ (λ i. (c.im.ensures i).value))
