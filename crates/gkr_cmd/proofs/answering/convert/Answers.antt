-- The line on a sum that fails is the answer.
use Rattle.std.proofs.Common.{subst, rules}
use Rattle.case_prove.specs.Converted.{IsConvertedTo}
use Rattle.case_prove.specs.declared.converting.Converted.{Converted}
use Rattle.gkr_cmd.proofs.Replied.{sum_replied}
use Rattle.gkr_cmd.proofs.answering.convert.Goals as goal

pub returns-in-Ok-Sum-clause-reply : goal.returns-in-Ok-Sum-clause-reply
returns-in-Ok-Sum-clause-reply c =
    let fails = subst (λ (written : Converted). IsConvertedTo c.args.version c.args.case.now written) c.in-Ok-Sum.field-0-is c.in-Ok-Sum.ensures.converted in
    sum_replied c.args.version c.in-Ok-Sum.fault c.sum_line.result c.args.case.now fails c.sum_line.ensures

pub returns-in-Ok-Case-clause-reply : goal.returns-in-Ok-Case-clause-reply
returns-in-Ok-Case-clause-reply g = search rules

pub returns-in-Ok-Case-clause-fault : goal.returns-in-Ok-Case-clause-fault
returns-in-Ok-Case-clause-fault g c = search rules

pub returns-in-Ok-Sum-clause-fault : goal.returns-in-Ok-Sum-clause-fault
returns-in-Ok-Sum-clause-fault g c = search rules

pub returns-in-Err-clause-reply : goal.returns-in-Err-clause-reply
returns-in-Err-clause-reply g = search rules

pub returns-in-Err-clause-fault : goal.returns-in-Err-clause-fault
returns-in-Err-clause-fault g c = search rules
