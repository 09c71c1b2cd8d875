use Rattle.std.proofs.lemmas.Grind.{common_steps}
use Rattle.std.proofs.Common.{rules, arith}
use Rattle.arr_parse.proofs.cursor.Cursor.open_call.Goals as goal

pub returns-in_err-token-clause-spelled : goal.returns-in_err-token-clause-spelled
returns-in_err-token-clause-spelled g = search rules

pub returns-in_err-token-clause-shorter : goal.returns-in_err-token-clause-shorter
returns-in_err-token-clause-shorter g = search rules

pub returns-in_err-token-clause-source : goal.returns-in_err-token-clause-source
returns-in_err-token-clause-source g = search rules

pub returns-in_err-token-clause-levels : goal.returns-in_err-token-clause-levels
returns-in_err-token-clause-levels g = search rules

pub returns-in_err-token-clause-argument : goal.returns-in_err-token-clause-argument
returns-in_err-token-clause-argument g c = search rules

pub returns-in_err-token-clause-arguments : goal.returns-in_err-token-clause-arguments
returns-in_err-token-clause-arguments g c = search rules

pub returns-in_err-token-clause-parameters : goal.returns-in_err-token-clause-parameters
returns-in_err-token-clause-parameters g c = search rules

pub returns-in_err-open-in-OpenRound-clause-spelled : goal.returns-in_err-open-in-OpenRound-clause-spelled
returns-in_err-open-in-OpenRound-clause-spelled g = search rules

pub returns-in_err-open-in-OpenRound-clause-shorter : goal.returns-in_err-open-in-OpenRound-clause-shorter
returns-in_err-open-in-OpenRound-clause-shorter g = search rules

pub returns-in_err-open-in-OpenRound-clause-source : goal.returns-in_err-open-in-OpenRound-clause-source
returns-in_err-open-in-OpenRound-clause-source g = search rules

pub returns-in_err-open-in-OpenRound-clause-levels : goal.returns-in_err-open-in-OpenRound-clause-levels
returns-in_err-open-in-OpenRound-clause-levels g = search rules

pub returns-in_err-open-in-OpenRound-clause-argument : goal.returns-in_err-open-in-OpenRound-clause-argument
returns-in_err-open-in-OpenRound-clause-argument g c = search rules

pub returns-in_err-open-in-OpenRound-clause-arguments : goal.returns-in_err-open-in-OpenRound-clause-arguments
returns-in_err-open-in-OpenRound-clause-arguments g c = search rules

pub returns-in_err-open-in-OpenRound-clause-parameters : goal.returns-in_err-open-in-OpenRound-clause-parameters
returns-in_err-open-in-OpenRound-clause-parameters g c = search rules

pub returns-in_ok-open-in-OpenRound-clause-spelled : goal.returns-in_ok-open-in-OpenRound-clause-spelled
returns-in_ok-open-in-OpenRound-clause-spelled g = grind (arith, common_steps)

pub returns-in_ok-open-in-OpenRound-clause-shorter : goal.returns-in_ok-open-in-OpenRound-clause-shorter
returns-in_ok-open-in-OpenRound-clause-shorter g = search rules

pub returns-in_ok-open-in-OpenRound-clause-source : goal.returns-in_ok-open-in-OpenRound-clause-source
returns-in_ok-open-in-OpenRound-clause-source g = search rules

pub returns-in_ok-open-in-OpenRound-clause-levels : goal.returns-in_ok-open-in-OpenRound-clause-levels
returns-in_ok-open-in-OpenRound-clause-levels g = search rules

pub returns-in_ok-open-in-OpenRound-clause-argument : goal.returns-in_ok-open-in-OpenRound-clause-argument
returns-in_ok-open-in-OpenRound-clause-argument g c = search rules

pub returns-in_ok-open-in-OpenRound-clause-arguments : goal.returns-in_ok-open-in-OpenRound-clause-arguments
returns-in_ok-open-in-OpenRound-clause-arguments g c = search rules

pub returns-in_ok-open-in-OpenRound-clause-parameters : goal.returns-in_ok-open-in-OpenRound-clause-parameters
returns-in_ok-open-in-OpenRound-clause-parameters g c = search rules

pub returns-in_default : goal.returns-in_default
returns-in_default g = search rules
