use Rattle.std.proofs.Common.{rules}
use Rattle.gkr_cmd.proofs.demo.demo_program.Goals as goal

pub returns-in_err-put_square : goal.returns-in_err-put_square
returns-in_err-put_square g = search rules

pub returns-in_err-put_square-2 : goal.returns-in_err-put_square-2
returns-in_err-put_square-2 g = search rules

pub returns-in_err-extend_from_slice : goal.returns-in_err-extend_from_slice
returns-in_err-extend_from_slice g = search rules
