use Rattle.std.proofs.Common.{rules, arith}
use Rattle.case_text.proofs.api.HexWriting.{lower_is_hex}
use Rattle.case_text.proofs.case.writing.hex_text.Goals as goal

pub returns-clause-hex : goal.returns-clause-hex
returns-clause-hex c = lower_is_hex c.args.bytes.now (λ i. let f = c.type_inv.bytes i in omega arith)

pub returns-clause-text : goal.returns-clause-text
returns-clause-text c = search rules
