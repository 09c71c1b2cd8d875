-- What was summed ahead, at the piece's place
use Rattle.std.proofs.Common.{arith}
use Rattle.sumcheck_prove.proofs.Ahead.{all_ahead, as_many, read_ahead}
use Rattle.sumcheck_prove.proofs.message.piece_message.Goals as goal

pub index-requires : goal.index-requires
index-requires g c = let all = all_ahead c.args.tables.now c.args.ahead.now c.in-Some.sums c.in-Some.is c.requires.ahead in let lt = c.requires.piece in omega (arith, as_many c.args.tables.now c.in-Some.sums.items all)

pub returns-in-Some : goal.returns-in-Some
returns-in-Some g c = read_ahead c.args.tables.now c.in-Some.sums.items c.args.piece c.index.result.now (all_ahead c.args.tables.now c.args.ahead.now c.in-Some.sums c.in-Some.is c.requires.ahead) c.requires.piece c.index.ensures
