-- All values are passed
use Rattle.std.proofs.Common.{arith}
use Rattle.field_ext.specs.Field.{embed_k, zero_k, of}
use Rattle.mle_table.proofs.api.Written.{written}
use Rattle.mle_table.proofs.values.embed_into.Goals as goal

pub returns : goal.returns
returns c =
    written embed_k c.args.values.now c.loop-i.items (of 0) zero_k (omega (arith, c.requires, c.loop-i.auto.items))
    (λ k l. c.loop-i.invariant k (omega (arith, l, c.loop-i-test.false)))
