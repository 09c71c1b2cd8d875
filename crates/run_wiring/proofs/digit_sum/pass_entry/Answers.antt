-- An entry goes on by both digits
use Rattle.std.proofs.Common.{◌∙◌}
use Rattle.run_wiring.specs.Entries.{weighed, before_column, carries_of}
use Rattle.run_wiring.proofs.Entries.{nothing_passed, both_passed}
use Rattle.run_wiring.proofs.digit_sum.pass_entry.Goals as goal

pub returns-then-equals-clause-sums : goal.returns-then-equals-clause-sums
returns-then-equals-clause-sums g c of =
    nothing_passed c.args.value (before_column c.args.column.now of (carries_of c.args.entry)) (weighed c.args.next.now of) (c.equals.ensures.equal.0 c.if-equals.true ∙ c.zero.ensures)

pub returns-clause-sums : goal.returns-clause-sums
returns-clause-sums g c of =
    both_passed c.args.column.now of c.of-from.result (carries_of c.args.entry) c.args.value (weighed c.args.next.now of) (weighed c.pass_on.new.next of) (weighed c.pass_on-2.new.next of)
    c.of-from.ensures.value (c.pass_on.ensures of) (c.pass_on-2.ensures of)
