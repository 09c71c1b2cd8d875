use Rattle.std.proofs.Common.{ℕ, ◌-◌, Ok, ap}
use Rattle.std.proofs.lemmas.Result.{err_from_is_err_and}
use Rattle.field_ext.specs.Field.{of}
use Rattle.case_text.specs.Rules.{value_rule}
use Rattle.text_parts.specs.Parts.{Taking, ◌>>=◌, decimal_at}
use Rattle.case_text.specs.Reading.{value_at, values_at}
use Rattle.text_parts.proofs.api.Loops.{goes_on, ends, is_done, fails_on}
use Rattle.case_text.proofs.case.reading.values.Goals as goal

pub returns-in_err-number : goal.returns-in_err-number
returns-in_err-number c =
    let p = err_from_is_err_and c.from_residual-in_err-number.result c.from_residual-in_err-number.ensures.1 in
    rw (p.1, p.2) (ends value_at c.in_err-number.field-0.0 c.loop-index.values.items c.args.count c.loop-index.index c.loop-index.rest.now (values_at c.args.count c.args.bytes.now) c.loop-index-test.true
    (fails_on c.in_err-number.field-0.0 (decimal_at (value_rule (c.args.count - c.loop-index.index - 1)) c.loop-index.rest.now) (λ x. Ok (of x.0, x.1)) (rw c.value_rule.ensures at c.in_err-number.ensures)) c.loop-index.invariant)

pub loop-index-preserved : goal.loop-index-preserved
loop-index-preserved c =
    rw (c.in_ok-push.ensures.items, c.reduce.ensures, c.from.ensures) (goes_on value_at c.loop-index.values.items c.args.count c.loop-index.index c.loop-index.rest.now (of c.in_ok-number.number) c.in_ok-number.after.now (values_at c.args.count c.args.bytes.now) c.loop-index-test.true
    (ap (λ (t : Taking ℕ). t >>= λ x. Ok (of x.0, x.1)) (rw c.value_rule.ensures at c.in_ok-number.ensures)) c.loop-index.invariant)

pub returns : goal.returns
returns c = is_done value_at c.loop-index.values.items c.args.count c.loop-index.index c.loop-index.rest.now (values_at c.args.count c.args.bytes.now) c.loop-index-test.false c.loop-index.invariant
