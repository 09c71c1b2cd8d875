-- The coordinates before the tenth are at most ten, and so are those past it
use Rattle.std.proofs.Common.{◌≤◌, length, arith, rules}
use Rattle.mle_table.proofs.api.EqualitySteps.{pow_up}
use Rattle.gkr_verify.proofs.tables.Tables.fill.Goals.{then-point-lt10, else-point-lt10}
use Rattle.gkr_verify.proofs.tables.Tables.fill.Goals as goal

pub fill_equality-requires : goal.fill_equality-requires
fill_equality-requires c =
    let first = c.split_at.result.0.now in
    let few : length first ≤ 10 = elim c.if-point-lt10.branch [ then-point-lt10 w ↦ omega arith | else-point-lt10 w ↦ omega arith ] in
    omega (arith, pow_up (length first) 10 few, c.self.inside.low_size)

pub fill_equality-requires-2 : goal.fill_equality-requires-2
fill_equality-requires-2 c =
    let rest = c.split_at.result.1.now in
    let few : length rest ≤ 10 = elim c.if-point-lt10.branch [ then-point-lt10 w ↦ omega arith | else-point-lt10 w ↦ omega arith ] in
    omega (arith, pow_up (length rest) 10 few, c.self.inside.high_size)

pub split_at-requires : goal.split_at-requires
split_at-requires g = search rules

pub whole_as_slice-fill_equality : goal.whole_as_slice-fill_equality
whole_as_slice-fill_equality g = search rules

pub whole_as_slice-fill_equality-2 : goal.whole_as_slice-fill_equality-2
whole_as_slice-fill_equality-2 g = search rules

pub invariant_of-self-inside : goal.invariant_of-self-inside
invariant_of-self-inside g = search rules

pub returns : goal.returns
returns g = search rules
