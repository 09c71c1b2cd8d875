-- The first power of two that is enough is found
use Rattle.std.proofs.Common.{◌≡◌, ◌∙◌, ◌+◌, ◌^◌, ◌<◌, ◌≤◌, ℕ, sym, ap, subst, Option, None, arith}
use Rattle.std.specs.Prelude.{nat_lt, unwrap_or}
use Rattle.std.proofs.lemmas.Nat.{one_shl}
use Rattle.std.proofs.lemmas.Bool.{lt-ltb, le-ltb}
use Rattle.circuit_core.specs.Faults.{first_below, unless}
use Rattle.circuit_core.proofs.api.First.{first_below_none, first_below_more, first_below_found}
use Rattle.circuit_core.proofs.api.Faultless.{unless_true, unless_false}
use Rattle.layer_compile.proofs.sizes.size_for.Goals as goal

-- the exponents that are enough
enough : ℕ → ℕ → Option ℕ
enough positions j = unless (nat_lt (2 ^ (j + 1)) positions) (j + 1)

pub loop-j-init : goal.loop-j-init
unfolding enough
loop-j-init c = first_below_none (enough c.args.positions)

pub loop-j-preserved : goal.loop-j-preserved
unfolding enough
loop-j-preserved c =
    let j = c.loop-j.j in
    let size = one_shl (j + 1) 64 (omega arith) in
    let less : 2 ^ (j + 1) < c.args.positions = subst (λ size. size < c.args.positions) size c.if-positions-j.false in
    first_below_more (enough c.args.positions) j c.loop-j.invariant (unless_true _ _ (lt-ltb _ _ less))

pub returns-then-positions-j : goal.returns-then-positions-j
unfolding enough
returns-then-positions-j c =
    let j = c.loop-j.j in
    let size = one_shl (j + 1) 64 (omega arith) in
    let holds : c.args.positions ≤ 2 ^ (j + 1) = subst (λ size. c.args.positions ≤ size) size c.if-positions-j.true in
    let first = first_below_found (enough c.args.positions) j 20 (j + 1) (omega arith) c.loop-j.invariant (unless_false _ _ (le-ltb _ _ holds)) in
    size ∙ ap (λ o. 2 ^ unwrap_or o 20) (sym first)

pub returns : goal.returns
unfolding enough
returns c =
    let all : c.loop-j.j ≡ 20 = omega arith in
    let none = subst (λ j. first_below j (enough c.args.positions) ≡ None) all c.loop-j.invariant in
    ap (λ o. 2 ^ unwrap_or o 20) (sym none)
