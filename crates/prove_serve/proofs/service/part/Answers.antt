use Rattle.std.proofs.Common.{◌≡◌, sym, ap, subst, arith}
use Rattle.tallies.specs.Tallies.{times}
use Rattle.prove_serve.specs.Sound.{ActsFor, submitted_by}
use Rattle.prove_serve.proofs.service.part.Goals as goal

pub returns-clause-acts : goal.returns-clause-acts
returns-clause-acts g c = let script = c.args.script.now.value.items in (
  subst (λ v. ActsFor script v) (sym c.split.ensures.kept) c.requires.acts,
  λ p e at own. let none : times p c.split.result.mine ≡ 0 = ap (λ v. times p v.mine) c.split.ensures.given in absurd (omega arith),
)

pub returns-clause-none : goal.returns-clause-none
returns-clause-none g c = (
  subst (λ v. submitted_by v ≡ 0) (sym c.split.ensures.kept) c.requires.none,
  ap (λ v. submitted_by v) c.split.ensures.given,
)
