use Rattle.std.proofs.Common.{◌∙◌, sym, subst, arith}
use Rattle.job_table.specs.History.{Has, Submits}
use Rattle.prove_serve.proofs.Sounds.{by_none, acts_looks, acts_adds, right_take, right_finish}
use Rattle.prove_serve.proofs.Submitted.{prefix_trans, submits_looks, submits_adds, takes_none, finishes_none}
use Rattle.prove_serve.proofs.worker.answer_one.Goals as goal

pub finish-requires-clause-case : goal.finish-requires-clause-case
finish-requires-clause-case g c = let a = rw c.in-Some.is at c.take-taken.ensures.answer in
    subst (λ t. Has c.take-taken.new.pass.seen (Submits t.job t.case)) (sym c.in-Some.ticket-is) a.1

pub returns-in_default-clause-acts : goal.returns-in_default-clause-acts
returns-in_default-clause-acts g c = acts_looks c.args.script.now.value.items c.args.pass.now c.take-taken.new.pass c.requires.of.legal.within (by_none _ _ c.take-taken.ensures.answer c.in_default.not-Some).0 c.requires.acts

pub returns-in_default-clause-submits : goal.returns-in_default-clause-submits
returns-in_default-clause-submits g c = submits_looks c.args.pass.now c.take-taken.new.pass c.requires.of.legal.within (by_none _ _ c.take-taken.ensures.answer c.in_default.not-Some).0

pub returns-clause-acts : goal.returns-clause-acts
returns-clause-acts g c = let a = rw c.in-Some.is at c.take-taken.ensures.answer in let add = a.0 in let end = c.finish.ensures.adds in let script = c.args.script.now.value.items in
    let taken = acts_adds script c.args.pass.now c.take-taken.new.pass _ c.requires.of.legal.within add (right_take script c.take-taken.new.pass.seen add.event _ add.says_so.1) c.requires.acts in
    acts_adds script c.take-taken.new.pass c.finish.new.pass _ c.take-taken.ensures.of.legal.within end (right_finish script c.finish.new.pass.seen end.event _ _ end.says_so) taken

pub returns-clause-begins : goal.returns-clause-begins
returns-clause-begins g c = prefix_trans c.args.pass.now.seen c.take-taken.new.pass.seen c.finish.new.pass.seen c.take-taken.ensures.begins c.finish.ensures.begins

pub returns-clause-submits : goal.returns-clause-submits
returns-clause-submits g c = let a = rw c.in-Some.is at c.take-taken.ensures.answer in let add = a.0 in let end = c.finish.ensures.adds in
    let one = submits_adds c.args.pass.now c.take-taken.new.pass _ c.requires.of.legal.within add in let x = takes_none add.event _ add.says_so.1 in
    let two = submits_adds c.take-taken.new.pass c.finish.new.pass _ c.take-taken.ensures.of.legal.within end in let y = finishes_none end.event _ _ end.says_so in omega arith

pub returns-clause-shares : goal.returns-clause-shares
returns-clause-shares g c = let a = rw c.in-Some.is at c.take-taken.ensures.answer in let add = a.0 in let end = c.finish.ensures.adds in end.same.1 ∙ add.same.1
