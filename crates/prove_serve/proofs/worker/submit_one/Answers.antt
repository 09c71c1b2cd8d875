use Rattle.prove_serve.specs.Sound.{ActsFor, Offers}
use Rattle.prove_serve.proofs.Sounds.{acts_adds, acts_looks, by_result, marked_kept, right_submit}
use Rattle.prove_serve.proofs.Submitted.{offers_full, offers_made}
use Rattle.prove_serve.proofs.worker.submit_one.Goals as goal

pub returns-clause-acts : goal.returns-clause-acts
returns-clause-acts g c = let old = c.args.pass.now in let new = c.submit-submitted.new.pass in let script = c.args.script.now.value.items in
    by_result (ActsFor script new) c.submit-submitted.result.0 c.submit-submitted.ensures.answer
    (λ receipt a. acts_adds script old new _ c.requires.of.legal.within a.0 (right_submit script new.seen a.0.event receipt.job c.args.job c.requires.job a.0.says_so.1) c.requires.acts)
    (λ full l. acts_looks script old new c.requires.of.legal.within l.0 c.requires.acts)

pub returns-clause-offers : goal.returns-clause-offers
returns-clause-offers g c = let old = c.args.pass.now in let new = c.submit-submitted.new.pass in
    by_result (Offers c.args.job old new) c.submit-submitted.result.0 c.submit-submitted.ensures.answer
    (λ receipt a. offers_made c.args.table.now old new c.args.job receipt.job c.requires.of c.submit-submitted.ensures.of.0 a.0 a.1)
    (λ full l. offers_full c.args.table.now old new c.args.job c.requires.of c.submit-submitted.ensures.of.0 l.0 l.3)

pub returns-clause-marked : goal.returns-clause-marked
returns-clause-marked g c = let old = c.args.pass.now in let new = c.submit-submitted.new.pass in
    marked_kept old.seen new.seen c.args.receipts.now.items c.keep.new.receipts.items c.args.job c.submit-submitted.result.0 c.submit-submitted.ensures.begins c.requires.marked
    (λ r is. let a = rw is at c.submit-submitted.ensures.answer in a.1) c.keep.ensures.kept
