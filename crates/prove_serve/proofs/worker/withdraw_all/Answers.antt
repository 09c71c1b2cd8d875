use Rattle.std.proofs.Common.{◌≡◌, ◌∙◌, [], refl, sym, subst, append-nil}
use Rattle.std.specs.Vec.Iter.{into_iter_items}
use Rattle.prove_serve.specs.Sound.{ActsFor, AreMarked, submitted_by}
use Rattle.prove_serve.proofs.Sounds.{by_result, first_marked, rest_marked, marked_longer}
use Rattle.prove_serve.proofs.Submitted.{prefix_trans, withdrew, was_late}
use Rattle.prove_serve.proofs.worker.withdraw_all.Goals as goal

pub loop-receipt-init : goal.loop-receipt-init
loop-receipt-init g c = record {
  of = c.requires.of;
  held = refl;
  shares = refl;
  acts = c.requires.acts;
  begins = ([], append-nil c.args.pass.now.seen);
  submits = refl;
  marked = subst (AreMarked c.args.pass.now.seen) (sym c.into_iter-receipt-iterator.ensures.into_iter_gives.0) c.requires.marked;
}

pub withdraw-withdrawn-requires-clause-submitted : goal.withdraw-withdrawn-requires-clause-submitted
withdraw-withdrawn-requires-clause-submitted g c = let m = first_marked c.loop-receipt.pass.seen c.in-Some.receipt (into_iter_items c.next.new.self) (subst (AreMarked c.loop-receipt.pass.seen) c.in-Some.ensures.steps.0 c.loop-receipt.invariant.marked) in (m.0, m.2)

pub loop-receipt-preserved : goal.loop-receipt-preserved
loop-receipt-preserved g c = let at = c.loop-receipt in let i = at.invariant in let script = c.args.script.now.value.items in
    let marked = subst (AreMarked at.pass.seen) c.in-Some.ensures.steps.0 i.marked in
    let new = c.withdraw-withdrawn.new.pass in let begins = c.withdraw-withdrawn.ensures.begins in
    let w : ActsFor script new × (submitted_by new ≡ submitted_by at.pass) × (new.shares ≡ at.pass.shares) = by_result _ c.withdraw-withdrawn.result.0 c.withdraw-withdrawn.ensures.answer
    (λ done a. withdrew script at.pass new c.in-Some.receipt.job _ i.of.legal.within (first_marked at.pass.seen c.in-Some.receipt (into_iter_items c.next.new.self) marked) i.acts a a.says_so.1)
    (λ late l. was_late script at.pass new i.of.legal.within i.acts l.0) in record {
      of = c.withdraw-withdrawn.ensures.of.0;
      held = c.withdraw-withdrawn.ensures.of.1 ∙ i.held;
      shares = w.2 ∙ i.shares;
      acts = w.0;
      begins = prefix_trans _ _ _ i.begins begins;
      submits = w.1 ∙ i.submits;
      marked = marked_longer at.pass.seen new.seen (into_iter_items c.next.new.self) begins (rest_marked at.pass.seen c.in-Some.receipt (into_iter_items c.next.new.self) marked);
    }
