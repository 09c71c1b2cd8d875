use Rattle.std.proofs.lemmas.Grind.{common_steps}
-- The parts come back folded, and their sums are the next round's
use Rattle.std.proofs.Common.{rules, ◌≡◌, ◌+◌, ◌<◌, [], ◌∷◌, ◌++◌, IsTrue, map, length, sym, ◌∙◌, ap, arith, subst, length-append}
use Rattle.std.proofs.lemmas.List.{length-map}
use Rattle.round_tables.specs.LayerSum.{LayerSum, StaysInParts, SumToPieces}
use Rattle.table_parts.specs.PartTables.{folded_part}
use Rattle.sumcheck_prove.proofs.Handed.{handed_back, three_at, whole_message}
use Rattle.sumcheck_prove.proofs.advancing.bind_by.Goals as goal

pub added-message-requires : goal.added-message-requires
added-message-requires g c =
    three_at c.args.r c.no_message.result c.parts_out-parts.result.items c.deref-2.result.now (c.deref-2.ensures.value ∙ c.worked-jobs.ensures.jobs)

pub parts_in-requires-clause-folded : goal.parts_in-requires-clause-folded
parts_in-requires-clause-folded g c =
    let parts = c.worked-jobs.new.parts in
    let out = c.parts_out-parts in
    handed_back c.args.r c.no_message.result out.result.items c.worked-jobs.result.items c.worked-jobs.ensures.jobs
    parts.items c.unload.new.parts parts.len _ (c.unload.auto.parts ∙ c.deref_mut-2.ensures.len) c.unload.ensures.parts c.deref_mut.ensures.value
    ∙ ap (λ (s : LayerSum). map (folded_part c.args.r) s.lent) (sym out.ensures.lent)

pub returns-clause-message : goal.returns-clause-message
returns-clause-message g c =
    let out = c.parts_out-parts in
    let s = c.args.tables.now in
    let r = c.args.r in
    let here : IsTrue c.stays_in_parts-stays.result = search (c.if-not-stays.false, rules) in
    let stays : StaysInParts c.parts_out-parts.new.self = subst StaysInParts (sym out.ensures.lent) (c.stays_in_parts-stays.ensures.stays here) in
    let parts = c.worked-jobs.new.parts in
    let new = c.parts_in.new.self in
    let after : c.parts_in.new.self ≡ record c.args.tables.now { bound = c.args.tables.now.bound ++ c.args.r ∷ []; lent = [] } =
    c.parts_in.ensures.bound ∙ ap (λ (t : LayerSum). record t { bound = t.bound ++ r ∷ []; lent = [] }) out.ensures.lent in
    let left : length c.parts_in.new.self.bound < c.parts_in.new.self.k + c.parts_in.new.self.k =
    subst (λ (t : LayerSum). length t.bound < t.k + t.k) (sym after) (omega (arith, length-append s.bound (r ∷ []), c.stays_in_parts-stays.ensures.left here)) in
    let back = handed_back r c.no_message.result out.result.items c.worked-jobs.result.items c.worked-jobs.ensures.jobs
    parts.items c.unload.new.parts parts.len _ (c.unload.auto.parts ∙ c.deref_mut-2.ensures.len) c.unload.ensures.parts c.deref_mut.ensures.value in
    whole_message r c.no_message.result out.result.items c.deref-2.result.now (c.deref-2.ensures.value ∙ c.worked-jobs.ensures.jobs) new
    (sym (length-map out.result.items (folded_part r)) ∙ ap length (sym back) ∙ c.parts_in.ensures.number stays)
    (subst (SumToPieces new) back (c.parts_in.ensures.sums stays))
    c.added-message.result left c.added-message.ensures.three c.added-message.ensures.value

pub is_shared-requires-clause-here : goal.is_shared-requires-clause-here
is_shared-requires-clause-here g c = search rules

pub is_shared-requires-clause-left : goal.is_shared-requires-clause-left
is_shared-requires-clause-left g c = search rules

pub bind-requires-clause-here : goal.bind-requires-clause-here
bind-requires-clause-here g c = search rules

pub bind-requires-clause-left : goal.bind-requires-clause-left
bind-requires-clause-left g c = search rules

pub returns-then-not-is_shared-clause-bound : goal.returns-then-not-is_shared-clause-bound
returns-then-not-is_shared-clause-bound g c = search rules

pub returns-then-not-is_shared-clause-jobs : goal.returns-then-not-is_shared-clause-jobs
returns-then-not-is_shared-clause-jobs g c = search rules

pub returns-then-not-is_shared-clause-message : goal.returns-then-not-is_shared-clause-message
returns-then-not-is_shared-clause-message g c = search rules

pub stays_in_parts-stays-requires-clause-here : goal.stays_in_parts-stays-requires-clause-here
stays_in_parts-stays-requires-clause-here g c = search rules

pub stays_in_parts-stays-requires-clause-left : goal.stays_in_parts-stays-requires-clause-left
stays_in_parts-stays-requires-clause-left g c = search rules

pub parts_out-parts-requires-clause-here : goal.parts_out-parts-requires-clause-here
parts_out-parts-requires-clause-here g c = search rules

pub parts_out-parts-requires-clause-left : goal.parts_out-parts-requires-clause-left
parts_out-parts-requires-clause-left g c = search rules

pub worked-jobs-requires-clause-same : goal.worked-jobs-requires-clause-same
worked-jobs-requires-clause-same g c = search rules

pub unload-requires : goal.unload-requires
unload-requires g c = grind (arith, common_steps)

pub parts_in-requires-clause-some : goal.parts_in-requires-clause-some
parts_in-requires-clause-some g c = search rules

pub parts_in-requires-clause-left : goal.parts_in-requires-clause-left
parts_in-requires-clause-left g c = search rules

pub returns-then-not-stays-clause-bound : goal.returns-then-not-stays-clause-bound
returns-then-not-stays-clause-bound g c = search rules

pub returns-then-not-stays-clause-jobs : goal.returns-then-not-stays-clause-jobs
returns-then-not-stays-clause-jobs g c = grind (arith, common_steps)

pub returns-then-not-stays-clause-message : goal.returns-then-not-stays-clause-message
returns-then-not-stays-clause-message g c = search rules

pub returns-clause-bound : goal.returns-clause-bound
returns-clause-bound g c = search rules

pub returns-clause-jobs : goal.returns-clause-jobs
returns-clause-jobs g c = grind (arith, common_steps)
