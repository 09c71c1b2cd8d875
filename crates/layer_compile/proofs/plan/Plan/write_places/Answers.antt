-- Each node of a row has its index for place
use Rattle.std.proofs.Common.{◌∙◌, length, get_or, ap, arith}
use Rattle.layer_compile.specs.Rows.{is_at}
use Rattle.layer_compile.proofs.Places.{filter_place, filter_within}
use Rattle.layer_compile.proofs.PlacesOf.{few_below, written_more}
use Rattle.layer_compile.proofs.Standing.{row_below}
use Rattle.layer_compile.proofs.plan.Plan.write_places.Goals as goal

pub overflow_cast-places : goal.overflow_cast-places
overflow_cast-places c =
    let list = c.args.self.now.list.now in
    omega (arith, c.loop-i-test.true, c.requires.few, ap length (c.requires.nodes ∙ row_below list c.args.height c.requires.under), few_below (is_at list c.args.height) (length list.nodes))

pub overflow_add-places : goal.overflow_add-places
overflow_add-places c =
    let list = c.args.self.now.list.now in
    omega (arith, c.loop-i-test.true, c.requires.few, ap length (c.requires.nodes ∙ row_below list c.args.height c.requires.under), few_below (is_at list c.args.height) (length list.nodes))

pub bounds-places-k : goal.bounds-places-k
bounds-places-k c =
    let list = c.args.self.now.list.now in
    let i = c.loop-i.i in
    let p = is_at list c.args.height in
    let count = length list.nodes in
    let same = c.requires.nodes ∙ row_below list c.args.height c.requires.under in
    let inside = (filter_within p count i 0 (omega (arith, c.loop-i-test.true, ap length same))).0 in
    omega (arith, inside, ap (λ xs. get_or xs i 0) same, c.requires.capacity, c.loop-i.auto.places)

pub loop-i-preserved : goal.loop-i-preserved
loop-i-preserved c =
    let list = c.args.self.now.list.now in
    let i = c.loop-i.i in
    let same = c.requires.nodes ∙ row_below list c.args.height c.requires.under in
    written_more (is_at list c.args.height) (length list.nodes) i (get_or c.args.nodes.now i 0) c.loop-i.places (omega (arith, c.requires.capacity, c.loop-i.auto.places)) c.loop-i.invariant (omega (arith, c.loop-i-test.true, ap length same)) (ap (λ xs. get_or xs i 0) same)

pub returns : goal.returns
returns c =
    let list = c.args.self.now.list.now in
    let p = is_at list c.args.height in
    let same = c.requires.nodes ∙ row_below list c.args.height c.requires.under in
    record { each = λ k l s. c.loop-i.invariant.each k l s (omega (arith, filter_place p (length list.nodes) k l s, ap length same, c.loop-i-test.false)) }
