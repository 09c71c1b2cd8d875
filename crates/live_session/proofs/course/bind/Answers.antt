-- One challenge more is bound
use Rattle.std.proofs.Common.{◌≡◌, ◌+◌, ◌-◌, ◌<◌, ◌≤◌, ◌++◌, ◌∷◌, List, ℕ, [], length, take, drop, get_or, sym, ◌∙◌, ap, arith, length-take, length-drop}
use Rattle.std.proofs.lemmas.List.{get_or-drop, take_more}
use Rattle.field_ext.specs.Field.{K}
use Rattle.circuit_core.proofs.api.Sizes.{size_of}
use Rattle.circuit_core.specs.Parts.{height}
use Rattle.gkr_prove.proofs.api.LayerSteps.{table_values}
use Rattle.gkr_prove.proofs.api.TableShapes.{table_exponent}
use Rattle.round_tables.specs.LayerSum.{LayerSum}
use Rattle.live_session.proofs.CourseSteps.{bound_more, within_at}
use Rattle.live_session.proofs.course.bind.Goals as goal

pub table-requires : goal.table-requires
table-requires g c = omega (arith, c.requires.layer, c.requires.values.1.count)

pub send-requires-clause-most : goal.send-requires-clause-most
send-requires-clause-most g c =
    let e = table_exponent c.args.circuit.now c.requires.values.0 c.args.values.now (c.args.layer + 1) c.table.result.now c.requires.values.1 (omega (arith, c.requires.layer)) c.table.ensures in
    omega (arith, e, (size_of c.args.circuit.now (c.args.layer + 1) (omega (arith, c.requires.layer))).2)

pub send-requires-clause-here : goal.send-requires-clause-here
send-requires-clause-here g c κs within = ap (λ (t : LayerSum). t.lent) c.in_ok-bind_round.ensures.bound ∙ c.requires.here

pub send-requires-clause-k : goal.send-requires-clause-k
send-requires-clause-k g c κs within =
    let e = table_exponent c.args.circuit.now c.requires.values.0 c.args.values.now (c.args.layer + 1) c.table.result.now c.requires.values.1 (omega (arith, c.requires.layer)) c.table.ensures in
    let at = within_at c.args.circuit.now.parts c.requires.values.0 c.args.words.now c.args.u c.args.layer c.args.base c.args.sent.items c.args.tables (omega (arith, c.requires.there)) (c.requires.at_stage c.requires.values.0 c.requires.values.1) in
    ap (λ (t : LayerSum). t.k) c.in_ok-bind_round.ensures.bound ∙ at.2 ∙ sym e

pub send-requires-clause-values : goal.send-requires-clause-values
send-requires-clause-values g c κs within =
    let is = c.requires.at_stage c.requires.values.0 c.requires.values.1 in
    let v : c.args.layer + 1 ≤ height c.args.circuit.now.parts = omega (arith, c.requires.layer) in
    ap (λ (t : LayerSum). t.values) (c.in_ok-bind_round.ensures.bound ∙ (λ j. record (is.tables_are j) { bound = c.args.tables.bound ++ c.index-words-u.result ∷ [] }))
    ∙ sym (table_values c.args.circuit.now.parts c.requires.values.0 c.args.values.now (c.args.layer + 1) c.table.result.now.items c.requires.values.1 v c.table.ensures)

pub send-requires-clause-drawn : goal.send-requires-clause-drawn
send-requires-clause-drawn g c κs within =
    let at = within_at c.args.circuit.now.parts c.requires.values.0 c.args.words.now c.args.u c.args.layer c.args.base c.args.sent.items c.args.tables (omega (arith, c.requires.there)) (c.requires.at_stage c.requires.values.0 c.requires.values.1) in
    let n = length c.args.tables.bound in
    let count : c.args.u + 1 - c.args.base ≡ length c.args.tables.bound + 1 = omega (arith, c.requires.at) in
    let rest : List K = drop c.args.base c.args.words.now in
    let u : length c.args.tables.bound < length (drop c.args.base c.args.words.now) = omega (arith, length-drop c.args.base c.args.words.now, c.requires.at, c.requires.there) in
    let read : get_or (drop c.args.base c.args.words.now) (length c.args.tables.bound) c.index-words-u.result ≡ c.index-words-u.result =
    get_or-drop c.args.base c.args.words.now (length c.args.tables.bound) c.index-words-u.result
    ∙ ap (λ (m : ℕ). get_or c.args.words.now m c.index-words-u.result) (sym c.requires.at)
    ∙ sym c.index-words-u.is in
    ap (λ (m : ℕ). take m rest) count ∙ take_more rest n c.index-words-u.result u
    ∙ (λ j. at.1 j ++ read j ∷ [])
    ∙ ap (λ (t : LayerSum). t.bound) (sym c.in_ok-bind_round.ensures.bound)

pub send-requires-clause-few : goal.send-requires-clause-few
send-requires-clause-few g c =
    omega (arith, length-take (c.args.u + 1 - c.args.base) (drop c.args.base c.args.words.now), c.requires.at, c.requires.left, ap (λ (t : LayerSum). t.k) c.in_ok-bind_round.ensures.bound)

pub returns : goal.returns
returns g c inputs tables =
    bound_more c.args.circuit.now.parts inputs c.args.words.now c.args.u c.args.layer c.args.base c.args.sent.items c.args.tables c.index-words-u.result c.requires.there c.index-words-u.is (c.requires.at_stage inputs tables)
    c.bind_round.new.tables c.send.new.sent.items c.in_ok-bind_round.ensures.bound c.requires.left c.in_ok-send.ensures
