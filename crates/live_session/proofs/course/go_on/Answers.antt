-- Each stage, by one challenge more
use Rattle.std.proofs.Common.{◌≡◌, ◌+◌, ◌<◌, ◌++◌, [], List, ℕ, take, refl, sym, ap, subst, arith, length-take}
use Rattle.std.specs.List.{flat_map}
use Rattle.std.proofs.lemmas.Result.{IfOk-weaker}
use Rattle.field_ext.specs.Bytes.{bytes_of}
use Rattle.circuit_core.proofs.api.Faultless.{height_bounds, none_from_test}
use Rattle.circuit_core.specs.Parts.{height}
use Rattle.circuit_core.specs.Sound.{exponent_at}
use Rattle.gkr_layers.specs.Places.Place.{At}
use Rattle.round_tables.specs.LayerSum.{LayerSum}
use Rattle.live_session.specs.Begun.{message_due}
use Rattle.live_session.specs.ProverState.{IsStage, IsWithin, tables_at}
use Rattle.live_session.proofs.CourseSteps.{begun, stands_in, within_at}
use Rattle.live_session.proofs.course.go_on.Goals as goal

pub returns-then-u-k : goal.returns-then-u-k
returns-then-u-k g c inputs tables =
    let o = c.args.course in
    let before = subst (IsStage c.args.circuit.now.parts inputs (take c.args.u c.args.words.now) o.layer o.base o.sent.items) c.in-Before.is (c.requires.at_stage inputs tables) in
    record {
      few = omega (arith, length-take (c.args.u + 1) c.args.words.now, c.if-u-k.true, c.coordinates-k.ensures.value, c.requires.there);
      nothing = before.nothing;
    }

pub returns-else-u-k : goal.returns-else-u-k
returns-else-u-k g c =
    let o = c.args.course in
    let p = c.args.circuit.now.parts in
    let k₀ : ℕ = exponent_at c.args.circuit.now.parts 0 in
    let coords : c.coordinates-k.result ≡ k₀ = c.coordinates-k.ensures.value in
    let above : 0 < height c.args.circuit.now.parts = omega (arith, (height_bounds c.args.circuit.now.parts (none_from_test _ c.args.circuit.now.faultless)).0) in
    let place = At (take c.coordinates-k.result c.args.words.now) in
    let same : At (take c.coordinates-k.result c.args.words.now) ≡ At (take k₀ c.args.words.now) = ap (λ (n : ℕ). At (take n c.args.words.now)) coords in
    IfOk-weaker c.begin.result _ _
    (λ next into inputs tables.
    let before = subst (IsStage c.args.circuit.now.parts inputs (take c.args.u c.args.words.now) o.layer o.base o.sent.items) c.in-Before.is (c.requires.at_stage inputs tables) in
    let last : c.args.u + 1 ≡ k₀ = omega (arith, length-take c.args.u c.args.words.now, before.few, c.if-u-k.false, coords, c.requires.there) in
    let sent' : List ℕ = o.sent.items ++ flat_map bytes_of (message_due (tables_at p inputs 0 place [])) in
    stands_in p inputs (take (c.args.u + 1) c.args.words.now) next 0 c.coordinates-k.result sent' (tables_at p inputs 0 place []) (into inputs tables)
    (subst (λ (n : ℕ). IsWithin p inputs (take (c.args.u + 1) c.args.words.now) 0 n sent' (tables_at p inputs 0 place [])) (sym coords)
    (begun p inputs c.args.words.now c.args.u place o.sent.items sent' c.requires.there last above before.nothing same refl)))
    c.begin.ensures

pub returns-in-After : goal.returns-in-After
returns-in-After g c inputs tables =
    let o = c.args.course in
    let after = subst (IsStage c.args.circuit.now.parts inputs (take c.args.u c.args.words.now) o.layer o.base o.sent.items) c.in-After.is (c.requires.at_stage inputs tables) in
    absurd (omega (arith, after.all, length-take c.args.u c.args.words.now, c.requires.there, c.requires.few))

pub rounds_left-requires : goal.rounds_left-requires
rounds_left-requires g c =
    let o = c.args.course in
    let is = subst (IsStage c.args.circuit.now.parts c.requires.values.0 (take c.args.u c.args.words.now) o.layer o.base o.sent.items) c.in-Within.is (c.requires.at_stage c.requires.values.0 c.requires.values.1) in
    ap (λ (t : LayerSum). t.lent) is.tables_are

pub bind-requires-clause-at_stage : goal.bind-requires-clause-at_stage
bind-requires-clause-at_stage g c κs within =
    let o = c.args.course in
    λ inputs tables. subst (IsStage c.args.circuit.now.parts inputs (take c.args.u c.args.words.now) o.layer o.base o.sent.items) c.in-Within.is (c.requires.at_stage inputs tables)

pub bind-requires-clause-layer : goal.bind-requires-clause-layer
bind-requires-clause-layer g c κs within =
    let o = c.args.course in
    let is = subst (IsStage c.args.circuit.now.parts c.requires.values.0 (take c.args.u c.args.words.now) o.layer o.base o.sent.items) c.in-Within.is (c.requires.at_stage c.requires.values.0 c.requires.values.1) in
    is.above

pub bind-requires-clause-here : goal.bind-requires-clause-here
bind-requires-clause-here g c κs within =
    let o = c.args.course in
    let is = subst (IsStage c.args.circuit.now.parts c.requires.values.0 (take c.args.u c.args.words.now) o.layer o.base o.sent.items) c.in-Within.is (c.requires.at_stage c.requires.values.0 c.requires.values.1) in
    ap (λ (t : LayerSum). t.lent) is.tables_are

pub bind-requires-clause-at : goal.bind-requires-clause-at
bind-requires-clause-at g c κs within =
    let o = c.args.course in
    let is = subst (IsStage c.args.circuit.now.parts c.requires.values.0 (take c.args.u c.args.words.now) o.layer o.base o.sent.items) c.in-Within.is (c.requires.at_stage c.requires.values.0 c.requires.values.1) in
    (within_at c.args.circuit.now.parts c.requires.values.0 c.args.words.now c.args.u o.layer o.base o.sent.items c.in-Within.tables (omega (arith, c.requires.there)) is).0

pub descend-requires-clause-at_stage : goal.descend-requires-clause-at_stage
descend-requires-clause-at_stage g c κs within =
    let o = c.args.course in
    λ inputs tables. subst (IsStage c.args.circuit.now.parts inputs (take c.args.u c.args.words.now) o.layer o.base o.sent.items) c.in-Within.is (c.requires.at_stage inputs tables)

pub descend-requires-clause-layer : goal.descend-requires-clause-layer
descend-requires-clause-layer g c κs within =
    let o = c.args.course in
    let is = subst (IsStage c.args.circuit.now.parts c.requires.values.0 (take c.args.u c.args.words.now) o.layer o.base o.sent.items) c.in-Within.is (c.requires.at_stage c.requires.values.0 c.requires.values.1) in
    is.above

pub descend-requires-clause-here : goal.descend-requires-clause-here
descend-requires-clause-here g c κs within =
    let o = c.args.course in
    let is = subst (IsStage c.args.circuit.now.parts c.requires.values.0 (take c.args.u c.args.words.now) o.layer o.base o.sent.items) c.in-Within.is (c.requires.at_stage c.requires.values.0 c.requires.values.1) in
    ap (λ (t : LayerSum). t.lent) is.tables_are

pub descend-requires-clause-at : goal.descend-requires-clause-at
descend-requires-clause-at g c κs within =
    let o = c.args.course in
    let is = subst (IsStage c.args.circuit.now.parts c.requires.values.0 (take c.args.u c.args.words.now) o.layer o.base o.sent.items) c.in-Within.is (c.requires.at_stage c.requires.values.0 c.requires.values.1) in
    (within_at c.args.circuit.now.parts c.requires.values.0 c.args.words.now c.args.u o.layer o.base o.sent.items c.in-Within.tables (omega (arith, c.requires.there)) is).0

pub descend-requires-clause-k : goal.descend-requires-clause-k
descend-requires-clause-k g c κs within =
    let o = c.args.course in
    let is = subst (IsStage c.args.circuit.now.parts c.requires.values.0 (take c.args.u c.args.words.now) o.layer o.base o.sent.items) c.in-Within.is (c.requires.at_stage c.requires.values.0 c.requires.values.1) in
    (within_at c.args.circuit.now.parts c.requires.values.0 c.args.words.now c.args.u o.layer o.base o.sent.items c.in-Within.tables (omega (arith, c.requires.there)) is).2
