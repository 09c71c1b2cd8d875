-- To the layer below, or to the end
use Rattle.std.proofs.Common.{◌≡◌, ◌+◌, ◌-◌, ◌++◌, ℕ, [], length, take, drop, refl, ◌∙◌, ap, arith, length-take, length-drop}
use Rattle.std.specs.List.{flat_map}
use Rattle.std.proofs.lemmas.Result.{IfOk-weaker}
use Rattle.field_ext.specs.Bytes.{bytes_of}
use Rattle.field_ext.specs.Field.{k_ops}
use Rattle.circuit_core.specs.Sound.{exponent_at}
use Rattle.gkr_layers.specs.Forms.{place_between}
use Rattle.gkr_layers.specs.ClaimPlace.{place_of}
use Rattle.proof_wire.specs.declared.form.ProofForm.TheVariants.{Line}
use Rattle.live_session.proofs.CourseSteps.{below_place_is, ended, go_down, over_below, stands_in, within_at}
use Rattle.live_session.specs.Begun.{message_due}
use Rattle.live_session.specs.ProverState.{tables_at}
use Rattle.live_session.proofs.course.descend.Goals as goal

pub split_at-requires : goal.split_at-requires
split_at-requires g c =
    omega (arith, length-take (c.args.u - c.args.base) (drop c.args.base c.args.words.now), length-drop c.args.base c.args.words.now, c.requires.at, c.requires.there, c.requires.k, c.requires.bound, c.coordinates.ensures.value)

pub between-requires : goal.between-requires
between-requires g c =
    omega (arith, length-take (c.args.u - c.args.base) (drop c.args.base c.args.words.now), length-drop c.args.base c.args.words.now, c.requires.at, c.requires.there, c.requires.k, c.requires.bound, c.coordinates.ensures.value, c.split_at.ensures.front_len, c.split_at.ensures.back_len)

pub returns-then-layer-height : goal.returns-then-layer-height
returns-then-layer-height g c inputs tables =
    ended c.args.circuit.now.parts inputs c.args.words.now c.args.u c.args.layer c.args.base c.args.sent.items c.args.tables c.index-words-u.result c.requires.there c.index-words-u.is (c.requires.at_stage inputs tables) c.requires.bound
    (omega (arith, c.if-layer-height.true, c.height.ensures))

pub begin-requires-clause-layer : goal.begin-requires-clause-layer
begin-requires-clause-layer g c = omega (arith, c.requires.layer, c.if-layer-height.false, c.height.ensures)

pub begin-requires-clause-place : goal.begin-requires-clause-place
begin-requires-clause-place g c κs within =
    let p = c.args.circuit.now.parts in
    let inputs = c.requires.values.0 in
    let is = c.requires.at_stage c.requires.values.0 c.requires.values.1 in
    let at = within_at p inputs c.args.words.now c.args.u c.args.layer c.args.base c.args.sent.items c.args.tables (omega (arith, c.requires.there)) is in
    let k : ℕ = exponent_at c.args.circuit.now.parts (c.args.layer + 1) in
    let from : c.args.u - c.args.base ≡ length c.args.tables.bound = omega (arith, c.requires.at) in
    let bound : take (c.args.u - c.args.base) (drop c.args.base c.args.words.now) ≡ c.args.tables.bound = ap (λ (n : ℕ). take n (drop c.args.base c.args.words.now)) from ∙ at.1 in
    let left : c.split_at.result.0.now ≡ take k c.args.tables.bound = c.split_at.ensures.front ∙ (λ j. take (c.coordinates.ensures.value j) (bound j)) in
    let right : c.split_at.result.1.now ≡ drop k c.args.tables.bound = c.split_at.ensures.back ∙ (λ j. drop (c.coordinates.ensures.value j) (bound j)) in
    let place : place_of c.claim_place.result ≡ place_between k_ops Line (take k c.args.tables.bound) (drop k c.args.tables.bound) c.index-words-u.result =
    c.claim_place.ensures ∙ c.in_ok-place.ensures ∙ (λ j. place_between k_ops Line (left j) (right j) c.index-words-u.result) in
    over_below p inputs c.args.words.now c.args.u c.args.layer c.args.base c.args.sent.items c.args.tables c.index-words-u.result c.requires.there c.index-words-u.is is c.requires.bound (place_of c.claim_place.result)
    (below_place_is p inputs c.args.words.now c.args.u c.args.layer c.args.base c.args.sent.items c.args.tables c.index-words-u.result c.requires.there c.index-words-u.is is c.requires.bound (place_of c.claim_place.result) place)

pub returns : goal.returns
returns g c =
    let p = c.args.circuit.now.parts in
    let k : ℕ = exponent_at c.args.circuit.now.parts (c.args.layer + 1) in
    let from : c.args.u - c.args.base ≡ length c.args.tables.bound = omega (arith, c.requires.at) in
    IfOk-weaker c.begin.result _ _
    (λ next into inputs tables.
    let is = c.requires.at_stage inputs tables in
    let at = within_at p inputs c.args.words.now c.args.u c.args.layer c.args.base c.args.sent.items c.args.tables (omega (arith, c.requires.there)) is in
    let bound : take (c.args.u - c.args.base) (drop c.args.base c.args.words.now) ≡ c.args.tables.bound = ap (λ (n : ℕ). take n (drop c.args.base c.args.words.now)) from ∙ at.1 in
    let left : c.split_at.result.0.now ≡ take k c.args.tables.bound = c.split_at.ensures.front ∙ (λ j. take (c.coordinates.ensures.value j) (bound j)) in
    let right : c.split_at.result.1.now ≡ drop k c.args.tables.bound = c.split_at.ensures.back ∙ (λ j. drop (c.coordinates.ensures.value j) (bound j)) in
    let place : place_of c.claim_place.result ≡ place_between k_ops Line (take k c.args.tables.bound) (drop k c.args.tables.bound) c.index-words-u.result =
    c.claim_place.ensures ∙ c.in_ok-place.ensures ∙ (λ j. place_between k_ops Line (left j) (right j) c.index-words-u.result) in
    let below = below_place_is p inputs c.args.words.now c.args.u c.args.layer c.args.base c.args.sent.items c.args.tables c.index-words-u.result c.requires.there c.index-words-u.is is c.requires.bound (place_of c.claim_place.result) place in
    stands_in p inputs (take (c.args.u + 1) c.args.words.now) next (c.args.layer + 1) (c.args.u + 1)
    (c.args.sent.items ++ flat_map bytes_of (message_due (tables_at p inputs (c.args.layer + 1) (place_of c.claim_place.result) [])))
    (tables_at p inputs (c.args.layer + 1) (place_of c.claim_place.result) []) (into inputs tables)
    (go_down p inputs c.args.words.now c.args.u c.args.layer c.args.base c.args.sent.items c.args.tables c.index-words-u.result c.requires.there c.index-words-u.is is c.requires.bound (place_of c.claim_place.result)
    (c.args.sent.items ++ flat_map bytes_of (message_due (tables_at p inputs (c.args.layer + 1) (place_of c.claim_place.result) []))) below (omega (arith, c.requires.layer, c.if-layer-height.false, c.height.ensures)) refl))
    c.begin.ensures
