-- The eight bytes at a place are an element or not
use Rattle.std.proofs.Common.{◌*◌, take, drop, arith, ap, length-drop, ◌∙◌}
use Rattle.std.proofs.lemmas.List.{take_rest}
use Rattle.live_session.proofs.api.ElementSteps.{read}
use Rattle.live_session.proofs.intake.element_at.Goals as goal

pub returns : goal.returns
returns c = read c.from_bytes.result c.in_ok-first_chunk.field-0.now (drop (8 * c.args.i) c.args.bytes.now) (omega (arith, length-drop (8 * c.args.i) c.args.bytes.now, c.if-bytes-i.false)) (c.in_ok-first_chunk.ensures.cases.same ∙ ap (take 8) (take_rest c.args.bytes.now (8 * c.args.i))) c.from_bytes.ensures.some c.from_bytes.ensures.value
