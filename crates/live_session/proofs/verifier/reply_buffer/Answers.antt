-- The bytes of all words, and one more
use Rattle.std.proofs.Common.{◌≡◌, ◌*◌, [], ◌∷◌, length, take, arith, ap, ◌∙◌, length-append}
use Rattle.std.specs.List.{flat_map}
use Rattle.std.proofs.lemmas.List.{take_all, take_at}
use Rattle.field_ext.specs.Bytes.{bytes_of}
use Rattle.proof_wire.proofs.api.Lengths.{bytes_length as length-bytes}
use Rattle.live_session.proofs.verifier.reply_buffer.Goals as goal

pub returns-clause-size : goal.returns-clause-size
returns-clause-size c =
    let all : c.loop-word.reply.items ≡ flat_map bytes_of c.args.words.now = c.loop-word.invariant ∙ ap (flat_map bytes_of) (take_all c.loop-word.word-index c.args.words.now (omega (arith, c.loop-word-test.false))) in
    omega (arith, ap length c.in_ok-push.ensures.items, length-append c.loop-word.reply.items (0 ∷ []), ap length all, length-bytes c.args.words.now)

pub returns-clause-words : goal.returns-clause-words
returns-clause-words c =
    let all : c.loop-word.reply.items ≡ flat_map bytes_of c.args.words.now = c.loop-word.invariant ∙ ap (flat_map bytes_of) (take_all c.loop-word.word-index c.args.words.now (omega (arith, c.loop-word-test.false))) in
    ap (take (8 * length c.args.words.now)) c.in_ok-push.ensures.items
    ∙ take_at c.loop-word.reply.items (0 ∷ []) (8 * length c.args.words.now) (omega (arith, ap length all, length-bytes c.args.words.now)) ∙ all
