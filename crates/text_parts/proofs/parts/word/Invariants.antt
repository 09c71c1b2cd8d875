use Rattle.std.proofs.Common.{◌≡◌, drop}
use Rattle.text_parts.specs.Parts.{word_at}
use Rattle.text_parts.proofs.parts.word.Given as goal

abbrev pub invariant-loop-expected : goal.invariant-loop-expected
invariant-loop-expected l = word_at l.kind (drop l.expected-index l.word) l.rest ≡ word_at l.kind l.word l.bytes
