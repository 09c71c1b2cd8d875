use Rattle.std.proofs.Common.{◌<◌, ◌^◌, sym, ◌∙◌, arith}
use Rattle.std.proofs.lemmas.Bool.{both_ways}
use Rattle.std.proofs.lemmas.Slice.Eq.{bytes_eq-Decides}
use Rattle.std.specs.Str.{bytes_eq}
use Rattle.gkr_words.proofs.Numbers.{misspelled, number_taken}
use Rattle.gkr_words.proofs.words.number_of.Goals as goal

pub returns-then-eq : goal.returns-then-eq
returns-then-eq c =
    let same = (bytes_eq-Decides c.format.result.now c.args.word.now).0 (sym c.eq.ensures ∙ c.if-eq.true) in
    let read = c.in-Ok.ensures.value.0 in
    let fits : c.in-Ok.number < 2 ^ 32 = omega (arith, read.0.1, read.1) in
    sym (number_taken c.args.word.now c.in-Ok.number fits (sym same ∙ c.format.ensures.text))

pub returns-else-eq : goal.returns-else-eq
returns-else-eq c =
    sym (misspelled c.args.word.now c.parse.result c.in-Ok.number c.parse.ensures.value.0 c.in-Ok.is
    (λ spelled. both_ways (bytes_eq c.format.result.now c.args.word.now) (sym c.eq.ensures ∙ c.if-eq.false)
    ((bytes_eq-Decides c.format.result.now c.args.word.now).1 (c.format.ensures.text ∙ sym spelled))))
