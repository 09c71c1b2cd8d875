-- Each fault where it comes
use Rattle.std.proofs.Common.{rules, ◌≡◌, ◌*◌, ℕ, length, get_or, sym, ap, arith}
use Rattle.live_session.specs.Elements.{leading}
use Rattle.live_session.proofs.api.ElementSteps.{leading-most}
use Rattle.live_session.proofs.api.ProverSteps.{told_end, told_extra, told_last}
use Rattle.live_session.proofs.prover.stop_at.Goals as goal

pub returns-then-byte-gt1 : goal.returns-then-byte-gt1
returns-then-byte-gt1 c =
    let due = c.args.due in
    let bytes = c.args.intake.now.bytes in
    let words : length (leading c.args.due c.args.intake.now.bytes) ≡ c.args.due =
    omega (arith, c.if-words-due.false, ap length c.elements-words.ensures, ap (λ (m : ℕ). length (leading m bytes)) c.requires.most, leading-most due bytes) in
    sym (told_last due (length (leading due bytes)) (length bytes) (get_or bytes (8 * due) 0) words (omega (arith, c.if-byte-gt1.true, c.byte.ensures)))

pub returns-then-fed-due : goal.returns-then-fed-due
returns-then-fed-due c =
    let due = c.args.due in
    let bytes = c.args.intake.now.bytes in
    let words : length (leading c.args.due c.args.intake.now.bytes) ≡ c.args.due =
    omega (arith, c.if-words-due.false, ap length c.elements-words.ensures, ap (λ (m : ℕ). length (leading m bytes)) c.requires.most, leading-most due bytes) in
    sym (told_extra due (length (leading due bytes)) (length bytes) (get_or bytes (8 * due) 0) words (omega (arith, c.if-byte-gt1.false, c.byte.ensures)) (omega (arith, c.if-fed-due.true, c.len-fed.ensures)))

pub returns : goal.returns
returns c =
    let due = c.args.due in
    let bytes = c.args.intake.now.bytes in
    let words : length (leading c.args.due c.args.intake.now.bytes) ≡ c.args.due =
    omega (arith, c.if-words-due.false, ap length c.elements-words.ensures, ap (λ (m : ℕ). length (leading m bytes)) c.requires.most, leading-most due bytes) in
    sym (told_end due (length (leading due bytes)) (length bytes) (get_or bytes (8 * due) 0) words (omega (arith, c.if-byte-gt1.false, c.byte.ensures)) (omega (arith, c.if-fed-due.false, c.len-fed.ensures)))

pub returns-then-words-due : goal.returns-then-words-due
returns-then-words-due c = search rules
