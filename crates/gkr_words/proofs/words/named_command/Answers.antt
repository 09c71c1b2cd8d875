use Rattle.std.proofs.Common.{◌≡◌, ◌∙◌, [], ap, sym, subst, map, inl, inr}
use Rattle.std.specs.Prelude.{IfSome, option_and_then, string_bytes}
use Rattle.clap.specs.Simple.{is_simple}
use Rattle.clap.specs.Words.{IsAmong, fault_of, is_simple_and_free, kind_of, subcommand_of, subcommand_rows_of}
use Rattle.clap.specs.declared.error.kind.ErrorKind.TheVariants.{OutOfMemory}
use Rattle.gkr_words.specs.Commands.{HasPiece, HasWorkers, command_line, command_of_rows}
use Rattle.gkr_words.proofs.WordsRead.{command_refused, command_taken, have_piece, have_workers, line_is_free, line_is_simple, true_or_false}
use Rattle.gkr_words.proofs.words.named_command.Goals as goal

pub returns-in-Ok-clause-command : goal.returns-in-Ok-clause-command
returns-in-Ok-clause-command c =
    let words = map string_bytes c.args.words.now in
    let line_is = c.in_ok-command_line.ensures in
    let taken : fault_of command_line words ≡ [] = ap (λ a. fault_of a words) (sym line_is) ∙ c.in-Ok.ensures.kinds (ap is_simple_and_free line_is ∙ line_is_free) in
    let entered : subcommand_rows_of c.in-Ok.matches ≡ subcommand_of command_line words =
    (c.in-Ok.ensures.matches (ap is_simple line_is ∙ line_is_simple)).1 ∙ ap (λ a. subcommand_of a words) line_is in
    c.command_found.ensures ∙ (ap (option_and_then command_of_rows) entered ∙ sym (command_taken words taken))

pub returns-in-Err-2-clause-command : goal.returns-in-Err-2-clause-command
returns-in-Err-2-clause-command c =
    let words = map string_bytes c.args.words.now in
    let line_is = c.in_ok-command_line.ensures in
    elim (c.in-Err.ensures.kinds (ap is_simple_and_free line_is ∙ line_is_free)) [
      | inl memory ↦
          let same : c.kind.result ≡ OutOfMemory = c.kind.ensures ∙ memory in
          absurd (true_or_false c.eq.result (rw same at c.eq.ensures) c.if-eq.false)
      | inr among ↦ sym (command_refused words (kind_of c.in-Err.error) (subst (λ a. IsAmong (kind_of c.in-Err.error) (fault_of a words)) line_is among))
    ]

pub returns-in-Ok-clause-workers : goal.returns-in-Ok-clause-workers
returns-in-Ok-clause-workers c = subst (λ command. IfSome command HasWorkers) (sym (returns-in-Ok-clause-command c)) (have_workers (map string_bytes c.args.words.now))

pub returns-in-Ok-clause-piece : goal.returns-in-Ok-clause-piece
returns-in-Ok-clause-piece c = subst (λ command. IfSome command HasPiece) (sym (returns-in-Ok-clause-command c)) (have_piece (map string_bytes c.args.words.now))
