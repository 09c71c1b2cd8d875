use Rattle.std.proofs.Common.{[], ◌∷◌, codes}
use Rattle.std.proofs.lemmas.Result.{IfOk-weaker}
use Rattle.gkr_words.specs.Commands.{demo_number, piece_option, serve_shape, subcommand, workers_option}
use Rattle.gkr_words.proofs.Lines.{with_line}
use Rattle.gkr_words.proofs.words.command_line.Goals as goal

pub returns : goal.returns
returns c =
    let seven = with_line _ (subcommand (codes "demo") (demo_number ∷ workers_option ∷ [])) c.in_ok-subcommand.ensures c.in_ok-demo_line.ensures.local c.in_ok-line_of_six.ensures c.in_ok-demo_line.ensures.line in
    let eight = with_line _ serve_shape c.in_ok-subcommand-2.ensures c.in_ok-serve_line.ensures.local seven c.in_ok-serve_line.ensures.line in
    IfOk-weaker c.subcommand-3.result _ _ (λ line added. with_line _ (subcommand (codes "session") (piece_option ∷ workers_option ∷ [])) added c.in_ok-session_line.ensures.local eight c.in_ok-session_line.ensures.line) c.subcommand-3.ensures
