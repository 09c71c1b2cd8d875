-- The history of a script's jobs.
use Rattle.std.specs.Prelude.{ℕ, ◌+◌, Bool, true, false, cond, List, [], ◌∷◌}
use Rattle.case_text.specs.Served.{Served}
use Rattle.case_text.specs.declared.reply.history.HistoryLine.{HistoryLine}
use Rattle.case_text.specs.declared.reply.history.HistoryLine.TheVariants.{Submit, Take, Finish, Withdraw}

-- the replies to the jobs, in the script's order, and what happened to them, in order too
pub record History : Type 0 where
  pub jobs : List Served
  pub lines : List HistoryLine

abbrev pub is_withdrawal : HistoryLine → Bool
is_withdrawal (Submit job place) = false
is_withdrawal (Take job) = false
is_withdrawal (Finish job) = false
is_withdrawal (Withdraw job) = true

-- how many jobs were withdrawn
abbrev pub withdrawn_count : List HistoryLine → ℕ
withdrawn_count [] = 0
withdrawn_count (line ∷ lines) = cond (is_withdrawal line) 1 0 + withdrawn_count lines
