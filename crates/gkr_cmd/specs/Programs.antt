-- How a process ends.
use Rattle.std.specs.Prelude.{◌≡◌, ℕ, List}
use Rattle.gkr_cmd.specs.declared.program.NoWords.{NoWords}
use Rattle.gkr_cmd.specs.declared.program.NoWords.TheVariants.{Memory, Unreadable}
use Rattle.gkr_cmd.specs.declared.status.Status.{Status}
use Rattle.gkr_cmd.specs.Headline.{Ends, KeepsPromises}
use Rattle.gkr_cmd.specs.Replies.{code_of}

-- the number that it ends with where its words can't be had
abbrev pub code_without : NoWords → ℕ
code_without Memory = 9
code_without Unreadable = 11

-- A process that ended with this number ran these words, and the number is that of the status of
-- the run, which keeps all promises of a run.
pub record EndsRun (number : ℕ) (words : List (List ℕ)) (before after : Ends) : Type 0 where
  pub status : Status
  pub number_is : number ≡ code_of status
  pub promises : KeepsPromises
      (record { words = words; before = before; after = after; ended = status })
