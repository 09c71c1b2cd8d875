-- The replies to the jobs of a script.
use Rattle.std.specs.Prelude.{ℕ, ◌+◌, Bool, false, cond, List, [], ◌∷◌, ◌++◌, codes}
use Rattle.text_parts.specs.Bytes.{newline}

-- a job's client, whether its case was proved, and the reply's lines
pub record Served : Type 0 where
  pub client : ℕ
  pub proved : Bool
  pub text : List ℕ

-- how many of the cases were proved
abbrev pub proved_count : List Served → ℕ
proved_count [] = 0
proved_count (job ∷ jobs) = cond job.proved 1 0 + proved_count jobs

-- the reply to a job that its client withdrew
abbrev pub withdrawn_job : ℕ → Served
withdrawn_job client =
    record { client = client; proved = false; text = codes "withdrawn" ++ newline ∷ [] }
