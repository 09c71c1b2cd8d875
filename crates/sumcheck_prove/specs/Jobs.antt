-- What workers do: with parts of a layer's tables, with parts of its line, and with ranges of places
use Rattle.std.specs.Prelude.{◌≡◌, ℕ, ◌<◌, Bool, List, [], Option, Some, None, slice_index_or}
use Rattle.field_ext.specs.Field.{K}
use Rattle.round_tables.specs.LayerSum.{LayerSum}
use Rattle.table_parts.specs.PartTables.{PartTables, folded_part, part_sum}
use Rattle.round_tables.specs.Ranges.{RangeView, range_of, gathered_range}
use Rattle.sumcheck_prove.specs.Lines.{LineView, worked_line, aimed_line}
use Rattle.sumcheck_prove.specs.declared.jobs.Job.{Job}

-- the job of a part of the tables before it is worked
abbrev pub job_of : K → List K → PartTables → Job
job_of r none part = record {
  part = part;
  r = r;
  sum = none;
  line = None;
  share = None;
}

-- the job after it: the part is folded, and the sum is that of the part that is left
abbrev pub round_of : Job → Job
round_of job = let part : PartTables = folded_part job.r job.part in
    record job { part = part; sum = part_sum part }

-- the job after it, with this range, if any
abbrev pub gather_with : Job → Option RangeView → Job
gather_with job None = round_of job
gather_with job (Some range) = record job { share = Some (gathered_range range) }

-- the job after it, with this part of the line, if any
abbrev pub work_with : ℕ → Job → Option LineView → Job
work_with k job None = gather_with job job.share
work_with k job (Some line) = record job { line = Some (worked_line k line) }

-- job k after it
abbrev pub work_of : ℕ → Job → Job
work_of k job = work_with k job job.line

-- a job for a part of the line over these values
abbrev pub IsLineOver : List K → Option LineView → Type 0
IsLineOver values None = ⊥
IsLineOver values (Some line) = line.values ≡ values

abbrev pub HasLine : List K → Job → Type 0
HasLine values job = IsLineOver values job.line

-- this part of the line, if any, with the first coordinates of the points b and c
abbrev pub aimed_option : List K → List K → Option LineView → Option LineView
aimed_option b c None = None
aimed_option b c (Some line) = Some (aimed_line b c line)

abbrev pub aimed : List K → List K → Job → Job
aimed b c job = record job { line = aimed_option b c job.line }

-- the coefficients of this part of the line, if any
abbrev pub coefficients_in : Option LineView → List K
coefficients_in None = []
coefficients_in (Some line) = line.part.line

abbrev pub line_of : Job → List K
line_of job = coefficients_in job.line

-- the job is to gather this range, or has gathered it
pub record HasRange (range : RangeView) (job : Job) : Type 0 where
  pub line : job.line ≡ None
  pub share : job.share ≡ Some range

-- the first n jobs have the first n ranges
abbrev pub HaveRanges : LayerSum → ℕ → ℕ → Bool → ℕ → List Job → Type 0
HaveRanges sum parts size done n jobs = (k : ℕ) (job : Job) → k < n
    → HasRange (range_of sum parts size done k) (slice_index_or jobs k job)
