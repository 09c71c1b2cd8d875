-- What ends in memory hold, and at which of their calls they fail.
use Rattle.std.specs.Prelude.{◌≡◌, ℕ, ◌+◌, ◌-◌, ◌^◌, min, List, drop, length, Contains, if◌then◌else◌, Some, None}
use Rattle.std.specs.declared.option.Option.{Option}
use Rattle.io_edge.specs.Calls.{Calls}
use Rattle.io_edge.specs.declared.memory_source.MemorySource.{MemorySource}
use Rattle.io_edge.specs.declared.memory_sink.MemorySink.{MemorySink}
use Rattle.io_edge.specs.declared.steady_source.SteadySource.{SteadySource}
use Rattle.io_edge.specs.declared.steady_sink.SteadySink.{SteadySink}
use Rattle.io_edge.specs.declared.schedule.Schedule.{Schedule}

-- the bytes that a source has left
abbrev pub unread : MemorySource → List ℕ
unread s = drop s.taken s.bytes.items

abbrev pub steady_unread : SteadySource → List ℕ
steady_unread s = drop s.taken s.bytes.items

-- the calls that read from it
abbrev pub calls_of : MemorySource → Calls
calls_of s = record { count = s.schedule.calls; largest_buffer = s.largest_buffer }

abbrev pub steady_calls : SteadySource → Calls
steady_calls s = record { count = s.calls; largest_buffer = s.largest_buffer }

-- the bytes that a sink holds, and how many its buffer holds in all
abbrev pub held : MemorySink → List ℕ
held s = s.bytes.items

abbrev pub capacity_of : MemorySink → ℕ
capacity_of s = s.capacity

abbrev pub capacity_left : MemorySink → ℕ
capacity_left s = s.capacity - length s.bytes.items

abbrev pub steady_held : SteadySink → List ℕ
steady_held s = s.bytes.items

abbrev pub steady_capacity : SteadySink → ℕ
steady_capacity s = s.capacity

-- the bytes that were written, or None from the first that found no capacity
abbrev pub known : SteadySink → Option (List ℕ)
known s = if s.is_known then Some s.bytes.items else None

-- No call was made yet, and the calls of these numbers will fail.
pub record IsFresh (schedule : Schedule) (numbers : List ℕ) : Type 0 where
  pub fails : schedule.fails.items ≡ numbers
  pub calls : schedule.calls ≡ 0
  pub faults : schedule.faults ≡ 0

-- One more call was counted. The count stays at its last value.
pub record IsNextCall (before now : Schedule) : Type 0 where
  pub calls : now.calls ≡ min (before.calls + 1) (2 ^ 64 - 1)
  pub fails : now.fails.items ≡ before.fails.items

-- The last call that was counted is one that fails.
abbrev pub FailsNow : Schedule → Type 0
FailsNow schedule = Contains schedule.fails.items schedule.calls
