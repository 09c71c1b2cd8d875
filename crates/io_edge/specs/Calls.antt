-- What is known of the calls that read from it.
use Rattle.std.specs.Prelude.{ℕ, ◌+◌, ◌≤◌, max, ⊤, Some, None}
use Rattle.std.specs.declared.option.Option.{Option}

-- How many calls there were, and the largest buffer that one had.
pub record Calls : Type 0 where
  pub count : ℕ
  pub largest_buffer : ℕ

-- After at most so many calls more, none into a larger buffer than this.
abbrev pub CallsAtMost : ℕ → ℕ → Option Calls → Option Calls → Type 0
CallsAtMost most capacity old None = ⊤
CallsAtMost most capacity None (Some new) = ⊥
CallsAtMost most capacity (Some old) (Some new) =
    (new.count ≤ old.count + most) × (new.largest_buffer ≤ max old.largest_buffer capacity)
