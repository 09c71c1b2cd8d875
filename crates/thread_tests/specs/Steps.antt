-- What a pass still knows and holds after a call.
use Rattle.std.specs.Prelude.{ℕ}
use mathlib.Core.List.{IsPrefix}
use Rattle.job_table.specs.Passes.{PassView, Holds}
use Rattle.job_table.specs.declared.event.Event.{Event}

module _ {C A : Type 0} where
  -- the history begins as it was, and each job that was held is held still
  pub record Keeps (old new : PassView (Event C A)) : Type 0 where
    pub begins : IsPrefix old.seen new.seen
    pub holds : (job : ℕ) → Holds old.seen old.mine job → Holds new.seen new.mine job
