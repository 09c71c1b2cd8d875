-- What contracts see of a board and a claimer.
use Rattle.std.specs.Prelude.{◌≡◌, ℕ, ◌+◌, ◌<◌, ◌≤◌, Bool, ◌||◌, List, [], ◌∷◌, ◌++◌, Option, MatchOption}
use Rattle.atomic_table.specs.Seated.{TableId}
use Rattle.chunk_board.specs.ClaimMachine.{Worker, worker}
use Rattle.chunk_board.specs.Hands.{IsClaimStep}

-- which board it is, with its number of pieces and its shares
pub record BoardView : Type 0 where
  pub table : TableId
  pub pieces : ℕ
  pub shares : ℕ

-- whose board it is of, its number of pieces, and the claimer as a worker of the machine
pub record ClaimerView : Type 0 where
  pub table : TableId
  pub pieces : ℕ
  pub shares : ℕ
  pub drawn : List ℕ
  pub stopped : Bool

abbrev pub IsOf : BoardView → ClaimerView → Type 0
IsOf b c = (c.table ≡ b.table) × (c.pieces ≡ b.pieces)

abbrev pub drew : ℕ → ClaimerView → ClaimerView
drew k c = record c { drawn = c.drawn ++ k ∷ [] }

abbrev pub united : ClaimerView → ClaimerView → ClaimerView
united c other = record c {
  shares = c.shares + other.shares;
  drawn = c.drawn ++ other.drawn;
  stopped = c.stopped || other.stopped;
}

abbrev pub as_worker : ClaimerView → Worker
as_worker c = worker c.shares c.drawn c.stopped

-- The answer to a claim, one step of the claim machine: the piece that it found next, and None where each was drawn
pub record IsClaim (old : ClaimerView) (answer : Option ℕ) (new : ClaimerView) : Type 0 where
  pub next : ℕ
  pub step : IsClaimStep old.pieces (as_worker old) next (as_worker new)
  pub answers : MatchOption answer (old.pieces ≤ next) (λ k. (k ≡ next) × (k < old.pieces))
