-- What claimers know, and the rule of the board: it is the claim machine.
use Rattle.std.specs.Prelude.{◌≡◌, ℕ, ◌+◌, ◌-◌, ◌^◌, ◌<◌, ◌≤◌, ◌↔◌, Bool, true, false, ◌||◌, cond, ltb, List, [], ◌∷◌, ◌++◌, map, length, slice_index}
use mathlib.Core.Option.{some}
use lib.ListN.{get_elem?}
use Rattle.atomic_table.specs.Table.{State, Me, Step}
use Rattle.chunk_board.specs.ClaimMachine.{Worker, worker, Phase, phase, start, ClaimStep, Claim, IsStep, IsRun, AllDrawn}
use Rattle.chunk_board.specs.declared.rule.Hand.{Hand}
use Rattle.chunk_board.specs.declared.rule.Plan.{Plan}

abbrev pub hand : ℕ → ℕ → List ℕ → Bool → Hand
hand n k xs b = record { pieces = n; shares = k; drawn = xs; stopped = b }

abbrev pub worker_of : Hand → Worker
worker_of v = worker v.shares v.drawn v.stopped

abbrev pub no_output : ℕ → Unit {0}
no_output k = tt

-- the claims of a phase, with no piece worked
abbrev pub Claims : Type 0
Claims = Phase (Unit {0})

-- some steps of the machine lead there
abbrev pub IsReached : ℕ → ℕ → Claims → Type 0
IsReached n shares p = (ss : List ClaimStep) × IsRun n no_output ss (start shares) p

-- the claim word is `next`, and the claimers' views are the workers
abbrev pub board_of : ℕ → List Hand → Claims
board_of next hands = phase next (map worker_of hands) []

abbrev pub Kept : Plan → State (Unit {0}) Hand → Type 0
Kept p s = (length s.words ≡ 1) × (p.pieces + p.shares < 2 ^ 64 - 1) × (p.shares < 2 ^ 32)
    × IsReached p.pieces p.shares (board_of (slice_index s.words 0) s.views)

-- a claim of the hand v, which finds `next`
abbrev pub claimed : Hand → ℕ → Hand
claimed v next = cond (ltb next v.pieces) (hand v.pieces v.shares (v.drawn ++ next ∷ []) v.stopped)
    (hand v.pieces v.shares v.drawn true)

-- A claim is a step of the machine, at a state that its steps lead to: worker `seat` was v, found `next`, and is w. All pieces were drawn before it exactly
-- where none was left
pub record IsClaimStep (n : ℕ) (v : Worker) (next : ℕ) (w : Worker) : Type 0 where
  pub shares : ℕ
  pub before : Claims
  pub after : Claims
  pub seat : ℕ
  pub reached : IsReached n shares before
  pub at : before.next ≡ next
  pub step : IsStep n no_output (Claim seat) before after
  pub was : get_elem? before.workers seat ≡ some v
  pub is : get_elem? after.workers seat ≡ some w
  pub all : n ≤ next ↔ AllDrawn n before.workers

abbrev pub Claimed : Step (Unit {0}) → Me (Unit {0}) Hand → ℕ → Me (Unit {0}) Hand → Type 0
Claimed st m found m' = (m'.0 ≡ claimed m.0 found) × (m'.1 ≡ m.1) × (length m'.0.drawn ≤ m.0.pieces)
    × IsClaimStep m.0.pieces (worker_of m.0) found (worker_of m'.0)

-- a look at the board makes known that the shares of a hand are among all
abbrev pub Counted : Step (Unit {0}) → Me (Unit {0}) Hand → ℕ → Me (Unit {0}) Hand → Type 0
Counted st m found m' = (m'.0 ≡ m.0) × (m'.1 ≡ m.1) × (m.0.shares < 2 ^ 32)

abbrev pub left_hand : ℕ → Hand → Hand
left_hand k v = hand v.pieces (v.shares - k) v.drawn v.stopped

abbrev pub right_hand : ℕ → Hand → Hand
right_hand k v = hand v.pieces k [] v.stopped

abbrev pub joined : Hand → Hand → Hand
joined v w = hand v.pieces (v.shares + w.shares) (v.drawn ++ w.drawn) (v.stopped || w.stopped)

abbrev pub spent : Hand
spent = hand 0 0 [] false
