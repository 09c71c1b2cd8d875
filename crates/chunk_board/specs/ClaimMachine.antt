-- Workers that claim the pieces of a phase by number, as a machine of its own: its states, its steps and their runs. Piece k gives `out k`.
use Rattle.std.specs.Prelude.{◌≡◌, ◌≢◌, ℕ, ◌+◌, ◌-◌, ◌<◌, ◌≤◌, ◌==◌, Bool, true, false, ◌||◌, cond, ltb, min, List, [], ◌∷◌, ◌++◌, map, Option, Some, None, slice_set}
use Rattle.std.specs.List.{All}
use mathlib.Core.Option.{some}
use lib.ListN.{get_elem?}
use Rattle.tallies.specs.Tallies.{total, times, once_below}

-- A worker: its shares of all, the pieces that it drew, and whether it has stopped. One that has no share is gone
pub record Worker : Type 0 where
  pub shares : ℕ
  pub drawn : List ℕ
  pub stopped : Bool

abbrev pub worker : ℕ → List ℕ → Bool → Worker
worker k xs b = record { shares = k; drawn = xs; stopped = b }

-- A phase under way: the next piece, the workers, and the results, each after the number of its piece, in order of arrival
pub record Phase (X : Type 0) : Type 0 where
  pub next : ℕ
  pub workers : List Worker
  pub results : List (ℕ × X)

abbrev pub phase : {X : Type 0} → ℕ → List Worker → List (ℕ × X) → Phase X
phase n ws rs = record { next = n; workers = ws; results = rs }

-- one worker with all shares
abbrev pub start : {X : Type 0} → ℕ → Phase X
start shares = phase 0 (worker shares [] false ∷ []) []

-- workers by their places in the list: w claims; w works on piece k; a new worker gets s shares of w; w takes u in
pub data ClaimStep : Type 0 where
  Claim : ℕ → ClaimStep
  Work : ℕ → ℕ → ClaimStep
  Split : ℕ → ℕ → ClaimStep
  Join : ℕ → ℕ → ClaimStep

-- of n pieces it draws the next, where one is left, and is else stopped
abbrev pub claiming : ℕ → ℕ → Worker → Worker
claiming n next v = cond (ltb next n) (worker v.shares (v.drawn ++ next ∷ []) v.stopped)
    (worker v.shares v.drawn true)

abbrev pub keeping : ℕ → Worker → Worker
keeping s v = worker (v.shares - s) v.drawn v.stopped

-- with nothing drawn, and the mark of the one that it comes from
abbrev pub given : ℕ → Worker → Worker
given s v = worker s [] v.stopped

abbrev pub joining : Worker → Worker → Worker
joining v u = worker (v.shares + u.shares) (v.drawn ++ u.drawn) (v.stopped || u.stopped)

abbrev pub gone : Worker
gone = worker 0 [] false

-- worker w is v, and isn't gone
abbrev pub IsAt : List Worker → ℕ → Worker → Type 0
IsAt ws w v = (get_elem? ws w ≡ some v) × (0 < v.shares)

abbrev pub pieces_of : {X : Type 0} → List (ℕ × X) → List ℕ
pieces_of {X} rs = map (λ (r : ℕ × X). r.0) rs

abbrev pub outputs_of : {X : Type 0} → List (ℕ × X) → List X
outputs_of {X} rs = map (λ (r : ℕ × X). r.1) rs

module _ {X : Type 0} (n : ℕ) (out : ℕ → X) where
  -- the step may be taken at p, and gives q
  abbrev pub IsStep : ClaimStep → Phase X → Phase X → Type 0
  IsStep (Claim w) p q = (v : Worker) × IsAt p.workers w v × (v.stopped ≡ false)
      × (q ≡ phase (p.next + 1) (slice_set p.workers w (claiming n p.next v)) p.results)
  IsStep (Work w k) p q = (v : Worker) × IsAt p.workers w v × (1 ≤ times k v.drawn)
      × (times k (pieces_of p.results) ≡ 0)
      × (q ≡ phase p.next p.workers (p.results ++ (k, out k) ∷ []))
  IsStep (Split w s) p q =
      (v : Worker) × IsAt p.workers w v × (0 < s) × (s < v.shares)
      × (q ≡ phase p.next (slice_set p.workers w (keeping s v) ++ given s v ∷ []) p.results)
  IsStep (Join w u) p q = (v : Worker) × (o : Worker) × IsAt p.workers w v × IsAt p.workers u o
      × (u ≢ w) × (q ≡ phase p.next (slice_set (slice_set p.workers w (joining v o)) u gone)
      p.results)

  -- the steps, one after another, lead from p to r
  abbrev pub IsRun : List ClaimStep → Phase X → Phase X → Type 0
  IsRun [] p r = r ≡ p
  IsRun (s ∷ ss) p r = (q : Phase X) × IsStep s p q × IsRun ss q r

abbrev pub AllStopped : {X : Type 0} → Phase X → Type 0
AllStopped p = (w : ℕ) (v : Worker) → IsAt p.workers w v → v.stopped ≡ true

-- how many workers have drawn x
abbrev pub drawn_by : ℕ → List Worker → ℕ
drawn_by x ws = total (λ v. times x v.drawn) ws

-- each piece that was drawn was worked
abbrev pub AllWorked : {X : Type 0} → Phase X → Type 0
AllWorked p = (x : ℕ) → 1 ≤ drawn_by x p.workers → 1 ≤ times x (pieces_of p.results)

abbrev pub AllDrawn : ℕ → List Worker → Type 0
AllDrawn n ws = (x : ℕ) → x < n → drawn_by x ws ≡ 1

abbrev pub stopped_shares : Worker → ℕ
stopped_shares v = cond v.stopped v.shares 0

-- The rule of a phase of n pieces. What is drawn are the numbers below `next` and n, each once. The shares add to the total. A stopped worker means that
-- all are drawn, and `next` is past n by no more than the shares of the stopped. A worker that is gone has drawn nothing
pub record IsRule (n shares next : ℕ) (ws : List Worker) : Type 0 where
  pub shared : total (λ v. v.shares) ws ≡ shares
  pub drawn : (x : ℕ) → drawn_by x ws ≡ once_below x (min next n)
  pub idle : (w : ℕ) (v : Worker) → get_elem? ws w ≡ some v → v.shares ≡ 0 → v.drawn ≡ []
  pub done : (w : ℕ) (v : Worker) → get_elem? ws w ≡ some v → v.stopped ≡ true → n ≤ next
  pub bound : next ≤ n + total stopped_shares ws

-- each result is its piece's output, and its piece was drawn, and is in no other result
pub record AreResults {X : Type 0} (out : ℕ → X) (ws : List Worker) (rs : List (ℕ × X))
    : Type 0 where
  pub outputs : All (λ (r : ℕ × X). r.1 ≡ out r.0) rs
  pub once : (x : ℕ) → times x (pieces_of rs) ≤ drawn_by x ws

-- the first result of piece k
abbrev pub result_at : {X : Type 0} → ℕ → List (ℕ × X) → Option X
result_at k [] = None
result_at k (r ∷ rs) = cond (k == r.0) (Some r.1) (result_at k rs)

-- elements added up, in order
abbrev pub sum_with : {A : Type 0} → (A → A → A) → A → List A → A
sum_with add z [] = z
sum_with add z (x ∷ xs) = add x (sum_with add z xs)
