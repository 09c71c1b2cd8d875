-- What claimers of parts know, and the rule of a board of parts: it is the claim machine, with the parts in their slots.
use Rattle.std.specs.Prelude.{◌≡◌, ℕ, ◌+◌, ◌-◌, ◌^◌, ◌<◌, ◌≤◌, Bool, true, false, ◌==◌, ◌||◌, cond, List, [], ◌∷◌, ◌++◌, length, map, slice_index, slice_set, Option, Some, None, ◌⊎◌}
use mathlib.Core.Option.{some, none}
use mathlib.Core.Option as maybe
use lib.ListN.{get_elem?}
use Rattle.atomic_table.specs.Table.{State, Me, Step, rest}
use Rattle.tallies.specs.Tallies.{total, times}
use Rattle.chunk_board.specs.ClaimMachine.{Worker, worker, phase, Work, IsStep, pieces_of}
use Rattle.chunk_board.specs.Hands.{no_output, Claims, IsReached, IsClaimStep}
use Rattle.chunk_board.specs.declared.part_rule.PartHand.{PartHand}
use Rattle.chunk_board.specs.declared.part_rule.PartPlan.{PartPlan}

-- 1 where part y is the one in hand
abbrev pub holding : ℕ → Option ℕ → ℕ
holding y None = 0
holding y (Some k) = cond (y == k) 1 0

-- the slots of a table: one that is out has nothing to show
abbrev pub Homes : Type 0 → Type 0
Homes T = List (maybe.Option (Option T))

-- A done step of worker `seat`, which drew piece k, is the machine's work on it
pub record IsWorkStep (n : ℕ) (v : Worker) (k : ℕ) : Type 0 where
  pub shares : ℕ
  pub before : Claims
  pub after : Claims
  pub seat : ℕ
  pub reached : IsReached n shares before
  pub step : IsStep n no_output (Work seat k) before after
  pub was : get_elem? before.workers seat ≡ some v

module _ {T : Type 0} where
  abbrev pub part_hand : List T → ℕ → List ℕ → List (ℕ × T) → Option ℕ → Bool → PartHand T
  part_hand ps n xs ys h b =
      record { parts = ps; shares = n; drawn = xs; put = ys; held = h; stopped = b }

  abbrev pub worker_in : PartHand T → Worker
  worker_in v = worker v.shares v.drawn v.stopped

  abbrev pub number_of : ℕ × T → ℕ
  number_of p = p.0

  -- What a hand has drawn it holds or has put back. What it has put back lies there, and the slot of the part that it holds is out
  pub record FitsHomes (homes : Homes T) (v : PartHand T) : Type 0 where
    pub keys : (y : ℕ) → times y v.drawn ≡ times y (map number_of v.put) + holding y v.held
    pub lies : (i k : ℕ) (x : T) → get_elem? v.put i ≡ some (k, x)
        → get_elem? homes k ≡ some (some (Some x))
    pub out : (k : ℕ) → v.held ≡ Some k → get_elem? homes k ≡ some none

  -- The board of parts: its steps were the claim machine's, the claim word is `next`, the claimers' views are the workers, and the pieces worked are the parts put
  -- back, of which there are `back`. A part that isn't drawn lies in its slot as it was
  pub record IsPartBoard (parts : List T) (shares next back : ℕ) (homes : Homes T)
      (hands : List (PartHand T)) : Type 0 where
    pub worked : List (ℕ × Unit {0})
    pub reached : IsReached (length parts) shares (phase next (map worker_in hands) worked)
    pub backs : length worked ≡ back
    pub puts : (x : ℕ) → times x (pieces_of worked)
        ≡ total (λ v. times x (map number_of v.put)) hands
    pub capacity : length homes ≡ length parts
    pub fresh : (k : ℕ) (x : T) → next ≤ k → get_elem? parts k ≡ some x
        → get_elem? homes k ≡ some (some (Some x))
    pub each : (j : ℕ) (v : PartHand T) → get_elem? hands j ≡ some v → FitsHomes homes v

  -- how many hands hold part k
  abbrev pub holders : ℕ → List (PartHand T) → ℕ
  holders k hands = total (λ v. holding k v.held) hands

  -- part k lies at home and no hand holds it, or its slot is out and one hand holds it
  abbrev pub IsHomeOrHeld : ℕ → Homes T → List (PartHand T) → Type 0
  IsHomeOrHeld k homes hands =
      ((x : T) × (get_elem? homes k ≡ some (some (Some x))) × (holders k hands ≡ 0))
      ⊎ ((get_elem? homes k ≡ some none) × (holders k hands ≡ 1))

  abbrev pub KeptParts : PartPlan T → State (Option T) (PartHand T) → Type 0
  KeptParts p s = (length s.words ≡ 2) × (length p.parts.value.items < 2 ^ 32)
      × (p.shares < 2 ^ 32)
      × IsPartBoard p.parts.value.items p.shares (slice_index s.words 0) (slice_index s.words 1)
      s.homes s.views

  abbrev pub newcomer : PartPlan T → PartHand T
  newcomer p = part_hand p.parts.value.items p.shares [] [] None false

  -- part `found` is taken out of its slot
  pub record Takes (found : ℕ) (m m' : Me (Option T) (PartHand T)) : Type 0 where
    pub part : T
    pub is : get_elem? m.0.parts found ≡ some part
    pub took : m'.1 ≡ (found, Some part) ∷ m.1
    pub hand : m'.0 ≡ record m.0 { drawn = m.0.drawn ++ found ∷ []; held = Some found }

  -- at its step the board stands, before and after, and hand v becomes w by a claim of the machine, which finds `next`
  pub record IsTakeStep (v : PartHand T) (next : ℕ) (w : PartHand T) : Type 0 where
    pub shares : ℕ
    pub back : ℕ
    pub homes : Homes T
    pub homes' : Homes T
    pub hands : List (PartHand T)
    pub seat : ℕ
    pub before : IsPartBoard v.parts shares next back homes hands
    pub sits : get_elem? hands seat ≡ some v
    pub after : IsPartBoard v.parts shares (next + 1) back homes' (slice_set hands seat w)
    pub step : IsClaimStep (length v.parts) (worker_in v) next (worker_in w)

  -- the same for hand v that puts part k back: it is the machine's work on k
  pub record IsPutStep (v : PartHand T) (k : ℕ) (w : PartHand T) : Type 0 where
    pub shares : ℕ
    pub next : ℕ
    pub back : ℕ
    pub homes : Homes T
    pub homes' : Homes T
    pub hands : List (PartHand T)
    pub seat : ℕ
    pub before : IsPartBoard v.parts shares next back homes hands
    pub sits : get_elem? hands seat ≡ some v
    pub after : IsPartBoard v.parts shares next (back + 1) homes' (slice_set hands seat w)
    pub step : IsWorkStep (length v.parts) (worker_in v) k

  abbrev pub TookPart : Step (Option T) → Me (Option T) (PartHand T) → ℕ
      → Me (Option T) (PartHand T) → Type 0
  TookPart st m found m' = (found < length m.0.parts → Takes found m m')
      × (length m.0.parts ≤ found → m' ≡ (record m.0 { stopped = true }, m.1))
      × (length m'.0.drawn ≤ length m.0.parts) × IsTakeStep m.0 found m'.0

  -- the part in hand lies in its slot again
  abbrev pub PutPart : Step (Option T) → Me (Option T) (PartHand T) → ℕ
      → Me (Option T) (PartHand T) → Type 0
  PutPart st m found m' = (m'.1 ≡ rest m.1) × ((k : ℕ) (x : T) → m.1 ≡ (k, Some x) ∷ []
      → (m'.0 ≡ record m.0 { put = m.0.put ++ (k, x) ∷ []; held = None })
      × IsPutStep m.0 k m'.0)

  -- a look at the board makes known that the shares of a hand are among all
  abbrev pub CountedParts : Step (Option T) → Me (Option T) (PartHand T) → ℕ
      → Me (Option T) (PartHand T) → Type 0
  CountedParts st m found m' = (m'.0 ≡ m.0) × (m'.1 ≡ m.1) × (m.0.shares < 2 ^ 32)

  abbrev pub left_part_hand : ℕ → PartHand T → PartHand T
  left_part_hand k v = record v { shares = v.shares - k }

  abbrev pub right_part_hand : ℕ → PartHand T → PartHand T
  right_part_hand k v = part_hand v.parts k [] [] None v.stopped

  abbrev pub joined_parts : PartHand T → PartHand T → PartHand T
  joined_parts v w = part_hand v.parts (v.shares + w.shares) (v.drawn ++ w.drawn)
      (v.put ++ w.put) None (v.stopped || w.stopped)

  abbrev pub spent_parts : PartHand T
  spent_parts = part_hand [] 0 [] [] None false
