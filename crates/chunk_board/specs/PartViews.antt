-- What contracts see of a board of parts and a claimer of parts.
use Rattle.std.specs.Prelude.{◌≡◌, ℕ, ◌+◌, ◌<◌, ◌≤◌, Bool, false, ◌||◌, List, [], ◌∷◌, ◌++◌, length, Option, Some, None, MatchOption}
use Rattle.atomic_table.specs.Seated.{TableId}
use Rattle.chunk_board.specs.PartHands.{part_hand, IsTakeStep, IsPutStep}
use Rattle.chunk_board.specs.declared.part_rule.PartHand.{PartHand}

-- which board it is, with its parts as they were and its shares
pub record PartBoardView (T : Type 0) : Type 0 where
  pub table : TableId
  pub parts : List T
  pub shares : ℕ

-- whose board it is of, that board's parts, what the claimer has drawn and put back, and the part in its hand
pub record PartClaimerView (T : Type 0) : Type 0 where
  pub table : TableId
  pub parts : List T
  pub shares : ℕ
  pub drawn : List ℕ
  pub put : List (ℕ × T)
  pub held : Option ℕ
  pub stopped : Bool

module _ {T : Type 0} where
  abbrev pub IsOfParts : PartBoardView T → PartClaimerView T → Type 0
  IsOfParts b c = (c.table ≡ b.table) × (c.parts ≡ b.parts)

  abbrev pub hand_of : PartClaimerView T → PartHand T
  hand_of c = part_hand c.parts c.shares c.drawn c.put c.held c.stopped

  -- it has drawn nothing, and isn't stopped
  abbrev pub IsFresh : PartClaimerView T → Type 0
  IsFresh c = (c.drawn ≡ []) × (c.put ≡ []) × (c.held ≡ None) × (c.stopped ≡ false)

  abbrev pub took : ℕ → PartClaimerView T → PartClaimerView T
  took k c = record c { drawn = c.drawn ++ k ∷ []; held = Some k }

  abbrev pub gave : ℕ → T → PartClaimerView T → PartClaimerView T
  gave k x c = record c { put = c.put ++ (k, x) ∷ []; held = None }

  abbrev pub united_parts : PartClaimerView T → PartClaimerView T → PartClaimerView T
  united_parts c other = record c {
    shares = c.shares + other.shares;
    drawn = c.drawn ++ other.drawn;
    put = c.put ++ other.put;
    stopped = c.stopped || other.stopped;
  }

  -- The answer to a claim, one step of the claim machine: the part that it found next, and None where each was drawn
  pub record IsPartClaim (old : PartClaimerView T) (answer : Option (ℕ × T))
      (new : PartClaimerView T) : Type 0 where
    pub next : ℕ
    pub step : IsTakeStep (hand_of old) next (hand_of new)
    pub answers : MatchOption answer (length old.parts ≤ next)
        (λ r. (r.0 ≡ next) × (r.0 < length old.parts))

  abbrev pub IsPut : PartClaimerView T → ℕ → PartClaimerView T → Type 0
  IsPut old k new = IsPutStep (hand_of old) k (hand_of new)
