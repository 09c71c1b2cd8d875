-- How many workers there may be, and what they give.
use Rattle.std.specs.Prelude.{◌≡◌, ℕ, ◌<◌, ◌≤◌, List, map, length, Option, Some, None, MatchOption, slice_index_or, slice_get}
use Rattle.std.specs.List.{All}
use Rattle.tallies.specs.Tallies.{times}

-- from 1 to 64
abbrev pub IsWorkerCount : ℕ → Type 0
IsWorkerCount workers = (1 ≤ workers) × (workers ≤ 64)

-- the results of the pieces drawn, in order, each its piece's output
pub record IsWork {X : Type 0} (out : ℕ → X) (pairs : List (ℕ × X)) (drawn : List ℕ) : Type 0 where
  pub pieces : map (λ (p : ℕ × X). p.0) pairs ≡ drawn
  pub outputs : All (λ (p : ℕ × X). p.1 ≡ out p.0) pairs

-- place j is vacant where j is none of the keys, and has the output of j else
abbrev pub AllPlaced : {X : Type 0} → (ℕ → X) → List ℕ → List (Option X) → Type 0
AllPlaced {X} out keys slots =
    (j : ℕ) → j < length slots
    → MatchOption (slice_index_or slots j None) (times j keys ≡ 0) (λ (x : X). x ≡ out j)

-- the parts drawn were put back, each worked once: what is put back for part k is what the part at place k becomes
pub record ArePartsWorked {T : Type 0} (f : ℕ → T → T) (parts : List T) (put : List (ℕ × T))
    (drawn : List ℕ) : Type 0 where
  pub numbers : map (λ (p : ℕ × T). p.0) put ≡ drawn
  pub each : All (λ (p : ℕ × T). (x : T) × (slice_get parts p.0 ≡ Some x) × (p.1 ≡ f p.0 x)) put

-- at each place is what the part there becomes
abbrev pub IsEachWorked : {T : Type 0} → (ℕ → T → T) → List T → List T → Type 0
IsEachWorked {T} f parts worked = (k : ℕ) (x : T) → slice_get parts k ≡ Some x
    → slice_get worked k ≡ Some (f k x)
