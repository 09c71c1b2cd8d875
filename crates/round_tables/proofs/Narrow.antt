-- A layer of few gates has few coordinates
use Rattle.std.proofs.Common.{◌≡◌, ℕ, ◌^◌, ◌<◌, ◌≤◌, inl, inr, arith}
use Rattle.std.proofs.lemmas.Bool.{cases_lt}
use Rattle.std.proofs.lemmas.Nat.{pow_below}

pub few_coordinates : (e n : ℕ) → n ≡ 2 ^ e → n ≤ 1048576 → e ≤ 20
few_coordinates e n width few =
    elim (cases_lt 20 e) [
      | inl u ↦ absurd (let big : 1048576 < 2 ^ e = pow_below 20 e u in omega (arith, big, width, few))
      | inr v ↦ v
    ]
