-- Which of two answers a test gives
use Rattle.std.proofs.Common.{◌≡◌, Bool, true, false, if◌then◌else◌, ap}
use Rattle.gkr_layers.specs.Equations.{Answered}

pub first_holds : (b : Bool) (x y : Answered) → b ≡ true → (if b then x else y) ≡ x
first_holds b x y e = ap (λ (c : Bool). if c then x else y) e

pub first_fails : (b : Bool) (x y : Answered) → b ≡ false → (if b then x else y) ≡ y
first_fails b x y e = ap (λ (c : Bool). if c then x else y) e
