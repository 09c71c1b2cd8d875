-- The parts of an answer that is there.
use Rattle.std.proofs.Common.{◌≡◌, Bool, true, false, Ok, Err, refl, ap, sym}
use Rattle.std.specs.Prelude.{if◌then◌else◌}
use Rattle.arr_scope.specs.declared.refused.CheckRefused.{CheckRefused}
use Rattle.arr_scope.specs.Agrees.{Answer, ◌>>=◌}

pub bind_ok : {A B : Type 0} (a : Answer A) (f : A → Answer B) (y : B) → (a >>= f) ≡ Ok y → (x : A) × (a ≡ Ok x) × (f x ≡ Ok y)
bind_ok (Ok x) f y e = (x, refl, e)
bind_ok (Err refused) f y e = cc

pub if_ok : {A : Type 0} (b : Bool) (a : Answer A) (refused : CheckRefused) (y : A) → (if b then a else Err refused) ≡ Ok y → (b ≡ true) × (a ≡ Ok y)
if_ok true a refused y e = (refl, e)
if_ok false a refused y e = cc

pub pair_ok : {A B : Type 0} (x : A × B) (a : A) (b : B) → ◌≡◌ {A = Answer (A × B)} (Ok (a, b)) (Ok x) → (x.0 ≡ a) × (x.1 ≡ b)
pair_ok {A} {B} x a b e = let same : ◌≡◌ {A = A × B} (a, b) x = cc in (sym (ap (λ (p : A × B). p.0) same), sym (ap (λ (p : A × B). p.1) same))

pub same_ok : {A : Type 0} (x y : A) → ◌≡◌ {A = Answer A} (Ok x) (Ok y) → x ≡ y
same_ok x y e = cc
