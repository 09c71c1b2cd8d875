-- A function says what the definition says: the same refusal, or the same answer.
use Rattle.std.specs.Prelude.{◌≡◌, List, [], ◌∷◌, Result, Ok, Err}
use Rattle.arr_scope.specs.declared.refused.CheckRefused.{CheckRefused}
use Rattle.arr_scope.specs.declared.refused.CheckRefused.TheVariants.{Memory, Bad}

abbrev pub Answer : Type 0 → Type 0
Answer A = Result A CheckRefused

infixl 10 ◌>>=◌
abbrev pub ◌>>=◌ : {A B : Type 0} → Answer A → (A → Answer B) → Answer B
(Ok x) >>= go_on = go_on x
(Err refused) >>= go_on = Err refused

-- a list of steps, one after another
abbrev pub each : {A S : Type 0} → (A → S → Answer S) → List A → S → Answer S
each step [] state = Ok state
each step (x ∷ xs) state = step x state >>= each step xs

abbrev pub Agrees : {X Y : Type 0} → (X → Y) → Result X CheckRefused → Answer Y → Type 0
Agrees view (Ok x) answer = answer ≡ Ok (view x)
Agrees view (Err Memory) answer = Unit {0}
Agrees view (Err (Bad at kind)) answer = answer ≡ Err (Bad at kind)
