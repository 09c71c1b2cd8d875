-- Bytes after those that were taken
use Rattle.std.proofs.Common.{◌≡◌, ℕ, ◌+◌, ◌-◌, ◌*◌, ◌≤◌, List, ◌++◌, length, take, drop, min, sym, ◌∙◌, ap, arith, length-take}
use Rattle.std.proofs.lemmas.List.{take_min}
use Rattle.std.proofs.Math.Seq.{take-append-add}
use Rattle.field_ext.specs.Field.{K}
use Rattle.live_session.specs.Elements.{leading}
use Rattle.live_session.specs.Intake.{IsIntake}
use Rattle.live_session.proofs.api.ElementSteps.{leading-more}

-- what is kept of more bytes
pub kept_more : (bytes more : List ℕ) (count capacity : ℕ) → count ≤ capacity → length bytes ≡ count → bytes ++ take (min (capacity - count) (length more)) more ≡ take capacity (bytes ++ more)
kept_more bytes more count capacity u e =
    ap (λ (xs : List ℕ). bytes ++ xs) (take_min (capacity - count) more)
    ∙ sym (take-append-add bytes more (capacity - count))
    ∙ ap (λ (n : ℕ). take n (bytes ++ more)) (let f : length bytes + (capacity - count) ≡ capacity = omega (arith, e, u) in f)

-- the elements of the bytes before, and those that follow
pub read_before : (count good : ℕ) (bytes : List ℕ) (elements : List K) (more : List ℕ) → IsIntake count good bytes elements →
    leading (length elements) (take count bytes ++ more) ≡ take good elements ++ leading (length elements - good) (drop (8 * good) (take count bytes ++ more))
read_before count good bytes elements more is =
    let n = length elements in
    let before : List ℕ = take count bytes in
    let size : length (take good elements) ≡ good = omega (arith, length-take good elements, is.known) in
    leading-more n before more
    ∙ ap (λ (xs : List K). xs ++ leading (n - length xs) (drop (8 * length xs) (before ++ more))) (sym is.read)
    ∙ ap (λ (m : ℕ). take good elements ++ leading (n - m) (drop (8 * m) (before ++ more))) size
