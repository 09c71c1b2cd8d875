-- The challenges of a source, and the state after them
use Rattle.std.proofs.Common.{◌≡◌, ℕ, zero, suc, ◌+◌, List, [], ◌∷◌, ◌++◌, length, take, drop, IsTrue, refl, ap, subst, arith}
use Rattle.field_ext.specs.Field.{K}
use Rattle.transcript_fs.specs.Source.{Source, point_draws, state_after_point, draws, state_after}

-- where there are some, there is one
pub has_any : (source : Source) (s : List ℕ) (n : ℕ) → IsTrue (source.has s (suc n)) → IsTrue (source.has s 1)
has_any source s zero h = h
has_any source s (suc n) h = has_any source s n (source.has_fewer s (suc n) h)

pub draws-append : (source : Source) (s : List ℕ) (ps qs : List (List K)) → draws source s (ps ++ qs) ≡ draws source s ps ++ draws source (state_after source s ps) qs
draws-append source s [] qs = refl
draws-append source s (p ∷ ps) qs = ap (λ (rs : List K). source.draw (source.absorb s p) ∷ rs) (draws-append source (source.after (source.absorb s p)) ps qs)

pub state-append : (source : Source) (s : List ℕ) (ps qs : List (List K)) → state_after source s (ps ++ qs) ≡ state_after source (state_after source s ps) qs
state-append source s [] qs = refl
state-append source s (p ∷ ps) qs = state-append source (source.after (source.absorb s p)) ps qs

pub length-draws : (source : Source) (s : List ℕ) (qs : List (List K)) → length (draws source s qs) ≡ length qs
length-draws source s [] = refl
length-draws source s (q ∷ qs) = ap (λ (n : ℕ). suc n) (length-draws source (source.after (source.absorb s q)) qs)

-- after messages there are as many challenges fewer
pub has_behind : (source : Source) (s : List ℕ) (qs : List (List K)) (n : ℕ) → IsTrue (source.has s (length qs + n)) → IsTrue (source.has (state_after source s qs) n)
has_behind source s [] n h = subst (λ (m : ℕ). IsTrue (source.has s m)) (let e : 0 + n ≡ n = omega arith in e) h
has_behind source s (q ∷ qs) n h =
    has_behind source (source.after (source.absorb s q)) qs n
    (source.has_after (source.absorb s q) (length qs + n) (source.has_absorbed s q (suc (length qs + n)) (subst (λ (m : ℕ). IsTrue (source.has s m)) (let e : suc (length qs) + n ≡ suc (length qs + n) = omega arith in e) h)))

-- so that the first of them are there
pub has_front : (source : Source) (s : List ℕ) (m n : ℕ) → IsTrue (source.has s (m + n)) → IsTrue (source.has s m)
has_front source s m zero h = subst (λ (i : ℕ). IsTrue (source.has s i)) (let e : m + 0 ≡ m = omega arith in e) h
has_front source s m (suc n) h = has_front source s m n (source.has_fewer s (m + n) (subst (λ (i : ℕ). IsTrue (source.has s i)) (let e : m + suc n ≡ suc (m + n) = omega arith in e) h))

pub has_after_point : (source : Source) (s : List ℕ) (k n : ℕ) → IsTrue (source.has s (k + n)) → IsTrue (source.has (state_after_point source s k) n)
has_after_point source s zero n h = subst (λ (m : ℕ). IsTrue (source.has s m)) (let e : 0 + n ≡ n = omega arith in e) h
has_after_point source s (suc k) n h =
    has_after_point source (source.after s) k n (source.has_after s (k + n) (subst (λ (m : ℕ). IsTrue (source.has s m)) (let e : suc k + n ≡ suc (k + n) = omega arith in e) h))

pub length-coordinates : (source : Source) (s : List ℕ) (k : ℕ) → length (point_draws source s k) ≡ k
length-coordinates source s zero = refl
length-coordinates source s (suc k) = ap (λ (n : ℕ). suc n) (length-coordinates source (source.after s) k)

pub point_front : (source : Source) (s : List ℕ) (k : ℕ) (rest : List K) → take k (point_draws source s k ++ rest) ≡ point_draws source s k
point_front source s zero rest = refl
point_front source s (suc k) rest = ap (λ (xs : List K). source.draw s ∷ xs) (point_front source (source.after s) k rest)

pub point_rest : (source : Source) (s : List ℕ) (k : ℕ) (rest : List K) → drop k (point_draws source s k ++ rest) ≡ rest
point_rest source s zero rest = refl
point_rest source s (suc k) rest = point_rest source (source.after s) k rest
