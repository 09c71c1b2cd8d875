-- Taking items one after the other, as a loop does.
use Rattle.std.proofs.Common.{◌≡◌, ℕ, suc, ◌-◌, ◌+◌, ◌≤◌, ◌<◌, List, [], ◌∷◌, ◌++◌, Ok, Err, refl, sym, ap, ◌∙◌, append_assoc, arith}
use Rattle.std.proofs.lemmas.List.{append-nil}
use Rattle.text_parts.specs.declared.stop.ReadError.{ReadError}
use Rattle.text_parts.specs.declared.stop.ReadError.TheVariants as errors
use Rattle.text_parts.specs.Parts.{Fails, Taking, ◌>>=◌, each_at}

-- what was taken before, and what is still taken
abbrev pub with_prefix : {A : Type 0} → List A → Taking (List A) → Taking (List A)
with_prefix prefix taking = taking >>= λ x. Ok (prefix ++ x.0, x.1)

pub regroup : {A : Type 0} (prefix : List A) (a : A) (taking : Taking (List A)) → with_prefix prefix (taking >>= λ x. Ok (a ∷ x.0, x.1)) ≡ with_prefix (prefix ++ a ∷ []) taking
regroup {A} prefix a (Ok x) = ap (λ (xs : List A). Ok (xs, x.1)) (simp append_assoc)
regroup prefix a (Err s) = refl

pub goes_on : {A : Type 0} (item : ℕ → List ℕ → Taking A) (prefix : List A) (count i : ℕ) (bytes : List ℕ) (a : A) (after : List ℕ) (total : Taking (List A)) → i < count → item (count - i - 1) bytes ≡ Ok (a, after)
    → with_prefix prefix (each_at item (count - i) bytes) ≡ total → with_prefix (prefix ++ a ∷ []) (each_at item (count - (i + 1)) after) ≡ total
unfolding each_at
goes_on item prefix count i bytes a after total lt h so_far =
    let k : count - i ≡ suc (count - (i + 1)) = omega arith in
    let j : count - i - 1 ≡ count - (i + 1) = omega arith in
    let h' : item (count - (i + 1)) bytes ≡ Ok (a, after) = rw (← j) h in
    let one : with_prefix prefix (each_at item (count - i) bytes) ≡ with_prefix (prefix ++ a ∷ []) (each_at item (count - (i + 1)) after) = rw (k, h') (regroup prefix a (each_at item (count - (i + 1)) after)) in
    sym one ∙ so_far

pub ends : {A : Type 0} (item : ℕ → List ℕ → Taking A) (e : ReadError) (prefix : List A) (count i : ℕ) (bytes : List ℕ) (total : Taking (List A)) → i < count → Fails e (item (count - i - 1) bytes)
    → with_prefix prefix (each_at item (count - i) bytes) ≡ total → Fails e total
unfolding each_at
ends item errors.Memory prefix count i bytes total lt h so_far = tt
ends item (errors.Stopped s) prefix count i bytes total lt h so_far =
    let k : count - i ≡ suc (count - (i + 1)) = omega arith in
    let j : count - i - 1 ≡ count - (i + 1) = omega arith in
    let h' : item (count - (i + 1)) bytes ≡ Err s = rw (← j) h in
    let one : with_prefix prefix (each_at item (count - i) bytes) ≡ Err s = rw (k, h') refl in
    sym so_far ∙ one

pub is_done : {A : Type 0} (item : ℕ → List ℕ → Taking A) (prefix : List A) (count i : ℕ) (bytes : List ℕ) (total : Taking (List A)) → count ≤ i → with_prefix prefix (each_at item (count - i) bytes) ≡ total → total ≡ Ok (prefix, bytes)
unfolding each_at
is_done {A} item prefix count i bytes total le so_far =
    let k : count - i ≡ 0 = omega arith in
    let one : with_prefix prefix (each_at item (count - i) bytes) ≡ Ok (prefix, bytes) = rw k (ap (λ (xs : List A). Ok (xs, bytes)) (append-nil prefix)) in
    sym so_far ∙ one

-- where a part fails, so do those after it
pub fails_on : {A B : Type 0} (e : ReadError) (r : Taking A) (f : A × List ℕ → Taking B) → Fails e r → Fails e (r >>= f)
fails_on errors.Memory r f h = tt
fails_on {A} (errors.Stopped s) r f h = ap (λ (t : Taking A). t >>= f) h
