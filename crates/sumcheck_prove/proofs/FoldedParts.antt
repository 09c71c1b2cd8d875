-- Parts that were each worked are what each becomes
use Rattle.std.proofs.Common.{◌≡◌, ℕ, zero, suc, List, [], ◌∷◌, map, length, slice_get, Some, refl, ◌∙◌, ap₂, subst, arith}
use Rattle.phase_run.specs.Work.{IsEachWorked}

module _ {T : Type 0} where
  same-some : (a c : T) → Some a ≡ Some c → a ≡ c
  same-some a c e = cc

  pub all-worked : (g : T → T) (f : ℕ → T → T) (ps v : List T) → ((k : ℕ) (x : T) → slice_get ps k ≡ Some x → f k x ≡ g x) → length v ≡ length ps → IsEachWorked f ps v → v ≡ map g ps
  all-worked g f [] [] is e each = refl
  all-worked g f [] (q ∷ v) is e each = absurd (omega arith)
  all-worked g f (p ∷ ps) [] is e each = absurd (omega arith)
  all-worked g f (p ∷ ps) (q ∷ v) is e each =
      ap₂ (λ (x : T) (l : List T). x ∷ l) (same-some q (f 0 p) (each 0 p refl) ∙ is 0 p refl)
      (all-worked g (λ k x. f (suc k) x) ps v (λ k x. is (suc k) x) (omega arith) (λ k x h. each (suc k) x h))

  -- a fact of all that a function gives, at a place of what it gave
  pub mapped-get : {A : Type 0} (P : T → Type 0) (h : A → T) → ((a : A) → P (h a)) → (xs : List A) (k : ℕ) (x : T) → slice_get (map h xs) k ≡ Some x → P x
  mapped-get P h p [] k x e = absurd (cc)
  mapped-get P h p (a ∷ xs) zero x e = subst P (same-some (h a) x e) (p a)
  mapped-get P h p (a ∷ xs) (suc k) x e = mapped-get P h p xs k x e
