-- The three laws of owned places.
use Rattle.std.proofs.Common.{◌≡◌, ◌≢◌, ℕ, ◌≤◌, List, [], ◌∷◌, ◌++◌, length, sym, refl, ◌∙◌, arith, length-append}
use mathlib.Core.Logic.{dite}
use native.Mathlib.Decide.{ℕ_discrete}
use Rattle.std.proofs.lemmas.Bool.Decides.{nat_tests}
use Rattle.tallies.specs.Tallies.{times, Apart}
use Rattle.turn_lock.specs.Lists.{unite}
use Rattle.tallies.proofs.api.Once.{times-append}
use Rattle.turn_lock.proofs.api.United.{times-unite}
use Rattle.job_core.proofs.api.Places.{get_front, get_within}
use Rattle.job_table.specs.declared.event.Event.{Event}
use Rattle.job_table.specs.declared.event.Event.TheVariants.{Take, Finish}
use Rattle.job_table.specs.Passes.{Pairs}

at_end : (x n : ℕ) (mine : List ℕ) → x ≡ n → 1 ≤ times x (mine ++ n ∷ [])
at_end x n mine e = let z = one x n e in omega (arith, times-append x mine (n ∷ [])) where
  one : (x n : ℕ) → x ≡ n → times x (n ∷ []) ≡ 1
  one x n e = grind (arith, nat_tests)

none_beside : (x : ℕ) (a b : List ℕ) → Apart a b → 1 ≤ times x a → times x b ≡ 0
none_beside x a b apart h = let z = apart x in omega arith

module _ {C A : Type 0} where
  pub pairs_none : (h : List (Event C A)) → Pairs h []
  pairs_none h p q j o a b = refl

  pub pairs_both : (h : List (Event C A)) (a b : List ℕ) → Pairs h a → Pairs h b → Apart a b
      → Pairs h (unite a b)
  pairs_both h a b f g apart p q j o x y =
      omega (arith, times-unite p a b, times-unite q a b, f p q j o x y, g p q j o x y)

  pub pairs_others : (h : List (Event C A)) (e : Event C A) (mine other : List ℕ)
      → Pairs (h ++ e ∷ []) (mine ++ length h ∷ []) → Pairs h other
      → Apart (mine ++ length h ∷ []) other → Pairs (h ++ e ∷ []) other
  pairs_others h e mine other f g apart p q j o a b = let both = f p q j o a b in let n : ℕ =
      length h in
      dite (ℕ_discrete p n) (λ (is : p ≡ n). let x =
      at_end p n mine is in none_beside p (mine ++ n ∷ []) other apart x ∙ sym
      (none_beside q (mine ++ n ∷ []) other apart (omega arith)))
      (λ (no : p ≢ n). dite (ℕ_discrete q n) (λ (is : q ≡ n). let x =
      at_end q n mine is in none_beside p (mine ++ n ∷ []) other apart (omega arith) ∙ sym
      (none_beside q (mine ++ n ∷ []) other apart x))
      (λ (no' : q ≢ n). let wide = length-append h (e ∷ []) in let lp =
      get_within (h ++ e ∷ []) (Take j) p a in let lq =
      get_within (h ++ e ∷ []) (Finish j o) q b in
      g p q j o (sym (get_front h (e ∷ []) p (omega arith)) ∙ a)
      (sym (get_front h (e ∷ []) q (omega arith)) ∙ b)))
