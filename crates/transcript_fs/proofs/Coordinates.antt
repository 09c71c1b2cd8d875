-- Coordinates that are drawn one after another
use Rattle.std.proofs.Common.{◌≡◌, ℕ, suc, ◌+◌, ◌-◌, ◌<◌, ◌≤◌, List, [], ◌∷◌, ◌++◌, length, set, take, IsTrue, sym, ◌∙◌, ap, subst, arith, add-one, append_assoc, append-nil, take-suc-set}
use Rattle.std.proofs.lemmas.List.{take_all}
use Rattle.field_ext.specs.Field.{K}
use Rattle.transcript_fs.specs.Source.{Source, point_draws, state_after_point}
use Rattle.transcript_fs.proofs.api.Draws.{has_any}

-- i of n coordinates are drawn
pub record Drawing (source : Source) (s0 : List ℕ) (n i : ℕ) (s : List ℕ) (point : List K) : Type 0 where
  pub drawn : take i point ++ point_draws source s (n - i) ≡ point_draws source s0 n
  pub state : state_after_point source s (n - i) ≡ state_after_point source s0 n
  pub has : IsTrue (source.has s (n - i))

pub begun : (source : Source) (s : List ℕ) (n : ℕ) (point : List K) → IsTrue (source.has s n) → Drawing source s n 0 s point
begun source s n point h =
    let e : n ≡ n - 0 = omega arith in
    record { drawn = ap (point_draws source s) (sym e); state = ap (state_after_point source s) (sym e); has = subst (λ (m : ℕ). IsTrue (source.has s m)) e h }

module _ (source : Source) (s0 : List ℕ) (n i : ℕ) (s : List ℕ) (point : List K) (p : Drawing source s0 n i s point) where
  module _ (u : i < n) where
    left : n - i ≡ suc (n - (i + 1))
    left = omega arith

    has_left : IsTrue (source.has s (suc (n - (i + 1))))
    has_left = subst (λ (m : ℕ). IsTrue (source.has s m)) left p.has

    pub has_next : IsTrue (source.has s 1)
    has_next = has_any source s (n - (i + 1)) has_left

    pub drawn_more : (x : K) (s' : List ℕ) → i < length point → x ≡ source.draw s → s' ≡ source.after s → Drawing source s0 n (i + 1) s' (set point i x)
    drawn_more x s' v hx hs = record {
      drawn =
          (λ j. take (add-one i j) (set point i x) ++ point_draws source s' (n - (i + 1)))
          ∙ ap (λ (xs : List K). xs ++ point_draws source s' (n - (i + 1))) (take-suc-set point i x v)
          ∙ append_assoc (take i point) (x ∷ []) (point_draws source s' (n - (i + 1)))
          ∙ (λ j. take i point ++ hx j ∷ point_draws source (hs j) (n - (i + 1)))
          ∙ (λ j. take i point ++ point_draws source s (sym left j))
          ∙ p.drawn;
      state = (λ j. state_after_point source (hs j) (n - (i + 1))) ∙ (λ j. state_after_point source s (sym left j)) ∙ p.state;
      has = subst (λ (t : List ℕ). IsTrue (source.has t (n - (i + 1)))) (sym hs) (source.has_after s (n - (i + 1)) has_left);
    }

  module _ (u : n ≤ i) where
    none : n - i ≡ 0
    none = omega arith

    pub drawn_all : length point ≤ i → point ≡ point_draws source s0 n
    drawn_all v = sym (take_all i point v) ∙ sym (append-nil (take i point)) ∙ (λ j. take i point ++ point_draws source s (sym none j)) ∙ p.drawn

    pub state_all : s ≡ state_after_point source s0 n
    state_all = (λ j. state_after_point source s (sym none j)) ∙ p.state
