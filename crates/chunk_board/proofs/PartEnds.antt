-- The board of parts when it is made and when it is closed, and where each part is in between.
use Rattle.std.proofs.Common.{◌≡◌, ℕ, zero, suc, ◌+◌, ◌^◌, ◌<◌, ◌≤◌, true, cond, eqb, min, inl, inr, List, [], ◌∷◌, map, length, get_or, sym, refl, ap, ◌∙◌, subst, arith, Option, Some, None, lt_of_not-le}
use mathlib.Core.Logic.{dite}
use mathlib.Core.Option.{some, some-ne-none, some-injective}
use native.Mathlib.Decide.{dec_le, ℕ_discrete}
use lib.ListN.{get_elem?}
use Rattle.std.proofs.lemmas.Bool.Decides.{nat_tests}
use Rattle.std.proofs.lemmas.List.{length-map}
use Rattle.atomic_table.specs.Table.{opening, Final, Seen}
use Rattle.atomic_table.proofs.Lists.{at_map}
use Rattle.tallies.specs.Tallies.{total, times, once_below}
use Rattle.tallies.proofs.api.Totals.{whole}
use Rattle.tallies.proofs.api.Once.{counted_once}
use Rattle.chunk_board.specs.declared.part_rule.PartHand.{PartHand}
use Rattle.chunk_board.specs.declared.part_rule.PartPlan.{PartPlan}
use Rattle.chunk_board.specs.PartHands.{Homes, holding, worker_in, number_of, FitsHomes, IsPartBoard, IsHomeOrHeld, KeptParts, newcomer}
use Rattle.chunk_board.proofs.api.PartSteps.{rule, drawn_in}
use Rattle.chunk_board.proofs.api.Emptying.{at_there, within}

not_yet : (k next n : ℕ) → next ≤ k → once_below k (min next n) ≡ 0
not_yet k next n h = grind (arith, nat_tests)

-- where a total isn't 0, one has a part of it
some_one : {V : Type 0} (f : V → ℕ) (vs : List V) → 1 ≤ total f vs → (i : ℕ) × (v : V) × (get_elem? vs i ≡ some v) × (1 ≤ f v)
some_one f [] h = absurd (omega arith)
some_one f (v ∷ vs) h = dite (dec_le 1 (f v)) (λ (here : 1 ≤ f v). (0, v, refl, here)) (λ (no : ¬ (1 ≤ f v)). let lt = lt_of_not-le no in let r = some_one f vs (omega arith) in (suc r.0, r.1, r.2, r.3))

total_both : {V : Type 0} (f g h : V → ℕ) (vs : List V) → ((i : ℕ) (v : V) → get_elem? vs i ≡ some v → f v ≡ g v + h v) → total f vs ≡ total g vs + total h vs
total_both f g h [] e = refl
total_both f g h (v ∷ vs) e = let here = e 0 v refl in let r = total_both f g h vs (λ i v at. e (suc i) v at) in omega arith

held_is : (k : ℕ) (held : Option ℕ) → 1 ≤ holding k held → held ≡ Some k
held_is k None h = absurd (omega arith)
held_is k (Some j) h = ap Some (same k j h) where
  same : (k j : ℕ) → 1 ≤ cond {A = ℕ} (eqb k j) 1 0 → j ≡ k
  same k j h = grind (arith, nat_tests)

module _ {T : Type 0} where
  pub opens : (p : PartPlan T) (slots : List (Option T)) → slots ≡ map Some p.parts.value.items → length p.parts.value.items < 2 ^ 32 → p.shares < 2 ^ 32 → KeptParts p (opening (0 ∷ 0 ∷ []) slots (newcomer p))
  opens p slots e few small = let parts : List T = p.parts.value.items in let homes : Homes T = map some slots in
      let lies : (k : ℕ) (x : T) → get_elem? parts k ≡ some x → get_elem? homes k ≡ some (some (Some x)) = λ k x h. at_map some slots k (Some x) (ap (λ (l : List (Option T)). get_elem? l k) e ∙ at_map Some parts k x h) in (
        refl,
        few,
        small,
        record {
          worked = [];
          reached = ([], refl);
          backs = refl;
          puts = λ x. refl;
          capacity = length-map slots some ∙ ap length e ∙ length-map parts Some;
          fresh = λ k x h at. lies k x at;
          each = λ j v at. only j v at;
        },
      ) where
        no_some : {A : Type 0} {a : A} → None ≡ Some a → ⊥
        no_some e = cc

        first_fits : (homes : Homes T) → FitsHomes homes (newcomer p)
        first_fits homes = record { keys = λ y. refl; lies = λ i k x e. absurd (some-ne-none (k, x) (sym e)); out = λ k e. absurd (no_some e) }

        only : (j : ℕ) (v : PartHand T) → get_elem? (newcomer p ∷ []) j ≡ some v → FitsHomes (map some slots) v
        only zero v at = subst (FitsHomes (map some slots)) (some-injective (newcomer p) v at) (first_fits (map some slots))
        only (suc j) v at = absurd (some-ne-none v (sym at))

  -- the hand with the whole share has drawn what was drawn
  whole_drawn : (parts : List T) (shares next back : ℕ) (homes : Homes T) (hands : List (PartHand T)) (i : ℕ) (v : PartHand T) → IsPartBoard parts shares next back homes hands → get_elem? hands i ≡ some v → v.shares ≡ shares
      → (x : ℕ) → times x v.drawn ≡ once_below x (min next (length parts))
  whole_drawn parts shares next back homes hands i v b at is x = let r = rule parts shares next back homes hands b in
      sym (whole (λ u. times x u.drawn) (λ u. u.shares) (map worker_in hands) i (worker_in v) (at_map worker_in hands i v at) (λ j u e z. ap (times x) (r.idle j u e z)) (r.shared ∙ sym is)) ∙ r.drawn x

  -- a number that is counted is in the list
  found : (l : List (ℕ × T)) (k : ℕ) → 1 ≤ times k (map number_of l) → (i : ℕ) × (x : T) × (get_elem? l i ≡ some (k, x))
  found [] k h = absurd (omega arith)
  found (p ∷ l) k h = dite (ℕ_discrete k p.0)
      (λ (e : k ≡ p.0). (0, p.1, λ i. some (sym e i, p.1)))
      (λ n. let r = found l k (let z : cond {A = ℕ} (eqb k p.0) 1 0 ≡ 0 = not_key k p.0 n in omega arith) in (suc r.0, r.1, r.2)) where
        not_key : (j k : ℕ) → ¬ (j ≡ k) → cond {A = ℕ} (eqb j k) 1 0 ≡ 0
        not_key j k n = grind (arith, nat_tests)

  -- each part lies at home, or one hand holds it
  pub home_or_held : (parts : List T) (shares next back : ℕ) (homes : Homes T) (hands : List (PartHand T)) → IsPartBoard parts shares next back homes hands → (k : ℕ) → k < length parts → IsHomeOrHeld k homes hands
  home_or_held parts shares next back homes hands b k low = let drawn = drawn_in parts shares next back homes hands b k in
      let both = total_both (λ (v : PartHand T). times k v.drawn) (λ (v : PartHand T). times k (map number_of v.put)) (λ (v : PartHand T). holding k v.held) hands (λ j v at. (b.each j v at).keys k) in
      dite (dec_le next k)
      (λ (h : next ≤ k). let x = at_there parts k low in let z = not_yet k next (length parts) h in inl (x.0, b.fresh k x.0 h x.1, omega arith))
      (λ (no : ¬ (next ≤ k)). let lt : k < next = lt_of_not-le no in let one = counted_once k next (length parts) lt low in
      dite (dec_le 1 (total (λ (v : PartHand T). times k (map number_of v.put)) hands))
      (λ (p : 1 ≤ total (λ (v : PartHand T). times k (map number_of v.put)) hands). let s = some_one (λ (v : PartHand T). times k (map number_of v.put)) hands p in let r = found s.1.put k s.3 in inl (r.1, (b.each s.0 s.1 s.2).lies r.0 k r.1 r.2, omega arith))
      (λ (none_put : ¬ (1 ≤ total (λ (v : PartHand T). times k (map number_of v.put)) hands)). let few = lt_of_not-le none_put in let s = some_one (λ (v : PartHand T). holding k v.held) hands (omega arith) in inr ((b.each s.0 s.1 s.2).out k (held_is k s.1.held s.3), omega arith)))

  -- what the last look at the board shows
  pub record Left (parts : List T) (drawn : List ℕ) (put : List (ℕ × T)) (next : ℕ) (slots : List (Option T)) : Type 0 where
    pub once : (x : ℕ) → times x drawn ≡ once_below x (min next (length parts))
    pub put_there : (i k : ℕ) (x : T) → get_elem? put i ≡ some (k, x) → get_elem? slots k ≡ some (Some x)
    pub kept_there : (k : ℕ) (x : T) → times k drawn ≡ 0 → get_elem? parts k ≡ some x → get_elem? slots k ≡ some (Some x)
    pub full : (k : ℕ) → k < length parts → (x : T) × (get_elem? slots k ≡ some (Some x))

  pub lefts : (p : PartPlan T) (id : ℕ) (v : PartHand T) (words : List ℕ) (slots : List (Option T)) → v.shares ≡ p.shares → v.held ≡ None → Final (Seen (KeptParts p) id v) words slots
      → Left p.parts.value.items v.drawn v.put (get_or words 0 0) slots
  lefts p id v words slots whole_share free f = let s = f.0 in let kept = f.1.0 in let at = f.1.1 in let b = kept.3 in let parts : List T = p.parts.value.items in let next : ℕ = get_or s.words 0 0 in
      let fit = b.each id v at in
      let home : (k : ℕ) (x : Option T) → get_elem? s.homes k ≡ some (some x) → get_elem? slots k ≡ some x = f.4 in
      let once : (x : ℕ) → times x v.drawn ≡ once_below x (min next (length parts)) = whole_drawn parts p.shares next (get_or s.words 1 0) s.homes s.views id v b at whole_share in
      let put_there : (i k : ℕ) (x : T) → get_elem? v.put i ≡ some (k, x) → get_elem? slots k ≡ some (Some x) = λ i k x e. home k (Some x) (fit.lies i k x e) in
      let kept_there : (k : ℕ) (x : T) → times k v.drawn ≡ 0 → get_elem? parts k ≡ some x → get_elem? slots k ≡ some (Some x) = λ k x z e.
      home k (Some x) (b.fresh k x (dite (dec_le next k) (λ (h : next ≤ k). h) (λ no. let lt : k < next = lt_of_not-le no in let o = once k in let c = counted_once k next (length parts) lt (within parts k x e) in absurd (omega arith))) e) in record {
        once = λ x. once x ∙ ap (λ (l : List ℕ). once_below x (min (get_or l 0 0) (length parts))) f.2;
        put_there = put_there;
        kept_there = kept_there;
        full = λ k h. dite (ℕ_discrete (times k v.drawn) 0)
            (λ (z : times k v.drawn ≡ 0). let a = at_there parts k h in (a.0, kept_there k a.0 z a.1))
            (λ no. let keys = fit.keys k in let d : holding k v.held ≡ 0 = ap (holding k) free in let r = found v.put k (omega arith) in (r.1, put_there r.0 k r.1 r.2));
      }

  -- a stopped hand means that each part was drawn
  pub all_stopped : (p : PartPlan T) (id : ℕ) (v : PartHand T) (words : List ℕ) (slots : List (Option T)) → v.stopped ≡ true → Final (Seen (KeptParts p) id v) words slots → length p.parts.value.items ≤ get_or words 0 0
  all_stopped p id v words slots stopped f = let s = f.0 in let b = f.1.0.3 in let at = f.1.1 in
      let d = (rule p.parts.value.items p.shares (get_or s.words 0 0) (get_or s.words 1 0) s.homes s.views b).done id (worker_in v) (at_map worker_in s.views id v at) stopped in let e = ap (λ (l : List ℕ). get_or l 0 0) f.2 in omega arith
