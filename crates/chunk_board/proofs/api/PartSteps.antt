-- Each step on the board of parts is a step of the claim machine, and keeps the parts in their slots or hands.
use Rattle.std.proofs.Common.{◌≡◌, ◌≢◌, ℕ, zero, suc, ◌+◌, ◌%◌, ◌^◌, ◌<◌, ◌≤◌, Bool, true, false, eqb, ltb, cond, min, ◌⊎◌, List, [], ◌∷◌, ◌++◌, map, length, get_or, set, sym, refl, ap, ◌∙◌, subst, ⊎_elim, inl, inr, arith, length-set, length-append, get_or-set_same, get_or-set_other, Option, Some, None, lt_of_not-le}
use mathlib.Core.Logic.{dite}
use mathlib.Core.Option.{none, some, some-ne-none, some-injective}
use native.Mathlib.Decide.{dec_le}
use lib.ListN.{get_elem?}
use Rattle.std.proofs.lemmas.Bool.Decides.{nat_tests}
use Rattle.std.proofs.lemmas.List.{map-append, map-set, length-map}
use Rattle.atomic_table.specs.Table.{State, Me, step, keeps, takes, gives, put_back, Allows}
use Rattle.atomic_table.proofs.Lists.{at_set, at_snoc, at_map, set_here, set_else, set_again}
use Rattle.tallies.specs.Tallies.{total, times, once_below}
use Rattle.tallies.proofs.api.Totals.{total_set, one_le, two_le, total_le, each_set, each_other, each_snoc, inside}
use Rattle.tallies.proofs.api.Once.{times-append, counted_below, one_at_most, self_one, few}
use Rattle.chunk_board.specs.declared.part_rule.PartHand.{PartHand}
use Rattle.chunk_board.specs.declared.part_rule.PartPlan.{PartPlan}
use Rattle.chunk_board.specs.ClaimMachine.{Worker, worker, phase, Claim, Work, Split, Join, claiming, gone, pieces_of, IsStep, IsRule, AreResults}
use Rattle.chunk_board.specs.Hands.{no_output, IsReached, IsClaimStep}
use Rattle.chunk_board.specs.PartHands.{Homes, holding, worker_in, number_of, FitsHomes, IsPartBoard, KeptParts, IsWorkStep, IsTakeStep, IsPutStep, TookPart, PutPart, CountedParts, left_part_hand, right_part_hand, joined_parts, spent_parts}
use Rattle.chunk_board.proofs.Steps.{one_more, sound_of, stopped_le, below_all, worker_few, all_drawn}
use Rattle.chunk_board.proofs.api.Emptying.{at_there}

total-map : {V W : Type 0} (g : V → W) (f : W → ℕ) (vs : List V) → total f (map g vs) ≡ total (λ v. f (g v)) vs
total-map g f [] = refl
total-map g f (v ∷ vs) = ap (λ (k : ℕ). f (g v) + k) (total-map g f vs)

claiming_one : (n next : ℕ) (v : Worker) → next < n → claiming n next v ≡ worker v.shares (v.drawn ++ next ∷ []) v.stopped
claiming_one n next v h = ap (λ (t : Bool). cond t (worker v.shares (v.drawn ++ next ∷ []) v.stopped) (worker v.shares v.drawn true)) below where
  below : ltb next n ≡ true
  below = grind (arith, nat_tests)

claiming_none : (n next : ℕ) (v : Worker) → n ≤ next → claiming n next v ≡ worker v.shares v.drawn true
claiming_none n next v h = ap (λ (t : Bool). cond t (worker v.shares (v.drawn ++ next ∷ []) v.stopped) (worker v.shares v.drawn true)) above where
  above : ltb next n ≡ false
  above = grind (arith, nat_tests)

-- the words after a step on one of the two
first_word : (ws : List ℕ) (y : ℕ) → length ws ≡ 2 → (get_or (set ws 0 y) 0 0 ≡ y) × (get_or (set ws 0 y) 1 0 ≡ get_or ws 1 0) × (length (set ws 0 y) ≡ 2)
first_word ws y e = (get_or-set_same ws 0 y 0 (omega arith), get_or-set_other ws 0 1 y 0 (λ s. absurd (omega arith)), length-set ws 0 y ∙ e)

second_word : (ws : List ℕ) (y : ℕ) → length ws ≡ 2 → (get_or (set ws 1 y) 1 0 ≡ y) × (get_or (set ws 1 y) 0 0 ≡ get_or ws 0 0) × (length (set ws 1 y) ≡ 2)
second_word ws y e = (get_or-set_same ws 1 y 0 (omega arith), get_or-set_other ws 1 0 y 0 (λ s. absurd (omega arith)), length-set ws 1 y ∙ e)

at_both : {A : Type 0} (a b : List A) (i : ℕ) (x : A) → get_elem? (a ++ b) i ≡ some x → ((j : ℕ) × (get_elem? a j ≡ some x)) ⊎ ((j : ℕ) × (get_elem? b j ≡ some x))
at_both [] b i x e = inr (i, e)
at_both (y ∷ a) b zero x e = inl (0, e)
at_both (y ∷ a) b (suc i) x e = ⊎_elim (λ (p : (j : ℕ) × (get_elem? a j ≡ some x)). inl (suc p.0, p.1)) (λ (p : (j : ℕ) × (get_elem? b j ≡ some x)). inr p) (at_both a b i x e)

same_some : {A : Type 0} (a c : A) → Some a ≡ Some c → a ≡ c
same_some a c e = cc

pub no_some : {A : Type 0} {a : A} → None ≡ Some a → ⊥
no_some e = cc

module _ {T : Type 0} where
  -- a number that is in the list is counted
  pub counted : (l : List (ℕ × T)) (i k : ℕ) (x : T) → get_elem? l i ≡ some (k, x) → 1 ≤ times k (map number_of l)
  counted [] i k x e = absurd (some-ne-none (k, x) (sym e))
  counted (p ∷ l) zero k x e = let is : p.0 ≡ k = ap (λ (q : ℕ × T). q.0) (some-injective p (k, x) e) in let one = self_one k in let a : cond {A = ℕ} (eqb k p.0) 1 0 ≡ 1 = ap (λ (y : ℕ). cond {A = ℕ} (eqb k y) 1 0) is ∙ one in omega arith
  counted (p ∷ l) (suc i) k x e = omega (arith, counted l i k x e)

  pub held_one : (v : PartHand T) (k : ℕ) → v.held ≡ Some k → holding k v.held ≡ 1
  held_one v k e = ap (holding k) e ∙ self_one k

  module _ (parts : List T) (shares next back : ℕ) (homes : Homes T) (hands : List (PartHand T)) (b : IsPartBoard parts shares next back homes hands) where
    pub rule : IsRule (length parts) shares next (map worker_in hands)
    rule = (sound_of (length parts) shares (phase next (map worker_in hands) b.worked) b.reached).0

    results : AreResults no_output (map worker_in hands) b.worked
    results = (sound_of (length parts) shares (phase next (map worker_in hands) b.worked) b.reached).1

    pub drawn_in : (x : ℕ) → total (λ (v : PartHand T). times x v.drawn) hands ≡ once_below x (min next (length parts))
    drawn_in x = sym (total-map worker_in (λ v. times x v.drawn) hands) ∙ rule.drawn x

    drawn_low : (j : ℕ) (v : PartHand T) → get_elem? hands j ≡ some v → (k : ℕ) → 1 ≤ times k v.drawn → k < next
    drawn_low j v at k one = let le = one_le (λ (u : PartHand T). times k u.drawn) hands j v at in let all = drawn_in k in (counted_below k next (length parts) (omega arith)).0

    -- what a hand has put back was drawn
    put_drawn : (j : ℕ) (v : PartHand T) → get_elem? hands j ≡ some v → (i k : ℕ) (x : T) → get_elem? v.put i ≡ some (k, x) → (1 ≤ times k v.drawn) × (k < next)
    put_drawn j v at i k x e = let c = counted v.put i k x e in let keys = (b.each j v at).keys k in let one : 1 ≤ times k v.drawn = omega arith in (one, drawn_low j v at k one)

    -- what it holds, too
    held_drawn : (j : ℕ) (v : PartHand T) → get_elem? hands j ≡ some v → (k : ℕ) → v.held ≡ Some k → (1 ≤ times k v.drawn) × (k < next)
    held_drawn j v at k e = let c = held_one v k e in let keys = (b.each j v at).keys k in let one : 1 ≤ times k v.drawn = omega arith in (one, drawn_low j v at k one)

    pub hand_few : (i : ℕ) (v : PartHand T) → get_elem? hands i ≡ some v → length v.drawn ≤ length parts
    hand_few i v at = worker_few (length parts) shares next (map worker_in hands) i (worker_in v) (at_map worker_in hands i v at) rule

    -- no more were put back than there are
    pub backs_few : back ≤ length parts
    backs_few = let f = few (length parts) (pieces_of b.worked) (λ x. below_all x next (length parts) (times x (pieces_of b.worked)) (let o = results.once x in let d = rule.drawn x in omega arith)) in
        let l = length-map b.worked (λ (r : ℕ × Unit {0}). r.0) in let e = b.backs in omega arith

    same_puts : (id : ℕ) (v w : PartHand T) → get_elem? hands id ≡ some v → w.put ≡ v.put → (x : ℕ) → times x (pieces_of b.worked) ≡ total (λ (u : PartHand T). times x (map number_of u.put)) (set hands id w)
    same_puts id v w at e x = let t = total_set (λ (u : PartHand T). times x (map number_of u.put)) hands id v w at in let p = b.puts x in let s = ap (λ (l : List (ℕ × T)). times x (map number_of l)) e in omega arith

    module _ (id : ℕ) (v : PartHand T) (at : get_elem? hands id ≡ some v) (some_share : 0 < v.shares) where
      claim_step : (w : PartHand T) → v.stopped ≡ false → worker_in w ≡ claiming (length parts) next (worker_in v)
          → IsStep (length parts) no_output (Claim id) (phase next (map worker_in hands) b.worked) (phase (next + 1) (map worker_in (set hands id w)) b.worked)
      claim_step w going is = (
        worker_in v,
        (at_map worker_in hands id v at, some_share),
        going,
        ap (λ (ws : List Worker). phase (next + 1) ws b.worked) (map-set worker_in hands id w ∙ ap (set (map worker_in hands) id) is),
      )

      claim_reached : (w : PartHand T) → v.stopped ≡ false → worker_in w ≡ claiming (length parts) next (worker_in v) → IsReached (length parts) shares (phase (next + 1) (map worker_in (set hands id w)) b.worked)
      claim_reached w going is = one_more (length parts) shares (phase next (map worker_in hands) b.worked) (phase (next + 1) (map worker_in (set hands id w)) b.worked) (Claim id) b.reached (claim_step w going is)

      pub claim_told : (w : PartHand T) → v.stopped ≡ false → worker_in w ≡ claiming (length parts) next (worker_in v) → IsClaimStep (length parts) (worker_in v) next (worker_in w)
      claim_told w going is = record {
        shares = shares;
        before = phase next (map worker_in hands) b.worked;
        after = phase (next + 1) (map worker_in (set hands id w)) b.worked;
        seat = id;
        reached = b.reached;
        at = refl;
        step = claim_step w going is;
        was = at_map worker_in hands id v at;
        is = at_map worker_in (set hands id w) id w (set_here hands id w (inside hands id v at));
        all = all_drawn (length parts) shares next (map worker_in hands) rule;
      }

      claim_one : v.stopped ≡ false → v.held ≡ None → next < length parts → IsPartBoard parts shares (next + 1) back (set homes next none) (set hands id (record v { drawn = v.drawn ++ next ∷ []; held = Some next }))
      claim_one going free h = let w : PartHand T = record v { drawn = v.drawn ++ next ∷ []; held = Some next } in let none_held : (y : ℕ) → holding y v.held ≡ 0 = λ y. ap (holding y) free in
          let inside_room : next < length homes = let c = b.capacity in omega arith in record {
            worked = b.worked;
            reached = claim_reached w going (sym (claiming_one (length parts) next (worker_in v) h));
            backs = b.backs;
            puts = same_puts id v w at refl;
            capacity = length-set homes next none ∙ b.capacity;
            fresh = λ k x le e. set_else homes next k none (λ s. absurd (omega arith)) ∙ b.fresh k x (omega arith) e;
            each = each_set (FitsHomes (set homes next none)) hands id w
                record {
                  keys = λ y. let a = (b.each id v at).keys y in let c = none_held y in omega (arith, times-append y v.drawn (next ∷ []));
                  lies = λ i k x e. set_else homes next k none (λ s. let d = put_drawn id v at i k x e in absurd (omega arith)) ∙ (b.each id v at).lies i k x e;
                  out = λ k e. subst (λ (k : ℕ). get_elem? (set homes next none) k ≡ some none) (same_some next k e) (set_here homes next none inside_room);
                }
                (λ j u e. let f = b.each j u e in record {
                  keys = f.keys;
                  lies = λ i k x p. set_else homes next k none (λ s. let d = put_drawn j u e i k x p in absurd (omega arith)) ∙ f.lies i k x p;
                  out = λ k p. set_else homes next k none (λ s. let d = held_drawn j u e k p in absurd (omega arith)) ∙ f.out k p;
                });
          }

      claim_none : v.stopped ≡ false → length parts ≤ next → IsPartBoard parts shares (next + 1) back homes (set hands id (record v { stopped = true }))
      claim_none going h = let w : PartHand T = record v { stopped = true } in let f = b.each id v at in record {
        worked = b.worked;
        reached = claim_reached w going (sym (claiming_none (length parts) next (worker_in v) h));
        backs = b.backs;
        puts = same_puts id v w at refl;
        capacity = b.capacity;
        fresh = λ k x le e. b.fresh k x (omega arith) e;
        each = each_set (FitsHomes homes) hands id w record { keys = f.keys; lies = f.lies; out = f.out } b.each;
      }

      module _ (at' : ℕ) (holds : v.held ≡ Some at') (x : T) where
        abbrev after_put : PartHand T
        after_put = record v { put = v.put ++ (at', x) ∷ []; held = None }

        held_key : (y : ℕ) → holding y v.held ≡ cond (eqb y at') 1 0
        held_key y = ap (holding y) holds

        mine : 1 ≤ times at' v.drawn
        mine = (held_drawn id v at at' holds).0

        more_put : (y : ℕ) → times y (map number_of (v.put ++ (at', x) ∷ [])) ≡ times y (map number_of v.put) + cond (eqb y at') 1 0
        more_put y = let d = ap (times y) (map-append number_of v.put ((at', x) ∷ [])) in omega (arith, times-append y (map number_of v.put) (at' ∷ []))

        -- no hand has put it back before
        not_worked : times at' (pieces_of b.worked) ≡ 0
        not_worked = let puts = b.puts at' in let w : PartHand T = after_put in
            let t = total_set (λ (u : PartHand T). times at' (map number_of u.put)) hands id v w at in
            let t' = total_set (λ (u : PartHand T). times at' u.drawn) hands id v w at in
            let le = total_le (λ (u : PartHand T). times at' (map number_of u.put)) (λ (u : PartHand T). times at' u.drawn) (set hands id w)
            (each_set (λ (u : PartHand T). times at' (map number_of u.put) ≤ times at' u.drawn) hands id w (let a = (b.each id v at).keys at' in let c = held_key at' in let m = more_put at' in omega arith) (λ j u e. let a = (b.each j u e).keys at' in omega arith)) in
            let all = drawn_in at' in let most = one_at_most at' (min next (length parts)) in let m = more_put at' in let one = self_one at' in omega arith

        work_step : IsStep (length parts) no_output (Work id at') (phase next (map worker_in hands) b.worked) (phase next (map worker_in (set hands id after_put)) (b.worked ++ (at', tt) ∷ []))
        work_step = (
          worker_in v,
          (at_map worker_in hands id v at, some_share),
          mine,
          not_worked,
          ap (λ (ws : List Worker). phase next ws (b.worked ++ (at', tt) ∷ [])) (map-set worker_in hands id after_put ∙ set_again (map worker_in hands) id (worker_in v) (at_map worker_in hands id v at)),
        )

        pub work_told : IsWorkStep (length parts) (worker_in v) at'
        work_told = record { shares = shares; before = phase next (map worker_in hands) b.worked; after = phase next (map worker_in (set hands id after_put)) (b.worked ++ (at', tt) ∷ []); seat = id; reached = b.reached; step = work_step; was = at_map worker_in hands id v at }

        more_worked : (y : ℕ) → times y (pieces_of (b.worked ++ (at', tt) ∷ [])) ≡ times y (pieces_of b.worked) + cond (eqb y at') 1 0
        more_worked y = let d = ap (times y) (map-append (λ (r : ℕ × Unit {0}). r.0) b.worked ((at', tt) ∷ [])) in omega (arith, times-append y (pieces_of b.worked) (at' ∷ []))

        not_put : (i k : ℕ) (y : T) → get_elem? v.put i ≡ some (k, y) → k ≡ at' → ⊥
        not_put i k y e s = let c = counted v.put i k y e in let a = (b.each id v at).keys k in let d = held_key k in let is : times k v.drawn ≡ times at' v.drawn = ap (λ (z : ℕ). times z v.drawn) s in
            let one : cond {A = ℕ} (eqb k at') 1 0 ≡ 1 = ap (λ (z : ℕ). cond {A = ℕ} (eqb z at') 1 0) s ∙ self_one at' in
            let le = one_le (λ (u : PartHand T). times k u.drawn) hands id v at in let all = drawn_in k in let most = one_at_most k (min next (length parts)) in omega arith

        -- what another hand drew isn't this part
        apart : (j : ℕ) (u : PartHand T) → j ≢ id → get_elem? hands j ≡ some u → (k : ℕ) → 1 ≤ times k u.drawn → k ≡ at' → ⊥
        apart j u other e k one s = let is : times k u.drawn ≡ times at' u.drawn = ap (λ (z : ℕ). times z u.drawn) s in
            let two = two_le (λ (z : PartHand T). times at' z.drawn) hands id j v u at e (λ q. other (sym q)) in let all = drawn_in at' in let most = one_at_most at' (min next (length parts)) in let m = mine in omega arith

        put_one : IsPartBoard parts shares next (back + 1) (set homes at' (some (Some x))) (set hands id after_put)
        put_one = let w : PartHand T = after_put in let f = b.each id v at in
            let low = counted_below at' next (length parts) (let le = one_le (λ (u : PartHand T). times at' u.drawn) hands id v at in let all = drawn_in at' in let m = mine in omega arith) in
            let inside_room : at' < length homes = let c = b.capacity in let d = low.1 in omega arith in record {
              worked = b.worked ++ (at', tt) ∷ [];
              reached = one_more (length parts) shares (phase next (map worker_in hands) b.worked) (phase next (map worker_in (set hands id w)) (b.worked ++ (at', tt) ∷ [])) (Work id at') b.reached work_step;
              backs = let e = b.backs in omega (arith, length-append b.worked ((at', tt) ∷ []));
              puts = λ y. let t = total_set (λ (u : PartHand T). times y (map number_of u.put)) hands id v w at in let o = b.puts y in omega (arith, more_worked y, more_put y);
              capacity = length-set homes at' (some (Some x)) ∙ b.capacity;
              fresh = λ k y h e. let d = low.0 in set_else homes at' k (some (Some x)) (λ s. absurd (omega arith)) ∙ b.fresh k y h e;
              each = each_other (FitsHomes (set homes at' (some (Some x)))) hands id w
                  record {
                    keys = λ y. let a = f.keys y in let c = held_key y in omega (arith, more_put y);
                    lies = λ i k y e. ⊎_elim (λ (old : get_elem? v.put i ≡ some (k, y)). set_else homes at' k (some (Some x)) (not_put i k y old) ∙ f.lies i k y old)
                        (λ (new : (at', x) ≡ (k, y)). ap (get_elem? (set homes at' (some (Some x)))) (ap (λ (p : ℕ × T). p.0) (sym new)) ∙ set_here homes at' (some (Some x)) inside_room ∙ ap (λ (p : ℕ × T). some (some (Some p.1))) new) (at_snoc v.put (at', x) (k, y) i e);
                    out = λ k e. absurd (no_some e);
                  }
                  (λ j u other e. let g = b.each j u e in record {
                    keys = g.keys;
                    lies = λ i k y p. set_else homes at' k (some (Some x)) (apart j u other e k (put_drawn j u e i k y p).0) ∙ g.lies i k y p;
                    out = λ k p. set_else homes at' k (some (Some x)) (apart j u other e k (held_drawn j u e k p).0) ∙ g.out k p;
                  });
            }

    pub split_board : (id : ℕ) (v : PartHand T) → get_elem? hands id ≡ some v → (k : ℕ) → 0 < k → k < v.shares → IsPartBoard parts shares next back homes (set hands id (left_part_hand k v) ++ right_part_hand k v ∷ [])
    split_board id v at k some_given some_left = let l : PartHand T = left_part_hand k v in let m : PartHand T = right_part_hand k v in let vs : List (PartHand T) = set hands id l in let f = b.each id v at in record {
      worked = b.worked;
      reached = one_more (length parts) shares (phase next (map worker_in hands) b.worked) (phase next (map worker_in (vs ++ m ∷ [])) b.worked) (Split id k) b.reached (
        worker_in v,
        (at_map worker_in hands id v at, omega arith),
        some_given,
        some_left,
        ap (λ (ws : List Worker). phase next ws b.worked) (map-append worker_in vs (m ∷ []) ∙ ap (λ (ws : List Worker). ws ++ worker_in m ∷ []) (map-set worker_in hands id l)),
      );
      backs = b.backs;
      puts = λ x. same_puts id v l at refl x ∙ sym (snoc_nothing x vs m refl);
      capacity = b.capacity;
      fresh = b.fresh;
      each = each_snoc (FitsHomes homes) vs m record { keys = λ y. refl; lies = λ i k x e. absurd (some-ne-none (k, x) (sym e)); out = λ k e. absurd (no_some e) }
          (each_set (FitsHomes homes) hands id l record { keys = f.keys; lies = f.lies; out = f.out } b.each);
    } where
      snoc_nothing : (x : ℕ) (vs : List (PartHand T)) (m : PartHand T) → m.put ≡ [] → total (λ (u : PartHand T). times x (map number_of u.put)) (vs ++ m ∷ []) ≡ total (λ (u : PartHand T). times x (map number_of u.put)) vs
      snoc_nothing x [] m e = let z : times x (map number_of m.put) ≡ 0 = ap (λ (l : List (ℕ × T)). times x (map number_of l)) e in omega arith
      snoc_nothing x (u ∷ vs) m e = omega (arith, snoc_nothing x vs m e)

    pub join_board : (id : ℕ) (v : PartHand T) (other : ℕ) (w : PartHand T) → get_elem? hands id ≡ some v → other ≢ id → get_elem? (set hands id (joined_parts v w)) other ≡ some w → 0 < v.shares → 0 < w.shares → v.held ≡ None → w.held ≡ None
        → IsPartBoard parts shares next back homes (set (set hands id (joined_parts v w)) other spent_parts)
    join_board id v other w at two there some_share theirs free free' = let j : PartHand T = joined_parts v w in let vs : List (PartHand T) = set hands id j in let z : PartHand T = spent_parts in
        let at' : get_elem? hands other ≡ some w = ⊎_elim (λ (x : (other ≡ id) × (j ≡ w)). absurd (two x.0)) (λ (x : (other ≢ id) × (get_elem? hands other ≡ some w)). x.1) (at_set hands id other j w there) in
        let f = b.each id v at in let g = b.each other w at' in record {
          worked = b.worked;
          reached = one_more (length parts) shares (phase next (map worker_in hands) b.worked) (phase next (map worker_in (set vs other z)) b.worked) (Join id other) b.reached (
            worker_in v,
            worker_in w,
            (at_map worker_in hands id v at, some_share),
            (at_map worker_in hands other w at', theirs),
            two,
            ap (λ (ws : List Worker). phase next ws b.worked) (map-set worker_in vs other z ∙ ap (λ (ws : List Worker). set ws other gone) (map-set worker_in hands id j)),
          );
          backs = b.backs;
          puts = λ x. let t = total_set (λ (u : PartHand T). times x (map number_of u.put)) hands id v j at in let t' = total_set (λ (u : PartHand T). times x (map number_of u.put)) vs other w z there in let o = b.puts x in
              let e = ap (times x) (map-append number_of v.put w.put) in omega (arith, times-append x (map number_of v.put) (map number_of w.put));
          capacity = b.capacity;
          fresh = b.fresh;
          each = each_set (FitsHomes homes) vs other z record { keys = λ y. refl; lies = λ i k x e. absurd (some-ne-none (k, x) (sym e)); out = λ k e. absurd (no_some e) }
              (each_set (FitsHomes homes) hands id j
              record {
                keys = λ y. let a = f.keys y in let c = g.keys y in let d : holding y v.held ≡ 0 = ap (holding y) free in let d' : holding y w.held ≡ 0 = ap (holding y) free' in
                    let e = ap (times y) (map-append number_of v.put w.put) in omega (arith, times-append y v.drawn w.drawn, times-append y (map number_of v.put) (map number_of w.put));
                lies = λ i k x e. ⊎_elim (λ (p : (j : ℕ) × (get_elem? v.put j ≡ some (k, x))). f.lies p.0 k x p.1) (λ (p : (j : ℕ) × (get_elem? w.put j ≡ some (k, x))). g.lies p.0 k x p.1) (at_both v.put w.put i (k, x) e);
                out = λ k e. absurd (no_some e);
              } b.each);
        }

  in_views : (l : List (PartHand T)) (id : ℕ) (v w : PartHand T) → get_elem? l id ≡ some v → get_elem? (set l id w) id ≡ some w
  in_views l id v w at = set_here l id w (inside l id v at)

  moved : (parts : List T) (shares a c a' c' : ℕ) (homes : Homes T) (hands : List (PartHand T)) → a' ≡ a → c' ≡ c → IsPartBoard parts shares a c homes hands → IsPartBoard parts shares a' c' homes hands
  moved parts shares a c a' c' homes hands e d b = subst (λ (z : ℕ × ℕ). IsPartBoard parts shares z.0 z.1 homes hands) (λ k. (sym e k, sym d k)) b

  on_parts : (parts parts' : List T) (shares a c : ℕ) (homes : Homes T) (hands : List (PartHand T)) → parts' ≡ parts → IsPartBoard parts shares a c homes hands → IsPartBoard parts' shares a c homes hands
  on_parts parts parts' shares a c homes hands e b = subst (λ (l : List T). IsPartBoard l shares a c homes hands) (sym e) b

  pub claims : (p : PartPlan T) (slots id : ℕ) (me : Me (Option T) (PartHand T)) → me.0.parts ≡ p.parts.value.items → 0 < me.0.shares → me.0.stopped ≡ false → me.0.held ≡ None
      → Allows (KeptParts p) slots id me 0 (λ x. (x + 1) % 2 ^ 64) (TookPart (step slots 0 1 0 none) me)
  claims p slots id me is some_share going free s r _ at _ = let v : PartHand T = me.0 in let x : ℕ = get_or s.words 0 0 in let back : ℕ = get_or s.words 1 0 in let y : ℕ = (x + 1) % 2 ^ 64 in let b = r.3 in let parts : List T = p.parts.value.items in
      let same : length v.parts ≡ length parts = ap length is in
      let next : y ≡ x + 1 = let u = rule parts p.shares x back s.homes s.views b in let c = u.bound in let d = u.shared in let e = r.1 in let f = r.2 in omega (arith, stopped_le (map worker_in s.views)) in
      let ws = first_word s.words y r.0 in
      let word : (homes : Homes T) (hands : List (PartHand T)) → IsPartBoard parts p.shares (x + 1) back homes hands → IsPartBoard parts p.shares (get_or (set s.words 0 y) 0 0) (get_or (set s.words 0 y) 1 0) homes hands =
      λ homes hands k. moved parts p.shares (x + 1) back _ _ homes hands (ws.0 ∙ next) ws.1 k in
      let mine : (homes : Homes T) (w : PartHand T) → IsPartBoard parts p.shares (x + 1) back homes (set s.views id w) → worker_in w ≡ claiming (length parts) x (worker_in v) → (length w.drawn ≤ length v.parts) × IsTakeStep v x w = λ homes w k told. (
        (let few = hand_few parts p.shares (x + 1) back homes (set s.views id w) k id w (in_views s.views id v w at) in omega arith),
        record {
          shares = p.shares;
          back = back;
          homes = s.homes;
          homes' = homes;
          hands = s.views;
          seat = id;
          before = on_parts parts v.parts p.shares x back s.homes s.views is b;
          sits = at;
          after = on_parts parts v.parts p.shares (x + 1) back homes (set s.views id w) is k;
          step = subst (λ (n : ℕ). IsClaimStep n (worker_in v) x (worker_in w)) (sym same) (claim_told parts p.shares x back s.homes s.views b id v at some_share w going told);
        },
      ) in
      dite (dec_le (length parts) x)
      (λ (h : length parts ≤ x). let w : PartHand T = record v { stopped = true } in let k = claim_none parts p.shares x back s.homes s.views b id v at some_share going h in let m = mine s.homes w k (sym (claiming_none (length parts) x (worker_in v) h)) in (
        w,
        keeps,
        tt,
        (ws.2, r.1, r.2, word s.homes (set s.views id w) k),
        ((λ lt. absurd (omega arith)), (λ _. refl), m.0, m.1),
      ))
      (λ (no : ¬ (length parts ≤ x)). let h : x < length parts = lt_of_not-le no in let part = at_there parts x h in let w : PartHand T = record v { drawn = v.drawn ++ x ∷ []; held = Some x } in
      let k = claim_one parts p.shares x back s.homes s.views b id v at some_share going free h in let m = mine (set s.homes x none) w k (sym (claiming_one (length parts) x (worker_in v) h)) in (
        w,
        takes x (Some part.0),
        b.fresh x part.0 (omega arith) part.1,
        (ws.2, r.1, r.2, word (set s.homes x none) (set s.views id w) k),
        ((λ _. record { part = part.0; is = ap (λ (l : List T). get_elem? l x) is ∙ part.1; took = refl; hand = refl }), (λ le. absurd (omega arith)), m.0, m.1),
      ))

  pub puts : (p : PartPlan T) (slots id : ℕ) (me : Me (Option T) (PartHand T)) (at : ℕ) (x : T) → me.0.parts ≡ p.parts.value.items → 0 < me.0.shares → me.0.held ≡ Some at → me.1 ≡ (at, Some x) ∷ []
      → Allows (KeptParts p) slots id me 1 (λ x. (x + 1) % 2 ^ 64) (PutPart (step slots 1 1 0 none) me)
  puts p slots id me at x of some_share holds is s r _ here _ = let v : PartHand T = me.0 in let next : ℕ = get_or s.words 0 0 in let back : ℕ = get_or s.words 1 0 in let y : ℕ = (back + 1) % 2 ^ 64 in let b = r.3 in let parts : List T = p.parts.value.items in
      let w : PartHand T = record v { put = v.put ++ (at, x) ∷ []; held = None } in
      let same : length v.parts ≡ length parts = ap length of in
      let grown : y ≡ back + 1 = let c = backs_few parts p.shares next back s.homes s.views b in let d = r.1 in omega arith in
      let ws = second_word s.words y r.0 in
      let k = put_one parts p.shares next back s.homes s.views b id v here some_share at holds x in
      let after : IsPartBoard parts p.shares (get_or (set s.words 1 y) 0 0) (get_or (set s.words 1 y) 1 0) (set s.homes at (some (Some x))) (set s.views id w) = moved parts p.shares next (back + 1) _ _ (set s.homes at (some (Some x))) (set s.views id w) ws.1 (ws.0 ∙ grown) k in
      let told : IsPutStep v at w = record {
        shares = p.shares;
        next = next;
        back = back;
        homes = s.homes;
        homes' = set s.homes at (some (Some x));
        hands = s.views;
        seat = id;
        before = on_parts parts v.parts p.shares next back s.homes s.views of b;
        sits = here;
        after = on_parts parts v.parts p.shares next (back + 1) (set s.homes at (some (Some x))) (set s.views id w) of k;
        step = subst (λ (n : ℕ). IsWorkStep n (worker_in v) at) (sym same) (work_told parts p.shares next back s.homes s.views b id v here some_share at holds x);
      } in (
        w,
        gives,
        tt,
        (ws.2, r.1, r.2, subst (λ (hs : Homes T). IsPartBoard parts p.shares (get_or (set s.words 1 y) 0 0) (get_or (set s.words 1 y) 1 0) hs (set s.views id w)) (sym (put_here s.homes me.1 is)) after),
        (refl, λ k z e. let one : (at, Some x) ≡ (k, Some z) = first_of (sym is ∙ e) in let n : at ≡ k = ap (λ (q : ℕ × Option T). q.0) one in (same_put v k z n (ap (λ (q : ℕ × Option T). q.1) one), subst (λ (k : ℕ). IsPutStep v k w) n told)),
      ) where
        put_here : (hs : Homes T) (c : List (ℕ × Option T)) → c ≡ (at, Some x) ∷ [] → put_back hs c ≡ set hs at (some (Some x))
        put_here hs c e = ap (put_back hs) e

        first_of : {a c : ℕ × Option T} → a ∷ [] ≡ c ∷ [] → a ≡ c
        first_of e = cc

        same_put : (v : PartHand T) (k : ℕ) (z : T) → at ≡ k → Some x ≡ Some z → record v { put = v.put ++ (at, x) ∷ []; held = None } ≡ record v { put = v.put ++ (k, z) ∷ []; held = None }
        same_put v k z e d = let f = same_some x z d in λ i. record v { put = v.put ++ (e i, f i) ∷ []; held = None }

  pub counts : (p : PartPlan T) (slots id : ℕ) (me : Me (Option T) (PartHand T)) → Allows (KeptParts p) slots id me 0 (λ x. x) (CountedParts (step slots 0 0 0 none) me)
  counts p slots id me s r _ at _ = let x : ℕ = get_or s.words 0 0 in let b = r.3 in let parts : List T = p.parts.value.items in let ws = first_word s.words x r.0 in (
    me.0,
    keeps,
    tt,
    (
      ws.2,
      r.1,
      r.2,
      subst (λ (z : ℕ × List (PartHand T)). IsPartBoard parts p.shares z.0 (get_or (set s.words 0 x) 1 0) s.homes z.1) (λ k. (sym ws.0 k, sym (set_again s.views id me.0 at) k)) (moved parts p.shares x (get_or s.words 1 0) x _ s.homes s.views refl ws.1 b),
    ),
    (
      refl,
      refl,
      let m = one_le (λ u. u.shares) (map worker_in s.views) id (worker_in me.0) (at_map worker_in s.views id me.0 at) in let o = (rule parts p.shares x (get_or s.words 1 0) s.homes s.views b).shared in let small = r.2 in omega arith,
    ),
  )

  pub split_keeps : (p : PartPlan T) (s : State (Option T) (PartHand T)) → KeptParts p s → (id : ℕ) (v : PartHand T) (k : ℕ) → 0 < k → k < v.shares → get_elem? s.views id ≡ some v
      → KeptParts p record { words = s.words; homes = s.homes; views = set s.views id (left_part_hand k v) ++ right_part_hand k v ∷ [] }
  split_keeps p s r id v k some_given some_left at = (r.0, r.1, r.2, split_board p.parts.value.items p.shares (get_or s.words 0 0) (get_or s.words 1 0) s.homes s.views r.3 id v at k some_given some_left)

  pub join_keeps : (p : PartPlan T) (s : State (Option T) (PartHand T)) → KeptParts p s → (id : ℕ) (v : PartHand T) (other : ℕ) (w : PartHand T) → get_elem? s.views id ≡ some v → other ≢ id → get_elem? (set s.views id (joined_parts v w)) other ≡ some w
      → 0 < v.shares → 0 < w.shares → v.held ≡ None → w.held ≡ None → KeptParts p record { words = s.words; homes = s.homes; views = set (set s.views id (joined_parts v w)) other spent_parts }
  join_keeps p s r id v other w at two there some_share theirs free free' = (r.0, r.1, r.2, join_board p.parts.value.items p.shares (get_or s.words 0 0) (get_or s.words 1 0) s.homes s.views r.3 id v other w at two there some_share theirs free free')
