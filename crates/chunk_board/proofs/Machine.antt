-- Each run of the claim machine keeps its rule, and works each piece once.
use Rattle.std.proofs.Common.{◌≡◌, ◌≢◌, ℕ, zero, suc, ◌+◌, ◌-◌, ◌<◌, ◌≤◌, Bool, true, false, true≢false, eqb, ltb, cond, ◌||◌, min, List, [], ◌∷◌, ◌++◌, set, sym, refl, ap, ◌∙◌, subst, arith}
use mathlib.Core.Logic.{dite}
use native.Mathlib.Decide.{ℕ_discrete}
use Rattle.std.proofs.lemmas.Bool.Decides.{nat_tests}
use Rattle.std.specs.List.{All}
use Rattle.std.proofs.lemmas.List.{map-append}
use Rattle.std.proofs.lemmas.List.Elements.{All-nil, All-cons, All-head, All-tail}
use mathlib.Core.Option.{some, some-injective, some-ne-none}
use lib.ListN.{get_elem?}
use Rattle.atomic_table.proofs.Lists.{set_else}
use Rattle.tallies.specs.Tallies.{times, once_below}
use Rattle.tallies.proofs.api.Totals.{total_set, total_snoc, one_le, each_set, each_snoc}
use Rattle.tallies.proofs.api.Once.{times-append, draws, drawn_all}
use Rattle.chunk_board.specs.ClaimMachine.{Worker, worker, Phase, start, ClaimStep, Claim, Work, Split, Join, claiming, keeping, given, joining, gone, pieces_of, IsStep, IsRun, drawn_by, stopped_shares, IsRule, AreResults}

module _ (n shares next : ℕ) (ws : List Worker) (i : ℕ) (v : Worker) (some_share : 0 < v.shares) (going : v.stopped ≡ false) (at : get_elem? ws i ≡ some v) (b : IsRule n shares next ws) where
  none_stopped : stopped_shares v ≡ 0
  none_stopped = ap (λ (s : Bool). cond s v.shares 0) going

  claim_one : next < n → IsRule n shares (next + 1) (set ws i (worker v.shares (v.drawn ++ next ∷ []) v.stopped))
  claim_one h = let w : Worker = worker v.shares (v.drawn ++ next ∷ []) v.stopped in record {
    shared = let t = total_set (λ u. u.shares) ws i v w at in let o = b.shared in omega arith;
    drawn = λ x. let t = total_set (λ u. times x u.drawn) ws i v w at in let o = b.drawn x in omega (arith, times-append x v.drawn (next ∷ []), draws x next n h);
    idle = each_set (λ u. u.shares ≡ 0 → u.drawn ≡ []) ws i w (λ z. absurd (omega arith)) b.idle;
    done = each_set (λ u. u.stopped ≡ true → n ≤ next + 1) ws i w (λ z. absurd (true≢false (sym z ∙ going))) (λ j u e z. let o = b.done j u e z in omega arith);
    bound = omega arith;
  }

  claim_none : n ≤ next → IsRule n shares (next + 1) (set ws i (worker v.shares v.drawn true))
  claim_none h = let w : Worker = worker v.shares v.drawn true in record {
    shared = let t = total_set (λ u. u.shares) ws i v w at in let o = b.shared in omega arith;
    drawn = λ x. let t = total_set (λ u. times x u.drawn) ws i v w at in let o = b.drawn x in omega (arith, drawn_all x next n h);
    idle = each_set (λ u. u.shares ≡ 0 → u.drawn ≡ []) ws i w (λ z. absurd (omega arith)) b.idle;
    done = each_set (λ u. u.stopped ≡ true → n ≤ next + 1) ws i w (λ z. omega arith) (λ j u e z. let o = b.done j u e z in omega arith);
    bound = let t = total_set stopped_shares ws i v w at in let o = b.bound in omega (arith, none_stopped);
  }

  claim_on : (t : Bool) → ltb next n ≡ t → IsRule n shares (next + 1) (set ws i (cond t (worker v.shares (v.drawn ++ next ∷ []) v.stopped) (worker v.shares v.drawn true)))
  claim_on true e = claim_one (grind (arith, nat_tests))
  claim_on false e = claim_none (grind (arith, nat_tests))

halves : (b : Bool) (m k : ℕ) → k < m → cond b (m - k) 0 + cond b k 0 ≡ cond b m 0
halves true m k h = omega arith
halves false m k h = omega arith

either_one : {P : Type 0} (a b : Bool) → (a ≡ true → P) → (b ≡ true → P) → (a || b) ≡ true → P
either_one true b f g e = f refl
either_one false b f g e = g e

both_le : (a b : Bool) (m k : ℕ) → cond a m 0 + cond b k 0 ≤ cond (a || b) (m + k) 0
both_le true true m k = omega arith
both_le true false m k = omega arith
both_le false true m k = omega arith
both_le false false m k = omega arith

-- the other of two that are joined is where it was
other_at : (ws : List Worker) (w u : ℕ) (v o : Worker) → get_elem? ws u ≡ some o → u ≢ w → get_elem? (set ws w v) u ≡ some o
other_at ws w u v o at two = set_else ws w u v two ∙ at

split_kept : (n shares next : ℕ) (ws : List Worker) (w : ℕ) (v : Worker) (s : ℕ) → 0 < s → s < v.shares → get_elem? ws w ≡ some v → IsRule n shares next ws → IsRule n shares next (set ws w (keeping s v) ++ given s v ∷ [])
split_kept n shares next ws w v s some_given some_left at b = let l : Worker = keeping s v in let m : Worker = given s v in let vs : List Worker = set ws w l in record {
  shared = let t = total_set (λ u. u.shares) ws w v l at in let o = b.shared in omega (arith, total_snoc (λ u. u.shares) vs m);
  drawn = λ x. let t = total_set (λ u. times x u.drawn) ws w v l at in let o = b.drawn x in omega (arith, total_snoc (λ u. times x u.drawn) vs m);
  idle = each_snoc (λ u. u.shares ≡ 0 → u.drawn ≡ []) vs m (λ z. refl) (each_set (λ u. u.shares ≡ 0 → u.drawn ≡ []) ws w l (λ z. absurd (omega arith)) b.idle);
  done = each_snoc (λ u. u.stopped ≡ true → n ≤ next) vs m (b.done w v at) (each_set (λ u. u.stopped ≡ true → n ≤ next) ws w l (b.done w v at) b.done);
  bound = let t = total_set stopped_shares ws w v l at in let o = b.bound in let c : stopped_shares l + stopped_shares m ≡ stopped_shares v = halves v.stopped v.shares s some_left in
      omega (arith, total_snoc stopped_shares vs m);
}

join_kept : (n shares next : ℕ) (ws : List Worker) (w u : ℕ) (v o : Worker) → get_elem? ws w ≡ some v → get_elem? ws u ≡ some o → u ≢ w → 0 < v.shares → IsRule n shares next ws
    → IsRule n shares next (set (set ws w (joining v o)) u gone)
join_kept n shares next ws w u v o at at' two some_share b = let j : Worker = joining v o in let vs : List Worker = set ws w j in
    let there : get_elem? vs u ≡ some o = other_at ws w u j o at' two in record {
      shared = let t = total_set (λ u. u.shares) ws w v j at in let t' = total_set (λ u. u.shares) vs u o gone there in let o = b.shared in omega arith;
      drawn = λ x. let t = total_set (λ u. times x u.drawn) ws w v j at in let t' = total_set (λ u. times x u.drawn) vs u o gone there in let r = b.drawn x in omega (arith, times-append x v.drawn o.drawn);
      idle = each_set (λ u. u.shares ≡ 0 → u.drawn ≡ []) vs u gone (λ z. refl) (each_set (λ u. u.shares ≡ 0 → u.drawn ≡ []) ws w j (λ z. absurd (omega arith)) b.idle);
      done = each_set (λ u. u.stopped ≡ true → n ≤ next) vs u gone (λ z. absurd (true≢false (sym z))) (each_set (λ u. u.stopped ≡ true → n ≤ next) ws w j (either_one v.stopped o.stopped (b.done w v at) (b.done u o at')) b.done);
      bound = let t = total_set stopped_shares ws w v j at in let t' = total_set stopped_shares vs u o gone there in let r = b.bound in let c = both_le v.stopped o.stopped v.shares o.shares in omega arith;
    }

-- no step takes a piece from what is drawn
claim_more : (t : Bool) (x next : ℕ) (v : Worker) → times x v.drawn ≤ times x (cond t (worker v.shares (v.drawn ++ next ∷ []) v.stopped) (worker v.shares v.drawn true)).drawn
claim_more true x next v = omega (arith, times-append x v.drawn (next ∷ []))
claim_more false x next v = omega arith

module _ {X : Type 0} (n shares : ℕ) (out : ℕ → X) where
  abbrev Sound : Phase X → Type 0
  Sound p = IsRule n shares p.next p.workers × AreResults out p.workers p.results

  still : (ws ws' : List Worker) (rs : List (ℕ × X)) → ((x : ℕ) → drawn_by x ws ≤ drawn_by x ws') → AreResults out ws rs → AreResults out ws' rs
  still ws ws' rs more r = record { outputs = r.outputs; once = λ x. let a = more x in let b = r.once x in omega arith }

  All-snoc : (P : ℕ × X → Type 0) (rs : List (ℕ × X)) (r : ℕ × X) → All P rs → P r → All P (rs ++ r ∷ [])
  All-snoc P [] r h k = All-cons P r [] k h
  All-snoc P (q ∷ rs) r h k = All-cons P q (rs ++ r ∷ []) (All-head P q rs h) (All-snoc P rs r (All-tail P q rs h) k)

  work_once : (x k : ℕ) (rs : List (ℕ × X)) (d : ℕ → ℕ) → ((x : ℕ) → times x (pieces_of rs) ≤ d x) → 1 ≤ d k → times k (pieces_of rs) ≡ 0 → times x (pieces_of (rs ++ (k, out k) ∷ [])) ≤ d x
  work_once x k rs d old one none = let e = ap (times x) (map-append (λ (r : ℕ × X). r.0) rs ((k, out k) ∷ [])) in let a = times-append x (pieces_of rs) (k ∷ []) in
      dite (ℕ_discrete x k)
      (λ (same : x ≡ k). let z : times x (pieces_of rs) ≡ 0 = ap (λ (y : ℕ). times y (pieces_of rs)) same ∙ none in let o : 1 ≤ d x = subst (λ (y : ℕ). 1 ≤ d y) (sym same) one in let c = at_most_one x k in omega arith)
      (λ other. let z : cond {A = ℕ} (eqb x k) 1 0 ≡ 0 = not_key x k other in let o = old x in omega arith) where
        at_most_one : (x k : ℕ) → cond {A = ℕ} (eqb x k) 1 0 ≤ 1
        at_most_one x k = grind (arith, nat_tests)

        not_key : (x k : ℕ) → x ≢ k → cond {A = ℕ} (eqb x k) 1 0 ≡ 0
        not_key x k h = grind (arith, nat_tests)

  pub step_sound : (s : ClaimStep) (p q : Phase X) → IsStep n out s p q → Sound p → Sound q
  step_sound (Claim w) p q (v, at, going, e) r = subst Sound (sym e) (
    claim_on n shares p.next p.workers w v at.1 going at.0 r.0 (ltb p.next n) refl,
    still p.workers _ p.results (λ x. let t = total_set (λ u. times x u.drawn) p.workers w v (claiming n p.next v) at.0 in let m = claim_more (ltb p.next n) x p.next v in omega arith) r.1,
  )
  step_sound (Work w k) p q (v, at, has, none, e) r = subst Sound (sym e) (
    r.0,
    record {
      outputs = All-snoc (λ (r : ℕ × X). r.1 ≡ out r.0) p.results (k, out k) r.1.outputs refl;
      once = λ x. work_once x k p.results (λ x. drawn_by x p.workers) r.1.once (let m = one_le (λ u. times k u.drawn) p.workers w v at.0 in omega arith) none;
    },
  )
  step_sound (Split w s) p q (v, at, some_given, some_left, e) r = let l : Worker = keeping s v in subst Sound (sym e) (
    split_kept n shares p.next p.workers w v s some_given some_left at.0 r.0,
    still p.workers _ p.results (λ x. let t = total_set (λ u. times x u.drawn) p.workers w v l at.0 in omega (arith, total_snoc (λ u. times x u.drawn) (set p.workers w l) (given s v))) r.1,
  )
  step_sound (Join w u) p q (v, o, at, at', two, e) r = let j : Worker = joining v o in subst Sound (sym e) (
    join_kept n shares p.next p.workers w u v o at.0 at'.0 two at.1 r.0,
    still p.workers _ p.results (λ x. let t = total_set (λ u. times x u.drawn) p.workers w v j at.0 in
        let t' = total_set (λ u. times x u.drawn) (set p.workers w j) u o gone (other_at p.workers w u j o at'.0 two) in omega (arith, times-append x v.drawn o.drawn)) r.1,
  )

  run_sound : (ss : List ClaimStep) (p q : Phase X) → IsRun n out ss p q → Sound p → Sound q
  run_sound [] p q e r = subst Sound (sym e) r
  run_sound (s ∷ ss) p q (m, step, rest) r = run_sound ss m q rest (step_sound s p m step r)

  start_rule : IsRule n shares 0 (worker shares [] false ∷ [])
  start_rule = record {
    shared = omega arith;
    drawn = λ x. none_yet x n;
    idle = λ w v e z. only w v e;
    done = λ w v e z. absurd (true≢false (sym z ∙ never w v e));
    bound = omega arith;
  } where
    none_yet : (x n : ℕ) → 0 ≡ once_below x (min 0 n)
    none_yet x n = grind (arith, nat_tests)

    only : (w : ℕ) (v : Worker) → get_elem? (worker shares [] false ∷ []) w ≡ some v → v.drawn ≡ []
    only zero v e = ap (λ (u : Worker). u.drawn) (sym (some-injective (worker shares [] false) v e))
    only (suc w) v e = absurd (some-ne-none v (sym e))

    never : (w : ℕ) (v : Worker) → get_elem? (worker shares [] false ∷ []) w ≡ some v → v.stopped ≡ false
    never zero v e = ap (λ (u : Worker). u.stopped) (sym (some-injective (worker shares [] false) v e))
    never (suc w) v e = absurd (some-ne-none v (sym e))

  start_sound : Sound (start shares)
  start_sound = (start_rule, record { outputs = All-nil (λ (r : ℕ × X). r.1 ≡ out r.0); once = λ x. omega arith })

  pub reached_sound : (ss : List ClaimStep) (p : Phase X) → IsRun n out ss (start shares) p → IsRule n shares p.next p.workers × AreResults out p.workers p.results
  reached_sound ss p run = run_sound ss (start shares) p run start_sound
