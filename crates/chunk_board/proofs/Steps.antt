-- Each step on the board is a step of the claim machine.
use Rattle.std.proofs.Common.{◌≡◌, ◌≢◌, ℕ, ◌+◌, ◌%◌, ◌^◌, ◌<◌, ◌≤◌, ◌↔◌, Bool, true, false, ltb, cond, min, List, [], ◌∷◌, ◌++◌, map, get_or, set, sym, refl, ap, ◌∙◌, subst, ⊎_elim, arith, length-set, get_or-set_same, length, lt_of_not-le}
use Rattle.std.proofs.lemmas.Bool.Decides.{nat_tests}
use Rattle.std.proofs.lemmas.List.{map-set, map-append}
use mathlib.Core.Logic.{dite}
use native.Mathlib.Decide.{dec_le}
use mathlib.Core.Option.{none, some, some-injective, some-ne-none}
use lib.ListN.{get_elem?}
use Rattle.atomic_table.specs.Table.{State, Me, step, keeps, Allows}
use Rattle.atomic_table.proofs.Lists.{at_set, at_map, set_again, set_here}
use Rattle.tallies.specs.Tallies.{total, times, once_below}
use Rattle.tallies.proofs.api.Totals.{one_le, inside, whole}
use Rattle.tallies.proofs.api.Once.{few}
use Rattle.chunk_board.specs.declared.rule.Hand.{Hand}
use Rattle.chunk_board.specs.declared.rule.Plan.{Plan}
use Rattle.chunk_board.specs.ClaimMachine.{Worker, worker, phase, start, ClaimStep, Claim, Split, Join, claiming, gone, IsStep, IsRun, AllDrawn, stopped_shares, IsRule, AreResults}
use Rattle.chunk_board.specs.Hands.{hand, worker_of, no_output, Claims, IsReached, board_of, Kept, claimed, IsClaimStep, Claimed, Counted, left_hand, right_hand, joined, spent}
use Rattle.chunk_board.proofs.Machine.{reached_sound}

-- the first number of a list, read in two ways
pub first_of : (l : List ℕ) (x : ℕ) → get_elem? l 0 ≡ some x → get_or l 0 0 ≡ x
first_of [] x e = absurd (some-ne-none x (sym e))
first_of (y ∷ l) x e = some-injective y x e

run_more : (n : ℕ) (ss : List ClaimStep) (p q r : Claims) (s : ClaimStep) → IsRun n no_output ss p q → IsStep n no_output s q r → IsRun n no_output (ss ++ s ∷ []) p r
run_more n [] p q r s e step = (r, subst (λ (q : Claims). IsStep n no_output s q r) e step, refl)
run_more n (t ∷ ss) p q r s (m, first, rest) step = (m, first, run_more n ss m q r s rest step)

pub one_more : (n shares : ℕ) (q r : Claims) (s : ClaimStep) → IsReached n shares q → IsStep n no_output s q r → IsReached n shares r
one_more n shares q r s (ss, run) step = (ss ++ s ∷ [], run_more n ss (start shares) q r s run step)

pub sound_of : (n shares : ℕ) (p : Claims) → IsReached n shares p → IsRule n shares p.next p.workers × AreResults no_output p.workers p.results
sound_of n shares p (ss, run) = reached_sound n shares no_output ss p run

pub rule_of : (n shares next : ℕ) (hands : List Hand) → IsReached n shares (board_of next hands) → IsRule n shares next (map worker_of hands)
rule_of n shares next hands r = (sound_of n shares (board_of next hands) r).0

same_claim : (n next : ℕ) (v : Hand) → v.pieces ≡ n → worker_of (claimed v next) ≡ claiming n next (worker_of v)
same_claim n next v is = subst (λ (n : ℕ). worker_of (claimed v next) ≡ claiming n next (worker_of v)) is (on (ltb next v.pieces)) where
  on : (t : Bool) → worker_of (cond t (hand v.pieces v.shares (v.drawn ++ next ∷ []) v.stopped) (hand v.pieces v.shares v.drawn true)) ≡ cond t (worker v.shares (v.drawn ++ next ∷ []) v.stopped) (worker v.shares v.drawn true)
  on true = refl
  on false = refl

claim_step : (n next : ℕ) (hands : List Hand) (id : ℕ) (v : Hand) → v.pieces ≡ n → 0 < v.shares → v.stopped ≡ false → get_elem? hands id ≡ some v
    → IsStep n no_output (Claim id) (board_of next hands) (board_of (next + 1) (set hands id (claimed v next)))
claim_step n next hands id v is some_share going at = (
  worker_of v,
  (at_map worker_of hands id v at, some_share),
  going,
  ap (λ (ws : List Worker). phase (next + 1) ws []) (map-set worker_of hands id (claimed v next) ∙ ap (set (map worker_of hands) id) (same_claim n next v is)),
)

pub stopped_le : (vs : List Worker) → total stopped_shares vs ≤ total (λ u. u.shares) vs
stopped_le [] = omega arith
stopped_le (x ∷ xs) = let r = stopped_le xs in let P : Bool → Type 0 = λ t. cond t x.shares 0 ≤ x.shares in let here : P x.stopped = elim x.stopped as P [ true ↦ omega arith | false ↦ omega arith ] in omega arith

pub below_all : (x next n k : ℕ) → k ≤ once_below x (min next n) → k ≤ once_below x n
below_all x next n k h = grind (arith, nat_tests)

pub worker_few : (n shares next : ℕ) (ws : List Worker) (i : ℕ) (v : Worker) → get_elem? ws i ≡ some v → IsRule n shares next ws → length v.drawn ≤ n
worker_few n shares next ws i v at b = few n v.drawn (λ x. below_all x next n (times x v.drawn) (let m = one_le (λ u. times x u.drawn) ws i v at in let o = b.drawn x in omega arith))

pub all_drawn : (n shares next : ℕ) (ws : List Worker) → IsRule n shares next ws → n ≤ next ↔ AllDrawn n ws
all_drawn n shares next ws b = (
  (λ le x lt. b.drawn x ∙ full x le lt),
  λ all. dite (dec_le n next) (λ (le : n ≤ next). le) (λ (no : ¬ (n ≤ next)). let lt : next < n = lt_of_not-le no in let one = all next lt in let z = b.drawn next ∙ not_drawn in absurd (omega arith)),
) where
  full : (x : ℕ) → n ≤ next → x < n → once_below x (min next n) ≡ 1
  full x le lt = grind (arith, nat_tests)

  not_drawn : once_below next (min next n) ≡ 0
  not_drawn = grind (arith, nat_tests)

pub claims : (p : Plan) (slots id : ℕ) (me : Me (Unit {0}) Hand) → me.0.pieces ≡ p.pieces → 0 < me.0.shares → me.0.stopped ≡ false
    → Allows (Kept p) slots id me 0 (λ x. (x + 1) % 2 ^ 64) (Claimed (step slots 0 1 0 none) me)
claims p slots id me is some_share going s r _ at _ = let x : ℕ = get_or s.words 0 0 in let b = rule_of p.pieces p.shares x s.views r.3 in let wide = r.0 in
    let w : Hand = claimed me.0 x in
    let next : (x + 1) % 2 ^ 64 ≡ x + 1 = let c = b.bound in let d = b.shared in let e = r.1 in omega (arith, stopped_le (map worker_of s.views)) in
    let step = claim_step p.pieces x s.views id me.0 is some_share going at in
    let after : IsReached p.pieces p.shares (board_of (x + 1) (set s.views id w)) = one_more p.pieces p.shares (board_of x s.views) (board_of (x + 1) (set s.views id w)) (Claim id) r.3 step in
    let now : get_elem? (map worker_of (set s.views id w)) id ≡ some (worker_of w) = at_map worker_of (set s.views id w) id w (set_here s.views id w (inside s.views id me.0 at)) in (
      w,
      keeps,
      tt,
      (
        length-set s.words 0 ((x + 1) % 2 ^ 64) ∙ wide,
        r.1,
        r.2,
        subst (λ (z : ℕ). IsReached p.pieces p.shares (board_of z (set s.views id w))) (sym (get_or-set_same s.words 0 ((x + 1) % 2 ^ 64) 0 (omega arith) ∙ next)) after,
      ),
      (
        refl,
        refl,
        subst (λ (n : ℕ). length w.drawn ≤ n) (sym is) (worker_few p.pieces p.shares (x + 1) (map worker_of (set s.views id w)) id (worker_of w) now (rule_of p.pieces p.shares (x + 1) (set s.views id w) after)),
        subst (λ (n : ℕ). IsClaimStep n (worker_of me.0) x (worker_of w)) (sym is) record {
          shares = p.shares;
          before = board_of x s.views;
          after = board_of (x + 1) (set s.views id w);
          seat = id;
          reached = r.3;
          at = refl;
          step = step;
          was = at_map worker_of s.views id me.0 at;
          is = now;
          all = all_drawn p.pieces p.shares x (map worker_of s.views) b;
        },
      ),
    )

pub split_keeps : (p : Plan) (s : State (Unit {0}) Hand) → Kept p s → (id : ℕ) (v : Hand) (k : ℕ) → 0 < k → k < v.shares → get_elem? s.views id ≡ some v
    → Kept p record { words = s.words; homes = s.homes; views = set s.views id (left_hand k v) ++ right_hand k v ∷ [] }
split_keeps p s r id v k some_given some_left at = let next : ℕ = get_or s.words 0 0 in let l : Hand = left_hand k v in let m : Hand = right_hand k v in (
  r.0,
  r.1,
  r.2,
  one_more p.pieces p.shares (board_of next s.views) (board_of next (set s.views id l ++ m ∷ [])) (Split id k) r.3 (
    worker_of v,
    (at_map worker_of s.views id v at, omega arith),
    some_given,
    some_left,
    ap (λ (ws : List Worker). phase next ws []) (map-append worker_of (set s.views id l) (m ∷ []) ∙ ap (λ (ws : List Worker). ws ++ worker_of m ∷ []) (map-set worker_of s.views id l)),
  ),
)

pub join_keeps : (p : Plan) (s : State (Unit {0}) Hand) → Kept p s → (id : ℕ) (v : Hand) (other : ℕ) (w : Hand) → get_elem? s.views id ≡ some v → other ≢ id → get_elem? (set s.views id (joined v w)) other ≡ some w
    → 0 < v.shares → 0 < w.shares → Kept p record { words = s.words; homes = s.homes; views = set (set s.views id (joined v w)) other spent }
join_keeps p s r id v other w at two there some_share theirs = let next : ℕ = get_or s.words 0 0 in let j : Hand = joined v w in
    let at' : get_elem? s.views other ≡ some w = ⊎_elim (λ (x : (other ≡ id) × (j ≡ w)). absurd (two x.0)) (λ (x : (other ≢ id) × (get_elem? s.views other ≡ some w)). x.1) (at_set s.views id other j w there) in (
      r.0,
      r.1,
      r.2,
      one_more p.pieces p.shares (board_of next s.views) (board_of next (set (set s.views id j) other spent)) (Join id other) r.3 (
        worker_of v,
        worker_of w,
        (at_map worker_of s.views id v at, some_share),
        (at_map worker_of s.views other w at', theirs),
        two,
        ap (λ (ws : List Worker). phase next ws []) (map-set worker_of (set s.views id j) other spent ∙ ap (λ (ws : List Worker). set ws other gone) (map-set worker_of s.views id j)),
      ),
    )

-- the hand with the whole share has drawn what was drawn
pub whole_drawn : (n shares next : ℕ) (hands : List Hand) (i : ℕ) (v : Hand) → IsReached n shares (board_of next hands) → get_elem? hands i ≡ some v → v.shares ≡ shares → (x : ℕ) → times x v.drawn ≡ once_below x (min next n)
whole_drawn n shares next hands i v r at is x = let b = rule_of n shares next hands r in
    sym (whole (λ u. times x u.drawn) (λ u. u.shares) (map worker_of hands) i (worker_of v) (at_map worker_of hands i v at) (λ j u e z. ap (times x) (b.idle j u e z)) (b.shared ∙ sym is)) ∙ b.drawn x

-- a stopped hand: all was drawn
pub stopped_full : (n shares next : ℕ) (hands : List Hand) (i : ℕ) (v : Hand) → IsReached n shares (board_of next hands) → get_elem? hands i ≡ some v → v.stopped ≡ true → n ≤ next
stopped_full n shares next hands i v r at is = (rule_of n shares next hands r).done i (worker_of v) (at_map worker_of hands i v at) is

pub counts : (p : Plan) (slots id : ℕ) (me : Me (Unit {0}) Hand) → Allows (Kept p) slots id me 0 (λ x. x) (Counted (step slots 0 0 0 none) me)
counts p slots id me s r _ at _ = let x : ℕ = get_or s.words 0 0 in let wide = r.0 in let b = rule_of p.pieces p.shares x s.views r.3 in (
  me.0,
  keeps,
  tt,
  (
    length-set s.words 0 x ∙ wide,
    r.1,
    r.2,
    subst (λ (z : ℕ × List Hand). IsReached p.pieces p.shares (board_of z.0 z.1)) (λ k. (sym (get_or-set_same s.words 0 x 0 (omega arith)) k, sym (set_again s.views id me.0 at) k)) r.3,
  ),
  (refl, refl, let m = one_le (λ u. u.shares) (map worker_of s.views) id (worker_of me.0) (at_map worker_of s.views id me.0 at) in let o = b.shared in let small = r.2 in omega arith),
)
