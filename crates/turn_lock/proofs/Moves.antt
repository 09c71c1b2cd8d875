-- Each step keeps the rule of the lock.
use Rattle.std.proofs.Common.{◌≡◌, ◌≢◌, ℕ, zero, suc, ◌+◌, ◌%◌, ◌^◌, ◌<◌, ◌≤◌, Bool, true, false, true≢false, eqb, ltb, cond, List, [], ◌∷◌, ◌++◌, length, get_or, set, sym, refl, ap, ◌∙◌, subst, lt_of_not-le, inl, inr, ⊎_elim, arith, length-set, length-append, get_or-set_same, get_or-set_other, append-nil, append_assoc, Option, Some, None}
use mathlib.Core.Logic.{dite}
use mathlib.Core.Option.{none, some, some-ne-none}
use mathlib.Core.Option as maybe
use mathlib.Core.List.{IsPrefix}
use native.Mathlib.Decide.{ℕ_discrete, dec_le}
use lib.ListN.{get_elem?}
use Rattle.std.proofs.lemmas.List.{set-get_or}
use Rattle.std.proofs.lemmas.Bool.Decides.{nat_tests}
use Rattle.atomic_table.specs.Table.{State, Me, step, keeps, takes, gives, stepped, opening, Final, Seen, Allows}
use Rattle.atomic_table.proofs.Lists.{set_again, set_here, set_else, at_longer, one_turn}
use Rattle.turn_lock.specs.declared.rule.View.{View}
use Rattle.tallies.specs.Tallies.{total, times, once_below, Apart}
use Rattle.turn_lock.specs.Lists.{unite}
use Rattle.turn_lock.specs.Turns.{out, has_ticket, ticket_in, drew, Fits, Free, Held, IsLock, looked, Grows, mine_after, recorded, left, newcomer, kept, given, joined, spent, known_so}
use Rattle.tallies.proofs.api.Totals.{total_set, total_snoc, one_le, two_le, total_le, each_set, each_other, each_snoc, inside, whole}
use Rattle.tallies.proofs.api.Once.{times-append, once_more, not_here, one_at_most}
use Rattle.turn_lock.proofs.api.United.{times-unite}

draws : (t serving next : ℕ) → serving ≤ next → ticket_in t serving (next + 1) ≡ ticket_in t serving next + cond (eqb t next) 1 0
draws t serving next h = grind (arith, nat_tests)

wraps : (n : ℕ) → (n % 2 ^ 64 + 1) % 2 ^ 64 ≡ (n + 1) % 2 ^ 64
wraps n = omega arith

in_turn : (t serving next : ℕ) → 1 ≤ ticket_in t serving next → (serving ≤ t) × (t < next)
in_turn t serving next h = grind (arith, nat_tests)

at_most_one : (t serving next : ℕ) → ticket_in t serving next ≤ 1
at_most_one t serving next = grind (arith, nat_tests)

ticket_self : (t : ℕ) (b : Bool) → b ≡ true → cond {A = ℕ} b (cond (eqb t t) 1 0) 0 ≡ 1
ticket_self t b e = grind (arith, nat_tests)

module _ {E : Type 0} where
  first_or : List E → E → E
  first_or [] d = d
  first_or (x ∷ xs) d = x

  rest_of : List E → List E
  rest_of [] = []
  rest_of (x ∷ xs) = xs

  cons_eq : (x z : E) (xs zs : List E) → ◌≡◌ {A = List E} (x ∷ xs) (z ∷ zs) → (x ≡ z) × (xs ≡ zs)
  unfolding first_or rest_of
  cons_eq x z xs zs e = (ap (λ (l : List E). first_or l x) e, ap rest_of e)

  no_cons : (x : E) (xs : List E) → ◌≡◌ {A = List E} (x ∷ xs) [] → ⊥
  no_cons x xs e = cc

module _ {S E : Type 0} (history : S → List E) (owns : List E → List ℕ → Type 0) (fixed : S → ℕ) (fix : ℕ) where
  abbrev M : Type 0
  M = Me (Option S) (View E)

  abbrev St : Type 0
  St = State (Option S) (View E)

  no_ticket : (t : ℕ) (v : View E) → v.out ≡ false → has_ticket t v ≡ 0
  no_ticket t v e = ap (λ (b : Bool). cond b (cond (eqb t v.at) 1 0) 0) e

  pub draw : (n slots id : ℕ) (me : M) → 0 < me.0.seats → me.0.out ≡ false → Allows (IsLock history owns fixed fix n) slots id me 0 (λ x. (x + 1) % 2 ^ 64) (drew (step slots 0 1 0 none) me)
  draw n slots id me some_seat idle s r _ at _ = let v : View E = me.0 in let w : View E = record v { out = true; at = r.next } in let x : ℕ = get_or s.words 0 0 in let y : ℕ = (x + 1) % 2 ^ 64 in let wide = r.wide in
      let next_is = r.next_is in
      let next : y ≡ (r.next + 1) % 2 ^ 64 = ap (λ (k : ℕ). (k + 1) % 2 ^ 64) next_is ∙ wraps r.next in
      let none_out : out v ≡ 0 = ap (λ (b : Bool). cond b 1 0) idle in
      let not_held : v.held ≡ true → ⊥ = λ h. true≢false (sym (((r.each id v at).turn h).0) ∙ idle) in
      let fits = r.each id v at in (
        w,
        keeps,
        tt,
        record {
          next = r.next + 1;
          serving = r.serving;
          log = r.log;
          wide = length-set s.words 0 y ∙ wide;
          slots = r.slots;
          next_is = get_or-set_same s.words 0 y 0 (omega arith) ∙ next;
          serving_is = get_or-set_other s.words 0 1 y 0 (λ e. absurd (omega arith)) ∙ r.serving_is;
          long = get_or-set_other s.words 0 2 y 0 (λ e. absurd (omega arith)) ∙ r.long;
          few = r.few;
          shared = let t = total_set (λ u. u.seats) s.views id v w at in let o = r.shared in omega arith;
          outs = let t = total_set out s.views id v w at in let o = r.outs in omega arith;
          tickets = λ t. let e = total_set (has_ticket t) s.views id v w at in let o = r.tickets t in let d = draws t r.serving r.next (let o = r.outs in omega arith) in let z = no_ticket t v idle in omega arith;
          placed = λ x. let e = total_set (λ u. times x u.mine) s.views id v w at in let o = r.placed x in omega arith;
          each = each_set (Fits history owns fixed fix r.serving r.log) s.views id w
              record { still = fits.still; begins = fits.begins; knew = fits.knew; owned = fits.owned; within = fits.within; idle = λ z. absurd (omega arith); turn = λ h. absurd (not_held h) } r.each;
          slot = ⊎_elim
              (λ (f : Free history owns fixed fix r.log s). inl record { state = f.state; lies = f.lies; shows = f.shows; still = f.still; none = each_set (λ u. u.held ≡ false) s.views id w (f.none id v at) f.none })
              (λ (h : Held history owns fixed s). inr record {
                seat = h.seat;
                holder = h.holder;
                sits = set_else s.views id h.seat w (λ e. not_held (ap (λ (u : View E). u.held) (maybe.some-injective v h.holder (sym at ∙ ap (get_elem? s.views) (sym e) ∙ h.sits)) ∙ h.holds)) ∙ h.sits;
                holds = h.holds;
              }) r.slot;
        },
        (refl, next_is, refl),
      )

  -- a turn whose number is served holds the one ticket of that number, and the state is at home
  free_for : (n : ℕ) (s : St) (r : IsLock history owns fixed fix n s) (id : ℕ) (v : View E) → get_elem? s.views id ≡ some v → v.out ≡ true → v.held ≡ false → v.at ≡ r.serving → Free history owns fixed fix r.log s
  free_for n s r id v at o not is = ⊎_elim (λ (f : Free history owns fixed fix r.log s). f)
      (λ (h : Held history owns fixed s).
      let turn = (r.each h.seat h.holder h.sits).turn h.holds in
      let apart : id ≢ h.seat = λ e. true≢false (sym h.holds ∙ ap (λ (u : View E). u.held) (maybe.some-injective h.holder v (sym h.sits ∙ ap (get_elem? s.views) (sym e) ∙ at)) ∙ not) in
      let mine : has_ticket r.serving v ≡ 1 = ap (λ (t : ℕ). has_ticket t v) (sym is) ∙ ticket_self v.at v.out o in
      let theirs : has_ticket r.serving h.holder ≡ 1 = ap (λ (t : ℕ). has_ticket t h.holder) (sym turn.1) ∙ ticket_self h.holder.at h.holder.out turn.0 in
      let both = two_le (has_ticket r.serving) s.views id h.seat v h.holder at h.sits apart in
      let all = r.tickets r.serving in let one = at_most_one r.serving r.serving r.next in
      absurd (omega arith)) r.slot

  out_le : (n : ℕ) (s : St) (r : IsLock history owns fixed fix n s) → total out s.views ≤ n
  out_le n s r = let all = r.shared in omega (arith, total_le out (λ u. u.seats) s.views (λ i v at. few v (r.each i v at).idle)) where
    few : (v : View E) → (v.seats ≡ 0 → (v.mine ≡ []) × (v.out ≡ false)) → out v ≤ v.seats
    few v h = dite (ℕ_discrete v.seats 0) (λ z. let e : out v ≡ 0 = ap (λ (b : Bool). cond b 1 0) (h z).1 in omega arith) (λ p. let e = small v.out in omega arith) where
      small : (b : Bool) → cond {A = ℕ} b 1 0 ≤ 1
      small true = omega arith
      small false = omega arith

  served_is : (n : ℕ) (s : St) (r : IsLock history owns fixed fix n s) (id : ℕ) (v : View E) → get_elem? s.views id ≡ some v → v.out ≡ true → r.serving % 2 ^ 64 ≡ v.at % 2 ^ 64 → v.at ≡ r.serving
  served_is n s r id v at o e = let has = ticket_self v.at v.out o in let le = one_le (has_ticket v.at) s.views id v at in let all = r.tickets v.at in
      let between = in_turn v.at r.serving r.next (omega arith) in let few = r.few in let outs = r.outs in let cap = out_le n s r in
      sym (one_turn r.serving v.at (2 ^ 64) between.0 (omega arith) e)

  prefix_length : (a b : List E) → IsPrefix a b → length a ≤ length b
  prefix_length a b p = omega (arith, ap length p.1, length-append a p.0)

  pub look : (n slots id : ℕ) (me : M) → 0 < me.0.seats → me.0.out ≡ true → me.0.held ≡ false → Allows (IsLock history owns fixed fix n) slots id me 1 (λ x. x) (looked history owns fixed (step slots 1 0 0 none) me)
  look n slots id me some_seat o not s r _ at _ = let v : View E = me.0 in let x : ℕ = get_or s.words 1 0 in let wide = r.wide in dite (ℕ_discrete x (v.at % 2 ^ 64))
      (λ hit. let is = served_is n s r id v at o (sym r.serving_is ∙ hit) in let f = free_for n s r id v at o not is in let fits = r.each id v at in
      let w : View E = record v { seen = history f.state; known = v.seen; held = true } in (
        w,
        takes 0 (Some f.state),
        f.lies,
        record {
          next = r.next;
          serving = r.serving;
          log = r.log;
          wide = length-set s.words 1 x ∙ wide;
          slots = length-set s.homes 0 none ∙ r.slots;
          next_is = get_or-set_other s.words 1 0 x 0 (λ e. absurd (omega arith)) ∙ r.next_is;
          serving_is = get_or-set_same s.words 1 x 0 (omega arith) ∙ r.serving_is;
          long = get_or-set_other s.words 1 2 x 0 (λ e. absurd (omega arith)) ∙ r.long;
          few = r.few;
          shared = let t = total_set (λ u. u.seats) s.views id v w at in let a = r.shared in omega arith;
          outs = let t = total_set out s.views id v w at in let a = r.outs in omega arith;
          tickets = λ t. let e = total_set (has_ticket t) s.views id v w at in let a = r.tickets t in omega arith;
          placed = λ y. let e = total_set (λ u. times y u.mine) s.views id v w at in let a = r.placed y in omega arith;
          each = each_set (Fits history owns fixed fix r.serving r.log) s.views id w
              record {
                still = fits.still;
                begins = ([], append-nil (history f.state) ∙ f.shows);
                knew = (fits.begins.0, fits.begins.1 ∙ sym f.shows);
                owned = fits.owned;
                within = λ p h. fits.within p (let l = prefix_length v.seen r.log fits.begins in let e = ap length f.shows in omega arith);
                idle = λ z. absurd (omega arith);
                turn = λ h. (o, is, f.shows);
              } r.each;
          slot = inr record { seat = id; holder = w; sits = set_here s.views id w (inside s.views id v at); holds = refl };
        },
        ((λ _. record { state = f.state; took = refl; begins = (fits.begins.0, fits.begins.1 ∙ sym f.shows); owned = subst (λ (l : List E). owns l v.mine) (sym f.shows) fits.owned; still = f.still ∙ sym (fits.still some_seat); view = refl }), λ miss. absurd (miss hit)),
      ))
      (λ miss. (
        v,
        keeps,
        tt,
        same n s r id me at 1 wide,
        ((λ hit. absurd (miss hit)), λ _. refl),
      )) where
        same : (n : ℕ) (s : St) (r : IsLock history owns fixed fix n s) (id : ℕ) (me : M) → get_elem? s.views id ≡ some me.0 → (i : ℕ) → length s.words ≡ 3 → IsLock history owns fixed fix n (stepped s i (get_or s.words i 0) id me.1 me.0 keeps)
        same n s r id me at i wide = subst (λ (z : List ℕ × List (View E)). IsLock history owns fixed fix n record { words = z.0; homes = s.homes; views = z.1 }) (λ k. (sym (set-get_or s.words i 0) k, sym (set_again s.views id me.0 at) k)) r

  -- no two turns hold the state
  one_holder : (n : ℕ) (s : St) (r : IsLock history owns fixed fix n s) (i j : ℕ) (v u : View E) → get_elem? s.views i ≡ some v → get_elem? s.views j ≡ some u → j ≢ i → v.held ≡ true → u.held ≡ true → ⊥
  one_holder n s r i j v u at at' apart h h' =
      let a = (r.each i v at).turn h in let b = (r.each j u at').turn h' in
      let mine : has_ticket r.serving v ≡ 1 = ap (λ (t : ℕ). has_ticket t v) (sym a.1) ∙ ticket_self v.at v.out a.0 in
      let theirs : has_ticket r.serving u ≡ 1 = ap (λ (t : ℕ). has_ticket t u) (sym b.1) ∙ ticket_self u.at u.out b.0 in
      let both = two_le (has_ticket r.serving) s.views j i u v at' at apart in
      let all = r.tickets r.serving in let one = at_most_one r.serving r.serving r.next in
      omega arith

  longer_prefix : (a b c : List E) → IsPrefix a b → IsPrefix b c → IsPrefix a c
  longer_prefix a b c p q = (p.0 ++ q.0, sym (append_assoc a p.0 q.0) ∙ ap (λ (l : List E). l ++ q.0) p.1 ∙ q.1)

  -- what a step of the holder that leaves the history longer keeps
  grown : (n : ℕ) (s : St) (r : IsLock history owns fixed fix n s) (id : ℕ) (v w : View E) (log : List E) → get_elem? s.views id ≡ some v → v.held ≡ true → 0 < v.seats
      → w ≡ record v { seen = log; mine = w.mine } → IsPrefix r.log log
      → owns log w.mine → ((x : ℕ) → length log ≤ x → times x w.mine ≡ 0) → ((j : ℕ) (u : View E) → j ≢ id → get_elem? s.views j ≡ some u → owns log u.mine)
      → ((x : ℕ) → times x w.mine + once_below x (length r.log) ≡ times x v.mine + once_below x (length log))
      → (y : ℕ) → y ≡ length log → IsLock history owns fixed fix n (stepped s 2 y id [] w keeps)
  grown n s r id v w log at holds some_seat is more own inside_seen others counts y long = let wide = r.wide in let fits = r.each id v at in let turn = fits.turn holds in
      let seats : w.seats ≡ v.seats = ap (λ (u : View E). u.seats) is in
      let outs : out w ≡ out v = ap out is in
      let held : w.held ≡ v.held = ap (λ (u : View E). u.held) is in
      record {
        next = r.next;
        serving = r.serving;
        log = log;
        wide = length-set s.words 2 y ∙ wide;
        slots = r.slots;
        next_is = get_or-set_other s.words 2 0 y 0 (λ e. absurd (omega arith)) ∙ r.next_is;
        serving_is = get_or-set_other s.words 2 1 y 0 (λ e. absurd (omega arith)) ∙ r.serving_is;
        long = get_or-set_same s.words 2 y 0 (omega arith) ∙ long;
        few = r.few;
        shared = let t = total_set (λ u. u.seats) s.views id v w at in let a = r.shared in omega arith;
        outs = let t = total_set out s.views id v w at in let a = r.outs in omega arith;
        tickets = λ t. let e = total_set (has_ticket t) s.views id v w at in let same = ap (has_ticket t) is in let a = r.tickets t in omega arith;
        placed = λ x. let e = total_set (λ u. times x u.mine) s.views id v w at in let a = r.placed x in let c = counts x in omega arith;
        each = each_other (Fits history owns fixed fix r.serving log) s.views id w
            (subst (Fits history owns fixed fix r.serving log) (sym is) record {
              still = fits.still;
              begins = ([], append-nil log);
              knew = longer_prefix v.known v.seen log fits.knew (longer_prefix v.seen r.log log fits.begins more);
              owned = own;
              within = inside_seen;
              idle = λ z. absurd (omega arith);
              turn = λ h. (turn.0, turn.1, refl);
            })
            (λ j u apart e. let f = r.each j u e in record { still = f.still; begins = longer_prefix u.seen r.log log f.begins more; knew = f.knew; owned = others j u apart e; within = f.within; idle = f.idle; turn = λ h. absurd (one_holder n s r id j v u at e apart holds h) });
        slot = inr record { seat = id; holder = w; sits = set_here s.views id w (inside s.views id v at); holds = held ∙ holds };
      }

  abbrev Others : Type 0
  Others = (h : List E) (e : E) (mine other : List ℕ) → owns (h ++ e ∷ []) (mine ++ length h ∷ []) → owns h other → Apart (mine ++ length h ∷ []) other → owns (h ++ e ∷ []) other

  apart_of : (n : ℕ) (s : St) (r : IsLock history owns fixed fix n s) (id j : ℕ) (v u : View E) → get_elem? s.views id ≡ some v → get_elem? s.views j ≡ some u → j ≢ id → Apart v.mine u.mine
  apart_of n s r id j v u at at' apart x = let both = two_le (λ (z : View E). times x z.mine) s.views id j v u at at' (λ e. apart (sym e)) in let all = r.placed x in let one = one_at_most x (length r.log) in omega arith

  -- nor is the next place in either
  apart_more : (n : ℕ) (s : St) (r : IsLock history owns fixed fix n s) (id j : ℕ) (v u : View E) → get_elem? s.views id ≡ some v → get_elem? s.views j ≡ some u → j ≢ id → v.held ≡ true → Apart (v.mine ++ length r.log ∷ []) u.mine
  apart_more n s r id j v u at at' apart holds x = let a = apart_of n s r id j v u at at' apart x in let is = ap length ((r.each id v at).turn holds).2 in
      let low = prefix_length u.seen r.log (r.each j u at').begins in
      dite (ℕ_discrete x (length r.log))
      (λ e. let z = (r.each id v at).within x (omega arith) in let y = (r.each j u at').within x (omega arith) in let one = once_here x (length r.log) in omega (arith, times-append x v.mine (length r.log ∷ [])))
      (λ e. let z = not_this x (length r.log) e in omega (arith, times-append x v.mine (length r.log ∷ []))) where
        once_here : (x n : ℕ) → times x (n ∷ []) ≤ 1
        once_here x n = grind (arith, nat_tests)

        not_this : (x n : ℕ) → x ≢ n → times x (n ∷ []) ≡ 0
        not_this x n h = grind (arith, nat_tests)

  record_on : Others → (n : ℕ) (s : St) (r : IsLock history owns fixed fix n s) (id added : ℕ) (v : View E) (log : List E) → get_elem? s.views id ≡ some v → v.held ≡ true → 0 < v.seats
      → Grows added v.seen log → owns log (mine_after added v.mine (length v.seen)) → length log < 2 ^ 64
      → IsLock history owns fixed fix n (stepped s 2 ((get_or s.words 2 0 + added) % 2 ^ 64) id [] (record v { seen = log; mine = mine_after added v.mine (length v.seen) }) keeps)
  record_on law n s r id added v log at holds some_seat grows own small = let fits = r.each id v at in let is = (fits.turn holds).2 in let w : View E = record v { seen = log; mine = mine_after added v.mine (length v.seen) } in let y : ℕ = (get_or s.words 2 0 + added) % 2 ^ 64 in
      let long = r.long in let same_len : length v.seen ≡ length r.log = ap length is in
      ⊎_elim (λ (g : (added ≡ 0) × (log ≡ v.seen)).
      let all : log ≡ r.log = g.1 ∙ is in
      let len : length log ≡ length r.log = ap length all in
      let mine : w.mine ≡ v.mine = ap (λ (k : ℕ). mine_after k v.mine (length v.seen)) g.0 in
      let zero_added = g.0 in
      grown n s r id v w log at holds some_seat refl ([], append-nil r.log ∙ sym all) own (λ x h. ap (times x) mine ∙ fits.within x (omega arith))
      (λ j u apart e. subst (λ (l : List E). owns l u.mine) (sym all) (r.each j u e).owned)
      (λ x. let a = ap (times x) mine in let b = ap (once_below x) len in omega arith) y (omega arith))
      (λ (g : (added ≡ 1) × ((e : E) × (log ≡ v.seen ++ e ∷ []))).
      let e : E = g.1.0 in
      let all : log ≡ r.log ++ e ∷ [] = g.1.1 ∙ ap (λ (l : List E). l ++ e ∷ []) is in
      let len : length log ≡ length r.log + 1 = ap length all ∙ length-append r.log (e ∷ []) in
      let mine : w.mine ≡ v.mine ++ length r.log ∷ [] = ap (λ (k : ℕ). mine_after k v.mine (length v.seen)) g.0 ∙ ap (λ (k : ℕ). v.mine ++ k ∷ []) same_len in
      let one_added = g.0 in
      let own' : owns (r.log ++ e ∷ []) (v.mine ++ length r.log ∷ []) = subst (λ (z : List E × List ℕ). owns z.0 z.1) (λ k. (all k, mine k)) own in
      grown n s r id v w log at holds some_seat refl (e ∷ [], sym all) own
      (λ x h. let a = fits.within x (omega arith) in let m = ap (times x) mine ∙ times-append x v.mine (length r.log ∷ []) in let z = not_here x (length r.log) (omega arith) in omega arith)
      (λ j u apart d. subst (λ (l : List E). owns l u.mine) (sym all) (law r.log e v.mine u.mine own' (r.each j u d).owned (apart_more n s r id j v u at d apart holds)))
      (λ x. let a = ap (times x) mine ∙ times-append x v.mine (length r.log ∷ []) in let b = ap (once_below x) len in let c = once_more x (length r.log) in omega arith) y (omega arith)) grows

  abbrev in_hand : Option S → S → S
  in_hand (Some x) d = x
  in_hand None d = d

  abbrev hand : List (ℕ × Option S) → S → S
  hand [] d = d
  hand (p ∷ l) d = in_hand p.1 d

  one_state : (x z : S) → ◌≡◌ {A = List (ℕ × Option S)} ((0, Some x) ∷ []) ((0, Some z) ∷ []) → x ≡ z
  one_state x z e = ap (λ (l : List (ℕ × Option S)). hand l x) e

  pub records : Others → (n slots id : ℕ) (me : M) (x : S) (added : ℕ) → me.1 ≡ (0, Some x) ∷ [] → me.0.held ≡ true → 0 < me.0.seats → Grows added me.0.seen (history x)
      → owns (history x) (mine_after added me.0.mine (length me.0.seen)) → length (history x) < 2 ^ 64
      → Allows (IsLock history owns fixed fix n) slots id me 2 (λ y. (y + added) % 2 ^ 64) (recorded history owns fixed (step slots 2 added 0 none) me)
  records law n slots id me x added carried holds some_seat grows own small s r _ at _ = (
    record me.0 { seen = history x; mine = mine_after added me.0.mine (length me.0.seen) },
    keeps,
    tt,
    record_on law n s r id added me.0 (history x) at holds some_seat grows own small,
    (
      refl,
      λ z e. let same : x ≡ z = one_state x z (sym carried ∙ e) in ap (λ (u : S). record me.0 { seen = history u; mine = mine_after added me.0.mine (length me.0.seen) }) same,
    ),
  )

  pub leaves : (n slots id : ℕ) (me : M) (x : S) → me.1 ≡ (0, Some x) ∷ [] → me.0.held ≡ true → 0 < me.0.seats → history x ≡ me.0.seen → fixed x ≡ me.0.fixed
      → Allows (IsLock history owns fixed fix n) slots id me 1 (λ y. (y + 1) % 2 ^ 64) (left history owns fixed (step slots 1 1 0 none) me)
  leaves n slots id me x carried holds some_seat shows same s r _ at _ = let v : View E = me.0 in let w : View E = record v { out = false; held = false } in let wide = r.wide in let fits = r.each id v at in let turn = fits.turn holds in
      let z : ℕ = get_or s.words 1 0 in let y : ℕ = (z + 1) % 2 ^ 64 in
      let next : y ≡ (r.serving + 1) % 2 ^ 64 = ap (λ (k : ℕ). (k + 1) % 2 ^ 64) r.serving_is ∙ wraps r.serving in
      let one_out : out v ≡ 1 = ap (λ (b : Bool). cond b 1 0) turn.0 in
      let among = one_le out s.views id v at in let outs = r.outs in let one_slot = r.slots in
      let homes : List (maybe.Option (Option S)) = set s.homes 0 (some (Some x)) in (
        w,
        gives,
        tt,
        subst (λ (l : List (ℕ × Option S)). IsLock history owns fixed fix n (stepped s 1 y id l w gives)) (sym carried) record {
          next = r.next;
          serving = r.serving + 1;
          log = r.log;
          wide = length-set s.words 1 y ∙ wide;
          slots = length-set s.homes 0 (some (Some x)) ∙ one_slot;
          next_is = get_or-set_other s.words 1 0 y 0 (λ e. absurd (omega arith)) ∙ r.next_is;
          serving_is = get_or-set_same s.words 1 y 0 (omega arith) ∙ next;
          long = get_or-set_other s.words 1 2 y 0 (λ e. absurd (omega arith)) ∙ r.long;
          few = r.few;
          shared = let t = total_set (λ u. u.seats) s.views id v w at in let a = r.shared in omega arith;
          outs = let t = total_set out s.views id v w at in omega arith;
          tickets = λ t. let e = total_set (has_ticket t) s.views id v w at in let a = r.tickets t in let d = served_one t r.serving r.next (omega arith) in let mine = ticket_at t r.serving v turn.0 turn.1 in omega arith;
          placed = λ p. let e = total_set (λ u. times p u.mine) s.views id v w at in let a = r.placed p in omega arith;
          each = each_other (Fits history owns fixed fix (r.serving + 1) r.log) s.views id w
              record { still = fits.still; begins = fits.begins; knew = fits.knew; owned = fits.owned; within = fits.within; idle = λ e. absurd (omega arith); turn = λ h. absurd (true≢false (sym h)) }
              (λ j u apart e. let f = r.each j u e in record { still = f.still; begins = f.begins; knew = f.knew; owned = f.owned; within = f.within; idle = f.idle; turn = λ h. absurd (one_holder n s r id j v u at e apart holds h) });
          slot = inl record {
            state = x;
            lies = set_here s.homes 0 (some (Some x)) (omega arith);
            shows = shows ∙ turn.2;
            still = same ∙ fits.still some_seat;
            none = each_other (λ u. u.held ≡ false) s.views id w refl (λ j u apart e. not_true u.held (λ h. one_holder n s r id j v u at e apart holds h));
          };
        },
        (refl, refl),
      ) where
        not_true : (b : Bool) → (b ≡ true → ⊥) → b ≡ false
        not_true true h = absurd (h refl)
        not_true false h = refl

        served_one : (t serving next : ℕ) → serving < next → ticket_in t serving next ≡ ticket_in t (serving + 1) next + cond (eqb t serving) 1 0
        served_one t serving next h = grind (arith, nat_tests)

        ticket_at : (t serving : ℕ) (v : View E) → v.out ≡ true → v.at ≡ serving → has_ticket t v ≡ cond (eqb t serving) 1 0
        ticket_at t serving v o e = ap (λ (b : Bool). cond b (cond (eqb t v.at) 1 0) 0) o ∙ ap (λ (k : ℕ). cond (eqb t k) 1 0) e

  not_me : (s : St) (id : ℕ) (v : View E) → get_elem? s.views id ≡ some v → v.held ≡ false → (h : Held history owns fixed s) → h.seat ≢ id
  not_me s id v at free h e = true≢false (sym h.holds ∙ ap (λ (u : View E). u.held) (maybe.some-injective h.holder v (sym h.sits ∙ ap (get_elem? s.views) e ∙ at)) ∙ free)

  unmoved : (n : ℕ) (s : St) (r : IsLock history owns fixed fix n s) (id : ℕ) (me : M) → get_elem? s.views id ≡ some me.0 → (i : ℕ) → IsLock history owns fixed fix n (stepped s i (get_or s.words i 0) id me.1 me.0 keeps)
  unmoved n s r id me at i = subst (λ (z : List ℕ × List (View E)). IsLock history owns fixed fix n record { words = z.0; homes = s.homes; views = z.1 }) (λ k. (sym (set-get_or s.words i 0) k, sym (set_again s.views id me.0 at) k)) r

  pub opens : (owns [] []) → (n : ℕ) (x : S) → history x ≡ [] → fixed x ≡ fix → 0 < n → n < 2 ^ 32 → IsLock history owns fixed fix n (opening (0 ∷ 0 ∷ 0 ∷ []) (Some x ∷ []) (newcomer fix n))
  opens law n x fresh start some_seat few = record {
    next = 0;
    serving = 0;
    log = [];
    wide = refl;
    slots = refl;
    next_is = refl;
    serving_is = refl;
    long = refl;
    few = few;
    shared = omega arith;
    outs = refl;
    tickets = λ t. sym (no_one t);
    placed = λ y. sym (none_below y);
    each = alone (Fits history owns fixed fix 0 []) record { still = λ z. refl; begins = ([], refl); knew = ([], refl); owned = law; within = λ y h. refl; idle = λ z. absurd (omega arith); turn = λ h. absurd (true≢false (sym h)) };
    slot = inl record { state = x; lies = refl; shows = fresh; still = start; none = alone (λ u. u.held ≡ false) refl };
  } where
    no_one : (t : ℕ) → ticket_in t 0 0 ≡ 0
    no_one t = grind (arith, nat_tests)

    none_below : (y : ℕ) → once_below y 0 ≡ 0
    none_below y = grind (arith, nat_tests)

    alone : (F : View E → Type 0) → F (newcomer fix n) → (j : ℕ) (v : View E) → get_elem? (newcomer fix n ∷ []) j ≡ some v → F v
    alone F here zero v e = subst F (maybe.some-injective (newcomer fix n) v e) here
    alone F here (suc j) v e = absurd (some-ne-none v (sym e))

  pub splits : ((h : List E) → owns h []) → (n : ℕ) (s : St) → IsLock history owns fixed fix n s → (id : ℕ) (v : View E) (k : ℕ) → 0 < k → k < v.seats → v.out ≡ false → v.held ≡ false → get_elem? s.views id ≡ some v
      → IsLock history owns fixed fix n record { words = s.words; homes = s.homes; views = set s.views id (kept k v) ++ given k v ∷ [] }
  splits law n s r id v k some_given some_left idle free at = let l : View E = kept k v in let m : View E = given k v in let vs : List (View E) = set s.views id l in let fits = r.each id v at in record {
    next = r.next;
    serving = r.serving;
    log = r.log;
    wide = r.wide;
    slots = r.slots;
    next_is = r.next_is;
    serving_is = r.serving_is;
    long = r.long;
    few = r.few;
    shared = let t = total_set (λ u. u.seats) s.views id v l at in let a = r.shared in omega (arith, total_snoc (λ (u : View E). u.seats) vs m);
    outs = let t = total_set out s.views id v l at in let a = r.outs in omega (arith, total_snoc out vs m);
    tickets = λ t. let e = total_set (has_ticket t) s.views id v l at in let a = r.tickets t in omega (arith, total_snoc (has_ticket t) vs m);
    placed = λ x. let e = total_set (λ u. times x u.mine) s.views id v l at in let a = r.placed x in omega (arith, total_snoc (λ (u : View E). times x u.mine) vs m);
    each = each_snoc (Fits history owns fixed fix r.serving r.log) vs m
        record { still = λ z. fits.still (omega arith); begins = fits.begins; knew = fits.knew; owned = law r.log; within = λ x h. refl; idle = λ z. absurd (omega arith); turn = λ h. absurd (true≢false (sym h)) }
        (each_set (Fits history owns fixed fix r.serving r.log) s.views id l
        record { still = λ z. fits.still (omega arith); begins = fits.begins; knew = fits.knew; owned = fits.owned; within = fits.within; idle = λ z. absurd (omega arith); turn = λ h. absurd (true≢false (sym h ∙ free)) } r.each);
    slot = ⊎_elim
        (λ (f : Free history owns fixed fix r.log s). inl record { state = f.state; lies = f.lies; shows = f.shows; still = f.still; none = each_snoc (λ u. u.held ≡ false) vs m refl (each_set (λ u. u.held ≡ false) s.views id l free f.none) })
        (λ (h : Held history owns fixed s). inr record {
          seat = h.seat;
          holder = h.holder;
          sits = at_longer vs (m ∷ []) h.seat h.holder (set_else s.views id h.seat l (not_me s id v at free h) ∙ h.sits);
          holds = h.holds;
        }) r.slot;
  }

  pair_prefix : (a b log : List E) → IsPrefix a log → IsPrefix b log → length a ≤ length b → IsPrefix a b
  pair_prefix [] b log p q h = (b, refl)
  pair_prefix (x ∷ a) [] log p q h = absurd (omega arith)
  pair_prefix (x ∷ a) (y ∷ b) [] p q h = absurd (no_cons x (a ++ p.0) p.1)
  pair_prefix (x ∷ a) (y ∷ b) (z ∷ log) p q h =
      let xs = cons_eq x z (a ++ p.0) log p.1 in let ys = cons_eq y z (b ++ q.0) log q.1 in let r = pair_prefix a b log (p.0, xs.1) (q.0, ys.1) (omega arith) in
      (r.0, λ k. (xs.0 ∙ sym ys.0) k ∷ r.1 k)

  longer_one : (a b log : List E) → IsPrefix a log → IsPrefix b log → (t : Bool) → ltb (length a) (length b) ≡ t → IsPrefix (cond t b a) log × IsPrefix (cond t a b) (cond t b a)
  longer_one a b log p q true e = (q, pair_prefix a b log p q (grind (arith, nat_tests)))
  longer_one a b log p q false e = (p, pair_prefix b a log q p (grind (arith, nat_tests)))

  longer_len : (a b : List E) (x : ℕ) → (t : Bool) → ltb (length a) (length b) ≡ t → length (cond t b a) ≤ x → (length a ≤ x) × (length b ≤ x)
  longer_len a b x true e h = grind (arith, nat_tests)
  longer_len a b x false e h = grind (arith, nat_tests)

  pub joins : ((h : List E) → owns h []) → ((h : List E) (a b : List ℕ) → owns h a → owns h b → Apart a b → owns h (unite a b))
      → (n : ℕ) (s : St) → IsLock history owns fixed fix n s → (id : ℕ) (v : View E) (other : ℕ) (w : View E) → 0 < v.seats → v.out ≡ false → v.held ≡ false → w.out ≡ false → w.held ≡ false
      → get_elem? s.views id ≡ some v → other ≢ id → get_elem? (set s.views id (joined v w)) other ≡ some w → IsLock history owns fixed fix n record { words = s.words; homes = s.homes; views = set (set s.views id (joined v w)) other spent }
  joins law both n s r id v other w some_seat idle free idle' free' at two there = let j : View E = joined v w in let z : View E = spent in let vs : List (View E) = set s.views id j in
      let at' : get_elem? s.views other ≡ some w = sym (set_else s.views id other j two) ∙ there in
      let fits = r.each id v at in let fits' = r.each other w at' in let apart = apart_of n s r id other v w at at' two in
      let seen = longer_one v.seen w.seen r.log fits.begins fits'.begins (ltb (length v.seen) (length w.seen)) refl in
      let no_out : out v ≡ 0 = ap (λ (b : Bool). cond b 1 0) idle in let no_out' : out w ≡ 0 = ap (λ (b : Bool). cond b 1 0) idle' in record {
        next = r.next;
        serving = r.serving;
        log = r.log;
        wide = r.wide;
        slots = r.slots;
        next_is = r.next_is;
        serving_is = r.serving_is;
        long = r.long;
        few = r.few;
        shared = let t = total_set (λ u. u.seats) s.views id v j at in let t' = total_set (λ u. u.seats) vs other w z there in let a = r.shared in omega arith;
        outs = let t = total_set out s.views id v j at in let t' = total_set out vs other w z there in let a = r.outs in omega arith;
        tickets = λ t. let e = total_set (has_ticket t) s.views id v j at in let e' = total_set (has_ticket t) vs other w z there in let a = r.tickets t in let b = no_ticket t v idle in let c = no_ticket t w idle' in omega arith;
        placed = λ x. let e = total_set (λ u. times x u.mine) s.views id v j at in let e' = total_set (λ u. times x u.mine) vs other w z there in let a = r.placed x in let b = times-unite x v.mine w.mine in omega arith;
        each = each_set (Fits history owns fixed fix r.serving r.log) vs other z
            record { still = λ z. absurd (omega arith); begins = (r.log, refl); knew = ([], refl); owned = law r.log; within = λ x h. refl; idle = λ e. (refl, refl); turn = λ h. absurd (true≢false (sym h)) }
            (each_set (Fits history owns fixed fix r.serving r.log) s.views id j
            record {
              still = λ z. fits.still some_seat;
              begins = seen.0;
              knew = seen.1;
              owned = both r.log v.mine w.mine fits.owned fits'.owned apart;
              within = λ x h. let l = longer_len v.seen w.seen x (ltb (length v.seen) (length w.seen)) refl h in let a = fits.within x l.0 in let b = fits'.within x l.1 in let c = times-unite x v.mine w.mine in omega arith;
              idle = λ e. absurd (omega arith);
              turn = λ h. absurd (true≢false (sym h));
            } r.each);
        slot = ⊎_elim
            (λ (f : Free history owns fixed fix r.log s). inl record { state = f.state; lies = f.lies; shows = f.shows; still = f.still; none = each_set (λ u. u.held ≡ false) vs other z refl (each_set (λ u. u.held ≡ false) s.views id j refl f.none) })
            (λ (h : Held history owns fixed s). inr record {
              seat = h.seat;
              holder = h.holder;
              sits = set_else vs other h.seat z (not_me s other w at' free' h) ∙ set_else s.views id h.seat j (not_me s id v at free h) ∙ h.sits;
              holds = h.holds;
            }) r.slot;
      }

  pub shows : (n slots id : ℕ) (me : M) → Allows (IsLock history owns fixed fix n) slots id me 0 (λ x. x) (known_so history owns fixed (step slots 0 0 0 none) me)
  shows n slots id me s r _ at _ = (me.0, keeps, tt, unmoved n s r id me at 0, (refl, (r.each id me.0 at).knew, λ x. let m = one_le (λ (u : View E). times x u.mine) s.views id me.0 at in let all = r.placed x in let one = one_at_most x (length r.log) in omega arith, (r.log, (r.each id me.0 at).begins, (r.each id me.0 at).owned)))

  prefix_whole : (a b : List E) → IsPrefix a b → length b ≤ length a → a ≡ b
  prefix_whole a b p h = let l = ap length p.1 ∙ refl in let z : p.0 ≡ [] = no_rest p.0 (omega (arith, ap length p.1, length-append a p.0)) in sym (append-nil a) ∙ ap (λ (r : List E). a ++ r) (sym z) ∙ p.1 where
    no_rest : (l : List E) → length l ≡ 0 → l ≡ []
    no_rest [] h = refl
    no_rest (x ∷ l) h = absurd (omega arith)

  pub record Closes (v : View E) (s : St) : Type 0 where
    pub state : S
    pub lies : get_elem? s.homes 0 ≡ some (some (Some state))
    pub shows : history state ≡ v.seen
    pub still : fixed state ≡ v.fixed
    pub all : (x : ℕ) → times x v.mine ≡ once_below x (length v.seen)

  pub closes : (n : ℕ) (s : St) → IsLock history owns fixed fix n s → (id : ℕ) (v : View E) → get_elem? s.views id ≡ some v → 0 < v.seats → v.seats ≡ n → v.held ≡ false → Closes v s
  closes n s r id v at some_share whole_share free = let fits = r.each id v at in let one_total = r.shared in
      let all : (x : ℕ) → times x v.mine ≡ once_below x (length r.log) = λ x. sym (whole (λ u. times x u.mine) (λ u. u.seats) s.views id v at (λ j u e z. ap (times x) ((r.each j u e).idle z).0) (one_total ∙ sym whole_share)) ∙ r.placed x in
      let long : length r.log ≤ length v.seen = dite (dec_le (length r.log) (length v.seen)) (λ (h : length r.log ≤ length v.seen). h)
      (λ (h : ¬ (length r.log ≤ length v.seen)). let lt : length v.seen < length r.log = lt_of_not-le h in let a = all (length v.seen) in let b = fits.within (length v.seen) (omega arith) in let c = below_one (length v.seen) (length r.log) lt in absurd (omega arith)) in
      let seen = prefix_whole v.seen r.log fits.begins long in
      let f : Free history owns fixed fix r.log s = ⊎_elim (λ (f : Free history owns fixed fix r.log s). f)
      (λ (h : Held history owns fixed s). let apart = not_me s id v at free h in let two = two_le (λ (u : View E). u.seats) s.views id h.seat v h.holder at h.sits (λ e. apart (sym e)) in
      let f = r.each h.seat h.holder h.sits in absurd (true≢false (sym (f.turn h.holds).0 ∙ (f.idle (omega arith)).1))) r.slot in
      record { state = f.state; lies = f.lies; shows = f.shows ∙ sym seen; still = f.still ∙ sym (fits.still some_share); all = λ x. all x ∙ ap (λ (l : List E). once_below x (length l)) (sym seen) } where
        below_one : (x n : ℕ) → x < n → once_below x n ≡ 1
        below_one x n h = grind (arith, nat_tests)

  pub record Left (v : View E) (o : Option S) : Type 0 where
    pub state : S
    pub is : o ≡ Some state
    pub shows : history state ≡ v.seen
    pub still : fixed state ≡ v.fixed
    pub all : (x : ℕ) → times x v.mine ≡ once_below x (length v.seen)

  pub lefts : (n id : ℕ) (v : View E) (ws : List ℕ) (xs : List (Option S)) (o : Option S) → Final (Seen (IsLock history owns fixed fix n) id v) ws xs → 0 < v.seats → v.seats ≡ n → v.held ≡ false → get_elem? xs 0 ≡ some o → Left v o
  lefts n id v ws xs o f some_share shares free at = let e = closes n f.0 f.1.0 id v f.1.1 some_share shares free in
      record { state = e.state; is = maybe.some-injective o (Some e.state) (sym at ∙ f.4 0 (Some e.state) e.lies); shows = e.shows; still = e.still; all = e.all }

  pub some_one : (x z : S) → ◌≡◌ {A = Option S} (Some x) (Some z) → x ≡ z
  some_one x z e = ap (λ (o : Option S). in_hand o x) e
