-- What a call leaves of a pass.
use Rattle.std.proofs.Common.{◌≡◌, ◌≢◌, ℕ, zero, suc, ◌+◌, ◌<◌, ◌≤◌, Bool, true, false, cond, List, [], ◌∷◌, ◌++◌, length, Option, Some, sym, refl, ap, ◌∙◌, subst, arith, length-append, append_assoc, append-nil, lt_of_not-le, ltb}
use mathlib.Core.Logic.{dite}
use mathlib.Core.List.{IsPrefix}
use native.Mathlib.Decide.{ℕ_discrete, dec_le}
use Rattle.std.specs.List.{slice_get}
use Rattle.std.specs.declared.snapshot.Snapshot.{Snapshot}
use Rattle.std.proofs.lemmas.Bool.Decides.{nat_tests}
use Rattle.std.proofs.lemmas.List.{map-append}
use Rattle.tallies.specs.Tallies.{times, total, once_below}
use Rattle.turn_lock.specs.Lists.{put_in, unite, longer, shorter, IsRising}
use Rattle.tallies.proofs.api.Once.{times-append}
use Rattle.tallies.proofs.api.Totals.{total_snoc}
use Rattle.turn_lock.proofs.api.United.{times-unite}
use Rattle.job_core.specs.JobMachine.{are_steps, replay}
use Rattle.job_core.specs.declared.entry.Entry.TheVariants as entry
use Rattle.job_core.specs.declared.entry.JobState.{JobState}
use Rattle.job_core.specs.declared.entry.JobState.TheVariants as state
use Rattle.job_core.proofs.api.Places.{no_some, some_eq, get_within, get_longer, get_front, get_last, get_after, get_set_same, get_map}
use Rattle.job_core.proofs.api.Runs.{take_queued, submit_below}
use Rattle.job_core.proofs.api.Lasting.{steps_rest, replay_rest, still_running, finish_done, take_once}
use Rattle.job_table.specs.declared.event.Event.{Event}
use Rattle.job_table.specs.declared.event.Event.TheVariants.{Submit, Take, Finish, Withdraw}
use Rattle.job_table.specs.declared.event.Outcome.{Outcome}
use Rattle.job_table.specs.History.{entry_of, entries_of, jobs_of, Has, Submits, Finishes}
use Rattle.job_table.specs.Passes.{TableView, PassView, Within, Pairs, IsLegal, held_in, IsPassOf, Holds, Looks, Adds}
use Rattle.job_table.proofs.api.Kept.{jobs_snoc}
use Rattle.job_table.proofs.api.Counts.{takes, ends, last_step, balanced, held_some, none_runs}
use Rattle.turn_lock.proofs.api.Rising.{rising_snoc}
use Rattle.job_table.proofs.api.Counts.{tail_once as more_times}
use Rattle.job_table.proofs.api.Counts.{head_once as head_times}

once_here : (x n : ℕ) → x ≡ n → times x (n ∷ []) ≡ 1
once_here x n e = grind (arith, nat_tests)

pub not_there : (x n : ℕ) → x ≢ n → times x (n ∷ []) ≡ 0
not_there x n h = grind (arith, nat_tests)

-- two sums over places that agree at each of them
total_same : (f g : ℕ → ℕ) (mine : List ℕ) → ((y : ℕ) → 1 ≤ times y mine → f y ≡ g y) → total f mine ≡ total g mine
total_same f g [] h = refl
total_same f g (x ∷ l) h = let a = h x (head_times x l) in let b = total_same f g l (λ y m. h y (more_times x y l m)) in omega arith

module _ {E : Type 0} where
  pub at_prefix : (a h : List E) (p : ℕ) (x : E) → IsPrefix a h → slice_get a p ≡ Some x → slice_get h p ≡ Some x
  at_prefix a h p x pre e = ap (λ (l : List E). slice_get l p) (sym pre.1) ∙ get_longer a pre.0 p x e

  pub prefix_length : (a h : List E) → IsPrefix a h → length a ≤ length h
  prefix_length a h pre = omega (arith, ap length pre.1, length-append a pre.0)

  pub prefix_more : (a h : List E) (ys : List E) → IsPrefix a h → IsPrefix a (h ++ ys)
  prefix_more a h ys pre = (pre.0 ++ ys, sym (append_assoc a pre.0 ys) ∙ ap (λ (l : List E). l ++ ys) pre.1)

  pub same_front : (a h : List E) (p : ℕ) → IsPrefix a h → p < length a → slice_get h p ≡ slice_get a p
  same_front a h p pre low = ap (λ (l : List E). slice_get l p) (sym pre.1) ∙ get_front a pre.0 p low

  pub within_longer : (a h : List E) (mine : List ℕ) → IsPrefix a h → Within a mine → Within h mine
  within_longer a h mine pre w x far = let l = prefix_length a h pre in w x (omega arith)

  within_more : (a h : List E) (e : E) (mine : List ℕ) → IsPrefix a h → Within a mine → Within (h ++ e ∷ []) (mine ++ length h ∷ [])
  within_more a h e mine pre w x far = let l = prefix_length a h pre in let m = length-append h (e ∷ []) in let z = w x (omega arith) in let n = not_there x (length h) (λ s. absurd (omega arith)) in omega (arith, times-append x mine (length h ∷ []))

  -- a sum over places that were seen stays
  pub total_longer : (f : Option E → ℕ) (a h : List E) (mine : List ℕ) → IsPrefix a h → Within a mine → total (λ p. f (slice_get h p)) mine ≡ total (λ p. f (slice_get a p)) mine
  total_longer f a h mine pre w = total_same (λ p. f (slice_get h p)) (λ p. f (slice_get a p)) mine (λ y m. dite (dec_le (length a) y) (λ (far : length a ≤ y). let z = w y far in absurd (omega arith)) (λ (no : ¬ (length a ≤ y)). ap f (same_front a h y pre (lt_of_not-le no))))

  pub total_more : (f : Option E → ℕ) (a h : List E) (e : E) (mine : List ℕ) → IsPrefix a h → Within a mine → total (λ p. f (slice_get (h ++ e ∷ []) p)) (mine ++ length h ∷ []) ≡ total (λ p. f (slice_get a p)) mine + f (Some e)
  total_more f a h e mine pre w = let s = total_snoc (λ (p : ℕ). f (slice_get (h ++ e ∷ []) p)) mine (length h) in let t = total_longer f a (h ++ e ∷ []) mine (prefix_more a h (e ∷ []) pre) w in
      let l : f (slice_get (h ++ e ∷ []) (length h)) ≡ f (Some e) = ap f (get_last h e) in omega arith

module _ {C A : Type 0} where
  finish_at : (es : List (Event C A)) (q j : ℕ) → slice_get (entries_of es) q ≡ Some (entry.Finish j) → (o : Snapshot (Outcome A)) × (slice_get es q ≡ Some (Finish j o))
  finish_at [] q j e = absurd (no_some (entry.Finish j) e)
  finish_at (x ∷ es) (suc q) j e = finish_at es q j e
  finish_at (Submit i c ∷ es) zero j e = absurd (not (some_eq (entry.Submit i) (entry.Finish j) e)) where
    not : entry.Submit i ≡ entry.Finish j → ⊥
    not e = cc
  finish_at (Take i ∷ es) zero j e = absurd (not (some_eq (entry.Take i) (entry.Finish j) e)) where
    not : entry.Take i ≡ entry.Finish j → ⊥
    not e = cc
  finish_at (Withdraw i ∷ es) zero j e = absurd (not (some_eq (entry.Withdraw i) (entry.Finish j) e)) where
    not : entry.Withdraw i ≡ entry.Finish j → ⊥
    not e = cc
  finish_at (Finish i o ∷ es) zero j e = (o, ap (λ (x : Event C A). Some x) (same i j o (some_eq (entry.Finish i) (entry.Finish j) e))) where
    same : (i j : ℕ) (o : Snapshot (Outcome A)) → entry.Finish i ≡ entry.Finish j → ◌≡◌ {A = Event C A} (Finish i o) (Finish j o)
    same i j o e = cc

  -- a held job stays held where none of the pass's later places ends it
  holds_longer : (capacity : ℕ) (seen h : List (Event C A)) (mine mine' : List ℕ) (j : ℕ) → IsPrefix seen h → are_steps capacity [] (entries_of h) ≡ true → Pairs h mine' → (k : Holds seen mine j) → times k.place mine' ≡ 1
      → ((q : ℕ) (o : Snapshot (Outcome A)) → length seen ≤ q → slice_get h q ≡ Some (Finish j o) → times q mine' ≡ 0) → Holds h mine' j
  holds_longer capacity seen h mine mine' j pre ok pairs k own no_end = let rest : List (Event C A) = pre.0 in
      let took = at_prefix seen h k.place (Take j) pre k.takes_it in
      let cut : entries_of h ≡ entries_of seen ++ entries_of rest = ap entries_of (sym pre.1) ∙ map-append entry_of seen rest in
      let still = still_running capacity (jobs_of seen) (entries_of rest) j k.runs (steps_rest capacity [] (entries_of seen) (entries_of rest) (ap (are_steps capacity []) (sym cut) ∙ ok))
      (λ q f.
      let e = finish_at rest q j f in
      let at : slice_get h (length seen + q) ≡ Some (Finish j e.0) = ap (λ (l : List (Event C A)). slice_get l (length seen + q)) (sym pre.1) ∙ get_after seen rest q (Finish j e.0) e.1 in
      let same = pairs k.place (length seen + q) j e.0 took at in
      let none = no_end (length seen + q) e.0 (omega arith) at in
      absurd (omega arith)) in
      record { place = k.place; takes_it = took; own = own; runs = ap (λ (l : List JobState). slice_get l j) (ap (replay []) cut ∙ replay_rest [] (entries_of seen) (entries_of rest)) ∙ still }

  pub holds_here : (capacity : ℕ) (seen h : List (Event C A)) (mine : List ℕ) (j : ℕ) → IsPrefix seen h → are_steps capacity [] (entries_of h) ≡ true → Pairs h mine → Within seen mine → Holds seen mine j → Holds h mine j
  holds_here capacity seen h mine j pre ok pairs w k = holds_longer capacity seen h mine mine j pre ok pairs k k.own (λ q o far at. w q far)

  holds_more : (capacity : ℕ) (seen h : List (Event C A)) (e : Event C A) (mine : List ℕ) (j : ℕ) → IsPrefix seen h → are_steps capacity [] (entries_of (h ++ e ∷ [])) ≡ true → Pairs (h ++ e ∷ []) (mine ++ length h ∷ []) → Within seen mine
      → ((o : Snapshot (Outcome A)) → ¬ (e ≡ Finish j o)) → Holds seen mine j → Holds (h ++ e ∷ []) (mine ++ length h ∷ []) j
  holds_more capacity seen h e mine j pre ok pairs w other k = let n : ℕ = length h in
      holds_longer capacity seen (h ++ e ∷ []) mine (mine ++ n ∷ []) j (prefix_more seen h (e ∷ []) pre) ok pairs k
      (let low = get_within seen (Take j) k.place k.takes_it in let l = prefix_length seen h pre in let z = not_there k.place n (λ s. absurd (omega arith)) in let own = k.own in omega (arith, times-append k.place mine (n ∷ [])))
      (λ q o far at. dite (ℕ_discrete q n)
      (λ (is : q ≡ n). absurd (other o (some_eq e (Finish j o) (sym (get_last h e) ∙ ap (slice_get (h ++ e ∷ [])) (sym is) ∙ at))))
      (λ (no : q ≢ n). let z = w q far in let y = not_there q n no in omega (arith, times-append q mine (n ∷ []))))

  -- the places with the new one
  pub pairs_more : (h : List (Event C A)) (e : Event C A) (mine : List ℕ) → ((j q : ℕ) (o : Snapshot (Outcome A)) → e ≡ Take j → slice_get h q ≡ Some (Finish j o) → ⊥)
      → ((j p : ℕ) (o : Snapshot (Outcome A)) → e ≡ Finish j o → slice_get h p ≡ Some (Take j) → times p mine ≡ 1) → Within h mine → Pairs h mine → Pairs (h ++ e ∷ []) (mine ++ length h ∷ [])
  pairs_more h e mine no_end took w pairs p q j o a b = let n : ℕ = length h in let wide = length-append h (e ∷ []) in let lp = get_within (h ++ e ∷ []) (Take j) p a in let lq = get_within (h ++ e ∷ []) (Finish j o) q b in
      let far = w n (omega arith) in
      dite (ℕ_discrete p n)
      (λ (is : p ≡ n). let at : e ≡ Take j = some_eq e (Take j) (sym (get_last h e) ∙ ap (slice_get (h ++ e ∷ [])) (sym is) ∙ a) in dite (ℕ_discrete q n)
      (λ (is' : q ≡ n). absurd (not_both j o (sym at ∙ some_eq e (Finish j o) (sym (get_last h e) ∙ ap (slice_get (h ++ e ∷ [])) (sym is') ∙ b))))
      (λ (no' : q ≢ n). absurd (no_end j q o at (sym (get_front h (e ∷ []) q (omega arith)) ∙ b))))
      (λ (no : p ≢ n). let a' : slice_get h p ≡ Some (Take j) = sym (get_front h (e ∷ []) p (omega arith)) ∙ a in let z = not_there p n no in dite (ℕ_discrete q n)
      (λ (is' : q ≡ n). let one = took j p o (some_eq e (Finish j o) (sym (get_last h e) ∙ ap (slice_get (h ++ e ∷ [])) (sym is') ∙ b)) a' in let y = once_here q n is' in let none : times q mine ≡ 0 = ap (λ (x : ℕ). times x mine) is' ∙ far in
      omega (arith, times-append p mine (n ∷ []), times-append q mine (n ∷ [])))
      (λ (no' : q ≢ n). let y = not_there q n no' in let same = pairs p q j o a' (sym (get_front h (e ∷ []) q (omega arith)) ∙ b) in omega (arith, times-append p mine (n ∷ []), times-append q mine (n ∷ [])))) where
        not_both : (j : ℕ) (o : Snapshot (Outcome A)) → ◌≡◌ {A = Event C A} (Take j) (Finish j o) → ⊥
        not_both j o e = cc

  pub pairs_submit : (h : List (Event C A)) (i : ℕ) (c : Snapshot C) (mine : List ℕ) → Within h mine → Pairs h mine → Pairs (h ++ Submit i c ∷ []) (mine ++ length h ∷ [])
  pairs_submit h i c mine w pairs = pairs_more h (Submit i c) mine (λ j q o e f. cc) (λ j p o e f. absurd (not i j c o e)) w pairs where
    not : (i j : ℕ) (c : Snapshot C) (o : Snapshot (Outcome A)) → ◌≡◌ {A = Event C A} (Submit i c) (Finish j o) → ⊥
    not i j c o e = cc

  pub pairs_withdraw : (h : List (Event C A)) (i : ℕ) (mine : List ℕ) → Within h mine → Pairs h mine → Pairs (h ++ Withdraw i ∷ []) (mine ++ length h ∷ [])
  pairs_withdraw h i mine w pairs = pairs_more h (Withdraw i) mine (λ j q o e f. cc) (λ j p o e f. absurd (not i j o e)) w pairs where
    not : (i j : ℕ) (o : Snapshot (Outcome A)) → ◌≡◌ {A = Event C A} (Withdraw i) (Finish j o) → ⊥
    not i j o e = cc

  pub pairs_take : (capacity : ℕ) (h : List (Event C A)) (i : ℕ) (mine : List ℕ) → are_steps capacity [] (entries_of (h ++ Take i ∷ [])) ≡ true → Within h mine → Pairs h mine → Pairs (h ++ Take i ∷ []) (mine ++ length h ∷ [])
  pairs_take capacity h i mine ok w pairs = let both = last_step capacity h (Take i) ok in
      pairs_more h (Take i) mine
      (λ j q o e f.
      let done = finish_done capacity [] (entries_of h) q j both.0 (get_map entry_of h q (Finish j o) f) in
      let queued = take_queued capacity (jobs_of h) i both.1 in
      not_queued (some_eq state.Done state.Queued (sym done ∙ ap (slice_get (jobs_of h)) (sym (same i j e)) ∙ queued)))
      (λ j p o e f. absurd (not i j o e)) w pairs where
        same : (i j : ℕ) → ◌≡◌ {A = Event C A} (Take i) (Take j) → i ≡ j
        same i j e = cc

        not_queued : state.Done ≡ state.Queued → ⊥
        not_queued e = cc

        not : (i j : ℕ) (o : Snapshot (Outcome A)) → ◌≡◌ {A = Event C A} (Take i) (Finish j o) → ⊥
        not i j o e = cc

  pub pairs_finish : (capacity : ℕ) (h : List (Event C A)) (i : ℕ) (x : Snapshot (Outcome A)) (mine : List ℕ) → are_steps capacity [] (entries_of h) ≡ true → Holds h mine i → Within h mine → Pairs h mine → Pairs (h ++ Finish i x ∷ []) (mine ++ length h ∷ [])
  pairs_finish capacity h i x mine ok k w pairs = pairs_more h (Finish i x) mine (λ j q o e f. not i j x e)
      (λ j p o e f.
      let at = at_job i j p x o e f in
      ap (λ (z : ℕ). times z mine) (take_once capacity [] (entries_of h) p k.place i ok (get_map entry_of h p (Take i) at) (get_map entry_of h k.place (Take i) k.takes_it)) ∙ k.own) w pairs where
        not : (i j : ℕ) (x : Snapshot (Outcome A)) → ◌≡◌ {A = Event C A} (Finish i x) (Take j) → ⊥
        not i j x e = cc

        at_job : (i j p : ℕ) (x o : Snapshot (Outcome A)) → ◌≡◌ {A = Event C A} (Finish i x) (Finish j o) → slice_get h p ≡ Some (Take j) → slice_get h p ≡ Some (Take i)
        at_job i j p x o e f = f ∙ ap (λ (z : Event C A). Some z) (sames i j x o e) where
          sames : (i j : ℕ) (x o : Snapshot (Outcome A)) → ◌≡◌ {A = Event C A} (Finish i x) (Finish j o) → ◌≡◌ {A = Event C A} (Take j) (Take i)
          sames i j x o e = cc

  legal_longer : (capacity : ℕ) (seen h : List (Event C A)) (mine : List ℕ) → IsLegal capacity seen mine → IsPrefix seen h → Pairs h mine → are_steps capacity [] (entries_of h) ≡ true → IsLegal capacity h mine
  legal_longer capacity seen h mine l pre pairs ok = record { steps = ok; within = within_longer seen h mine pre l.within; rising = l.rising; pairs = pairs }

  -- what is held stays while others go on
  held_longer : (capacity : ℕ) (seen h : List (Event C A)) (mine : List ℕ) → IsLegal capacity seen mine → IsPrefix seen h → Pairs h mine → are_steps capacity [] (entries_of h) ≡ true → held_in h mine ≡ held_in seen mine
  held_longer capacity seen h mine l pre pairs ok = let a = total_longer takes seen h mine pre l.within in let b = total_longer ends seen h mine pre l.within in
      let x = balanced capacity seen mine l.steps l.pairs in let y = balanced capacity h mine ok pairs in omega arith

  held_more : (capacity : ℕ) (seen h : List (Event C A)) (e : Event C A) (mine : List ℕ) → IsLegal capacity seen mine → IsPrefix seen h → Pairs (h ++ e ∷ []) (mine ++ length h ∷ []) → are_steps capacity [] (entries_of (h ++ e ∷ [])) ≡ true
      → held_in (h ++ e ∷ []) (mine ++ length h ∷ []) + ends (Some e) ≡ held_in seen mine + takes (Some e)
  held_more capacity seen h e mine l pre pairs ok = let a = total_more takes seen h e mine pre l.within in let b = total_more ends seen h e mine pre l.within in
      let x = balanced capacity seen mine l.steps l.pairs in let y = balanced capacity (h ++ e ∷ []) (mine ++ length h ∷ []) ok pairs in omega arith

  -- what a call knows when its turn has come
  pub record Entered (t : TableView) (old : PassView (Event C A)) (h : List (Event C A)) : Type 0 where
    pub of : IsPassOf t old
    pub begins : IsPrefix old.seen h
    pub pairs : Pairs h old.mine
    pub steps : are_steps t.capacity [] (entries_of h) ≡ true

  pub entered : (t : TableView) (old : PassView (Event C A)) (h : List (Event C A)) (mine : List ℕ) (capacity : ℕ) → IsPassOf t old → mine ≡ old.mine → capacity ≡ old.capacity → IsPrefix old.seen h → Pairs h mine → are_steps capacity [] (entries_of h) ≡ true → Entered t old h
  entered t old h mine capacity of same cap begins pairs steps = record { of = of; begins = begins; pairs = subst (Pairs h) same pairs; steps = ap (λ (n : ℕ). are_steps n [] (entries_of h)) (sym of.capacity ∙ sym cap) ∙ steps }

  -- a call that added nothing
  pub looked : (t : TableView) (old new : PassView (Event C A)) (h : List (Event C A)) → Entered t old h → new ≡ record old { seen = h } → Looks old new
  looked t old new h en is = subst (λ (p : PassView (Event C A)). Looks old p) (sym is) record {
    begins = en.begins;
    same = refl;
    holds = λ j k. holds_here t.capacity old.seen h old.mine j en.begins en.steps en.pairs en.of.legal.within k;
  }

  pub looked_of : (t : TableView) (old new : PassView (Event C A)) (h : List (Event C A)) → Entered t old h → new ≡ record old { seen = h } → IsPassOf t new × (new.held ≡ old.held)
  looked_of t old new h en is = subst (λ (p : PassView (Event C A)). IsPassOf t p × (p.held ≡ old.held)) (sym is) (
    record {
      table = en.of.table;
      capacity = en.of.capacity;
      legal = legal_longer t.capacity old.seen h old.mine en.of.legal en.begins en.pairs en.steps;
      held = en.of.held ∙ sym (held_longer t.capacity old.seen h old.mine en.of.legal en.begins en.pairs en.steps);
      few = let l = prefix_length old.seen h en.begins in let f = en.of.few in omega arith;
    },
    refl,
  )

  -- a call that added an event
  pub added : (t : TableView) (old new : PassView (Event C A)) (says : List (Event C A) → Event C A → Type 0) (h : List (Event C A)) (e : Event C A) → Entered t old h → says h e
      → Pairs (h ++ e ∷ []) (old.mine ++ length h ∷ []) → are_steps t.capacity [] (entries_of (h ++ e ∷ [])) ≡ true → (held : ℕ) → new ≡ record old { seen = h ++ e ∷ []; mine = old.mine ++ length h ∷ []; held = held } → Adds old says new
  added t old new says h e en said pairs ok held is = subst (λ (p : PassView (Event C A)). Adds old says p) (sym is) record {
    before = h;
    event = e;
    says_so = said;
    begins = en.begins;
    seen = refl;
    mine = refl;
    same = (refl, refl, refl);
    holds = λ j other k. holds_more t.capacity old.seen h e old.mine j en.begins ok pairs en.of.legal.within other k;
  }

  pub added_of : (t : TableView) (old new : PassView (Event C A)) (h : List (Event C A)) (e : Event C A) (held : ℕ) → Entered t old h → Pairs (h ++ e ∷ []) (old.mine ++ length h ∷ []) → are_steps t.capacity [] (entries_of (h ++ e ∷ [])) ≡ true
      → held + ends (Some e) ≡ old.held + takes (Some e) → held ≤ old.held + 1 → new ≡ record old { seen = h ++ e ∷ []; mine = old.mine ++ length h ∷ []; held = held } → IsPassOf t new × (new.held ≡ held)
  added_of t old new h e held en pairs ok counts few is = subst (λ (p : PassView (Event C A)). IsPassOf t p × (p.held ≡ held)) (sym is) (
    record {
      table = en.of.table;
      capacity = en.of.capacity;
      legal = record {
        steps = ok;
        within = within_more old.seen h e old.mine en.begins en.of.legal.within;
        rising = rising_snoc old.mine (length h) en.of.legal.rising (λ x far. within_longer old.seen h old.mine en.begins en.of.legal.within x far);
        pairs = pairs;
      };
      held = let a = held_more t.capacity old.seen h e old.mine en.of.legal en.begins pairs ok in let b = en.of.held in omega arith;
      few = let l = prefix_length old.seen h en.begins in let f = en.of.few in let m = length-append h (e ∷ []) in omega arith;
    },
    refl,
  )

  -- a pass that holds a job has a ticket out
  pub holds_some : (t : TableView) (p : PassView (Event C A)) (j : ℕ) → IsPassOf t p → Holds p.seen p.mine j → 0 < p.held
  holds_some t p j of k = let own = k.own in let a = held_some p.seen p.mine k.place j k.takes_it k.runs (omega arith) in let b = of.held in omega arith

  -- at the close no job runs
  pub none_left : (t : TableView) (p : PassView (Event C A)) → IsPassOf t p → p.held ≡ 0 → ((x : ℕ) → times x p.mine ≡ once_below x (length p.seen)) → (j : ℕ) → ¬ (slice_get (jobs_of p.seen) j ≡ Some state.Running)
  none_left t p of none all = none_runs t.capacity p.seen p.mine of.legal.steps (λ x low. let a = all x in let b = below x (length p.seen) low in omega arith) (sym of.held ∙ none) where
    below : (x n : ℕ) → x < n → once_below x n ≡ 1
    below x n low = grind (arith, nat_tests)

  -- the job that was just taken
  pub now_held : (capacity : ℕ) (seen h : List (Event C A)) (j : ℕ) (mine : List ℕ) → IsPrefix seen h → Within seen mine → are_steps capacity [] (entries_of (h ++ Take j ∷ [])) ≡ true → Holds (h ++ Take j ∷ []) (mine ++ length h ∷ []) j
  now_held capacity seen h j mine pre w ok = let q = take_queued capacity (jobs_of h) j (last_step capacity h (Take j) ok).1 in let l = prefix_length seen h pre in let z = w (length h) l in let y = once_here (length h) (length h) refl in record {
    place = length h;
    takes_it = get_last h (Take j);
    own = omega (arith, times-append (length h) mine (length h ∷ []));
    runs = ap (λ (l : List JobState). slice_get l j) (jobs_snoc h (Take j)) ∙ get_set_same (jobs_of h) j state.Running (get_within (jobs_of h) state.Queued j q);
  }

  pub now_within : (t : TableView) (old : PassView (Event C A)) (h : List (Event C A)) → Entered t old h → Within h old.mine
  now_within t old h en = within_longer old.seen h old.mine en.begins en.of.legal.within

  -- the places to be given back with the new event
  pub owned_more : (h h' seen : List (Event C A)) (e : Event C A) (mine mine' : List ℕ) → h' ≡ h ++ e ∷ [] → mine' ≡ mine → seen ≡ h → Pairs (h ++ e ∷ []) (mine ++ length h ∷ []) → Pairs h' (mine' ++ length seen ∷ [])
  owned_more h h' seen e mine mine' more same now pairs = subst (λ (z : List (Event C A) × List ℕ × ℕ). Pairs z.0 (z.1 ++ z.2 ∷ [])) (λ k. (sym more k, sym same k, length (sym now k))) pairs

  pub owned_submit : (t : TableView) (old : PassView (Event C A)) (h : List (Event C A)) (e : Event C A) (j : ℕ) (c : C) → Entered t old h → Submits j c e → Pairs (h ++ e ∷ []) (old.mine ++ length h ∷ [])
  owned_submit t old h e j c en s = subst (λ (x : Event C A). Pairs (h ++ x ∷ []) (old.mine ++ length h ∷ [])) (sym s.1) (pairs_submit h j s.0 old.mine (now_within t old h en) en.pairs)

  pub owned_withdraw : (t : TableView) (old : PassView (Event C A)) (h : List (Event C A)) (e : Event C A) (j : ℕ) → Entered t old h → e ≡ Withdraw j → Pairs (h ++ e ∷ []) (old.mine ++ length h ∷ [])
  owned_withdraw t old h e j en is = subst (λ (x : Event C A). Pairs (h ++ x ∷ []) (old.mine ++ length h ∷ [])) (sym is) (pairs_withdraw h j old.mine (now_within t old h en) en.pairs)

  pub owned_take : (t : TableView) (old : PassView (Event C A)) (h : List (Event C A)) (e : Event C A) (j : ℕ) → Entered t old h → e ≡ Take j → are_steps t.capacity [] (entries_of (h ++ e ∷ [])) ≡ true → Pairs (h ++ e ∷ []) (old.mine ++ length h ∷ [])
  owned_take t old h e j en is ok = subst (λ (x : Event C A). Pairs (h ++ x ∷ []) (old.mine ++ length h ∷ [])) (sym is) (pairs_take t.capacity h j old.mine (ap (λ (x : Event C A). are_steps t.capacity [] (entries_of (h ++ x ∷ []))) (sym is) ∙ ok) (now_within t old h en) en.pairs)

  pub owned_finish : (t : TableView) (old : PassView (Event C A)) (h : List (Event C A)) (e : Event C A) (j : ℕ) (o : Outcome A) → Entered t old h → Finishes j o e → Holds old.seen old.mine j → Pairs (h ++ e ∷ []) (old.mine ++ length h ∷ [])
  owned_finish t old h e j o en s k = subst (λ (x : Event C A). Pairs (h ++ x ∷ []) (old.mine ++ length h ∷ [])) (sym s.1)
      (pairs_finish t.capacity h j s.0 old.mine en.steps (holds_here t.capacity old.seen h old.mine j en.begins en.steps en.pairs en.of.legal.within k) (now_within t old h en) en.pairs)

  -- the pass after the call, by what the event counts
  pub counts_submit : (e : Event C A) (j : ℕ) (c : C) → Submits j c e → (takes (Some e) ≡ 0) × (ends (Some e) ≡ 0)
  counts_submit e j c s = (ap (λ (x : Event C A). takes (Some x)) s.1, ap (λ (x : Event C A). ends (Some x)) s.1)

  pub counts_finish : (e : Event C A) (j : ℕ) (o : Outcome A) → Finishes j o e → (takes (Some e) ≡ 0) × (ends (Some e) ≡ 1)
  counts_finish e j o s = (ap (λ (x : Event C A). takes (Some x)) s.1, ap (λ (x : Event C A). ends (Some x)) s.1)

  pub counts_take : (e : Event C A) (j : ℕ) → e ≡ Take j → (takes (Some e) ≡ 1) × (ends (Some e) ≡ 0)
  counts_take e j is = (ap (λ (x : Event C A). takes (Some x)) is, ap (λ (x : Event C A). ends (Some x)) is)

  pub counts_withdraw : (e : Event C A) (j : ℕ) → e ≡ Withdraw j → (takes (Some e) ≡ 0) × (ends (Some e) ≡ 0)
  counts_withdraw e j is = (ap (λ (x : Event C A). takes (Some x)) is, ap (λ (x : Event C A). ends (Some x)) is)

  pub seen_longer : (h : List (Event C A)) (seen : List (Event C A)) (says : Event C A → Type 0) → IsPrefix seen h → Has seen says → Has h says
  seen_longer h seen says pre f = (f.0, f.1, (f.2.0, at_prefix seen h f.2.0 f.0 pre f.2.1))

  -- a job that was submitted is one of the jobs
  pub job_within : (t : TableView) (old : PassView (Event C A)) (h : List (Event C A)) (j : ℕ) → Entered t old h → (c : C) × Has old.seen (Submits j c) → j < length (jobs_of h)
  job_within t old h j en f = let p : ℕ = f.1.2.0 in let at : slice_get h p ≡ Some (Submit j f.1.1.0) = at_prefix old.seen h p (Submit j f.1.1.0) en.begins (f.1.2.1 ∙ ap (λ (x : Event C A). Some x) f.1.1.1) in
      submit_below t.capacity [] (entries_of h) p j en.steps (get_map entry_of h p (Submit j f.1.1.0) at)

pub both_begin : {E : Type 0} (a b : List E) (t : Bool) → IsPrefix (cond t a b) (cond t b a) → IsPrefix a (cond t b a) × IsPrefix b (cond t b a)
both_begin {E} a b true p = (p, ([], append-nil b))
both_begin {E} a b false p = (([], append-nil a), p)

total_put : (f : ℕ → ℕ) (x : ℕ) (l : List ℕ) → total f (put_in x l) ≡ f x + total f l
total_put f x [] = refl
total_put f x (y ∷ l) = by_test (ltb x y) (total_put f x l) where
  by_test : (t : Bool) → total f (put_in x l) ≡ f x + total f l → total f (cond t (x ∷ (y ∷ l)) (y ∷ put_in x l)) ≡ f x + (f y + total f l)
  by_test true i = refl
  by_test false i = omega arith

pub total_unite : (f : ℕ → ℕ) (a b : List ℕ) → total f (unite a b) ≡ total f a + total f b
total_unite f a [] = omega arith
total_unite f a (y ∷ b) = let p = total_put f y (unite a b) in let i = total_unite f a b in omega arith

one_of : {X : Type 0} (P : X → Type 0) (a b : X) (t : Bool) → P a → P b → P (cond t b a)
one_of P a b true p q = q
one_of P a b false p q = p

module _ {C A : Type 0} where
  pub joined_of : (t : TableView) (a b new : PassView (Event C A)) → IsPassOf t a → IsPassOf t b → a.held ≡ 0 → b.held ≡ 0 → IsPrefix (shorter a.seen b.seen) (longer a.seen b.seen) → IsRising (unite a.mine b.mine)
      → (log : List (Event C A)) → IsPrefix (longer a.seen b.seen) log → Pairs log (unite a.mine b.mine)
      → new ≡ record a { shares = a.shares + b.shares; seen = longer a.seen b.seen; mine = unite a.mine b.mine } → IsPassOf t new
  joined_of t a b new of of' none none' begins rising log goes pairs' is = let l : List (Event C A) = longer a.seen b.seen in let pre = both_begin a.seen b.seen (ltb (length a.seen) (length b.seen)) begins in
      let ok : are_steps t.capacity [] (entries_of l) ≡ true = one_of (λ (h : List (Event C A)). are_steps t.capacity [] (entries_of h) ≡ true) a.seen b.seen (ltb (length a.seen) (length b.seen)) of.legal.steps of'.legal.steps in
      let pairs : Pairs l (unite a.mine b.mine) = λ p q j o x y. pairs' p q j o (at_prefix l log p (Take j) goes x) (at_prefix l log q (Finish j o) goes y) in
      subst (IsPassOf t) (sym is) record {
        table = of.table;
        capacity = of.capacity;
        legal = record {
          steps = ok;
          within = λ x far. let u = times-unite x a.mine b.mine in let p = within_longer a.seen l a.mine pre.0 of.legal.within x far in let q = within_longer b.seen l b.mine pre.1 of'.legal.within x far in omega arith;
          rising = rising;
          pairs = pairs;
        };
        held = let u = total_unite (λ (p : ℕ). takes (slice_get l p)) a.mine b.mine in let v = total_unite (λ (p : ℕ). ends (slice_get l p)) a.mine b.mine in
            let p = total_longer takes a.seen l a.mine pre.0 of.legal.within in let p' = total_longer ends a.seen l a.mine pre.0 of.legal.within in
            let q = total_longer takes b.seen l b.mine pre.1 of'.legal.within in let q' = total_longer ends b.seen l b.mine pre.1 of'.legal.within in
            let x = balanced t.capacity a.seen a.mine of.legal.steps of.legal.pairs in let y = balanced t.capacity b.seen b.mine of'.legal.steps of'.legal.pairs in
            let z = balanced t.capacity l (unite a.mine b.mine) ok pairs in let e = of.held in let e' = of'.held in omega arith;
        few = omega arith;
      }
