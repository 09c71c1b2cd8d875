-- What turns know, and the rule of the lock.
use Rattle.std.specs.Prelude.{◌≡◌, ℕ, ◌+◌, ◌-◌, ◌%◌, ◌^◌, ◌<◌, ◌≤◌, true, false, ◌==◌, cond, ltb, ◌⊎◌, List, [], ◌∷◌, ◌++◌, length, slice_index, Option, Some, None, MatchBool}
use mathlib.Core.Option.{some}
use mathlib.Core.List.{IsPrefix}
use lib.ListN.{get_elem?}
use Rattle.atomic_table.specs.Table.{State, Me, Step, rest}
use Rattle.tallies.specs.Tallies.{total, times, once_below}
use Rattle.turn_lock.specs.Lists.{unite, longer, shorter}
use Rattle.turn_lock.specs.declared.rule.View.{View}

-- 1 for the tickets from serving up to next
abbrev pub ticket_in : ℕ → ℕ → ℕ → ℕ
ticket_in t serving next = cond (ltb t serving) 0 (once_below t next)

module _ {E : Type 0} where
  -- all shares, and nothing seen
  abbrev pub newcomer : ℕ → ℕ → View E
  newcomer fix n = record {
    seats = n;
    fixed = fix;
    seen = [];
    mine = [];
    known = [];
    out = false;
    held = false;
    at = 0;
  }

  -- 1 where a ticket is out with the turn
  abbrev pub out : View E → ℕ
  out v = cond v.out 1 0

  abbrev pub has_ticket : ℕ → View E → ℕ
  has_ticket t v = cond v.out (cond (t == v.at) 1 0) 0

module _ {S E : Type 0} where
  abbrev pub drew : Step (Option S) → Me (Option S) (View E) → ℕ → Me (Option S) (View E) → Type 0
  drew st m found m' = (m'.0 ≡ record m.0 { out = true; at = m'.0.at }) × (found ≡ m'.0.at % 2 ^ 64)
      × (m'.1 ≡ m.1)

-- the history grew by this many entries, 0 or 1
abbrev pub Grows : {E : Type 0} → ℕ → List E → List E → Type 0
Grows {E} added before after =
    ((added ≡ 0) × (after ≡ before)) ⊎ ((added ≡ 1) × ((e : E) × (after ≡ before ++ e ∷ [])))

-- the places of a turn, with the new place where there is one
abbrev pub mine_after : ℕ → List ℕ → ℕ → List ℕ
mine_after added mine place = cond (added == 0) mine (mine ++ place ∷ [])

-- the shares, of which some are given away
abbrev pub kept : {E : Type 0} → ℕ → View E → View E
kept n v = record v { seats = v.seats - n }

abbrev pub given : {E : Type 0} → ℕ → View E → View E
given n v = record {
  seats = n;
  fixed = v.fixed;
  seen = v.seen;
  mine = [];
  known = v.known;
  out = false;
  held = false;
  at = 0;
}

abbrev pub joined : {E : Type 0} → View E → View E → View E
joined v w = record {
  seats = v.seats + w.seats;
  fixed = v.fixed;
  seen = longer v.seen w.seen;
  mine = unite v.mine w.mine;
  known = shorter v.seen w.seen;
  out = false;
  held = false;
  at = 0;
}

abbrev pub spent : {E : Type 0} → View E
spent = newcomer 0 0

-- what a turn at rest carries
abbrev pub AtRest : {S E : Type 0} → Me (Option S) (View E) → Type 0
AtRest m = (0 < m.0.seats) × (m.0.out ≡ m.0.held)
    × MatchBool m.0.held (m.1 ≡ (0, None) ∷ []) (m.1 ≡ [])

module _ {S E : Type 0} (history : S → List E) (owns : List E → List ℕ → Type 0) (fixed : S
    → ℕ) where
  pub record Fits (fix serving : ℕ) (log : List E) (v : View E) : Type 0 where
    pub still : 0 < v.seats → v.fixed ≡ fix
    pub begins : IsPrefix v.seen log
    pub knew : IsPrefix v.known v.seen
    pub owned : owns log v.mine
    pub within : (x : ℕ) → length v.seen ≤ x → times x v.mine ≡ 0
    pub idle : v.seats ≡ 0 → (v.mine ≡ []) × (v.out ≡ false)
    pub turn : v.held ≡ true → (v.out ≡ true) × (v.at ≡ serving) × (v.seen ≡ log)

  -- the state lies in the slot, and no turn holds it
  pub record Free (fix : ℕ) (log : List E) (s : State (Option S) (View E)) : Type 0 where
    pub state : S
    pub lies : get_elem? s.homes 0 ≡ some (some (Some state))
    pub shows : history state ≡ log
    pub still : fixed state ≡ fix
    pub none : (j : ℕ) (v : View E) → get_elem? s.views j ≡ some v → v.held ≡ false

  -- a turn holds it
  pub record Held (s : State (Option S) (View E)) : Type 0 where
    pub seat : ℕ
    pub holder : View E
    pub sits : get_elem? s.views seat ≡ some holder
    pub holds : holder.held ≡ true

  -- Word 0 is the next ticket, word 1 the ticket that is served, word 2 the length of the history
  pub record IsLock (fix seats : ℕ) (s : State (Option S) (View E)) : Type 0 where
    pub next : ℕ
    pub serving : ℕ
    pub log : List E
    pub wide : length s.words ≡ 3
    pub slots : length s.homes ≡ 1
    pub next_is : slice_index s.words 0 ≡ next % 2 ^ 64
    pub serving_is : slice_index s.words 1 ≡ serving % 2 ^ 64
    pub long : slice_index s.words 2 ≡ length log
    pub few : seats < 2 ^ 32
    pub shared : total (λ v. v.seats) s.views ≡ seats
    pub outs : serving + total out s.views ≡ next
    pub tickets : (t : ℕ) → total (has_ticket t) s.views ≡ ticket_in t serving next
    pub placed : (x : ℕ) → total (λ v. times x v.mine) s.views ≡ once_below x (length log)
    pub each : (j : ℕ) (v : View E) → get_elem? s.views j ≡ some v → Fits fix serving log v
    pub slot : Free fix log s ⊎ Held s

  abbrev Seated : Type 0
  Seated = Me (Option S) (View E)

  -- it is this turn's, and the state is taken out of the slot
  pub record Served (m m' : Seated) : Type 0 where
    pub state : S
    pub took : m'.1 ≡ (0, Some state) ∷ m.1
    pub begins : IsPrefix m.0.seen (history state)
    pub owned : owns (history state) m.0.mine
    pub still : fixed state ≡ m.0.fixed
    pub view : m'.0 ≡ record m.0 { seen = history state; known = m.0.seen; held = true }

  abbrev pub looked : Step (Option S) → Seated → ℕ → Seated → Type 0
  looked st m found m' = (found ≡ m.0.at % 2 ^ 64 → Served m m')
      × (¬ (found ≡ m.0.at % 2 ^ 64) → m' ≡ m)

  abbrev pub recorded : Step (Option S) → Seated → ℕ → Seated → Type 0
  recorded st m found m' =
      (m'.1 ≡ m.1) × ((x : S) → m.1 ≡ (0, Some x) ∷ [] → m'.0 ≡ record m.0 {
        seen = history x;
        mine = mine_after st.first m.0.mine (length m.0.seen);
      })

  abbrev pub left : Step (Option S) → Seated → ℕ → Seated → Type 0
  left st m found m' = (m'.1 ≡ rest m.1) × (m'.0 ≡ record m.0 { out = false; held = false })

  -- a look makes known that the shorter of two beginnings begins the longer, that no place comes twice, and that the places are owned in a history that goes on
  abbrev pub known_so : Step (Option S) → Seated → ℕ → Seated → Type 0
  known_so st m found m' = (m' ≡ m) × IsPrefix m.0.known m.0.seen × ((x : ℕ) → times x m.0.mine ≤ 1)
      × ((log : List E) × IsPrefix m.0.seen log × owns log m.0.mine)
