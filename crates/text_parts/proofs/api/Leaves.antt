-- The parts that are no sequence of parts take exactly their texts.
use Rattle.std.proofs.Common.{◌≡◌, ℕ, ◌-◌, ◌<◌, ◌≤◌, ◌⊎◌, inl, inr, Bool, true, false, cond, eqb, eq-eqb, ltb, List, [], ◌∷◌, ◌++◌, length, take, drop, replicate, Ok, Err, refl, sym, ap, subst, ◌∙◌, arith}
use Rattle.std.proofs.lemmas.Bool.{eqb-true, ltb-true, ltb-false, le-ltb}
use Rattle.std.proofs.lemmas.List.{append-nil, take_at, drop_at, take-append-drop, length-append, length-take, length-replicate}
use Rattle.text_parts.specs.declared.due.DueKind.{DueKind}
use Rattle.text_parts.specs.declared.due.DueKind.TheVariants.{End}
use Rattle.text_parts.specs.declared.stop.Stop.{Stop}
use Rattle.text_parts.specs.Parts.{Taking, stopped, word_at, counted_bytes_at}
use Rattle.text_parts.specs.Exact.{IsCounted, IsWord, StopsAt, IsExact}
use Rattle.text_parts.proofs.api.Compose.{ok_parts, stops_at_end, stops_now, stops_later, not_at_end}

-- which way a test went
pub chosen : {A : Type 0} (b : Bool) (x y z : A) → cond b x y ≡ z → ((b ≡ true) × (x ≡ z)) ⊎ ((b ≡ false) × (y ≡ z))
chosen true x y z e = inl (refl, e)
chosen false x y z e = inr (refl, e)

-- ---- fixed words

word_only : (kind : DueKind) (w rest : List ℕ) → word_at kind w (w ++ rest) ≡ Ok (tt, rest)
unfolding word_at
word_only kind [] rest = refl
word_only kind (x ∷ w) rest = rw (eq-eqb x x refl) (word_only kind w rest)

word_found : (kind : DueKind) (w bytes rest : List ℕ) → word_at kind w bytes ≡ Ok (tt, rest) → bytes ≡ w ++ rest
unfolding word_at
word_found kind [] bytes rest e = (ok_parts tt tt bytes rest e).1
word_found kind (x ∷ w) [] rest e = absurd cc
word_found kind (x ∷ w) (b ∷ bytes) rest e =
    elim (chosen (eqb b x) (word_at kind w bytes) (Err (stopped kind (b ∷ bytes))) (Ok (tt, rest)) e) [
      | inl h ↦ let same : b ≡ x = eqb-true b x h.0 in rw (same, word_found kind w bytes rest h.1) refl
      | inr h ↦ absurd (let f = h.1 in cc)
    ]

word_stops : (kind : DueKind) (w bytes : List ℕ) (s : Stop) → word_at kind w bytes ≡ Err s → StopsAt (word_at kind w) bytes s
unfolding word_at
word_stops kind [] bytes s e = absurd cc
word_stops kind (x ∷ w) [] s e = stops_at_end (word_at kind (x ∷ w)) s (cc) refl
word_stops kind (x ∷ w) (b ∷ bytes) s e =
    elim (chosen (eqb b x) (word_at kind w bytes) (Err (stopped kind (b ∷ bytes))) (Err s) e) [
      | inl h ↦ stops_later (word_at kind (x ∷ w)) (word_at kind w) b bytes s (λ more. rw h.0 refl) (word_stops kind w bytes s h.1)
      | inr h ↦ stops_now (word_at kind (x ∷ w)) kind b bytes s (let f = h.1 in cc) refl (λ more. rw h.0 refl)
    ]

-- the rest of a word
word_wants : (kind : DueKind) (w bytes : List ℕ) → word_at kind w bytes ≡ Err (stopped End []) → (more : List ℕ) × (bytes ++ more ≡ w)
unfolding word_at
word_wants kind [] bytes e = absurd cc
word_wants kind (x ∷ w) [] e = (x ∷ w, refl)
word_wants kind (x ∷ w) (b ∷ bytes) e =
    elim (chosen (eqb b x) (word_at kind w bytes) (Err (stopped kind (b ∷ bytes))) (Err (stopped End [])) e) [
      | inl h ↦
          let same : b ≡ x = eqb-true b x h.0 in
          let g = word_wants kind w bytes h.1 in
          (g.0, rw (same, g.1) refl)
      | inr h ↦ absurd (not_at_end kind b bytes (let f = h.1 in cc))
    ]

pub word_exact : (kind : DueKind) (w : List ℕ) → IsExact (IsWord w) (word_at kind w)
word_exact kind w = record {
  only = λ u text rest h. rw h (word_only kind w rest);
  found = λ bytes u rest e. record { text = w; spells = refl; parts = word_found kind w bytes rest e };
  stops = word_stops kind w;
  wants = λ bytes e. let g = word_wants kind w bytes e in record { value = tt; more = g.0; spells = g.1 };
  some = record { value = tt; more = w; spells = refl };
}

-- ---- counted bytes

-- a test that went well
guarded_ok : {A : Type 0} (b : Bool) (s : Stop) (x y : A × List ℕ) → (let r : Taking A = cond b (Err s) (Ok x) in let t : Taking A = Ok y in r ≡ t) → (b ≡ false) × (x ≡ y)
guarded_ok true s x y e = absurd cc
guarded_ok false s x y e = (refl, cc)

guarded_err : {A : Type 0} (b : Bool) (s t : Stop) (x : A × List ℕ) → (let r : Taking A = cond b (Err s) (Ok x) in let u : Taking A = Err t in r ≡ u) → (b ≡ true) × (s ≡ t)
guarded_err true s t x e = (refl, cc)
guarded_err false s t x e = absurd cc

pub counted_bytes_exact : (n : ℕ) → IsExact (IsCounted n) (counted_bytes_at n)
unfolding counted_bytes_at
counted_bytes_exact n = record {
  only = λ bytes text rest h.
      let long : ltb (length (text ++ rest)) n ≡ false = le-ltb _ _ (omega (arith, length-append text rest, ap length h.1, h.0)) in
      let len : length text ≡ n = ap length h.1 ∙ h.0 in
      rw (long, take_at text rest n len, drop_at text rest n len, h.1) refl;
  found = λ bytes a rest e.
      let g = guarded_ok (ltb (length bytes) n) (stopped End []) (take n bytes, drop n bytes) (a, rest) e in
      let long : n ≤ length bytes = ltb-false _ _ g.0 in
      let prefix : take n bytes ≡ a = ap (λ (p : List ℕ × List ℕ). p.0) g.1 in
      let back : drop n bytes ≡ rest = ap (λ (p : List ℕ × List ℕ). p.1) g.1 in
      record { text = a; spells = (rw (← prefix) (omega (arith, length-take n bytes)), refl); parts = rw (← prefix, ← back) (sym (take-append-drop n bytes)) };
  stops = λ bytes s e.
      let g = guarded_err (ltb (length bytes) n) (stopped End []) s (take n bytes, drop n bytes) e in
      subst (StopsAt (counted_bytes_at n) bytes) g.1 (record { taken = bytes; rest = []; parts = sym (append-nil bytes); place = refl; due = e ∙ ap (λ (t : Stop). Err t) (sym g.1); blocks = refl });
  wants = λ bytes e.
      let g = guarded_err (ltb (length bytes) n) (stopped End []) (stopped End []) (take n bytes, drop n bytes) e in
      let short : length bytes < n = ltb-true _ _ g.0 in
      let more = replicate (n - length bytes) 0 in
      let len : length (bytes ++ more) ≡ n = omega (arith, length-append bytes more, length-replicate {A = ℕ} (n - length bytes) 0) in
      record { value = bytes ++ more; more = more; spells = (len, refl) };
  some = record { value = replicate n 0; more = replicate n 0; spells = (length-replicate {A = ℕ} n 0, refl) };
}
