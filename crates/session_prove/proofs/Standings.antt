-- How far both ends of a session have come, and how each step of a turn moves them
use Rattle.std.proofs.Common.{◌≡◌, ℕ, ◌+◌, ◌-◌, ◌*◌, ◌<◌, ◌≤◌, min, List, length, take, Bool, true, false, if◌then◌else◌, Option, Some, None, ◌==◌, inl, inr, refl, sym, ◌∙◌, ap, subst, arith, length-take}
use Rattle.std.specs.Prelude.{is_none, is_some, not, slice_index_or}
use Rattle.std.proofs.lemmas.Bool.{cases_lt, le-leb, lt-leb}
use Rattle.std.proofs.lemmas.List.{take-take}
use Rattle.field_ext.specs.Field.{F}
use Rattle.circuit_core.specs.Parts.{Parts}
use Rattle.circuit_core.specs.Sound.{SoundCircuit}
use Rattle.circuit_eval.specs.Tables.{AreTables}
use Rattle.gkr_layers.specs.Layers.{challenges_of}
use Rattle.live_session.specs.Elements.{leading}
use Rattle.live_session.specs.Proving.{Proving, prover_sent, stop_of, verdict_known, words_in}
use Rattle.live_session.specs.Verifying.{Session, element_count, verifier_sent}
use Rattle.session_prove.specs.Exchange.{HaveBegun, whole_session}
use Rattle.session_prove.proofs.Ends.{bytes-count, ends}
use Rattle.session_prove.proofs.Steps.{no_stop}
use Rattle.session_prove.proofs.Turns.{messages-front, messages-grow, none-waits, reply-front, reply-grows, reply-last, taken-length}

-- what the verifier sends after so many bytes of the prover's, and the prover after so many of the verifier's
abbrev pub reply_after : Session → ℕ → List ℕ
reply_after s g = verifier_sent (record s { bytes = take g (prover_sent s.parts s.inputs s.words) })

abbrev pub messages_after : Session → ℕ → List ℕ
messages_after s t = prover_sent s.parts s.inputs (leading (challenges_of s.parts) (take t (verifier_sent (whole_session s))))

-- The ends, that began as `s` and `prover`, were handed the first g and the first t bytes of each other's, and no more than were sent.
pub record HaveCome (s : Session) (prover : Proving) (v : Session) (p : Proving) (t g : ℕ) : Type 0 where
  pub verifier_has : v ≡ record s { bytes = take g (prover_sent s.parts s.inputs s.words) }
  pub prover_has : p ≡ record prover { bytes = take t (verifier_sent (whole_session s)) }
  pub within : g ≤ 8 * element_count s.parts
  pub taken : t ≤ length (reply_after s g)
  pub given : g ≤ length (messages_after s t)

-- how many bytes are still to be handed over
abbrev pub left : Parts → ℕ → ℕ → ℕ
left p t g = 8 * element_count p + (8 * challenges_of p + 1) - (t + g)

-- ---- what the prover says

told-late : (due : ℕ) (bytes : List ℕ) → is_none (verdict_known due bytes) ≡ false → 8 * due + 1 ≤ length bytes
told-late due bytes e = elim (cases_lt (length bytes) (8 * due + 1)) [
  | inl u ↦ absurd (let f : true ≡ false = sym (ap (λ (b : Bool). is_none (if b then Some (slice_index_or bytes (8 * due) 0 == 1) else None)) (lt-leb (8 * due + 1) (length bytes) u)) ∙ e in cc)
  | inr u ↦ u
]

told-early : (due : ℕ) (bytes : List ℕ) → is_none (verdict_known due bytes) ≡ true → length bytes < 8 * due + 1
told-early due bytes e = elim (cases_lt (length bytes) (8 * due + 1)) [
  | inl u ↦ u
  | inr u ↦ absurd (let f : false ≡ true = sym (ap (λ (b : Bool). is_none (if b then Some (slice_index_or bytes (8 * due) 0 == 1) else None)) (le-leb (8 * due + 1) (length bytes) u)) ∙ e in cc)
]

-- what its test says
pub tells : (o p : Option Bool) (waits b : Bool) → p ≡ o → is_some p ≡ not waits → waits ≡ b → is_none o ≡ b
tells o p waits b e f g = ap is_none (sym e) ∙ ap not f ∙ twice waits ∙ g where
  twice : (b : Bool) → not (not b) ≡ b
  twice true = refl
  twice false = refl

module _ (c : SoundCircuit) (s : Session) (prover : Proving) (same : s.parts ≡ c.parts) (begun : HaveBegun s prover) where
  abbrev all-given : List ℕ
  all-given = prover_sent s.parts s.inputs s.words

  abbrev all-taken : List ℕ
  all-taken = verifier_sent (whole_session s)

  given-length : length (prover_sent s.parts s.inputs s.words) ≡ 8 * element_count s.parts
  given-length = bytes-count c s same begun.as_many begun.outputs begun.words

  taken-most : length (verifier_sent (whole_session s)) ≡ 8 * challenges_of s.parts + 1
  taken-most = taken-length c s same begun.as_many begun.outputs begun.words

  reply-is : (g : ℕ) → g ≤ 8 * element_count s.parts → reply_after s g ≡ take (length (reply_after s g)) (verifier_sent (whole_session s))
  reply-is g u = reply-front c s same begun.as_many begun.outputs begun.words g u

  messages-are : (t : ℕ) → t ≤ 8 * challenges_of s.parts + 1 → messages_after s t ≡ take (length (messages_after s t)) (prover_sent s.parts s.inputs s.words)
  messages-are t u = messages-front c s same begun.as_many begun.outputs begun.words t u

  reply-most : (g : ℕ) → g ≤ 8 * element_count s.parts → length (reply_after s g) ≤ 8 * challenges_of s.parts + 1
  reply-most g u = omega (arith, ap length (reply-is g u), length-take (length (reply_after s g)) (verifier_sent (whole_session s)), taken-most)

  messages-most : (t : ℕ) → t ≤ 8 * challenges_of s.parts + 1 → length (messages_after s t) ≤ 8 * element_count s.parts
  messages-most t u = omega (arith, ap length (messages-are t u), length-take (length (messages_after s t)) (prover_sent s.parts s.inputs s.words), given-length)

  pub come_begun : HaveCome s prover s prover 0 0
  come_begun = record {
    verifier_has = ap (λ (b : List ℕ). record s { bytes = b }) begun.unfed;
    prover_has = ap (λ (b : List ℕ). record prover { bytes = b }) begun.prover_unfed;
    within = omega arith;
    taken = omega arith;
    given = omega arith;
  }

  module _ (v : Session) (p : Proving) (t g : ℕ) (come : HaveCome s prover v p t g) where
    least : t ≤ 8 * challenges_of s.parts + 1
    least = omega (arith, come.taken, reply-most g come.within)

    pub verifier_parts : v.parts ≡ s.parts
    verifier_parts = ap (λ (z : Session). z.parts) come.verifier_has

    pub prover_parts : p.parts ≡ s.parts
    prover_parts = ap (λ (z : Proving). z.parts) come.prover_has ∙ begun.same_circuit

    pub replied : verifier_sent v ≡ reply_after s g
    replied = ap verifier_sent come.verifier_has

    pub said : (sent : List ℕ) → ((inputs : List F) → AreTables p.parts inputs p.values → sent ≡ prover_sent p.parts inputs (words_in p)) → sent ≡ messages_after s t
    said sent says =
        let tables : AreTables p.parts s.inputs p.values =
        subst (λ (z : Proving). AreTables z.parts s.inputs z.values) (sym come.prover_has) (subst (λ (q : Parts). AreTables q s.inputs prover.values) (sym begun.same_circuit) begun.tables) in
        says s.inputs tables
        ∙ ap (λ (z : Proving). prover_sent z.parts s.inputs (words_in z)) come.prover_has
        ∙ ap (λ (q : Parts). prover_sent q s.inputs (leading (challenges_of q) (take t (verifier_sent (whole_session s))))) begun.same_circuit

    -- ---- the prover's step

    pub prover_took : (sent : List ℕ) → sent ≡ verifier_sent v → p.bytes ≡ take t sent
    prover_took sent is =
        ap (λ (z : Proving). z.bytes) come.prover_has
        ∙ sym (ap (take t) (is ∙ replied ∙ reply-is g come.within) ∙ take-take t (length (reply_after s g)) all-taken come.taken)

    pub prover_faultless : (sent : List ℕ) → sent ≡ verifier_sent v → stop_of (challenges_of p.parts) sent ≡ None
    prover_faultless sent is =
        ap (λ (q : Parts). stop_of (challenges_of q) sent) prover_parts
        ∙ ap (stop_of (challenges_of s.parts)) (is ∙ replied ∙ reply-is g come.within)
        ∙ no_stop (challenges_of s.parts) (length (reply_after s g)) all-taken (ends c s same begun.as_many begun.outputs begun.words).faultless

    pub prover_come : (sent : List ℕ) (next : Proving) (count : ℕ) → sent ≡ verifier_sent v → t + count ≤ length sent → next ≡ record p { bytes = take (t + count) sent } → HaveCome s prover v next (t + count) g
    prover_come sent next count is u e =
        let there : t + count ≤ length (reply_after s g) = omega (arith, u, ap length (is ∙ replied)) in
        record {
          verifier_has = come.verifier_has;
          prover_has =
              e
              ∙ ap (λ (z : Proving). record z { bytes = take (t + count) sent }) come.prover_has
              ∙ ap (λ (b : List ℕ). record prover { bytes = b }) (ap (take (t + count)) (is ∙ replied ∙ reply-is g come.within) ∙ take-take (t + count) (length (reply_after s g)) all-taken there);
          within = come.within;
          taken = there;
          given = omega (arith, come.given, messages-grow c s same begun.as_many begun.outputs begun.words t (t + count) (omega arith) (omega (arith, there, reply-most g come.within)));
        }

    -- ---- the verifier's step

    pub verifier_took : (sent : List ℕ) → sent ≡ messages_after s t → v.bytes ≡ take g sent
    verifier_took sent is =
        ap (λ (z : Session). z.bytes) come.verifier_has
        ∙ sym (ap (take g) (is ∙ messages-are t least) ∙ take-take g (length (messages_after s t)) all-given come.given)

    pub verifier_few : (sent : List ℕ) → sent ≡ messages_after s t → length sent ≤ 8 * element_count v.parts
    verifier_few sent is = omega (arith, ap length is, messages-most t least, ap element_count verifier_parts)

    pub verifier_come : (sent : List ℕ) (next : Session) (count : ℕ) → sent ≡ messages_after s t → g + count ≤ length sent → next ≡ record v { bytes = take (g + count) sent } → HaveCome s prover next p t (g + count)
    verifier_come sent next count is u e =
        let there : g + count ≤ length (messages_after s t) = omega (arith, u, ap length is) in
        let within : g + count ≤ 8 * element_count s.parts = omega (arith, there, messages-most t least) in
        record {
          verifier_has =
              e
              ∙ ap (λ (z : Session). record z { bytes = take (g + count) sent }) come.verifier_has
              ∙ ap (λ (b : List ℕ). record s { bytes = b }) (ap (take (g + count)) (is ∙ messages-are t least) ∙ take-take (g + count) (length (messages_after s t)) all-given there);
          prover_has = come.prover_has;
          within = within;
          taken = omega (arith, come.taken, reply-grows c s same begun.as_many begun.outputs begun.words g (g + count) (omega arith) within);
          given = there;
        }

    -- ---- a turn

    has-bytes : length p.bytes ≡ t
    has-bytes = omega (arith, ap (λ (z : Proving). length z.bytes) come.prover_has, length-take t (verifier_sent (whole_session s)), taken-most, least)

    due-is : challenges_of p.parts ≡ challenges_of s.parts
    due-is = ap challenges_of prover_parts

    not-told : is_none (verdict_known (challenges_of p.parts) p.bytes) ≡ true → t < 8 * challenges_of s.parts + 1
    not-told e = omega (arith, told-early (challenges_of p.parts) p.bytes e, has-bytes, due-is)

    -- where the prover hasn't the last byte yet, some are handed over
    pub left_falls : (piece more count : ℕ) → 1 ≤ piece → is_none (verdict_known (challenges_of p.parts) p.bytes) ≡ true → more ≡ min piece (length (reply_after s g) - t) → count ≡ min piece (length (messages_after s (t + more)) - g) →
        left s.parts (t + more) (g + count) < left s.parts t g
    left_falls piece more count some waits more-is count-is =
        let early : t < 8 * challenges_of s.parts + 1 = not-told waits in
        let most : t + more ≤ 8 * challenges_of s.parts + 1 = omega (arith, more-is, least, reply-most g come.within) in
        let most' : g + count ≤ 8 * element_count s.parts = omega (arith, count-is, come.within, messages-most (t + more) most) in
        elim (cases_lt t (length (reply_after s g))) [
          | inl w ↦
              let one : 1 ≤ more = omega (arith, more-is, w, some) in
              omega (arith, one, most, most')
          | inr w ↦
              let none : t + more ≡ t = omega (arith, more-is, w) in
              let same-messages : length (messages_after s (t + more)) ≡ length (messages_after s t) = ap (λ (m : ℕ). length (messages_after s m)) none in
              elim (cases_lt g (length (messages_after s t))) [
                | inl x ↦
                    let one : 1 ≤ count = omega (arith, count-is, same-messages, x, some) in
                    omega (arith, one, most, most')
                | inr x ↦
                    let end = none-waits c s same begun.as_many begun.outputs begun.words t g least come.within (omega (arith, w, come.taken)) (omega (arith, x, come.given)) in
                    absurd (omega (arith, early, end))
              ]
        ]

    -- and where it has, all were
    pub all_over : is_none (verdict_known (challenges_of p.parts) p.bytes) ≡ false → (t ≡ length (verifier_sent (whole_session s))) × (g ≡ length (prover_sent s.parts s.inputs s.words))
    all_over e =
        let late : 8 * challenges_of s.parts + 1 ≤ t = omega (arith, told-late (challenges_of p.parts) p.bytes e, has-bytes, due-is) in (
          omega (arith, late, least, taken-most),
          reply-last c s same begun.as_many begun.outputs begun.words g come.within (omega (arith, late, come.taken)) ∙ sym given-length,
        )

  -- ---- the steps of a turn, in their order

  pub prover_turn : (v : Session) (p next : Proving) (t g piece more : ℕ) (sent sent' : List ℕ) → HaveCome s prover v p t g → sent ≡ verifier_sent v → more ≡ min piece (length sent - t) → next ≡ record p { bytes = take (t + more) sent } →
      ((inputs : List F) → AreTables next.parts inputs next.values → sent' ≡ prover_sent next.parts inputs (words_in next)) → HaveCome s prover v next (t + more) g × (sent' ≡ messages_after s (t + more))
  prover_turn v p next t g piece more sent sent' come is more-is e says =
      let size : length sent ≡ length (reply_after s g) = ap length (is ∙ replied v p t g come) in
      let come' : HaveCome s prover v next (t + more) g = prover_come v p t g come sent next more is (omega (arith, size, more-is, come.taken)) e in
      (come', said v next (t + more) g come' sent' says)

  pub verifier_turn : (v v' : Session) (p : Proving) (t g piece count : ℕ) (sent : List ℕ) → HaveCome s prover v p t g × (sent ≡ messages_after s t) → count ≡ min piece (length sent - g) → v' ≡ record v { bytes = take (g + count) sent } → HaveCome s prover v' p t (g + count)
  verifier_turn v v' p t g piece count sent (come, is) count-is e = verifier_come v p t g come sent v' count is (omega (arith, ap length is, count-is, come.given)) e

  pub verifier_waits : (v : Session) (p : Proving) (t g : ℕ) (sent : List ℕ) → HaveCome s prover v p t g × (sent ≡ messages_after s t) → g ≤ length sent
  verifier_waits v p t g sent (come, is) = omega (arith, come.given, ap length is)
