-- The rounds of a layer, one more at a time
use Rattle.std.proofs.Common.{◌≡◌, ℕ, suc, ◌+◌, ◌-◌, ◌<◌, ◌≤◌, List, [], ◌∷◌, ◌++◌, length, get_or, set, take, drop, true, false, IsTrue, refl, sym, ◌∙◌, ap, subst, arith, add-one, drop_of_length-le, append-nil, append_assoc, take-suc-set}
use Rattle.std.proofs.lemmas.List.{drop_more, take_all, length-map, get_or-map}
use Rattle.proof_wire.specs.declared.messages.Round.{Round}
use Rattle.proof_wire.specs.Spelling.{coefficients_of}
use Rattle.proof_wire.specs.Lists.{round_messages}
use Rattle.field_ext.specs.Field.{K, k_ops, add_k, zero_k, one_k, same_k}
use Rattle.field_ext.specs.Polynomial.{value_at}
use Rattle.transcript_fs.specs.Source.{Source, draws, state_after}
use Rattle.transcript_fs.proofs.api.Draws.{has_any}
use Rattle.gkr_verify.proofs.Choices.{first_holds, first_fails}
use Rattle.gkr_layers.specs.declared.verdict.Verdict.TheVariants.{Sum}
use Rattle.gkr_layers.specs.Equations.{Equation, claim_after, sum_equations, answer}

-- a round's message as it is read
pub message_read : (messages : List Round) (j : ℕ) (round : Round) (q : List K) → j < length messages → round ≡ get_or messages j round → q ≡ coefficients_of round → (j < length (round_messages messages)) × (q ≡ get_or (round_messages messages) j q)
message_read messages j round q u is e =
    let size = length-map messages coefficients_of in
    (omega (arith, size, u), e ∙ ap coefficients_of is ∙ sym (get_or-map coefficients_of messages j round q u))

abbrev pub sum_at : List K → K
sum_at q = add_k (value_at k_ops q zero_k) (value_at k_ops q one_k)

-- j messages are taken, and every equation up to them holds
pub record Progress (source : Source) (s0 : List ℕ) (claim0 : K) (all : List (List K)) (j : ℕ) (s : List ℕ) (now : K) (kept : List K) : Type 0 where
  pub holds : (number : ℕ) (rest : List Equation) (more : List (List K)) →
      answer source s0 (sum_equations number 1 claim0 all (draws source s0 all) ++ rest) (all ++ more)
      ≡ answer source s (sum_equations number (suc j) now (drop j all) (draws source s (drop j all)) ++ rest) (drop j all ++ more)
  pub claim : claim_after claim0 all (draws source s0 all) ≡ claim_after now (drop j all) (draws source s (drop j all))
  pub drawn : take j kept ++ draws source s (drop j all) ≡ draws source s0 all
  pub state : state_after source s (drop j all) ≡ state_after source s0 all
  pub has : IsTrue (source.has s (length all - j))

pub begun : (source : Source) (s : List ℕ) (claim : K) (all : List (List K)) (drawn : List K) → IsTrue (source.has s (length all)) → Progress source s claim all 0 s claim drawn
begun source s claim all drawn has = record {
  holds = λ number rest more. refl;
  claim = refl;
  drawn = refl;
  state = refl;
  has = subst (λ (n : ℕ). IsTrue (source.has s n)) (let e : length all ≡ length all - 0 = omega arith in e) has;
}

module _ (source : Source) (s0 : List ℕ) (claim0 : K) (all : List (List K)) (j : ℕ) (s : List ℕ) (claim : K) (drawn : List K) (p : Progress source s0 claim0 all j s claim drawn) where
  module _ (q : List K) (u : j < length all) (is : q ≡ get_or all j q) where
    split : drop j all ≡ q ∷ drop (j + 1) all
    split = drop_more all j q u ∙ ap (λ (x : List K). x ∷ drop (j + 1) all) (sym is)

    left : length all - j ≡ suc (length all - (j + 1))
    left = omega arith

    -- one more is there
    pub has_one : IsTrue (source.has s (suc (length all - (j + 1))))
    has_one = subst (λ (n : ℕ). IsTrue (source.has s n)) left p.has

    pub has_now : IsTrue (source.has (source.absorb s q) 1)
    has_now = source.has_absorbed s q 1 (has_any source s (length all - (j + 1)) has_one)

    pub stepped : length drawn ≡ length all → same_k (sum_at q) claim ≡ true → (s' : List ℕ) (r : K) (claim' : K) → r ≡ source.draw (source.absorb s q) → s' ≡ source.after (source.absorb s q) → claim' ≡ value_at k_ops q r →
        Progress source s0 claim0 all (j + 1) s' claim' (set drawn j r)
    stepped size e s' r claim' hr hs hc = record {
      holds = λ number rest more.
          p.holds number rest more
          ∙ (λ i. answer source s (sum_equations number (suc j) claim (split i) (draws source s (split i)) ++ rest) (split i ++ more))
          ∙ first_holds (same_k (sum_at q) claim) _ _ e
          ∙ (λ i. answer source (sym hs i) (sum_equations number (suc (sym (add-one j) i)) (value_at k_ops q (sym hr i)) (drop (j + 1) all) (draws source (sym hs i) (drop (j + 1) all)) ++ rest) (drop (j + 1) all ++ more))
          ∙ (λ i. answer source s' (sum_equations number (suc (j + 1)) (sym hc i) (drop (j + 1) all) (draws source s' (drop (j + 1) all)) ++ rest) (drop (j + 1) all ++ more));
      claim =
          p.claim
          ∙ (λ i. claim_after claim (split i) (draws source s (split i)))
          ∙ (λ i. claim_after (value_at k_ops q (sym hr i)) (drop (j + 1) all) (draws source (sym hs i) (drop (j + 1) all)))
          ∙ (λ i. claim_after (sym hc i) (drop (j + 1) all) (draws source s' (drop (j + 1) all)));
      drawn =
          (λ i. take (add-one j i) (set drawn j r) ++ draws source s' (drop (j + 1) all))
          ∙ ap (λ (xs : List K). xs ++ draws source s' (drop (j + 1) all)) (let v : j < length drawn = omega arith in take-suc-set drawn j r v)
          ∙ append_assoc (take j drawn) (r ∷ []) (draws source s' (drop (j + 1) all))
          ∙ (λ i. take j drawn ++ hr i ∷ draws source (hs i) (drop (j + 1) all))
          ∙ (λ i. take j drawn ++ draws source s (sym split i))
          ∙ p.drawn;
      state = (λ i. state_after source (hs i) (drop (j + 1) all)) ∙ (λ i. state_after source s (sym split i)) ∙ p.state;
      has = subst (λ (t : List ℕ). IsTrue (source.has t (length all - (j + 1)))) (sym hs) (source.has_after (source.absorb s q) (length all - (j + 1)) (source.has_absorbed s q (suc (length all - (j + 1))) has_one));
    }

    pub failed : same_k (sum_at q) claim ≡ false → (number : ℕ) (rest : List Equation) (more : List (List K)) →
        answer source s0 (sum_equations number 1 claim0 all (draws source s0 all) ++ rest) (all ++ more) ≡ record { verdict = Sum number (j + 1) (sum_at q) claim; state = s }
    failed e number rest more =
        p.holds number rest more
        ∙ (λ i. answer source s (sum_equations number (suc j) claim (split i) (draws source s (split i)) ++ rest) (split i ++ more))
        ∙ first_fails (same_k (sum_at q) claim) _ _ e
        ∙ (λ i. record { verdict = Sum number (sym (add-one j) i) (sum_at q) claim; state = s })

  module _ (u : length all ≤ j) (size : length drawn ≡ length all) where
    none : drop j all ≡ []
    none = drop_of_length-le all u

    pub done_holds : (number : ℕ) (rest : List Equation) (more : List (List K)) →
        answer source s0 (sum_equations number 1 claim0 all (draws source s0 all) ++ rest) (all ++ more) ≡ answer source (state_after source s0 all) rest more
    done_holds number rest more =
        p.holds number rest more
        ∙ (λ i. answer source s (sum_equations number (suc j) claim (none i) (draws source s (none i)) ++ rest) (none i ++ more))
        ∙ (λ i. answer source (((λ j. state_after source s (sym none j)) ∙ p.state) i) rest more)

    pub done_claim : claim ≡ claim_after claim0 all (draws source s0 all)
    done_claim = sym (p.claim ∙ (λ i. claim_after claim (none i) (draws source s (none i))))

    pub done_drawn : drawn ≡ draws source s0 all
    done_drawn =
        let short : length drawn ≤ j = omega arith in
        sym (take_all j drawn short) ∙ sym (append-nil (take j drawn)) ∙ (λ i. take j drawn ++ draws source s (sym none i)) ∙ p.drawn

    pub done_state : s ≡ state_after source s0 all
    done_state = (λ i. state_after source s (sym none i)) ∙ p.state
