-- One round more
use Rattle.std.proofs.Common.{◌≡◌, ℕ, ◌+◌, ◌-◌, ◌<◌, List, [], ◌∷◌, ◌++◌, IsTrue, length, refl, sym, ◌∙◌, ap, subst, arith, length-append}
use Rattle.std.proofs.lemmas.List.{length-map}
use Rattle.field_ext.specs.Field.{K, k_ops}
use Rattle.field_ext.specs.Polynomial.{coefficients}
use Rattle.round_tables.specs.LayerSum.{LayerSum, next_poly}
use Rattle.transcript_fs.specs.Source.{Source, draws, state_after}
use Rattle.proof_wire.specs.declared.messages.Round.{Round}
use Rattle.proof_wire.specs.Spelling.{coefficients_of}
use Rattle.proof_wire.specs.Lists.{round_messages}
use Rattle.gkr_prove.specs.Rounds.{IsNoted, AreBegun}
use Rattle.gkr_prove.proofs.HonestSteps.{rounds_more, draws-more, state-more}
use Rattle.gkr_prove.proofs.HasSteps.{has_after_next}

pub none_begun : (source : Source) (sum : LayerSum) (s : List ℕ) → AreBegun source sum s 0 [] [] s
none_begun source sum s = record {
  honest = λ j u. absurd (omega arith);
  count = refl;
  challenges = refl;
  drawn = refl;
  state = refl;
}

pub has_all : (source : Source) (sum : LayerSum) (s : List ℕ) (count : ℕ) → sum.bound ≡ [] → count + length sum.bound ≡ sum.k + sum.k
    → IsTrue (source.has s (sum.k + sum.k)) → IsTrue (source.has s (count - 0))
has_all source sum s count none all has =
    let left : sum.k + sum.k ≡ count - 0 = let e = ap length none in omega (arith, e, all) in
    subst (λ (n : ℕ). IsTrue (source.has s n)) left has

module _ (source : Source) (sum : LayerSum) (s : List ℕ) (n : ℕ) (messages messages' : List Round) (drawn drawn' : List K) (now now' : List ℕ) (q : List K) (r : K) (tables : LayerSum)
    (is : tables ≡ record sum { bound = drawn }) (noted : IsNoted source q r now now' messages drawn messages' drawn') where
  pub bound_more : (tables' : LayerSum) → tables' ≡ record tables { bound = tables.bound ++ r ∷ [] } → tables' ≡ record sum { bound = drawn' }
  bound_more tables' e = e ∙ (λ i. record (is i) { bound = (is i).bound ++ r ∷ [] }) ∙ (λ i. record sum { bound = sym noted.drawn i })

  pub has_more : (count : ℕ) → n < count → IsTrue (source.has now (count - n)) → IsTrue (source.has now' (count - (n + 1)))
  has_more count u h = subst (λ (t : List ℕ). IsTrue (source.has t (count - (n + 1)))) (sym noted.state) (has_after_next source now q count n u h)

  pub begun_more : q ≡ coefficients k_ops 3 (next_poly tables) → AreBegun source sum s n messages drawn now → AreBegun source sum s (n + 1) messages' drawn' now'
  begun_more message before =
      let qs : List (List K) = round_messages messages in
      let size : length qs ≡ n = length-map messages coefficients_of ∙ before.count in
      let value : r ≡ source.draw (source.absorb (state_after source s qs) q) = noted.challenge ∙ ap (λ (t : List ℕ). source.draw (source.absorb t q)) before.state in
      record {
        honest = rw (noted.messages, noted.drawn) (rounds_more sum.k sum.gates sum.values sum.place n qs drawn q r size before.challenges (message ∙ ap (λ (t : LayerSum). coefficients k_ops 3 (next_poly t)) is) before.honest);
        count = let more = sym (length-map messages' coefficients_of) ∙ ap length noted.messages ∙ length-append qs (q ∷ []) in omega (arith, more, size);
        challenges = let more = ap length noted.drawn ∙ length-append drawn (r ∷ []) in omega (arith, more, before.challenges);
        drawn = noted.drawn ∙ (λ i. before.drawn i ++ value i ∷ []) ∙ sym (draws-more source s qs q) ∙ ap (draws source s) (sym noted.messages);
        state = noted.state ∙ ap (λ (t : List ℕ). source.after (source.absorb t q)) before.state ∙ sym (state-more source s qs q) ∙ ap (state_after source s) (sym noted.messages);
      }
