-- The equations of all layers, one layer after another
use Rattle.std.proofs.Common.{◌≡◌, ℕ, suc, ◌+◌, ◌<◌, ◌≤◌, List, [], ◌∷◌, ◌++◌, length, get_or, drop, Bool, true, false, if◌then◌else◌, IsTrue, refl, sym, ◌∙◌, ap, subst, arith, add-one, drop_of_length-le, length-drop, length-take-le}
use Rattle.std.proofs.lemmas.List.{drop_more}
use Rattle.field_ext.specs.Field.{K, k_ops, same_k}
use Rattle.circuit_core.specs.Parts.{Parts, height}
use Rattle.circuit_core.specs.Sound.{exponent_at}
use Rattle.transcript_fs.specs.Source.{Source, draws, state_after}
use Rattle.proof_wire.specs.declared.messages.LayerMessages.{LayerMessages}
use Rattle.proof_wire.specs.declared.form.ProofForm.{ProofForm}
use Rattle.proof_wire.specs.declared.form.ProofForm.TheVariants.{Line, Pair}
use Rattle.proof_wire.specs.Lists.{messages_of, all_messages, HasShape, HaveShape}
use Rattle.gkr_layers.specs.Places.{Place, IsOver, value_over}
use Rattle.gkr_layers.specs.Layers.{GateLayer, layer_at, layers_below, layers_of, lower_exponents, message_count}
use Rattle.gkr_layers.specs.declared.verdict.Verdict.{Verdict}
use Rattle.gkr_layers.specs.declared.verdict.Verdict.TheVariants.{Accepted}
use Rattle.gkr_layers.specs.Equations.{Answered, input_equation, equations, first_failure, answer}
use Rattle.gkr_layers.proofs.api.Circuits.{below_more, below_none}
use Rattle.gkr_layers.proofs.api.Shapes.{has_layer, has_below}
use Rattle.gkr_verify.specs.Kept.{kept_place}

-- the answer of one equation after which no message comes
one_answer : (b : Bool) (v : Verdict) (s : List ℕ) → ◌≡◌ {A = Answered} (if b then record { verdict = Accepted; state = s } else record { verdict = v; state = s }) (record { verdict = if b then Accepted else v; state = s })
one_answer true v s = refl
one_answer false v s = refl

-- the points that are kept on a layer of k coordinates have as many
pub over_kept : (at : ProofForm) (k : ℕ) (weight : K) (kept : List K) → k + k ≤ length kept → IsOver k (kept_place at k weight kept)
over_kept Line k weight kept u = length-take-le k kept (omega arith)
over_kept Pair k weight kept u = (length-take-le k kept (omega arith), length-take-le k (drop k kept) (omega (arith, length-drop k kept)))

module _ (form : ProofForm) (source : Source) (p : Parts) (input : List K) where
  -- the answer of the equations of some layers
  abbrev pub answer_of : List ℕ → ℕ → List GateLayer → Place K → K → List LayerMessages → Answered
  answer_of s layer layers place claim ms = answer source s (equations form layer layers input place claim (all_messages ms) (draws source s (all_messages ms))) (all_messages ms)

  module _ (s0 : List ℕ) (place0 : Place K) (claim0 : K) (all : List LayerMessages) where
    -- the answer of the layers from this one on is that of all
    pub record Down (layer : ℕ) (s : List ℕ) (place : Place K) (claim : K) : Type 0 where
      pub same : answer_of s0 0 (layers_of p) place0 claim0 all ≡ answer_of s layer (layers_below p layer) place claim (drop layer all)
      pub shape : HaveShape form (lower_exponents (layers_below p layer)) (drop layer all)
      pub has : IsTrue (source.has s (message_count (layers_below p layer)))

    pub down_begun : HaveShape form (lower_exponents (layers_of p)) all → IsTrue (source.has s0 (message_count (layers_of p))) → Down 0 s0 place0 claim0
    down_begun shape has = record { same = refl; shape = shape; has = has }

    module _ (layer : ℕ) (s : List ℕ) (place : Place K) (claim : K) (d : Down layer s place claim) (count : length all ≡ height p) where
      module _ (m : LayerMessages) (u : layer < length all) (is : m ≡ get_or all layer m) where
        split : drop layer all ≡ m ∷ drop (layer + 1) all
        split = drop_more all layer m u ∙ ap (λ (x : LayerMessages). x ∷ drop (layer + 1) all) (sym is)

        below : layers_below p layer ≡ layer_at p layer ∷ layers_below p (layer + 1)
        below = below_more p layer (subst (λ (n : ℕ). layer < n) count u)

        abbrev rest : List LayerMessages
        rest = drop (layer + 1) all

        shapes : HasShape form (layer_at p layer).k m × HaveShape form (lower_exponents (layers_below p (layer + 1))) rest
        shapes = coe 0 1 (i. HaveShape form (lower_exponents (below i)) (split i)) d.shape

        has_both : IsTrue (source.has s (message_count (layer_at p layer ∷ layers_below p (layer + 1))))
        has_both = subst (λ (xs : List GateLayer). IsTrue (source.has s (message_count xs))) below d.has

        pub down_shape : HasShape form (exponent_at p (layer + 1)) m
        down_shape = shapes.0

        pub down_has : IsTrue (source.has s (exponent_at p (layer + 1) + exponent_at p (layer + 1) + 1))
        down_has = has_layer source s (layer_at p layer) (layers_below p (layer + 1)) has_both

        abbrev here : Answered
        here = answer source s (equations form layer (layer_at p layer ∷ layers_below p (layer + 1)) input place claim (messages_of m ++ all_messages rest) (draws source s (messages_of m ++ all_messages rest))) (messages_of m ++ all_messages rest)

        whole : answer_of s0 0 (layers_of p) place0 claim0 all ≡ here
        whole = d.same ∙ (λ i. answer_of s layer (below i) place claim (split i))

        -- an answer that this layer gives is the answer
        pub down_stops : (answered : Answered) → here ≡ answered → answer_of s0 0 (layers_of p) place0 claim0 all ≡ answered
        down_stops answered e = whole ∙ e

        -- a layer that leads on to the next keeps the answer
        pub down_holds : (s' : List ℕ) (place' : Place K) (claim' : K) → s' ≡ state_after source s (messages_of m) →
            here ≡ answer source s' (equations form (suc layer) (layers_below p (layer + 1)) input place' claim' (all_messages rest) (draws source s' (all_messages rest))) (all_messages rest) →
            Down (layer + 1) s' place' claim'
        down_holds s' place' claim' hs e = record {
          same = whole ∙ e ∙ (λ i. answer_of s' (sym (add-one layer) i) (layers_below p (layer + 1)) place' claim' rest);
          shape = shapes.1;
          has = subst (λ (t : List ℕ). IsTrue (source.has t (message_count (layers_below p (layer + 1))))) (sym hs) (has_below source s (layer_at p layer) (layers_below p (layer + 1)) has_both form m shapes.0);
        }

      -- below all layers the claim on the inputs is left
      pub down_ends : length all ≤ layer → answer_of s0 0 (layers_of p) place0 claim0 all ≡ record { verdict = first_failure (input_equation claim (value_over k_ops input place) ∷ []); state = s }
      down_ends u =
          d.same
          ∙ (λ i. answer_of s layer (below_none p layer (subst (λ (n : ℕ). n ≤ layer) count u) i) place claim (drop_of_length-le all u i))
          ∙ one_answer (same_k claim (value_over k_ops input place)) _ s
