-- The examples by computation
use Rattle.std.proofs.Common.{◌≡◌, ◌≢◌, ◌≤◌, ◌⊎◌, inl, inr, [], ◌∷◌, List, ap, get_or, length, take, refl, arith, lit<}
use Rattle.std.proofs.lemmas.List.Elements.{All-cons, All-nil}
use Rattle.field_ext.specs.Field.{K, k_ops, of, zero_k}
use Rattle.field_ext.specs.Polynomial.{HasAtMost}
use Rattle.gkr_layers.specs.declared.verdict.Verdict.TheVariants.{Accepted}
use Rattle.gkr_layers.specs.Acceptance.{true_table, verdict_of}
use Rattle.gkr_layers.specs.Soundness.{IsExceptionalChallenge, HaveDegrees}
use Rattle.field_ext.proofs.api.KLaws.{k_same}
use Rattle.gkr_layers.specs.Examples.{number, zero_for_five, false_round_messages, false_round_challenges, false_line_messages, false_line_challenges, thirteen_for_twelve, true_product_messages, zero_challenges, five_for_five, true_pair_messages, true_pair_challenges, zero_for_five_by_pair, false_pair_messages, false_pair_challenges}
use Rattle.gkr_layers.specs.Places.{value_over}
use Rattle.gkr_layers.specs.Places.Place.{AtBoth}
use Rattle.proof_wire.specs.declared.form.ProofForm.TheVariants.{Pair}
use Rattle.gkr_layers.proofs.Few.{few_challenges}
use Rattle.gkr_layers.proofs.api.Accepted.{equal, unequal}

pub round_accepted : verdict_of zero_for_five false_round_messages false_round_challenges ≡ Accepted
unfolding of
round_accepted = refl

pub line_accepted : verdict_of zero_for_five false_line_messages false_line_challenges ≡ Accepted
unfolding of
line_accepted = refl

pub output_accepted : verdict_of thirteen_for_twelve true_product_messages zero_challenges ≡ Accepted
unfolding of
output_accepted = refl

pub round_exceptional : IsExceptionalChallenge zero_for_five (take 1 false_round_messages) (take 1 false_round_challenges) 1 (number 3)
unfolding of
round_exceptional = ((λ s. unequal _ _ refl (s 1)), equal _ _ refl)

pub line_exceptional : IsExceptionalChallenge zero_for_five false_line_messages (take 3 false_line_challenges) 3 (number 1)
unfolding of
line_exceptional = ((λ s. unequal _ _ refl (s 0)), equal _ _ refl)

pub output_exceptional : IsExceptionalChallenge thirteen_for_twelve [] [] 0 (number 0)
unfolding of
output_exceptional = ((λ z. unequal _ _ refl (z 1 zero_k (lit< tt))), All-cons (λ c. c ≡ zero_k) _ [] (equal _ _ refl) (All-nil (λ c. c ≡ zero_k)))

-- a set of at most two elements that has these two has no other
only_two : (S : K → Type 0) (a b v : K) → HasAtMost 2 S → S a → S b → (a ≡ b → ⊥) → S v → (v ≡ a) ⊎ (v ≡ b)
only_two S a b v few sa sb ne sv =
    elim (k_same v a) [
      | inl e ↦ inl e
      | inr na ↦
          elim (k_same v b) [
            | inl e ↦ inr e
            | inr nb ↦
                let three : 3 ≤ 2 = few (v ∷ a ∷ b ∷ [])
                (All-cons (λ y. v ≢ y) a (b ∷ []) na (All-cons (λ y. v ≢ y) b [] nb (All-nil (λ y. v ≢ y))), (All-cons (λ y. a ≢ y) b [] ne (All-nil (λ y. a ≢ y)), (All-nil (λ y. b ≢ y), tt)))
                (All-cons S v (a ∷ b ∷ []) sv (All-cons S a (b ∷ []) sa (All-cons S b [] sb (All-nil S)))) in
                absurd (omega (arith, three))
          ]
    ]

pub round_zero : IsExceptionalChallenge zero_for_five (take 1 false_round_messages) (take 1 false_round_challenges) 1 (number 0)
unfolding of
round_zero = ((λ s. unequal _ _ refl (s 1)), equal _ _ refl)

apart_three : number 0 ≡ number 3 → ⊥
unfolding of
apart_three = unequal _ _ refl

round_degrees : HaveDegrees zero_for_five.form zero_for_five.layers (take 1 false_round_messages)
round_degrees = (All-cons (λ q. length q ≤ 3) _ [] (omega arith) (All-nil (λ q. length q ≤ 3)), omega arith, tt)

pub round_only : (v : K) → IsExceptionalChallenge zero_for_five (take 1 false_round_messages) (take 1 false_round_challenges) 1 v → (v ≡ number 0) ⊎ (v ≡ number 3)
round_only v h =
    only_two (IsExceptionalChallenge zero_for_five (take 1 false_round_messages) (take 1 false_round_challenges) 1) (number 0) (number 3) v
    (few_challenges zero_for_five (take 1 false_round_messages) (take 1 false_round_challenges) 1 round_degrees) round_zero round_exceptional apart_three h

-- a set of at most one element that has this one has no other
only_one : (S : K → Type 0) (a v : K) → HasAtMost 1 S → S a → S v → v ≡ a
only_one S a v few sa sv =
    elim (k_same v a) [
      | inl e ↦ e
      | inr na ↦
          let two : 2 ≤ 1 = few (v ∷ a ∷ []) (All-cons (λ y. v ≢ y) a [] na (All-nil (λ y. v ≢ y)), (All-nil (λ y. a ≢ y), tt)) (All-cons S v (a ∷ []) sv (All-cons S a [] sa (All-nil S))) in
          absurd (omega (arith, two))
    ]

abbrev zeros : List K
zeros = number 0 ∷ number 0 ∷ number 0 ∷ []

line_degrees : HaveDegrees zero_for_five.form zero_for_five.layers false_line_messages
line_degrees = (All-cons (λ q. length q ≤ 3) zeros (zeros ∷ []) (omega arith) (All-cons (λ q. length q ≤ 3) zeros [] (omega arith) (All-nil (λ q. length q ≤ 3))), omega arith, tt)

pub line_only : (v : K) → IsExceptionalChallenge zero_for_five false_line_messages (take 3 false_line_challenges) 3 v → v ≡ number 1
line_only v h =
    only_one (IsExceptionalChallenge zero_for_five false_line_messages (take 3 false_line_challenges) 3) (number 1) v
    (few_challenges zero_for_five false_line_messages (take 3 false_line_challenges) 3 line_degrees) line_exceptional h

output_degrees : HaveDegrees thirteen_for_twelve.form thirteen_for_twelve.layers []
output_degrees = (All-nil (λ q. length q ≤ 3), omega arith, (All-nil (λ q. length q ≤ 3), omega arith, tt))

pub output_only : (v : K) → IsExceptionalChallenge thirteen_for_twelve [] [] 0 v → v ≡ number 0
output_only v h =
    only_one (IsExceptionalChallenge thirteen_for_twelve [] [] 0) (number 0) v
    (few_challenges thirteen_for_twelve [] [] 0 output_degrees) output_exceptional h

abbrev second : List K → K
second xs = get_or xs 1 zero_k

pub copy_wrong : zero_for_five.claimed_table ≢ true_table zero_for_five
unfolding of
copy_wrong = λ e. unequal (number 0) (number 5) refl (ap second e)

pub product_wrong : thirteen_for_twelve.claimed_table ≢ true_table thirteen_for_twelve
unfolding of
product_wrong = λ e. unequal (number 13) (number 12) refl (ap second e)

pub pair_accepted : verdict_of five_for_five true_pair_messages true_pair_challenges ≡ Accepted
unfolding of
pair_accepted = refl

pub pair_claim : value_over k_ops five_for_five.input_table (AtBoth (number 3 ∷ []) (number 4 ∷ []) (number 6)) ≡ number 135
unfolding of
pair_claim = equal _ _ refl

pub false_pair_accepted : verdict_of zero_for_five_by_pair false_pair_messages false_pair_challenges ≡ Accepted
unfolding of
false_pair_accepted = refl

pub false_pair_exceptional : IsExceptionalChallenge zero_for_five_by_pair false_pair_messages (take 3 false_pair_challenges) 3 (number 2)
unfolding of
false_pair_exceptional = ((λ s. unequal _ _ refl (s 0)), equal _ _ refl)

false_pair_degrees : HaveDegrees Pair zero_for_five_by_pair.layers false_pair_messages
false_pair_degrees = (All-cons (λ q. length q ≤ 3) zeros (zeros ∷ []) (omega arith) (All-cons (λ q. length q ≤ 3) zeros [] (omega arith) (All-nil (λ q. length q ≤ 3))), omega arith, tt)

pub false_pair_only : (v : K) → IsExceptionalChallenge zero_for_five_by_pair false_pair_messages (take 3 false_pair_challenges) 3 v → v ≡ number 2
false_pair_only v h =
    only_one (IsExceptionalChallenge zero_for_five_by_pair false_pair_messages (take 3 false_pair_challenges) 3) (number 2) v
    (few_challenges zero_for_five_by_pair false_pair_messages (take 3 false_pair_challenges) 3 false_pair_degrees) false_pair_exceptional h
