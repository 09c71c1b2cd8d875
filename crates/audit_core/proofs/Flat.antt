-- The messages of layers in one list
use Rattle.std.proofs.Common.{◌≡◌, ℕ, zero, suc, ◌+◌, ◌-◌, ◌<◌, ◌≤◌, List, [], ◌∷◌, length, take, get_or, sym, ◌∙◌, ap, arith, length-append}
use Rattle.std.proofs.lemmas.List.{get_or_append_left, get_or-map, length-map}
use Rattle.std.proofs.Math.Seq.{get_or-append_right}
use Rattle.proof_wire.specs.declared.messages.LayerMessages.{LayerMessages}
use Rattle.proof_wire.specs.declared.messages.Round.{Round}
use Rattle.proof_wire.specs.Spelling.{coefficients_of}
use Rattle.proof_wire.specs.Lists.{round_messages, messages_of, all_messages}
use Rattle.gkr_layers.proofs.api.Lists.{next-read}
use Rattle.audit_core.specs.Found.{IsAt}

-- the number of the first message of layer i
abbrev pub first_number : List LayerMessages → ℕ → ℕ
first_number ms i = length (all_messages (take i ms))

pub length-layer : (m : LayerMessages) → length (messages_of m) ≡ length m.rounds + 1
length-layer m = omega (arith, length-append (round_messages m.rounds) (m.last ∷ []), length-map m.rounds coefficients_of)

-- a layer's messages begin there
pub layer_stands : (ms : List LayerMessages) (i : ℕ) (d : LayerMessages) → i < length ms → IsAt (all_messages ms) (first_number ms i) (messages_of (get_or ms i d))
layer_stands [] i d u j v = absurd (omega arith)
layer_stands (m ∷ ms) zero d u j v = (let z : 0 + j ≡ j = omega arith in ap (λ (n : ℕ). get_or (all_messages (m ∷ ms)) n []) z) ∙ get_or_append_left (messages_of m) (all_messages ms) [] j v
layer_stands (m ∷ ms) (suc i) d u j v =
    let size = length-append (messages_of m) (all_messages (take i ms)) in
    let past : length (messages_of m) ≤ first_number (m ∷ ms) (suc i) + j = omega (arith, size) in
    let left : first_number (m ∷ ms) (suc i) + j - length (messages_of m) ≡ first_number ms i + j = omega (arith, size) in
    get_or-append_right (messages_of m) (all_messages ms) (first_number (m ∷ ms) (suc i) + j) [] past
    ∙ ap (λ (n : ℕ). get_or (all_messages ms) n []) left
    ∙ layer_stands ms i d (omega arith) j v

-- and the next layer's after them
pub number_more : (ms : List LayerMessages) (i : ℕ) (d : LayerMessages) → i < length ms → first_number ms (i + 1) ≡ first_number ms i + length (messages_of (get_or ms i d))
number_more [] i d u = absurd (omega arith)
number_more (m ∷ ms) zero d u = length-append (messages_of m) [] ∙ omega arith
number_more (m ∷ ms) (suc i) d u =
    let one : suc i + 1 ≡ suc (i + 1) = omega arith in
    let rest : first_number ms (i + 1) ≡ first_number ms i + length (messages_of (get_or ms i d)) = number_more ms i d (omega arith) in
    ap (first_number (m ∷ ms)) one
    ∙ omega (arith, length-append (messages_of m) (all_messages (take (i + 1) ms)), length-append (messages_of m) (all_messages (take i ms)), rest)

pub number_most : (ms : List LayerMessages) (i : ℕ) → first_number ms i ≤ length (all_messages ms)
number_most ms zero = omega arith
number_most [] (suc i) = omega arith
number_most (m ∷ ms) (suc i) = omega (arith, length-append (messages_of m) (all_messages (take i ms)), length-append (messages_of m) (all_messages ms), number_most ms i)

module _ (ms : List LayerMessages) (i : ℕ) (m : LayerMessages) (u : i < length ms) (is : m ≡ get_or ms i m) where
  pub layer_count : first_number ms (i + 1) ≡ first_number ms i + (length m.rounds + 1)
  layer_count = number_more ms i m u ∙ ap (λ (n : ℕ). first_number ms i + n) (ap (λ (x : LayerMessages). length (messages_of x)) (sym is) ∙ length-layer m)

  pub stands_here : (n : ℕ) → n ≡ first_number ms i → IsAt (all_messages ms) n (messages_of m)
  stands_here n e = coe 1 0 (j. IsAt (all_messages ms) (e j) (messages_of (is j))) (layer_stands ms i m u)

-- the messages of a layer one by one
pub read_round : (m : LayerMessages) (j : ℕ) (r : Round) → j < length m.rounds → r ≡ get_or m.rounds j r → get_or (messages_of m) j [] ≡ coefficients_of r
read_round m j r u is =
    let v : j < length (round_messages m.rounds) = omega (arith, u, length-map m.rounds coefficients_of) in
    get_or_append_left (round_messages m.rounds) (m.last ∷ []) [] j v ∙ get_or-map coefficients_of m.rounds j r [] u ∙ ap coefficients_of (sym is)

pub read_last : (m : LayerMessages) → get_or (messages_of m) (length m.rounds) [] ≡ m.last
read_last m = next-read (round_messages m.rounds) [] m.last [] (length m.rounds) (length-map m.rounds coefficients_of)
