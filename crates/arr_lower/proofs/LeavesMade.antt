-- Leaves, as they are made and what their values are.
use Rattle.std.proofs.Common.{◌≡◌, ℕ, zero, suc, ◌+◌, ◌<◌, ◌≤◌, List, [], ◌∷◌, ◌++◌, map, take, drop, length, get_or, refl, sym, ap, ◌∙◌, subst, arith, append_assoc, length-append}
use Rattle.std.specs.List.{range_with_len}
use Rattle.std.proofs.lemmas.List.{append-nil, length_push}
use Rattle.std.proofs.lemmas.List.FromFn.{length-map-range_with_len, map-range_with_len_more}
use Rattle.field_ext.specs.Field.{F}
use Rattle.circuit_core.specs.Parts.{zero_f}
use Rattle.node_core.specs.declared.node.Node.{Node}
use Rattle.node_core.specs.declared.node.Node.TheVariants.{Input}
use Rattle.arr_lower.specs.Operations.{Made, leaf_nodes}
use Rattle.arr_lower.proofs.Grown.{Stands, HasOne, grows-none, stands-kept, push-has}
use Rattle.arr_lower.proofs.MadeEach.{HasEach, each-then}
use Rattle.arr_lower.proofs.MadeInTurn.{made_of}

-- the leaves from a number on
abbrev leaves_from : ℕ → ℕ → List Node → Made
leaves_from first count nodes = record { items = range_with_len first count; nodes = nodes ++ map Input (range_with_len first count) }

one-taken : {A : Type 0} (items : List A) (first count : ℕ) (past : A) → first < length items → take (suc count) (drop first items) ≡ get_or items first past ∷ take count (drop (suc first) items)
one-taken [] first count past inside = absurd (omega (arith, inside))
one-taken (x ∷ items) zero count past inside = refl
one-taken (x ∷ items) (suc first) count past inside = one-taken items first count past (omega (arith, inside))

-- ---- as a loop makes them

pub leaves-long : (count : ℕ) (before : List Node) → length (leaf_nodes count before).nodes ≡ length before + count
leaves-long count before = length-append before (map Input (range_with_len (length before) count)) ∙ ap (λ n. length before + n) (length-map-range_with_len Input (length before) count)

pub leaves-none : (nodes : List Node) → leaf_nodes 0 nodes ≡ made_of [] nodes
leaves-none nodes = ap (made_of []) (append-nil nodes)

range-more : (first count : ℕ) → range_with_len first (suc count) ≡ range_with_len first count ++ (first + count) ∷ []
range-more first zero = ap (λ (n : ℕ). n ∷ []) (omega arith)
range-more first (suc count) =
    ap (λ (rest : List ℕ). first ∷ rest) (range-more (first + 1) count ∙ ap (λ (n : ℕ). range_with_len (first + 1) count ++ n ∷ []) (omega arith))

pub leaves-more : (count : ℕ) (old nodes after : List Node) (items more : List ℕ) (item : ℕ) → leaf_nodes count old ≡ made_of items nodes → item ≡ length nodes → after ≡ nodes ++ Input (length nodes) ∷ []
    → more ≡ items ++ item ∷ [] → leaf_nodes (count + 1) old ≡ made_of more after
leaves-more count old nodes after items more item so_far is_item is_after is_more =
    let first : ℕ = length old in
    let is_items : range_with_len first count ≡ items = ap (λ (made : Made). made.items) so_far in
    let is_nodes : old ++ map Input (range_with_len first count) ≡ nodes = ap (λ (made : Made). made.nodes) so_far in
    let next : first + count ≡ length nodes = sym (leaves-long count old) ∙ ap length is_nodes in
    let plus : count + 1 ≡ suc count = omega arith in
    let longer : range_with_len first (count + 1) ≡ range_with_len first count ++ (first + count) ∷ [] = ap (range_with_len first) plus ∙ range-more first count in
    let all_items : range_with_len first (count + 1) ≡ more = longer ∙ (λ i. is_items i ++ (next ∙ sym is_item) i ∷ []) ∙ sym is_more in
    let all_nodes : old ++ map Input (range_with_len first (count + 1)) ≡ after =
    ap (λ (rest : List Node). old ++ rest) (map-range_with_len_more Input first count (first + count) refl)
    ∙ sym (append_assoc old (map Input (range_with_len first count)) (Input (first + count) ∷ []))
    ∙ (λ i. is_nodes i ++ Input (next i) ∷ []) ∙ sym is_after in
    λ i. made_of (all_items i) (all_nodes i)

-- ---- they have the numbers of the inputs

module _ (inputs : List F) where
  leaves-have : (count first : ℕ) (nodes : List Node) → first ≡ length nodes → first + count ≤ length inputs → HasEach inputs nodes (leaves_from first count nodes) (take count (drop first inputs))
  leaves-have zero first nodes is within = subst (λ (all : List Node). HasEach inputs nodes (record { items = []; nodes = all }) []) (sym (append-nil nodes)) (record { grows = grows-none inputs nodes; stand = tt })
  leaves-have (suc count) first nodes is within =
      let here : first < length inputs = omega (arith, within) in
      let below : length nodes < length inputs = omega (arith, here, is) in
      let one : HasOne inputs nodes (record { item = length nodes; nodes = nodes ++ Input (length nodes) ∷ [] }) (get_or inputs (length nodes) zero_f) = push-has inputs nodes (Input (length nodes)) below in
      let leaf : HasOne inputs nodes (record { item = first; nodes = nodes ++ Input first ∷ [] }) (get_or inputs first zero_f) =
      subst (λ (n : ℕ). HasOne inputs nodes (record { item = n; nodes = nodes ++ Input n ∷ [] }) (get_or inputs n zero_f)) (sym is) one in
      let next : List Node = nodes ++ Input first ∷ [] in
      let rest : HasEach inputs next (leaves_from (first + 1) count next) (take count (drop (first + 1) inputs)) =
      leaves-have count (first + 1) next (omega (arith, is, length_push nodes (Input first))) (omega (arith, within)) in
      let all : next ++ map Input (range_with_len (first + 1) count) ≡ nodes ++ map Input (range_with_len first (suc count)) = append_assoc nodes (Input first ∷ []) (map Input (range_with_len (first + 1) count)) in
      let head : Stands inputs (leaves_from (first + 1) count next).nodes first (get_or inputs first zero_f) = stands-kept inputs next (leaves_from (first + 1) count next).nodes rest.grows first (get_or inputs first zero_f) leaf.stands in
      let after : suc first ≡ first + 1 = omega arith in
      let behind : take (suc count) (drop first inputs) ≡ get_or inputs first zero_f ∷ take count (drop (first + 1) inputs) =
      one-taken inputs first count zero_f here ∙ ap (λ (n : ℕ). get_or inputs first zero_f ∷ take count (drop n inputs)) after in
      let whole : HasEach inputs next (record { items = first ∷ range_with_len (first + 1) count; nodes = next ++ map Input (range_with_len (first + 1) count) }) (get_or inputs first zero_f ∷ take count (drop (first + 1) inputs)) =
      record { grows = rest.grows; stand = (head, rest.stand) } in
      subst (λ (xs : List F). HasEach inputs nodes (leaves_from first (suc count) nodes) xs) (sym behind)
      (subst (λ (made : List Node). HasEach inputs nodes (record { items = range_with_len first (suc count); nodes = made }) (get_or inputs first zero_f ∷ take count (drop (first + 1) inputs))) all
      (each-then inputs nodes next (record { items = first ∷ range_with_len (first + 1) count; nodes = next ++ map Input (range_with_len (first + 1) count) }) (get_or inputs first zero_f ∷ take count (drop (first + 1) inputs)) leaf.grows whole))

  pub leaf-each : (count : ℕ) (nodes : List Node) → length nodes + count ≤ length inputs → HasEach inputs nodes (leaf_nodes count nodes) (take count (drop (length nodes) inputs))
  leaf-each count nodes within = leaves-have count (length nodes) nodes refl within
