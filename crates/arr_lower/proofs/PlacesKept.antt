-- Where constants are: after one more constant, and by what a map has.
use Rattle.std.proofs.Common.{◌≡◌, ℕ, ◌≤◌, Bool, true, false, List, [], ◌∷◌, ◌++◌, length, Some, None, ⊎_elim, not, refl, ap, sym, subst, ◌∙◌, arith}
use Rattle.std.specs.Prelude.{if◌then◌else◌, cond, Result, Ok, Err, IfOk, OnOk}
use Rattle.std.specs.BTreeMap.{BTreeMap, get}
use Rattle.std.specs.List.{position, position_or_len}
use Rattle.std.specs.Cmp.{unsigned_tied}
use Rattle.std.specs.Ordering.{is_eq, nat_cmp}
use Rattle.std.proofs.Math.Dec.{eqb, ltb}
use Rattle.std.proofs.lemmas.Bool.{cases_Bool, eqb-true, ltb-false}
use Rattle.std.proofs.lemmas.Bool.Decides.{nat_tests}
use Rattle.std.proofs.lemmas.List.{length_push}
use Rattle.std.proofs.lemmas.List.Folds.{position_or_len_push}
use Rattle.std.proofs.lemmas.List.Sums.{prefix_len-le-length}
use Rattle.field_ext.specs.Field.{F, of}
use Rattle.field_ext.proofs.api.Elements.{F_eq}
use Rattle.node_core.specs.declared.node.Node.{Node}
use Rattle.node_core.specs.declared.node.Node.TheVariants.{Constant}
use Rattle.arr_lower.specs.ConstantPlaces.{Answers}
use Rattle.arr_lower.specs.Operations.{is_constant, constant_place, constant_node}

module _ {X : Type 0} (p : X → Bool) (xs : List X) where
  within : position_or_len p xs ≤ length xs
  within = prefix_len-le-length (λ x. not (p x)) xs

  position-none : position p xs ≡ None → position_or_len p xs ≡ length xs
  position-none e = by (ltb (position_or_len p xs) (length xs)) refl e
    where
      by : (b : Bool) → ltb (position_or_len p xs) (length xs) ≡ b → cond b (Some (position_or_len p xs)) None ≡ None → position_or_len p xs ≡ length xs
      by true is e = cc
      by false is e = let past = ltb-false (position_or_len p xs) (length xs) is in omega (arith, within)

  position-found : (place : ℕ) → position p xs ≡ Some place → (position_or_len p xs ≡ place) × (ltb (position_or_len p xs) (length xs) ≡ true)
  position-found place e = by (ltb (position_or_len p xs) (length xs)) refl e
    where
      by : (b : Bool) → ltb (position_or_len p xs) (length xs) ≡ b → cond b (Some (position_or_len p xs)) None ≡ Some place → (position_or_len p xs ≡ place) × (ltb (position_or_len p xs) (length xs) ≡ true)
      by true is e = (cc, is)
      by false is e = cc

  position-new : (y : X) → position p xs ≡ None → p y ≡ true → position p (xs ++ y ∷ []) ≡ Some (length xs)
  position-new y e here =
      let whole = position-none e in
      let more = position_or_len_push p xs y in
      let long = length_push xs y in
      grind (arith, nat_tests)

  position-other : (y : X) → p y ≡ false → position p (xs ++ y ∷ []) ≡ position p xs
  position-other y other =
      let inside = within in
      let more = position_or_len_push p xs y in
      let long = length_push xs y in
      grind (arith, nat_tests)

cmp-same : (x y : ℕ) → is_eq (nat_cmp x y) ≡ eqb x y
cmp-same x y = unsigned_tied x y

is_constant-same : (x y : F) → x.value ≡ y.value → (node : Node) → is_constant x node ≡ is_constant y node
is_constant-same x y same node = ap (λ z. is_constant z node) (F_eq x y same)

-- a constant that had no place has one after the nodes
pub answers_more : (before after : BTreeMap ℕ ℕ) (nodes : List Node) (constant : F) (value place : ℕ) → Answers before nodes → position (is_constant constant) nodes ≡ None → place ≡ length nodes
    → value ≡ constant.value → ((key : ℕ) → get nat_cmp after key ≡ cond (is_eq (nat_cmp value key)) (Some place) (get nat_cmp before key)) → Answers after (nodes ++ Constant constant ∷ [])
answers_more before after nodes constant value place answers none is_place is_value updates_value x =
    ⊎_elim
    (λ y. let same : constant ≡ x = F_eq constant x (eqb-true constant.value x.value y) in
    subst (λ z. get nat_cmp after z.value ≡ position (is_constant z) (nodes ++ Constant constant ∷ [])) same (here y same))
    (λ n. updates x.value ∙ ap (λ b. cond b (Some place) (get nat_cmp before x.value)) (cmp-same constant.value x.value ∙ n)
    ∙ answers x ∙ sym (position-other (is_constant x) nodes (Constant constant) n))
    (cases_Bool (eqb constant.value x.value))
  where
    updates : (key : ℕ) → get nat_cmp after key ≡ cond (is_eq (nat_cmp constant.value key)) (Some place) (get nat_cmp before key)
    updates = subst (λ v. (key : ℕ) → get nat_cmp after key ≡ cond (is_eq (nat_cmp v key)) (Some place) (get nat_cmp before key)) is_value updates_value

    here : eqb constant.value x.value ≡ true → constant ≡ x → get nat_cmp after constant.value ≡ position (is_constant constant) (nodes ++ Constant constant ∷ [])
    here y same =
        let yes : eqb constant.value constant.value ≡ true = grind (arith, nat_tests) in
        updates constant.value ∙ ap (λ b. cond b (Some place) (get nat_cmp before constant.value)) (cmp-same constant.value constant.value ∙ yes)
        ∙ ap Some is_place ∙ sym (position-new (is_constant constant) nodes (Constant constant) none yes)

-- a constant that has a place
pub constant-there : (value place : ℕ) (nodes : List Node) → position (is_constant (of value)) nodes ≡ Some place → constant_node value nodes ≡ record { item = place; nodes = nodes }
constant-there value place nodes e =
    let found = position-found (is_constant (of value)) nodes place e in
    λ i. record { item = found.0 i; nodes = if found.1 i then nodes else nodes ++ Constant (of value) ∷ [] }

-- a constant that has none
pub constant-made : (value : ℕ) (nodes : List Node) → position (is_constant (of value)) nodes ≡ None →
    constant_node value nodes ≡ record { item = length nodes; nodes = nodes ++ Constant (of value) ∷ [] }
constant-made value nodes e =
    let whole = position-none (is_constant (of value)) nodes e in
    let no : ltb (constant_place value nodes) (length nodes) ≡ false = grind (arith, nat_tests) in
    λ i. record { item = whole i; nodes = if no i then nodes else nodes ++ Constant (of value) ∷ [] }

if_ok-both : {X E : Type 0} (result : Result X E) (P : X → Type 0) (Q : Type 0) (R : X → Type 0) → ((x : X) → P x → Q → R x) → IfOk result P → OnOk result Q → IfOk result R
if_ok-both (Ok x) P Q R join p q = join x p q
if_ok-both (Err e) P Q R join p q = tt

-- a constant that has none, as the call makes it
pub constant-made_by : {E : Type 0} (result : Result ℕ E) (value : ℕ) (constant : F) (old new : List Node) → constant ≡ of value → position (is_constant constant) old ≡ None
    → IfOk result (λ item. item ≡ length old) → OnOk result (new ≡ old ++ Constant constant ∷ []) → IfOk result (λ item. constant_node value old ≡ record { item = item; nodes = new })
constant-made_by result value constant old new is_constant_of none number nodes =
    if_ok-both result _ _ _
    (λ item is_item is_new.
    constant-made value old (subst (λ x. position (is_constant x) old ≡ None) is_constant_of none)
    ∙ λ i. record { item = sym is_item i; nodes = sym (is_new ∙ ap (λ x. old ++ Constant x ∷ []) is_constant_of) i })
    number nodes
