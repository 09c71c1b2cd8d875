-- A name's array with an element set, by taking the array away and putting it back.
use Rattle.std.proofs.Common.{◌≡◌, ◌==◌, ℕ, Bool, true, false, [], ◌∷◌, Option, Some, None, refl, ap, sym, ◌∙◌}
use Rattle.std.specs.Prelude.{if◌then◌else◌}
use Rattle.std.proofs.lemmas.Bool.{eqb-true, eq-eqb}
use Rattle.arr_ast.specs.declared.shape.ShapeOf.{ShapeOf}
use Rattle.arr_scope.specs.declared.bound.Bound.{Bound}
use Rattle.arr_scope.specs.declared.bound.Bound.TheVariants.{Value, Turn}
use Rattle.arr_run.specs.Operations.{Operations}
use Rattle.arr_scope.specs.Scope.{Names, binding_of, with_binding, array_of}
use Rattle.arr_run.specs.Statement.{with_element_in, with_element_of}

module _ {A S : Type 0} (operations : Operations A S) where
  put_step : (b : Bool) (name place : ℕ) (hole : Bound A) (shape : ShapeOf) (array new : A) (entry : ℕ × Bound A) (names : Names A) →
      (binding_of name names ≡ Some (Value shape array) → with_binding name (Value shape (operations.with_element array place new)) (with_binding name hole names) ≡ with_element_of operations name place new names) →
      (entry.0 == name) ≡ b → (if b then Some entry.1 else binding_of name names) ≡ Some (Value shape array) →
      with_binding name (Value shape (operations.with_element array place new)) (if b then (name, hole) ∷ names else entry ∷ with_binding name hole names)
      ≡ (if b then (name, with_element_in operations place new entry.1) ∷ names else entry ∷ with_element_of operations name place new names)
  put_step true name place hole shape array new entry names rest b e =
      let here : (name == name) ≡ true = eq-eqb name name refl in
      let is : entry.1 ≡ Value shape array = cc in
      ap (λ (b : Bool). if b then (name, Value shape (operations.with_element array place new)) ∷ names else (name, hole) ∷ with_binding name (Value shape (operations.with_element array place new)) names) here
      ∙ ap (λ (bound : Bound A). (name, with_element_in operations place new bound) ∷ names) (sym is)
  put_step false name place hole shape array new entry names rest b e =
      ap (λ (c : Bool). if c then (name, Value shape (operations.with_element array place new)) ∷ with_binding name hole names else entry ∷ with_binding name (Value shape (operations.with_element array place new)) (with_binding name hole names)) b
      ∙ ap (λ (names : Names A). entry ∷ names) (rest e)

  pub put_back : (name place : ℕ) (hole : Bound A) (shape : ShapeOf) (array new : A) (names : Names A) → binding_of name names ≡ Some (Value shape array) →
      with_binding name (Value shape (operations.with_element array place new)) (with_binding name hole names) ≡ with_element_of operations name place new names
  put_back name place hole shape array new [] e = cc
  put_back name place hole shape array new (entry ∷ names) e =
      put_step (entry.0 == name) name place hole shape array new entry names (put_back name place hole shape array new names) refl e

  bound_is : (bound : Option (Bound A)) (shape : ShapeOf) (array : A) → array_of bound ≡ Some (shape, array) → bound ≡ Some (Value shape array)
  bound_is None shape array e = cc
  bound_is (Some (Turn turn)) shape array e = cc
  bound_is (Some (Value other held)) shape array e = let same : ◌≡◌ {A = ShapeOf × A} (other, held) (shape, array) = cc in ap (λ (p : ShapeOf × A). Some (Value p.0 p.1)) same

  pub element_set : (name place : ℕ) (shape : ShapeOf) (array new : A) (names : Names A) → array_of (binding_of name names) ≡ Some (shape, array) →
      with_binding name (Value shape (operations.with_element array place new)) (with_binding name (Turn 0) names) ≡ with_element_of operations name place new names
  element_set name place shape array new names e = put_back name place (Turn 0) shape array new names (bound_is (binding_of name names) shape array e)

  kept_step : (b : Bool) (name place : ℕ) (new : A) (entry : ℕ × Bound A) (names : Names A) → (array_of (binding_of name names) ≡ None → with_element_of operations name place new names ≡ names) →
      (entry.0 == name) ≡ b → array_of (if b then Some entry.1 else binding_of name names) ≡ None →
      (if b then (name, with_element_in operations place new entry.1) ∷ names else entry ∷ with_element_of operations name place new names) ≡ entry ∷ names
  kept_step true name place new (number, Turn turn) names rest b e = let same : number ≡ name = eqb-true number name b in ap (λ (n : ℕ). (n, Turn turn) ∷ names) (sym same)
  kept_step true name place new (number, Value shape array) names rest b e = cc
  kept_step false name place new entry names rest b e = ap (λ (names : Names A). entry ∷ names) (rest e)

  pub none_set : (name place : ℕ) (new : A) (names : Names A) → array_of (binding_of name names) ≡ None → with_element_of operations name place new names ≡ names
  none_set name place new [] e = refl
  none_set name place new (entry ∷ names) e = kept_step (entry.0 == name) name place new entry names (none_set name place new names) refl e
