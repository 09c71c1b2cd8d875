-- Two kinds of values whose operations go together give runs that do: the same refusals and counts, and values that stand for each other.
use Rattle.std.proofs.Common.{◌≡◌, ℕ, zero, suc, ◌+◌, ◌-◌, ◌==◌, ◌<◌, ◌&&◌, Bool, true, false, List, [], ◌∷◌, ◌++◌, length, reverse, take, Option, Some, None, Ok, Err, refl, ap, sym, subst}
use Rattle.std.specs.Prelude.{ℤ, ◌*ℤ◌, nat_abs, if◌then◌else◌}
use Rattle.std.proofs.lemmas.Bool.{eqb-true}
use Rattle.arr_ast.specs.declared.expression.Sign.{Sign}
use Rattle.arr_ast.specs.declared.expression.SingleFunction.{SingleFunction}
use Rattle.arr_ast.specs.declared.expression.PairFunction.{PairFunction}
use Rattle.arr_ast.specs.declared.shape.ShapeOf.{ShapeOf}
use Rattle.arr_ast.specs.declared.shape.ShapeOf.TheVariants.{Scalar, Vector, Matrix}
use Rattle.arr_ast.specs.IndexTree as index
use Rattle.arr_ast.specs.ExpressionTree.{NameTree, IndicesTree, ExpressionTree, ExpressionOf, AddedTree, NoTerm, Added, TermTree, TermOf, TimesTree, NoFactor, Times, FactorTree, Number, Name, Element, Negation, Parenthesized, Single, Pair, Call, ArgumentsTree, NoArgument, Argument}
use Rattle.arr_scope.specs.declared.bound.Bound.{Bound}
use Rattle.arr_scope.specs.declared.bound.Bound.TheVariants.{Value, Turn}
use Rattle.arr_scope.specs.declared.counts.Counts.{Counts}
use Rattle.arr_scope.specs.declared.refused.CheckRefused.{CheckRefused}
use Rattle.arr_scope.specs.declared.refused.CheckRefused.TheVariants.{Bad}
use Rattle.arr_scope.specs.declared.refused.CheckKind.TheVariants as kinds
use Rattle.arr_scope.specs.Agrees.{Answer, ◌>>=◌, each}
use Rattle.arr_scope.specs.Counting.{constant_at, step_at, nodes_at}
use Rattle.arr_run.specs.Program.{outputs_at, if_any_output, input_shape, after_input, after_top, run_of, none_counted}
use Rattle.arr_run.specs.Bounds.{bounds_of, turns_of}
use Rattle.arr_run.specs.Definitions.{callables, is_defined, if_new, if_few, if_apart, if_parameters, after_definition, after_definitions}
use Rattle.arr_run.specs.State.{State, state, bound, if_free, with_name}
use Rattle.arr_run.specs.Statement.{target_shape, if_of, with_element_in, with_element_of, expression_at, stepped, declared, assigned, element_assigned, turns, one_turn, counted_loop, after_statement, after_block}
use Rattle.arr_ast.specs.declared.lang.Lang.{Lang}
use Rattle.arr_ast.specs.ProgramTree.{DefinitionTree, StatementTree, Let, Set, SetElement, For, BlockTree, EndOfBlock, Then, TopTree, Output, Inner, InputTree, ProgramTree}
use Rattle.arr_scope.specs.Element.{indices_at, index_below, is_place}
use Rattle.arr_scope.specs.Element.{offset}
use Rattle.arr_run.specs.Expression.{Valued, Callable, Calls, called, if_as_many, count_of, Passed, with_argument, parameters_bound, passed_value, made, element_at, constant_value, bound_value, signed_value, product_value, opposite_value, single_value, pair_value, value_of, added_value, term_value, times_value, factor_value}
use Rattle.arr_scope.specs.Index.{index_value, added_index_value, index_term_value, times_index_value, index_factor_value, turn_of, within, index_at, signed as signed_index}
use Rattle.arr_run.specs.Operations.{Operations}
use Rattle.arr_scope.specs.Scope.{Names, binding_of, with_binding}
use Rattle.arr_scope.specs.Shape.{Shaped, same_shape, size_of, sum_shape, product_shape, for_minus_one, single_shape, pair_shape}
use Rattle.arr_scope.proofs.api.Within.{offset-below}

same_shapes : (a b : ShapeOf) → same_shape a b ≡ true → a ≡ b
same_shapes Scalar Scalar e = refl
same_shapes Scalar (Vector n) e = cc
same_shapes Scalar (Matrix n m) e = cc
same_shapes (Vector n) Scalar e = cc
same_shapes (Vector n) (Vector m) e = ap Vector (eqb-true n m e)
same_shapes (Vector n) (Matrix m k) e = cc
same_shapes (Matrix n m) Scalar e = cc
same_shapes (Matrix n m) (Vector k) e = cc
same_shapes (Matrix n m) (Matrix k q) e = by (n == k) (m == q) refl refl e
  where
    by : (b c : Bool) → (n == k) ≡ b → (m == q) ≡ c → (b && c) ≡ true → Matrix n m ≡ Matrix k q
    by true true h l e = λ i. Matrix (eqb-true n k h i) (eqb-true m q l i)
    by true false h l e = cc
    by false c h l e = cc

module _ {A S B T : Type 0} (operations : Operations A S) (others : Operations B T)
    (Alike : Counts → S → T → Type 0) (Stands : S → T → ShapeOf → A → B → Type 0) (Later : S → T → S → T → Type 0) where
  -- both gave an array of a shape
  abbrev pub Gives : Counts → S → T → ShapeOf → A × S → B × T → Type 0
  Gives counts s t shape x y = Alike counts x.1 y.1 × Stands x.1 y.1 shape x.0 y.0 × Later s t x.1 y.1

  -- what the operations of expressions have to do, after what is counted of them
  pub record GoTogether : Type 0 where
    pub stays : (s : S) (t : T) → Later s t s t
    pub further : (s s' s'' : S) (t t' t'' : T) → Later s t s' t' → Later s' t' s'' t'' → Later s t s'' t''
    pub kept : (s s' : S) (t t' : T) (shape : ShapeOf) (a : A) (b : B) → Later s t s' t' → Stands s t shape a b → Stands s' t' shape a b
    pub constant : (at n : ℕ) (before counts : Counts) (s : S) (t : T) → constant_at at n before ≡ Ok counts → Alike before s t → Gives counts s t Scalar (operations.constant n s) (others.constant n t)
    pub signed : (sign : Sign) (at : ℕ) (left right shape : ShapeOf) (before counts : Counts) (a a' : A) (b b' : B) (s : S) (t : T) → sum_shape sign at left right before ≡ Ok (shape, counts) →
        Alike before s t → Stands s t left a b → Stands s t right a' b' → Gives counts s t shape (operations.signed sign a a' s) (others.signed sign b b' t)
    pub product : (at : ℕ) (left right shape : ShapeOf) (before counts : Counts) (a a' : A) (b b' : B) (s : S) (t : T) → product_shape at left right before ≡ Ok (shape, counts) →
        Alike before s t → Stands s t left a b → Stands s t right a' b' → Gives counts s t shape (operations.product a a' s) (others.product b b' t)
    pub opposite : (at : ℕ) (of shape : ShapeOf) (before counts : Counts) (a : A) (b : B) (s : S) (t : T) → for_minus_one at (size_of of) of before ≡ Ok (shape, counts) →
        Alike before s t → Stands s t of a b → Gives counts s t shape (operations.opposite a s) (others.opposite b t)
    pub single : (function : SingleFunction) (at : ℕ) (of shape : ShapeOf) (before counts : Counts) (a : A) (b : B) (s : S) (t : T) → single_shape function at of before ≡ Ok (shape, counts) →
        Alike before s t → Stands s t of a b → Gives counts s t shape (operations.single function of a s) (others.single function of b t)
    pub pair : (function : PairFunction) (at : ℕ) (left right shape : ShapeOf) (before counts : Counts) (a a' : A) (b b' : B) (s : S) (t : T) → pair_shape function at left right before ≡ Ok (shape, counts) →
        Alike before s t → Stands s t left a b → Stands s t right a' b' → Gives counts s t shape (operations.pair function left right a a' s) (others.pair function left right b b' t)
    pub stepped : (at : ℕ) (before counts : Counts) (s : S) (t : T) → step_at at before ≡ Ok counts → Alike before s t → Alike counts s t
    pub element : (shape : ShapeOf) (place : ℕ) (a : A) (b : B) (s : S) (t : T) → place < size_of shape → Stands s t shape a b → Stands s t Scalar (operations.element a place) (others.element b place)

  -- what else they have to do, for statements and programs
  pub record GoOn : Type 0 where
    pub with_element : (shape : ShapeOf) (place : ℕ) (a a' : A) (b b' : B) (s : S) (t : T) → Stands s t shape a b → Stands s t Scalar a' b' → Stands s t shape (operations.with_element a place a') (others.with_element b place b')
    pub output : (at : ℕ) (shape : ShapeOf) (before counts : Counts) (a : A) (b : B) (s : S) (t : T) → outputs_at at (size_of shape) before ≡ Ok counts → Alike before s t → Stands s t shape a b →
        Alike counts (operations.output a s) (others.output b t) × Later s t (operations.output a s) (others.output b t)

  -- what they have to do for inputs, where what is kept is enough for all that are left
  pub record Begin (Enough : List InputTree → S → T → Type 0) : Type 0 where
    pub input : (tree : InputTree) (trees : List InputTree) (shape : ShapeOf) (before counts : Counts) (s : S) (t : T) → input_shape tree.dimensions ≡ Ok shape →
        nodes_at tree.name.at (size_of shape) before ≡ Ok counts → Alike before s t → Enough (tree ∷ trees) s t →
        Gives counts s t shape (operations.input shape s) (others.input shape t) × Enough trees (operations.input shape s).1 (others.input shape t).1

  module _ (go : GoTogether) where
    -- names that stand for the same turns, and for arrays that go together
    abbrev pub BothBound : S → T → Bound A → Bound B → Type 0
    BothBound s t (Value shape a) (Value other b) = (shape ≡ other) × Stands s t shape a b
    BothBound s t (Turn n) (Turn m) = n ≡ m
    BothBound s t a b = ⊥

    abbrev pub BothNames : S → T → Names A → Names B → Type 0
    BothNames s t [] [] = Unit {0}
    BothNames s t (a ∷ names) (b ∷ others) = (a.0 ≡ b.0) × BothBound s t a.1 b.1 × BothNames s t names others
    BothNames s t names others = ⊥

    -- the same refusal, or values that go together
    abbrev pub Both : S → T → Answer (Valued A S) → Answer (Valued B T) → Type 0
    Both s t (Err e) (Err f) = e ≡ f
    Both s t (Ok x) (Ok y) = (x.0 ≡ y.0) × (x.2 ≡ y.2) × Alike x.2 x.3 y.3 × Stands x.3 y.3 x.0 x.1 y.1 × Later s t x.3 y.3
    Both s t x y = ⊥

    found : (shape : ShapeOf) (counts : Counts) (s : S) (t : T) (x : A × S) (y : B × T) → Gives counts s t shape x y → Both s t (Ok (shape, x.0, counts, x.1)) (Ok (shape, y.0, counts, y.1))
    found shape counts s t x y g = (refl, refl, g.0, g.1, g.2)

    made_both : (shaped : Shaped) (s : S) (t : T) (make : S → A × S) (make' : T → B × T) →
        ((shape : ShapeOf) (counts : Counts) → shaped ≡ Ok (shape, counts) → Gives counts s t shape (make s) (make' t)) → Both s t (made shaped make s) (made shaped make' t)
    made_both (Ok x) s t make make' gives = found x.0 x.1 s t (make s) (make' t) (gives x.0 x.1 refl)
    made_both (Err e) s t make make' gives = refl

    moved : (s s' : S) (t t' : T) (x : Answer (Valued A S)) (y : Answer (Valued B T)) → Later s t s' t' → Both s' t' x y → Both s t x y
    moved s s' t t' (Ok x) (Ok y) later both = (both.0, both.1, both.2, both.3, go.further s s' x.3 t t' y.3 later both.4)
    moved s s' t t' (Err e) (Err f) later both = both
    moved s s' t t' (Ok x) (Err f) later both = absurd both
    moved s s' t t' (Err e) (Ok y) later both = absurd both

    -- what follows a value
    then_both : (s : S) (t : T) (x : Answer (Valued A S)) (y : Answer (Valued B T)) (next : Valued A S → Answer (Valued A S)) (next' : Valued B T → Answer (Valued B T)) → Both s t x y →
        ((shape : ShapeOf) (a : A) (b : B) (counts : Counts) (s' : S) (t' : T) → Alike counts s' t' → Stands s' t' shape a b → Later s t s' t' → Both s' t' (next (shape, a, counts, s')) (next' (shape, b, counts, t'))) →
        Both s t (x >>= next) (y >>= next')
    then_both s t (Ok x) (Ok y) next next' both goes =
        moved s x.3 t y.3 (next x) (next' y) both.4
        (subst (λ (shape : ShapeOf). Both x.3 y.3 (next x) (next' (shape, y.1, y.2, y.3))) both.0
        (subst (λ (counts : Counts). Both x.3 y.3 (next x) (next' (x.0, y.1, counts, y.3))) both.1
        (goes x.0 x.1 y.1 x.2 x.3 y.3 both.2 both.3 both.4)))
    then_both s t (Err e) (Err f) next next' both goes = both
    then_both s t (Ok x) (Err f) next next' both goes = absurd both
    then_both s t (Err e) (Ok y) next next' both goes = absurd both

    -- ---- names and indices

    abbrev pub BothFound : S → T → Option (Bound A) → Option (Bound B) → Type 0
    BothFound s t None None = Unit {0}
    BothFound s t (Some a) (Some b) = BothBound s t a b
    BothFound s t a b = ⊥

    found_if : (s : S) (t : T) (here : Bool) (a : Bound A) (b : Bound B) (rest : Option (Bound A)) (rest' : Option (Bound B)) → BothBound s t a b → BothFound s t rest rest' →
        BothFound s t (if here then Some a else rest) (if here then Some b else rest')
    found_if s t true a b rest rest' here more = here
    found_if s t false a b rest rest' here more = more

    both_found : (name : ℕ) (s : S) (t : T) (names : Names A) (names' : Names B) → BothNames s t names names' → BothFound s t (binding_of name names) (binding_of name names')
    both_found name s t [] [] both = tt
    both_found name s t [] (b ∷ names') both = absurd both
    both_found name s t (a ∷ names) [] both = absurd both
    both_found name s t (a ∷ names) (b ∷ names') both =
        subst (λ (n : ℕ). BothFound s t (binding_of name (a ∷ names)) (if n == name then Some b.1 else binding_of name names')) both.0
        (found_if s t (a.0 == name) a.1 b.1 (binding_of name names) (binding_of name names') both.1 (both_found name s t names names' both.2))

    bound_kept : (s s' : S) (t t' : T) (a : Bound A) (b : Bound B) → Later s t s' t' → BothBound s t a b → BothBound s' t' a b
    bound_kept s s' t t' (Value shape a) (Value other b) later both = (both.0, go.kept s s' t t' shape a b later both.1)
    bound_kept s s' t t' (Turn n) (Turn m) later both = both
    bound_kept s s' t t' (Value shape a) (Turn m) later both = absurd both
    bound_kept s s' t t' (Turn n) (Value other b) later both = absurd both

    names_kept : (s s' : S) (t t' : T) (names : Names A) (names' : Names B) → Later s t s' t' → BothNames s t names names' → BothNames s' t' names names'
    names_kept s s' t t' [] [] later both = tt
    names_kept s s' t t' [] (b ∷ names') later both = absurd both
    names_kept s s' t t' (a ∷ names) [] later both = absurd both
    names_kept s s' t t' (a ∷ names) (b ∷ names') later both = (both.0, bound_kept s s' t t' a.1 b.1 later both.1, names_kept s s' t t' names names' later both.2)

    same_turn : (whole at : ℕ) (s : S) (t : T) (a : Option (Bound A)) (b : Option (Bound B)) → BothFound s t a b → turn_of whole at a ≡ turn_of whole at b
    same_turn whole at s t None None both = refl
    same_turn whole at s t None (Some b) both = absurd both
    same_turn whole at s t (Some a) None both = absurd both
    same_turn whole at s t (Some (Value shape a)) (Some (Value other b)) both = refl
    same_turn whole at s t (Some (Value shape a)) (Some (Turn m)) both = absurd both
    same_turn whole at s t (Some (Turn n)) (Some (Value other b)) both = absurd both
    same_turn whole at s t (Some (Turn n)) (Some (Turn m)) both = ap (λ number. turn_of {A = B} whole at (Some (Turn number))) both

    -- names with the same turns, by which index expressions have the same values
    abbrev SameTurns : Names A → Names B → Type 0
    SameTurns names names' = (name whole at : ℕ) → turn_of whole at (binding_of name names) ≡ turn_of whole at (binding_of name names')

    same_turns : (s : S) (t : T) (names : Names A) (names' : Names B) → BothNames s t names names' → SameTurns names names'
    same_turns s t names names' both name whole at = same_turn whole at s t (binding_of name names) (binding_of name names') (both_found name s t names names' both)

    mutual
      same_index : (names : Names A) (names' : Names B) → SameTurns names names' → (whole : ℕ) (tree : index.Sum) → index_value names whole tree ≡ index_value names' whole tree
      same_index names names' same whole (index.SumOf first added) =
          λ i. same_product names names' same whole first i >>= λ value. same_terms names names' same whole added value i

      same_terms : (names : Names A) (names' : Names B) → SameTurns names names' → (whole : ℕ) (tree : index.Terms) (value : ℤ) → added_index_value names whole tree value ≡ added_index_value names' whole tree value
      same_terms names names' same whole index.NoTerm value = refl
      same_terms names names' same whole (index.Term sign at term rest) left =
          λ i. (same_product names names' same whole term i >>= λ right. within whole (signed_index sign left right)) >>= λ value. same_terms names names' same whole rest value i

      same_product : (names : Names A) (names' : Names B) → SameTurns names names' → (whole : ℕ) (tree : index.Product) → index_term_value names whole tree ≡ index_term_value names' whole tree
      same_product names names' same whole (index.ProductOf first times) =
          λ i. same_factor names names' same whole first i >>= λ value. same_factors names names' same whole times value i

      same_factors : (names : Names A) (names' : Names B) → SameTurns names names' → (whole : ℕ) (tree : index.Factors) (value : ℤ) → times_index_value names whole tree value ≡ times_index_value names' whole tree value
      same_factors names names' same whole index.NoFactor value = refl
      same_factors names names' same whole (index.Times at factor rest) left =
          λ i. (same_factor names names' same whole factor i >>= λ right. within whole (left *ℤ right)) >>= λ value. same_factors names names' same whole rest value i

      same_factor : (names : Names A) (names' : Names B) → SameTurns names names' → (whole : ℕ) (tree : index.Factor) → index_factor_value names whole tree ≡ index_factor_value names' whole tree
      same_factor names names' same whole (index.Number at value) = refl
      same_factor names names' same whole (index.Name at number) = same number whole at
      same_factor names names' same whole (index.Parenthesized at inner) = same_index names names' same whole inner

    same_below : (names : Names A) (names' : Names B) → SameTurns names names' → (tree : index.Sum) (dimension : ℕ) → index_below names tree dimension ≡ index_below names' tree dimension
    same_below names names' same tree dimension =
        ap (λ value. value >>= λ value. if is_place value dimension then Ok (nat_abs value) else Err (Bad (index_at tree) kinds.Index)) (same_index names names' same (index_at tree) tree)

    same_indices : (names : Names A) (names' : Names B) → SameTurns names names' → (at : ℕ) (second : Option index.Sum) (first : index.Sum) (shape : ShapeOf) → indices_at names at second first shape ≡ indices_at names' at second first shape
    same_indices names names' same at None first Scalar = refl
    same_indices names names' same at None first (Vector n) = ap (λ row. row >>= λ row. Ok (row, 0)) (same_below names names' same first n)
    same_indices names names' same at None first (Matrix n m) = refl
    same_indices names names' same at (Some second) first Scalar = refl
    same_indices names names' same at (Some second) first (Vector n) = refl
    same_indices names names' same at (Some second) first (Matrix n m) =
        λ i. same_below names names' same first n i >>= λ row. same_below names names' same second m i >>= λ column. Ok (row, column)

    -- ---- expressions

    abbrev scalar : Answer Counts → Shaped
    scalar x = x >>= λ counts. Ok (Scalar, counts)

    constant_both : (at n : ℕ) (counts : Counts) (s : S) (t : T) → Alike counts s t → Both s t (constant_value operations at n counts s) (constant_value others at n counts t)
    constant_both at n counts s t alike = made_both (scalar (constant_at at n counts)) s t (operations.constant n) (others.constant n) (λ shape after e. gives shape after (constant_at at n counts) refl e)
      where
        gives : (shape : ShapeOf) (after : Counts) (x : Answer Counts) → constant_at at n counts ≡ x → scalar x ≡ Ok (shape, after) → Gives after s t shape (operations.constant n s) (others.constant n t)
        gives shape after (Ok last) is e =
            let same : ◌≡◌ {A = ShapeOf × Counts} (Scalar, last) (shape, after) = cc in
            subst (λ (x : ShapeOf × Counts). Gives x.1 s t x.0 (operations.constant n s) (others.constant n t)) same (go.constant at n counts last s t is alike)
        gives shape after (Err refused) is e = cc

    bound_both : (at : ℕ) (counts : Counts) (s : S) (t : T) (a : Option (Bound A)) (b : Option (Bound B)) → Alike counts s t → BothFound s t a b → Both s t (bound_value operations at a counts s) (bound_value others at b counts t)
    bound_both at counts s t None None alike both = refl
    bound_both at counts s t None (Some b) alike both = absurd both
    bound_both at counts s t (Some a) None alike both = absurd both
    bound_both at counts s t (Some (Value shape a)) (Some (Value other b)) alike both = (both.0, refl, alike, both.1, go.stays s t)
    bound_both at counts s t (Some (Value shape a)) (Some (Turn m)) alike both = absurd both
    bound_both at counts s t (Some (Turn n)) (Some (Value other b)) alike both = absurd both
    bound_both at counts s t (Some (Turn n)) (Some (Turn m)) alike both =
        subst (λ (number : ℕ). Both s t (constant_value operations at n counts s) (constant_value others at number counts t)) both (constant_both at n counts s t alike)

    -- an array, and the place of its element
    abbrev array_at : {X : Type 0} → X → ShapeOf → Answer (ℕ × ℕ) → Answer (X × ℕ)
    array_at a shape x = x >>= λ place. Ok (a, offset shape place)

    -- the element at a place of an array of a shape
    abbrev placed : A → Counts → S → Answer (ℕ × ℕ) → ShapeOf → Answer (Valued A S)
    placed a counts s x shape = array_at a shape x >>= λ found. Ok (Scalar, operations.element found.0 found.1, counts, s)

    abbrev placed' : B → Counts → T → Answer (ℕ × ℕ) → ShapeOf → Answer (Valued B T)
    placed' b counts t x shape = array_at b shape x >>= λ found. Ok (Scalar, others.element found.0 found.1, counts, t)

    placed_both : (counts : Counts) (s : S) (t : T) (shape : ShapeOf) (a : A) (b : B) (x : Answer (ℕ × ℕ)) → Alike counts s t → Stands s t shape a b → ((place : ℕ × ℕ) → x ≡ Ok place → offset shape place < size_of shape) →
        Both s t (placed a counts s x shape) (placed' b counts t x shape)
    placed_both counts s t shape a b (Ok place) alike stands within = (refl, refl, alike, go.element shape (offset shape place) a b s t (within place refl) stands, go.stays s t)
    placed_both counts s t shape a b (Err refused) alike stands within = refl

    element_both : (at : ℕ) (indices : IndicesTree) (counts : Counts) (s : S) (t : T) (names : Names A) (names' : Names B) (a : Option (Bound A)) (b : Option (Bound B)) → Alike counts s t → SameTurns names names' → BothFound s t a b →
        Both s t (element_at names at indices a >>= λ found. Ok (Scalar, operations.element found.0 found.1, counts, s)) (element_at names' at indices b >>= λ found. Ok (Scalar, others.element found.0 found.1, counts, t))
    element_both at indices counts s t names names' None None alike same both = refl
    element_both at indices counts s t names names' None (Some b) alike same both = absurd both
    element_both at indices counts s t names names' (Some a) None alike same both = absurd both
    element_both at indices counts s t names names' (Some (Value shape a)) (Some (Turn m)) alike same both = absurd both
    element_both at indices counts s t names names' (Some (Turn n)) (Some (Value other b)) alike same both = absurd both
    element_both at indices counts s t names names' (Some (Turn n)) (Some (Turn m)) alike same both = refl
    element_both at indices counts s t names names' (Some (Value shape a)) (Some (Value other b)) alike same both =
        let here : Answer (ℕ × ℕ) = indices_at names at indices.second indices.first shape in
        subst (λ (x : ShapeOf). Both s t (placed a counts s here shape) (placed' b counts t (indices_at names' at indices.second indices.first x) x)) both.0
        (subst (λ (x : Answer (ℕ × ℕ)). Both s t (placed a counts s here shape) (placed' b counts t x shape)) (same_indices names names' same at indices.second indices.first shape)
        (placed_both counts s t shape a b here alike both.1 (λ place e. offset-below names at indices.second indices.first shape place e)))

    -- ---- calls

    -- the same answer of both, and what follows it
    then_alike : {X Y Z : Type 0} (R : Answer Y → Answer Z → Type 0) → ((e : CheckRefused) → R (Err e) (Err e)) → (x : Answer X) (next : X → Answer Y) (next' : X → Answer Z) →
        ((found : X) → x ≡ Ok found → R (next found) (next' found)) → R (x >>= next) (x >>= next')
    then_alike R refused (Ok found) next next' goes = goes found refl
    then_alike R refused (Err e) next next' goes = refused e

    -- bodies that give values that go together, where what names stand for goes together
    abbrev pub BothBody : Callable A S → Callable B T → Type 0
    BothBody f g = (names : Names A) (names' : Names B) (counts : Counts) (s : S) (t : T) → BothNames s t names names' → Alike counts s t → Both s t (f.body names counts s) (g.body names' counts t)

    abbrev pub BothCallable : Callable A S → Callable B T → Type 0
    BothCallable f g = (f.name ≡ g.name) × (f.parameters ≡ g.parameters) × BothBody f g

    abbrev pub BothCalls : Calls A S → Calls B T → Type 0
    BothCalls [] [] = Unit {0}
    BothCalls (f ∷ fs) (g ∷ gs) = BothCallable f g × BothCalls fs gs
    BothCalls fs gs = ⊥

    called_if : (here : Bool) (s : S) (t : T) (f : Callable A S) (g : Callable B T) (x : Answer (Callable A S)) (y : Answer (Callable B T)) (next : Callable A S → Answer (Valued A S)) (next' : Callable B T → Answer (Valued B T)) →
        Both s t (next f) (next' g) → Both s t (x >>= next) (y >>= next') → Both s t ((if here then Ok f else x) >>= next) ((if here then Ok g else y) >>= next')
    called_if true s t f g x y next next' found rest = found
    called_if false s t f g x y next next' found rest = rest

    called_both : (at name : ℕ) (fs : Calls A S) (gs : Calls B T) (s : S) (t : T) (next : Callable A S → Answer (Valued A S)) (next' : Callable B T → Answer (Valued B T)) → BothCalls fs gs →
        ((f : Callable A S) (g : Callable B T) → BothCallable f g → Both s t (next f) (next' g)) → Both s t (called at name fs >>= next) (called at name gs >>= next')
    called_both at name [] [] s t next next' both goes = refl
    called_both at name [] (g ∷ gs) s t next next' both goes = absurd both
    called_both at name (f ∷ fs) [] s t next next' both goes = absurd both
    called_both at name (f ∷ fs) (g ∷ gs) s t next next' both goes =
        subst (λ (n : ℕ). Both s t (called at name (f ∷ fs) >>= next) ((if n == name then Ok g else called at name gs) >>= next')) both.0.0
        (called_if (f.name == name) s t f g (called at name fs) (called at name gs) next next' (goes f g both.0) (called_both at name fs gs s t next next' both.1 goes))

    -- values of arguments that go together
    abbrev BothValues : S → T → List (ShapeOf × A) → List (ShapeOf × B) → Type 0
    BothValues s t [] [] = Unit {0}
    BothValues s t (x ∷ xs) (y ∷ ys) = (x.0 ≡ y.0) × Stands s t x.0 x.1 y.1 × BothValues s t xs ys
    BothValues s t xs ys = ⊥

    values_kept : (s s' : S) (t t' : T) (xs : List (ShapeOf × A)) (ys : List (ShapeOf × B)) → Later s t s' t' → BothValues s t xs ys → BothValues s' t' xs ys
    values_kept s s' t t' [] [] later both = tt
    values_kept s s' t t' [] (y ∷ ys) later both = absurd both
    values_kept s s' t t' (x ∷ xs) [] later both = absurd both
    values_kept s s' t t' (x ∷ xs) (y ∷ ys) later both = (both.0, go.kept s s' t t' x.0 x.1 y.1 later both.1, values_kept s s' t t' xs ys later both.2)

    values_more : (s : S) (t : T) (xs : List (ShapeOf × A)) (ys : List (ShapeOf × B)) (x : ShapeOf × A) (y : ShapeOf × B) → BothValues s t xs ys → x.0 ≡ y.0 → Stands s t x.0 x.1 y.1 → BothValues s t (xs ++ x ∷ []) (ys ++ y ∷ [])
    values_more s t [] [] x y both same stands = (same, stands, tt)
    values_more s t [] (v ∷ ys) x y both same stands = absurd both
    values_more s t (u ∷ xs) [] x y both same stands = absurd both
    values_more s t (u ∷ xs) (v ∷ ys) x y both same stands = (both.0, both.1, values_more s t xs ys x y both.2 same stands)

    -- the same refusal, or values that go together
    abbrev BothPassed : S → T → Answer (Passed A S) → Answer (Passed B T) → Type 0
    BothPassed s t (Err e) (Err f) = e ≡ f
    BothPassed s t (Ok x) (Ok y) = BothValues x.2 y.2 x.0 y.0 × (x.1 ≡ y.1) × Alike x.1 x.2 y.2 × Later s t x.2 y.2
    BothPassed s t x y = ⊥

    passed_moved : (s s' : S) (t t' : T) (x : Answer (Passed A S)) (y : Answer (Passed B T)) → Later s t s' t' → BothPassed s' t' x y → BothPassed s t x y
    passed_moved s s' t t' (Ok x) (Ok y) later both = (both.0, both.1, both.2, go.further s s' x.2 t t' y.2 later both.3)
    passed_moved s s' t t' (Err e) (Err f) later both = both
    passed_moved s s' t t' (Ok x) (Err f) later both = absurd both
    passed_moved s s' t t' (Err e) (Ok y) later both = absurd both

    -- what follows arguments
    then_passed : (s : S) (t : T) (x : Answer (Passed A S)) (y : Answer (Passed B T)) (next : Passed A S → Answer (Passed A S)) (next' : Passed B T → Answer (Passed B T)) → BothPassed s t x y →
        ((values : List (ShapeOf × A)) (values' : List (ShapeOf × B)) (counts : Counts) (s' : S) (t' : T) → BothValues s' t' values values' → Alike counts s' t' → Later s t s' t' → BothPassed s' t' (next (values, counts, s')) (next' (values', counts, t'))) →
        BothPassed s t (x >>= next) (y >>= next')
    then_passed s t (Ok x) (Ok y) next next' both goes =
        passed_moved s x.2 t y.2 (next x) (next' y) both.3
        (subst (λ (counts : Counts). BothPassed x.2 y.2 (next x) (next' (y.0, counts, y.2))) both.1 (goes x.0 y.0 x.1 x.2 y.2 both.0 both.2 both.3))
    then_passed s t (Err e) (Err f) next next' both goes = both
    then_passed s t (Ok x) (Err f) next next' both goes = absurd both
    then_passed s t (Err e) (Ok y) next next' both goes = absurd both

    -- an argument's value after the earlier ones
    argument_both : (xs : List (ShapeOf × A)) (ys : List (ShapeOf × B)) (s : S) (t : T) (x : Answer (Valued A S)) (y : Answer (Valued B T)) → BothValues s t xs ys → Both s t x y →
        BothPassed s t (x >>= λ found. Ok (with_argument xs found)) (y >>= λ found. Ok (with_argument ys found))
    argument_both xs ys s t (Ok x) (Ok y) values both =
        (values_more x.3 y.3 xs ys (x.0, x.1) (y.0, y.1) (values_kept s x.3 t y.3 xs ys both.4 values) both.0 both.3, both.1, both.2, both.4)
    argument_both xs ys s t (Err e) (Err f) values both = both
    argument_both xs ys s t (Ok x) (Err f) values both = absurd both
    argument_both xs ys s t (Err e) (Ok y) values both = absurd both

    parameters_both : (parameters : List ℕ) (s : S) (t : T) (xs : List (ShapeOf × A)) (ys : List (ShapeOf × B)) → BothValues s t xs ys → BothNames s t (parameters_bound parameters xs) (parameters_bound parameters ys)
    parameters_both [] s t xs ys both = tt
    parameters_both (parameter ∷ parameters) s t [] [] both = tt
    parameters_both (parameter ∷ parameters) s t [] (y ∷ ys) both = absurd both
    parameters_both (parameter ∷ parameters) s t (x ∷ xs) [] both = absurd both
    parameters_both (parameter ∷ parameters) s t (x ∷ xs) (y ∷ ys) both = (refl, (both.0, both.1), parameters_both parameters s t xs ys both.2)

    -- a body with these parameters
    abbrev run_body : Callable A S → List ℕ → ℕ → Passed A S → Answer (Valued A S)
    run_body f parameters at passed = step_at at passed.1 >>= λ counts. f.body (parameters_bound parameters passed.0) counts passed.2

    abbrev run_body' : Callable B T → List ℕ → ℕ → Passed B T → Answer (Valued B T)
    run_body' g parameters at passed = step_at at passed.1 >>= λ counts. g.body (parameters_bound parameters passed.0) counts passed.2

    call_both : (parameters : List ℕ) (at : ℕ) (f : Callable A S) (g : Callable B T) → BothBody f g → (s : S) (t : T) (x : Answer (Passed A S)) (y : Answer (Passed B T)) → BothPassed s t x y → Both s t (x >>= run_body f parameters at) (y >>= run_body' g parameters at)
    call_both parameters at f g goes s t (Ok x) (Ok y) both =
        moved s x.2 t y.2 (run_body f parameters at x) (run_body' g parameters at y) both.3
        (subst (λ (counts : Counts). Both x.2 y.2 (run_body f parameters at x) (run_body' g parameters at (y.0, counts, y.2))) both.1
        (then_alike (Both x.2 y.2) (λ e. refl) (step_at at x.1) _ _
        (λ counts e. goes (parameters_bound parameters x.0) (parameters_bound parameters y.0) counts x.2 y.2 (parameters_both parameters x.2 y.2 x.0 y.0 both.0) (go.stepped at x.1 counts x.2 y.2 e both.2))))
    call_both parameters at f g goes s t (Err e) (Err h) both = both
    call_both parameters at f g goes s t (Ok x) (Err h) both = absurd both
    call_both parameters at f g goes s t (Err e) (Ok y) both = absurd both

    -- a call of what was found for its name, with these parameters and these arguments
    abbrev fitting : Callable A S → List ℕ → ℕ → ℕ → Answer (Passed A S) → Answer (Valued A S)
    fitting f parameters at arguments x = if_as_many at (length parameters) arguments >>= λ fits. x >>= run_body f parameters at

    abbrev fitting' : Callable B T → List ℕ → ℕ → ℕ → Answer (Passed B T) → Answer (Valued B T)
    fitting' g parameters at arguments y = if_as_many at (length parameters) arguments >>= λ fits. y >>= run_body' g parameters at

    fitting_both : (at arguments : ℕ) (f : Callable A S) (g : Callable B T) → BothCallable f g → (s : S) (t : T) (x : Answer (Passed A S)) (y : Answer (Passed B T)) → BothPassed s t x y →
        Both s t (fitting f f.parameters at arguments x) (fitting' g g.parameters at arguments y)
    fitting_both at arguments f g goes s t x y both =
        subst (λ (parameters : List ℕ). Both s t (fitting f f.parameters at arguments x) (fitting' g parameters at arguments y)) goes.1
        (then_alike (Both s t) (λ e. refl) (if_as_many at (length f.parameters) arguments) _ _ (λ fits e. call_both f.parameters at f g goes.2 s t x y both))

    module _ (calls : Calls A S) (calls' : Calls B T) (both_calls : BothCalls calls calls') where
      mutual
        pub expression_both : (tree : ExpressionTree) (names : Names A) (names' : Names B) (counts : Counts) (s : S) (t : T) → BothNames s t names names' → Alike counts s t →
            Both s t (value_of operations calls tree names counts s) (value_of others calls' tree names' counts t)
        expression_both (ExpressionOf first added) names names' counts s t both alike =
            then_both s t (term_value operations calls first names counts s) (term_value others calls' first names' counts t) (added_value operations calls added names) (added_value others calls' added names') (term_both first names names' counts s t both alike)
            (λ shape a b after s' t' here stands later. added_both added names names' shape a b after s' t' (names_kept s s' t t' names names' later both) here stands)

        added_both : (tree : AddedTree) (names : Names A) (names' : Names B) (shape : ShapeOf) (a : A) (b : B) (counts : Counts) (s : S) (t : T) → BothNames s t names names' → Alike counts s t → Stands s t shape a b →
            Both s t (added_value operations calls tree names (shape, a, counts, s)) (added_value others calls' tree names' (shape, b, counts, t))
        added_both NoTerm names names' shape a b counts s t both alike stands = (refl, refl, alike, stands, go.stays s t)
        added_both (Added sign at term rest) names names' shape a b counts s t both alike stands =
            then_both s t _ _ (added_value operations calls rest names) (added_value others calls' rest names')
            (then_both s t (term_value operations calls term names counts s) (term_value others calls' term names' counts t) (signed_value operations sign at (shape, a, counts, s)) (signed_value others sign at (shape, b, counts, t))
            (term_both term names names' counts s t both alike)
            (λ right a' b' after s' t' here stands' later. made_both (sum_shape sign at shape right after) s' t' (operations.signed sign a a') (others.signed sign b b')
            (λ found counts' e. go.signed sign at shape right found after counts' a a' b b' s' t' e here (go.kept s s' t t' shape a b later stands) stands')))
            (λ found c d after s' t' here stands' later. added_both rest names names' found c d after s' t' (names_kept s s' t t' names names' later both) here stands')

        term_both : (tree : TermTree) (names : Names A) (names' : Names B) (counts : Counts) (s : S) (t : T) → BothNames s t names names' → Alike counts s t →
            Both s t (term_value operations calls tree names counts s) (term_value others calls' tree names' counts t)
        term_both (TermOf first times) names names' counts s t both alike =
            then_both s t (factor_value operations calls first names counts s) (factor_value others calls' first names' counts t) (times_value operations calls times names) (times_value others calls' times names') (factor_both first names names' counts s t both alike)
            (λ shape a b after s' t' here stands later. times_both times names names' shape a b after s' t' (names_kept s s' t t' names names' later both) here stands)

        times_both : (tree : TimesTree) (names : Names A) (names' : Names B) (shape : ShapeOf) (a : A) (b : B) (counts : Counts) (s : S) (t : T) → BothNames s t names names' → Alike counts s t → Stands s t shape a b →
            Both s t (times_value operations calls tree names (shape, a, counts, s)) (times_value others calls' tree names' (shape, b, counts, t))
        times_both NoFactor names names' shape a b counts s t both alike stands = (refl, refl, alike, stands, go.stays s t)
        times_both (Times at factor rest) names names' shape a b counts s t both alike stands =
            then_both s t _ _ (times_value operations calls rest names) (times_value others calls' rest names')
            (then_both s t (factor_value operations calls factor names counts s) (factor_value others calls' factor names' counts t) (product_value operations at (shape, a, counts, s)) (product_value others at (shape, b, counts, t))
            (factor_both factor names names' counts s t both alike)
            (λ right a' b' after s' t' here stands' later. made_both (product_shape at shape right after) s' t' (operations.product a a') (others.product b b')
            (λ found counts' e. go.product at shape right found after counts' a a' b b' s' t' e here (go.kept s s' t t' shape a b later stands) stands')))
            (λ found c d after s' t' here stands' later. times_both rest names names' found c d after s' t' (names_kept s s' t t' names names' later both) here stands')

        factor_both : (tree : FactorTree) (names : Names A) (names' : Names B) (counts : Counts) (s : S) (t : T) → BothNames s t names names' → Alike counts s t →
            Both s t (factor_value operations calls tree names counts s) (factor_value others calls' tree names' counts t)
        factor_both (Number at value) names names' counts s t both alike = constant_both at value counts s t alike
        factor_both (Name name) names names' counts s t both alike =
            bound_both name.at counts s t (binding_of name.number names) (binding_of name.number names') alike (both_found name.number s t names names' both)
        factor_both (Element name indices) names names' counts s t both alike =
            element_both name.at indices counts s t names names' (binding_of name.number names) (binding_of name.number names') alike (same_turns s t names names' both) (both_found name.number s t names names' both)
        factor_both (Negation at operand) names names' counts s t both alike =
            then_both s t (factor_value operations calls operand names counts s) (factor_value others calls' operand names' counts t) (opposite_value operations at) (opposite_value others at) (factor_both operand names names' counts s t both alike)
            (λ of a b after s' t' here stands later. made_both (for_minus_one at (size_of of) of after) s' t' (operations.opposite a) (others.opposite b)
            (λ shape counts' e. go.opposite at of shape after counts' a b s' t' e here stands))
        factor_both (Parenthesized at inner) names names' counts s t both alike = expression_both inner names names' counts s t both alike
        factor_both (Single function at parenthesis argument) names names' counts s t both alike =
            then_both s t (value_of operations calls argument names counts s) (value_of others calls' argument names' counts t) (single_value operations function at) (single_value others function at) (expression_both argument names names' counts s t both alike)
            (λ of a b after s' t' here stands later. made_both (single_shape function at of after) s' t' (operations.single function of a) (others.single function of b)
            (λ shape counts' e. go.single function at of shape after counts' a b s' t' e here stands))
        factor_both (Pair function at parenthesis left right) names names' counts s t both alike =
            then_both s t (value_of operations calls left names counts s) (value_of others calls' left names' counts t) _ _ (expression_both left names names' counts s t both alike)
            (λ l a b before s' t' here stands later.
            then_both s' t' (value_of operations calls right names before s') (value_of others calls' right names' before t') (pair_value operations function at (l, a, before, s')) (pair_value others function at (l, b, before, t'))
            (expression_both right names names' before s' t' (names_kept s s' t t' names names' later both) here)
            (λ r a' b' after s'' t'' here' stands' later'. made_both (pair_shape function at l r after) s'' t'' (operations.pair function l r a a') (others.pair function l r b b')
            (λ shape counts' e. go.pair function at l r shape after counts' a a' b b' s'' t'' e here' (go.kept s' s'' t' t'' l a b later' stands) stands')))
        factor_both (Call name parenthesis first further) names names' counts s t both alike =
            called_both name.at name.number calls calls' s t _ _ both_calls
            (λ f g goes.
            fitting_both name.at (suc (count_of further)) f g goes s t _ _
            (then_passed s t _ _ (passed_value operations calls further names) (passed_value others calls' further names')
            (argument_both [] [] s t _ _ tt (expression_both first names names' counts s t both alike))
            (λ values values' after s' t' same here later. passed_both further names names' values values' after s' t' (names_kept s s' t t' names names' later both) here same)))

        passed_both : (tree : ArgumentsTree) (names : Names A) (names' : Names B) (values : List (ShapeOf × A)) (values' : List (ShapeOf × B)) (counts : Counts) (s : S) (t : T) → BothNames s t names names' → Alike counts s t → BothValues s t values values' →
            BothPassed s t (passed_value operations calls tree names (values, counts, s)) (passed_value others calls' tree names' (values', counts, t))
        passed_both NoArgument names names' values values' counts s t both alike same = (same, refl, alike, go.stays s t)
        passed_both (Argument argument rest) names names' values values' counts s t both alike same =
            then_passed s t _ _ (passed_value operations calls rest names) (passed_value others calls' rest names')
            (argument_both values values' s t _ _ same (expression_both argument names names' counts s t both alike))
            (λ inner inner' after s' t' more here later. passed_both rest names names' inner inner' after s' t' (names_kept s s' t t' names names' later both) here more)

    -- definitions go together
    pub calls_both : (definitions : List DefinitionTree) → BothCalls (callables operations definitions) (callables others definitions)
    calls_both [] = tt
    calls_both (definition ∷ earlier) = (
      (
        refl,
        refl,
        λ names names' counts s t both alike. expression_both (callables operations earlier) (callables others earlier) (calls_both earlier) definition.body names names' counts s t both alike,
      ),
      calls_both earlier,
    )

    module _ (more : GoOn) where
      -- ---- statements

      -- the same refusal, or states that go together
      abbrev pub BothStates : Answer (State A S) → Answer (State B T) → Type 0
      BothStates (Err e) (Err f) = e ≡ f
      BothStates (Ok x) (Ok y) = (x.counts ≡ y.counts) × Alike x.counts x.kept y.kept × BothNames x.kept y.kept x.names y.names
      BothStates x y = ⊥

      -- what follows a state
      then_states : (x : Answer (State A S)) (y : Answer (State B T)) (next : State A S → Answer (State A S)) (next' : State B T → Answer (State B T)) → BothStates x y →
          ((names : Names A) (names' : Names B) (counts : Counts) (s : S) (t : T) → Alike counts s t → BothNames s t names names' → BothStates (next (state names counts s)) (next' (state names' counts t))) →
          BothStates (x >>= next) (y >>= next')
      then_states (Ok x) (Ok y) next next' both goes =
          subst (λ (counts : Counts). BothStates (next x) (next' (state y.names counts y.kept))) both.0 (goes x.names y.names x.counts x.kept y.kept both.1 both.2)
      then_states (Err e) (Err f) next next' both goes = both
      then_states (Ok x) (Err f) next next' both goes = absurd both
      then_states (Err e) (Ok y) next next' both goes = absurd both

      -- a state after a value
      then_state : (s : S) (t : T) (x : Answer (Valued A S)) (y : Answer (Valued B T)) (next : Valued A S → Answer (State A S)) (next' : Valued B T → Answer (State B T)) → Both s t x y →
          ((shape : ShapeOf) (a : A) (b : B) (counts : Counts) (s' : S) (t' : T) → Alike counts s' t' → Stands s' t' shape a b → Later s t s' t' → BothStates (next (shape, a, counts, s')) (next' (shape, b, counts, t'))) →
          BothStates (x >>= next) (y >>= next')
      then_state s t (Ok x) (Ok y) next next' both goes =
          subst (λ (shape : ShapeOf). BothStates (next x) (next' (shape, y.1, y.2, y.3))) both.0
          (subst (λ (counts : Counts). BothStates (next x) (next' (x.0, y.1, counts, y.3))) both.1
          (goes x.0 x.1 y.1 x.2 x.3 y.3 both.2 both.3 both.4))
      then_state s t (Err e) (Err f) next next' both goes = both
      then_state s t (Ok x) (Err f) next next' both goes = absurd both
      then_state s t (Err e) (Ok y) next next' both goes = absurd both

      -- the same answer of both, and what follows it
      then_same : {X : Type 0} (x : Answer X) (next : X → Answer (State A S)) (next' : X → Answer (State B T)) → ((found : X) → x ≡ Ok found → BothStates (next found) (next' found)) → BothStates (x >>= next) (x >>= next')
      then_same x next next' goes = then_alike BothStates (λ e. refl) x next next' goes

      push_both : (name : ℕ) (s : S) (t : T) (a : Bound A) (b : Bound B) (names : Names A) (names' : Names B) → BothBound s t a b → BothNames s t names names' → BothNames s t (with_name name a names) (with_name name b names')
      push_both name s t a b [] [] here both = (refl, here, tt)
      push_both name s t a b [] (y ∷ names') here both = absurd both
      push_both name s t a b (x ∷ names) [] here both = absurd both
      push_both name s t a b (x ∷ names) (y ∷ names') here both = (both.0, both.1, push_both name s t a b names names' here both.2)

      take_both : (kept : ℕ) (s : S) (t : T) (names : Names A) (names' : Names B) → BothNames s t names names' → BothNames s t (take kept names) (take kept names')
      take_both zero s t names names' both = tt
      take_both (suc kept) s t [] [] both = tt
      take_both (suc kept) s t [] (y ∷ names') both = absurd both
      take_both (suc kept) s t (x ∷ names) [] both = absurd both
      take_both (suc kept) s t (x ∷ names) (y ∷ names') both = (both.0, both.1, take_both kept s t names names' both.2)

      same_length : (s : S) (t : T) (names : Names A) (names' : Names B) → BothNames s t names names' → length names ≡ length names'
      same_length s t [] [] both = refl
      same_length s t [] (y ∷ names') both = absurd both
      same_length s t (x ∷ names) [] both = absurd both
      same_length s t (x ∷ names) (y ∷ names') both = ap suc (same_length s t names names' both.2)

      set_if : (s : S) (t : T) (name : ℕ) (here : Bool) (x : ℕ × Bound A) (y : ℕ × Bound B) (a : Bound A) (b : Bound B) (names rest : Names A) (names' rest' : Names B) → (x.0 ≡ y.0) × BothBound s t x.1 y.1 → BothBound s t a b →
          BothNames s t names names' → BothNames s t rest rest' → BothNames s t (if here then (name, a) ∷ names else x ∷ rest) (if here then (name, b) ∷ names' else y ∷ rest')
      set_if s t name true x y a b names rest names' rest' both here same more = (refl, here, same)
      set_if s t name false x y a b names rest names' rest' both here same more = (both.0, both.1, more)

      set_both : (name : ℕ) (s : S) (t : T) (a : Bound A) (b : Bound B) (names : Names A) (names' : Names B) → BothBound s t a b → BothNames s t names names' → BothNames s t (with_binding name a names) (with_binding name b names')
      set_both name s t a b [] [] here both = tt
      set_both name s t a b [] (y ∷ names') here both = absurd both
      set_both name s t a b (x ∷ names) [] here both = absurd both
      set_both name s t a b (x ∷ names) (y ∷ names') here both =
          subst (λ (n : ℕ). BothNames s t (with_binding name a (x ∷ names)) (if n == name then (name, b) ∷ names' else y ∷ with_binding name b names')) both.0
          (set_if s t name (x.0 == name) x y a b names (with_binding name a names) names' (with_binding name b names') (both.0, both.1) here both.2 (set_both name s t a b names names' here both.2))

      free_alike : {Y Z : Type 0} (R : Answer Y → Answer Z → Type 0) → ((e : CheckRefused) → R (Err e) (Err e)) → (at : ℕ) (s : S) (t : T) (x : Option (Bound A)) (y : Option (Bound B)) (a : Answer Y) (b : Answer Z) →
          BothFound s t x y → R a b → R (if_free at x >>= λ free. a) (if_free at y >>= λ free. b)
      free_alike R refused at s t None None a b both goes = goes
      free_alike R refused at s t None (Some y) a b both goes = absurd both
      free_alike R refused at s t (Some x) None a b both goes = absurd both
      free_alike R refused at s t (Some x) (Some y) a b both goes = refused (Bad at kinds.Taken)

      same_free : (at : ℕ) (s : S) (t : T) (x : Option (Bound A)) (y : Option (Bound B)) → BothFound s t x y → if_free at x ≡ if_free at y
      same_free at s t None None both = refl
      same_free at s t None (Some y) both = absurd both
      same_free at s t (Some x) None both = absurd both
      same_free at s t (Some x) (Some y) both = refl

      same_new : (name : NameTree) (definitions : List DefinitionTree) (s : S) (t : T) (names : Names A) (names' : Names B) → BothNames s t names names' → if_new name names definitions ≡ if_new name names' definitions
      same_new name definitions s t names names' both =
          ap (λ free. if is_defined name.number definitions then Err (Bad name.at kinds.Taken) else free) (same_free name.at s t (bound name names) (bound name names') (both_found name.number s t names names' both))

      same_parameters : (first : List NameTree) (parameters : List NameTree) (definitions : List DefinitionTree) (s : S) (t : T) (names : Names A) (names' : Names B) → BothNames s t names names' →
          if_parameters first parameters names definitions ≡ if_parameters first parameters names' definitions
      same_parameters first [] definitions s t names names' both = refl
      same_parameters first (parameter ∷ parameters) definitions s t names names' both =
          λ i. if_apart parameter first >>= λ apart. same_new parameter definitions s t names names' both i >>= λ free. same_parameters (first ++ parameter ∷ []) parameters definitions s t names names' both i

      -- a target of both
      target_both : (at : ℕ) (s : S) (t : T) (x : Option (Bound A)) (y : Option (Bound B)) → BothFound s t x y → target_shape at x ≡ target_shape at y
      target_both at s t None None both = refl
      target_both at s t None (Some y) both = absurd both
      target_both at s t (Some x) None both = absurd both
      target_both at s t (Some (Value shape a)) (Some (Value other b)) both = ap Ok both.0
      target_both at s t (Some (Value shape a)) (Some (Turn m)) both = absurd both
      target_both at s t (Some (Turn n)) (Some (Value other b)) both = absurd both
      target_both at s t (Some (Turn n)) (Some (Turn m)) both = refl

      -- the same answer of each, and what follows it
      then_equal : {X : Type 0} (x y : Answer X) (next : X → Answer (State A S)) (next' : X → Answer (State B T)) → x ≡ y → ((found : X) → x ≡ Ok found → BothStates (next found) (next' found)) → BothStates (x >>= next) (y >>= next')
      then_equal x y next next' same goes = subst (λ answer. BothStates (x >>= next) (answer >>= next')) same (then_same x next next' goes)

      stepped_both : (at : ℕ) (names : Names A) (names' : Names B) (counts : Counts) (s : S) (t : T) (next : State A S → Answer (State A S)) (next' : State B T → Answer (State B T)) → Alike counts s t → BothNames s t names names' →
          ((after : Counts) → Alike after s t → BothStates (next (state names after s)) (next' (state names' after t))) →
          BothStates (stepped operations at next (state names counts s)) (stepped others at next' (state names' counts t))
      stepped_both at names names' counts s t next next' alike both goes =
          then_same (step_at at counts) (λ after. next (state names after s)) (λ after. next' (state names' after t)) (λ after e. goes after (go.stepped at counts after s t e alike))

      -- a value of this shape, and what follows it
      shaped_state : (of : ShapeOf) (at : ℕ) (s : S) (t : T) (x : Answer (Valued A S)) (y : Answer (Valued B T)) (next : Valued A S → Answer (State A S)) (next' : Valued B T → Answer (State B T)) → Both s t x y →
          ((a : A) (b : B) (counts : Counts) (s' : S) (t' : T) → Alike counts s' t' → Stands s' t' of a b → Later s t s' t' → (shape : ShapeOf) → BothStates (next (shape, a, counts, s')) (next' (shape, b, counts, t'))) →
          BothStates (x >>= λ found. if_of of at found.0 >>= λ fits. next found) (y >>= λ found. if_of of at found.0 >>= λ fits. next' found)
      shaped_state of at s t (Err e) (Err f) next next' both goes = both
      shaped_state of at s t (Ok x) (Err f) next next' both goes = absurd both
      shaped_state of at s t (Err e) (Ok y) next next' both goes = absurd both
      shaped_state of at s t (Ok x) (Ok y) next next' both goes =
          subst (λ (shape : ShapeOf). BothStates (if_of of at x.0 >>= λ fits. next x) (if_of of at shape >>= λ fits. next' (shape, y.1, y.2, y.3))) both.0
          (subst (λ (counts : Counts). BothStates (if_of of at x.0 >>= λ fits. next x) (if_of of at x.0 >>= λ fits. next' (x.0, y.1, counts, y.3))) both.1
          (by (same_shape of x.0) (same_shapes of x.0)))
        where
          by : (c : Bool) → (c ≡ true → of ≡ x.0) → BothStates ((if c then Ok (tt {0}) else Err (Bad at kinds.Shape)) >>= λ fits. next x) ((if c then Ok (tt {0}) else Err (Bad at kinds.Shape)) >>= λ fits. next' (x.0, y.1, x.2, y.3))
          by true same =
              let stands : Stands x.3 y.3 of x.1 y.1 = subst (λ (shape : ShapeOf). Stands x.3 y.3 shape x.1 y.1) (sym (same refl)) both.3 in
              goes x.1 y.1 x.2 x.3 y.3 both.2 stands both.4 x.0
          by false same = refl

      -- bodies that go together
      abbrev BothBodies : (State A S → Answer (State A S)) → (State B T → Answer (State B T)) → Type 0
      BothBodies body body' = (names : Names A) (names' : Names B) (counts : Counts) (s : S) (t : T) → Alike counts s t → BothNames s t names names' → BothStates (body (state names counts s)) (body' (state names' counts t))

      module _ (definitions : List DefinitionTree) where
        declared_both : (name : NameTree) (value : ExpressionTree) (names : Names A) (names' : Names B) (counts : Counts) (s : S) (t : T) → Alike counts s t → BothNames s t names names' →
            BothStates (declared operations definitions name value (state names counts s)) (declared others definitions name value (state names' counts t))
        declared_both name value names names' counts s t alike both =
            then_equal (if_new name names definitions) (if_new name names' definitions) _ _ (same_new name definitions s t names names' both) (λ free g.
            then_state s t (value_of operations (callables operations definitions) value names counts s) (value_of others (callables others definitions) value names' counts t) _ _ (expression_both (callables operations definitions) (callables others definitions) (calls_both definitions) value names names' counts s t both alike)
            (λ shape a b after s' t' here stands later. (refl, here, push_both name.number s' t' (Value shape a) (Value shape b) names names' (refl, stands) (names_kept s s' t t' names names' later both))))

        assigned_both : (name : NameTree) (value : ExpressionTree) (names : Names A) (names' : Names B) (counts : Counts) (s : S) (t : T) → Alike counts s t → BothNames s t names names' →
            BothStates (assigned operations definitions name value (state names counts s)) (assigned others definitions name value (state names' counts t))
        assigned_both name value names names' counts s t alike both =
            then_equal (target_shape name.at (bound name names)) (target_shape name.at (bound name names')) _ _ (target_both name.at s t (bound name names) (bound name names') (both_found name.number s t names names' both))
            (λ of e.
            shaped_state of (expression_at value) s t (value_of operations (callables operations definitions) value names counts s) (value_of others (callables others definitions) value names' counts t) _ _ (expression_both (callables operations definitions) (callables others definitions) (calls_both definitions) value names names' counts s t both alike)
            (λ a b after s' t' here stands later shape. (refl, here, set_both name.number s' t' (Value of a) (Value of b) names names' (refl, stands) (names_kept s s' t t' names names' later both))))

        -- an element of a name of each
        element_in_both : (s : S) (t : T) (place : ℕ) (new : A) (new' : B) (x : Bound A) (y : Bound B) → Stands s t Scalar new new' → BothBound s t x y → BothBound s t (with_element_in operations place new x) (with_element_in others place new' y)
        element_in_both s t place new new' (Value shape a) (Value other b) stands both = (both.0, more.with_element shape place a new b new' s t both.1 stands)
        element_in_both s t place new new' (Turn n) (Turn m) stands both = both
        element_in_both s t place new new' (Value shape a) (Turn m) stands both = absurd both
        element_in_both s t place new new' (Turn n) (Value other b) stands both = absurd both

        element_of_both : (name : ℕ) (s : S) (t : T) (place : ℕ) (new : A) (new' : B) (names : Names A) (names' : Names B) → Stands s t Scalar new new' → BothNames s t names names' →
            BothNames s t (with_element_of operations name place new names) (with_element_of others name place new' names')
        element_of_both name s t place new new' [] [] stands both = tt
        element_of_both name s t place new new' [] (y ∷ names') stands both = absurd both
        element_of_both name s t place new new' (x ∷ names) [] stands both = absurd both
        element_of_both name s t place new new' (x ∷ names) (y ∷ names') stands both =
            subst (λ (n : ℕ). BothNames s t (with_element_of operations name place new (x ∷ names)) (if n == name then (name, with_element_in others place new' y.1) ∷ names' else y ∷ with_element_of others name place new' names')) both.0
            (set_if s t name (x.0 == name) x y (with_element_in operations place new x.1) (with_element_in others place new' y.1) names (with_element_of operations name place new names) names' (with_element_of others name place new' names') (both.0, both.1)
            (element_in_both s t place new new' x.1 y.1 stands both.1) both.2 (element_of_both name s t place new new' names names' stands both.2))

        element_assigned_both : (name : NameTree) (indices : IndicesTree) (value : ExpressionTree) (names : Names A) (names' : Names B) (counts : Counts) (s : S) (t : T) → Alike counts s t → BothNames s t names names' →
            BothStates (element_assigned operations definitions name indices value (state names counts s)) (element_assigned others definitions name indices value (state names' counts t))
        element_assigned_both name indices value names names' counts s t alike both =
            then_equal (target_shape name.at (bound name names)) (target_shape name.at (bound name names')) _ _ (target_both name.at s t (bound name names) (bound name names') (both_found name.number s t names names' both))
            (λ of e.
            then_equal (indices_at names name.at indices.second indices.first of) (indices_at names' name.at indices.second indices.first of) _ _ (same_indices names names' (same_turns s t names names' both) name.at indices.second indices.first of)
            (λ place f.
            shaped_state Scalar (expression_at value) s t (value_of operations (callables operations definitions) value names counts s) (value_of others (callables others definitions) value names' counts t) _ _ (expression_both (callables operations definitions) (callables others definitions) (calls_both definitions) value names names' counts s t both alike)
            (λ a b after s' t' here stands later shape.
            (refl, here, element_of_both name.number s' t' (offset of place) a b names names' stands (names_kept s s' t t' names names' later both)))))

        turn_both : (at : ℕ) (name : NameTree) (body : State A S → Answer (State A S)) (body' : State B T → Answer (State B T)) → BothBodies body body' → (turn : ℕ) → BothBodies (one_turn operations at name body turn) (one_turn others at name body' turn)
        turn_both at name body body' goes turn names names' counts s t alike both =
            then_same (step_at at counts) _ _ (λ after e.
            then_states (body (state (with_name name.number (Turn turn) names) after s)) (body' (state (with_name name.number (Turn turn) names') after t)) _ _
            (goes (with_name name.number (Turn turn) names) (with_name name.number (Turn turn) names') after s t (go.stepped at counts after s t e alike) (push_both name.number s t (Turn turn) (Turn turn) names names' refl both))
            (λ inner inner' last s' t' here more.
            (refl, here, subst (λ (kept : ℕ). BothNames s' t' (take (length names) inner) (take kept inner')) (same_length s t names names' both) (take_both (length names) s' t' inner inner' more))))

        turns_both : (left turn : ℕ) (body : ℕ → State A S → Answer (State A S)) (body' : ℕ → State B T → Answer (State B T)) → ((turn : ℕ) → BothBodies (body turn) (body' turn)) → BothBodies (turns operations left turn body) (turns others left turn body')
        turns_both zero turn body body' goes names names' counts s t alike both = (refl, alike, both)
        turns_both (suc left) turn body body' goes names names' counts s t alike both =
            then_states (body turn (state names counts s)) (body' turn (state names' counts t)) (turns operations left (turn + 1) body) (turns others left (turn + 1) body') (goes turn names names' counts s t alike both)
            (λ inner inner' after s' t' here more. turns_both left (turn + 1) body body' goes inner inner' after s' t' here more)

        same_bounds : (names : Names A) (names' : Names B) → SameTurns names names' → (low high : index.Sum) → bounds_of names low high ≡ bounds_of names' low high
        same_bounds names names' same low high =
            λ i. same_index names names' same (index_at low) low i >>= λ from. same_index names names' same (index_at high) high i >>= λ to. turns_of (index_at low) from to

        loop_both : (at : ℕ) (name : NameTree) (low high : index.Sum) (body : State A S → Answer (State A S)) (body' : State B T → Answer (State B T)) → BothBodies body body' →
            BothBodies (counted_loop operations definitions at name low high body) (counted_loop others definitions at name low high body')
        loop_both at name low high body body' goes names names' counts s t alike both =
            then_equal (if_new name names definitions) (if_new name names' definitions) _ _ (same_new name definitions s t names names' both) (λ free g.
            then_equal (bounds_of names low high) (bounds_of names' low high) _ _ (same_bounds names names' (same_turns s t names names' both) low high)
            (λ bounds e. turns_both (bounds.1 - bounds.0) bounds.0 (one_turn operations at name body) (one_turn others at name body') (turn_both at name body body' goes) names names' counts s t alike both))

        mutual
          statement_both : (tree : StatementTree) → BothBodies (after_statement operations definitions tree) (after_statement others definitions tree)
          statement_both (Let at name value) names names' counts s t alike both =
              stepped_both at names names' counts s t (declared operations definitions name value) (declared others definitions name value) alike both (λ after here. declared_both name value names names' after s t here both)
          statement_both (Set name value) names names' counts s t alike both =
              stepped_both name.at names names' counts s t (assigned operations definitions name value) (assigned others definitions name value) alike both (λ after here. assigned_both name value names names' after s t here both)
          statement_both (SetElement name indices value) names names' counts s t alike both =
              stepped_both name.at names names' counts s t (element_assigned operations definitions name indices value) (element_assigned others definitions name indices value) alike both (λ after here. element_assigned_both name indices value names names' after s t here both)
          statement_both (For at name low high body) names names' counts s t alike both =
              stepped_both at names names' counts s t (counted_loop operations definitions at name low high (after_block operations definitions body)) (counted_loop others definitions at name low high (after_block others definitions body)) alike both
              (λ after here. loop_both at name low high (after_block operations definitions body) (after_block others definitions body) (block_both body) names names' after s t here both)

          block_both : (tree : BlockTree) → BothBodies (after_block operations definitions tree) (after_block others definitions tree)
          block_both EndOfBlock names names' counts s t alike both = (refl, alike, both)
          block_both (Then statement rest) names names' counts s t alike both =
              then_states (after_statement operations definitions statement (state names counts s)) (after_statement others definitions statement (state names' counts t)) (after_block operations definitions rest) (after_block others definitions rest)
              (statement_both statement names names' counts s t alike both)
              (λ inner inner' after s' t' here more. block_both rest inner inner' after s' t' here more)

        -- ---- programs

        top_both : (top : TopTree) → BothBodies (after_top operations definitions top) (after_top others definitions top)
        top_both (Output at value) names names' counts s t alike both =
            then_same (step_at at counts) _ _ (λ after e.
            then_state s t (value_of operations (callables operations definitions) value names after s) (value_of others (callables others definitions) value names' after t) _ _ (expression_both (callables operations definitions) (callables others definitions) (calls_both definitions) value names names' after s t both (go.stepped at counts after s t e alike))
            (λ shape a b before s' t' here stands later.
            then_same (outputs_at at (size_of shape) before) _ _ (λ last f.
            let put = more.output at shape before last a b s' t' f here stands in
            (refl, put.0, names_kept s (operations.output a s') t (others.output b t') names names' (go.further s s' (operations.output a s') t t' (others.output b t') later put.1) both))))
        top_both (Inner statement) names names' counts s t alike both = statement_both statement names names' counts s t alike both

      definition_both : (earlier : List DefinitionTree) (definition : DefinitionTree) → BothBodies (after_definition earlier definition) (after_definition earlier definition)
      definition_both earlier definition names names' counts s t alike both =
          then_same (step_at definition.at counts) _ _ (λ after e.
          then_same (if_few definition.at earlier) _ _ (λ few f.
          then_equal (if_new definition.name names earlier) (if_new definition.name names' earlier) _ _ (same_new definition.name earlier s t names names' both) (λ free g.
          then_equal (if_parameters (definition.name ∷ []) definition.parameters names earlier) (if_parameters (definition.name ∷ []) definition.parameters names' earlier) _ _
          (same_parameters (definition.name ∷ []) definition.parameters earlier s t names names' both) (λ apart h. (refl, go.stepped definition.at counts after s t e alike, both)))))

      definitions_both : (earlier definitions : List DefinitionTree) → BothBodies (after_definitions earlier definitions) (after_definitions earlier definitions)
      definitions_both earlier [] names names' counts s t alike both = (refl, alike, both)
      definitions_both earlier (definition ∷ definitions) names names' counts s t alike both =
          then_states (after_definition earlier definition (state names counts s)) (after_definition earlier definition (state names' counts t)) (after_definitions (definition ∷ earlier) definitions) (after_definitions (definition ∷ earlier) definitions)
          (definition_both earlier definition names names' counts s t alike both)
          (λ inner inner' after s' t' here more. definitions_both (definition ∷ earlier) definitions inner inner' after s' t' here more)

      module _ (Enough : List InputTree → S → T → Type 0) (begin : Begin Enough) where
        -- the same refusal, or states that go together with enough for the inputs that are left
        abbrev BothBegun : List InputTree → Answer (State A S) → Answer (State B T) → Type 0
        BothBegun trees (Err e) (Err f) = e ≡ f
        BothBegun trees (Ok x) (Ok y) = BothStates (Ok x) (Ok y) × Enough trees x.kept y.kept
        BothBegun trees x y = ⊥

        then_begun : (trees : List InputTree) (x : Answer (State A S)) (y : Answer (State B T)) (next : State A S → Answer (State A S)) (next' : State B T → Answer (State B T)) → BothBegun trees x y →
            ((names : Names A) (names' : Names B) (counts : Counts) (s : S) (t : T) → Enough trees s t → Alike counts s t → BothNames s t names names' → BothStates (next (state names counts s)) (next' (state names' counts t))) →
            BothStates (x >>= next) (y >>= next')
        then_begun trees (Ok x) (Ok y) next next' both goes =
            subst (λ (counts : Counts). BothStates (next x) (next' (state y.names counts y.kept))) both.0.0 (goes x.names y.names x.counts x.kept y.kept both.1 both.0.1 both.0.2)
        then_begun trees (Err e) (Err f) next next' both goes = both
        then_begun trees (Ok x) (Err f) next next' both goes = absurd both
        then_begun trees (Err e) (Ok y) next next' both goes = absurd both

        input_both : (tree : InputTree) (trees : List InputTree) (names : Names A) (names' : Names B) (counts : Counts) (s : S) (t : T) → Enough (tree ∷ trees) s t → Alike counts s t → BothNames s t names names' →
            BothBegun trees (after_input operations tree (state names counts s)) (after_input others tree (state names' counts t))
        input_both tree trees names names' counts s t enough alike both =
            then_alike (BothBegun trees) (λ e. refl) (step_at tree.at counts) _ _ (λ after e.
            free_alike (BothBegun trees) (λ e. refl) tree.name.at s t (bound tree.name names) (bound tree.name names') _ _ (both_found tree.name.number s t names names' both)
            (then_alike (BothBegun trees) (λ e. refl) (input_shape tree.dimensions) _ _ (λ shape f.
            then_alike (BothBegun trees) (λ e. refl) (nodes_at tree.name.at (size_of shape) after) _ _ (λ last g.
            let made = begin.input tree trees shape after last s t f g (go.stepped tree.at counts after s t e alike) enough in (
              (
                refl,
                made.0.0,
                push_both tree.name.number (operations.input shape s).1 (others.input shape t).1 (Value shape (operations.input shape s).0) (Value shape (others.input shape t).0) names names' (refl, made.0.1)
                    (names_kept s (operations.input shape s).1 t (others.input shape t).1 names names' made.0.2 both),
              ),
              made.1,
            )))))

        inputs_both : (trees : List InputTree) (names : Names A) (names' : Names B) (counts : Counts) (s : S) (t : T) → Enough trees s t → Alike counts s t → BothNames s t names names' →
            BothStates (each (after_input operations) trees (state names counts s)) (each (after_input others) trees (state names' counts t))
        inputs_both [] names names' counts s t enough alike both = (refl, alike, both)
        inputs_both (tree ∷ trees) names names' counts s t enough alike both =
            then_begun trees (after_input operations tree (state names counts s)) (after_input others tree (state names' counts t)) (each (after_input operations) trees) (each (after_input others) trees)
            (input_both tree trees names names' counts s t enough alike both)
            (λ inner inner' after s' t' left here more. inputs_both trees inner inner' after s' t' left here more)

      each_both : {X : Type 0} (step : X → State A S → Answer (State A S)) (step' : X → State B T → Answer (State B T)) → ((x : X) → BothBodies (step x) (step' x)) → (xs : List X) → BothBodies (each step xs) (each step' xs)
      each_both step step' goes [] names names' counts s t alike both = (refl, alike, both)
      each_both step step' goes (x ∷ xs) names names' counts s t alike both =
          then_states (step x (state names counts s)) (step' x (state names' counts t)) (each step xs) (each step' xs) (goes x names names' counts s t alike both)
          (λ inner inner' after s' t' here more. each_both step step' goes xs inner inner' after s' t' here more)

      any_both : (end : ℕ) → BothBodies (if_any_output end) (if_any_output end)
      any_both end names names' counts s t alike both = by (counts.outputs == 0)
        where
          by : (none : Bool) → BothStates (if none then Err (Bad end kinds.NoOutput) else Ok (state names counts s)) (if none then Err (Bad end kinds.NoOutput) else Ok (state names' counts t))
          by true = refl
          by false = (refl, alike, both)

      pub programs : (Enough : List InputTree → S → T → Type 0) (begin : Begin Enough) (lang : Lang) (program : ProgramTree) (s : S) (t : T) → Enough program.inputs s t → Alike (none_counted lang) s t →
          BothStates (run_of operations lang program s) (run_of others lang program t)
      programs Enough begin lang program s t enough alike =
          let definitions : List DefinitionTree = reverse program.definitions in
          let start : State A S = state [] (none_counted lang) s in
          let start' : State B T = state [] (none_counted lang) t in
          let begun = each (after_input operations) program.inputs start in
          let begun' = each (after_input others) program.inputs start' in
          then_states (begun >>= after_definitions [] program.definitions >>= each (after_top operations definitions) program.statements) (begun' >>= after_definitions [] program.definitions >>= each (after_top others definitions) program.statements)
          (if_any_output program.end) (if_any_output program.end)
          (then_states (begun >>= after_definitions [] program.definitions) (begun' >>= after_definitions [] program.definitions) (each (after_top operations definitions) program.statements) (each (after_top others definitions) program.statements)
          (then_states begun begun' (after_definitions [] program.definitions) (after_definitions [] program.definitions)
          (inputs_both Enough begin program.inputs [] [] (none_counted lang) s t enough alike tt)
          (λ inner inner' after s' t' here more. definitions_both [] program.definitions inner inner' after s' t' here more))
          (λ inner inner' after s' t' here more. each_both (after_top operations definitions) (after_top others definitions) (top_both definitions) program.statements inner inner' after s' t' here more))
          (λ inner inner' after s' t' here more. any_both program.end inner inner' after s' t' here more)
