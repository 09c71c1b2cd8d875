-- The spelling of a tree is read to its end, or nests too deep.
use Rattle.std.proofs.Common.{◌≡◌, ◌⊎◌, inl, inr, ℕ, zero, suc, ◌≤◌, arith, Bool, true, false, List, [], ◌∷◌, ◌++◌, Option, Some, None, length, map, refl, ap, sym, subst, ◌∙◌, append_assoc}
use Rattle.std.specs.Prelude.{flat_map, if◌then◌else◌, nat_lt}
use Rattle.arr_ast.specs.declared.expression.Sign.{Sign}
use Rattle.arr_ast.specs.declared.expression.Sign.TheVariants.{Plus as PlusSign, Minus as MinusSign}
use Rattle.arr_ast.specs.declared.expression.SingleFunction.TheVariants.{Sum as SumWord, Transpose}
use Rattle.arr_ast.specs.declared.expression.PairFunction.TheVariants.{Scale, Dot, MatMul}
use Rattle.arr_ast.specs.declared.program.Dimensions.{Dimensions}
use Rattle.arr_ast.specs.declared.program.Dimensions.TheVariants.{Scalar, Vector, Matrix}
use Rattle.arr_ast.specs.IndexTree as index
use Rattle.arr_ast.specs.ExpressionTree.{NameTree, IndicesTree, ExpressionTree, ExpressionOf, AddedTree, NoTerm, Added, TermTree, TermOf, TimesTree, NoFactor, Times, FactorTree, Number, Name, Element, Negation, Parenthesized, Single, Pair, Call, ArgumentsTree, NoArgument, Argument}
use Rattle.arr_ast.specs.ProgramTree.{StatementTree, Let, Set, SetElement, For, BlockTree, EndOfBlock, Then, TopTree, Output, Inner, InputTree, DefinitionTree, ProgramTree}
use Rattle.arr_ast.specs.declared.lang.Lang.{Lang}
use Rattle.arr_ast.specs.declared.lang.Lang.TheVariants.{One, Two}
use Rattle.arr_lex.specs.declared.token.Symbol.{Symbol}
use Rattle.arr_lex.specs.declared.token.Symbol.TheVariants as symbol
use Rattle.arr_lex.specs.declared.token.Token.{Token}
use Rattle.arr_parse.specs.Mark.{Mark, Separator, Placed, Named, mark, mark_of, number_at, Source}
use Rattle.arr_parse.specs.Names.{source_of}
use Rattle.arr_parse.specs.Grammar.{Part, The, Inputs, Definitions, Parameters, MoreParameters, AfterName, MoreArguments, FirstDimension, SecondDimension, TopStatements, Statements, Block, AnExpression, MoreTerms, ATerm, MoreFactors, AFactor, EndOfNegation, OneArgument, TwoArguments, FirstIndex, SecondIndex, AnIndex, MoreIndexTerms, AnIndexTerm, MoreIndexFactors, AnIndexFactor, AName, ANumber, row, may_be_empty}
use Rattle.arr_parse.specs.Reading.{levels, taken, due_after, unless_refused, refusal, OnlyNests}
use Rattle.arr_parse.specs.Parsed.{IsTreeOf}
use Rattle.arr_parse.specs.Written.{IsTwo, HasExpression, HasAdded, HasTerm, HasTimes, HasFactor, HasArguments, HasStatement, HasBlock, HasTop, HasDefinition, HaveAll, Has}
use Rattle.arr_parse.specs.IndexSpelling.{sign_symbol, sum_marks, terms_marks, product_marks, factors_marks, factor_marks as index_factor_marks, bracket_marks, second_marks, indices_marks}
use Rattle.arr_parse.specs.Spelling.{expression_marks, added_marks, term_marks, times_marks, factor_marks, further_marks}
use Rattle.arr_parse.specs.ProgramSpelling.{statement_marks, block_marks, dimensions_spelling, input_marks, further_names_marks, parameters_marks, definition_marks, top_marks}
use Rattle.arr_parse.specs.declared.refused.ParseRefused.{ParseRefused}
use Rattle.arr_parse.specs.declared.refused.ParseRefused.TheVariants.{Nesting}
use Rattle.arr_parse.proofs.Due.{refusal-expression, refusal-term, refusal-negation, refusal-index, refusal-index_term}
use Rattle.arr_parse.proofs.Finding.{skipped}
use Rattle.arr_parse.proofs.OneTree.{NoStar, NoSign, terms_no_star}
use Rattle.arr_parse.proofs.OneExpression.{EndsFactor, EndsTerm, EndsExpression, times_end, added_end, further_end}

-- Reading nests too deep, or goes on with other parts and fewer tokens.
abbrev Reads : Lang → ℕ → List Part → List Token → List Part → List Token → Type 0
Reads lang end from tokens to rest = ((at : ℕ) × (refusal lang end from tokens ≡ Some (Nesting at))) ⊎ (refusal lang end from tokens ≡ refusal lang end to rest)

behind : (lang : Lang) (end : ℕ) (a b c : List Part) (xs ys zs : List Token) → Reads lang end a xs b ys → Reads lang end b ys c zs → Reads lang end a xs c zs
behind lang end a b c xs ys zs (inl deep) more = inl deep
behind lang end a b c xs ys zs (inr same) (inl deep) = inl (deep.0, same ∙ deep.1)
behind lang end a b c xs ys zs (inr same) (inr more) = inr (same ∙ more)

-- Reading has come from these parts to those, and these marks are left.
record Passed (source : Source) (from : List Part) (tokens : List Token) (to : List Part) (left : List Mark) : Type 0 where
  rest : List Token
  left_is : map (mark source) rest ≡ left
  reads : Reads source.lang (length source.text) from tokens to rest

on : (source : Source) (a b c : List Part) (tokens : List Token) (m : List Mark) → (first : Passed source a tokens b m) →
    (n : List Mark) → Passed source b first.rest c n → Passed source a tokens c n
on source a b c tokens m first n more = record { rest = more.rest; left_is = more.left_is; reads = behind source.lang (length source.text) a b c tokens first.rest more.rest first.reads more.reads }

begins_alike : (source : Source) (a b c : List Part) (tokens : List Token) (m : List Mark) → refusal source.lang (length source.text) a tokens ≡ refusal source.lang (length source.text) b tokens → Passed source b tokens c m → Passed source a tokens c m
begins_alike source a b c tokens m same passed = record { rest = passed.rest; left_is = passed.left_is; reads = behind source.lang (length source.text) a b c tokens tokens passed.rest (inr same) passed.reads }

stays : (source : Source) (a b : List Part) (tokens : List Token) (m : List Mark) → map (mark source) tokens ≡ m → refusal source.lang (length source.text) a tokens ≡ refusal source.lang (length source.text) b tokens → Passed source a tokens b m
stays source a b tokens m h same = record { rest = tokens; left_is = h; reads = inr same }

abbrev symbol_of : Mark → Symbol
symbol_of (Separator s) = s
symbol_of (Placed at s) = s
symbol_of (Named at number) = symbol.Name

symbol_of_mark : (s : Symbol) (at word : ℕ) → symbol_of (mark_of s at word) ≡ s
symbol_of_mark symbol.Name at word = refl
symbol_of_mark symbol.In at word = refl
symbol_of_mark symbol.Equals at word = refl
symbol_of_mark symbol.Semicolon at word = refl
symbol_of_mark symbol.Comma at word = refl
symbol_of_mark symbol.CloseRound at word = refl
symbol_of_mark symbol.OpenSquare at word = refl
symbol_of_mark symbol.CloseSquare at word = refl
symbol_of_mark symbol.OpenCurly at word = refl
symbol_of_mark symbol.CloseCurly at word = refl
symbol_of_mark symbol.Range at word = refl
symbol_of_mark s at word = refl

symbol_is : (source : Source) (token : Token) (m : Mark) → mark source token ≡ m → token.symbol ≡ symbol_of m
symbol_is source token m is = sym (symbol_of_mark token.symbol token.start (number_at source token)) ∙ ap symbol_of is

-- taking a token opens one level too many, or goes on after it
unless : (lang : Lang) (end at : ℕ) (new : List Part) (tokens : List Token) (r : Option ParseRefused) (b : Bool) → r ≡ (if b then Some (Nesting at) else refusal lang end new tokens) →
    ((at : ℕ) × (r ≡ Some (Nesting at))) ⊎ (r ≡ refusal lang end new tokens)
unless lang end at new tokens r true is = inl (at, is)
unless lang end at new tokens r false is = inr is

-- the first mark's symbol begins a row of the part, which is due after it
step : (source : Source) (part : Part) (due : List Part) (tokens : List Token) (m : Mark) (ms : List Mark) (new : List Part) → row source.lang part (symbol_of m) ≡ Some new →
    map (mark source) tokens ≡ m ∷ ms → Passed source (part ∷ due) tokens (new ++ due) ms
step source part due [] m ms new rowed h = cc
step source part due (token ∷ tokens) m ms new rowed h =
    let is : mark source token ≡ m = cc in
    let left : map (mark source) tokens ≡ ms = cc in
    let at : row source.lang part token.symbol ≡ Some new = ap (row source.lang part) (symbol_is source token m is) ∙ rowed in
    let next : taken source.lang token.symbol (part ∷ due) ≡ Some (new ++ due) = ap (λ r. due_after r due (if may_be_empty part then taken source.lang token.symbol due else None)) at in
    record {
      rest = tokens;
      left_is = left;
      reads = unless source.lang (length source.text) token.start (new ++ due) tokens (refusal source.lang (length source.text) (part ∷ due) (token ∷ tokens)) (nat_lt 64 (levels (new ++ due)))
          (ap (λ n. unless_refused token.start n (λ next. refusal source.lang (length source.text) next tokens)) next);
    }

-- the marks begin no row of a part that may be empty
skips : (source : Source) (part : Part) (due : List Part) (m : List Mark) (Ends : List Mark → Type 0) →
    ((s : Symbol) (at word : ℕ) (ms : List Mark) → Ends (mark_of s at word ∷ ms) → row source.lang part s ≡ None) → may_be_empty part ≡ true → refusal source.lang (length source.text) (part ∷ due) [] ≡ refusal source.lang (length source.text) due [] →
    (tokens : List Token) → Ends m → map (mark source) tokens ≡ m → Passed source (part ∷ due) tokens due m
skips source part due m Ends no_row empty at_end [] ends h = stays source (part ∷ due) due [] m h at_end
skips source part due m Ends no_row empty at_end (token ∷ tokens) ends h =
    let here : Ends (mark source token ∷ map (mark source) tokens) = subst Ends (sym h) ends in
    stays source (part ∷ due) due (token ∷ tokens) m h
    (skipped source.lang (length source.text) part due token tokens (no_row token.symbol token.start (number_at source token) (map (mark source) tokens) here) empty)

no_index_factor : (lang : Lang) (s : Symbol) (at word : ℕ) (ms : List Mark) → NoStar (mark_of s at word ∷ ms) → row lang MoreIndexFactors s ≡ None
no_index_factor lang symbol.Star at word ms ends = absurd ends
no_index_factor lang s at word ms ends = refl

no_index_term : (lang : Lang) (s : Symbol) (at word : ℕ) (ms : List Mark) → NoSign (mark_of s at word ∷ ms) → row lang MoreIndexTerms s ≡ None
no_index_term lang symbol.Plus at word ms ends = absurd ends
no_index_term lang symbol.Minus at word ms ends = absurd ends
no_index_term lang s at word ms ends = refl

no_factor : (lang : Lang) (s : Symbol) (at word : ℕ) (ms : List Mark) → EndsTerm (mark_of s at word ∷ ms) → row lang MoreFactors s ≡ None
no_factor lang symbol.Star at word ms ends = absurd ends
no_factor lang s at word ms ends = refl

no_term : (lang : Lang) (s : Symbol) (at word : ℕ) (ms : List Mark) → EndsExpression (mark_of s at word ∷ ms) → row lang MoreTerms s ≡ None
no_term lang symbol.Plus at word ms ends = absurd ends
no_term lang symbol.Minus at word ms ends = absurd ends
no_term lang s at word ms ends = refl

no_first_index : (lang : Lang) (s : Symbol) (at word : ℕ) (ms : List Mark) → EndsFactor (mark_of s at word ∷ ms) → row lang FirstIndex s ≡ None
no_first_index lang symbol.OpenSquare at word ms ends = absurd ends
no_first_index lang s at word ms ends = refl

no_after_name : (lang : Lang) (s : Symbol) (at word : ℕ) (ms : List Mark) → EndsFactor (mark_of s at word ∷ ms) → row lang AfterName s ≡ None
no_after_name lang symbol.OpenSquare at word ms ends = absurd ends
no_after_name lang symbol.OpenRound at word ms ends = absurd ends
no_after_name lang s at word ms ends = refl

-- marks that go on with the parenthesis that closes a list
abbrev IsClosed : List Mark → Type 0
IsClosed (Separator symbol.CloseRound ∷ marks) = Unit {0}
IsClosed marks = ⊥

no_argument : (lang : Lang) (s : Symbol) (at word : ℕ) (ms : List Mark) → IsClosed (mark_of s at word ∷ ms) → row lang MoreArguments s ≡ None
no_argument lang symbol.Comma at word ms ends = absurd ends
no_argument lang s at word ms ends = refl

no_parameter : (lang : Lang) (left : ℕ) (s : Symbol) (at word : ℕ) (ms : List Mark) → IsClosed (mark_of s at word ∷ ms) → row lang (MoreParameters left) s ≡ None
no_parameter lang left symbol.Comma at word ms ends = absurd ends
no_parameter lang left s at word ms ends = refl

no_second_index : (lang : Lang) (s : Symbol) (at word : ℕ) (ms : List Mark) → EndsFactor (mark_of s at word ∷ ms) → row lang SecondIndex s ≡ None
no_second_index lang symbol.OpenSquare at word ms ends = absurd ends
no_second_index lang s at word ms ends = refl

sign_row : (lang : Lang) (sign : Sign) → row lang MoreIndexTerms (sign_symbol sign) ≡ Some (AnIndexTerm ∷ MoreIndexTerms ∷ [])
sign_row lang PlusSign = refl
sign_row lang MinusSign = refl

-- rows of the second language
call_row : (lang : Lang) → IsTwo lang → row lang AfterName symbol.OpenRound ≡ Some (AnExpression ∷ MoreArguments ∷ The symbol.CloseRound ∷ [])
call_row One two = absurd two
call_row Two two = refl

abbrev definition_parts : List Part
definition_parts = AName ∷ Parameters ∷ The symbol.Equals ∷ AnExpression ∷ The symbol.Semicolon ∷ Definitions ∷ []

definition_row : (lang : Lang) → IsTwo lang → row lang Definitions symbol.Def ≡ Some definition_parts
definition_row One two = absurd two
definition_row Two two = refl

first_definition_row : (lang : Lang) → IsTwo lang → row lang Inputs symbol.Def ≡ Some definition_parts
first_definition_row One two = absurd two
first_definition_row Two two = refl

term_row : (lang : Lang) (sign : Sign) → row lang MoreTerms (sign_symbol sign) ≡ Some (ATerm ∷ MoreTerms ∷ [])
term_row lang PlusSign = refl
term_row lang MinusSign = refl

mutual
  reads_sum : (source : Source) (e : index.Sum) (due : List Part) (tokens : List Token) (m : List Mark) → NoSign m → map (mark source) tokens ≡ sum_marks e ++ m → Passed source (AnIndex ∷ due) tokens due m
  reads_sum source (index.SumOf first added) due tokens m ends h =
      let a = reads_product source first (MoreIndexTerms ∷ due) tokens (terms_marks added ++ m) (terms_no_star added m ends) (h ∙ append_assoc (product_marks first) (terms_marks added) m) in
      let b = reads_terms source added due a.rest m ends a.left_is in
      begins_alike source (AnIndex ∷ due) (AnIndexTerm ∷ (MoreIndexTerms ∷ due)) due tokens m (refusal-index source.lang (length source.text) due tokens)
      (on source (AnIndexTerm ∷ (MoreIndexTerms ∷ due)) (MoreIndexTerms ∷ due) due tokens (terms_marks added ++ m) a m b)

  reads_terms : (source : Source) (e : index.Terms) (due : List Part) (tokens : List Token) (m : List Mark) → NoSign m → map (mark source) tokens ≡ terms_marks e ++ m → Passed source (MoreIndexTerms ∷ due) tokens due m
  reads_terms source index.NoTerm due tokens m ends h = skips source MoreIndexTerms due m NoSign (no_index_term source.lang) refl refl tokens ends h
  reads_terms source (index.Term sign at term rest) due tokens m ends h =
      let behind : List Mark = (product_marks term ++ terms_marks rest) ++ m in
      let a = step source MoreIndexTerms due tokens (Placed at (sign_symbol sign)) behind (AnIndexTerm ∷ MoreIndexTerms ∷ []) (sign_row source.lang sign) h in
      let b = reads_product source term (MoreIndexTerms ∷ due) a.rest (terms_marks rest ++ m) (terms_no_star rest m ends) (a.left_is ∙ append_assoc (product_marks term) (terms_marks rest) m) in
      let c = reads_terms source rest due b.rest m ends b.left_is in
      on source (MoreIndexTerms ∷ due) (AnIndexTerm ∷ (MoreIndexTerms ∷ due)) due tokens behind a m
      (on source (AnIndexTerm ∷ (MoreIndexTerms ∷ due)) (MoreIndexTerms ∷ due) due a.rest (terms_marks rest ++ m) b m c)

  reads_product : (source : Source) (e : index.Product) (due : List Part) (tokens : List Token) (m : List Mark) → NoStar m → map (mark source) tokens ≡ product_marks e ++ m → Passed source (AnIndexTerm ∷ due) tokens due m
  reads_product source (index.ProductOf first times) due tokens m ends h =
      let a = reads_index_factor source first (MoreIndexFactors ∷ due) tokens (factors_marks times ++ m) (h ∙ append_assoc (index_factor_marks first) (factors_marks times) m) in
      let b = reads_factors source times due a.rest m ends a.left_is in
      begins_alike source (AnIndexTerm ∷ due) (AnIndexFactor ∷ (MoreIndexFactors ∷ due)) due tokens m (refusal-index_term source.lang (length source.text) due tokens)
      (on source (AnIndexFactor ∷ (MoreIndexFactors ∷ due)) (MoreIndexFactors ∷ due) due tokens (factors_marks times ++ m) a m b)

  reads_factors : (source : Source) (e : index.Factors) (due : List Part) (tokens : List Token) (m : List Mark) → NoStar m → map (mark source) tokens ≡ factors_marks e ++ m → Passed source (MoreIndexFactors ∷ due) tokens due m
  reads_factors source index.NoFactor due tokens m ends h = skips source MoreIndexFactors due m NoStar (no_index_factor source.lang) refl refl tokens ends h
  reads_factors source (index.Times at factor rest) due tokens m ends h =
      let behind : List Mark = (index_factor_marks factor ++ factors_marks rest) ++ m in
      let a = step source MoreIndexFactors due tokens (Placed at symbol.Star) behind (AnIndexFactor ∷ MoreIndexFactors ∷ []) refl h in
      let b = reads_index_factor source factor (MoreIndexFactors ∷ due) a.rest (factors_marks rest ++ m) (a.left_is ∙ append_assoc (index_factor_marks factor) (factors_marks rest) m) in
      let c = reads_factors source rest due b.rest m ends b.left_is in
      on source (MoreIndexFactors ∷ due) (AnIndexFactor ∷ (MoreIndexFactors ∷ due)) due tokens behind a m
      (on source (AnIndexFactor ∷ (MoreIndexFactors ∷ due)) (MoreIndexFactors ∷ due) due a.rest (factors_marks rest ++ m) b m c)

  reads_index_factor : (source : Source) (e : index.Factor) (due : List Part) (tokens : List Token) (m : List Mark) → map (mark source) tokens ≡ index_factor_marks e ++ m → Passed source (AnIndexFactor ∷ due) tokens due m
  reads_index_factor source (index.Number at value) due tokens m h = step source AnIndexFactor due tokens (Placed at (symbol.Number value)) m [] refl h
  reads_index_factor source (index.Name at word) due tokens m h = step source AnIndexFactor due tokens (Named at word) m [] refl h
  reads_index_factor source (index.Parenthesized at inner) due tokens m h =
      let shut : List Mark = Separator symbol.CloseRound ∷ [] in
      let a = step source AnIndexFactor due tokens (Placed at symbol.OpenRound) ((sum_marks inner ++ shut) ++ m) (AnIndex ∷ The symbol.CloseRound ∷ []) refl h in
      let b = reads_sum source inner (The symbol.CloseRound ∷ due) a.rest (shut ++ m) tt (a.left_is ∙ append_assoc (sum_marks inner) shut m) in
      let c = step source (The symbol.CloseRound) due b.rest (Separator symbol.CloseRound) m [] refl b.left_is in
      on source (AnIndexFactor ∷ due) (AnIndex ∷ The symbol.CloseRound ∷ due) due tokens ((sum_marks inner ++ shut) ++ m) a m
      (on source (AnIndex ∷ The symbol.CloseRound ∷ due) (The symbol.CloseRound ∷ due) due a.rest (shut ++ m) b m c)

-- an index and the bracket that closes it
reads_closed : (source : Source) (e : index.Sum) (due : List Part) (tokens : List Token) (m : List Mark) → map (mark source) tokens ≡ (sum_marks e ++ Separator symbol.CloseSquare ∷ []) ++ m →
    Passed source (AnIndex ∷ The symbol.CloseSquare ∷ due) tokens due m
reads_closed source e due tokens m h =
    let shut : List Mark = Separator symbol.CloseSquare ∷ [] in
    let b = reads_sum source e (The symbol.CloseSquare ∷ due) tokens (shut ++ m) tt (h ∙ append_assoc (sum_marks e) shut m) in
    let c = step source (The symbol.CloseSquare) due b.rest (Separator symbol.CloseSquare) m [] refl b.left_is in
    on source (AnIndex ∷ The symbol.CloseSquare ∷ due) (The symbol.CloseSquare ∷ due) due tokens (shut ++ m) b m c

reads_second : (source : Source) (e : Option index.Sum) (due : List Part) (tokens : List Token) (m : List Mark) → EndsFactor m → map (mark source) tokens ≡ second_marks e ++ m → Passed source (SecondIndex ∷ due) tokens due m
reads_second source None due tokens m ends h = skips source SecondIndex due m EndsFactor (no_second_index source.lang) refl refl tokens ends h
reads_second source (Some e) due tokens m ends h =
    let behind : List Mark = (sum_marks e ++ Separator symbol.CloseSquare ∷ []) ++ m in
    let a = step source SecondIndex due tokens (Separator symbol.OpenSquare) behind (AnIndex ∷ The symbol.CloseSquare ∷ []) refl h in
    on source (SecondIndex ∷ due) (AnIndex ∷ The symbol.CloseSquare ∷ due) due tokens behind a m (reads_closed source e due a.rest m a.left_is)

-- the indices of an element or a target, where a part begins with them
reads_indices : (source : Source) (part : Part) → row source.lang part symbol.OpenSquare ≡ Some (AnIndex ∷ The symbol.CloseSquare ∷ SecondIndex ∷ []) → (e : IndicesTree) (due : List Part) (tokens : List Token) (m : List Mark) → EndsFactor m → map (mark source) tokens ≡ indices_marks e ++ m → Passed source (part ∷ due) tokens due m
reads_indices source part rowed e due tokens m ends h =
    let first : List Mark = sum_marks e.first ++ Separator symbol.CloseSquare ∷ [] in
    let behind : List Mark = first ++ (second_marks e.second ++ m) in
    let a = step source part due tokens (Separator symbol.OpenSquare) behind (AnIndex ∷ The symbol.CloseSquare ∷ SecondIndex ∷ []) rowed (h ∙ append_assoc (bracket_marks e.first) (second_marks e.second) m) in
    let b = reads_closed source e.first (SecondIndex ∷ due) a.rest (second_marks e.second ++ m) a.left_is in
    let c = reads_second source e.second due b.rest m ends b.left_is in
    on source (part ∷ due) (AnIndex ∷ The symbol.CloseSquare ∷ SecondIndex ∷ due) due tokens behind a m
    (on source (AnIndex ∷ The symbol.CloseSquare ∷ SecondIndex ∷ due) (SecondIndex ∷ due) due a.rest (second_marks e.second ++ m) b m c)

-- an expression is read whatever is due after it
abbrev ReadsExpression : Source → ExpressionTree → Type 0
ReadsExpression source e = (due : List Part) (tokens : List Token) (m : List Mark) → EndsExpression m → map (mark source) tokens ≡ expression_marks e ++ m → Passed source (AnExpression ∷ due) tokens due m

-- an expression up to a separator
reads_ended : (source : Source) (e : ExpressionTree) → ReadsExpression source e → (s : Symbol) (due : List Part) (tokens : List Token) (m : List Mark) → row source.lang (The s) s ≡ Some [] → EndsExpression (Separator s ∷ m) →
    map (mark source) tokens ≡ (expression_marks e ++ Separator s ∷ []) ++ m → Passed source (AnExpression ∷ The s ∷ due) tokens due m
reads_ended source e reads s due tokens m rowed ends h =
    let shut : List Mark = Separator s ∷ [] in
    let b = reads (The s ∷ due) tokens (shut ++ m) ends (h ∙ append_assoc (expression_marks e) shut m) in
    let c = step source (The s) due b.rest (Separator s) m [] rowed b.left_is in
    on source (AnExpression ∷ The s ∷ due) (The s ∷ due) due tokens (shut ++ m) b m c

reads_single : (source : Source) (parenthesis : ℕ) (e : ExpressionTree) → ReadsExpression source e → (due : List Part) (tokens : List Token) (m : List Mark) →
    map (mark source) tokens ≡ Placed parenthesis symbol.OpenRound ∷ ((expression_marks e ++ Separator symbol.CloseRound ∷ []) ++ m) → Passed source (OneArgument ∷ due) tokens due m
reads_single source parenthesis e reads due tokens m h =
    let behind : List Mark = (expression_marks e ++ Separator symbol.CloseRound ∷ []) ++ m in
    let a = step source OneArgument due tokens (Placed parenthesis symbol.OpenRound) behind (AnExpression ∷ The symbol.CloseRound ∷ []) refl h in
    on source (OneArgument ∷ due) (AnExpression ∷ The symbol.CloseRound ∷ due) due tokens behind a m (reads_ended source e reads symbol.CloseRound due a.rest m refl tt a.left_is)

abbrev pair_tail : ExpressionTree → List Mark
pair_tail right = expression_marks right ++ Separator symbol.CloseRound ∷ []

reads_pair : (source : Source) (parenthesis : ℕ) (left right : ExpressionTree) → ReadsExpression source left → ReadsExpression source right → (due : List Part) (tokens : List Token) (m : List Mark) →
    map (mark source) tokens ≡ Placed parenthesis symbol.OpenRound ∷ ((expression_marks left ++ (Separator symbol.Comma ∷ pair_tail right)) ++ m) → Passed source (TwoArguments ∷ due) tokens due m
reads_pair source parenthesis left right reads_left reads_right due tokens m h =
    let tail : List Mark = pair_tail right in
    let comma : List Mark = Separator symbol.Comma ∷ [] in
    let behind : List Mark = (expression_marks left ++ (Separator symbol.Comma ∷ tail)) ++ m in
    let a = step source TwoArguments due tokens (Placed parenthesis symbol.OpenRound) behind (AnExpression ∷ The symbol.Comma ∷ AnExpression ∷ The symbol.CloseRound ∷ []) refl h in
    let second : List Part = AnExpression ∷ The symbol.CloseRound ∷ due in
    let split : behind ≡ (expression_marks left ++ comma) ++ (tail ++ m) =
    append_assoc (expression_marks left) (Separator symbol.Comma ∷ tail) m ∙ sym (append_assoc (expression_marks left) comma (tail ++ m)) in
    let b = reads_ended source left reads_left symbol.Comma second a.rest (tail ++ m) refl tt (a.left_is ∙ split) in
    let c = reads_ended source right reads_right symbol.CloseRound due b.rest m refl tt b.left_is in
    on source (TwoArguments ∷ due) (AnExpression ∷ The symbol.Comma ∷ second) due tokens behind a m
    (on source (AnExpression ∷ The symbol.Comma ∷ second) second due a.rest (tail ++ m) b m c)

mutual
  reads_expression : (source : Source) (e : ExpressionTree) → HasExpression source.lang e → (due : List Part) (tokens : List Token) (m : List Mark) → EndsExpression m → map (mark source) tokens ≡ expression_marks e ++ m → Passed source (AnExpression ∷ due) tokens due m
  reads_expression source (ExpressionOf first added) has due tokens m ends h =
      let a = reads_term source first has.0 (MoreTerms ∷ due) tokens (added_marks added ++ m) (added_end added m ends) (h ∙ append_assoc (term_marks first) (added_marks added) m) in
      let b = reads_added source added has.1 due a.rest m ends a.left_is in
      begins_alike source (AnExpression ∷ due) (ATerm ∷ (MoreTerms ∷ due)) due tokens m (refusal-expression source.lang (length source.text) due tokens)
      (on source (ATerm ∷ (MoreTerms ∷ due)) (MoreTerms ∷ due) due tokens (added_marks added ++ m) a m b)

  reads_added : (source : Source) (e : AddedTree) → HasAdded source.lang e → (due : List Part) (tokens : List Token) (m : List Mark) → EndsExpression m → map (mark source) tokens ≡ added_marks e ++ m → Passed source (MoreTerms ∷ due) tokens due m
  reads_added source NoTerm has due tokens m ends h = skips source MoreTerms due m EndsExpression (no_term source.lang) refl refl tokens ends h
  reads_added source (Added sign at term rest) has due tokens m ends h =
      let behind : List Mark = (term_marks term ++ added_marks rest) ++ m in
      let a = step source MoreTerms due tokens (Placed at (sign_symbol sign)) behind (ATerm ∷ MoreTerms ∷ []) (term_row source.lang sign) h in
      let b = reads_term source term has.0 (MoreTerms ∷ due) a.rest (added_marks rest ++ m) (added_end rest m ends) (a.left_is ∙ append_assoc (term_marks term) (added_marks rest) m) in
      let c = reads_added source rest has.1 due b.rest m ends b.left_is in
      on source (MoreTerms ∷ due) (ATerm ∷ (MoreTerms ∷ due)) due tokens behind a m
      (on source (ATerm ∷ (MoreTerms ∷ due)) (MoreTerms ∷ due) due a.rest (added_marks rest ++ m) b m c)

  reads_term : (source : Source) (e : TermTree) → HasTerm source.lang e → (due : List Part) (tokens : List Token) (m : List Mark) → EndsTerm m → map (mark source) tokens ≡ term_marks e ++ m → Passed source (ATerm ∷ due) tokens due m
  reads_term source (TermOf first times) has due tokens m ends h =
      let a = reads_factor source first has.0 (MoreFactors ∷ due) tokens (times_marks times ++ m) (times_end times m ends) (h ∙ append_assoc (factor_marks first) (times_marks times) m) in
      let b = reads_times source times has.1 due a.rest m ends a.left_is in
      begins_alike source (ATerm ∷ due) (AFactor ∷ (MoreFactors ∷ due)) due tokens m (refusal-term source.lang (length source.text) due tokens)
      (on source (AFactor ∷ (MoreFactors ∷ due)) (MoreFactors ∷ due) due tokens (times_marks times ++ m) a m b)

  reads_times : (source : Source) (e : TimesTree) → HasTimes source.lang e → (due : List Part) (tokens : List Token) (m : List Mark) → EndsTerm m → map (mark source) tokens ≡ times_marks e ++ m → Passed source (MoreFactors ∷ due) tokens due m
  reads_times source NoFactor has due tokens m ends h = skips source MoreFactors due m EndsTerm (no_factor source.lang) refl refl tokens ends h
  reads_times source (Times at factor rest) has due tokens m ends h =
      let behind : List Mark = (factor_marks factor ++ times_marks rest) ++ m in
      let a = step source MoreFactors due tokens (Placed at symbol.Star) behind (AFactor ∷ MoreFactors ∷ []) refl h in
      let b = reads_factor source factor has.0 (MoreFactors ∷ due) a.rest (times_marks rest ++ m) (times_end rest m ends) (a.left_is ∙ append_assoc (factor_marks factor) (times_marks rest) m) in
      let c = reads_times source rest has.1 due b.rest m ends b.left_is in
      on source (MoreFactors ∷ due) (AFactor ∷ (MoreFactors ∷ due)) due tokens behind a m
      (on source (AFactor ∷ (MoreFactors ∷ due)) (MoreFactors ∷ due) due a.rest (times_marks rest ++ m) b m c)

  reads_factor : (source : Source) (e : FactorTree) → HasFactor source.lang e → (due : List Part) (tokens : List Token) (m : List Mark) → EndsFactor m → map (mark source) tokens ≡ factor_marks e ++ m → Passed source (AFactor ∷ due) tokens due m
  reads_factor source (Number at value) has due tokens m ends h = step source AFactor due tokens (Placed at (symbol.Number value)) m [] refl h
  reads_factor source (Name name) has due tokens m ends h =
      let a = step source AFactor due tokens (Named name.at name.number) m (AfterName ∷ []) refl h in
      on source (AFactor ∷ due) (AfterName ∷ due) due tokens m a m (skips source AfterName due m EndsFactor (no_after_name source.lang) refl refl a.rest ends a.left_is)
  reads_factor source (Element name indices) has due tokens m ends h =
      let a = step source AFactor due tokens (Named name.at name.number) (indices_marks indices ++ m) (AfterName ∷ []) refl h in
      on source (AFactor ∷ due) (AfterName ∷ due) due tokens (indices_marks indices ++ m) a m (reads_indices source AfterName refl indices due a.rest m ends a.left_is)
  reads_factor source (Negation at operand) has due tokens m ends h =
      let a = step source AFactor due tokens (Placed at symbol.Minus) (factor_marks operand ++ m) (AFactor ∷ EndOfNegation ∷ []) refl h in
      let b = reads_factor source operand has (EndOfNegation ∷ due) a.rest m ends a.left_is in
      let c = stays source (EndOfNegation ∷ due) due b.rest m b.left_is (refusal-negation source.lang (length source.text) due b.rest) in
      on source (AFactor ∷ due) (AFactor ∷ EndOfNegation ∷ due) due tokens (factor_marks operand ++ m) a m
      (on source (AFactor ∷ EndOfNegation ∷ due) (EndOfNegation ∷ due) due a.rest m b m c)
  reads_factor source (Parenthesized at inner) has due tokens m ends h =
      let behind : List Mark = (expression_marks inner ++ Separator symbol.CloseRound ∷ []) ++ m in
      let a = step source AFactor due tokens (Placed at symbol.OpenRound) behind (AnExpression ∷ The symbol.CloseRound ∷ []) refl h in
      on source (AFactor ∷ due) (AnExpression ∷ The symbol.CloseRound ∷ due) due tokens behind a m (reads_ended source inner (reads_expression source inner has) symbol.CloseRound due a.rest m refl tt a.left_is)
  reads_factor source (Single SumWord at parenthesis argument) has due tokens m ends h =
      let behind : List Mark = Placed parenthesis symbol.OpenRound ∷ ((expression_marks argument ++ Separator symbol.CloseRound ∷ []) ++ m) in
      let a = step source AFactor due tokens (Placed at symbol.Sum) behind (OneArgument ∷ []) refl h in
      on source (AFactor ∷ due) (OneArgument ∷ due) due tokens behind a m (reads_single source parenthesis argument (reads_expression source argument has) due a.rest m a.left_is)
  reads_factor source (Single Transpose at parenthesis argument) has due tokens m ends h =
      let behind : List Mark = Placed parenthesis symbol.OpenRound ∷ ((expression_marks argument ++ Separator symbol.CloseRound ∷ []) ++ m) in
      let a = step source AFactor due tokens (Placed at symbol.Transpose) behind (OneArgument ∷ []) refl h in
      on source (AFactor ∷ due) (OneArgument ∷ due) due tokens behind a m (reads_single source parenthesis argument (reads_expression source argument has) due a.rest m a.left_is)
  reads_factor source (Pair Scale at parenthesis left right) has due tokens m ends h =
      let behind : List Mark = Placed parenthesis symbol.OpenRound ∷ ((expression_marks left ++ (Separator symbol.Comma ∷ pair_tail right)) ++ m) in
      let a = step source AFactor due tokens (Placed at symbol.Scale) behind (TwoArguments ∷ []) refl h in
      on source (AFactor ∷ due) (TwoArguments ∷ due) due tokens behind a m (reads_pair source parenthesis left right (reads_expression source left has.0) (reads_expression source right has.1) due a.rest m a.left_is)
  reads_factor source (Pair Dot at parenthesis left right) has due tokens m ends h =
      let behind : List Mark = Placed parenthesis symbol.OpenRound ∷ ((expression_marks left ++ (Separator symbol.Comma ∷ pair_tail right)) ++ m) in
      let a = step source AFactor due tokens (Placed at symbol.Dot) behind (TwoArguments ∷ []) refl h in
      on source (AFactor ∷ due) (TwoArguments ∷ due) due tokens behind a m (reads_pair source parenthesis left right (reads_expression source left has.0) (reads_expression source right has.1) due a.rest m a.left_is)
  reads_factor source (Pair MatMul at parenthesis left right) has due tokens m ends h =
      let behind : List Mark = Placed parenthesis symbol.OpenRound ∷ ((expression_marks left ++ (Separator symbol.Comma ∷ pair_tail right)) ++ m) in
      let a = step source AFactor due tokens (Placed at symbol.MatMul) behind (TwoArguments ∷ []) refl h in
      on source (AFactor ∷ due) (TwoArguments ∷ due) due tokens behind a m (reads_pair source parenthesis left right (reads_expression source left has.0) (reads_expression source right has.1) due a.rest m a.left_is)
  reads_factor source (Call name parenthesis first further) has due tokens m ends h =
      let shut : List Mark = Separator symbol.CloseRound ∷ [] in
      let inside : List Mark = expression_marks first ++ (further_marks further ++ shut) in
      let call : List Mark = Placed parenthesis symbol.OpenRound ∷ (inside ++ m) in
      let more : List Mark = further_marks further ++ (shut ++ m) in
      let p : List Part = MoreArguments ∷ The symbol.CloseRound ∷ due in
      let a = step source AFactor due tokens (Named name.at name.number) call (AfterName ∷ []) refl h in
      let b = step source AfterName due a.rest (Placed parenthesis symbol.OpenRound) (inside ++ m) (AnExpression ∷ MoreArguments ∷ The symbol.CloseRound ∷ []) (call_row source.lang has.0) a.left_is in
      let split : inside ++ m ≡ expression_marks first ++ more =
      append_assoc (expression_marks first) (further_marks further ++ shut) m ∙ ap (λ ms. expression_marks first ++ ms) (append_assoc (further_marks further) shut m) in
      let c = reads_expression source first has.1 p b.rest more (further_end further m) (b.left_is ∙ split) in
      let d = reads_further source further has.2 due c.rest m c.left_is in
      on source (AFactor ∷ due) (AfterName ∷ due) due tokens call a m
      (on source (AfterName ∷ due) (AnExpression ∷ p) due a.rest (inside ++ m) b m
      (on source (AnExpression ∷ p) p due b.rest more c m d))

  -- the arguments after the first, and the parenthesis that closes them
  reads_further : (source : Source) (e : ArgumentsTree) → HasArguments source.lang e → (due : List Part) (tokens : List Token) (m : List Mark) → map (mark source) tokens ≡ further_marks e ++ (Separator symbol.CloseRound ∷ m) →
      Passed source (MoreArguments ∷ The symbol.CloseRound ∷ due) tokens due m
  reads_further source NoArgument has due tokens m h =
      let shut : List Mark = Separator symbol.CloseRound ∷ m in
      let a = skips source MoreArguments (The symbol.CloseRound ∷ due) shut IsClosed (no_argument source.lang) refl refl tokens tt h in
      let b = step source (The symbol.CloseRound) due a.rest (Separator symbol.CloseRound) m [] refl a.left_is in
      on source (MoreArguments ∷ The symbol.CloseRound ∷ due) (The symbol.CloseRound ∷ due) due tokens shut a m b
  reads_further source (Argument argument rest) has due tokens m h =
      let shut : List Mark = Separator symbol.CloseRound ∷ m in
      let behind : List Mark = (expression_marks argument ++ further_marks rest) ++ shut in
      let p : List Part = MoreArguments ∷ The symbol.CloseRound ∷ due in
      let a = step source MoreArguments (The symbol.CloseRound ∷ due) tokens (Separator symbol.Comma) behind (AnExpression ∷ MoreArguments ∷ []) refl h in
      let b = reads_expression source argument has.0 p a.rest (further_marks rest ++ shut) (further_end rest m) (a.left_is ∙ append_assoc (expression_marks argument) (further_marks rest) shut) in
      let c = reads_further source rest has.1 due b.rest m b.left_is in
      on source p (AnExpression ∷ p) due tokens behind a m
      (on source (AnExpression ∷ p) p due a.rest (further_marks rest ++ shut) b m c)

-- `= e ;`
abbrev value_marks : ExpressionTree → List Mark
value_marks value = Separator symbol.Equals ∷ (expression_marks value ++ Separator symbol.Semicolon ∷ [])

reads_value : (source : Source) (e : ExpressionTree) → HasExpression source.lang e → (due : List Part) (tokens : List Token) (m : List Mark) → map (mark source) tokens ≡ value_marks e ++ m →
    Passed source (The symbol.Equals ∷ AnExpression ∷ The symbol.Semicolon ∷ due) tokens due m
reads_value source e has due tokens m h =
    let behind : List Mark = (expression_marks e ++ Separator symbol.Semicolon ∷ []) ++ m in
    let next : List Part = AnExpression ∷ The symbol.Semicolon ∷ due in
    let a = step source (The symbol.Equals) next tokens (Separator symbol.Equals) behind [] refl h in
    on source (The symbol.Equals ∷ next) next due tokens behind a m (reads_ended source e (reads_expression source e has) symbol.Semicolon due a.rest m refl tt a.left_is)

-- marks that go on with the end of a block
abbrev IsShut : List Mark → Type 0
IsShut (Separator symbol.CloseCurly ∷ marks) = Unit {0}
IsShut marks = ⊥

no_statement : (lang : Lang) (s : Symbol) (at word : ℕ) (ms : List Mark) → IsShut (mark_of s at word ∷ ms) → row lang Statements s ≡ None
no_statement lang symbol.Let at word ms ends = absurd ends
no_statement lang symbol.Name at word ms ends = absurd ends
no_statement lang symbol.For at word ms ends = absurd ends
no_statement lang s at word ms ends = refl

-- A part that begins with a statement, and what is due after that.
record Begins (lang : Lang) (part next : Part) : Type 0 where
  is_let : row lang part symbol.Let ≡ Some (AName ∷ The symbol.Equals ∷ AnExpression ∷ The symbol.Semicolon ∷ next ∷ [])
  is_set : row lang part symbol.Name ≡ Some (FirstIndex ∷ The symbol.Equals ∷ AnExpression ∷ The symbol.Semicolon ∷ next ∷ [])
  is_for : row lang part symbol.For ≡ Some (AName ∷ The symbol.In ∷ AnIndex ∷ The symbol.Range ∷ AnIndex ∷ Block ∷ next ∷ [])

inner_begins : (lang : Lang) → Begins lang Statements Statements
inner_begins lang = record { is_let = refl; is_set = refl; is_for = refl }

top_begins : (lang : Lang) → Begins lang TopStatements TopStatements
top_begins lang = record { is_let = refl; is_set = refl; is_for = refl }

first_begins : (lang : Lang) → Begins lang Inputs TopStatements
first_begins lang = record { is_let = refl; is_set = refl; is_for = refl }

mutual
  reads_statement : (source : Source) (part next : Part) → Begins source.lang part next → (e : StatementTree) → HasStatement source.lang e → (due : List Part) (tokens : List Token) (m : List Mark) → map (mark source) tokens ≡ statement_marks e ++ m →
      Passed source (part ∷ due) tokens (next ∷ due) m
  reads_statement source part next begins (Let at name value) has due tokens m h =
      let p : List Part = The symbol.Equals ∷ AnExpression ∷ The symbol.Semicolon ∷ next ∷ due in
      let after_let : List Mark = Named name.at name.number ∷ (value_marks value ++ m) in
      let a = step source part due tokens (Placed at symbol.Let) after_let (AName ∷ The symbol.Equals ∷ AnExpression ∷ The symbol.Semicolon ∷ next ∷ []) begins.is_let h in
      let b = step source AName p a.rest (Named name.at name.number) (value_marks value ++ m) [] refl a.left_is in
      let c = reads_value source value has (next ∷ due) b.rest m b.left_is in
      on source (part ∷ due) (AName ∷ p) (next ∷ due) tokens after_let a m
      (on source (AName ∷ p) p (next ∷ due) a.rest (value_marks value ++ m) b m c)
  reads_statement source part next begins (Set name value) has due tokens m h =
      let p : List Part = The symbol.Equals ∷ AnExpression ∷ The symbol.Semicolon ∷ next ∷ due in
      let a = step source part due tokens (Named name.at name.number) (value_marks value ++ m) (FirstIndex ∷ The symbol.Equals ∷ AnExpression ∷ The symbol.Semicolon ∷ next ∷ []) begins.is_set h in
      let b = skips source FirstIndex p (value_marks value ++ m) EndsFactor (no_first_index source.lang) refl refl a.rest tt a.left_is in
      let c = reads_value source value has (next ∷ due) b.rest m b.left_is in
      on source (part ∷ due) (FirstIndex ∷ p) (next ∷ due) tokens (value_marks value ++ m) a m
      (on source (FirstIndex ∷ p) p (next ∷ due) a.rest (value_marks value ++ m) b m c)
  reads_statement source part next begins (SetElement name indices value) has due tokens m h =
      let p : List Part = The symbol.Equals ∷ AnExpression ∷ The symbol.Semicolon ∷ next ∷ due in
      let behind : List Mark = (indices_marks indices ++ value_marks value) ++ m in
      let a = step source part due tokens (Named name.at name.number) behind (FirstIndex ∷ The symbol.Equals ∷ AnExpression ∷ The symbol.Semicolon ∷ next ∷ []) begins.is_set h in
      let b = reads_indices source FirstIndex refl indices p a.rest (value_marks value ++ m) tt (a.left_is ∙ append_assoc (indices_marks indices) (value_marks value) m) in
      let c = reads_value source value has (next ∷ due) b.rest m b.left_is in
      on source (part ∷ due) (FirstIndex ∷ p) (next ∷ due) tokens behind a m
      (on source (FirstIndex ∷ p) p (next ∷ due) a.rest (value_marks value ++ m) b m c)
  reads_statement source part next begins (For at name low high body) has due tokens m h =
      let block : List Mark = block_marks body ++ Separator symbol.CloseCurly ∷ [] in
      let upper : List Mark = sum_marks high ++ (Separator symbol.OpenCurly ∷ block) in
      let lower : List Mark = sum_marks low ++ (Separator symbol.Range ∷ upper) in
      let p_block : List Part = Block ∷ next ∷ due in
      let p_high : List Part = AnIndex ∷ p_block in
      let p_range : List Part = The symbol.Range ∷ p_high in
      let p_low : List Part = AnIndex ∷ p_range in
      let p_in : List Part = The symbol.In ∷ p_low in
      let m_name : List Mark = Named name.at name.number ∷ (Separator symbol.In ∷ (lower ++ m)) in
      let m_in : List Mark = Separator symbol.In ∷ (lower ++ m) in
      let m_low : List Mark = Separator symbol.Range ∷ (upper ++ m) in
      let m_high : List Mark = Separator symbol.OpenCurly ∷ (block ++ m) in
      let a = step source part due tokens (Placed at symbol.For) m_name (AName ∷ The symbol.In ∷ AnIndex ∷ The symbol.Range ∷ AnIndex ∷ Block ∷ next ∷ []) begins.is_for h in
      let b = step source AName p_in a.rest (Named name.at name.number) m_in [] refl a.left_is in
      let c = step source (The symbol.In) p_low b.rest (Separator symbol.In) (lower ++ m) [] refl b.left_is in
      let d = reads_sum source low p_range c.rest m_low tt (c.left_is ∙ append_assoc (sum_marks low) (Separator symbol.Range ∷ upper) m) in
      let e = step source (The symbol.Range) p_high d.rest (Separator symbol.Range) (upper ++ m) [] refl d.left_is in
      let f = reads_sum source high p_block e.rest m_high tt (e.left_is ∙ append_assoc (sum_marks high) (Separator symbol.OpenCurly ∷ block) m) in
      let g = step source Block (next ∷ due) f.rest (Separator symbol.OpenCurly) (block ++ m) (Statements ∷ The symbol.CloseCurly ∷ []) refl f.left_is in
      let i = reads_block source body has (next ∷ due) g.rest m (g.left_is ∙ append_assoc (block_marks body) (Separator symbol.CloseCurly ∷ []) m) in
      on source (part ∷ due) (AName ∷ p_in) (next ∷ due) tokens m_name a m
      (on source (AName ∷ p_in) p_in (next ∷ due) a.rest m_in b m
      (on source p_in p_low (next ∷ due) b.rest (lower ++ m) c m
      (on source p_low p_range (next ∷ due) c.rest m_low d m
      (on source p_range p_high (next ∷ due) d.rest (upper ++ m) e m
      (on source p_high p_block (next ∷ due) e.rest m_high f m
      (on source p_block (Statements ∷ The symbol.CloseCurly ∷ next ∷ due) (next ∷ due) f.rest (block ++ m) g m i))))))

  -- the statements of a block, and the bracket that closes it
  reads_block : (source : Source) (e : BlockTree) → HasBlock source.lang e → (due : List Part) (tokens : List Token) (m : List Mark) → map (mark source) tokens ≡ block_marks e ++ (Separator symbol.CloseCurly ∷ m) →
      Passed source (Statements ∷ The symbol.CloseCurly ∷ due) tokens due m
  reads_block source EndOfBlock has due tokens m h =
      let shut : List Mark = Separator symbol.CloseCurly ∷ m in
      let a = skips source Statements (The symbol.CloseCurly ∷ due) shut IsShut (no_statement source.lang) refl refl tokens tt h in
      let b = step source (The symbol.CloseCurly) due a.rest (Separator symbol.CloseCurly) m [] refl a.left_is in
      on source (Statements ∷ The symbol.CloseCurly ∷ due) (The symbol.CloseCurly ∷ due) due tokens shut a m b
  reads_block source (Then statement rest) has due tokens m h =
      let shut : List Mark = Separator symbol.CloseCurly ∷ m in
      let p : List Part = The symbol.CloseCurly ∷ due in
      let a = reads_statement source Statements Statements (inner_begins source.lang) statement has.0 p tokens (block_marks rest ++ shut) (h ∙ append_assoc (statement_marks statement) (block_marks rest) shut) in
      let b = reads_block source rest has.1 due a.rest m a.left_is in
      on source (Statements ∷ p) (Statements ∷ p) due tokens (block_marks rest ++ shut) a m b

reads_top : (source : Source) (part : Part) → Begins source.lang part TopStatements → row source.lang part symbol.Output ≡ Some (AnExpression ∷ The symbol.Semicolon ∷ TopStatements ∷ []) → (e : TopTree) → HasTop source.lang e → (tokens : List Token) (m : List Mark) →
    map (mark source) tokens ≡ top_marks e ++ m → Passed source (part ∷ []) tokens (TopStatements ∷ []) m
reads_top source part begins rowed (Output at value) has tokens m h =
    let behind : List Mark = (expression_marks value ++ Separator symbol.Semicolon ∷ []) ++ m in
    let a = step source part [] tokens (Placed at symbol.Output) behind (AnExpression ∷ The symbol.Semicolon ∷ TopStatements ∷ []) rowed h in
    on source (part ∷ []) (AnExpression ∷ The symbol.Semicolon ∷ TopStatements ∷ []) (TopStatements ∷ []) tokens behind a m
    (reads_ended source value (reads_expression source value has) symbol.Semicolon (TopStatements ∷ []) a.rest m refl tt a.left_is)
reads_top source part begins rowed (Inner statement) has tokens m h = reads_statement source part TopStatements begins statement has [] tokens m h

-- what was passed is refused only where what follows is
passes : (source : Source) (from to : List Part) (tokens : List Token) (m : List Mark) → (first : Passed source from tokens to m) → OnlyNests (refusal source.lang (length source.text) to first.rest) → OnlyNests (refusal source.lang (length source.text) from tokens)
passes source from to tokens m first only = elim first.reads [
  | inl deep ↦ let P : Option ParseRefused → Type 0 = OnlyNests in subst P (sym deep.1) tt
  | inr same ↦ let P : Option ParseRefused → Type 0 = OnlyNests in subst P (sym same) only
]

reads_tops : (source : Source) (tops : List TopTree) → HaveAll (HasTop source.lang) tops → (tokens : List Token) → map (mark source) tokens ≡ flat_map top_marks tops → OnlyNests (refusal source.lang (length source.text) (TopStatements ∷ []) tokens)
reads_tops source [] has [] h = tt
reads_tops source [] has (token ∷ tokens) h = cc
reads_tops source (top ∷ tops) has tokens h =
    let a = reads_top source TopStatements (top_begins source.lang) refl top has.0 tokens (flat_map top_marks tops) h in
    passes source (TopStatements ∷ []) (TopStatements ∷ []) tokens (flat_map top_marks tops) a (reads_tops source tops has.1 a.rest a.left_is)

-- the first statement may be where an input or a definition may
reads_first : (source : Source) (part : Part) → Begins source.lang part TopStatements → row source.lang part symbol.Output ≡ Some (AnExpression ∷ The symbol.Semicolon ∷ TopStatements ∷ []) →
    OnlyNests (refusal source.lang (length source.text) (part ∷ []) []) → (tops : List TopTree) → HaveAll (HasTop source.lang) tops → (tokens : List Token) → map (mark source) tokens ≡ flat_map top_marks tops →
    OnlyNests (refusal source.lang (length source.text) (part ∷ []) tokens)
reads_first source part begins rowed at_end [] has [] h = at_end
reads_first source part begins rowed at_end [] has (token ∷ tokens) h = cc
reads_first source part begins rowed at_end (top ∷ tops) has tokens h =
    let a = reads_top source part begins rowed top has.0 tokens (flat_map top_marks tops) h in
    passes source (part ∷ []) (TopStatements ∷ []) tokens (flat_map top_marks tops) a (reads_tops source tops has.1 a.rest a.left_is)

-- the names after the first parameter, of which so many may follow, and the parenthesis that closes them
reads_parameters : (source : Source) (names : List NameTree) (left : ℕ) → length names ≤ left → (due : List Part) (tokens : List Token) (m : List Mark) → map (mark source) tokens ≡ further_names_marks names ++ (Separator symbol.CloseRound ∷ m) →
    Passed source (MoreParameters left ∷ The symbol.CloseRound ∷ due) tokens due m
reads_parameters source [] left few due tokens m h =
    let shut : List Mark = Separator symbol.CloseRound ∷ m in
    let a = skips source (MoreParameters left) (The symbol.CloseRound ∷ due) shut IsClosed (no_parameter source.lang left) refl refl tokens tt h in
    let b = step source (The symbol.CloseRound) due a.rest (Separator symbol.CloseRound) m [] refl a.left_is in
    on source (MoreParameters left ∷ The symbol.CloseRound ∷ due) (The symbol.CloseRound ∷ due) due tokens shut a m b
reads_parameters source (name ∷ names) zero few due tokens m h = absurd (omega arith)
reads_parameters source (name ∷ names) (suc left) few due tokens m h =
    let more : List Mark = further_names_marks names ++ (Separator symbol.CloseRound ∷ m) in
    let p : List Part = MoreParameters left ∷ The symbol.CloseRound ∷ due in
    let a = step source (MoreParameters (suc left)) (The symbol.CloseRound ∷ due) tokens (Separator symbol.Comma) (Named name.at name.number ∷ more) (AName ∷ MoreParameters left ∷ []) refl h in
    let b = step source AName p a.rest (Named name.at name.number) more [] refl a.left_is in
    let c = reads_parameters source names left (omega arith) due b.rest m b.left_is in
    on source (MoreParameters (suc left) ∷ The symbol.CloseRound ∷ due) (AName ∷ p) due tokens (Named name.at name.number ∷ more) a m
    (on source (AName ∷ p) p due a.rest more b m c)

-- all parameters, up to the parenthesis that closes them
reads_names : (source : Source) (names : List NameTree) → 1 ≤ length names → length names ≤ 8 → (due : List Part) (tokens : List Token) (m : List Mark) → map (mark source) tokens ≡ parameters_marks names ++ (Separator symbol.CloseRound ∷ m) →
    Passed source (AName ∷ MoreParameters 7 ∷ The symbol.CloseRound ∷ due) tokens due m
reads_names source [] some few due tokens m h = absurd (omega arith)
reads_names source (name ∷ names) some few due tokens m h =
    let more : List Mark = further_names_marks names ++ (Separator symbol.CloseRound ∷ m) in
    let p : List Part = MoreParameters 7 ∷ The symbol.CloseRound ∷ due in
    let a = step source AName p tokens (Named name.at name.number) more [] refl h in
    let b = reads_parameters source names 7 (omega arith) due a.rest m a.left_is in
    on source (AName ∷ p) p due tokens more a m b

reads_definition : (source : Source) (part : Part) → row source.lang part symbol.Def ≡ Some definition_parts → (e : DefinitionTree) → HasDefinition source.lang e → (tokens : List Token) (m : List Mark) → map (mark source) tokens ≡ definition_marks e ++ m →
    Passed source (part ∷ []) tokens (Definitions ∷ []) m
reads_definition source part rowed e has tokens m h =
    let value : List Mark = value_marks e.body in
    let shut : List Mark = Separator symbol.CloseRound ∷ value in
    let names : List Mark = parameters_marks e.parameters ++ shut in
    let p_value : List Part = The symbol.Equals ∷ AnExpression ∷ The symbol.Semicolon ∷ Definitions ∷ [] in
    let p_names : List Part = AName ∷ MoreParameters 7 ∷ The symbol.CloseRound ∷ p_value in
    let m_open : List Mark = Placed e.parenthesis symbol.OpenRound ∷ (names ++ m) in
    let m_name : List Mark = Named e.name.at e.name.number ∷ m_open in
    let a = step source part [] tokens (Placed e.at symbol.Def) m_name definition_parts rowed h in
    let b = step source AName (Parameters ∷ p_value) a.rest (Named e.name.at e.name.number) m_open [] refl a.left_is in
    let c = step source Parameters p_value b.rest (Placed e.parenthesis symbol.OpenRound) (names ++ m) (AName ∷ MoreParameters 7 ∷ The symbol.CloseRound ∷ []) refl b.left_is in
    let d = reads_names source e.parameters has.some has.few p_value c.rest (value ++ m) (c.left_is ∙ append_assoc (parameters_marks e.parameters) shut m) in
    let f = reads_value source e.body has.body (Definitions ∷ []) d.rest m d.left_is in
    on source (part ∷ []) definition_parts (Definitions ∷ []) tokens m_name a m
    (on source definition_parts (Parameters ∷ p_value) (Definitions ∷ []) a.rest m_open b m
    (on source (Parameters ∷ p_value) p_names (Definitions ∷ []) b.rest (names ++ m) c m
    (on source p_names p_value (Definitions ∷ []) c.rest (value ++ m) d m f)))

definitions_begin : (lang : Lang) → Begins lang Definitions TopStatements
definitions_begin lang = record { is_let = refl; is_set = refl; is_for = refl }

reads_definitions : (source : Source) (definitions : List DefinitionTree) → HaveAll (HasDefinition source.lang) definitions → (tops : List TopTree) → HaveAll (HasTop source.lang) tops → (tokens : List Token) →
    map (mark source) tokens ≡ flat_map definition_marks definitions ++ flat_map top_marks tops → OnlyNests (refusal source.lang (length source.text) (Definitions ∷ []) tokens)
reads_definitions source [] has tops have tokens h = reads_first source Definitions (definitions_begin source.lang) refl tt tops have tokens h
reads_definitions source (definition ∷ definitions) has tops have tokens h =
    let m : List Mark = flat_map definition_marks definitions ++ flat_map top_marks tops in
    let a = reads_definition source Definitions (definition_row source.lang has.0.two) definition has.0 tokens m (h ∙ append_assoc (definition_marks definition) (flat_map definition_marks definitions) (flat_map top_marks tops)) in
    passes source (Definitions ∷ []) (Definitions ∷ []) tokens m a (reads_definitions source definitions has.1 tops have a.rest a.left_is)

-- the first definition may be where an input may
reads_rest : (source : Source) (definitions : List DefinitionTree) → HaveAll (HasDefinition source.lang) definitions → (tops : List TopTree) → HaveAll (HasTop source.lang) tops → (tokens : List Token) →
    map (mark source) tokens ≡ flat_map definition_marks definitions ++ flat_map top_marks tops → OnlyNests (refusal source.lang (length source.text) (Inputs ∷ []) tokens)
reads_rest source [] has tops have tokens h = reads_first source Inputs (first_begins source.lang) refl tt tops have tokens h
reads_rest source (definition ∷ definitions) has tops have tokens h =
    let m : List Mark = flat_map definition_marks definitions ++ flat_map top_marks tops in
    let a = reads_definition source Inputs (first_definition_row source.lang has.0.two) definition has.0 tokens m (h ∙ append_assoc (definition_marks definition) (flat_map definition_marks definitions) (flat_map top_marks tops)) in
    passes source (Inputs ∷ []) (Definitions ∷ []) tokens m a (reads_definitions source definitions has.1 tops have a.rest a.left_is)

-- a size and the bracket that closes it
reads_size : (source : Source) (at size : ℕ) (due : List Part) (tokens : List Token) (m : List Mark) → map (mark source) tokens ≡ Placed at (symbol.Number size) ∷ (Separator symbol.CloseSquare ∷ m) →
    Passed source (ANumber ∷ The symbol.CloseSquare ∷ due) tokens due m
reads_size source at size due tokens m h =
    let shut : List Mark = Separator symbol.CloseSquare ∷ m in
    let a = step source ANumber (The symbol.CloseSquare ∷ due) tokens (Placed at (symbol.Number size)) shut [] refl h in
    let b = step source (The symbol.CloseSquare) due a.rest (Separator symbol.CloseSquare) m [] refl a.left_is in
    on source (ANumber ∷ The symbol.CloseSquare ∷ due) (The symbol.CloseSquare ∷ due) due tokens shut a m b

no_second : (lang : Lang) (s : Symbol) (at word : ℕ) (ms : List Mark) → EndsFactor (mark_of s at word ∷ ms) → row lang SecondDimension s ≡ None
no_second lang symbol.OpenSquare at word ms ends = absurd ends
no_second lang s at word ms ends = refl

no_first : (lang : Lang) (s : Symbol) (at word : ℕ) (ms : List Mark) → EndsFactor (mark_of s at word ∷ ms) → row lang FirstDimension s ≡ None
no_first lang symbol.OpenSquare at word ms ends = absurd ends
no_first lang s at word ms ends = refl

reads_dimensions : (source : Source) (e : Dimensions) (due : List Part) (tokens : List Token) (m : List Mark) → EndsFactor m → map (mark source) tokens ≡ dimensions_spelling e ++ m → Passed source (FirstDimension ∷ due) tokens due m
reads_dimensions source Scalar due tokens m ends h = skips source FirstDimension due m EndsFactor (no_first source.lang) refl refl tokens ends h
reads_dimensions source (Vector n) due tokens m ends h =
    let size : List Mark = Placed n.at (symbol.Number n.size) ∷ (Separator symbol.CloseSquare ∷ m) in
    let p : List Part = ANumber ∷ The symbol.CloseSquare ∷ SecondDimension ∷ due in
    let a = step source FirstDimension due tokens (Separator symbol.OpenSquare) size (ANumber ∷ The symbol.CloseSquare ∷ SecondDimension ∷ []) refl h in
    let b = reads_size source n.at n.size (SecondDimension ∷ due) a.rest m a.left_is in
    let c = skips source SecondDimension due m EndsFactor (no_second source.lang) refl refl b.rest ends b.left_is in
    on source (FirstDimension ∷ due) p due tokens size a m (on source p (SecondDimension ∷ due) due a.rest m b m c)
reads_dimensions source (Matrix n k) due tokens m ends h =
    let size : List Mark = Placed k.at (symbol.Number k.size) ∷ (Separator symbol.CloseSquare ∷ m) in
    let second : List Mark = Separator symbol.OpenSquare ∷ size in
    let first : List Mark = Placed n.at (symbol.Number n.size) ∷ (Separator symbol.CloseSquare ∷ second) in
    let p : List Part = ANumber ∷ The symbol.CloseSquare ∷ SecondDimension ∷ due in
    let q : List Part = ANumber ∷ The symbol.CloseSquare ∷ due in
    let a = step source FirstDimension due tokens (Separator symbol.OpenSquare) first (ANumber ∷ The symbol.CloseSquare ∷ SecondDimension ∷ []) refl h in
    let b = reads_size source n.at n.size (SecondDimension ∷ due) a.rest second a.left_is in
    let c = step source SecondDimension due b.rest (Separator symbol.OpenSquare) size (ANumber ∷ The symbol.CloseSquare ∷ []) refl b.left_is in
    let d = reads_size source k.at k.size due c.rest m c.left_is in
    on source (FirstDimension ∷ due) p due tokens first a m
    (on source p (SecondDimension ∷ due) due a.rest second b m
    (on source (SecondDimension ∷ due) q due b.rest size c m d))

reads_input : (source : Source) (e : InputTree) (tokens : List Token) (m : List Mark) → map (mark source) tokens ≡ input_marks e ++ m → Passed source (Inputs ∷ []) tokens (Inputs ∷ []) m
reads_input source e tokens m h =
    let shut : List Mark = Separator symbol.Semicolon ∷ [] in
    let sizes : List Mark = (dimensions_spelling e.dimensions ++ shut) ++ m in
    let named : List Mark = Named e.name.at e.name.number ∷ sizes in
    let p_shut : List Part = The symbol.Semicolon ∷ Inputs ∷ [] in
    let p_sizes : List Part = FirstDimension ∷ p_shut in
    let a = step source Inputs [] tokens (Placed e.at symbol.Input) named (AName ∷ p_sizes) refl h in
    let b = step source AName p_sizes a.rest (Named e.name.at e.name.number) sizes [] refl a.left_is in
    let c = reads_dimensions source e.dimensions p_shut b.rest (shut ++ m) tt (b.left_is ∙ append_assoc (dimensions_spelling e.dimensions) shut m) in
    let d = step source (The symbol.Semicolon) (Inputs ∷ []) c.rest (Separator symbol.Semicolon) m [] refl c.left_is in
    on source (Inputs ∷ []) (AName ∷ p_sizes) (Inputs ∷ []) tokens named a m
    (on source (AName ∷ p_sizes) p_sizes (Inputs ∷ []) a.rest sizes b m
    (on source p_sizes p_shut (Inputs ∷ []) b.rest (shut ++ m) c m d))

reads_inputs : (source : Source) (inputs : List InputTree) (definitions : List DefinitionTree) → HaveAll (HasDefinition source.lang) definitions → (tops : List TopTree) → HaveAll (HasTop source.lang) tops → (tokens : List Token) →
    map (mark source) tokens ≡ flat_map input_marks inputs ++ (flat_map definition_marks definitions ++ flat_map top_marks tops) → OnlyNests (refusal source.lang (length source.text) (Inputs ∷ []) tokens)
reads_inputs source [] definitions has tops have tokens h = reads_rest source definitions has tops have tokens h
reads_inputs source (input ∷ inputs) definitions has tops have tokens h =
    let rest : List Mark = flat_map definition_marks definitions ++ flat_map top_marks tops in
    let m : List Mark = flat_map input_marks inputs ++ rest in
    let a = reads_input source input tokens m (h ∙ append_assoc (input_marks input) (flat_map input_marks inputs) rest) in
    passes source (Inputs ∷ []) (Inputs ∷ []) tokens m a (reads_inputs source inputs definitions has tops have a.rest a.left_is)

pub trees_are_read : (lang : Lang) (text : List ℕ) (tokens : List Token) (tree : ProgramTree) → Has lang tree → IsTreeOf lang text tokens tree → OnlyNests (refusal lang (length text) (Inputs ∷ []) tokens)
trees_are_read lang text tokens tree has is = reads_inputs (source_of lang text tokens) tree.inputs tree.definitions has.definitions tree.statements has.statements tokens is.spelled
