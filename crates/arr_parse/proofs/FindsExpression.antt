-- Where an expression is due and nothing is refused, the tokens begin with the tree of one.
use Rattle.std.proofs.Common.{◌≡◌, ◌⊎◌, inl, inr, ℕ, zero, suc, List, [], ◌∷◌, ◌++◌, Option, Some, None, length, ◌<◌, map, refl, ap, sym, ◌∙◌, append_assoc, arith}
use Rattle.arr_ast.specs.declared.expression.Sign.{Sign}
use Rattle.arr_ast.specs.declared.expression.Sign.TheVariants.{Plus as PlusSign, Minus as MinusSign}
use Rattle.arr_ast.specs.declared.expression.SingleFunction.{SingleFunction}
use Rattle.arr_ast.specs.declared.expression.SingleFunction.TheVariants.{Sum as SumWord, Transpose}
use Rattle.arr_ast.specs.declared.expression.PairFunction.{PairFunction}
use Rattle.arr_ast.specs.declared.expression.PairFunction.TheVariants.{Scale, Dot, MatMul}
use Rattle.arr_ast.specs.IndexTree.{Sum}
use Rattle.arr_ast.specs.ExpressionTree.{NameTree, IndicesTree, ExpressionTree, ExpressionOf, AddedTree, NoTerm, Added, TermTree, TermOf, TimesTree, NoFactor, Times, FactorTree, Number, Name, Element, Negation, Parenthesized, Single, Pair, Call, ArgumentsTree, NoArgument, Argument}
use Rattle.arr_ast.specs.declared.lang.Lang.{Lang}
use Rattle.arr_ast.specs.declared.lang.Lang.TheVariants.{One, Two}
use Rattle.arr_lex.specs.declared.token.Symbol.{Symbol}
use Rattle.arr_lex.specs.declared.token.Symbol.TheVariants as symbol
use Rattle.arr_lex.specs.declared.token.Token.{Token}
use Rattle.arr_parse.specs.Mark.{Mark, Separator, Placed, Named, mark, mark_of, number_at, Source}
use Rattle.arr_parse.specs.Grammar.{Part, The, AnExpression, MoreTerms, ATerm, MoreFactors, AFactor, EndOfNegation, OneArgument, TwoArguments, AfterName, MoreArguments, FirstIndex, SecondIndex, AnIndex, only_two, row}
use Rattle.arr_parse.specs.Reading.{due_after, unless_refused, taken, refusal}
use Rattle.arr_parse.specs.IndexSpelling.{sign_symbol, name_marks, sum_marks, bracket_marks, second_marks, indices_marks}
use Rattle.arr_parse.specs.Spelling.{single_symbol, pair_symbol, expression_marks, added_marks, term_marks, times_marks, factor_marks, further_marks}
use Rattle.arr_parse.proofs.Due.{refusal-expression, refusal-term, refusal-negation}
use Rattle.arr_parse.proofs.Finding.{Found, Finds, FoundUpTo, FindsUpTo, after, no_row, skipped, none_left, marked, rowed, separator}
use Rattle.arr_parse.proofs.FindsIndex.{finds_index}

-- an index after its bracket, up to the closing one
closed_index : (source : Source) (due : List Part) (token : Token) (tokens : List Token) → token.symbol ≡ symbol.OpenSquare →
    refusal source.lang (length source.text) (AnIndex ∷ The symbol.CloseSquare ∷ due) tokens ≡ None → Found Sum bracket_marks source due (token ∷ tokens)
closed_index source due token tokens is h =
    let inner = finds_index source (The symbol.CloseSquare ∷ due) tokens h in
    let shut = separator symbol.CloseSquare source due inner.rest (λ at word. refl) inner.goes_on in
    let a : length inner.rest < length tokens = inner.shorter in
    let b : length shut.rest < length inner.rest = shut.shorter in
    record {
      tree = inner.tree;
      rest = shut.rest;
      spelled = ap (λ m. m ∷ map (mark source) tokens) (marked source token symbol.OpenSquare is)
          ∙ ap (λ ms. Separator symbol.OpenSquare ∷ ms) (inner.spelled ∙ ap (λ ms. sum_marks inner.tree ++ ms) shut.spelled ∙ sym (append_assoc (sum_marks inner.tree) (Separator symbol.CloseSquare ∷ []) (map (mark source) shut.rest)));
      goes_on = shut.goes_on;
      shorter = omega arith;
    }

second_at : (source : Source) (due : List Part) (token : Token) (tokens : List Token) (s : Symbol) → token.symbol ≡ s →
    refusal source.lang (length source.text) (SecondIndex ∷ due) (token ∷ tokens) ≡ None → FoundUpTo (Option Sum) second_marks source due (token ∷ tokens)
second_at source due token tokens symbol.OpenSquare is h =
    let new : List Part = AnIndex ∷ The symbol.CloseSquare ∷ [] in
    let index = closed_index source due token tokens is (after source.lang (length source.text) SecondIndex due token tokens new (rowed source.lang SecondIndex token symbol.OpenSquare (Some new) is refl) h) in
    record { tree = Some index.tree; rest = index.rest; spelled = index.spelled; goes_on = index.goes_on; within = let a : length index.rest < suc (length tokens) = index.shorter in omega arith }
second_at source due token tokens s is h = record {
  tree = None;
  rest = token ∷ tokens;
  spelled = refl;
  goes_on = sym (skipped source.lang (length source.text) SecondIndex due token tokens (rowed source.lang SecondIndex token s None is refl) refl) ∙ h;
  within = omega arith;
}

second : (source : Source) (due : List Part) (tokens : List Token) → refusal source.lang (length source.text) (SecondIndex ∷ due) tokens ≡ None → FoundUpTo (Option Sum) second_marks source due tokens
second source due [] h = record { tree = None; rest = []; spelled = refl; goes_on = h; within = omega arith }
second source due (token ∷ tokens) h = second_at source due token tokens token.symbol refl h

-- the indices of an element, or none
abbrev pub maybe_indices_marks : Option IndicesTree → List Mark
maybe_indices_marks None = []
maybe_indices_marks (Some indices) = indices_marks indices

indices_at : (source : Source) (due : List Part) (token : Token) (tokens : List Token) (s : Symbol) → token.symbol ≡ s →
    refusal source.lang (length source.text) (FirstIndex ∷ due) (token ∷ tokens) ≡ None → FoundUpTo (Option IndicesTree) maybe_indices_marks source due (token ∷ tokens)
indices_at source due token tokens symbol.OpenSquare is h =
    let new : List Part = AnIndex ∷ The symbol.CloseSquare ∷ SecondIndex ∷ [] in
    let first = closed_index source (SecondIndex ∷ due) token tokens is (after source.lang (length source.text) FirstIndex due token tokens new (rowed source.lang FirstIndex token symbol.OpenSquare (Some new) is refl) h) in
    let more = second source due first.rest first.goes_on in
    let a : length first.rest < suc (length tokens) = first.shorter in
    let b : length more.rest < suc (length first.rest) = more.within in
    record {
      tree = Some record { first = first.tree; second = more.tree };
      rest = more.rest;
      spelled = first.spelled ∙ ap (λ ms. bracket_marks first.tree ++ ms) more.spelled ∙ sym (append_assoc (bracket_marks first.tree) (second_marks more.tree) (map (mark source) more.rest));
      goes_on = more.goes_on;
      within = omega arith;
    }
indices_at source due token tokens s is h = record {
  tree = None;
  rest = token ∷ tokens;
  spelled = refl;
  goes_on = sym (skipped source.lang (length source.text) FirstIndex due token tokens (rowed source.lang FirstIndex token s None is refl) refl) ∙ h;
  within = omega arith;
}

pub finds_indices : (source : Source) (due : List Part) (tokens : List Token) → refusal source.lang (length source.text) (FirstIndex ∷ due) tokens ≡ None → FoundUpTo (Option IndicesTree) maybe_indices_marks source due tokens
finds_indices source due [] h = record { tree = None; rest = []; spelled = refl; goes_on = h; within = omega arith }
finds_indices source due (token ∷ tokens) h = indices_at source due token tokens token.symbol refl h

abbrev pub name_at : Source → Token → NameTree
name_at source token = record { at = token.start; number = number_at source token }

record Below (source : Source) (n : ℕ) : Type 0 where
  factor : Finds FactorTree factor_marks AFactor source n
  times : FindsUpTo TimesTree times_marks MoreFactors source n
  term : Finds TermTree term_marks ATerm source n
  added : FindsUpTo AddedTree added_marks MoreTerms source n
  expression : Finds ExpressionTree expression_marks AnExpression source n
  further : FindsUpTo ArgumentsTree further_marks MoreArguments source n

-- an expression up to a separator
ended : (source : Source) (n : ℕ) → Below source n → (s : Symbol) → ((at word : ℕ) → mark_of s at word ≡ Separator s) → (due : List Part) (tokens : List Token) → length tokens < n →
    refusal source.lang (length source.text) (AnExpression ∷ The s ∷ due) tokens ≡ None → Found ExpressionTree (λ e. expression_marks e ++ Separator s ∷ []) source due tokens
ended source n below s separates due tokens few h =
    let inner = below.expression (The s ∷ due) tokens few h in
    let shut = separator s source due inner.rest separates inner.goes_on in
    let a : length inner.rest < length tokens = inner.shorter in
    let b : length shut.rest < length inner.rest = shut.shorter in
    record {
      tree = inner.tree;
      rest = shut.rest;
      spelled = inner.spelled ∙ ap (λ ms. expression_marks inner.tree ++ ms) shut.spelled ∙ sym (append_assoc (expression_marks inner.tree) (Separator s ∷ []) (map (mark source) shut.rest));
      goes_on = shut.goes_on;
      shorter = omega arith;
    }

-- what comes after the opening bracket of a call
single_at : (source : Source) (n : ℕ) → Below source n → (due : List Part) (token : Token) (tokens : List Token) (s : Symbol) → token.symbol ≡ s → length tokens < n →
    refusal source.lang (length source.text) (OneArgument ∷ due) (token ∷ tokens) ≡ None →
    Found ExpressionTree (λ e. Placed token.start symbol.OpenRound ∷ (expression_marks e ++ Separator symbol.CloseRound ∷ [])) source due (token ∷ tokens)
single_at source n below due token tokens symbol.OpenRound is few h =
    let new : List Part = AnExpression ∷ The symbol.CloseRound ∷ [] in
    let inner = ended source n below symbol.CloseRound (λ at word. refl) due tokens few (after source.lang (length source.text) OneArgument due token tokens new (rowed source.lang OneArgument token symbol.OpenRound (Some new) is refl) h) in
    record {
      tree = inner.tree;
      rest = inner.rest;
      spelled = ap (λ m. m ∷ map (mark source) tokens) (marked source token symbol.OpenRound is) ∙ ap (λ ms. Placed token.start symbol.OpenRound ∷ ms) inner.spelled;
      goes_on = inner.goes_on;
      shorter = let a : length inner.rest < length tokens = inner.shorter in omega arith;
    }
single_at source n below due token tokens s is few h = absurd (no_row source.lang (length source.text) OneArgument due token tokens (rowed source.lang OneArgument token s None is refl) refl h)

single : (source : Source) (n : ℕ) → Below source n → (function : SingleFunction) (due : List Part) (word : Token) (tokens : List Token) → mark source word ≡ Placed word.start (single_symbol function) → length tokens < n →
    refusal source.lang (length source.text) (OneArgument ∷ due) tokens ≡ None → Found FactorTree factor_marks source due (word ∷ tokens)
single source n below function due word [] placed few h = absurd (none_left source.lang (length source.text) OneArgument due refl h)
single source n below function due word (token ∷ tokens) placed few h =
    let inner = single_at source n below due token tokens token.symbol refl (omega arith) h in
    record {
      tree = Single function word.start token.start inner.tree;
      rest = inner.rest;
      spelled = ap (λ m. m ∷ map (mark source) (token ∷ tokens)) placed ∙ ap (λ ms. Placed word.start (single_symbol function) ∷ ms) inner.spelled;
      goes_on = inner.goes_on;
      shorter = let a : length inner.rest < suc (length tokens) = inner.shorter in omega arith;
    }

record Both : Type 0 where
  left : ExpressionTree
  right : ExpressionTree

abbrev both_marks : Both → List Mark
both_marks both = expression_marks both.left ++ (Separator symbol.Comma ∷ (expression_marks both.right ++ Separator symbol.CloseRound ∷ []))

both : (source : Source) (n : ℕ) → Below source n → (due : List Part) (tokens : List Token) → length tokens < n →
    refusal source.lang (length source.text) (AnExpression ∷ The symbol.Comma ∷ AnExpression ∷ The symbol.CloseRound ∷ due) tokens ≡ None → Found Both both_marks source due tokens
both source n below due tokens few h =
    let first = ended source n below symbol.Comma (λ at word. refl) (AnExpression ∷ The symbol.CloseRound ∷ due) tokens few h in
    let a : length first.rest < length tokens = first.shorter in
    let next = ended source n below symbol.CloseRound (λ at word. refl) due first.rest (omega arith) first.goes_on in
    let b : length next.rest < length first.rest = next.shorter in
    let tail : List Mark = expression_marks next.tree ++ Separator symbol.CloseRound ∷ [] in
    record {
      tree = record { left = first.tree; right = next.tree };
      rest = next.rest;
      spelled = first.spelled ∙ ap (λ ms. (expression_marks first.tree ++ Separator symbol.Comma ∷ []) ++ ms) next.spelled
          ∙ append_assoc (expression_marks first.tree) (Separator symbol.Comma ∷ []) (tail ++ map (mark source) next.rest)
          ∙ sym (append_assoc (expression_marks first.tree) (Separator symbol.Comma ∷ tail) (map (mark source) next.rest));
      goes_on = next.goes_on;
      shorter = omega arith;
    }

pair_at : (source : Source) (n : ℕ) → Below source n → (due : List Part) (token : Token) (tokens : List Token) (s : Symbol) → token.symbol ≡ s → length tokens < n →
    refusal source.lang (length source.text) (TwoArguments ∷ due) (token ∷ tokens) ≡ None →
    Found Both (λ b. Placed token.start symbol.OpenRound ∷ both_marks b) source due (token ∷ tokens)
pair_at source n below due token tokens symbol.OpenRound is few h =
    let new : List Part = AnExpression ∷ The symbol.Comma ∷ AnExpression ∷ The symbol.CloseRound ∷ [] in
    let inner = both source n below due tokens few (after source.lang (length source.text) TwoArguments due token tokens new (rowed source.lang TwoArguments token symbol.OpenRound (Some new) is refl) h) in
    record {
      tree = inner.tree;
      rest = inner.rest;
      spelled = ap (λ m. m ∷ map (mark source) tokens) (marked source token symbol.OpenRound is) ∙ ap (λ ms. Placed token.start symbol.OpenRound ∷ ms) inner.spelled;
      goes_on = inner.goes_on;
      shorter = let a : length inner.rest < length tokens = inner.shorter in omega arith;
    }
pair_at source n below due token tokens s is few h = absurd (no_row source.lang (length source.text) TwoArguments due token tokens (rowed source.lang TwoArguments token s None is refl) refl h)

pair : (source : Source) (n : ℕ) → Below source n → (function : PairFunction) (due : List Part) (word : Token) (tokens : List Token) → mark source word ≡ Placed word.start (pair_symbol function) → length tokens < n →
    refusal source.lang (length source.text) (TwoArguments ∷ due) tokens ≡ None → Found FactorTree factor_marks source due (word ∷ tokens)
pair source n below function due word [] placed few h = absurd (none_left source.lang (length source.text) TwoArguments due refl h)
pair source n below function due word (token ∷ tokens) placed few h =
    let inner = pair_at source n below due token tokens token.symbol refl (omega arith) h in
    record {
      tree = Pair function word.start token.start inner.tree.left inner.tree.right;
      rest = inner.rest;
      spelled = ap (λ m. m ∷ map (mark source) (token ∷ tokens)) placed ∙ ap (λ ms. Placed word.start (pair_symbol function) ∷ ms) inner.spelled;
      goes_on = inner.goes_on;
      shorter = let a : length inner.rest < suc (length tokens) = inner.shorter in omega arith;
    }

-- what comes after a name in an expression
data Tail : Type 0 where
  Bare : Tail
  Indexed : (indices : IndicesTree) → Tail
  Called : (parenthesis : ℕ) (first : ExpressionTree) (further : ArgumentsTree) → Tail

abbrev tail_marks : Tail → List Mark
tail_marks Bare = []
tail_marks (Indexed indices) = indices_marks indices
tail_marks (Called parenthesis first further) =
    Placed parenthesis symbol.OpenRound ∷ (expression_marks first ++ (further_marks further ++ Separator symbol.CloseRound ∷ []))

-- a name with what comes after it
named : (name : NameTree) (tail : Tail) → (factor : FactorTree) × (factor_marks factor ≡ name_marks name ++ tail_marks tail)
named name Bare = (Name name, refl)
named name (Indexed indices) = (Element name indices, refl)
named name (Called parenthesis first further) = (Call name parenthesis first further, refl)

indexed : (indices : Option IndicesTree) → (tail : Tail) × (tail_marks tail ≡ maybe_indices_marks indices)
indexed None = (Bare, refl)
indexed (Some indices) = (Indexed indices, refl)

-- the arguments of a call after its parenthesis, up to the closing one
record Arguments : Type 0 where
  first : ExpressionTree
  further : ArgumentsTree

arguments : (source : Source) (n : ℕ) → Below source n → (due : List Part) (tokens : List Token) → length tokens < n →
    refusal source.lang (length source.text) (AnExpression ∷ MoreArguments ∷ The symbol.CloseRound ∷ due) tokens ≡ None →
    Found Arguments (λ a. expression_marks a.first ++ (further_marks a.further ++ Separator symbol.CloseRound ∷ [])) source due tokens
arguments source n below due tokens few h =
    let first = below.expression (MoreArguments ∷ The symbol.CloseRound ∷ due) tokens few h in
    let a : length first.rest < length tokens = first.shorter in
    let more = below.further (The symbol.CloseRound ∷ due) first.rest (omega arith) first.goes_on in
    let b : length more.rest < suc (length first.rest) = more.within in
    let shut = separator symbol.CloseRound source due more.rest (λ at word. refl) more.goes_on in
    let c : length shut.rest < length more.rest = shut.shorter in
    let end : List Mark = Separator symbol.CloseRound ∷ [] in
    let rest : List Mark = map (mark source) shut.rest in
    record {
      tree = record { first = first.tree; further = more.tree };
      rest = shut.rest;
      spelled = first.spelled ∙ ap (λ ms. expression_marks first.tree ++ ms) (more.spelled ∙ ap (λ ms. further_marks more.tree ++ ms) shut.spelled ∙ sym (append_assoc (further_marks more.tree) end rest))
          ∙ sym (append_assoc (expression_marks first.tree) (further_marks more.tree ++ end) rest);
      goes_on = shut.goes_on;
      shorter = omega arith;
    }

-- a row that only the second language has
pub two_or_none : (lang : Lang) (new : List Part) → (only_two lang new ≡ Some new) ⊎ (only_two lang new ≡ None)
two_or_none One new = inr refl
two_or_none Two new = inl refl

-- after a name there are what a target may have after it, and arguments
opens : (s : Symbol) → (s ≡ symbol.OpenRound) ⊎ ((lang : Lang) → row lang AfterName s ≡ row lang FirstIndex s)
opens symbol.OpenRound = inl refl
opens s = inr (λ lang. refl)

as_target : (lang : Lang) (end : ℕ) (due : List Part) (token : Token) (tokens : List Token) → row lang AfterName token.symbol ≡ row lang FirstIndex token.symbol →
    refusal lang end (AfterName ∷ due) (token ∷ tokens) ≡ refusal lang end (FirstIndex ∷ due) (token ∷ tokens)
as_target lang end due token tokens same = ap (λ r. unless_refused token.start (due_after r due (taken lang token.symbol due)) (λ due. refusal lang end due tokens)) same

called_at : (source : Source) (n : ℕ) → Below source n → (due : List Part) (token : Token) (tokens : List Token) → token.symbol ≡ symbol.OpenRound → length tokens < n →
    refusal source.lang (length source.text) (AfterName ∷ due) (token ∷ tokens) ≡ None → FoundUpTo Tail tail_marks source due (token ∷ tokens)
called_at source n below due token tokens is few h =
    let new : List Part = AnExpression ∷ MoreArguments ∷ The symbol.CloseRound ∷ [] in
    elim (two_or_none source.lang new) [
      | inl there ↦
          let found = arguments source n below due tokens few (after source.lang (length source.text) AfterName due token tokens new (rowed source.lang AfterName token symbol.OpenRound (Some new) is there) h) in
          record {
            tree = Called token.start found.tree.first found.tree.further;
            rest = found.rest;
            spelled = ap (λ m. m ∷ map (mark source) tokens) (marked source token symbol.OpenRound is) ∙ ap (λ ms. Placed token.start symbol.OpenRound ∷ ms) found.spelled;
            goes_on = found.goes_on;
            within = let a : length found.rest < length tokens = found.shorter in omega arith;
          }
      | inr none ↦ record {
        tree = Bare;
        rest = token ∷ tokens;
        spelled = refl;
        goes_on = sym (skipped source.lang (length source.text) AfterName due token tokens (rowed source.lang AfterName token symbol.OpenRound None is none) refl) ∙ h;
        within = omega arith;
      }
    ]

indexed_at : (source : Source) (due : List Part) (tokens : List Token) → FoundUpTo (Option IndicesTree) maybe_indices_marks source due tokens → FoundUpTo Tail tail_marks source due tokens
indexed_at source due tokens found =
    let made = indexed found.tree in
    record {
      tree = made.0;
      rest = found.rest;
      spelled = found.spelled ∙ ap (λ ms. ms ++ map (mark source) found.rest) (sym made.1);
      goes_on = found.goes_on;
      within = found.within;
    }

after_name : (source : Source) (n : ℕ) → Below source n → (due : List Part) (tokens : List Token) → length tokens < suc n →
    refusal source.lang (length source.text) (AfterName ∷ due) tokens ≡ None → FoundUpTo Tail tail_marks source due tokens
after_name source n below due [] few h = record { tree = Bare; rest = []; spelled = refl; goes_on = h; within = omega arith }
after_name source n below due (token ∷ tokens) few h = elim (opens token.symbol) [
  | inl is ↦ called_at source n below due token tokens is (omega arith) h
  | inr same ↦ indexed_at source due (token ∷ tokens) (finds_indices source due (token ∷ tokens) (sym (as_target source.lang (length source.text) due token tokens (same source.lang)) ∙ h))
]

-- what is due after the symbol that begins a factor
behind : (source : Source) (due : List Part) (token : Token) (tokens : List Token) (s : Symbol) (new : List Part) → token.symbol ≡ s → row source.lang AFactor s ≡ Some new →
    refusal source.lang (length source.text) (AFactor ∷ due) (token ∷ tokens) ≡ None → refusal source.lang (length source.text) (new ++ due) tokens ≡ None
behind source due token tokens s new is at h = after source.lang (length source.text) AFactor due token tokens new (rowed source.lang AFactor token s (Some new) is at) h

factor_at : (source : Source) (n : ℕ) → Below source n → (due : List Part) (token : Token) (tokens : List Token) (s : Symbol) → token.symbol ≡ s → length tokens < n →
    refusal source.lang (length source.text) (AFactor ∷ due) (token ∷ tokens) ≡ None → Found FactorTree factor_marks source due (token ∷ tokens)
factor_at source n below due token tokens (symbol.Number value) is few h = record {
  tree = Number token.start value;
  rest = tokens;
  spelled = ap (λ m. m ∷ map (mark source) tokens) (marked source token (symbol.Number value) is);
  goes_on = behind source due token tokens (symbol.Number value) [] is refl h;
  shorter = omega arith;
}
factor_at source n below due token tokens symbol.Name is few h =
    let found = after_name source n below due tokens (omega arith) (behind source due token tokens symbol.Name (AfterName ∷ []) is refl h) in
    let made = named (name_at source token) found.tree in
    record {
      tree = made.0;
      rest = found.rest;
      spelled = ap (λ m. m ∷ map (mark source) tokens) (marked source token symbol.Name is)
          ∙ ap (λ ms. Named token.start (number_at source token) ∷ ms) found.spelled
          ∙ ap (λ ms. ms ++ map (mark source) found.rest) (sym made.1);
      goes_on = found.goes_on;
      shorter = let a : length found.rest < suc (length tokens) = found.within in omega arith;
    }
factor_at source n below due token tokens symbol.Minus is few h =
    let inner = below.factor (EndOfNegation ∷ due) tokens few (behind source due token tokens symbol.Minus (AFactor ∷ EndOfNegation ∷ []) is refl h) in
    record {
      tree = Negation token.start inner.tree;
      rest = inner.rest;
      spelled = ap (λ m. m ∷ map (mark source) tokens) (marked source token symbol.Minus is) ∙ ap (λ ms. Placed token.start symbol.Minus ∷ ms) inner.spelled;
      goes_on = sym (refusal-negation source.lang (length source.text) due inner.rest) ∙ inner.goes_on;
      shorter = let a : length inner.rest < length tokens = inner.shorter in omega arith;
    }
factor_at source n below due token tokens symbol.OpenRound is few h =
    let inner = ended source n below symbol.CloseRound (λ at word. refl) due tokens few (behind source due token tokens symbol.OpenRound (AnExpression ∷ The symbol.CloseRound ∷ []) is refl h) in
    record {
      tree = Parenthesized token.start inner.tree;
      rest = inner.rest;
      spelled = ap (λ m. m ∷ map (mark source) tokens) (marked source token symbol.OpenRound is) ∙ ap (λ ms. Placed token.start symbol.OpenRound ∷ ms) inner.spelled;
      goes_on = inner.goes_on;
      shorter = let a : length inner.rest < length tokens = inner.shorter in omega arith;
    }
factor_at source n below due token tokens symbol.Sum is few h =
    single source n below SumWord due token tokens (marked source token symbol.Sum is) few (behind source due token tokens symbol.Sum (OneArgument ∷ []) is refl h)
factor_at source n below due token tokens symbol.Transpose is few h =
    single source n below Transpose due token tokens (marked source token symbol.Transpose is) few (behind source due token tokens symbol.Transpose (OneArgument ∷ []) is refl h)
factor_at source n below due token tokens symbol.Scale is few h =
    pair source n below Scale due token tokens (marked source token symbol.Scale is) few (behind source due token tokens symbol.Scale (TwoArguments ∷ []) is refl h)
factor_at source n below due token tokens symbol.Dot is few h =
    pair source n below Dot due token tokens (marked source token symbol.Dot is) few (behind source due token tokens symbol.Dot (TwoArguments ∷ []) is refl h)
factor_at source n below due token tokens symbol.MatMul is few h =
    pair source n below MatMul due token tokens (marked source token symbol.MatMul is) few (behind source due token tokens symbol.MatMul (TwoArguments ∷ []) is refl h)
factor_at source n below due token tokens s is few h = absurd (no_row source.lang (length source.text) AFactor due token tokens (rowed source.lang AFactor token s None is refl) refl h)

factor : (source : Source) (n : ℕ) → Below source n → Finds FactorTree factor_marks AFactor source (suc n)
factor source n below due [] few h = absurd (none_left source.lang (length source.text) AFactor due refl h)
factor source n below due (token ∷ tokens) few h = factor_at source n below due token tokens token.symbol refl (omega arith) h

times_at : (source : Source) (n : ℕ) → Below source n → (due : List Part) (token : Token) (tokens : List Token) (s : Symbol) → token.symbol ≡ s → length tokens < n →
    refusal source.lang (length source.text) (MoreFactors ∷ due) (token ∷ tokens) ≡ None → FoundUpTo TimesTree times_marks source due (token ∷ tokens)
times_at source n below due token tokens symbol.Star is few h =
    let new : List Part = AFactor ∷ MoreFactors ∷ [] in
    let first = below.factor (MoreFactors ∷ due) tokens few (after source.lang (length source.text) MoreFactors due token tokens new (rowed source.lang MoreFactors token symbol.Star (Some new) is refl) h) in
    let a : length first.rest < length tokens = first.shorter in
    let more = below.times due first.rest (omega arith) first.goes_on in
    let b : length more.rest < suc (length first.rest) = more.within in
    record {
      tree = Times token.start first.tree more.tree;
      rest = more.rest;
      spelled = ap (λ m. m ∷ map (mark source) tokens) (marked source token symbol.Star is)
          ∙ ap (λ ms. Placed token.start symbol.Star ∷ ms) (first.spelled ∙ ap (λ ms. factor_marks first.tree ++ ms) more.spelled ∙ sym (append_assoc (factor_marks first.tree) (times_marks more.tree) (map (mark source) more.rest)));
      goes_on = more.goes_on;
      within = omega arith;
    }
times_at source n below due token tokens s is few h = record {
  tree = NoFactor;
  rest = token ∷ tokens;
  spelled = refl;
  goes_on = sym (skipped source.lang (length source.text) MoreFactors due token tokens (rowed source.lang MoreFactors token s None is refl) refl) ∙ h;
  within = omega arith;
}

times : (source : Source) (n : ℕ) → Below source n → FindsUpTo TimesTree times_marks MoreFactors source (suc n)
times source n below due [] few h = record { tree = NoFactor; rest = []; spelled = refl; goes_on = h; within = omega arith }
times source n below due (token ∷ tokens) few h = times_at source n below due token tokens token.symbol refl (omega arith) h

term : (source : Source) (n : ℕ) → Below source n → Finds TermTree term_marks ATerm source (suc n)
term source n below due tokens few h =
    let first = factor source n below (MoreFactors ∷ due) tokens few (sym (refusal-term source.lang (length source.text) due tokens) ∙ h) in
    let a : length first.rest < length tokens = first.shorter in
    let more = below.times due first.rest (omega arith) first.goes_on in
    let b : length more.rest < suc (length first.rest) = more.within in
    record {
      tree = TermOf first.tree more.tree;
      rest = more.rest;
      spelled = first.spelled ∙ ap (λ ms. factor_marks first.tree ++ ms) more.spelled ∙ sym (append_assoc (factor_marks first.tree) (times_marks more.tree) (map (mark source) more.rest));
      goes_on = more.goes_on;
      shorter = omega arith;
    }

term_behind : (source : Source) (n : ℕ) → Below source n → (due : List Part) (token : Token) (tokens : List Token) (sign : Sign) →
    mark source token ≡ Placed token.start (sign_symbol sign) → length tokens < n →
    refusal source.lang (length source.text) (ATerm ∷ (MoreTerms ∷ due)) tokens ≡ None → FoundUpTo AddedTree added_marks source due (token ∷ tokens)
term_behind source n below due token tokens sign placed few h =
    let first = below.term (MoreTerms ∷ due) tokens few h in
    let a : length first.rest < length tokens = first.shorter in
    let more = below.added due first.rest (omega arith) first.goes_on in
    let b : length more.rest < suc (length first.rest) = more.within in
    record {
      tree = Added sign token.start first.tree more.tree;
      rest = more.rest;
      spelled = ap (λ m. m ∷ map (mark source) tokens) placed
          ∙ ap (λ ms. Placed token.start (sign_symbol sign) ∷ ms) (first.spelled ∙ ap (λ ms. term_marks first.tree ++ ms) more.spelled ∙ sym (append_assoc (term_marks first.tree) (added_marks more.tree) (map (mark source) more.rest)));
      goes_on = more.goes_on;
      within = omega arith;
    }

added_at : (source : Source) (n : ℕ) → Below source n → (due : List Part) (token : Token) (tokens : List Token) (s : Symbol) → token.symbol ≡ s → length tokens < n →
    refusal source.lang (length source.text) (MoreTerms ∷ due) (token ∷ tokens) ≡ None → FoundUpTo AddedTree added_marks source due (token ∷ tokens)
added_at source n below due token tokens symbol.Plus is few h =
    let new : List Part = ATerm ∷ MoreTerms ∷ [] in
    term_behind source n below due token tokens PlusSign (marked source token symbol.Plus is) few (after source.lang (length source.text) MoreTerms due token tokens new (rowed source.lang MoreTerms token symbol.Plus (Some new) is refl) h)
added_at source n below due token tokens symbol.Minus is few h =
    let new : List Part = ATerm ∷ MoreTerms ∷ [] in
    term_behind source n below due token tokens MinusSign (marked source token symbol.Minus is) few (after source.lang (length source.text) MoreTerms due token tokens new (rowed source.lang MoreTerms token symbol.Minus (Some new) is refl) h)
added_at source n below due token tokens s is few h = record {
  tree = NoTerm;
  rest = token ∷ tokens;
  spelled = refl;
  goes_on = sym (skipped source.lang (length source.text) MoreTerms due token tokens (rowed source.lang MoreTerms token s None is refl) refl) ∙ h;
  within = omega arith;
}

added : (source : Source) (n : ℕ) → Below source n → FindsUpTo AddedTree added_marks MoreTerms source (suc n)
added source n below due [] few h = record { tree = NoTerm; rest = []; spelled = refl; goes_on = h; within = omega arith }
added source n below due (token ∷ tokens) few h = added_at source n below due token tokens token.symbol refl (omega arith) h

expression : (source : Source) (n : ℕ) → Below source n → Finds ExpressionTree expression_marks AnExpression source (suc n)
expression source n below due tokens few h =
    let first = term source n below (MoreTerms ∷ due) tokens few (sym (refusal-expression source.lang (length source.text) due tokens) ∙ h) in
    let a : length first.rest < length tokens = first.shorter in
    let more = below.added due first.rest (omega arith) first.goes_on in
    let b : length more.rest < suc (length first.rest) = more.within in
    record {
      tree = ExpressionOf first.tree more.tree;
      rest = more.rest;
      spelled = first.spelled ∙ ap (λ ms. term_marks first.tree ++ ms) more.spelled ∙ sym (append_assoc (term_marks first.tree) (added_marks more.tree) (map (mark source) more.rest));
      goes_on = more.goes_on;
      shorter = omega arith;
    }

further_at : (source : Source) (n : ℕ) → Below source n → (due : List Part) (token : Token) (tokens : List Token) (s : Symbol) → token.symbol ≡ s → length tokens < n →
    refusal source.lang (length source.text) (MoreArguments ∷ due) (token ∷ tokens) ≡ None → FoundUpTo ArgumentsTree further_marks source due (token ∷ tokens)
further_at source n below due token tokens symbol.Comma is few h =
    let new : List Part = AnExpression ∷ MoreArguments ∷ [] in
    let first = below.expression (MoreArguments ∷ due) tokens few (after source.lang (length source.text) MoreArguments due token tokens new (rowed source.lang MoreArguments token symbol.Comma (Some new) is refl) h) in
    let a : length first.rest < length tokens = first.shorter in
    let more = below.further due first.rest (omega arith) first.goes_on in
    let b : length more.rest < suc (length first.rest) = more.within in
    record {
      tree = Argument first.tree more.tree;
      rest = more.rest;
      spelled = ap (λ m. m ∷ map (mark source) tokens) (marked source token symbol.Comma is)
          ∙ ap (λ ms. Separator symbol.Comma ∷ ms) (first.spelled ∙ ap (λ ms. expression_marks first.tree ++ ms) more.spelled ∙ sym (append_assoc (expression_marks first.tree) (further_marks more.tree) (map (mark source) more.rest)));
      goes_on = more.goes_on;
      within = omega arith;
    }
further_at source n below due token tokens s is few h = record {
  tree = NoArgument;
  rest = token ∷ tokens;
  spelled = refl;
  goes_on = sym (skipped source.lang (length source.text) MoreArguments due token tokens (rowed source.lang MoreArguments token s None is refl) refl) ∙ h;
  within = omega arith;
}

further : (source : Source) (n : ℕ) → Below source n → FindsUpTo ArgumentsTree further_marks MoreArguments source (suc n)
further source n below due [] few h = record { tree = NoArgument; rest = []; spelled = refl; goes_on = h; within = omega arith }
further source n below due (token ∷ tokens) few h = further_at source n below due token tokens token.symbol refl (omega arith) h

found_below : (source : Source) (n : ℕ) → Below source n
found_below source zero = record {
  factor = λ due tokens few h. absurd (omega arith);
  times = λ due tokens few h. absurd (omega arith);
  term = λ due tokens few h. absurd (omega arith);
  added = λ due tokens few h. absurd (omega arith);
  expression = λ due tokens few h. absurd (omega arith);
  further = λ due tokens few h. absurd (omega arith);
}
found_below source (suc n) = let below = found_below source n in record {
  factor = factor source n below;
  times = times source n below;
  term = term source n below;
  added = added source n below;
  expression = expression source n below;
  further = further source n below;
}

-- an expression up to its semicolon
pub finds_ended : (source : Source) (due : List Part) (tokens : List Token) → refusal source.lang (length source.text) (AnExpression ∷ The symbol.Semicolon ∷ due) tokens ≡ None →
    Found ExpressionTree (λ e. expression_marks e ++ Separator symbol.Semicolon ∷ []) source due tokens
finds_ended source due tokens h = ended source (suc (length tokens)) (found_below source (suc (length tokens))) symbol.Semicolon (λ at word. refl) due tokens (omega arith) h
