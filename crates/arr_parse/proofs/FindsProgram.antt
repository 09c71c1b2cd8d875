-- Tokens that reading doesn't refuse have a tree.
use Rattle.std.proofs.Common.{◌≡◌, ◌⊎◌, inl, inr, ℕ, zero, suc, List, [], ◌∷◌, ◌++◌, Option, Some, None, length, ◌<◌, map, refl, ap, sym, ◌∙◌, append_assoc, arith}
use Rattle.std.specs.Prelude.{flat_map}
use Rattle.arr_ast.specs.declared.program.Dimension.{Dimension}
use Rattle.arr_ast.specs.declared.program.Dimensions.{Dimensions}
use Rattle.arr_ast.specs.declared.program.Dimensions.TheVariants.{Scalar, Vector, Matrix}
use Rattle.arr_ast.specs.IndexTree.{Sum}
use Rattle.arr_ast.specs.ExpressionTree.{NameTree, IndicesTree, ExpressionTree}
use Rattle.arr_ast.specs.ProgramTree.{StatementTree, Let, Set, SetElement, For, BlockTree, EndOfBlock, Then, TopTree, Output, Inner, InputTree, DefinitionTree, ProgramTree}
use Rattle.arr_ast.specs.declared.lang.Lang.{Lang}
use Rattle.arr_lex.specs.declared.token.Symbol.{Symbol}
use Rattle.arr_lex.specs.declared.token.Symbol.TheVariants as symbol
use Rattle.arr_lex.specs.declared.token.Token.{Token}
use Rattle.arr_parse.specs.Mark.{Mark, Separator, Placed, Named, mark, mark_of, number_at, Source}
use Rattle.arr_parse.specs.Names.{source_of}
use Rattle.arr_parse.specs.Grammar.{Part, The, Inputs, Definitions, Parameters, MoreParameters, FirstDimension, SecondDimension, TopStatements, Statements, AStatement, Block, AnExpression, FirstIndex, AnIndex, AName, ANumber, row}
use Rattle.arr_parse.specs.Reading.{due_after, unless_refused, refusal}
use Rattle.arr_parse.specs.Parsed.{IsTreeOf}
use Rattle.arr_parse.specs.IndexSpelling.{name_marks, sum_marks}
use Rattle.arr_parse.specs.Spelling.{expression_marks}
use Rattle.arr_parse.specs.ProgramSpelling.{statement_marks, block_marks, dimension_spelling, dimensions_spelling, input_marks, further_names_marks, parameters_marks, definition_marks, top_marks}
use Rattle.arr_parse.proofs.Finding.{Found, Finds, FoundUpTo, FindsUpTo, after, no_row, skipped, none_left, marked, rowed, separator}
use Rattle.arr_parse.proofs.FindsIndex.{finds_index}
use Rattle.arr_parse.proofs.FindsExpression.{name_at, maybe_indices_marks, finds_indices, finds_ended, two_or_none}

name_of : (source : Source) (due : List Part) (token : Token) (tokens : List Token) (s : Symbol) → token.symbol ≡ s →
    refusal source.lang (length source.text) (AName ∷ due) (token ∷ tokens) ≡ None → Found NameTree name_marks source due (token ∷ tokens)
name_of source due token tokens symbol.Name is h = record {
  tree = name_at source token;
  rest = tokens;
  spelled = ap (λ m. m ∷ map (mark source) tokens) (marked source token symbol.Name is);
  goes_on = after source.lang (length source.text) AName due token tokens [] (rowed source.lang AName token symbol.Name (Some []) is refl) h;
  shorter = omega arith;
}
name_of source due token tokens s is h = absurd (no_row source.lang (length source.text) AName due token tokens (rowed source.lang AName token s None is refl) refl h)

finds_name : (source : Source) (due : List Part) (tokens : List Token) → refusal source.lang (length source.text) (AName ∷ due) tokens ≡ None → Found NameTree name_marks source due tokens
finds_name source due [] h = absurd (none_left source.lang (length source.text) AName due refl h)
finds_name source due (token ∷ tokens) h = name_of source due token tokens token.symbol refl h

-- `= e ;`
abbrev value_marks : ExpressionTree → List Mark
value_marks value = Separator symbol.Equals ∷ (expression_marks value ++ Separator symbol.Semicolon ∷ [])

finds_value : (source : Source) (due : List Part) (tokens : List Token) → refusal source.lang (length source.text) (The symbol.Equals ∷ AnExpression ∷ The symbol.Semicolon ∷ due) tokens ≡ None → Found ExpressionTree value_marks source due tokens
finds_value source due tokens h =
    let equals = separator symbol.Equals source (AnExpression ∷ The symbol.Semicolon ∷ due) tokens (λ at word. refl) h in
    let value = finds_ended source due equals.rest equals.goes_on in
    let a : length equals.rest < length tokens = equals.shorter in
    let b : length value.rest < length equals.rest = value.shorter in
    record {
      tree = value.tree;
      rest = value.rest;
      spelled = equals.spelled ∙ ap (λ ms. Separator symbol.Equals ∷ ms) value.spelled;
      goes_on = value.goes_on;
      shorter = omega arith;
    }

-- an index expression up to a separator
index_ended : (source : Source) (s : Symbol) → ((at word : ℕ) → mark_of s at word ≡ Separator s) → (due : List Part) (tokens : List Token) →
    refusal source.lang (length source.text) (AnIndex ∷ The s ∷ due) tokens ≡ None → Found Sum (λ e. sum_marks e ++ Separator s ∷ []) source due tokens
index_ended source s separates due tokens h =
    let inner = finds_index source (The s ∷ due) tokens h in
    let shut = separator s source due inner.rest separates inner.goes_on in
    let a : length inner.rest < length tokens = inner.shorter in
    let b : length shut.rest < length inner.rest = shut.shorter in
    record {
      tree = inner.tree;
      rest = shut.rest;
      spelled = inner.spelled ∙ ap (λ ms. sum_marks inner.tree ++ ms) shut.spelled ∙ sym (append_assoc (sum_marks inner.tree) (Separator s ∷ []) (map (mark source) shut.rest));
      goes_on = shut.goes_on;
      shorter = omega arith;
    }

record Below (source : Source) (n : ℕ) : Type 0 where
  statement : Finds StatementTree statement_marks AStatement source n
  statements : FindsUpTo BlockTree block_marks Statements source n

-- what comes after the bracket that opens a block
block_at : (source : Source) (n : ℕ) → Below source n → (due : List Part) (token : Token) (tokens : List Token) (s : Symbol) → token.symbol ≡ s → length tokens < n →
    refusal source.lang (length source.text) (Block ∷ due) (token ∷ tokens) ≡ None →
    Found BlockTree (λ b. Separator symbol.OpenCurly ∷ (block_marks b ++ Separator symbol.CloseCurly ∷ [])) source due (token ∷ tokens)
block_at source n below due token tokens symbol.OpenCurly is few h =
    let new : List Part = Statements ∷ The symbol.CloseCurly ∷ [] in
    let inner = below.statements (The symbol.CloseCurly ∷ due) tokens few (after source.lang (length source.text) Block due token tokens new (rowed source.lang Block token symbol.OpenCurly (Some new) is refl) h) in
    let shut = separator symbol.CloseCurly source due inner.rest (λ at word. refl) inner.goes_on in
    let a : length inner.rest < suc (length tokens) = inner.within in
    let b : length shut.rest < length inner.rest = shut.shorter in
    record {
      tree = inner.tree;
      rest = shut.rest;
      spelled = ap (λ m. m ∷ map (mark source) tokens) (marked source token symbol.OpenCurly is)
          ∙ ap (λ ms. Separator symbol.OpenCurly ∷ ms) (inner.spelled ∙ ap (λ ms. block_marks inner.tree ++ ms) shut.spelled ∙ sym (append_assoc (block_marks inner.tree) (Separator symbol.CloseCurly ∷ []) (map (mark source) shut.rest)));
      goes_on = shut.goes_on;
      shorter = omega arith;
    }
block_at source n below due token tokens s is few h = absurd (no_row source.lang (length source.text) Block due token tokens (rowed source.lang Block token s None is refl) refl h)

block : (source : Source) (n : ℕ) → Below source n → (due : List Part) (tokens : List Token) → length tokens < n →
    refusal source.lang (length source.text) (Block ∷ due) tokens ≡ None → Found BlockTree (λ b. Separator symbol.OpenCurly ∷ (block_marks b ++ Separator symbol.CloseCurly ∷ [])) source due tokens
block source n below due [] few h = absurd (none_left source.lang (length source.text) Block due refl h)
block source n below due (token ∷ tokens) few h = block_at source n below due token tokens token.symbol refl (omega arith) h

-- an assignment after its name
set_behind : (name : NameTree) (indices : Option IndicesTree) (value : ExpressionTree) →
    (statement : StatementTree) × (statement_marks statement ≡ name_marks name ++ (maybe_indices_marks indices ++ value_marks value))
set_behind name None value = (Set name value, refl)
set_behind name (Some indices) value = (SetElement name indices value, refl)

let_at : (source : Source) (due : List Part) (token : Token) (tokens : List Token) → token.symbol ≡ symbol.Let →
    refusal source.lang (length source.text) (AName ∷ The symbol.Equals ∷ AnExpression ∷ The symbol.Semicolon ∷ due) tokens ≡ None → Found StatementTree statement_marks source due (token ∷ tokens)
let_at source due token tokens is h =
    let name = finds_name source (The symbol.Equals ∷ AnExpression ∷ The symbol.Semicolon ∷ due) tokens h in
    let value = finds_value source due name.rest name.goes_on in
    let a : length name.rest < length tokens = name.shorter in
    let b : length value.rest < length name.rest = value.shorter in
    record {
      tree = Let token.start name.tree value.tree;
      rest = value.rest;
      spelled = ap (λ m. m ∷ map (mark source) tokens) (marked source token symbol.Let is)
          ∙ ap (λ ms. Placed token.start symbol.Let ∷ ms) (name.spelled ∙ ap (λ ms. name_marks name.tree ++ ms) value.spelled);
      goes_on = value.goes_on;
      shorter = omega arith;
    }

set_at : (source : Source) (due : List Part) (token : Token) (tokens : List Token) → token.symbol ≡ symbol.Name →
    refusal source.lang (length source.text) (FirstIndex ∷ The symbol.Equals ∷ AnExpression ∷ The symbol.Semicolon ∷ due) tokens ≡ None → Found StatementTree statement_marks source due (token ∷ tokens)
set_at source due token tokens is h =
    let indices = finds_indices source (The symbol.Equals ∷ AnExpression ∷ The symbol.Semicolon ∷ due) tokens h in
    let value = finds_value source due indices.rest indices.goes_on in
    let a : length indices.rest < suc (length tokens) = indices.within in
    let b : length value.rest < length indices.rest = value.shorter in
    let made = set_behind (name_at source token) indices.tree value.tree in
    record {
      tree = made.0;
      rest = value.rest;
      spelled = ap (λ m. m ∷ map (mark source) tokens) (marked source token symbol.Name is)
          ∙ ap (λ ms. Named token.start (number_at source token) ∷ ms)
          (indices.spelled ∙ ap (λ ms. maybe_indices_marks indices.tree ++ ms) value.spelled ∙ sym (append_assoc (maybe_indices_marks indices.tree) (value_marks value.tree) (map (mark source) value.rest)))
          ∙ ap (λ ms. ms ++ map (mark source) value.rest) (sym made.1);
      goes_on = value.goes_on;
      shorter = omega arith;
    }

for_at : (source : Source) (n : ℕ) → Below source n → (due : List Part) (token : Token) (tokens : List Token) → token.symbol ≡ symbol.For → length tokens < n →
    refusal source.lang (length source.text) (AName ∷ The symbol.In ∷ AnIndex ∷ The symbol.Range ∷ AnIndex ∷ Block ∷ due) tokens ≡ None → Found StatementTree statement_marks source due (token ∷ tokens)
for_at source n below due token tokens is few h =
    let name = finds_name source (The symbol.In ∷ AnIndex ∷ The symbol.Range ∷ AnIndex ∷ Block ∷ due) tokens h in
    let a : length name.rest < length tokens = name.shorter in
    let word = separator symbol.In source (AnIndex ∷ The symbol.Range ∷ AnIndex ∷ Block ∷ due) name.rest (λ at w. refl) name.goes_on in
    let b : length word.rest < length name.rest = word.shorter in
    let low = index_ended source symbol.Range (λ at w. refl) (AnIndex ∷ Block ∷ due) word.rest word.goes_on in
    let c : length low.rest < length word.rest = low.shorter in
    let high = finds_index source (Block ∷ due) low.rest low.goes_on in
    let d : length high.rest < length low.rest = high.shorter in
    let body = block source n below due high.rest (omega arith) high.goes_on in
    let e : length body.rest < length high.rest = body.shorter in
    let rest : List Mark = map (mark source) body.rest in
    let inside : List Mark = Separator symbol.OpenCurly ∷ (block_marks body.tree ++ Separator symbol.CloseCurly ∷ []) in
    let upper : List Mark = sum_marks high.tree ++ inside in
    let spelled_upper : map (mark source) low.rest ≡ upper ++ rest =
    high.spelled ∙ ap (λ ms. sum_marks high.tree ++ ms) body.spelled ∙ sym (append_assoc (sum_marks high.tree) inside rest) in
    let spelled_low : map (mark source) word.rest ≡ (sum_marks low.tree ++ (Separator symbol.Range ∷ upper)) ++ rest =
    low.spelled ∙ ap (λ ms. (sum_marks low.tree ++ Separator symbol.Range ∷ []) ++ ms) spelled_upper
    ∙ append_assoc (sum_marks low.tree) (Separator symbol.Range ∷ []) (upper ++ rest)
    ∙ sym (append_assoc (sum_marks low.tree) (Separator symbol.Range ∷ upper) rest) in
    record {
      tree = For token.start name.tree low.tree high.tree body.tree;
      rest = body.rest;
      spelled = ap (λ m. m ∷ map (mark source) tokens) (marked source token symbol.For is)
          ∙ ap (λ ms. Placed token.start symbol.For ∷ ms) (name.spelled ∙ ap (λ ms. name_marks name.tree ++ ms) (word.spelled ∙ ap (λ ms. Separator symbol.In ∷ ms) spelled_low));
      goes_on = body.goes_on;
      shorter = omega arith;
    }

-- what is due after the symbol that begins a statement
statement_behind : (source : Source) (due : List Part) (token : Token) (tokens : List Token) (s : Symbol) (new : List Part) → token.symbol ≡ s → row source.lang AStatement s ≡ Some new →
    refusal source.lang (length source.text) (AStatement ∷ due) (token ∷ tokens) ≡ None → refusal source.lang (length source.text) (new ++ due) tokens ≡ None
statement_behind source due token tokens s new is at h = after source.lang (length source.text) AStatement due token tokens new (rowed source.lang AStatement token s (Some new) is at) h

statement_at : (source : Source) (n : ℕ) → Below source n → (due : List Part) (token : Token) (tokens : List Token) (s : Symbol) → token.symbol ≡ s → length tokens < n →
    refusal source.lang (length source.text) (AStatement ∷ due) (token ∷ tokens) ≡ None → Found StatementTree statement_marks source due (token ∷ tokens)
statement_at source n below due token tokens symbol.Let is few h =
    let_at source due token tokens is (statement_behind source due token tokens symbol.Let (AName ∷ The symbol.Equals ∷ AnExpression ∷ The symbol.Semicolon ∷ []) is refl h)
statement_at source n below due token tokens symbol.Name is few h =
    set_at source due token tokens is (statement_behind source due token tokens symbol.Name (FirstIndex ∷ The symbol.Equals ∷ AnExpression ∷ The symbol.Semicolon ∷ []) is refl h)
statement_at source n below due token tokens symbol.For is few h =
    for_at source n below due token tokens is few (statement_behind source due token tokens symbol.For (AName ∷ The symbol.In ∷ AnIndex ∷ The symbol.Range ∷ AnIndex ∷ Block ∷ []) is refl h)
statement_at source n below due token tokens s is few h = absurd (no_row source.lang (length source.text) AStatement due token tokens (rowed source.lang AStatement token s None is refl) refl h)

statement : (source : Source) (n : ℕ) → Below source n → Finds StatementTree statement_marks AStatement source (suc n)
statement source n below due [] few h = absurd (none_left source.lang (length source.text) AStatement due refl h)
statement source n below due (token ∷ tokens) few h = statement_at source n below due token tokens token.symbol refl (omega arith) h

-- a statement, and those after it in its block
then_more : (source : Source) (n : ℕ) → Below source n → (due : List Part) (token : Token) (tokens : List Token) → length tokens < n →
    Found StatementTree statement_marks source (Statements ∷ due) (token ∷ tokens) → FoundUpTo BlockTree block_marks source due (token ∷ tokens)
then_more source n below due token tokens few first =
    let a : length first.rest < suc (length tokens) = first.shorter in
    let more = below.statements due first.rest (omega arith) first.goes_on in
    let b : length more.rest < suc (length first.rest) = more.within in
    record {
      tree = Then first.tree more.tree;
      rest = more.rest;
      spelled = first.spelled ∙ ap (λ ms. statement_marks first.tree ++ ms) more.spelled ∙ sym (append_assoc (statement_marks first.tree) (block_marks more.tree) (map (mark source) more.rest));
      goes_on = more.goes_on;
      within = omega arith;
    }

-- what is due after the symbol that begins a further statement
more_behind : (source : Source) (due : List Part) (token : Token) (tokens : List Token) (s : Symbol) (new : List Part) → token.symbol ≡ s → row source.lang Statements s ≡ Some new →
    refusal source.lang (length source.text) (Statements ∷ due) (token ∷ tokens) ≡ None → refusal source.lang (length source.text) (new ++ due) tokens ≡ None
more_behind source due token tokens s new is at h = after source.lang (length source.text) Statements due token tokens new (rowed source.lang Statements token s (Some new) is at) h

statements_at : (source : Source) (n : ℕ) → Below source n → (due : List Part) (token : Token) (tokens : List Token) (s : Symbol) → token.symbol ≡ s → length tokens < n →
    refusal source.lang (length source.text) (Statements ∷ due) (token ∷ tokens) ≡ None → FoundUpTo BlockTree block_marks source due (token ∷ tokens)
statements_at source n below due token tokens symbol.Let is few h =
    then_more source n below due token tokens few (let_at source (Statements ∷ due) token tokens is
    (more_behind source due token tokens symbol.Let (AName ∷ The symbol.Equals ∷ AnExpression ∷ The symbol.Semicolon ∷ Statements ∷ []) is refl h))
statements_at source n below due token tokens symbol.Name is few h =
    then_more source n below due token tokens few (set_at source (Statements ∷ due) token tokens is
    (more_behind source due token tokens symbol.Name (FirstIndex ∷ The symbol.Equals ∷ AnExpression ∷ The symbol.Semicolon ∷ Statements ∷ []) is refl h))
statements_at source n below due token tokens symbol.For is few h =
    then_more source n below due token tokens few (for_at source n below (Statements ∷ due) token tokens is few
    (more_behind source due token tokens symbol.For (AName ∷ The symbol.In ∷ AnIndex ∷ The symbol.Range ∷ AnIndex ∷ Block ∷ Statements ∷ []) is refl h))
statements_at source n below due token tokens s is few h = record {
  tree = EndOfBlock;
  rest = token ∷ tokens;
  spelled = refl;
  goes_on = sym (skipped source.lang (length source.text) Statements due token tokens (rowed source.lang Statements token s None is refl) refl) ∙ h;
  within = omega arith;
}

statements : (source : Source) (n : ℕ) → Below source n → FindsUpTo BlockTree block_marks Statements source (suc n)
statements source n below due [] few h = record { tree = EndOfBlock; rest = []; spelled = refl; goes_on = h; within = omega arith }
statements source n below due (token ∷ tokens) few h = statements_at source n below due token tokens token.symbol refl (omega arith) h

found_below : (source : Source) (n : ℕ) → Below source n
found_below source zero = record {
  statement = λ due tokens few h. absurd (omega arith);
  statements = λ due tokens few h. absurd (omega arith);
}
found_below source (suc n) = let below = found_below source n in record {
  statement = statement source n below;
  statements = statements source n below;
}

-- The rest of a program's top level: its statements.
record Tops (source : Source) (tokens : List Token) : Type 0 where
  trees : List TopTree
  spelled : map (mark source) tokens ≡ flat_map top_marks trees

-- a statement of the top level, and those after it
tops_behind : (source : Source) (token : Token) (tokens : List Token) (first : Found TopTree top_marks source (TopStatements ∷ []) (token ∷ tokens)) → Tops source first.rest → Tops source (token ∷ tokens)
tops_behind source token tokens first more = record {
  trees = first.tree ∷ more.trees;
  spelled = first.spelled ∙ ap (λ ms. top_marks first.tree ++ ms) more.spelled;
}

inner_of : (source : Source) (token : Token) (tokens : List Token) → Found StatementTree statement_marks source (TopStatements ∷ []) (token ∷ tokens) → Found TopTree top_marks source (TopStatements ∷ []) (token ∷ tokens)
inner_of source token tokens found = record { tree = Inner found.tree; rest = found.rest; spelled = found.spelled; goes_on = found.goes_on; shorter = found.shorter }

output_at : (source : Source) (token : Token) (tokens : List Token) → token.symbol ≡ symbol.Output →
    refusal source.lang (length source.text) (AnExpression ∷ The symbol.Semicolon ∷ TopStatements ∷ []) tokens ≡ None → Found TopTree top_marks source (TopStatements ∷ []) (token ∷ tokens)
output_at source token tokens is h =
    let value = finds_ended source (TopStatements ∷ []) tokens h in
    record {
      tree = Output token.start value.tree;
      rest = value.rest;
      spelled = ap (λ m. m ∷ map (mark source) tokens) (marked source token symbol.Output is) ∙ ap (λ ms. Placed token.start symbol.Output ∷ ms) value.spelled;
      goes_on = value.goes_on;
      shorter = let a : length value.rest < length tokens = value.shorter in omega arith;
    }

-- where nothing is due, a token is refused
nothing_due : (lang : Lang) (end : ℕ) (token : Token) (tokens : List Token) → refusal lang end [] (token ∷ tokens) ≡ None → ⊥
nothing_due lang end token tokens h = cc

top_behind : (source : Source) (token : Token) (tokens : List Token) (s : Symbol) (new : List Part) → token.symbol ≡ s → row source.lang TopStatements s ≡ Some new →
    refusal source.lang (length source.text) (TopStatements ∷ []) (token ∷ tokens) ≡ None → refusal source.lang (length source.text) (new ++ []) tokens ≡ None
top_behind source token tokens s new is at h = after source.lang (length source.text) TopStatements [] token tokens new (rowed source.lang TopStatements token s (Some new) is at) h

first_top : (source : Source) (token : Token) (tokens : List Token) (s : Symbol) → token.symbol ≡ s →
    refusal source.lang (length source.text) (TopStatements ∷ []) (token ∷ tokens) ≡ None → Found TopTree top_marks source (TopStatements ∷ []) (token ∷ tokens)
first_top source token tokens symbol.Output is h =
    output_at source token tokens is (top_behind source token tokens symbol.Output (AnExpression ∷ The symbol.Semicolon ∷ TopStatements ∷ []) is refl h)
first_top source token tokens symbol.Let is h =
    inner_of source token tokens (let_at source (TopStatements ∷ []) token tokens is
    (top_behind source token tokens symbol.Let (AName ∷ The symbol.Equals ∷ AnExpression ∷ The symbol.Semicolon ∷ TopStatements ∷ []) is refl h))
first_top source token tokens symbol.Name is h =
    inner_of source token tokens (set_at source (TopStatements ∷ []) token tokens is
    (top_behind source token tokens symbol.Name (FirstIndex ∷ The symbol.Equals ∷ AnExpression ∷ The symbol.Semicolon ∷ TopStatements ∷ []) is refl h))
first_top source token tokens symbol.For is h =
    let n : ℕ = suc (length tokens) in
    inner_of source token tokens (for_at source n (found_below source n) (TopStatements ∷ []) token tokens is (omega arith)
    (top_behind source token tokens symbol.For (AName ∷ The symbol.In ∷ AnIndex ∷ The symbol.Range ∷ AnIndex ∷ Block ∷ TopStatements ∷ []) is refl h))
first_top source token tokens s is h =
    absurd (nothing_due source.lang (length source.text) token tokens (sym (skipped source.lang (length source.text) TopStatements [] token tokens (rowed source.lang TopStatements token s None is refl) refl) ∙ h))

finds_tops : (source : Source) (n : ℕ) (tokens : List Token) → length tokens < n → refusal source.lang (length source.text) (TopStatements ∷ []) tokens ≡ None → Tops source tokens
finds_tops source zero tokens few h = absurd (omega arith)
finds_tops source (suc n) [] few h = record { trees = []; spelled = refl }
finds_tops source (suc n) (token ∷ tokens) few h =
    let first = first_top source token tokens token.symbol refl h in
    let a : length first.rest < suc (length tokens) = first.shorter in
    tops_behind source token tokens first (finds_tops source n first.rest (omega arith) first.goes_on)

-- a number up to the bracket that closes it
abbrev size_marks : Dimension → List Mark
size_marks d = Placed d.at (symbol.Number d.size) ∷ (Separator symbol.CloseSquare ∷ [])

size_at : (source : Source) (due : List Part) (token : Token) (tokens : List Token) (s : Symbol) → token.symbol ≡ s →
    refusal source.lang (length source.text) (ANumber ∷ The symbol.CloseSquare ∷ due) (token ∷ tokens) ≡ None → Found Dimension size_marks source due (token ∷ tokens)
size_at source due token tokens (symbol.Number value) is h =
    let shut = separator symbol.CloseSquare source due tokens (λ at word. refl)
    (after source.lang (length source.text) ANumber (The symbol.CloseSquare ∷ due) token tokens [] (rowed source.lang ANumber token (symbol.Number value) (Some []) is refl) h) in
    record {
      tree = record { at = token.start; size = value };
      rest = shut.rest;
      spelled = ap (λ m. m ∷ map (mark source) tokens) (marked source token (symbol.Number value) is) ∙ ap (λ ms. Placed token.start (symbol.Number value) ∷ ms) shut.spelled;
      goes_on = shut.goes_on;
      shorter = let a : length shut.rest < length tokens = shut.shorter in omega arith;
    }
size_at source due token tokens s is h = absurd (no_row source.lang (length source.text) ANumber (The symbol.CloseSquare ∷ due) token tokens (rowed source.lang ANumber token s None is refl) refl h)

finds_size : (source : Source) (due : List Part) (tokens : List Token) → refusal source.lang (length source.text) (ANumber ∷ The symbol.CloseSquare ∷ due) tokens ≡ None → Found Dimension size_marks source due tokens
finds_size source due [] h = absurd (none_left source.lang (length source.text) ANumber (The symbol.CloseSquare ∷ due) refl h)
finds_size source due (token ∷ tokens) h = size_at source due token tokens token.symbol refl h

abbrev maybe_dimension : Option Dimension → List Mark
maybe_dimension None = []
maybe_dimension (Some d) = dimension_spelling d

second_at : (source : Source) (due : List Part) (token : Token) (tokens : List Token) (s : Symbol) → token.symbol ≡ s →
    refusal source.lang (length source.text) (SecondDimension ∷ due) (token ∷ tokens) ≡ None → FoundUpTo (Option Dimension) maybe_dimension source due (token ∷ tokens)
second_at source due token tokens symbol.OpenSquare is h =
    let new : List Part = ANumber ∷ The symbol.CloseSquare ∷ [] in
    let found = finds_size source due tokens (after source.lang (length source.text) SecondDimension due token tokens new (rowed source.lang SecondDimension token symbol.OpenSquare (Some new) is refl) h) in
    record {
      tree = Some found.tree;
      rest = found.rest;
      spelled = ap (λ m. m ∷ map (mark source) tokens) (marked source token symbol.OpenSquare is) ∙ ap (λ ms. Separator symbol.OpenSquare ∷ ms) found.spelled;
      goes_on = found.goes_on;
      within = let a : length found.rest < length tokens = found.shorter in omega arith;
    }
second_at source due token tokens s is h = record {
  tree = None;
  rest = token ∷ tokens;
  spelled = refl;
  goes_on = sym (skipped source.lang (length source.text) SecondDimension due token tokens (rowed source.lang SecondDimension token s None is refl) refl) ∙ h;
  within = omega arith;
}

second : (source : Source) (due : List Part) (tokens : List Token) → refusal source.lang (length source.text) (SecondDimension ∷ due) tokens ≡ None → FoundUpTo (Option Dimension) maybe_dimension source due tokens
second source due [] h = record { tree = None; rest = []; spelled = refl; goes_on = h; within = omega arith }
second source due (token ∷ tokens) h = second_at source due token tokens token.symbol refl h

dimensions_of : (n : Dimension) (m : Option Dimension) → (d : Dimensions) × (dimensions_spelling d ≡ dimension_spelling n ++ maybe_dimension m)
dimensions_of n None = (Vector n, refl)
dimensions_of n (Some m) = (Matrix n m, refl)

dimensions_at : (source : Source) (due : List Part) (token : Token) (tokens : List Token) (s : Symbol) → token.symbol ≡ s →
    refusal source.lang (length source.text) (FirstDimension ∷ due) (token ∷ tokens) ≡ None → FoundUpTo Dimensions dimensions_spelling source due (token ∷ tokens)
dimensions_at source due token tokens symbol.OpenSquare is h =
    let new : List Part = ANumber ∷ The symbol.CloseSquare ∷ SecondDimension ∷ [] in
    let first = finds_size source (SecondDimension ∷ due) tokens (after source.lang (length source.text) FirstDimension due token tokens new (rowed source.lang FirstDimension token symbol.OpenSquare (Some new) is refl) h) in
    let more = second source due first.rest first.goes_on in
    let a : length first.rest < length tokens = first.shorter in
    let b : length more.rest < suc (length first.rest) = more.within in
    let made = dimensions_of first.tree more.tree in
    record {
      tree = made.0;
      rest = more.rest;
      spelled = ap (λ m. m ∷ map (mark source) tokens) (marked source token symbol.OpenSquare is)
          ∙ ap (λ ms. Separator symbol.OpenSquare ∷ ms) (first.spelled ∙ ap (λ ms. size_marks first.tree ++ ms) more.spelled)
          ∙ ap (λ ms. ms ++ map (mark source) more.rest) (sym made.1);
      goes_on = more.goes_on;
      within = omega arith;
    }
dimensions_at source due token tokens s is h = record {
  tree = Scalar;
  rest = token ∷ tokens;
  spelled = refl;
  goes_on = sym (skipped source.lang (length source.text) FirstDimension due token tokens (rowed source.lang FirstDimension token s None is refl) refl) ∙ h;
  within = omega arith;
}

finds_dimensions : (source : Source) (due : List Part) (tokens : List Token) → refusal source.lang (length source.text) (FirstDimension ∷ due) tokens ≡ None → FoundUpTo Dimensions dimensions_spelling source due tokens
finds_dimensions source due [] h = record { tree = Scalar; rest = []; spelled = refl; goes_on = h; within = omega arith }
finds_dimensions source due (token ∷ tokens) h = dimensions_at source due token tokens token.symbol refl h

input_at : (source : Source) (token : Token) (tokens : List Token) → token.symbol ≡ symbol.Input →
    refusal source.lang (length source.text) (AName ∷ FirstDimension ∷ The symbol.Semicolon ∷ Inputs ∷ []) tokens ≡ None → Found InputTree input_marks source (Inputs ∷ []) (token ∷ tokens)
input_at source token tokens is h =
    let name = finds_name source (FirstDimension ∷ The symbol.Semicolon ∷ Inputs ∷ []) tokens h in
    let sizes = finds_dimensions source (The symbol.Semicolon ∷ Inputs ∷ []) name.rest name.goes_on in
    let shut = separator symbol.Semicolon source (Inputs ∷ []) sizes.rest (λ at word. refl) sizes.goes_on in
    let a : length name.rest < length tokens = name.shorter in
    let b : length sizes.rest < suc (length name.rest) = sizes.within in
    let c : length shut.rest < length sizes.rest = shut.shorter in
    record {
      tree = record { at = token.start; name = name.tree; dimensions = sizes.tree };
      rest = shut.rest;
      spelled = ap (λ m. m ∷ map (mark source) tokens) (marked source token symbol.Input is)
          ∙ ap (λ ms. Placed token.start symbol.Input ∷ ms) (name.spelled ∙ ap (λ ms. name_marks name.tree ++ ms)
          (sizes.spelled ∙ ap (λ ms. dimensions_spelling sizes.tree ++ ms) shut.spelled ∙ sym (append_assoc (dimensions_spelling sizes.tree) (Separator symbol.Semicolon ∷ []) (map (mark source) shut.rest))));
      goes_on = shut.goes_on;
      shorter = omega arith;
    }

-- ---- definitions

comma : (s : Symbol) → (s ≡ symbol.Comma) ⊎ ((lang : Lang) (left : ℕ) → row lang (MoreParameters left) s ≡ None)
comma symbol.Comma = inl refl
comma s = inr (λ lang left. refl)

no_names : (source : Source) (left : ℕ) (due : List Part) (token : Token) (tokens : List Token) → row source.lang (MoreParameters left) token.symbol ≡ None →
    refusal source.lang (length source.text) (MoreParameters left ∷ due) (token ∷ tokens) ≡ None → FoundUpTo (List NameTree) further_names_marks source due (token ∷ tokens)
no_names source left due token tokens none h = record {
  tree = [];
  rest = token ∷ tokens;
  spelled = refl;
  goes_on = sym (skipped source.lang (length source.text) (MoreParameters left) due token tokens none refl) ∙ h;
  within = omega arith;
}

-- the names after the first parameter, of which so many may follow
finds_names : (source : Source) (left : ℕ) (due : List Part) (tokens : List Token) → refusal source.lang (length source.text) (MoreParameters left ∷ due) tokens ≡ None → FoundUpTo (List NameTree) further_names_marks source due tokens
finds_names source zero due [] h = record { tree = []; rest = []; spelled = refl; goes_on = h; within = omega arith }
finds_names source zero due (token ∷ tokens) h = elim (comma token.symbol) [
  | inl is ↦ no_names source zero due token tokens (rowed source.lang (MoreParameters zero) token symbol.Comma None is refl) h
  | inr none ↦ no_names source zero due token tokens (none source.lang zero) h
]
finds_names source (suc left) due [] h = record { tree = []; rest = []; spelled = refl; goes_on = h; within = omega arith }
finds_names source (suc left) due (token ∷ tokens) h = elim (comma token.symbol) [
  | inl is ↦
      let new : List Part = AName ∷ MoreParameters left ∷ [] in
      let name = finds_name source (MoreParameters left ∷ due) tokens (after source.lang (length source.text) (MoreParameters (suc left)) due token tokens new (rowed source.lang (MoreParameters (suc left)) token symbol.Comma (Some new) is refl) h) in
      let a : length name.rest < length tokens = name.shorter in
      let more = finds_names source left due name.rest name.goes_on in
      let b : length more.rest < suc (length name.rest) = more.within in
      record {
        tree = name.tree ∷ more.tree;
        rest = more.rest;
        spelled = ap (λ m. m ∷ map (mark source) tokens) (marked source token symbol.Comma is)
            ∙ ap (λ ms. Separator symbol.Comma ∷ ms) (name.spelled ∙ ap (λ ms. name_marks name.tree ++ ms) more.spelled);
        goes_on = more.goes_on;
        within = omega arith;
      }
  | inr none ↦ no_names source (suc left) due token tokens (none source.lang (suc left)) h
]

-- parameters with the place of the parenthesis that opens them
record Names : Type 0 where
  parenthesis : ℕ
  names : List NameTree

abbrev names_marks : Names → List Mark
names_marks found = Placed found.parenthesis symbol.OpenRound ∷ (parameters_marks found.names ++ Separator symbol.CloseRound ∷ [])

parameters_at : (source : Source) (due : List Part) (token : Token) (tokens : List Token) (s : Symbol) → token.symbol ≡ s →
    refusal source.lang (length source.text) (Parameters ∷ due) (token ∷ tokens) ≡ None → Found Names names_marks source due (token ∷ tokens)
parameters_at source due token tokens symbol.OpenRound is h =
    let new : List Part = AName ∷ MoreParameters 7 ∷ The symbol.CloseRound ∷ [] in
    let name = finds_name source (MoreParameters 7 ∷ The symbol.CloseRound ∷ due) tokens (after source.lang (length source.text) Parameters due token tokens new (rowed source.lang Parameters token symbol.OpenRound (Some new) is refl) h) in
    let a : length name.rest < length tokens = name.shorter in
    let more = finds_names source 7 (The symbol.CloseRound ∷ due) name.rest name.goes_on in
    let b : length more.rest < suc (length name.rest) = more.within in
    let shut = separator symbol.CloseRound source due more.rest (λ at word. refl) more.goes_on in
    let c : length shut.rest < length more.rest = shut.shorter in
    let end : List Mark = Separator symbol.CloseRound ∷ [] in
    record {
      tree = record { parenthesis = token.start; names = name.tree ∷ more.tree };
      rest = shut.rest;
      spelled = ap (λ m. m ∷ map (mark source) tokens) (marked source token symbol.OpenRound is)
          ∙ ap (λ ms. Placed token.start symbol.OpenRound ∷ ms) (name.spelled ∙ ap (λ ms. name_marks name.tree ++ ms)
          (more.spelled ∙ ap (λ ms. further_names_marks more.tree ++ ms) shut.spelled ∙ sym (append_assoc (further_names_marks more.tree) end (map (mark source) shut.rest))));
      goes_on = shut.goes_on;
      shorter = omega arith;
    }
parameters_at source due token tokens s is h = absurd (no_row source.lang (length source.text) Parameters due token tokens (rowed source.lang Parameters token s None is refl) refl h)

finds_parameters : (source : Source) (due : List Part) (tokens : List Token) → refusal source.lang (length source.text) (Parameters ∷ due) tokens ≡ None → Found Names names_marks source due tokens
finds_parameters source due [] h = absurd (none_left source.lang (length source.text) Parameters due refl h)
finds_parameters source due (token ∷ tokens) h = parameters_at source due token tokens token.symbol refl h

abbrev value_parts : List Part
value_parts = The symbol.Equals ∷ AnExpression ∷ The symbol.Semicolon ∷ Definitions ∷ []

definition_at : (source : Source) (token : Token) (tokens : List Token) → token.symbol ≡ symbol.Def →
    refusal source.lang (length source.text) (AName ∷ Parameters ∷ value_parts) tokens ≡ None → Found DefinitionTree definition_marks source (Definitions ∷ []) (token ∷ tokens)
definition_at source token tokens is h =
    let name = finds_name source (Parameters ∷ value_parts) tokens h in
    let a : length name.rest < length tokens = name.shorter in
    let names = finds_parameters source value_parts name.rest name.goes_on in
    let b : length names.rest < length name.rest = names.shorter in
    let value = finds_value source (Definitions ∷ []) names.rest names.goes_on in
    let c : length value.rest < length names.rest = value.shorter in
    let rest : List Mark = map (mark source) value.rest in
    let inside : List Mark = parameters_marks names.tree.names in
    let spelled_names : map (mark source) name.rest ≡ Placed names.tree.parenthesis symbol.OpenRound ∷ ((inside ++ (Separator symbol.CloseRound ∷ value_marks value.tree)) ++ rest) =
    names.spelled ∙ ap (λ ms. names_marks names.tree ++ ms) value.spelled
    ∙ ap (λ ms. Placed names.tree.parenthesis symbol.OpenRound ∷ ms) (append_assoc inside (Separator symbol.CloseRound ∷ []) (value_marks value.tree ++ rest)
    ∙ sym (append_assoc inside (Separator symbol.CloseRound ∷ value_marks value.tree) rest)) in
    record {
      tree = record { at = token.start; name = name.tree; parenthesis = names.tree.parenthesis; parameters = names.tree.names; body = value.tree };
      rest = value.rest;
      spelled = ap (λ m. m ∷ map (mark source) tokens) (marked source token symbol.Def is)
          ∙ ap (λ ms. Placed token.start symbol.Def ∷ ms) (name.spelled ∙ ap (λ ms. name_marks name.tree ++ ms) spelled_names);
      goes_on = value.goes_on;
      shorter = omega arith;
    }

-- a definition, where one may come
definition_found : (source : Source) (token : Token) (tokens : List Token) → token.symbol ≡ symbol.Def →
    refusal source.lang (length source.text) (Definitions ∷ []) (token ∷ tokens) ≡ None → Found DefinitionTree definition_marks source (Definitions ∷ []) (token ∷ tokens)
definition_found source token tokens is h =
    let new : List Part = AName ∷ Parameters ∷ value_parts in
    elim (two_or_none source.lang new) [
      | inl there ↦ definition_at source token tokens is (after source.lang (length source.text) Definitions [] token tokens new (rowed source.lang Definitions token symbol.Def (Some new) is there) h)
      | inr none ↦ absurd (nothing_due source.lang (length source.text) token tokens (sym (skipped source.lang (length source.text) Definitions [] token tokens (rowed source.lang Definitions token symbol.Def None is none) refl) ∙ h))
    ]

-- The rest of a program after its inputs: definitions, then the statements of the top level.
record After (source : Source) (tokens : List Token) : Type 0 where
  definitions : List DefinitionTree
  tops : List TopTree
  spelled : map (mark source) tokens ≡ flat_map definition_marks definitions ++ flat_map top_marks tops

-- but for a definition's word, definitions and top statements have one row
no_definition : (s : Symbol) → (s ≡ symbol.Def) ⊎ ((lang : Lang) → row lang Definitions s ≡ row lang TopStatements s)
no_definition symbol.Def = inl refl
no_definition s = inr (λ lang. refl)

as_top : (lang : Lang) (end : ℕ) (token : Token) (tokens : List Token) → row lang Definitions token.symbol ≡ row lang TopStatements token.symbol → refusal lang end (Definitions ∷ []) (token ∷ tokens) ≡ refusal lang end (TopStatements ∷ []) (token ∷ tokens)
as_top lang end token tokens same = ap (λ r. unless_refused token.start (due_after r [] None) (λ due. refusal lang end due tokens)) same

only_tops : (source : Source) (tokens : List Token) → Tops source tokens → After source tokens
only_tops source tokens tops = record { definitions = []; tops = tops.trees; spelled = tops.spelled }

finds_after : (source : Source) (n : ℕ) (tokens : List Token) → length tokens < n → refusal source.lang (length source.text) (Definitions ∷ []) tokens ≡ None → After source tokens
finds_after source zero tokens few h = absurd (omega arith)
finds_after source (suc n) [] few h = record { definitions = []; tops = []; spelled = refl }
finds_after source (suc n) (token ∷ tokens) few h = elim (no_definition token.symbol) [
  | inl is ↦
      let first = definition_found source token tokens is h in
      let a : length first.rest < suc (length tokens) = first.shorter in
      let more = finds_after source n first.rest (omega arith) first.goes_on in
      record {
        definitions = first.tree ∷ more.definitions;
        tops = more.tops;
        spelled = first.spelled ∙ ap (λ ms. definition_marks first.tree ++ ms) more.spelled ∙ sym (append_assoc (definition_marks first.tree) (flat_map definition_marks more.definitions) (flat_map top_marks more.tops));
      }
  | inr same ↦ only_tops source (token ∷ tokens) (finds_tops source (suc n) (token ∷ tokens) few (sym (as_top source.lang (length source.text) token tokens (same source.lang)) ∙ h))
]

-- A program: inputs, then definitions, then the statements of the top level.
record Whole (source : Source) (tokens : List Token) : Type 0 where
  inputs : List InputTree
  definitions : List DefinitionTree
  tops : List TopTree
  spelled : map (mark source) tokens ≡ flat_map input_marks inputs ++ (flat_map definition_marks definitions ++ flat_map top_marks tops)

-- but for an input's word, inputs and definitions have one row
no_input : (s : Symbol) → (s ≡ symbol.Input) ⊎ ((lang : Lang) → row lang Inputs s ≡ row lang Definitions s)
no_input symbol.Input = inl refl
no_input s = inr (λ lang. refl)

as_definition : (lang : Lang) (end : ℕ) (token : Token) (tokens : List Token) → row lang Inputs token.symbol ≡ row lang Definitions token.symbol → refusal lang end (Inputs ∷ []) (token ∷ tokens) ≡ refusal lang end (Definitions ∷ []) (token ∷ tokens)
as_definition lang end token tokens same = ap (λ r. unless_refused token.start (due_after r [] None) (λ due. refusal lang end due tokens)) same

no_inputs : (source : Source) (tokens : List Token) → After source tokens → Whole source tokens
no_inputs source tokens found = record { inputs = []; definitions = found.definitions; tops = found.tops; spelled = found.spelled }

finds_whole : (source : Source) (n : ℕ) (tokens : List Token) → length tokens < n → refusal source.lang (length source.text) (Inputs ∷ []) tokens ≡ None → Whole source tokens
finds_whole source zero tokens few h = absurd (omega arith)
finds_whole source (suc n) [] few h = record { inputs = []; definitions = []; tops = []; spelled = refl }
finds_whole source (suc n) (token ∷ tokens) few h = elim (no_input token.symbol) [
  | inl is ↦
      let new : List Part = AName ∷ FirstDimension ∷ The symbol.Semicolon ∷ Inputs ∷ [] in
      let first = input_at source token tokens is (after source.lang (length source.text) Inputs [] token tokens new (rowed source.lang Inputs token symbol.Input (Some new) is refl) h) in
      let a : length first.rest < suc (length tokens) = first.shorter in
      let more = finds_whole source n first.rest (omega arith) first.goes_on in
      record {
        inputs = first.tree ∷ more.inputs;
        definitions = more.definitions;
        tops = more.tops;
        spelled = first.spelled ∙ ap (λ ms. input_marks first.tree ++ ms) more.spelled
            ∙ sym (append_assoc (input_marks first.tree) (flat_map input_marks more.inputs) (flat_map definition_marks more.definitions ++ flat_map top_marks more.tops));
      }
  | inr same ↦ no_inputs source (token ∷ tokens) (finds_after source (suc n) (token ∷ tokens) few (sym (as_definition source.lang (length source.text) token tokens (same source.lang)) ∙ h))
]

pub read_or_refused : (lang : Lang) (text : List ℕ) (tokens : List Token) → refusal lang (length text) (Inputs ∷ []) tokens ≡ None → (tree : ProgramTree) × IsTreeOf lang text tokens tree
read_or_refused lang text tokens h =
    let whole = finds_whole (source_of lang text tokens) (suc (length tokens)) tokens (omega arith) h in
    (record { inputs = whole.inputs; definitions = whole.definitions; statements = whole.tops; end = length text }, record { spelled = whole.spelled; end = refl })
