-- Where an index expression is due and nothing is refused, the tokens begin with the tree of one.
use Rattle.std.proofs.Common.{◌≡◌, ℕ, zero, suc, List, [], ◌∷◌, ◌++◌, Some, None, length, ◌<◌, map, refl, ap, sym, ◌∙◌, append_assoc, arith}
use Rattle.arr_ast.specs.declared.expression.Sign.{Sign}
use Rattle.arr_ast.specs.declared.expression.Sign.TheVariants.{Plus as PlusSign, Minus as MinusSign}
use Rattle.arr_ast.specs.IndexTree.{Sum, SumOf, Terms, NoTerm, Term, Product, ProductOf, Factors, NoFactor, Times, Factor, Number, Name, Parenthesized}
use Rattle.arr_lex.specs.declared.token.Symbol.{Symbol}
use Rattle.arr_lex.specs.declared.token.Symbol.TheVariants as symbol
use Rattle.arr_lex.specs.declared.token.Token.{Token}
use Rattle.arr_parse.specs.Mark.{Separator, Placed, mark, number_at, Source}
use Rattle.arr_parse.specs.Grammar.{Part, The, AnIndex, MoreIndexTerms, AnIndexTerm, MoreIndexFactors, AnIndexFactor}
use Rattle.arr_parse.specs.Reading.{refusal}
use Rattle.arr_parse.specs.IndexSpelling.{sign_symbol, sum_marks, terms_marks, product_marks, factors_marks, factor_marks}
use Rattle.arr_parse.proofs.Due.{refusal-index, refusal-index_term}
use Rattle.arr_parse.proofs.Finding.{Found, Finds, FoundUpTo, FindsUpTo, marked, rowed, after, no_row, skipped, none_left, separator}

record Below (source : Source) (n : ℕ) : Type 0 where
  factor : Finds Factor factor_marks AnIndexFactor source n
  factors : FindsUpTo Factors factors_marks MoreIndexFactors source n
  product : Finds Product product_marks AnIndexTerm source n
  terms : FindsUpTo Terms terms_marks MoreIndexTerms source n
  sum : Finds Sum sum_marks AnIndex source n

factor_at : (source : Source) (n : ℕ) → Below source n → (due : List Part) (token : Token) (tokens : List Token) (s : Symbol) → token.symbol ≡ s → length tokens < n →
    refusal source.lang (length source.text) (AnIndexFactor ∷ due) (token ∷ tokens) ≡ None → Found Factor factor_marks source due (token ∷ tokens)
factor_at source n below due token tokens (symbol.Number value) is few h = record {
  tree = Number token.start value;
  rest = tokens;
  spelled = ap (λ m. m ∷ map (mark source) tokens) (marked source token (symbol.Number value) is);
  goes_on = after source.lang (length source.text) AnIndexFactor due token tokens [] (rowed source.lang AnIndexFactor token (symbol.Number value) (Some []) is refl) h;
  shorter = omega arith;
}
factor_at source n below due token tokens symbol.Name is few h = record {
  tree = Name token.start (number_at source token);
  rest = tokens;
  spelled = ap (λ m. m ∷ map (mark source) tokens) (marked source token symbol.Name is);
  goes_on = after source.lang (length source.text) AnIndexFactor due token tokens [] (rowed source.lang AnIndexFactor token symbol.Name (Some []) is refl) h;
  shorter = omega arith;
}
factor_at source n below due token tokens symbol.OpenRound is few h =
    let new : List Part = AnIndex ∷ The symbol.CloseRound ∷ [] in
    let inner = below.sum (The symbol.CloseRound ∷ due) tokens few (after source.lang (length source.text) AnIndexFactor due token tokens new (rowed source.lang AnIndexFactor token symbol.OpenRound (Some new) is refl) h) in
    let shut = separator symbol.CloseRound source due inner.rest (λ at word. refl) inner.goes_on in
    record {
      tree = Parenthesized token.start inner.tree;
      rest = shut.rest;
      spelled = ap (λ m. m ∷ map (mark source) tokens) (marked source token symbol.OpenRound is)
          ∙ ap (λ ms. Placed token.start symbol.OpenRound ∷ ms) (inner.spelled ∙ ap (λ ms. sum_marks inner.tree ++ ms) shut.spelled ∙ sym (append_assoc (sum_marks inner.tree) (Separator symbol.CloseRound ∷ []) (map (mark source) shut.rest)));
      goes_on = shut.goes_on;
      shorter = let a : length inner.rest < length tokens = inner.shorter in let b : length shut.rest < length inner.rest = shut.shorter in omega arith;
    }
factor_at source n below due token tokens s is few h = absurd (no_row source.lang (length source.text) AnIndexFactor due token tokens (rowed source.lang AnIndexFactor token s None is refl) refl h)

factor : (source : Source) (n : ℕ) → Below source n → Finds Factor factor_marks AnIndexFactor source (suc n)
factor source n below due [] few h = absurd (none_left source.lang (length source.text) AnIndexFactor due refl h)
factor source n below due (token ∷ tokens) few h = factor_at source n below due token tokens token.symbol refl (omega arith) h

factors_at : (source : Source) (n : ℕ) → Below source n → (due : List Part) (token : Token) (tokens : List Token) (s : Symbol) → token.symbol ≡ s → length tokens < n →
    refusal source.lang (length source.text) (MoreIndexFactors ∷ due) (token ∷ tokens) ≡ None → FoundUpTo Factors factors_marks source due (token ∷ tokens)
factors_at source n below due token tokens symbol.Star is few h =
    let new : List Part = AnIndexFactor ∷ MoreIndexFactors ∷ [] in
    let first = below.factor (MoreIndexFactors ∷ due) tokens few (after source.lang (length source.text) MoreIndexFactors due token tokens new (rowed source.lang MoreIndexFactors token symbol.Star (Some new) is refl) h) in
    let a : length first.rest < length tokens = first.shorter in
    let more = below.factors due first.rest (omega arith) first.goes_on in
    record {
      tree = Times token.start first.tree more.tree;
      rest = more.rest;
      spelled = ap (λ m. m ∷ map (mark source) tokens) (marked source token symbol.Star is)
          ∙ ap (λ ms. Placed token.start symbol.Star ∷ ms) (first.spelled ∙ ap (λ ms. factor_marks first.tree ++ ms) more.spelled ∙ sym (append_assoc (factor_marks first.tree) (factors_marks more.tree) (map (mark source) more.rest)));
      goes_on = more.goes_on;
      within = let b : length more.rest < suc (length first.rest) = more.within in omega arith;
    }
factors_at source n below due token tokens s is few h = record {
  tree = NoFactor;
  rest = token ∷ tokens;
  spelled = refl;
  goes_on = sym (skipped source.lang (length source.text) MoreIndexFactors due token tokens (rowed source.lang MoreIndexFactors token s None is refl) refl) ∙ h;
  within = omega arith;
}

factors : (source : Source) (n : ℕ) → Below source n → FindsUpTo Factors factors_marks MoreIndexFactors source (suc n)
factors source n below due [] few h = record { tree = NoFactor; rest = []; spelled = refl; goes_on = h; within = omega arith }
factors source n below due (token ∷ tokens) few h = factors_at source n below due token tokens token.symbol refl (omega arith) h

product : (source : Source) (n : ℕ) → Below source n → Finds Product product_marks AnIndexTerm source (suc n)
product source n below due tokens few h =
    let first = factor source n below (MoreIndexFactors ∷ due) tokens few (sym (refusal-index_term source.lang (length source.text) due tokens) ∙ h) in
    let a : length first.rest < length tokens = first.shorter in
    let more = below.factors due first.rest (omega arith) first.goes_on in
    let b : length more.rest < suc (length first.rest) = more.within in
    record {
      tree = ProductOf first.tree more.tree;
      rest = more.rest;
      spelled = first.spelled ∙ ap (λ ms. factor_marks first.tree ++ ms) more.spelled ∙ sym (append_assoc (factor_marks first.tree) (factors_marks more.tree) (map (mark source) more.rest));
      goes_on = more.goes_on;
      shorter = omega arith;
    }

term_behind : (source : Source) (n : ℕ) → Below source n → (due : List Part) (token : Token) (tokens : List Token) (sign : Sign) → token.symbol ≡ sign_symbol sign →
    mark source token ≡ Placed token.start (sign_symbol sign) → length tokens < n →
    refusal source.lang (length source.text) (AnIndexTerm ∷ (MoreIndexTerms ∷ due)) tokens ≡ None → FoundUpTo Terms terms_marks source due (token ∷ tokens)
term_behind source n below due token tokens sign is placed few h =
    let first = below.product (MoreIndexTerms ∷ due) tokens few h in
    let a : length first.rest < length tokens = first.shorter in
    let more = below.terms due first.rest (omega arith) first.goes_on in
    record {
      tree = Term sign token.start first.tree more.tree;
      rest = more.rest;
      spelled = ap (λ m. m ∷ map (mark source) tokens) placed
          ∙ ap (λ ms. Placed token.start (sign_symbol sign) ∷ ms) (first.spelled ∙ ap (λ ms. product_marks first.tree ++ ms) more.spelled ∙ sym (append_assoc (product_marks first.tree) (terms_marks more.tree) (map (mark source) more.rest)));
      goes_on = more.goes_on;
      within = let b : length more.rest < suc (length first.rest) = more.within in omega arith;
    }

terms_at : (source : Source) (n : ℕ) → Below source n → (due : List Part) (token : Token) (tokens : List Token) (s : Symbol) → token.symbol ≡ s → length tokens < n →
    refusal source.lang (length source.text) (MoreIndexTerms ∷ due) (token ∷ tokens) ≡ None → FoundUpTo Terms terms_marks source due (token ∷ tokens)
terms_at source n below due token tokens symbol.Plus is few h =
    let new : List Part = AnIndexTerm ∷ MoreIndexTerms ∷ [] in
    term_behind source n below due token tokens PlusSign is (marked source token symbol.Plus is) few (after source.lang (length source.text) MoreIndexTerms due token tokens new (rowed source.lang MoreIndexTerms token symbol.Plus (Some new) is refl) h)
terms_at source n below due token tokens symbol.Minus is few h =
    let new : List Part = AnIndexTerm ∷ MoreIndexTerms ∷ [] in
    term_behind source n below due token tokens MinusSign is (marked source token symbol.Minus is) few (after source.lang (length source.text) MoreIndexTerms due token tokens new (rowed source.lang MoreIndexTerms token symbol.Minus (Some new) is refl) h)
terms_at source n below due token tokens s is few h = record {
  tree = NoTerm;
  rest = token ∷ tokens;
  spelled = refl;
  goes_on = sym (skipped source.lang (length source.text) MoreIndexTerms due token tokens (rowed source.lang MoreIndexTerms token s None is refl) refl) ∙ h;
  within = omega arith;
}

terms : (source : Source) (n : ℕ) → Below source n → FindsUpTo Terms terms_marks MoreIndexTerms source (suc n)
terms source n below due [] few h = record { tree = NoTerm; rest = []; spelled = refl; goes_on = h; within = omega arith }
terms source n below due (token ∷ tokens) few h = terms_at source n below due token tokens token.symbol refl (omega arith) h

sum : (source : Source) (n : ℕ) → Below source n → Finds Sum sum_marks AnIndex source (suc n)
sum source n below due tokens few h =
    let first = product source n below (MoreIndexTerms ∷ due) tokens few (sym (refusal-index source.lang (length source.text) due tokens) ∙ h) in
    let a : length first.rest < length tokens = first.shorter in
    let more = below.terms due first.rest (omega arith) first.goes_on in
    let b : length more.rest < suc (length first.rest) = more.within in
    record {
      tree = SumOf first.tree more.tree;
      rest = more.rest;
      spelled = first.spelled ∙ ap (λ ms. product_marks first.tree ++ ms) more.spelled ∙ sym (append_assoc (product_marks first.tree) (terms_marks more.tree) (map (mark source) more.rest));
      goes_on = more.goes_on;
      shorter = omega arith;
    }

found_below : (source : Source) (n : ℕ) → Below source n
found_below source zero = record {
  factor = λ due tokens few h. absurd (omega arith);
  factors = λ due tokens few h. absurd (omega arith);
  product = λ due tokens few h. absurd (omega arith);
  terms = λ due tokens few h. absurd (omega arith);
  sum = λ due tokens few h. absurd (omega arith);
}
found_below source (suc n) = let below = found_below source n in record {
  factor = factor source n below;
  factors = factors source n below;
  product = product source n below;
  terms = terms source n below;
  sum = sum source n below;
}

pub finds_index : (source : Source) (due : List Part) (tokens : List Token) → refusal source.lang (length source.text) (AnIndex ∷ due) tokens ≡ None → Found Sum sum_marks source due tokens
finds_index source due tokens h = (found_below source (suc (length tokens))).sum due tokens (omega arith) h
