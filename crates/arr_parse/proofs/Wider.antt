-- Tokens that the first language reads are read in the second: what the second adds begins where the first refuses.
use Rattle.std.proofs.Common.{◌≡◌, ◌⊎◌, inl, inr, ℕ, zero, suc, Bool, true, false, List, [], ◌∷◌, ◌++◌, Option, Some, None, length, refl, ap, sym, subst, ◌∙◌, append_assoc}
use Rattle.std.specs.Prelude.{if◌then◌else◌, nat_lt}
use Rattle.arr_ast.specs.declared.lang.Lang.TheVariants.{One, Two}
use Rattle.arr_ast.specs.ProgramTree.{ProgramTree}
use Rattle.arr_lex.specs.declared.token.Symbol.{Symbol}
use Rattle.arr_lex.specs.declared.token.Symbol.TheVariants as symbol
use Rattle.arr_lex.specs.declared.token.Token.{Token}
use Rattle.arr_parse.specs.Grammar.{Part, Inputs, Definitions, Parameters, MoreParameters, FirstDimension, SecondDimension, TopStatements, ATopStatement, Statements, AStatement, Block, AnExpression, MoreTerms, ATerm, MoreFactors, AFactor, EndOfNegation, AfterName, MoreArguments, OneArgument, TwoArguments, FirstIndex, SecondIndex, AnIndex, MoreIndexTerms, AnIndexTerm, MoreIndexFactors, AnIndexFactor, AName, ANumber, The, is_the, followed_by, factor_row, term_row, index_factor_row, index_term_row, statement_row, top_statement_row, row, may_be_empty}
use Rattle.arr_parse.specs.Reading.{levels, taken, due_after, unless_refused, refusal}
use Rattle.arr_parse.specs.Parsed.{IsTreeOf}
use Rattle.arr_parse.specs.declared.refused.ParseRefused.{ParseRefused}
use Rattle.arr_parse.specs.declared.refused.ParseRefused.TheVariants.{Nesting}

-- After what may end with a name in an expression, the first language takes no parenthesis.
abbrev Claims : Part → List Part → Type 0
Claims AnExpression due = taken One symbol.OpenRound due ≡ None
Claims MoreTerms due = taken One symbol.OpenRound due ≡ None
Claims ATerm due = taken One symbol.OpenRound due ≡ None
Claims MoreFactors due = taken One symbol.OpenRound due ≡ None
Claims AFactor due = taken One symbol.OpenRound due ≡ None
Claims AfterName due = taken One symbol.OpenRound due ≡ None
Claims MoreArguments due = taken One symbol.OpenRound due ≡ None
Claims part due = Unit {0}

abbrev Shut : List Part → Type 0
Shut [] = Unit {0}
Shut (part ∷ due) = Claims part due × Shut due

-- the same of what is due after a row
abbrev ShutAfter : Option (List Part) → List Part → Type 0
ShutAfter None due = Unit {0}
ShutAfter (Some new) due = Shut (new ++ due)

followed_shut : (new : Option (List Part)) (part : Part) (due : List Part) → ShutAfter new (part ∷ due) → ShutAfter (followed_by part new) due
followed_shut None part due shut = tt
followed_shut (Some new) part due shut = subst Shut (sym (append_assoc new (part ∷ []) due)) shut

-- ---- rows

factor_shut : (s : Symbol) (due : List Part) → taken One symbol.OpenRound due ≡ None → Shut due → ShutAfter (factor_row s) due
factor_shut symbol.Minus due none shut = (none, (tt, shut))
factor_shut (symbol.Number value) due none shut = shut
factor_shut symbol.Name due none shut = (none, shut)
factor_shut symbol.OpenRound due none shut = (refl, (tt, shut))
factor_shut symbol.Sum due none shut = (tt, shut)
factor_shut symbol.Transpose due none shut = (tt, shut)
factor_shut symbol.Scale due none shut = (tt, shut)
factor_shut symbol.Dot due none shut = (tt, shut)
factor_shut symbol.MatMul due none shut = (tt, shut)
factor_shut s due none shut = tt

term_shut : (s : Symbol) (due : List Part) → taken One symbol.OpenRound due ≡ None → Shut due → ShutAfter (term_row s) due
term_shut s due none shut = followed_shut (factor_row s) MoreFactors due (factor_shut s (MoreFactors ∷ due) none (none, shut))

index_factor_shut : (s : Symbol) (due : List Part) → Shut due → ShutAfter (index_factor_row s) due
index_factor_shut (symbol.Number value) due shut = shut
index_factor_shut symbol.Name due shut = shut
index_factor_shut symbol.OpenRound due shut = (tt, (tt, shut))
index_factor_shut s due shut = tt

index_term_shut : (s : Symbol) (due : List Part) → Shut due → ShutAfter (index_term_row s) due
index_term_shut s due shut = followed_shut (index_factor_row s) MoreIndexFactors due (index_factor_shut s (MoreIndexFactors ∷ due) (tt, shut))

statement_shut : (s : Symbol) (due : List Part) → Shut due → ShutAfter (statement_row s) due
statement_shut symbol.Let due shut = (tt, (tt, (refl, (tt, shut))))
statement_shut symbol.Name due shut = (tt, (tt, (refl, (tt, shut))))
statement_shut symbol.For due shut = (tt, (tt, (tt, (tt, (tt, (tt, shut))))))
statement_shut s due shut = tt

top_shut : (s : Symbol) (due : List Part) → Shut due → ShutAfter (top_statement_row s) due
top_shut symbol.Output due shut = (refl, (tt, shut))
top_shut symbol.Let due shut = statement_shut symbol.Let due shut
top_shut symbol.Name due shut = statement_shut symbol.Name due shut
top_shut symbol.For due shut = statement_shut symbol.For due shut
top_shut s due shut = tt

tops_shut : (s : Symbol) (due : List Part) → Shut due → ShutAfter (followed_by TopStatements (top_statement_row s)) due
tops_shut s due shut = followed_shut (top_statement_row s) TopStatements due (top_shut s (TopStatements ∷ due) (tt, shut))

definitions_shut : (s : Symbol) (due : List Part) → Shut due → ShutAfter (row One Definitions s) due
definitions_shut symbol.Def due shut = tt
definitions_shut s due shut = tops_shut s due shut

inputs_shut : (s : Symbol) (due : List Part) → Shut due → ShutAfter (row One Inputs s) due
inputs_shut symbol.Input due shut = (tt, (tt, (tt, (tt, shut))))
inputs_shut symbol.Def due shut = tt
inputs_shut s due shut = tops_shut s due shut

the_shut : (b : Bool) (due : List Part) → Shut due → ShutAfter (if b then Some [] else None) due
the_shut true due shut = shut
the_shut false due shut = tt

parameters_shut : (s : Symbol) (left : ℕ) (due : List Part) → Shut due → ShutAfter (row One (MoreParameters left) s) due
parameters_shut symbol.Comma zero due shut = tt
parameters_shut symbol.Comma (suc left) due shut = (tt, (tt, shut))
parameters_shut s left due shut = tt

row_shut : (part : Part) (s : Symbol) (due : List Part) → Claims part due → Shut due → ShutAfter (row One part s) due
row_shut Inputs s due none shut = inputs_shut s due shut
row_shut Definitions s due none shut = definitions_shut s due shut
row_shut Parameters symbol.OpenRound due none shut = (tt, (tt, (tt, shut)))
row_shut Parameters s due none shut = tt
row_shut (MoreParameters left) s due none shut = parameters_shut s left due shut
row_shut FirstDimension symbol.OpenSquare due none shut = (tt, (tt, (tt, shut)))
row_shut FirstDimension s due none shut = tt
row_shut SecondDimension symbol.OpenSquare due none shut = (tt, (tt, shut))
row_shut SecondDimension s due none shut = tt
row_shut TopStatements s due none shut = tops_shut s due shut
row_shut ATopStatement s due none shut = top_shut s due shut
row_shut Statements s due none shut = followed_shut (statement_row s) Statements due (statement_shut s (Statements ∷ due) (tt, shut))
row_shut AStatement s due none shut = statement_shut s due shut
row_shut Block symbol.OpenCurly due none shut = (tt, (tt, shut))
row_shut Block s due none shut = tt
row_shut AnExpression s due none shut = followed_shut (term_row s) MoreTerms due (term_shut s (MoreTerms ∷ due) none (none, shut))
row_shut MoreTerms symbol.Plus due none shut = (none, (none, shut))
row_shut MoreTerms symbol.Minus due none shut = (none, (none, shut))
row_shut MoreTerms s due none shut = tt
row_shut ATerm s due none shut = term_shut s due none shut
row_shut MoreFactors symbol.Star due none shut = (none, (none, shut))
row_shut MoreFactors s due none shut = tt
row_shut AFactor s due none shut = factor_shut s due none shut
row_shut EndOfNegation s due none shut = tt
row_shut AfterName symbol.OpenSquare due none shut = (tt, (tt, (tt, shut)))
row_shut AfterName s due none shut = tt
row_shut MoreArguments symbol.Comma due none shut = (none, (none, shut))
row_shut MoreArguments s due none shut = tt
row_shut OneArgument symbol.OpenRound due none shut = (refl, (tt, shut))
row_shut OneArgument s due none shut = tt
row_shut TwoArguments symbol.OpenRound due none shut = (refl, (tt, (refl, (tt, shut))))
row_shut TwoArguments s due none shut = tt
row_shut FirstIndex symbol.OpenSquare due none shut = (tt, (tt, (tt, shut)))
row_shut FirstIndex s due none shut = tt
row_shut SecondIndex symbol.OpenSquare due none shut = (tt, (tt, shut))
row_shut SecondIndex s due none shut = tt
row_shut AnIndex s due none shut = followed_shut (index_term_row s) MoreIndexTerms due (index_term_shut s (MoreIndexTerms ∷ due) (tt, shut))
row_shut MoreIndexTerms symbol.Plus due none shut = (tt, (tt, shut))
row_shut MoreIndexTerms symbol.Minus due none shut = (tt, (tt, shut))
row_shut MoreIndexTerms s due none shut = tt
row_shut AnIndexTerm s due none shut = index_term_shut s due shut
row_shut MoreIndexFactors symbol.Star due none shut = (tt, (tt, shut))
row_shut MoreIndexFactors s due none shut = tt
row_shut AnIndexFactor s due none shut = index_factor_shut s due shut
row_shut AName symbol.Name due none shut = shut
row_shut AName s due none shut = tt
row_shut ANumber (symbol.Number value) due none shut = shut
row_shut ANumber s due none shut = tt
row_shut (The separator) s due none shut = the_shut (is_the separator s) due shut

-- ---- what the second language has more

-- no row of the first takes a definition's word
no_separator : (s : Symbol) → is_the s symbol.Def ≡ false
no_separator symbol.In = refl
no_separator symbol.Equals = refl
no_separator symbol.Semicolon = refl
no_separator symbol.Comma = refl
no_separator symbol.CloseRound = refl
no_separator symbol.CloseSquare = refl
no_separator symbol.CloseCurly = refl
no_separator symbol.Range = refl
no_separator s = refl

no_definition : (part : Part) → row One part symbol.Def ≡ None
no_definition (The separator) = ap (λ b. if b then Some [] else None) (no_separator separator)
no_definition part = refl

skip : (empty : Bool) (rest : Option (List Part)) → rest ≡ None → (if empty then rest else None) ≡ None
skip true rest none = none
skip false rest none = refl

none_taken : (due : List Part) → taken One symbol.Def due ≡ None
none_taken [] = refl
none_taken (part ∷ due) =
    ap (λ r. due_after r due (if may_be_empty part then taken One symbol.Def due else None)) (no_definition part)
    ∙ skip (may_be_empty part) (taken One symbol.Def due) (none_taken due)

-- a part has one row in both languages, or the first takes nothing where the part is due
same_row : (part : Part) (s : Symbol) (due : List Part) → Claims part due → (row Two part s ≡ row One part s) ⊎ (taken One s (part ∷ due) ≡ None)
same_row Inputs symbol.Def due none = inr (none_taken due)
same_row Definitions symbol.Def due none = inr (none_taken due)
same_row AfterName symbol.OpenRound due none = inr none
same_row Parameters symbol.OpenRound due none = inl refl
same_row (MoreParameters left) symbol.Comma due none = inl refl
same_row FirstDimension symbol.OpenSquare due none = inl refl
same_row SecondDimension symbol.OpenSquare due none = inl refl
same_row Block symbol.OpenCurly due none = inl refl
same_row MoreTerms symbol.Plus due none = inl refl
same_row MoreFactors symbol.Star due none = inl refl
same_row MoreArguments symbol.Comma due none = inl refl
same_row OneArgument symbol.OpenRound due none = inl refl
same_row TwoArguments symbol.OpenRound due none = inl refl
same_row FirstIndex symbol.OpenSquare due none = inl refl
same_row SecondIndex symbol.OpenSquare due none = inl refl
same_row MoreIndexTerms symbol.Plus due none = inl refl
same_row MoreIndexFactors symbol.Star due none = inl refl
same_row AName symbol.Name due none = inl refl
same_row ANumber (symbol.Number value) due none = inl refl
same_row part s due none = inl refl

-- what is due after a symbol in the second language, where it is due in the first
kept_row : (r : Option (List Part)) (empty : Bool) (one two : Option (List Part)) (due next : List Part) → ShutAfter r due → ((next : List Part) → one ≡ Some next → (two ≡ Some next) × Shut next) →
    due_after r due (if empty then one else None) ≡ Some next → (due_after r due (if empty then two else None) ≡ Some next) × Shut next
kept_row (Some new) empty one two due next shut goes e = let same : new ++ due ≡ next = cc in (e, subst Shut same shut)
kept_row None true one two due next shut goes e = goes next e
kept_row None false one two due next shut goes e = cc

none_or_some : (one : Option (List Part)) (next : List Part) → one ≡ None → one ≡ Some next → ⊥
none_or_some one next none some = cc

kept : (s : Symbol) (due next : List Part) → Shut due → taken One s due ≡ Some next → (taken Two s due ≡ Some next) × Shut next
kept s [] next shut e = cc
kept s (part ∷ due) next shut e = elim (same_row part s due shut.0) [
  | inl same ↦
      let found = kept_row (row One part s) (may_be_empty part) (taken One s due) (taken Two s due) due next (row_shut part s due shut.0 shut.1) (λ further is. kept s due further shut.1 is) e in
      (ap (λ r. due_after r due (if may_be_empty part then taken Two s due else None)) same ∙ found.0, found.1)
  | inr none ↦ absurd (none_or_some (taken One s (part ∷ due)) next none e)
]

-- ---- reading

none_or_next : (one : Option (List Part)) → (one ≡ None) ⊎ ((next : List Part) × (one ≡ Some next))
none_or_next None = inl refl
none_or_next (Some next) = inr (next, refl)

unless_deep : (deep : Bool) (at : ℕ) (x y : Option ParseRefused) → (x ≡ None → y ≡ None) → (if deep then Some (Nesting at) else x) ≡ None → (if deep then Some (Nesting at) else y) ≡ None
unless_deep true at x y goes e = cc
unless_deep false at x y goes e = goes e

not_taken : (at : ℕ) (one : Option (List Part)) (go_on : List Part → Option ParseRefused) → one ≡ None → unless_refused at one go_on ≡ None → ⊥
not_taken at one go_on none h = let there : unless_refused at None go_on ≡ None = sym (ap (λ o. unless_refused at o go_on) none) ∙ h in cc

read_on : (end : ℕ) (due : List Part) (tokens : List Token) → Shut due → refusal One end due tokens ≡ None → refusal Two end due tokens ≡ None
read_on end due [] shut h = h
read_on end due (token ∷ tokens) shut h = elim (none_or_next (taken One token.symbol due)) [
  | inl none ↦ absurd (not_taken token.start (taken One token.symbol due) (λ next. refusal One end next tokens) none h)
  | inr found ↦
      let here = kept token.symbol due found.0 shut found.1 in
      let one : unless_refused token.start (Some found.0) (λ next. refusal One end next tokens) ≡ None = sym (ap (λ o. unless_refused token.start o (λ next. refusal One end next tokens)) found.1) ∙ h in
      ap (λ o. unless_refused token.start o (λ next. refusal Two end next tokens)) here.0
      ∙ unless_deep (nat_lt 64 (levels found.0)) token.start (refusal One end found.0 tokens) (refusal Two end found.0 tokens) (λ e. read_on end found.0 tokens here.1 e) one
]

pub read_in_two : (text : List ℕ) (tokens : List Token) → refusal One (length text) (Inputs ∷ []) tokens ≡ None → refusal Two (length text) (Inputs ∷ []) tokens ≡ None
read_in_two text tokens h = read_on (length text) (Inputs ∷ []) tokens (tt, tt) h

pub tree_in_two : (text : List ℕ) (tokens : List Token) (tree : ProgramTree) → IsTreeOf One text tokens tree → IsTreeOf Two text tokens tree
tree_in_two text tokens tree is = record { spelled = is.spelled; end = is.end }
