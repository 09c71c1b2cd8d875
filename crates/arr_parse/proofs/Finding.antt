-- What reading goes on with after a token, where nothing is refused.
use Rattle.std.proofs.Common.{◌≡◌, ◌⊎◌, inl, inr, ℕ, Bool, true, false, ◌&&◌, List, [], ◌∷◌, ◌++◌, Option, Some, None, length, suc, ◌<◌, map, refl, ap, sym, ◌∙◌, arith}
use Rattle.std.specs.Prelude.{if◌then◌else◌, nat_lt}
use Rattle.std.specs.List.{list_all}
use Rattle.arr_ast.specs.declared.lang.Lang.{Lang}
use Rattle.arr_lex.specs.declared.token.Symbol.{Symbol}
use Rattle.arr_lex.specs.declared.token.Symbol.TheVariants as symbol
use Rattle.arr_lex.specs.declared.token.Token.{Token}
use Rattle.arr_parse.specs.Mark.{Mark, Separator, mark, mark_of, number_at, Source}
use Rattle.arr_parse.specs.Grammar.{Part, The, row, may_be_empty, is_the}
use Rattle.arr_parse.specs.Reading.{levels, taken, due_after, unless_refused, refusal}
use Rattle.arr_parse.specs.declared.refused.ParseRefused.{ParseRefused}
use Rattle.arr_parse.specs.declared.refused.ParseRefused.TheVariants.{Syntax, Nesting}

-- A tree whose spelling the tokens begin with, and the tokens after it, with which reading goes on.
pub record Found (X : Type 0) (marks : X → List Mark) (source : Source) (due : List Part) (tokens : List Token) : Type 0 where
  pub tree : X
  pub rest : List Token
  pub spelled : map (mark source) tokens ≡ marks tree ++ map (mark source) rest
  pub goes_on : refusal source.lang (length source.text) due rest ≡ None
  pub shorter : length rest < length tokens

-- Where a part is due and nothing is refused, fewer than so many tokens begin with a tree of the part.
abbrev pub Finds : (X : Type 0) → (X → List Mark) → Part → Source → ℕ → Type 0
Finds X marks part source n = (due : List Part) (tokens : List Token) → length tokens < n → refusal source.lang (length source.text) (part ∷ due) tokens ≡ None → Found X marks source due tokens

-- what a token of this symbol is in a spelling
pub marked : (source : Source) (token : Token) (s : Symbol) → token.symbol ≡ s → mark source token ≡ mark_of s token.start (number_at source token)
marked source token s is = ap (λ t. mark_of t token.start (number_at source token)) is

pub rowed : (lang : Lang) (part : Part) (token : Token) (s : Symbol) (new : Option (List Part)) → token.symbol ≡ s → row lang part s ≡ new → row lang part token.symbol ≡ new
rowed lang part token s new is at = ap (row lang part) is ∙ at

-- The same, where the tree may have no token.
pub record FoundUpTo (X : Type 0) (marks : X → List Mark) (source : Source) (due : List Part) (tokens : List Token) : Type 0 where
  pub tree : X
  pub rest : List Token
  pub spelled : map (mark source) tokens ≡ marks tree ++ map (mark source) rest
  pub goes_on : refusal source.lang (length source.text) due rest ≡ None
  pub within : length rest < suc (length tokens)

abbrev pub FindsUpTo : (X : Type 0) → (X → List Mark) → Part → Source → ℕ → Type 0
FindsUpTo X marks part source n = (due : List Part) (tokens : List Token) → length tokens < n → refusal source.lang (length source.text) (part ∷ due) tokens ≡ None → FoundUpTo X marks source due tokens

passed : (b : Bool) (x : ParseRefused) (y : Option ParseRefused) → (if b then Some x else y) ≡ None → y ≡ None
passed true x y e = cc
passed false x y e = e

-- the row that a symbol begins is due after it
taken_on : (lang : Lang) (end at : ℕ) (next : Option (List Part)) (new : List Part) (tokens : List Token) → next ≡ Some new →
    unless_refused at next (λ due. refusal lang end due tokens) ≡ None → refusal lang end new tokens ≡ None
taken_on lang end at next new tokens is h =
    let there : unless_refused at (Some new) (λ due. refusal lang end due tokens) ≡ None = sym (ap (λ n. unless_refused at n (λ due. refusal lang end due tokens)) is) ∙ h in
    passed (nat_lt 64 (levels new)) (Nesting at) (refusal lang end new tokens) there

pub after : (lang : Lang) (end : ℕ) (part : Part) (due : List Part) (token : Token) (tokens : List Token) (new : List Part) → row lang part token.symbol ≡ Some new →
    refusal lang end (part ∷ due) (token ∷ tokens) ≡ None → refusal lang end (new ++ due) tokens ≡ None
after lang end part due token tokens new is h =
    taken_on lang end token.start (taken lang token.symbol (part ∷ due)) (new ++ due) tokens
    (ap (λ r. due_after r due (if may_be_empty part then taken lang token.symbol due else None)) is) h

-- a part that isn't empty and has no row for the symbol refuses it
pub no_row : (lang : Lang) (end : ℕ) (part : Part) (due : List Part) (token : Token) (tokens : List Token) → row lang part token.symbol ≡ None → may_be_empty part ≡ false →
    refusal lang end (part ∷ due) (token ∷ tokens) ≡ None → ⊥
no_row lang end part due token tokens is full h =
    let next : taken lang token.symbol (part ∷ due) ≡ None = ap (λ r. due_after r due (if may_be_empty part then taken lang token.symbol due else None)) is ∙ ap (λ b. if b then taken lang token.symbol due else None) full in
    let there : unless_refused token.start None (λ due. refusal lang end due tokens) ≡ None = sym (ap (λ n. unless_refused token.start n (λ due. refusal lang end due tokens)) next) ∙ h in
    cc

-- a part that may be empty and has no row for the symbol is skipped
pub skipped : (lang : Lang) (end : ℕ) (part : Part) (due : List Part) (token : Token) (tokens : List Token) → row lang part token.symbol ≡ None → may_be_empty part ≡ true →
    refusal lang end (part ∷ due) (token ∷ tokens) ≡ refusal lang end due (token ∷ tokens)
skipped lang end part due token tokens is empty =
    let next : taken lang token.symbol (part ∷ due) ≡ taken lang token.symbol due = ap (λ r. due_after r due (if may_be_empty part then taken lang token.symbol due else None)) is ∙ ap (λ b. if b then taken lang token.symbol due else None) empty in
    ap (λ n. unless_refused token.start n (λ due. refusal lang end due tokens)) next

-- at the source's end
pub none_left : (lang : Lang) (end : ℕ) (part : Part) (due : List Part) → may_be_empty part ≡ false → refusal lang end (part ∷ due) [] ≡ None → ⊥
none_left lang end part due full h =
    let there : (if (may_be_empty part && list_all may_be_empty due) then None else Some (Syntax end)) ≡ None = h in
    let here : (if (false && list_all may_be_empty due) then None else Some (Syntax end)) ≡ None = sym (ap (λ b. if (b && list_all may_be_empty due) then None else Some (Syntax end)) full) ∙ there in
    cc

same_separator : (s t : Symbol) → is_the s t ≡ true → t ≡ s
same_separator symbol.In symbol.In e = refl
same_separator symbol.Equals symbol.Equals e = refl
same_separator symbol.Semicolon symbol.Semicolon e = refl
same_separator symbol.Comma symbol.Comma e = refl
same_separator symbol.CloseRound symbol.CloseRound e = refl
same_separator symbol.CloseSquare symbol.CloseSquare e = refl
same_separator symbol.CloseCurly symbol.CloseCurly e = refl
same_separator symbol.Range symbol.Range e = refl
same_separator s t e = cc

-- The tokens begin with this separator, and reading goes on after it.
pub record Separated (s : Symbol) (source : Source) (due : List Part) (tokens : List Token) : Type 0 where
  pub rest : List Token
  pub spelled : map (mark source) tokens ≡ Separator s ∷ map (mark source) rest
  pub goes_on : refusal source.lang (length source.text) due rest ≡ None
  pub shorter : length rest < length tokens

is_or_not : (b : Bool) → (b ≡ true) ⊎ (b ≡ false)
is_or_not true = inl refl
is_or_not false = inr refl

pub separator : (s : Symbol) (source : Source) (due : List Part) (tokens : List Token) → ((at word : ℕ) → mark_of s at word ≡ Separator s) →
    refusal source.lang (length source.text) (The s ∷ due) tokens ≡ None → Separated s source due tokens
separator s source due [] separates h = absurd (none_left source.lang (length source.text) (The s) due refl h)
separator s source due (token ∷ tokens) separates h = elim (is_or_not (is_the s token.symbol)) [
  | inl is ↦
      let same : token.symbol ≡ s = same_separator s token.symbol is in
      let rowed : row source.lang (The s) token.symbol ≡ Some [] = ap (λ b. if b then Some [] else None) is in
      let marked : mark source token ≡ Separator s = ap (λ t. mark_of t token.start (number_at source token)) same ∙ separates token.start (number_at source token) in
      record { rest = tokens; spelled = ap (λ m. m ∷ map (mark source) tokens) marked; goes_on = after source.lang (length source.text) (The s) due token tokens [] rowed h; shorter = omega arith }
  | inr is_not ↦ absurd (no_row source.lang (length source.text) (The s) due token tokens (ap (λ b. if b then Some [] else None) is_not) refl h)
]
