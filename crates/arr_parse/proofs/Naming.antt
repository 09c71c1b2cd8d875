-- The numbers of names: as a map has them word by word, and that equal numbers are equal names.
use Rattle.std.proofs.Common.{◌≡◌, ◌⊎◌, inl, inr, ℕ, zero, suc, ◌+◌, ◌<◌, ◌≤◌, Contains, Bool, true, false, cond, List, [], ◌∷◌, length, get_or, Option, Some, None, Vec, map, ⊎_elim, refl, ap, ap₂, sym, subst, ◌∙◌, arith}
use Rattle.std.specs.Prelude.{if◌then◌else◌, is_some, IsSome}
use Rattle.std.specs.declared.alloc.Global.{Global}
use Rattle.std.specs.BTreeMap.{BTreeMap, UpdatesBy}
use Rattle.std.specs.Cmp.{eq_by_cmp_equiv}
use Rattle.std.specs.Cmp.Lexicographic.{slice_cmp, bytes_decides, nat_list_cmp_total, nat_list_eq_equiv}
use Rattle.std.specs.Map.{lookup, IsKeyTest, AreApart, KeepsOthers}
use Rattle.std.specs.Ordering.{is_eq, nat_cmp}
use Rattle.std.specs.Str.{bytes_eq}
use Rattle.std.proofs.lemmas.Bool.{cases_Bool}
use Rattle.std.proofs.lemmas.Map.Text.{is_eq-slice_cmp}
use Rattle.arr_ast.specs.declared.lang.Lang.{Lang}
use Rattle.arr_lex.specs.declared.token.Symbol.{Symbol}
use Rattle.arr_lex.specs.declared.token.Symbol.TheVariants as symbol
use Rattle.arr_lex.specs.declared.token.Token.{Token}
use Rattle.arr_parse.specs.Mark.{Source, part_of, found_in, or_zero, mark, mark_of}
use Rattle.arr_parse.specs.Names.{words, named_at, names_from, KnowsNames}
use Rattle.arr_parse.specs.NameMap.{found, or_else, entries_of}

-- ---- a map with one more name

abbrev Places : Type 0
Places = BTreeMap (Vec ℕ Global) ℕ

-- a map with another answer at one name
abbrev Changes : List ℕ → Places → Places → Option ℕ → Type 0
Changes name old new answer = UpdatesBy (λ x y. slice_cmp nat_cmp x.items y.items) (λ key. slice_cmp nat_cmp name key.items) old new answer

apart : (bs cs ks : List ℕ) → bytes_eq bs cs ≡ false → is_eq (slice_cmp nat_cmp bs ks) ≡ true → is_eq (slice_cmp nat_cmp cs ks) ≡ false
apart bs cs ks n y = is_eq-slice_cmp cs ks ∙ nat_list_eq_equiv.symm cs ks ∙ sym (nat_list_eq_equiv.congr bs ks cs (sym (is_eq-slice_cmp bs ks) ∙ y)) ∙ n

others : {K X : Type 0} (eq : K → K → Bool) (test : K → Bool) (old new : List (K × X)) → KeepsOthers eq test old new → (other : K → Bool) → IsKeyTest eq other → AreApart test other → lookup other new ≡ lookup other old
unfolding KeepsOthers
others eq test old new h = h

found-others : (name : List ℕ) (old new : Places) (answer : Option ℕ) → Changes name old new answer → (other : List ℕ) → bytes_eq name other ≡ false → found new other ≡ found old other
found-others name old new answer h other n =
    others _ _ _ _ h.3 _ (λ x y. (eq_by_cmp_equiv nat_list_cmp_total).congr other x.items y.items) (λ key. apart name other key.items n)

same_name : (name other : List ℕ) → bytes_eq name other ≡ true → name ≡ other
same_name name other y = (bytes_decides name other).0 y

or_none : (number : Option ℕ) → number ≡ or_else number None
or_none None = refl
or_none (Some number) = refl

-- one name's number, by whether it is this name
abbrev one : List ℕ → ℕ → List ℕ → Option ℕ
one bytes place name = if bytes_eq name bytes then Some place else None

-- a map's answer is that of its entries
pub found-entries : (entries : List (Vec ℕ Global × ℕ)) (name : List ℕ) → lookup (λ key. is_eq (slice_cmp nat_cmp name key.items)) entries ≡ found_in (entries_of entries) name
found-entries [] name = refl
found-entries (entry ∷ entries) name = ap₂ (λ b rest. cond b (Some entry.1) rest) (is_eq-slice_cmp name entry.0.items) (found-entries entries name)

pub not_there : (number : Option ℕ) → is_some number ≡ false → number ≡ None
not_there None e = refl
not_there (Some number) e = cc

-- a name that is there already
pub there_already : (places : Places) (bytes : List ℕ) (place : ℕ) → IsSome (found places bytes) → (name : List ℕ) → found places name ≡ or_else (found places name) (one bytes place name)
there_already places bytes place some name =
    ⊎_elim
    (λ y. subst (λ n. found places n ≡ or_else (found places n) (one bytes place n)) (sym (same_name name bytes y)) (here (found places bytes) some))
    (λ n. or_none (found places name) ∙ ap (λ b. or_else (found places name) (if b then Some place else None)) (sym n))
    (cases_Bool (bytes_eq name bytes))
  where
    here : (at : Option ℕ) → IsSome at → at ≡ or_else at (one bytes place bytes)
    here None h = cc
    here (Some at) h = refl

-- a name that is new
pub added : (old new : Places) (bytes key : List ℕ) (place : ℕ) → key ≡ bytes → found old bytes ≡ None → Changes key old new (Some place) →
    (name : List ℕ) → found new name ≡ or_else (found old name) (one bytes place name)
added old new bytes key place is none changes name =
    ⊎_elim
    (λ y. subst (λ n. found new n ≡ or_else (found old n) (one bytes place n)) (sym (same_name name bytes y)) here)
    (λ n. found-others bytes old new (Some place) at_bytes name (turned n) ∙ or_none (found old name) ∙ ap (λ b. or_else (found old name) (if b then Some place else None)) (sym n))
    (cases_Bool (bytes_eq name bytes))
  where
    turned : bytes_eq name bytes ≡ false → bytes_eq bytes name ≡ false
    turned n = nat_list_eq_equiv.symm bytes name ∙ n

    at_bytes : Changes bytes old new (Some place)
    at_bytes = subst (λ k. Changes k old new (Some place)) is changes

    here : found new bytes ≡ or_else (found old bytes) (one bytes place bytes)
    here = at_bytes.1 ∙ ap (λ b. if b then Some place else None) (sym ((bytes_decides bytes bytes).1 refl)) ∙ ap (λ at. or_else at (one bytes place bytes)) (sym none)

-- ---- all words

-- the first of the numbers in a map and those of more words
abbrev pub Answers : Places → ℕ → List (Symbol × List ℕ) → List (Symbol × List ℕ) → Type 0
Answers places at rest all = (name : List ℕ) → or_else (found places name) (found_in (names_from at rest) name) ≡ found_in (names_from 0 all) name

-- the names among words, the first of them apart
found-first : (at : ℕ) (s : Symbol) (bytes : List ℕ) (names : List (List ℕ × ℕ)) (name : List ℕ) (first : Option ℕ) →
    or_else (or_else first (found_in (named_at at s bytes []) name)) (found_in names name) ≡ or_else first (found_in (named_at at s bytes names) name)
found-first at symbol.Name bytes names name None = by (bytes_eq name bytes)
  where
    by : (b : Bool) → or_else (if b then Some at else None) (found_in names name) ≡ (if b then Some at else found_in names name)
    by true = refl
    by false = refl
found-first at s bytes names name None = refl
found-first at s bytes names name (Some number) = refl

pub answers_more : (old new : Places) (at : ℕ) (s : Symbol) (bytes : List ℕ) (rest all : List (Symbol × List ℕ)) →
    ((name : List ℕ) → found new name ≡ or_else (found old name) (found_in (named_at at s bytes []) name)) →
    Answers old at ((s, bytes) ∷ rest) all → Answers new (at + 1) rest all
answers_more old new at s bytes rest all is answers name =
    ap (λ first. or_else first (found_in (names_from (at + 1) rest) name)) (is name)
    ∙ found-first at s bytes (names_from (at + 1) rest) name (found old name)
    ∙ answers name

pub answers_all : (places : Places) (at : ℕ) (all : List (Symbol × List ℕ)) → Answers places at [] all → (name : List ℕ) → found places name ≡ found_in (names_from 0 all) name
answers_all places at all answers name = or_none (found places name) ∙ answers name

-- sources that answer alike give the same marks
pub marks_alike : (a b : Source) → a.text ≡ b.text → ((name : List ℕ) → found_in a.names name ≡ found_in b.names name) → (tokens : List Token) → map (mark a) tokens ≡ map (mark b) tokens
marks_alike a b same alike [] = refl
marks_alike a b same alike (token ∷ tokens) =
    ap₂ ◌∷◌
    (ap (λ number. mark_of token.symbol token.start (or_zero number)) (alike (part_of a.text token.start token.end) ∙ ap (λ text. found_in b.names (part_of text token.start token.end)) same))
    (marks_alike a b same alike tokens)

-- ---- equal numbers are equal names

below_if : (b : Bool) (at : ℕ) (rest : Option ℕ) (place : ℕ) → (rest ≡ Some place → at + 1 ≤ place) → (if b then Some at else rest) ≡ Some place → at ≤ place
below_if true at rest place more e = let same : at ≡ place = cc in omega arith
below_if false at rest place more e = let later = more e in omega (arith, later)

below_step : (s : Symbol) (bytes name : List ℕ) (at : ℕ) (names : List (List ℕ × ℕ)) (place : ℕ) → (found_in names name ≡ Some place → at + 1 ≤ place) → found_in (named_at at s bytes names) name ≡ Some place → at ≤ place
below_step symbol.Name bytes name at names place more e = below_if (bytes_eq name bytes) at (found_in names name) place more e
below_step s bytes name at names place more e = let later = more e in omega (arith, later)

none_below : (at : ℕ) (name : List ℕ) (all : List (Symbol × List ℕ)) (place : ℕ) → found_in (names_from at all) name ≡ Some place → at ≤ place
none_below at name [] place e = cc
none_below at name (word ∷ all) place e = below_step word.0 word.1 name at (names_from (at + 1) all) place (none_below (at + 1) name all place) e

-- both are this word, or come after it
one_if : (b c : Bool) (name other bytes : List ℕ) (at : ℕ) (names : List (List ℕ × ℕ)) (place : ℕ) → bytes_eq name bytes ≡ b → bytes_eq other bytes ≡ c →
    (found_in names name ≡ Some place → at + 1 ≤ place) → (found_in names other ≡ Some place → at + 1 ≤ place) →
    (found_in names name ≡ Some place → found_in names other ≡ Some place → name ≡ other) →
    (if b then Some at else found_in names name) ≡ Some place → (if c then Some at else found_in names other) ≡ Some place → name ≡ other
one_if true true name other bytes at names place h k later later' more e f = same_name name bytes h ∙ sym (same_name other bytes k)
one_if true false name other bytes at names place h k later later' more e f = let here : at ≡ place = cc in absurd (omega (arith, here, later' f))
one_if false true name other bytes at names place h k later later' more e f = let here : at ≡ place = cc in absurd (omega (arith, here, later e))
one_if false false name other bytes at names place h k later later' more e f = more e f

one_step_name : (s : Symbol) (name other bytes : List ℕ) (at : ℕ) (names : List (List ℕ × ℕ)) (place : ℕ) →
    (found_in names name ≡ Some place → at + 1 ≤ place) → (found_in names other ≡ Some place → at + 1 ≤ place) →
    (found_in names name ≡ Some place → found_in names other ≡ Some place → name ≡ other) →
    found_in (named_at at s bytes names) name ≡ Some place → found_in (named_at at s bytes names) other ≡ Some place → name ≡ other
one_step_name symbol.Name name other bytes at names place later later' more e f =
    one_if (bytes_eq name bytes) (bytes_eq other bytes) name other bytes at names place refl refl later later' more e f
one_step_name s name other bytes at names place later later' more e f = more e f

one_name : (at : ℕ) (name other : List ℕ) (all : List (Symbol × List ℕ)) (place : ℕ) → found_in (names_from at all) name ≡ Some place → found_in (names_from at all) other ≡ Some place → name ≡ other
one_name at name other [] place e f = cc
one_name at name other (word ∷ all) place e f =
    one_step_name word.0 name other word.1 at (names_from (at + 1) all) place (none_below (at + 1) name all place) (none_below (at + 1) other all place) (one_name (at + 1) name other all place) e f

first_or_later : (token a : Token) (tokens : List Token) → Contains (token ∷ tokens) a → (token ≡ a) ⊎ Contains tokens a
first_or_later token a tokens h = by h.0 h.1 h.2
  where
    by : (k : ℕ) → k < suc (length tokens) → get_or (token ∷ tokens) k a ≡ a → (token ≡ a) ⊎ Contains tokens a
    by zero within e = inl e
    by (suc k) within e = inr (k, omega arith, e)

there_if : (at : ℕ) (s : Symbol) (bytes : List ℕ) (names : List (List ℕ × ℕ)) (name : List ℕ) → IsSome (found_in names name) → IsSome (found_in (named_at at s bytes names) name)
there_if at symbol.Name bytes names name h = by (bytes_eq name bytes)
  where
    by : (b : Bool) → IsSome (if b then Some at else found_in names name)
    by true = refl
    by false = h
there_if at s bytes names name h = h

here_if : (at : ℕ) (s : Symbol) (bytes : List ℕ) (names : List (List ℕ × ℕ)) → s ≡ symbol.Name → IsSome (found_in (named_at at s bytes names) bytes)
here_if at symbol.Name bytes names is = by (bytes_eq bytes bytes) ((bytes_decides bytes bytes).1 refl)
  where
    by : (b : Bool) → b ≡ true → IsSome (if b then Some at else found_in names bytes)
    by true e = refl
    by false e = cc
here_if at s bytes names is = cc

-- a token that is a name has a number
is_found : (text : List ℕ) (at : ℕ) (tokens : List Token) (a : Token) → Contains tokens a → a.symbol ≡ symbol.Name → IsSome (found_in (names_from at (words text tokens)) (part_of text a.start a.end))
is_found text at [] a h is = absurd (omega (arith, h.1))
is_found text at (token ∷ tokens) a h is = elim (first_or_later token a tokens h) [
  | inl same ↦
      let bytes = part_of text a.start a.end in
      subst (λ (t : Token). IsSome (found_in (named_at at t.symbol (part_of text t.start t.end) (names_from (at + 1) (words text tokens))) bytes)) (sym same)
      (here_if at a.symbol bytes (names_from (at + 1) (words text tokens)) is)
  | inr later ↦ there_if at token.symbol (part_of text token.start token.end) (names_from (at + 1) (words text tokens)) _ (is_found text (at + 1) tokens a later is)
]

same_number : (a b : Option ℕ) → IsSome a → IsSome b → or_zero a ≡ or_zero b → a ≡ b
same_number None b h k e = cc
same_number (Some a) None h k e = cc
same_number (Some a) (Some b) h k e = ap Some e

pub tells_names : (lang : Lang) (text : List ℕ) (tokens : List Token) (a b : Token) → Contains tokens a → Contains tokens b → a.symbol ≡ symbol.Name → b.symbol ≡ symbol.Name → KnowsNames lang text tokens a b
tells_names lang text tokens a b h k is is' = record {
  same = ap (λ name. or_zero (found_in (names_from 0 (words text tokens)) name));
  apart = λ e.
      let some = is_found text 0 tokens b k is' in
      found_alike (part_of text a.start a.end) (part_of text b.start b.end) (found_in (names_from 0 (words text tokens)) (part_of text b.start b.end)) refl
      (same_number (found_in (names_from 0 (words text tokens)) (part_of text a.start a.end)) (found_in (names_from 0 (words text tokens)) (part_of text b.start b.end)) (is_found text 0 tokens a h is) some e) some;
}
  where
    found_alike : (name other : List ℕ) (at : Option ℕ) → found_in (names_from 0 (words text tokens)) other ≡ at → found_in (names_from 0 (words text tokens)) name ≡ at → IsSome at → name ≡ other
    found_alike name other None e f h = cc
    found_alike name other (Some place) e f h = one_name 0 name other (words text tokens) place f e
