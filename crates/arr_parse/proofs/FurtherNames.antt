-- A further parameter: its name is due behind its comma, unless it is one too many.
use Rattle.std.proofs.Common.{◌≡◌, ℕ, ◌-◌, suc, List, [], ◌∷◌, length, Option, Some, Result, Ok, Err, sym, subst, ◌∙◌, arith}
use Rattle.arr_ast.specs.declared.lang.Lang.{Lang}
use Rattle.arr_ast.specs.declared.program.Name.{Name}
use Rattle.arr_lex.specs.declared.token.Symbol.TheVariants.{CloseRound}
use Rattle.arr_parse.specs.IndexSpelling.{name_spelling}
use Rattle.arr_parse.specs.Mark.{Source}
use Rattle.arr_parse.specs.Grammar.{Part, The, AName, MoreParameters}
use Rattle.arr_parse.specs.Reading.{levels, refusal}
use Rattle.arr_parse.specs.Parsed.{Agrees}
use Rattle.arr_parse.specs.Steps.{Rest, Takes, Reads, ChainsNames}
use Rattle.arr_parse.specs.declared.refused.ParseRefused.{ParseRefused}
use Rattle.arr_parse.specs.declared.refused.ParseRefused.TheVariants.{Syntax, Nesting, Memory}

pub name_due : (old now : Rest) (at left : ℕ) → ChainsNames old (Some at) now → (left ≡ 0 → ⊥) → (lang : Lang) (end : ℕ) (due : List Part) → suc (levels due) ≡ old.levels →
    refusal lang end (MoreParameters left ∷ The CloseRound ∷ due) old.tokens ≡ refusal lang end (AName ∷ MoreParameters (left - 1) ∷ The CloseRound ∷ due) now.tokens
name_due old now at left chains some lang end due nested =
    let same : suc (left - 1) ≡ left = omega arith in
    subst (λ (n : ℕ). refusal lang end (MoreParameters n ∷ The CloseRound ∷ due) old.tokens ≡ refusal lang end (AName ∷ MoreParameters (left - 1) ∷ The CloseRound ∷ due) now.tokens) same ((chains lang end due nested).0 (left - 1))

pub none_due : (old now : Rest) (at left : ℕ) → ChainsNames old (Some at) now → left ≡ 0 → (lang : Lang) (end : ℕ) (due : List Part) → suc (levels due) ≡ old.levels →
    refusal lang end (MoreParameters left ∷ The CloseRound ∷ due) old.tokens ≡ Some (Syntax at)
none_due old now at left chains none lang end due nested = subst (λ (n : ℕ). refusal lang end (MoreParameters n ∷ The CloseRound ∷ due) old.tokens ≡ Some (Syntax at)) (sym none) (chains lang end due nested).1

-- what is refused is refused wherever reading was to go on
refused_alike : {X Y : Type 0} (go_on : X → Option ParseRefused) (other : Y → Option ParseRefused) (refused : ParseRefused) (read : Option ParseRefused) → Agrees go_on (Err refused) read → Agrees other (Err refused) read
refused_alike go_on other Memory read h = tt
refused_alike go_on other (Syntax at) read h = h
refused_alike go_on other (Nesting at) read h = h

module _ (old after named : Rest) (at left : ℕ) (chains : ChainsNames old (Some at) after) (some : left ≡ 0 → ⊥) (source_is : after.source ≡ old.source) (levels_are : after.levels ≡ old.levels) where
  abbrev behind : List Part → List Part
  behind others = MoreParameters (left - 1) ∷ The CloseRound ∷ others

  abbrev read : Rest → List Part → Rest → Option ParseRefused
  read from due now = refusal from.source.lang (length from.source.text) due now.tokens

  -- the name is refused
  pub name_refused : (now : Rest) (refused : ParseRefused) → Reads {X = Name} (AName ∷ []) after (Err refused) named → (others : List Part) → suc (levels others) ≡ old.levels →
      Agrees (λ (u : Unit {0}). read old (The CloseRound ∷ others) now) (Err refused) (read old (MoreParameters left ∷ The CloseRound ∷ others) old)
  name_refused now refused reads others nested =
      let due : List Part = behind others in
      let there : Agrees (λ (name : Name). read after due named) (Err refused) (read after (AName ∷ due) after) = reads due (nested ∙ sym levels_are) in
      let here : Agrees (λ (u : Unit {0}). read old (The CloseRound ∷ others) now) (Err refused) (read after (AName ∷ due) after) =
      refused_alike {X = Name} {Y = Unit {0}} (λ name. read after due named) (λ u. read old (The CloseRound ∷ others) now) refused (read after (AName ∷ due) after) there in
      let moved : Agrees (λ (u : Unit {0}). read old (The CloseRound ∷ others) now) (Err refused) (read old (AName ∷ due) after) =
      subst (λ (s : Source). Agrees (λ (u : Unit {0}). read old (The CloseRound ∷ others) now) (Err refused) (refusal s.lang (length s.text) (AName ∷ due) after.tokens)) source_is here in
      subst (Agrees (λ (u : Unit {0}). read old (The CloseRound ∷ others) now) (Err refused)) (sym (name_due old after at left chains some old.source.lang (length old.source.text) others nested)) moved

  -- the name is there, and reading goes on behind it
  pub name_read : (now : Rest) (name : Name) (result : Result (Unit {0}) ParseRefused) → Takes [] after (name_spelling name) named → Reads (AName ∷ []) after (Ok name) named →
      ((others : List Part) → suc (levels others) ≡ named.levels → Agrees (λ (u : Unit {0}). read named (The CloseRound ∷ others) now) result (read named (MoreParameters (left - 1) ∷ The CloseRound ∷ others) named)) →
      (others : List Part) → suc (levels others) ≡ old.levels → Agrees (λ (u : Unit {0}). read old (The CloseRound ∷ others) now) result (read old (MoreParameters left ∷ The CloseRound ∷ others) old)
  name_read now name result taken reads goes_on others nested =
      let due : List Part = behind others in
      let first : read old (MoreParameters left ∷ The CloseRound ∷ others) old ≡ read old (AName ∷ due) after = name_due old after at left chains some old.source.lang (length old.source.text) others nested in
      let second : read old (AName ∷ due) after ≡ read old due named =
      subst (λ (s : Source). refusal s.lang (length s.text) (AName ∷ due) after.tokens ≡ refusal s.lang (length s.text) due named.tokens) source_is (reads due (nested ∙ sym levels_are)) in
      let last : Agrees (λ (u : Unit {0}). read old (The CloseRound ∷ others) now) result (read old due named) =
      subst (λ (s : Source). Agrees (λ (u : Unit {0}). refusal s.lang (length s.text) (The CloseRound ∷ others) now.tokens) result (refusal s.lang (length s.text) due named.tokens)) (taken.source ∙ source_is)
      (goes_on others (nested ∙ sym levels_are ∙ sym taken.levels)) in
      subst (Agrees (λ (u : Unit {0}). read old (The CloseRound ∷ others) now) result) (sym (first ∙ second)) last
