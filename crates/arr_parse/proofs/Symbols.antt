-- Whether reading refuses tokens depends on their symbols alone.
use Rattle.std.proofs.Common.{◌≡◌, ℕ, Bool, true, false, List, [], ◌∷◌, Option, Some, None, map, refl, ap, ◌∙◌}
use Rattle.std.specs.Prelude.{is_some, if◌then◌else◌, nat_lt}
use Rattle.std.specs.List.{list_all}
use Rattle.arr_ast.specs.declared.lang.Lang.{Lang}
use Rattle.arr_lex.specs.declared.token.Token.{Token}
use Rattle.arr_parse.specs.Grammar.{Part, may_be_empty}
use Rattle.arr_parse.specs.Reading.{levels, taken, unless_refused, refusal}
use Rattle.arr_parse.specs.declared.refused.ParseRefused.{ParseRefused}
use Rattle.arr_parse.specs.declared.refused.ParseRefused.TheVariants.{Syntax, Nesting}

either : (b : Bool) (first second : Option ParseRefused) (x y : ParseRefused) → is_some first ≡ is_some second → is_some (if b then Some x else first) ≡ is_some (if b then Some y else second)
either true first second x y e = refl
either false first second x y e = e

at_end : (b : Bool) (x y : ParseRefused) → is_some (if b then None else Some x) ≡ is_some (if b then None else Some y)
at_end true x y = refl
at_end false x y = refl

behind : (at other : ℕ) (next : Option (List Part)) (go_on go_on' : List Part → Option ParseRefused) → ((due : List Part) → is_some (go_on due) ≡ is_some (go_on' due)) →
    is_some (unless_refused at next go_on) ≡ is_some (unless_refused other next go_on')
behind at other None go_on go_on' e = refl
behind at other (Some due) go_on go_on' e = either (nat_lt 64 (levels due)) (go_on due) (go_on' due) (Nesting at) (Nesting other) (e due)

pub refused_by_symbols : (lang : Lang) (end other_end : ℕ) (due : List Part) (tokens others : List Token) → map (λ (token : Token). token.symbol) tokens ≡ map (λ (token : Token). token.symbol) others →
    is_some (refusal lang end due tokens) ≡ is_some (refusal lang other_end due others)
refused_by_symbols lang end other_end due [] [] e = at_end (list_all may_be_empty due) (Syntax end) (Syntax other_end)
refused_by_symbols lang end other_end due [] (other ∷ others) e = cc
refused_by_symbols lang end other_end due (token ∷ tokens) [] e = cc
refused_by_symbols lang end other_end due (token ∷ tokens) (other ∷ others) e =
    let same : token.symbol ≡ other.symbol = cc in
    let rest : map (λ (t : Token). t.symbol) tokens ≡ map (λ (t : Token). t.symbol) others = cc in
    ap (λ s. is_some (unless_refused token.start (taken lang s due) (λ next. refusal lang end next tokens))) same
    ∙ behind token.start other.start (taken lang other.symbol due) (λ next. refusal lang end next tokens) (λ next. refusal lang other_end next others) (λ next. refused_by_symbols lang end other_end next tokens others rest)
