-- The spelling of parameters that were put into a vector.
use Rattle.std.proofs.Common.{◌≡◌, ℕ, suc, ◌<◌, List, [], ◌∷◌, ◌++◌, length, map, refl, ap, sym, subst, ◌∙◌, append_assoc, arith}
use Rattle.std.specs.Prelude.{flat_map}
use Rattle.arr_ast.specs.declared.program.Name.{Name}
use Rattle.arr_ast.specs.ExpressionTree.{name_tree}
use Rattle.arr_lex.specs.declared.token.Symbol.TheVariants.{OpenRound, CloseRound}
use Rattle.arr_parse.specs.Mark.{Mark, Source, Separator, Placed, mark}
use Rattle.arr_parse.specs.IndexSpelling.{name_spelling}
use Rattle.arr_parse.specs.ProgramSpelling.{further_names_marks, further_name_spelling, parameters_spelling}
use Rattle.arr_parse.specs.Steps.{Rest, Takes}

further_names-items : (names : List Name) → further_names_marks (map name_tree names) ≡ flat_map further_name_spelling names
further_names-items [] = refl
further_names-items (name ∷ names) = ap (λ marks. further_name_spelling name ++ marks) (further_names-items names)

pub parameters-made : (first : Name) (names : List Name) → parameters_spelling (first ∷ names) ≡ name_spelling first ++ flat_map further_name_spelling names
parameters-made first names = ap (λ marks. name_spelling first ++ marks) (further_names-items names)

pub ruleset of_names = (parameters-made, append_assoc)

-- a step's marks in the source of an earlier step
marks_in : (source : Source) (old new : Rest) (spelling : List Mark) → old.source ≡ source → Takes [] old spelling new → map (mark source) old.tokens ≡ spelling ++ map (mark source) new.tokens
marks_in source old new spelling is taken = subst (λ (s : Source). map (mark s) old.tokens ≡ spelling ++ map (mark s) new.tokens) is taken.spelled

-- a parenthesis, a name, further names and the parenthesis after them are the parameters of the name before the further ones
pub parameters_taken : (old opened named read shut : Rest) (at : ℕ) (first : Name) (before names all : List Name) → before ≡ [] → all ≡ first ∷ names →
    map (mark old.source) old.tokens ≡ Placed at OpenRound ∷ map (mark old.source) opened.tokens → length opened.tokens < length old.tokens → opened.source ≡ old.source → opened.levels ≡ suc old.levels →
    Takes [] opened (name_spelling first) named → Takes (flat_map further_name_spelling before) named (flat_map further_name_spelling names) read →
    map (mark read.source) read.tokens ≡ Separator CloseRound ∷ map (mark read.source) shut.tokens → length shut.tokens < length read.tokens → shut.source ≡ read.source → read.levels ≡ suc shut.levels →
    Takes [] old (Placed at OpenRound ∷ (parameters_spelling all ++ Separator CloseRound ∷ [])) shut
parameters_taken old opened named read shut at first before names all none made opening fewer same up name further closing less alike down =
    let behind : List Mark = flat_map further_name_spelling names in
    let end : List Mark = Separator CloseRound ∷ [] in
    let rest : List Mark = map (mark old.source) shut.tokens in
    let more : Takes [] named behind read = subst (λ (xs : List Name). Takes (flat_map further_name_spelling xs) named behind read) none further in
    let here : read.source ≡ old.source = more.source ∙ name.source ∙ same in
    let closed : map (mark old.source) read.tokens ≡ Separator CloseRound ∷ rest = subst (λ (s : Source). map (mark s) read.tokens ≡ Separator CloseRound ∷ map (mark s) shut.tokens) here closing in
    let inside : map (mark old.source) opened.tokens ≡ name_spelling first ++ (behind ++ (end ++ rest)) =
    marks_in old.source opened named (name_spelling first) same name
    ∙ ap (λ marks. name_spelling first ++ marks) (marks_in old.source named read behind (name.source ∙ same) more ∙ ap (λ marks. behind ++ marks) closed) in
    let joined : name_spelling first ++ (behind ++ (end ++ rest)) ≡ (parameters_spelling all ++ end) ++ rest =
    ap (λ marks. name_spelling first ++ marks) (sym (append_assoc behind end rest)) ∙ sym (append_assoc (name_spelling first) (behind ++ end) rest)
    ∙ ap (λ marks. marks ++ rest) (sym (append_assoc (name_spelling first) behind end) ∙ ap (λ marks. marks ++ end) (sym (parameters-made first names) ∙ ap parameters_spelling (sym made))) in
    record {
      spelled = opening ∙ ap (λ marks. Placed at OpenRound ∷ marks) (inside ∙ joined);
      shorter = let a = name.shorter in let b = more.shorter in omega arith;
      source = alike ∙ here;
      levels = let a = name.levels in let b = more.levels in omega arith;
    }
