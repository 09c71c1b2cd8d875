-- The circuit of a text has no fault, and its output layer holds after position 0 what the program means.
use Rattle.std.proofs.Common.{◌≡◌, ℕ, zero, suc, ◌+◌, ◌<◌, ◌≤◌, List, [], ◌∷◌, ◌++◌, Option, Some, IsTrue, length, get_or, map, take, drop, replicate, refl, sym, ap, ap₂, ◌∙◌, subst, arith}
use Rattle.std.specs.Prelude.{is_none, slice_get, slice_index_or}
use Rattle.std.proofs.lemmas.List.{take_more, map-append}
use Rattle.std.proofs.lemmas.Option.{get_or_from_slice_get}
use Rattle.arr_ast.specs.declared.lang.Lang.{Lang}
use Rattle.arr_ast.specs.declared.lang.Lang.TheVariants.{One, Two}
use Rattle.field_ext.specs.Field.{F, K, zero_k, embed_k}
use Rattle.circuit_core.specs.Parts.{Parts, layer_values, zero_f}
use Rattle.circuit_core.specs.Faults.{fault_of}
use Rattle.circuit_core.specs.Sound.{SoundCircuit, greatest}
use Rattle.circuit_eval.specs.Tables.{AreTables}
use Rattle.wiring_poly.proofs.api.Identity.{take-front}
use Rattle.arr_ast.specs.ProgramTree.{ProgramTree}
use Rattle.arr_run.specs.Program.{input_count}
use Rattle.arr_eval.specs.Meaning.{meaning}
use Rattle.arr_lower.proofs.api.Counted.{is-list}
use Rattle.layer_compile.specs.Circuits.{AreKept}
use Rattle.layer_compile.proofs.api.NoFault.{faultless}
use Rattle.arr_compile.specs.Programs.{IsRead}
use Rattle.arr_compile.specs.Circuits.{limits_of, IsCompiled, Computes}
use Rattle.case_text.specs.Content.{Content}
use Rattle.case_prove.specs.Evaluated.{IsEvaluated}

-- ---- a sound circuit

pub kept : (lang : Lang) → AreKept (limits_of lang)
kept One = record { height = omega arith; exponent = omega arith }
kept Two = record { height = omega arith; exponent = omega arith }

abbrev pub sound : (lang : Lang) (text : List ℕ) (p : Parts) → IsCompiled lang text p → SoundCircuit
sound lang text p is = record {
  parts = p;
  faultless = subst (λ (q : Parts). IsTrue (is_none (fault_of greatest q))) (sym is.laid_out) (ap is_none (faultless (limits_of lang) (kept lang) is.nodes (is-list lang is.tree is.nodes is.lowered.nodes_are) is.fits));
  has_output = subst (λ (q : Parts). 1 ≤ q.outputs) (sym is.laid_out) (is-list lang is.tree is.nodes is.lowered.nodes_are).has_output;
}

-- ---- what is read from the output layer's table

pub one_more : (items : List K) (position : ℕ) (x : K) (old new : List F) → slice_get items (position + 1) ≡ Some x → position + 1 < length items →
    old ≡ map (λ (x : K). x.re) (take position (drop 1 items)) → new ≡ old ++ x.re ∷ [] → new ≡ map (λ (x : K). x.re) (take (position + 1) (drop 1 items))
one_more [] position x old new at within was put = absurd (omega arith)
one_more (first ∷ items) position x old new at within was put =
    let next : position + 1 ≡ suc position = omega arith in
    let here = get_or_from_slice_get items position x zero_k (subst (λ (n : ℕ). slice_get (first ∷ items) n ≡ Some x) next at) in
    put
    ∙ ap₂ (λ (xs : List F) (y : K). xs ++ y.re ∷ []) was (sym here)
    ∙ sym (map-append (λ (x : K). x.re) (take position items) (get_or items position zero_k ∷ []))
    ∙ ap (map (λ (x : K). x.re)) (sym (take_more items position zero_k (omega (arith, within))))

real_front : (n : ℕ) (xs : List F) → map (λ (x : K). x.re) (take n (map embed_k xs)) ≡ take n xs
real_front zero xs = refl
real_front (suc n) [] = refl
real_front (suc n) (x ∷ xs) = ap (λ (ys : List F). x ∷ ys) (real_front n xs)

pub real_behind : (n : ℕ) (xs : List F) → map (λ (x : K). x.re) (take n (drop 1 (map embed_k xs))) ≡ take n (drop 1 xs)
real_behind n [] = real_front n []
real_behind n (x ∷ xs) = real_front n xs

module _ (c : SoundCircuit) (inputs : List F) (tables : List (List K)) (are : AreTables c.parts inputs tables) where
  pub outputs_read : (items : List K) (n : ℕ) (outputs : List F) → items ≡ slice_index_or tables 0 [] → n ≡ c.parts.outputs → outputs ≡ map (λ (x : K). x.re) (take n (drop 1 items)) →
      outputs ≡ take c.parts.outputs (drop 1 (layer_values c.parts inputs 0))
  outputs_read items n outputs of many read =
      read
      ∙ ap (λ (m : ℕ). map (λ (x : K). x.re) (take m (drop 1 items))) many
      ∙ ap (λ (t : List K). map (λ (x : K). x.re) (take c.parts.outputs (drop 1 t))) (of ∙ are.each 0 (omega arith))
      ∙ real_behind c.parts.outputs (layer_values c.parts inputs 0)

-- ---- what the program means

abbrev pub OneTree : Type 0
OneTree = (lang : Lang) (text : List ℕ) (a b : ProgramTree) → IsRead lang text a → IsRead lang text b → a ≡ b

abbrev pub InputsAre : Type 0
InputsAre = (lang : Lang) (text : List ℕ) (parts : Parts) (is : IsCompiled lang text parts) → parts.inputs ≡ input_count is.tree.inputs

abbrev pub IsComputed : Type 0
IsComputed = (lang : Lang) (text : List ℕ) (parts : Parts) (is : IsCompiled lang text parts) (inputs : List F) → length inputs ≡ parts.inputs → Computes lang is.tree parts inputs

stand : (lang : Lang) (tree : ProgramTree) (p : Parts) (inputs : List F) (computed : Computes lang tree p inputs) → take p.outputs (drop 1 (layer_values p inputs 0)) ≡ computed.outputs
stand lang tree p inputs computed =
    ap (λ (values : List F). take p.outputs (drop 1 values)) computed.values_are
    ∙ ap (λ (n : ℕ). take n (computed.outputs ++ replicate computed.zeros zero_f)) (sym computed.as_many)
    ∙ take-front computed.outputs (replicate computed.zeros zero_f)

-- what is read after position 0 of the output layer's table is the program's meaning
pub evaluated : InputsAre → IsComputed → (c : Content) (circuit : SoundCircuit) → IsCompiled c.lang c.program circuit.parts → length c.inputs ≡ circuit.parts.inputs →
    (inputs outputs : List F) (tables : List (List K)) (items : List K) (n : ℕ) → inputs ≡ c.inputs → AreTables circuit.parts inputs tables → items ≡ slice_index_or tables 0 [] → n ≡ circuit.parts.outputs →
    outputs ≡ map (λ (x : K). x.re) (take n (drop 1 items)) → (length outputs ≡ circuit.parts.outputs) × IsEvaluated c outputs
evaluated inputs_are computes c circuit is counted inputs outputs tables items n of_case are of many read =
    let p : Parts = circuit.parts in
    let computed = computes c.lang c.program p is c.inputs counted in
    let tables_are = subst (λ (xs : List F). AreTables p xs tables) of_case are in
    let same : outputs ≡ computed.outputs = outputs_read circuit c.inputs tables tables_are items n outputs of many read ∙ stand c.lang is.tree p c.inputs computed in (
      ap length same ∙ computed.as_many,
      record {
        tree = is.tree;
        accepted = is.lowered.accepted;
        counted = counted ∙ inputs_are c.lang c.program p is;
        meaning_is = computed.meaning_is ∙ ap Some (sym same);
      },
    )

one_list : (o : Option (List F)) (xs ys : List F) → o ≡ Some xs → o ≡ Some ys → xs ≡ ys
one_list o xs ys is is' = cc

-- a case has one meaning
pub one_meaning : OneTree → (c : Content) (xs ys : List F) → IsEvaluated c xs → IsEvaluated c ys → xs ≡ ys
one_meaning one c xs ys is is' =
    let same = one c.lang c.program is.tree is'.tree is.accepted.read is'.accepted.read in
    one_list (meaning c.lang is.tree c.inputs) xs ys is.meaning_is (ap (λ (tree : ProgramTree). meaning c.lang tree c.inputs) same ∙ is'.meaning_is)

-- The inputs and outputs are as many as the circuit's, and the outputs come after position 0 of its output layer.
pub record AreThere (p : Parts) (inputs outputs : List F) : Type 0 where
  pub counted : length inputs ≡ p.inputs
  pub as_many : length outputs ≡ p.outputs
  pub stand : outputs ≡ take (length outputs) (drop 1 (layer_values p inputs 0))

pub meaning_there : OneTree → InputsAre → IsComputed → (c : Content) (p : Parts) (is : IsCompiled c.lang c.program p) (outputs : List F) → IsEvaluated c outputs → AreThere p c.inputs outputs
meaning_there one inputs_are computes c p is outputs ev =
    let same : ev.tree ≡ is.tree = one c.lang c.program ev.tree is.tree ev.accepted.read is.lowered.accepted.read in
    let counted : length c.inputs ≡ p.inputs = ev.counted ∙ ap (λ (tree : ProgramTree). input_count tree.inputs) same ∙ sym (inputs_are c.lang c.program p is) in
    let computed = computes c.lang c.program p is c.inputs counted in
    let are : outputs ≡ computed.outputs =
    one_list (meaning c.lang ev.tree c.inputs) outputs computed.outputs ev.meaning_is (ap (λ (tree : ProgramTree). meaning c.lang tree c.inputs) same ∙ computed.meaning_is) in
    let many : length outputs ≡ p.outputs = ap length are ∙ computed.as_many in
    record {
      counted = counted;
      as_many = many;
      stand = are ∙ sym (stand c.lang is.tree p c.inputs computed) ∙ ap (λ (n : ℕ). take n (drop 1 (layer_values p c.inputs 0))) (sym many);
    }
