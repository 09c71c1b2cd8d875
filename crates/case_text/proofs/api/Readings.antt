-- What reading answers, of a case and of any other text.
use Rattle.std.proofs.Common.{◌≡◌, ◌↔◌, ℕ, ◌-◌, List, length, Result, Ok, Err, refl, ap, subst}
use Rattle.std.specs.Prelude.{IfOk}
use Rattle.text_parts.specs.declared.stop.Stop.{Stop}
use Rattle.text_parts.specs.Parts.{Taking, at_end}
use Rattle.text_parts.specs.Places.{IsPlace}
use Rattle.text_parts.specs.Exact.{IsExact}
use Rattle.text_parts.proofs.api.Whole.{stop_place, whole_found, whole_only}
use Rattle.case_text.specs.declared.case.form.Form.{Form}
use Rattle.case_text.specs.declared.case.refusal.CaseRefused.{CaseRefused}
use Rattle.case_text.specs.declared.case.refusal.BadCase.{BadCase}
use Rattle.case_text.specs.Content.{Content}
use Rattle.case_text.specs.Spelling.{Spells}
use Rattle.case_text.specs.Reading.{case_at, reading, refused, Answers}
use Rattle.case_text.proofs.api.Lines.{case_exact}

unrefused : {A : Type 0} (len : ℕ) (taking : Result A Stop) (bad : BadCase) → refused len taking ≡ Err bad → (s : Stop) × (taking ≡ Err s) × (len - s.left ≡ bad.at)
unrefused len (Ok a) bad e = absurd cc
unrefused len (Err s) bad e = let same : record { at = len - s.left; kind = s.kind } ≡ bad = cc in (s, refl, ap (λ (x : BadCase). x.at) same)

answered : {A : Type 0} (len : ℕ) (taking : Result A Stop) (a : A) → refused len taking ≡ Ok a → taking ≡ Ok a
answered {A} len (Ok b) a e = let same : b ≡ a = cc in ap (λ (x : A). Ok x) same
answered len (Err s) a e = absurd cc

module _ {A : Type 0} (Text : A → List ℕ → Type 0) (taking : List ℕ → Taking A) (exact : IsExact Text taking) (bytes : List ℕ) where
  abbrev read : Result A BadCase
  read = refused (length bytes) (at_end (taking bytes))

  -- a refusal is at the longest prefix with which some text begins
  pub refused_at : (bad : BadCase) → read ≡ Err bad → IsPlace Text bytes bad.at
  refused_at bad e =
      let h = unrefused (length bytes) (at_end (taking bytes)) bad e in
      subst (λ (n : ℕ). IsPlace Text bytes n) h.2 (stop_place Text taking exact bytes h.0 h.1).1

  pub answer_found : (a : A) → read ≡ Ok a → Text a bytes
  answer_found a e = whole_found Text taking exact bytes a (answered (length bytes) (at_end (taking bytes)) a e)

  pub answer_only : (a : A) → Text a bytes → read ≡ Ok a
  answer_only a h = ap (refused (length bytes)) (whole_only Text taking exact bytes a h)

  -- what a call answered is spelled, and what is spelled it answers
  pub answers_found : (result : Result A CaseRefused) → Answers result read → IfOk result (λ a. Text a bytes)
  answers_found (Ok a) h = answer_found a h
  answers_found (Err e) h = tt

  pub answers_only : (result : Result A CaseRefused) → Answers result read → (a : A) → Text a bytes → Answers result (Ok a)
  answers_only result h a spelled = subst (Answers result) (answer_only a spelled) h

abbrev pub CaseText : Form → Content → List ℕ → Type 0
CaseText form c text = Spells form text c

pub read_exactly : (form : Form) (bytes : List ℕ) (c : Content) → (reading form bytes ≡ Ok c) ↔ Spells form bytes c
read_exactly form bytes c = (answer_found (CaseText form) (case_at form) (case_exact form) bytes c, answer_only (CaseText form) (case_at form) (case_exact form) bytes c)
