-- Each of the fifteen programs of `demo` is accepted.
use Rattle.std.proofs.Common.{◌≡◌, ℕ, zero, suc, ◌+◌, ◌*◌, ◌<◌, ◌≤◌, List, [], ◌∷◌, length, decimal, Ok, Err, None, Result, refl, sym, ap, ap₂, ◌∙◌, ◌++◌, ◌/◌, ◌%◌, subst, inl, inr, arith, IsTrue}
use Rattle.std.specs.Prelude.{codes, is_ok, nat_lt, if◌then◌else◌}
use Rattle.std.specs.List.{concat}
use Rattle.std.proofs.lemmas.Bool.{cases_lt, cond-true, cond-false, lt-ltb, le-ltb}
use Rattle.std.proofs.lemmas.Fmt.{decimal_digit, decimal_step}
use Rattle.arr_ast.specs.declared.expression.SingleFunction.TheVariants as single
use Rattle.arr_ast.specs.declared.expression.PairFunction.TheVariants as pair
use Rattle.arr_ast.specs.declared.program.Dimension.{Dimension}
use Rattle.arr_ast.specs.declared.program.Dimensions.TheVariants.{Matrix}
use Rattle.arr_ast.specs.ExpressionTree.{NameTree, ExpressionTree, ExpressionOf, NoTerm, TermOf, NoFactor, Name, Single, Pair}
use Rattle.arr_ast.specs.ProgramTree.{Output, InputTree, ProgramTree}
use Rattle.arr_lex.specs.declared.token.Token.{Token}
use Rattle.arr_lex.specs.Lexing.{tokens_from}
use Rattle.arr_parse.specs.Grammar.{Inputs}
use Rattle.arr_parse.specs.Parsed.{IsTreeOf}
use Rattle.arr_parse.specs.Reading.{refusal}
use Rattle.arr_check.specs.Program.{run_program}
use Rattle.arr_compile.specs.Programs.{IsAccepted}
use Rattle.gkr_cmd.specs.Demo.{square_text, demo_program}
use Rattle.arr_ast.specs.declared.lang.Lang.TheVariants as langs

-- the program of a size, by the digits of the size
square_of : List ℕ → List ℕ → List ℕ
square_of words digits = concat (words ∷ digits ∷ codes "][" ∷ digits ∷ codes "]; " ∷ [])

program_of : List ℕ → List ℕ
program_of digits = concat (square_of (codes "input a[") digits ∷ square_of (codes "input b[") digits ∷ codes "output sum(matmul(a,b));" ∷ [])

abbrev pub name_at : ℕ → ℕ → NameTree
name_at at number = record { at = at; number = number }

abbrev pub size_at : ℕ → ℕ → Dimension
size_at at n = record { at = at; size = n }

-- the declaration of a square matrix that is at a place, where its size has so many digits
abbrev pub square_at : ℕ → ℕ → ℕ → ℕ → InputTree
square_at at name n digits = record {
  at = at;
  name = name_at (at + 6) name;
  dimensions = Matrix (size_at (at + 8) n) (size_at (at + 10 + digits) n);
}

-- a name alone
abbrev pub alone : ℕ → ℕ → ExpressionTree
alone at name = ExpressionOf (TermOf (Name (name_at at name)) NoFactor) NoTerm

-- the sum of the elements of a product of matrices, from a place on
abbrev pub total_at : ℕ → ExpressionTree
total_at at =
    ExpressionOf (TermOf (Single single.Sum at (at + 3)
    (ExpressionOf (TermOf (Pair pair.MatMul (at + 4) (at + 10) (alone (at + 11) 1) (alone (at + 13) 10)) NoFactor) NoTerm)) NoFactor) NoTerm

-- the program's tree, where a declaration is so long
abbrev pub tree_of : ℕ → ℕ → ProgramTree
tree_of n digits =
    let long = 13 + 2 * digits in
    record {
      inputs = square_at 0 1 n digits ∷ square_at long 10 n digits ∷ [];
      definitions = [];
      statements = Output (2 * long) (total_at (2 * long + 7)) ∷ [];
      end = 2 * long + 24;
    }

-- ---- each is accepted

abbrev or_none : Result (List Token) ℕ → List Token
or_none (Ok tokens) = tokens
or_none (Err at) = []

abbrev tokens_of : List ℕ → List Token
tokens_of digits = or_none (tokens_from 0 0 (program_of digits))

-- a number of one digit, or of two of which the first is 1
abbrev pub digits_of : ℕ → List ℕ
digits_of n = if nat_lt n 10 then (48 + n) ∷ [] else 49 ∷ (38 + n) ∷ []

record IsFine (n : ℕ) : Type 0 where
  lexed : tokens_from 0 0 (program_of (digits_of n)) ≡ Ok (tokens_of (digits_of n))
  read : refusal langs.One (length (program_of (digits_of n))) (Inputs ∷ []) (tokens_of (digits_of n)) ≡ None
  tree : IsTreeOf langs.One (program_of (digits_of n)) (tokens_of (digits_of n)) (tree_of n (length (digits_of n)))
  checked : IsTrue (is_ok (run_program langs.One (tree_of n (length (digits_of n)))))

-- so many from one number on
abbrev Each : (ℕ → Type 0) → ℕ → ℕ → Type 0
Each P n zero = Unit {0}
Each P n (suc many) = P n × Each P (n + 1) many

one_of : (P : ℕ → Type 0) (first many : ℕ) → Each P first many → (n : ℕ) → first ≤ n → n < first + many → P n
one_of P first zero each n least most = absurd (omega (arith, least, most))
one_of P first (suc many) each n least most =
    elim (cases_lt first n) [
      | inl later ↦ one_of P (first + 1) many each.1 n (omega arith) (omega arith)
      | inr here ↦ let same : first ≡ n = omega (arith, here, least) in subst P same each.0
    ]

each_fine : Each IsFine 2 15
unfolding square_of program_of
each_fine = (
  record { lexed = refl; read = refl; tree = record { spelled = refl; end = refl }; checked = refl },
  (
    record { lexed = refl; read = refl; tree = record { spelled = refl; end = refl }; checked = refl },
    (
      record { lexed = refl; read = refl; tree = record { spelled = refl; end = refl }; checked = refl },
      (
        record { lexed = refl; read = refl; tree = record { spelled = refl; end = refl }; checked = refl },
        (
          record { lexed = refl; read = refl; tree = record { spelled = refl; end = refl }; checked = refl },
          (
            record { lexed = refl; read = refl; tree = record { spelled = refl; end = refl }; checked = refl },
            (
              record { lexed = refl; read = refl; tree = record { spelled = refl; end = refl }; checked = refl },
              (
                record { lexed = refl; read = refl; tree = record { spelled = refl; end = refl }; checked = refl },
                (
                  record { lexed = refl; read = refl; tree = record { spelled = refl; end = refl }; checked = refl },
                  (
                    record { lexed = refl; read = refl; tree = record { spelled = refl; end = refl }; checked = refl },
                    (
                      record { lexed = refl; read = refl; tree = record { spelled = refl; end = refl }; checked = refl },
                      (
                        record { lexed = refl; read = refl; tree = record { spelled = refl; end = refl }; checked = refl },
                        (
                          record { lexed = refl; read = refl; tree = record { spelled = refl; end = refl }; checked = refl },
                          (
                            record { lexed = refl; read = refl; tree = record { spelled = refl; end = refl }; checked = refl },
                            (
                              record { lexed = refl; read = refl; tree = record { spelled = refl; end = refl }; checked = refl },
                              tt,
                            ),
                          ),
                        ),
                      ),
                    ),
                  ),
                ),
              ),
            ),
          ),
        ),
      ),
    ),
  ),
)

-- ---- as their numbers are written

digits_are : (n : ℕ) → n ≤ 16 → decimal n ≡ digits_of n
digits_are n most =
    elim (cases_lt n 10) [
      | inl one ↦ decimal_digit n one ∙ sym (cond-true (nat_lt n 10) _ _ (lt-ltb n 10 one))
      | inr two ↦
          let tens : n / 10 ≡ 1 = omega (arith, most, two) in
          let ones : 48 + n % 10 ≡ 38 + n = omega (arith, most, two) in
          decimal_step n two (omega (arith, most))
          ∙ ap₂ (λ (front : List ℕ) (last : ℕ). front ++ last ∷ []) (ap decimal tens ∙ decimal_digit 1 (omega arith)) ones
          ∙ sym (cond-false (nat_lt n 10) _ _ (le-ltb n 10 two))
    ]

unfoldable pub demo_tree : ℕ → ProgramTree
demo_tree n = tree_of n (length (digits_of n))

pub accepted : (n : ℕ) → 2 ≤ n → n ≤ 16 → IsAccepted langs.One (demo_program n) (demo_tree n)
unfolding square_of program_of square_text demo_tree
accepted n least most =
    let fine = one_of IsFine 2 15 each_fine n least (omega (arith, most)) in
    let found : IsAccepted langs.One (program_of (digits_of n)) (demo_tree n) = record {
      read = record { tokens = tokens_of (digits_of n); lexed = fine.lexed; read = fine.read; tree_of = fine.tree };
      checked = fine.checked;
    } in
    subst (λ (digits : List ℕ). IsAccepted langs.One (program_of digits) (demo_tree n)) (sym (digits_are n most)) found
