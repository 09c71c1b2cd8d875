-- Which words are which command: the walk of `clap` over the words that people write.
use Rattle.std.proofs.Common.{◌≡◌, ◌≢◌, ◌∙◌, ◌<◌, ◌≤◌, ◌^◌, ◌++◌, Bool, true, false, ℕ, List, [], ◌∷◌, length, Option, Some, None, is_some, option_map, ap, ap₂, refl, sym, subst, inl, inr, codes, decimal, arith}
use Rattle.std.proofs.lemmas.Bool.{cases_Bool, and_from, and_parts, cond-false, eqb-true, false_from_ne_true, le-leb, leb-true}
use Rattle.std.proofs.lemmas.Fmt.{decimal_is_IsNumeral}
use Rattle.std.proofs.lemmas.List.{append-nil, append_assoc}
use Rattle.std.proofs.lemmas.Slice.Eq.{bytes_eq-Decides}
use Rattle.std.specs.List.{fold}
use Rattle.std.specs.Option.{option_map_or}
use Rattle.std.specs.Prelude.{◌==◌, ◌&&◌, find, if◌then◌else◌, nat_le, option_and_then, slice_get, unwrap_or}
use Rattle.std.specs.Str.{bytes_eq, chars}
use Rattle.std.specs.Str.Parse.{AllDigits}
use Rattle.clap.specs.Faults.{bundle_fault, bundle_step_fault, check_fault, defaults_fault, entered_fault, flag_word_fault, flags_fault, level_fault, other_fault, settle_fault, step_fault, turn_fault, walk_fault, word_fault}
use Rattle.clap.specs.Kinds.{Kinds, or_else}
use Rattle.clap.specs.Lexer.{long_of, long_of_rest, short_of, short_of_rest, strip_byte}
use Rattle.clap.specs.Simple.{App, Shape, built, entered, label_of, names_of, rows_at}
use Rattle.clap.specs.Walk.{Held, Names, Row, Rule, Text, Waiting, Walk, after_flag, after_step, answers_to, bundle_met, bundle_step, finished, idle, long_or_other, nothing_held, option, plain, plain_word, positional, rows_after, settled, short_or_plain, subcommand_met, subcommand_or_other, trailing, walk, walk_from, walked, word_met}
use Rattle.clap.specs.Words.{fault_of, subcommand_of}
use Rattle.clap.proofs.OnLiterals.{clap_on_literals}
use Rattle.proof_two.specs.declared.kind.ProofKind.TheVariants.{ByLines, ByPairs}
use Rattle.proof_two.specs.declared.kind.ProofVersion.TheVariants.{One, Two}
use Rattle.gkr_words.specs.declared.words.Command.TheVariants.{OfCase, Demo, Serve, ServeHistory, Session}
use Rattle.gkr_words.specs.declared.words.CaseCommand.TheVariants.{Eval, Circuit, Prove, Verify, Audit, Convert}
use Rattle.gkr_words.specs.Commands.{IsPieceSize, command_line, command_of, command_of_rows, command_unless, demo_of, if_piece_size, if_worker_count, number_of, piece_of, prove_of, session_of, workers_of}
use Rattle.gkr_words.proofs.Numbers.{number_taken}
use Rattle.gkr_words.proofs.WordsRead.{command_taken}

-- ---- the top: the first word is a subcommand's name

abbrev line : App
line = built command_line

abbrev start : Walk
start = walk_from nothing_held

abbrev stopped_at : Text → List Text → Walk
stopped_at name behind = record { held = nothing_held; waiting = idle; position = 1; is_trailing = false; stopped = Some (name, behind) }

stopped_on : (rules : List Rule) (names : Names) (name : Text) (behind ws : List Text) → fold (walked rules names) (stopped_at name behind) ws ≡ stopped_at name (behind ++ ws)
unfolding walked
stopped_on rules names name behind [] = ap (stopped_at name) (sym (append-nil behind))
stopped_on rules names name behind (w ∷ ws) = stopped_on rules names name (behind ++ w ∷ []) ws ∙ ap (stopped_at name) (append_assoc behind (w ∷ []) ws)

stopped_fault : (s : Shape) (names : Names) (name : Text) (behind ws : List Text) → walk_fault s names (stopped_at name behind) ws ≡ []
unfolding walk_fault walked
stopped_fault s names name behind [] = refl
stopped_fault s names name behind (w ∷ ws) = stopped_fault s names name (behind ++ w ∷ []) ws

or_nothing : (kinds : Kinds) → or_else kinds [] ≡ kinds
or_nothing [] = refl
or_nothing (k ∷ ks) = refl

-- why a subcommand refuses the words after its name
abbrev leaf_fault : Shape → List Text → Kinds
leaf_fault s ws = level_fault s [] nothing_held ws false []

-- why the top refuses words, by where its walk ends and by what fails on the way
abbrev top_fault : Walk → Kinds → Kinds
top_fault w kinds = or_else kinds (or_else (entered_fault line w.stopped) (or_else (settle_fault line.top.rules line.top.args_override_self w.held)
    (or_else (defaults_fault (settled line.top.rules w.held).rows line.top.rules) (check_fault line.top (finished line.top.rules w.held) (is_some (entered line w.stopped))))))

abbrev found_fault : List Text → Option Shape → Kinds
found_fault ws found = or_else (option_map_or (λ s. leaf_fault s ws) found []) (check_fault line.top [] (is_some (option_map (λ s. rows_at s ws) found)))

-- the word is the name of this subcommand
record IsNameOf (name : Text) (s : Shape) : Type 0 where
  stops : walked line.top.rules (names_of line) start name ≡ stopped_at name []
  passes : turn_fault line.top (names_of line) start name ≡ []
  found : find (λ s. answers_to name (label_of s)) line.subs ≡ Some s
  named : s.name ≡ name

enters_fault : (name : Text) (s : Shape) → IsNameOf name s → (program : Text) (ws : List Text) → fault_of command_line (program ∷ name ∷ ws) ≡ leaf_fault s ws
unfolding walk_fault defaults_fault
enters_fault name s is program ws =
    let ends : walk line.top.rules (names_of line) nothing_held (name ∷ ws) ≡ stopped_at name ws =
    ap (λ w. fold (walked line.top.rules (names_of line)) w ws) is.stops ∙ stopped_on line.top.rules (names_of line) name [] ws in
    let none : walk_fault line.top (names_of line) start (name ∷ ws) ≡ [] =
    ap₂ (λ kinds w. or_else kinds (walk_fault line.top (names_of line) w ws)) is.passes is.stops ∙ stopped_fault line.top (names_of line) name [] ws in
    let by_top : fault_of command_line (program ∷ name ∷ ws) ≡ top_fault (stopped_at name ws) [] = ap₂ top_fault ends none in
    let by_leaf : top_fault (stopped_at name ws) [] ≡ found_fault ws (Some s) = ap (found_fault ws) is.found in
    by_top ∙ (by_leaf ∙ or_nothing (leaf_fault s ws))

enters_rows : (name : Text) (s : Shape) → IsNameOf name s → (program : Text) (ws : List Text) → subcommand_of command_line (program ∷ name ∷ ws) ≡ Some (name, rows_after s.rules [] ws)
enters_rows name s is program ws =
    let ends : walk line.top.rules (names_of line) nothing_held (name ∷ ws) ≡ stopped_at name ws =
    ap (λ w. fold (walked line.top.rules (names_of line)) w ws) is.stops ∙ stopped_on line.top.rules (names_of line) name [] ws in
    ap (λ w. entered line w.stopped) ends
    ∙ (ap (option_map (λ s. rows_at s ws)) is.found ∙ ap (λ found. Some (found, rows_after s.rules [] ws)) is.named)

-- words that a subcommand takes are its command, by the rows at the end of its walk
by_leaf : (name : Text) (s : Shape) → IsNameOf name s → (program : Text) (ws : List Text) → leaf_fault s ws ≡ [] → command_of (program ∷ name ∷ ws) ≡ command_of_rows (name, rows_after s.rules [] ws)
by_leaf name s is program ws none =
    command_taken (program ∷ name ∷ ws) (enters_fault name s is program ws ∙ none) ∙ ap (option_and_then command_of_rows) (enters_rows name s is program ws)

abbrev leaf : Text → Shape
leaf name = unwrap_or (find (λ s. answers_to name (label_of s)) line.subs) line.top

eval_is : IsNameOf (codes "eval") (leaf (codes "eval"))
unfolding clap_on_literals
eval_is = record { stops = refl; passes = refl; found = refl; named = refl }

circuit_is : IsNameOf (codes "circuit") (leaf (codes "circuit"))
unfolding clap_on_literals
circuit_is = record { stops = refl; passes = refl; found = refl; named = refl }

prove_is : IsNameOf (codes "prove") (leaf (codes "prove"))
unfolding clap_on_literals
prove_is = record { stops = refl; passes = refl; found = refl; named = refl }

verify_is : IsNameOf (codes "verify") (leaf (codes "verify"))
unfolding clap_on_literals
verify_is = record { stops = refl; passes = refl; found = refl; named = refl }

audit_is : IsNameOf (codes "audit") (leaf (codes "audit"))
unfolding clap_on_literals
audit_is = record { stops = refl; passes = refl; found = refl; named = refl }

convert_is : IsNameOf (codes "convert") (leaf (codes "convert"))
unfolding clap_on_literals
convert_is = record { stops = refl; passes = refl; found = refl; named = refl }

demo_is : IsNameOf (codes "demo") (leaf (codes "demo"))
unfolding clap_on_literals
demo_is = record { stops = refl; passes = refl; found = refl; named = refl }

serve_is : IsNameOf (codes "serve") (leaf (codes "serve"))
unfolding clap_on_literals
serve_is = record { stops = refl; passes = refl; found = refl; named = refl }

session_is : IsNameOf (codes "session") (leaf (codes "session"))
unfolding clap_on_literals
session_is = record { stops = refl; passes = refl; found = refl; named = refl }

pub session_alone : (program : Text) → command_of (program ∷ codes "session" ∷ []) ≡ None
unfolding clap_on_literals
session_alone program = by_leaf (codes "session") (leaf (codes "session")) session_is program [] refl

pub serve_words : (program : Text) → command_of (program ∷ codes "serve" ∷ []) ≡ Some (Serve 1 1 1)
unfolding clap_on_literals
serve_words program = by_leaf (codes "serve") (leaf (codes "serve")) serve_is program [] refl

pub serve_history_words : (program : Text) → command_of (program ∷ codes "serve" ∷ codes "--history" ∷ []) ≡ Some (ServeHistory 1 1 1)
unfolding clap_on_literals
serve_history_words program = by_leaf (codes "serve") (leaf (codes "serve")) serve_is program (codes "--history" ∷ []) refl

pub eval_words : (program : Text) → command_of (program ∷ codes "eval" ∷ []) ≡ Some (OfCase Eval)
unfolding clap_on_literals
eval_words program = by_leaf (codes "eval") (leaf (codes "eval")) eval_is program [] refl

pub circuit_words : (program : Text) → command_of (program ∷ codes "circuit" ∷ []) ≡ Some (OfCase Circuit)
unfolding clap_on_literals
circuit_words program = by_leaf (codes "circuit") (leaf (codes "circuit")) circuit_is program [] refl

pub verify_words : (program : Text) → command_of (program ∷ codes "verify" ∷ []) ≡ Some (OfCase Verify)
unfolding clap_on_literals
verify_words program = by_leaf (codes "verify") (leaf (codes "verify")) verify_is program [] refl

pub audit_words : (program : Text) → command_of (program ∷ codes "audit" ∷ []) ≡ Some (OfCase Audit)
unfolding clap_on_literals
audit_words program = by_leaf (codes "audit") (leaf (codes "audit")) audit_is program [] refl

pub prove_words : (program : Text) → command_of (program ∷ codes "prove" ∷ []) ≡ Some (OfCase (Prove 1 (ByLines One)))
unfolding clap_on_literals
prove_words program = by_leaf (codes "prove") (leaf (codes "prove")) prove_is program [] refl

-- ---- a word that is no option

-- the word doesn't begin with a hyphen
pub record IsPlainWord (word : Text) : Type 0 where
  pub dashes : bytes_eq word (45 ∷ 45 ∷ []) ≡ false
  pub long : long_of word ≡ None
  pub short : short_of word ≡ None

-- a walk within a subcommand, before `--`
abbrev at : Held → Waiting → ℕ → Walk
at h waiting position = record { held = h; waiting = waiting; position = position; is_trailing = false; stopped = None }

no_name : (waiting : Waiting) (word : Text) → subcommand_met [] waiting word ≡ None
no_name idle word = refl
no_name (option id) word = refl
no_name positional word = refl

plain_met : (rules : List Rule) (h : Held) (waiting : Waiting) (position : ℕ) (word : Text) → IsPlainWord word → word_met rules [] false waiting position word h ≡ plain_word rules waiting word h
plain_met rules h waiting position word is =
    ap (λ name. subcommand_or_other rules name waiting position word h) (no_name waiting word)
    ∙ (ap (λ dashes. if dashes then (h, trailing position) else long_or_other rules waiting word (long_of word) h) is.dashes
    ∙ (ap (λ long. long_or_other rules waiting word long h) is.long ∙ ap (λ short. short_or_plain rules waiting word short h) is.short))

plain_fault : (s : Shape) (h : Held) (waiting : Waiting) (word : Text) → IsPlainWord word → word_fault s [] false waiting word h ≡ []
plain_fault s h waiting word is =
    ap (λ name. other_fault s name word h) (no_name waiting word)
    ∙ (ap (λ dashes. if dashes then [] else flag_word_fault s.rules s.args_override_self (long_of word) word h) is.dashes
    ∙ (ap (λ long. flag_word_fault s.rules s.args_override_self long word h) is.long ∙ ap (λ short. option_map_or (λ flags. bundle_fault s.rules s.args_override_self flags h) short []) is.short))

-- the walk after such a word
plain_walked : (rules : List Rule) (h : Held) (waiting : Waiting) (position : ℕ) (word : Text) → IsPlainWord word →
    walked rules [] (at h waiting position) word ≡ after_step rules word (at h waiting position) (plain_word rules waiting word h).0 (plain_word rules waiting word h).1
unfolding walked
plain_walked rules h waiting position word is =
    ap (λ met. after_step rules word (at h waiting position) met.0 met.1) (plain_met rules h waiting position word is)

plain_turn : (s : Shape) (h : Held) (waiting : Waiting) (position : ℕ) (word : Text) → IsPlainWord word →
    turn_fault s [] (at h waiting position) word ≡ step_fault s position (plain_word s.rules waiting word h).0 (plain_word s.rules waiting word h).1
plain_turn s h waiting position word is =
    ap₂ (λ kinds met. or_else kinds (step_fault s position met.0 met.1)) (plain_fault s h waiting word is) (plain_met s.rules h waiting position word is)

-- ---- the words after a subcommand's name

abbrev leaf_end : Shape → Walk → Kinds
leaf_end s w = or_else (settle_fault s.rules s.args_override_self w.held) (or_else (defaults_fault (settled s.rules w.held).rows s.rules) (check_fault s (finished s.rules w.held) false))

-- a walk that ends here, with nothing that fails on the way or at its end
record EndsAt (s : Shape) (ws : List Text) (w : Walk) : Type 0 where
  ends : walk s.rules [] nothing_held ws ≡ w
  passes : walk_fault s [] start ws ≡ []
  finishes : leaf_end s w ≡ []

by_end : (name : Text) (s : Shape) → IsNameOf name s → (program : Text) (ws : List Text) (w : Walk) → EndsAt s ws w → command_of (program ∷ name ∷ ws) ≡ command_of_rows (name, finished s.rules w.held)
by_end name s is program ws w at_end =
    let none : leaf_fault s ws ≡ [] = ap₂ (λ w kinds. or_else kinds (or_else [] (leaf_end s w))) at_end.ends at_end.passes ∙ at_end.finishes in
    by_leaf name s is program ws none ∙ ap (λ w. command_of_rows (name, finished s.rules w.held)) at_end.ends

abbrev waits_for_workers : Held → Held
waits_for_workers h = record h { pending = Some (codes "workers", []) }

abbrev has_workers : Held → Text → Held
has_workers h v = record h { pending = Some (codes "workers", v ∷ []) }

abbrev has_number : Text → Held
has_number n = record { rows = []; pending = Some (codes "number", n ∷ []); skip = 0 }

prove_end : (v : Text) → IsPlainWord v → EndsAt (leaf (codes "prove")) (codes "--workers" ∷ v ∷ []) (at (has_workers nothing_held v) idle 1)
unfolding clap_on_literals
prove_end v is =
    let s = leaf (codes "prove") in
    record {
      ends = plain_walked s.rules (waits_for_workers nothing_held) (option (codes "workers")) 1 v is;
      passes = ap (λ kinds. or_else kinds []) (plain_turn s (waits_for_workers nothing_held) (option (codes "workers")) 1 v is);
      finishes = refl;
    }

pub prove_with : (program v : Text) → IsPlainWord v → command_of (program ∷ codes "prove" ∷ codes "--workers" ∷ v ∷ []) ≡ option_map OfCase (prove_of (workers_of (Some v)) (Some (ByLines One)))
unfolding clap_on_literals
prove_with program v is = by_end (codes "prove") (leaf (codes "prove")) prove_is program (codes "--workers" ∷ v ∷ []) (at (has_workers nothing_held v) idle 1) (prove_end v is)

-- after the form that `--proof` names
pub prove_pair : (program : Text) → command_of (program ∷ codes "prove" ∷ codes "--proof" ∷ codes "pair" ∷ []) ≡ Some (OfCase (Prove 1 ByPairs))
unfolding clap_on_literals
prove_pair program = by_leaf (codes "prove") (leaf (codes "prove")) prove_is program (codes "--proof" ∷ codes "pair" ∷ []) refl

pub prove_line : (program : Text) → command_of (program ∷ codes "prove" ∷ codes "--proof" ∷ codes "1" ∷ []) ≡ Some (OfCase (Prove 1 (ByLines One)))
unfolding clap_on_literals
prove_line program = by_leaf (codes "prove") (leaf (codes "prove")) prove_is program (codes "--proof" ∷ codes "1" ∷ []) refl

pub prove_short : (program : Text) → command_of (program ∷ codes "prove" ∷ codes "--proof" ∷ codes "2" ∷ []) ≡ Some (OfCase (Prove 1 (ByLines Two)))
unfolding clap_on_literals
prove_short program = by_leaf (codes "prove") (leaf (codes "prove")) prove_is program (codes "--proof" ∷ codes "2" ∷ []) refl

pub convert_to_one : (program : Text) → command_of (program ∷ codes "convert" ∷ codes "--to" ∷ codes "1" ∷ []) ≡ Some (OfCase (Convert One))
unfolding clap_on_literals
convert_to_one program = by_leaf (codes "convert") (leaf (codes "convert")) convert_is program (codes "--to" ∷ codes "1" ∷ []) refl

pub convert_to_two : (program : Text) → command_of (program ∷ codes "convert" ∷ codes "--to" ∷ codes "2" ∷ []) ≡ Some (OfCase (Convert Two))
unfolding clap_on_literals
convert_to_two program = by_leaf (codes "convert") (leaf (codes "convert")) convert_is program (codes "--to" ∷ codes "2" ∷ []) refl

pub convert_to_other : (program : Text) → command_of (program ∷ codes "convert" ∷ codes "--to" ∷ codes "3" ∷ []) ≡ None
unfolding clap_on_literals
convert_to_other program = by_leaf (codes "convert") (leaf (codes "convert")) convert_is program (codes "--to" ∷ codes "3" ∷ []) refl

pub convert_to_none : (program : Text) → command_of (program ∷ codes "convert" ∷ []) ≡ None
unfolding clap_on_literals
convert_to_none program = by_leaf (codes "convert") (leaf (codes "convert")) convert_is program [] refl

pub other_form : (program : Text) → command_of (program ∷ codes "prove" ∷ codes "--proof" ∷ codes "lines" ∷ []) ≡ None
unfolding clap_on_literals
other_form program = by_leaf (codes "prove") (leaf (codes "prove")) prove_is program (codes "--proof" ∷ codes "lines" ∷ []) refl

abbrev after_pair : Held
after_pair = settled (leaf (codes "prove")).rules (record { rows = []; pending = Some (codes "proof", codes "pair" ∷ []); skip = 0 })

pair_end : (v : Text) → IsPlainWord v → EndsAt (leaf (codes "prove")) (codes "--proof" ∷ codes "pair" ∷ codes "--workers" ∷ v ∷ []) (at (has_workers after_pair v) idle 1)
unfolding clap_on_literals
pair_end v is =
    let s = leaf (codes "prove") in
    record {
      ends = plain_walked s.rules (waits_for_workers after_pair) (option (codes "workers")) 1 v is;
      passes = ap (λ kinds. or_else kinds []) (plain_turn s (waits_for_workers after_pair) (option (codes "workers")) 1 v is);
      finishes = refl;
    }

pub pair_with : (program v : Text) → IsPlainWord v → command_of (program ∷ codes "prove" ∷ codes "--proof" ∷ codes "pair" ∷ codes "--workers" ∷ v ∷ []) ≡ option_map OfCase (prove_of (workers_of (Some v)) (Some ByPairs))
unfolding clap_on_literals
pair_with program v is =
    by_end (codes "prove") (leaf (codes "prove")) prove_is program (codes "--proof" ∷ codes "pair" ∷ codes "--workers" ∷ v ∷ []) (at (has_workers after_pair v) idle 1) (pair_end v is)

demo_end : (n : Text) → IsPlainWord n → EndsAt (leaf (codes "demo")) (n ∷ []) (at (has_number n) idle 2)
unfolding clap_on_literals
demo_end n is =
    let s = leaf (codes "demo") in
    record {
      ends = plain_walked s.rules nothing_held idle 1 n is;
      passes = ap (λ kinds. or_else kinds []) (plain_turn s nothing_held idle 1 n is);
      finishes = refl;
    }

pub demo_plain : (program n : Text) → IsPlainWord n → command_of (program ∷ codes "demo" ∷ n ∷ []) ≡ demo_of (number_of n) (Some 1)
unfolding clap_on_literals
demo_plain program n is = by_end (codes "demo") (leaf (codes "demo")) demo_is program (n ∷ []) (at (has_number n) idle 2) (demo_end n is)

-- what the number leaves where it is used
abbrev after_number : Text → Held
after_number n = settled (leaf (codes "demo")).rules (has_number n)

demo_with_end : (n v : Text) → IsPlainWord n → IsPlainWord v → EndsAt (leaf (codes "demo")) (n ∷ codes "--workers" ∷ v ∷ []) (at (has_workers (after_number n) v) idle 2)
unfolding clap_on_literals
demo_with_end n v is is' =
    let s = leaf (codes "demo") in
    let first = plain_walked s.rules nothing_held idle 1 n is in
    let held = waits_for_workers (after_number n) in
    record {
      ends =
          ap (λ w. walked s.rules [] (walked s.rules [] w (codes "--workers")) v) first ∙ plain_walked s.rules held (option (codes "workers")) 2 v is';
      passes =
          ap₂ (λ kinds w. or_else kinds (or_else (turn_fault s [] w (codes "--workers")) (or_else (turn_fault s [] (walked s.rules [] w (codes "--workers")) v) [])))
          (plain_turn s nothing_held idle 1 n is) first
          ∙ ap (λ kinds. or_else kinds []) (plain_turn s held (option (codes "workers")) 2 v is');
      finishes = refl;
    }

pub demo_with : (program n v : Text) → IsPlainWord n → IsPlainWord v → command_of (program ∷ codes "demo" ∷ n ∷ codes "--workers" ∷ v ∷ []) ≡ demo_of (number_of n) (workers_of (Some v))
unfolding clap_on_literals
demo_with program n v is is' =
    by_end (codes "demo") (leaf (codes "demo")) demo_is program (n ∷ codes "--workers" ∷ v ∷ []) (at (has_workers (after_number n) v) idle 2) (demo_with_end n v is is')

abbrev waits_for_piece : Held
waits_for_piece = record nothing_held { pending = Some (codes "piece", []) }

abbrev has_piece : Text → Held
has_piece b = record nothing_held { pending = Some (codes "piece", b ∷ []) }

session_end : (b : Text) → IsPlainWord b → EndsAt (leaf (codes "session")) (codes "--piece" ∷ b ∷ []) (at (has_piece b) idle 1)
unfolding clap_on_literals
session_end b is =
    let s = leaf (codes "session") in
    record {
      ends = plain_walked s.rules waits_for_piece (option (codes "piece")) 1 b is;
      passes = ap (λ kinds. or_else kinds []) (plain_turn s waits_for_piece (option (codes "piece")) 1 b is);
      finishes = refl;
    }

pub session_plain : (program b : Text) → IsPlainWord b → command_of (program ∷ codes "session" ∷ codes "--piece" ∷ b ∷ []) ≡ session_of (piece_of (Some b)) (Some 1)
unfolding clap_on_literals
session_plain program b is = by_end (codes "session") (leaf (codes "session")) session_is program (codes "--piece" ∷ b ∷ []) (at (has_piece b) idle 1) (session_end b is)

-- what the piece leaves where it is used
abbrev after_piece : Text → Held
after_piece b = settled (leaf (codes "session")).rules (has_piece b)

session_with_end : (b v : Text) → IsPlainWord b → IsPlainWord v → EndsAt (leaf (codes "session")) (codes "--piece" ∷ b ∷ codes "--workers" ∷ v ∷ []) (at (has_workers (after_piece b) v) idle 1)
unfolding clap_on_literals
session_with_end b v is is' =
    let s = leaf (codes "session") in
    let first = plain_walked s.rules waits_for_piece (option (codes "piece")) 1 b is in
    let held = waits_for_workers (after_piece b) in
    record {
      ends =
          ap (λ w. walked s.rules [] (walked s.rules [] w (codes "--workers")) v) first ∙ plain_walked s.rules held (option (codes "workers")) 1 v is';
      passes =
          ap₂ (λ kinds w. or_else kinds (or_else (turn_fault s [] w (codes "--workers")) (or_else (turn_fault s [] (walked s.rules [] w (codes "--workers")) v) [])))
          (plain_turn s waits_for_piece (option (codes "piece")) 1 b is) first
          ∙ ap (λ kinds. or_else kinds []) (plain_turn s held (option (codes "workers")) 1 v is');
      finishes = refl;
    }

pub session_with : (program b v : Text) → IsPlainWord b → IsPlainWord v → command_of (program ∷ codes "session" ∷ codes "--piece" ∷ b ∷ codes "--workers" ∷ v ∷ []) ≡ session_of (piece_of (Some b)) (workers_of (Some v))
unfolding clap_on_literals
session_with program b v is is' =
    by_end (codes "session") (leaf (codes "session")) session_is program (codes "--piece" ∷ b ∷ codes "--workers" ∷ v ∷ []) (at (has_workers (after_piece b) v) idle 1) (session_with_end b v is is')

-- ---- numbers

plain_by : (word : Text) → 0 < length word → ((rest : Text) → word ≡ 45 ∷ rest → ⊥) → IsPlainWord word
plain_by [] some other = absurd (omega arith)
plain_by (x ∷ xs) some other = elim (cases_Bool (x == 45)) [
  | inl hyphen ↦ absurd (other xs (ap (λ y. y ∷ xs) (eqb-true x 45 hyphen)))
  | inr differs ↦ record {
    dashes = bytes_differ x xs differs;
    long = ap (λ b. option_and_then long_of_rest (option_and_then (strip_byte 45) (if b then Some xs else None))) differs;
    short = ap (λ b. option_and_then short_of_rest (if b then Some xs else None)) differs;
  }
]
  where
    bytes_differ : (x : ℕ) (xs : Text) → (x == 45) ≡ false → bytes_eq (x ∷ xs) (45 ∷ 45 ∷ []) ≡ false
    bytes_differ x xs other = rw other refl

hyphen_is_no_digit : (rest : Text) → AllDigits 10 (45 ∷ rest) → ⊥
hyphen_is_no_digit rest digits = let low : 36 < 10 = digits.0 in omega arith

decimal_plain : (n : ℕ) → n < 2 ^ 32 → IsPlainWord (decimal n)
decimal_plain n fits =
    let numeral = (decimal_is_IsNumeral n (omega arith)).0 in
    plain_by (decimal n) numeral.0 (λ rest is. hyphen_is_no_digit rest (subst (AllDigits 10) is numeral.1))

workers_taken : (n : ℕ) → 1 ≤ n → n ≤ 64 → workers_of (Some (decimal n)) ≡ Some n
workers_taken n least most =
    ap (option_and_then if_worker_count) (number_taken (decimal n) n (omega arith) refl)
    ∙ ap (λ b. if b then Some n else None) (and_from _ _ (le-leb 1 n least) (le-leb n 64 most))

pub prove_by : (program : Text) (workers : ℕ) → 1 ≤ workers → workers ≤ 64 → command_of (program ∷ codes "prove" ∷ codes "--workers" ∷ decimal workers ∷ []) ≡ Some (OfCase (Prove workers (ByLines One)))
prove_by program workers least most =
    prove_with program (decimal workers) (decimal_plain workers (omega arith)) ∙ ap (λ w. option_map OfCase (prove_of w (Some (ByLines One)))) (workers_taken workers least most)

pub pair_by : (program : Text) (workers : ℕ) → 1 ≤ workers → workers ≤ 64
    → command_of (program ∷ codes "prove" ∷ codes "--proof" ∷ codes "pair" ∷ codes "--workers" ∷ decimal workers ∷ []) ≡ Some (OfCase (Prove workers ByPairs))
pair_by program workers least most =
    pair_with program (decimal workers) (decimal_plain workers (omega arith)) ∙ ap (λ w. option_map OfCase (prove_of w (Some ByPairs))) (workers_taken workers least most)

pub demo_of_number : (program : Text) (number : ℕ) → number < 2 ^ 32 → command_of (program ∷ codes "demo" ∷ decimal number ∷ []) ≡ Some (Demo number 1)
demo_of_number program number fits =
    demo_plain program (decimal number) (decimal_plain number fits) ∙ ap (λ n. demo_of n (Some 1)) (number_taken (decimal number) number fits refl)

pub demo_by : (program : Text) (number workers : ℕ) → number < 2 ^ 32 → 1 ≤ workers → workers ≤ 64
    → command_of (program ∷ codes "demo" ∷ decimal number ∷ codes "--workers" ∷ decimal workers ∷ []) ≡ Some (Demo number workers)
demo_by program number workers fits least most =
    demo_with program (decimal number) (decimal workers) (decimal_plain number fits) (decimal_plain workers (omega arith))
    ∙ ap₂ demo_of (number_taken (decimal number) number fits refl) (workers_taken workers least most)

piece_taken : (n : ℕ) → 1 ≤ n → n ≤ 65536 → piece_of (Some (decimal n)) ≡ Some n
piece_taken n least most =
    ap (option_and_then if_piece_size) (number_taken (decimal n) n (omega arith) refl)
    ∙ ap (λ b. if b then Some n else None) (and_from _ _ (le-leb 1 n least) (le-leb n 65536 most))

piece_untaken : (n : ℕ) → n < 2 ^ 32 → (IsPieceSize n → ⊥) → piece_of (Some (decimal n)) ≡ None
piece_untaken n fits other =
    let offered : Bool = nat_le 1 n && nat_le n 65536 in
    let refused : offered ≡ false = false_from_ne_true offered (λ t. let parts = and_parts (nat_le 1 n) (nat_le n 65536) t in other (leb-true 1 n parts.0, leb-true n 65536 parts.1)) in
    ap (option_and_then if_piece_size) (number_taken (decimal n) n fits refl) ∙ cond-false offered (Some n) None refused

pub session_of_piece : (program : Text) (piece : ℕ) → 1 ≤ piece → piece ≤ 65536 → command_of (program ∷ codes "session" ∷ codes "--piece" ∷ decimal piece ∷ []) ≡ Some (Session piece 1)
session_of_piece program piece least most =
    session_plain program (decimal piece) (decimal_plain piece (omega arith)) ∙ ap (λ n. session_of n (Some 1)) (piece_taken piece least most)

pub session_by : (program : Text) (piece workers : ℕ) → 1 ≤ piece → piece ≤ 65536 → 1 ≤ workers → workers ≤ 64
    → command_of (program ∷ codes "session" ∷ codes "--piece" ∷ decimal piece ∷ codes "--workers" ∷ decimal workers ∷ []) ≡ Some (Session piece workers)
session_by program piece workers least most some few =
    session_with program (decimal piece) (decimal workers) (decimal_plain piece (omega arith)) (decimal_plain workers (omega arith))
    ∙ ap₂ session_of (piece_taken piece least most) (workers_taken workers some few)

pub session_of_none : (program : Text) (number : ℕ) → number < 2 ^ 32 → (IsPieceSize number → ⊥) → command_of (program ∷ codes "session" ∷ codes "--piece" ∷ decimal number ∷ []) ≡ None
session_of_none program number fits other =
    session_plain program (decimal number) (decimal_plain number fits) ∙ ap (λ n. session_of n (Some 1)) (piece_untaken number fits other)

-- ---- words that no subcommand is named by

abbrev fails : Kinds → Bool
fails [] = false
fails (kind ∷ kinds) = true

unless_fails : (kinds : Kinds) (found : Option (Text × List Row)) → fails kinds ≡ true → command_unless kinds found ≡ None
unless_fails [] found is = absurd cc
unless_fails (k ∷ ks) found is = refl

first_fails : (kinds next : Kinds) → fails kinds ≡ true → fails (or_else kinds next) ≡ true
first_fails [] next is = absurd cc
first_fails (k ∷ ks) next is = refl

top_fails : (w : Walk) (kinds : Kinds) → fails kinds ≡ true → fails (top_fault w kinds) ≡ true
top_fails w [] is = absurd cc
top_fails w (k ∷ ks) is = refl

-- what fails at a word that is met at the top, by the name that it has, by what it is as an option, and by its flags
abbrev named_turn : Text → Option Text → Kinds
named_turn word name = or_else (other_fault line.top name word nothing_held)
    (step_fault line.top 1 (subcommand_or_other line.top.rules name idle 1 word nothing_held).0 (subcommand_or_other line.top.rules name idle 1 word nothing_held).1)

abbrev long_turn : Text → Option (Text × Option Text) → Kinds
long_turn word long = or_else (flag_word_fault line.top.rules line.top.args_override_self long word nothing_held)
    (step_fault line.top 1 (long_or_other line.top.rules idle word long nothing_held).0 (long_or_other line.top.rules idle word long nothing_held).1)

abbrev dashes_turn : Text → Bool → Kinds
dashes_turn word dashes = or_else (if dashes then [] else flag_word_fault line.top.rules line.top.args_override_self (long_of word) word nothing_held)
    (step_fault line.top 1 (if dashes then (nothing_held, trailing 1) else long_or_other line.top.rules idle word (long_of word) nothing_held).0
    (if dashes then (nothing_held, trailing 1) else long_or_other line.top.rules idle word (long_of word) nothing_held).1)

abbrev short_turn : Text → Option Text → Kinds
short_turn word short = or_else (option_map_or (λ flags. bundle_fault line.top.rules line.top.args_override_self flags nothing_held) short [])
    (step_fault line.top 1 (short_or_plain line.top.rules idle word short nothing_held).0 (short_or_plain line.top.rules idle word short nothing_held).1)

abbrev flag_turn : Text → Text → ℕ → Option ℕ → Kinds
flag_turn word flags k first =
    let met = bundle_step line.top.rules first flags 0 plain nothing_held (bundle_met line.top.rules k) in
    or_else (bundle_step_fault line.top.rules line.top.args_override_self first flags 0 nothing_held (flags_fault line.top.rules line.top.args_override_self k))
    (step_fault line.top 1 (after_flag line.top.rules idle word met.0 met.1).0 (after_flag line.top.rules idle word met.0 met.1).1)

flag_fails : (word flags : Text) (k : ℕ) (first : Option ℕ) → fails (flag_turn word flags k first) ≡ true
flag_fails word flags k None = refl
flag_fails word flags k (Some x) = refl

short_fails : (word : Text) (short : Option Text) → fails (short_turn word short) ≡ true
unfolding flags_fault bundle_met
short_fails word None = refl
short_fails word (Some []) = refl
short_fails word (Some (x ∷ xs)) = flag_fails word (x ∷ xs) (length xs) (slice_get (chars (x ∷ xs)) 0)

long_fails : (word : Text) (long : Option (Text × Option Text)) → fails (long_turn word long) ≡ true
long_fails word None = short_fails word (short_of word)
long_fails word (Some p) = refl

-- after `--` no word names a subcommand
abbrev behind_dashes : Walk
behind_dashes = record start { is_trailing = true }

behind_dashes_fails : (ws : List Text) → fails (top_fault (fold (walked line.top.rules (names_of line)) behind_dashes ws) (walk_fault line.top (names_of line) behind_dashes ws)) ≡ true
unfolding walk_fault walked defaults_fault
behind_dashes_fails [] = refl
behind_dashes_fails (w ∷ ws) =
    top_fails (fold (walked line.top.rules (names_of line)) behind_dashes (w ∷ ws)) (walk_fault line.top (names_of line) behind_dashes (w ∷ ws))
    (first_fails (turn_fault line.top (names_of line) behind_dashes w) (walk_fault line.top (names_of line) (walked line.top.rules (names_of line) behind_dashes w) ws) refl)

-- what fails where the first word is none
by_dashes : (word : Text) (ws : List Text) (dashes : Bool) → bytes_eq word (45 ∷ 45 ∷ []) ≡ dashes → subcommand_met (names_of line) idle word ≡ None
    → fails (top_fault (fold (walked line.top.rules (names_of line)) start (word ∷ ws)) (walk_fault line.top (names_of line) start (word ∷ ws))) ≡ true
unfolding walk_fault walked
by_dashes word ws true is none =
    let walks : walked line.top.rules (names_of line) start word ≡ behind_dashes =
    ap (λ name. after_step line.top.rules word start (subcommand_or_other line.top.rules name idle 1 word nothing_held).0 (subcommand_or_other line.top.rules name idle 1 word nothing_held).1) none
    ∙ ap (λ (dashes : Bool). after_step line.top.rules word start
    (if dashes then (nothing_held, trailing 1) else long_or_other line.top.rules idle word (long_of word) nothing_held).0
    (if dashes then (nothing_held, trailing 1) else long_or_other line.top.rules idle word (long_of word) nothing_held).1) is in
    let turns : turn_fault line.top (names_of line) start word ≡ [] = ap (named_turn word) none ∙ ap (dashes_turn word) is in
    subst (λ w. fails (top_fault (fold (walked line.top.rules (names_of line)) w ws) (or_else (turn_fault line.top (names_of line) start word) (walk_fault line.top (names_of line) w ws))) ≡ true) (sym walks)
    (subst (λ kinds. fails (top_fault (fold (walked line.top.rules (names_of line)) behind_dashes ws) (or_else kinds (walk_fault line.top (names_of line) behind_dashes ws))) ≡ true) (sym turns)
    (behind_dashes_fails ws))
by_dashes word ws false is none =
    let turns : turn_fault line.top (names_of line) start word ≡ long_turn word (long_of word) = ap (named_turn word) none ∙ ap (dashes_turn word) is in
    top_fails (fold (walked line.top.rules (names_of line)) start (word ∷ ws)) (walk_fault line.top (names_of line) start (word ∷ ws))
    (first_fails (turn_fault line.top (names_of line) start word) (walk_fault line.top (names_of line) (walked line.top.rules (names_of line) start word) ws) (ap fails turns ∙ long_fails word (long_of word)))

is_other : (name word : Text) → word ≢ name → bytes_eq name word ≡ false
is_other name word other = elim (cases_Bool (bytes_eq name word)) [
  | inl same ↦ absurd (other (sym ((bytes_eq-Decides name word).0 same)))
  | inr differs ↦ differs
]

pub other_words : (program word : Text) (ws : List Text) → word ≢ codes "eval" → word ≢ codes "circuit" → word ≢ codes "prove" → word ≢ codes "verify" → word ≢ codes "audit" → word ≢ codes "convert" → word ≢ codes "demo" → word ≢ codes "serve" → word ≢ codes "session"
    → command_of (program ∷ word ∷ ws) ≡ None
unfolding command_of
other_words program word ws a b c d e v f g h =
    let none : subcommand_met (names_of line) idle word ≡ None =
    names_by word (is_other (codes "eval") word a) (is_other (codes "circuit") word b) (is_other (codes "prove") word c) (is_other (codes "verify") word d) (is_other (codes "audit") word e) (is_other (codes "convert") word v) (is_other (codes "demo") word f) (is_other (codes "serve") word g) (is_other (codes "session") word h) in
    unless_fails (fault_of command_line (program ∷ word ∷ ws)) (subcommand_of command_line (program ∷ word ∷ ws)) (by_dashes word ws (bytes_eq word (45 ∷ 45 ∷ [])) refl none)
  where
    names_by : (word : Text) → bytes_eq (codes "eval") word ≡ false → bytes_eq (codes "circuit") word ≡ false → bytes_eq (codes "prove") word ≡ false → bytes_eq (codes "verify") word ≡ false
        → bytes_eq (codes "audit") word ≡ false → bytes_eq (codes "convert") word ≡ false → bytes_eq (codes "demo") word ≡ false → bytes_eq (codes "serve") word ≡ false → bytes_eq (codes "session") word ≡ false → subcommand_met (names_of line) idle word ≡ None
    names_by word a b c d e v f g h = rw (a, b, c, d, e, v, f, g, h) refl

pub no_words : command_of [] ≡ None
unfolding command_of clap_on_literals
no_words = refl

pub no_word : (program : Text) → command_of (program ∷ []) ≡ None
unfolding command_of clap_on_literals
no_word program = refl
