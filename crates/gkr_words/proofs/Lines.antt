-- What a command line is with an argument or a subcommand more.
use Rattle.std.proofs.Common.{◌≡◌, ◌∙◌, ◌||◌, ◌++◌, false, List, ℕ, [], ◌∷◌, ap, ap₂}
use Rattle.clap.specs.Simple.{App, Shape, with_subcommand}
use Rattle.clap.specs.Words.{AddsArg, AddsSubcommand, Rule, app_of, rule_of, shape_of}
use Rattle.clap.specs.declared.builder.arg.Arg.{Arg}
use Rattle.clap.specs.declared.builder.command.Command.{Command}
use Rattle.clap.specs.declared.builder.command.Command.TheViews.{out-Command as fields_of}
use Rattle.gkr_words.specs.Commands.{subcommand}

pub top_is : (line : Command) (app : App) → app_of line ≡ app → shape_of line ≡ app.top
top_is line app is = ap (λ (a : App). a.top) is

pub with_argument : {old new : Command} {argument : Arg} (name : List ℕ) (rules : List Rule) (rule : Rule) → AddsArg old argument new → argument.global ≡ false
    → shape_of old ≡ subcommand name rules → rule_of argument ≡ rule → shape_of new ≡ subcommand name (rules ++ rule ∷ [])
with_argument {new = new} name rules rule added local is named = top_is new _ (added.shape local) ∙ ap₂ (λ (s : Shape) (r : Rule). record s { rules = s.rules ++ r ∷ [] }) is named

pub stays_local : {old new : Command} {argument : Arg} → AddsArg old argument new → (fields_of old).has_globals ≡ false → argument.global ≡ false → (fields_of new).has_globals ≡ false
stays_local added old local = added.globals ∙ ap₂ (λ a b. a || b) old local

pub with_line : {old sub new : Command} (app : App) (shape : Shape) → AddsSubcommand old sub new → (fields_of sub).has_globals ≡ false → app_of old ≡ app → shape_of sub ≡ shape
    → app_of new ≡ with_subcommand app shape
with_line app shape added local is sub = added.shape local ∙ ap₂ with_subcommand is sub
