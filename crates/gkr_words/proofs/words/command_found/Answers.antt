use Rattle.std.proofs.Common.{◌∙◌, ap, sym, codes}
use Rattle.std.specs.Prelude.{option_and_then}
use Rattle.clap.specs.Words.{found_of, rows_of}
use Rattle.clap.specs.declared.parser.matches.ArgMatches.TheViews.{out-ArgMatches}
use Rattle.clap.proofs.WalkLemmas.{first_value-rows}
use Rattle.gkr_words.specs.Commands.{command_of_rows}
use Rattle.gkr_words.proofs.WordsRead.{entered_is, same_named}
use Rattle.gkr_words.proofs.words.command_found.Goals as goal

pub returns : goal.returns
returns c =
    let found = found_of c.in_ok-name.arguments.now in
    let entered = entered_is (out-ArgMatches c.args.matches.now).subcommand c.in_ok-name.name.now (rows_of found) c.in_ok-name.ensures.name c.in_ok-name.ensures.rows in
    c.command_named.ensures
    ∙ (same_named c.in_ok-name.name.now (c.get_str.ensures ∙ first_value-rows found (codes "number")) (c.get_str-2.ensures ∙ first_value-rows found (codes "workers"))
    (c.get_str-3.ensures ∙ first_value-rows found (codes "provers")) (c.get_str-4.ensures ∙ first_value-rows found (codes "clients")) (c.get_str-5.ensures ∙ first_value-rows found (codes "proof")) (c.get_str-6.ensures ∙ first_value-rows found (codes "history"))
    (c.get_str-7.ensures ∙ first_value-rows found (codes "to")) (c.get_str-8.ensures ∙ first_value-rows found (codes "piece"))
    ∙ sym (ap (option_and_then command_of_rows) entered))
