use Rattle.std.proofs.Common.{map, rules}
use Rattle.std.specs.Prelude.{string_bytes}
use Rattle.gkr_cmd.specs.Headline.{Run}
use Rattle.gkr_cmd.proofs.Headlines.{Makes, promises_of}
use Rattle.gkr_cmd.proofs.run.run_alone.Goals as goal

pub returns-clause-run : goal.returns-clause-run
returns-clause-run g c =
    let run : Run = record {
      words = map string_bytes c.args.words.now;
      before = record {
        left = g.S.Source.left c.args.source.now;
        calls = g.S.Source.calls c.args.source.now;
        read_faults = g.S.Source.faults c.args.source.now;
        written = g.K.Sink.written c.args.sink.now;
        write_faults = g.K.Sink.faults c.args.sink.now;
      };
      after = record {
        left = g.S.Source.left c.reply_alone-made.new.source;
        calls = g.S.Source.calls c.reply_alone-made.new.source;
        read_faults = g.S.Source.faults c.reply_alone-made.new.source;
        written = g.K.Sink.written c.finish.new.sink;
        write_faults = g.K.Sink.faults c.finish.new.sink;
      };
      ended = c.finish.result;
    } in
    let makes : Makes run c.in-Ok.command c.reply_alone-made.result = record { is_reply = c.reply_alone-made.ensures.reply; usage = c.reply_alone-made.ensures.usage; read = c.reply_alone-made.ensures.read; within = c.reply_alone-made.ensures.within; fault = c.reply_alone-made.ensures.fault; no_fault = c.reply_alone-made.ensures.no_fault } in
    promises_of c.run_laws.ensures run c.in-Ok.command c.reply_alone-made.result c.in-Ok.ensures.command makes c.finish.ensures

pub returns-in_default-clause-run : goal.returns-in_default-clause-run
returns-in_default-clause-run g c = search rules

pub returns-in_default-clause-unread : goal.returns-in_default-clause-unread
returns-in_default-clause-unread g c = search rules

pub returns-in_default-clause-service : goal.returns-in_default-clause-service
returns-in_default-clause-service g c = search rules

pub returns-in_default-clause-untaken : goal.returns-in_default-clause-untaken
returns-in_default-clause-untaken g c = search rules

pub returns-in_default-clause-unwritten : goal.returns-in_default-clause-unwritten
returns-in_default-clause-unwritten g c = search rules

pub reply_alone-made-requires-clause-workers : goal.reply_alone-made-requires-clause-workers
reply_alone-made-requires-clause-workers g c = search rules

pub reply_alone-made-requires-clause-piece : goal.reply_alone-made-requires-clause-piece
reply_alone-made-requires-clause-piece g c = search rules

pub reply_alone-made-requires-clause-alone : goal.reply_alone-made-requires-clause-alone
reply_alone-made-requires-clause-alone g c = search rules

pub returns-clause-unread : goal.returns-clause-unread
returns-clause-unread g c = search rules

pub returns-clause-service : goal.returns-clause-service
returns-clause-service g c = search rules

pub returns-clause-untaken : goal.returns-clause-untaken
returns-clause-untaken g c = search rules

pub returns-clause-unwritten : goal.returns-clause-unwritten
returns-clause-unwritten g c = search rules
