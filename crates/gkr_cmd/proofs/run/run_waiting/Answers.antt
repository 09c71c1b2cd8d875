use Rattle.std.proofs.Common.{map, rules}
use Rattle.std.specs.Prelude.{string_bytes}
use Rattle.gkr_cmd.specs.Headline.{Run}
use Rattle.gkr_cmd.proofs.Headlines.{Makes, promises_of}
use Rattle.gkr_cmd.proofs.run.run_waiting.Goals as goal

pub returns-clause-run : goal.returns-clause-run
returns-clause-run g c =
    let run : Run = record {
      words = map string_bytes c.args.words.now;
      before = record {
        left = g.S.Source.left c.args.source.now;
        calls = g.S.Source.calls c.args.source.now;
        read_faults = g.S.Source.faults c.args.source.now;
        written = g.K.Sink.written c.args.sink.now;
        write_faults = g.K.Sink.faults c.args.sink.now;
      };
      after = record {
        left = g.S.Source.left c.reply_waiting-made.new.source;
        calls = g.S.Source.calls c.reply_waiting-made.new.source;
        read_faults = g.S.Source.faults c.reply_waiting-made.new.source;
        written = g.K.Sink.written c.finish.new.sink;
        write_faults = g.K.Sink.faults c.finish.new.sink;
      };
      ended = c.finish.result;
    } in
    let makes : Makes run c.in-Ok.command c.reply_waiting-made.result = record { is_reply = c.reply_waiting-made.ensures.reply; usage = c.reply_waiting-made.ensures.usage; read = c.reply_waiting-made.ensures.read; within = c.reply_waiting-made.ensures.within; fault = c.reply_waiting-made.ensures.fault; no_fault = c.reply_waiting-made.ensures.no_fault } in
    promises_of c.run_laws.ensures run c.in-Ok.command c.reply_waiting-made.result c.in-Ok.ensures.command makes c.finish.ensures

pub returns-in_default-clause-run : goal.returns-in_default-clause-run
returns-in_default-clause-run g c = search rules

pub returns-in_default-clause-unread : goal.returns-in_default-clause-unread
returns-in_default-clause-unread g c = search rules

pub reply_waiting-made-requires-clause-workers : goal.reply_waiting-made-requires-clause-workers
reply_waiting-made-requires-clause-workers g c = search rules

pub reply_waiting-made-requires-clause-service : goal.reply_waiting-made-requires-clause-service
reply_waiting-made-requires-clause-service g c = search rules

pub returns-clause-unread : goal.returns-clause-unread
returns-clause-unread g c = search rules
