use Rattle.std.proofs.Common.{length, ap, arith}
use Rattle.render.proofs.Whole.{said_whole}
use Rattle.render.proofs.entry.render.Goals as goal

pub returns : goal.returns
returns c =
    record {
      answer = said_whole c.args.locale.now.rules.now c.args.told.letters.now c.args.told.things.now c.args.message.now.kinds.now c.args.message.now.code.bytes.now c.args.room.now c.render_within.new.room
          (length c.code.result.bytes.now) c.render_within.result c.args.message.now.good c.args.locale.now.well (omega (arith, ap length c.code.ensures)) c.render_within.ensures.answer;
      exactly = c.render_within.ensures.exactly;
    }
