use Rattle.std.proofs.Common.{[]}
use Rattle.board.specs.Image.{Tells}
use Rattle.board.specs.World.{Answers, world_of}
use Rattle.replay.proofs.Answering.{answered_alone, said_alone, words_told}
use Rattle.replay.proofs.running.answer_device.Goals as goal

pub returns-in_default-what : goal.returns-in_default-what
returns-in_default-what g c =
    let disk = g.I.Image.disk in
    let handled = c.handle.ensures in
    let told : Tells (disk c.args.board.now.image) → Answers (world_of disk c.args.board.now)
    c.args.parsed.now.event c.handle.result.reply [] c.handle.new.out.items (world_of disk c.handle.new.self)
    = λ tells. answered_alone c.requires.empty (handled.handles tells) in
    record {
      answers =
          said_alone disk c.args.parsed.now c.args.board.now c.handle.new.self c.in-Device.device c.in-Device.what
          c.handle.result.reply c.handle.new.out.items c.requires.fine c.in-Device.is c.in_default-what.not-Supply
          c.in_default-what.not-Receive
          (record {
            answers = told;
            keeps = record { tells = handled.stays.tells; extents = handled.stays.extents };
          });
      words = λ tells.
          words_told disk c.args.board.now c.handle.new.self _ _ _ _ _ _ (handled.handles tells);
      few = handled.words;
    }
