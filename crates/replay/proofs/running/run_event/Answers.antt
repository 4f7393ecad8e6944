use Rattle.std.proofs.Common.{false}
use Rattle.replay.proofs.Answering.{parsed_run, part_sent, read_run}
use Rattle.replay.proofs.running.run_event.Goals as goal

pub returns-in-Some : goal.returns-in-Some
returns-in-Some g c =
    read_run false g.I.Image.disk c.args.parsed.now c.args.board.now c.in-MemRead.addr c.in-MemRead.len
    c.in-Some.part.now c.words.result _ _ _ _ c.requires.fine c.in-MemRead.is c.in-Some.ensures
    c.words.ensures.is (part_sent _ _ c.in-Some.part.now c.words.result _ _ _ _ c.put_read.ensures)

pub returns : goal.returns
returns g c =
    parsed_run g.I.Image.disk c.args.parsed.now c.args.board.now c.answer-reply.new.board
    c.answer-reply.result.reply c.answer-reply.new.output.items (
      c.answer-reply.result.block_irq,
      c.answer-reply.result.console_irq,
    )
    _ _ _ _ c.answer-reply.ensures.answers c.answer-reply.ensures.words
    (rw c.as_slice.ensures.value at c.put_line.ensures)
