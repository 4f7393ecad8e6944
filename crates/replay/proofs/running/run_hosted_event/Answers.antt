use Rattle.std.proofs.Common.{true}
use Rattle.replay.proofs.Answering.{parsed_asking, part_asking, read_run}
use Rattle.replay.proofs.running.run_hosted_event.Goals as goal

pub returns-in-Some : goal.returns-in-Some
returns-in-Some g c =
    read_run true g.I.Image.disk c.args.parsed.now c.args.board.now c.in-MemRead.addr c.in-MemRead.len
    c.in-Some.part.now c.words.result _ _ _ _ c.requires.fine c.in-MemRead.is c.in-Some.ensures
    c.words.ensures.is (part_asking _ _ c.in-Some.part.now c.words.result _ _ _ _ _ _ c.put_read.ensures
    c.put_asked_end.ensures)

pub returns : goal.returns
returns g c =
    parsed_asking g.I.Image.disk c.args.parsed.now c.args.board.now
    c.answer-reply.new.board c.answer-reply.result.reply c.answer-reply.new.output.items (
      c.answer-reply.result.block_irq,
      c.answer-reply.result.console_irq,
    )
    c.staying-stayed.result c.staying_further-stayed_further.result _ _ _ _ _ _ c.answer-reply.ensures.answers c.answer-reply.ensures.words
    c.staying-stayed.ensures c.staying_further-stayed_further.ensures
    (rw c.as_slice.ensures.value at c.put_fields.ensures) c.put_asked.ensures
