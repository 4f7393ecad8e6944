use Rattle.std.proofs.Common.{length, ap, arith}
use Rattle.replay.proofs.Answering.{bytes_written, past_slots, range_refused, slot_missing}
use Rattle.replay.proofs.running.write_memory.Goals as goal

pub returns-then-write_memory : goal.returns-then-write_memory
returns-then-write_memory g c =
    bytes_written _ g.I.Image.disk c.args.board.now c.write_memory.new.self c.args.slot c.args.addr
    c.args.bytes.now c.write_memory.ensures.image c.if-write_memory.ensures.step
    c.if-write_memory.ensures.put

pub returns-then-slot-slots : goal.returns-then-slot-slots
returns-then-slot-slots g c =
    range_refused _ g.I.Image.disk c.args.board.now c.write_memory.new.self c.args.slot c.args.addr
    c.args.bytes.now c.if-write_memory.ensures.kept
    (omega (arith, c.slots.ensures, ap (λ b. length b.slots) c.if-write_memory.ensures.kept))
    c.if-write_memory.ensures.inside

pub returns-else-slot-slots : goal.returns-else-slot-slots
returns-else-slot-slots g c =
    slot_missing g.I.Image.disk c.args.board.now c.write_memory.new.self _ c.if-write_memory.ensures.kept
    (past_slots c.args.board.now c.args.slot
    (λ there. omega (arith, c.slots.ensures, ap (λ b. length b.slots) c.if-write_memory.ensures.kept)))
