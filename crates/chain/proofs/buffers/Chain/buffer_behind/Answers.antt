use Rattle.std.proofs.Common.{◌+◌, ◌<◌, ◌≤◌, length, take, arith, ◌∙◌}
use Rattle.chain.specs.Bytes.{len_of}
use Rattle.chain.proofs.Holding.{held_len}
use Rattle.chain.proofs.Places.{before_end, start_in}
use Rattle.chain.proofs.buffers.Chain.buffer_behind.Goals as goal

pub loop-starts-preserved : goal.loop-starts-preserved
loop-starts-preserved c =
    let xs = take c.self.inside.filled c.self.inside.room.items in
    let i = c.loop-starts.index in
    let there = before_end c.args.writable c.args.self.now i c.args.place c.loop-starts.invariant
    c.requires.in_list in
    let less : i < length xs = rw c.self.view_is there in
    let start = c.of.ensures ∙ start_in c.args.writable xs c.self.inside.starts c.self.inside.filled (i + 1) _
    c.self.invariant.starts_are (omega (arith, less, held_len c.self.invariant)) in
    let more : len_of c.args.writable (take (i + 1) xs) ≤ c.args.place =
    omega (arith, start, c.loop-starts-test.true) in
    rw (← c.self.view_is) more
