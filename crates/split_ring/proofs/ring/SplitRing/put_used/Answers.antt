use Rattle.std.proofs.Common.{arith}
use Rattle.split_ring.proofs.Using.{used_written}
use Rattle.split_ring.proofs.ring.SplitRing.put_used.Goals as goal

pub returns-clause-used : goal.returns-clause-used
returns-clause-used g c =
    let ring = c.args.self.now in
    used_written c.args.mem.now c.write_u64.new.self c.write_u16.new.self ring c.entry_at-offset.result _
    c.args.head c.args.len c.args.next c.requires.lies
    (rw c.self.view_is at c.entry_at-offset.ensures.value) c.entry_at-offset.ensures.below
    (rw c.self.view_is at c.write_u64.ensures.written) (omega (arith, c.from-2.ensures, c.from-3.ensures))
    (omega (arith, c.ranges.head.fits))
    (rw c.self.view_is at c.write_u16.ensures.written) c.requires.next
