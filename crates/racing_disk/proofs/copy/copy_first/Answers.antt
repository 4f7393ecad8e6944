use Rattle.std.proofs.Common.{false, length}
use Rattle.shared_memory.specs.Sightings.{memory}
use Rattle.racing_disk.proofs.Copying.{first_inside, first_seen}
use Rattle.racing_disk.proofs.copy.copy_first.Goals as goal

pub load-requires : goal.load-requires
load-requires g c =
    rw c.buffers-buffers.ensures.value
    (first_inside (memory (g.M.Shared.sightings c.args.mem.now)) c.args.chain.now (length c.args.into.now)
    (record { segment = record { addr = 0; len = 0 }; writable = false })
    (rw c.buffers-buffers.ensures.value at c.has_first.ensures c.if-has_first.true) c.requires.good.inside)

pub returns-then-has_first-clause-copied : goal.returns-then-has_first-clause-copied
returns-then-has_first-clause-copied g c =
    first_seen _ _ _ c.args.chain.now (length c.args.into.now)
    (record { segment = record { addr = 0; len = 0 }; writable = false }) _
    (rw c.buffers-buffers.ensures.value at c.has_first.ensures c.if-has_first.true) c.requires.good.inside
    c.load.ensures.loads (rw c.buffers-buffers.ensures.value at c.load.ensures.value)
