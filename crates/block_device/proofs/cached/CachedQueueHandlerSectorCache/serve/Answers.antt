use Rattle.std.proofs.Common.{ap, length}
use Rattle.std.specs.Prelude.{◌||◌}
use Rattle.chain.specs.Bytes.{readable_of, writable_of}
use Rattle.block_device.specs.Extent.{extent_disk}
use Rattle.block_device.specs.Touching.{sectors_of_chain}
use Rattle.block_device.proofs.Answering.{finished_does}
use Rattle.block_device.proofs.Asking.{served_does}
use Rattle.block_device.proofs.Keeping.{asked_keeps}
use Rattle.block_device.proofs.Touching.{does_over, own_chain, unwritten}
use Rattle.block_device.proofs.cached.CachedQueueHandlerSectorCache.serve.Goals as goal

pub returns-in-Answered-clause-does : goal.returns-in-Answered-clause-does
returns-in-Answered-clause-does g c =
    let device = c.args.self.now.device in
    let seen = extent_disk device.extent (g.I.Image.disk c.args.cache.now) in
    let used = c.in-Answered.used in
    does_over g.I.Image.disk g.I.Image.moment g.I.Image.may_leave g.I.Image.left_since device c.args.mem.now
    c.begin.new.mem c.args.chain.now c.args.cache.now c.args.cache.now used.len used.wrote
    (served_does device c.args.mem.now c.begin.new.mem c.args.chain.now seen seen used.len used.wrote
    (c.in-Answered.ensures.begun seen))
    (unwritten (sectors_of_chain device (readable_of c.args.mem.now c.args.chain.now)
    (length (writable_of c.args.chain.now))))

pub returns-in-Asks-clause-does : goal.returns-in-Asks-clause-does
returns-in-Asks-clause-does g c =
    let device = c.args.self.now.device in
    let begun = c.in-Asks.ensures.begun in
    does_over g.I.Image.disk g.I.Image.moment g.I.Image.may_leave g.I.Image.left_since device c.args.mem.now
    c.finish.new.mem c.args.chain.now c.args.cache.now c.perform-done.new.cache c.finish.result.len
    c.finish.result.wrote
    (finished_does device c.args.mem.now c.perform-done.new.mem c.finish.new.mem c.args.chain.now
    (extent_disk device.extent (g.I.Image.disk c.args.cache.now))
    (extent_disk device.extent (g.I.Image.disk c.perform-done.new.cache))
    c.in-Asks.request begun.0.room c.perform-done.result.len c.finish.result.len c.perform-done.result.status
    c.finish.result.wrote
    begun.0.all begun.0.is (rw begun.1 at c.perform-done.ensures.done) c.perform-done.ensures.room
    c.finish.ensures.status c.finish.ensures.len c.finish.ensures.wrote)
    (own_chain device c.args.mem.now c.args.chain.now c.in-Asks.request begun.0
    (rw begun.1 at c.perform-done.ensures.own))

pub returns-in-Asks-clause-keeps : goal.returns-in-Asks-clause-keeps
returns-in-Asks-clause-keeps g c =
    let begun = c.in-Asks.ensures.begun in
    asked_keeps g.I.Image.disk g.I.Image.moment g.I.Image.may_leave g.I.Image.left_since
    c.args.self.now.device c.args.self.now.failed _ c.args.mem.now c.perform-done.new.mem c.args.chain.now
    c.in-Asks.request begun.0 c.perform-done.result.len c.perform-done.result.status c.args.cache.now
    c.perform-done.new.cache (rw begun.1 at c.perform-done.ensures.done) c.perform-done.ensures.calls
    (rw begun.1 at c.perform-done.ensures.own) (ap (λ b. c.args.self.now.failed || b) c.is_io_error.ensures)
