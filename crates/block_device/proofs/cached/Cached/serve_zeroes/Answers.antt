use Rattle.std.proofs.Common.{arith, ap, length, subst}
use Rattle.std.specs.Prelude.{◌||◌, List}
use Rattle.chain.specs.Bytes.{readable_of, writable_of}
use Rattle.sector_cache.specs.Stop.{TouchesSectors}
use Rattle.block_device.specs.declared.request.Request.TheVariants.{WriteZeroes}
use Rattle.block_device.specs.declared.segments.WriteZeroesSegment.{WriteZeroesSegment}
use Rattle.block_device.specs.Extent.{extent_disk}
use Rattle.block_device.specs.Touching.{on_image, sectors_of_chain}
use Rattle.block_device.specs.Zeroes.{all_sectors}
use Rattle.block_device.proofs.Answering.{finished_does}
use Rattle.block_device.proofs.Asking.{served_does}
use Rattle.block_device.proofs.Judging.{judged_asks, judged_rejected}
use Rattle.block_device.proofs.Keeping.{asked_keeps}
use Rattle.block_device.proofs.Touching.{does_over, own_chain, unwritten}
use Rattle.block_device.proofs.cached.Cached.serve_zeroes.Goals as goal

pub returns-in-Ok-clause-does : goal.returns-in-Ok-clause-does
returns-in-Ok-clause-does g c =
    let device = c.args.self.now.device in
    let m = c.args.mem.now in
    let buffers = c.args.chain.now in
    let segments = c.in-Ok.segments in
    let judged = c.in-Ok.ensures.ok in
    let asked = judged_asks device m buffers c.args.len segments c.requires.unread judged in
    let wrote = c.zero_segments.ensures.written m buffers judged.are in
    does_over g.I.Image.disk g.I.Image.moment g.I.Image.may_leave g.I.Image.left_since device m
    c.finish.new.mem buffers c.args.cache.now c.zero_segments.new.cache c.finish.result.len
    c.finish.result.wrote
    (finished_does device m m c.finish.new.mem buffers
    (extent_disk device.extent (g.I.Image.disk c.args.cache.now))
    (extent_disk device.extent (g.I.Image.disk c.zero_segments.new.cache))
    (WriteZeroes (length segments)) asked.room c.of-done.result.len c.finish.result.len
    c.of-done.result.status c.finish.result.wrote asked.all asked.is
    (rw (c.of-done.ensures.len, c.of-done.ensures.status) wrote.done)
    (omega (arith, asked.all, c.of-done.ensures.len))
    c.finish.ensures.status c.finish.ensures.len c.finish.ensures.wrote)
    (own_chain device m buffers (WriteZeroes (length segments)) asked
    (subst (λ (l : List WriteZeroesSegment). TouchesSectors g.I.Image.moment g.I.Image.may_leave
    g.I.Image.left_since (on_image device.extent (all_sectors l)) c.args.cache.now c.zero_segments.new.cache)
    judged.are c.zero_segments.ensures.touches))

pub returns-in-Ok-clause-keeps : goal.returns-in-Ok-clause-keeps
returns-in-Ok-clause-keeps g c =
    let device = c.args.self.now.device in
    let m = c.args.mem.now in
    let buffers = c.args.chain.now in
    let segments = c.in-Ok.segments in
    let judged = c.in-Ok.ensures.ok in
    let asked = judged_asks device m buffers c.args.len segments c.requires.unread judged in
    let wrote = c.zero_segments.ensures.written m buffers judged.are in
    asked_keeps g.I.Image.disk g.I.Image.moment g.I.Image.may_leave g.I.Image.left_since
    device c.args.self.now.failed _ m m buffers (WriteZeroes (length segments)) asked
    c.of-done.result.len c.of-done.result.status c.args.cache.now c.zero_segments.new.cache
    (rw (c.of-done.ensures.len, c.of-done.ensures.status) wrote.done)
    (rw c.of-done.ensures.status wrote.calls)
    (subst (λ (l : List WriteZeroesSegment). TouchesSectors g.I.Image.moment g.I.Image.may_leave
    g.I.Image.left_since (on_image device.extent (all_sectors l)) c.args.cache.now c.zero_segments.new.cache)
    judged.are c.zero_segments.ensures.touches)
    (ap (λ b. c.args.self.now.failed || b) c.is_io_error.ensures)

pub reject-requires-clause-rejected : goal.reject-requires-clause-rejected
reject-requires-clause-rejected g c =
    judged_rejected c.args.self.now.device c.args.mem.now c.args.chain.now c.args.len c.in-Err.status
    c.requires.unread c.in-Err.ensures.err

pub returns-in-Err-clause-does : goal.returns-in-Err-clause-does
returns-in-Err-clause-does g c =
    let device = c.args.self.now.device in
    let seen = extent_disk device.extent (g.I.Image.disk c.args.cache.now) in
    does_over g.I.Image.disk g.I.Image.moment g.I.Image.may_leave g.I.Image.left_since device c.args.mem.now
    c.reject.new.mem c.args.chain.now c.args.cache.now c.args.cache.now c.reject.result.len
    c.reject.result.wrote
    (served_does device c.args.mem.now c.reject.new.mem c.args.chain.now seen seen c.reject.result.len
    c.reject.result.wrote (c.reject.ensures.does seen))
    (unwritten (sectors_of_chain device (readable_of c.args.mem.now c.args.chain.now)
    (length (writable_of c.args.chain.now))))
