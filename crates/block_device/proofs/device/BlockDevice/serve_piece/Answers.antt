use Rattle.std.proofs.Common.{◌≡◌, nat_lt, rules, sym}
use Rattle.mmio_window.proofs.Leaving.{serves_to}
use Rattle.mmio_window.proofs.Seeing.{serves_seen}
use Rattle.mmio_window.proofs.Soundness.{serving_keeps_sound}
use Rattle.mmio_window.specs.Window.{queue_at}
use Rattle.block_device.specs.Device.{block_device}
use Rattle.block_device.specs.Extent.{extent_disk}
use Rattle.block_device.specs.Touching.{device_over}
use Rattle.block_device.proofs.Keeping.{kept_image, over_as_disk}
use Rattle.block_device.proofs.Touching.{untouched}
use Rattle.block_device.proofs.device.BlockDevice.serve_piece.Goals as goal

pub returns-clause-own : goal.returns-clause-own
returns-clause-own g c =
    serves_to (device_over g.I.Image.disk g.I.Image.moment g.I.Image.may_leave g.I.Image.left_since
    c.args.self.now) c.args.stage c.args.budget 0
    (queue_at 0 c.args.window.now) c.in-Some.queue.now c.serve_queue.new.queue c.in-Ok.left c.show.result
    c.args.mem.now c.serve_queue.new.mem c.args.window.now c.show.new.window c.args.cache.now
    c.serve_queue.new.backend
    c.in-Some.ensures.value c.show.ensures.progress c.show.ensures.after c.in-Ok.ensures.leaves

pub returns-clause-served : goal.returns-clause-served
returns-clause-served g c =
    serves_seen (device_over g.I.Image.disk g.I.Image.moment g.I.Image.may_leave g.I.Image.left_since
    c.args.self.now) (block_device c.args.self.now)
    (λ image. extent_disk c.args.self.now.extent (g.I.Image.disk image))
    (over_as_disk g.I.Image.disk g.I.Image.moment g.I.Image.may_leave g.I.Image.left_since c.args.self.now)
    c.args.budget c.args.stage 0 (queue_at 0 c.args.window.now) c.show.result c.args.mem.now
    c.serve_queue.new.mem c.args.window.now c.show.new.window
    c.args.cache.now c.serve_queue.new.backend (returns-clause-own g c)

pub returns-clause-sound : goal.returns-clause-sound
returns-clause-sound g c =
    c.show.ensures.sound c.serve_queue.new.mem
    (serving_keeps_sound c.args.mem.now c.serve_queue.new.mem c.args.window.now 0 c.in-Some.queue.now
    c.serve_queue.new.queue
    c.requires.sound c.serve_queue.ensures.range (sym c.in-Some.ensures.value) c.serve_queue.ensures.made)

pub returns-in_default-clause-touches : goal.returns-in_default-clause-touches
returns-in_default-clause-touches g c = untouched c.args.self.now.extent

pub returns-clause-stays : goal.returns-clause-stays
returns-clause-stays g c =
    (kept_image g.I.Image.disk g.I.Image.moment g.I.Image.may_leave g.I.Image.left_since _
    c.serve_queue.new.device c.args.cache.now c.serve_queue.new.backend
    c.serve_queue.ensures.keeps).stays

pub returns-clause-touches : goal.returns-clause-touches
returns-clause-touches g c =
    (kept_image g.I.Image.disk g.I.Image.moment g.I.Image.may_leave g.I.Image.left_since _
    c.serve_queue.new.device c.args.cache.now c.serve_queue.new.backend
    c.serve_queue.ensures.keeps).touches

pub returns-clause-failed : goal.returns-clause-failed
returns-clause-failed g c =
    let latch : c.serve_queue.new.device.failed ≡ nat_lt (g.I.Image.disk c.args.cache.now).failures
    (g.I.Image.disk c.serve_queue.new.backend).failures =
    (kept_image g.I.Image.disk g.I.Image.moment g.I.Image.may_leave g.I.Image.left_since _
    c.serve_queue.new.device c.args.cache.now c.serve_queue.new.backend
    c.serve_queue.ensures.keeps).counted in
    search rules
