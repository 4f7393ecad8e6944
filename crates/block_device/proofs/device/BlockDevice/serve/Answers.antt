use Rattle.std.proofs.Common.{refl}
use Rattle.mmio_window.specs.Window.{queue_at}
use Rattle.block_device.specs.Device.{block_device}
use Rattle.block_device.specs.Extent.{extent_disk}
use Rattle.block_device.specs.Touching.{device_over}
use Rattle.block_device.proofs.Exact.{notified_without_failure}
use Rattle.mmio_window.proofs.Leaving.{whole}
use Rattle.block_device.proofs.device.BlockDevice.serve.Goals as goal

pub returns-clause-served : goal.returns-clause-served
returns-clause-served g c =
    let s = extent_disk c.args.self.now.extent (g.I.Image.disk c.args.cache.now) in
    let t = extent_disk c.args.self.now.extent (g.I.Image.disk c.serve_piece.new.cache) in
    whole (block_device c.args.self.now) _ 0 (queue_at 0 c.args.window.now) c.serve_piece.result.progress
    c.args.mem.now c.serve_piece.new.mem c.args.window.now c.serve_piece.new.window s t
    refl refl c.serve_piece.ensures.served

pub returns-clause-exact : goal.returns-clause-exact
returns-clause-exact g c =
    λ e. notified_without_failure c.args.self.now (queue_at 0 c.args.window.now) c.args.mem.now
    c.serve_piece.new.mem c.args.window.now c.serve_piece.new.window
    (extent_disk c.args.self.now.extent (g.I.Image.disk c.args.cache.now))
    (extent_disk c.args.self.now.extent (g.I.Image.disk c.serve_piece.new.cache)) e
    (returns-clause-served g c)

pub returns-clause-own : goal.returns-clause-own
returns-clause-own g c =
    whole (device_over g.I.Image.disk g.I.Image.moment g.I.Image.may_leave g.I.Image.left_since
    c.args.self.now) _ 0 (queue_at 0 c.args.window.now) c.serve_piece.result.progress c.args.mem.now
    c.serve_piece.new.mem c.args.window.now c.serve_piece.new.window
    c.args.cache.now c.serve_piece.new.cache refl refl c.serve_piece.ensures.own
