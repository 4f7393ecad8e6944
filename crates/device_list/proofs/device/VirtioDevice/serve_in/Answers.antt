use Rattle.std.proofs.Common.{sym, subst}
use Rattle.device_list.specs.Device.{DeviceState, IsSoundDevice}
use Rattle.device_list.specs.Model.{state_of}
use Rattle.device_list.proofs.Sound.{made_sound}
use Rattle.device_list.proofs.Worlds.{model_same}
use Rattle.device_list.proofs.device.VirtioDevice.serve_in.Goals as goal

pub returns-clause-sound : goal.returns-clause-sound
returns-clause-sound g c =
    let served = c.serve_in.ensures in
    let world = g.G.Served.world in
    let old = g.G.Served.seen c.args.mem.now in
    let new = g.G.Served.seen c.serve_in.new.mem in
    let same = model_same world g.G.Served.laws c.args.stage c.args.limits old new c.self.inside.window
    c.serve_in.new.window c.serve_in.result (state_of c.self.inside.model) c.args.q (state_of c.serve_in.new.self)
    served.serves in
    made_sound (world.last old) (world.last new) _ c.serve_in.new.window (state_of c.serve_in.new.self)
    (subst (λ (d : DeviceState). IsSoundDevice (world.last old) d) (sym c.self.view_is) c.requires.sound)
    same.kind same.offered (sym served.same_kind) (sym served.same_features) served.sound served.held
