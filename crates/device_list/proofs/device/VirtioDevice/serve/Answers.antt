use Rattle.std.proofs.Common.{sym, subst}
use Rattle.device_list.specs.Device.{DeviceState, IsSoundDevice}
use Rattle.device_list.specs.Model.{state_of}
use Rattle.device_list.proofs.Pieces.{model_joins}
use Rattle.device_list.proofs.Sound.{made_sound}
use Rattle.device_list.proofs.device.VirtioDevice.serve.Goals as goal

pub returns-clause-sound : goal.returns-clause-sound
returns-clause-sound g c =
    let served = c.serve.ensures in
    let keeps = (model_joins (state_of c.self.inside.model) c.args.q).keeps c.args.stage c.args.budget c.serve.result
    c.args.mem.now c.serve.new.mem c.self.inside.window c.serve.new.window (state_of c.serve.new.self) served.serves in
    made_sound c.args.mem.now c.serve.new.mem _ c.serve.new.window (state_of c.serve.new.self)
    (subst (λ (d : DeviceState). IsSoundDevice c.args.mem.now d) (sym c.self.view_is) c.requires.sound)
    keeps.kind keeps.offered (sym served.same_kind) (sym served.same_features) served.sound served.held
