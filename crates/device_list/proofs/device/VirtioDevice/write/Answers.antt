use Rattle.std.proofs.Common.{sym, subst, ◌∙◌}
use Rattle.device_list.specs.Device.{DeviceState, IsSoundDevice}
use Rattle.device_list.specs.Model.{state_of}
use Rattle.device_list.proofs.Sound.{keeps_itself, written_sound}
use Rattle.device_list.proofs.device.VirtioDevice.write.Goals as goal

pub returns-in-Notify-clause-sound : goal.returns-in-Notify-clause-sound
returns-in-Notify-clause-sound g c =
    written_sound (g.M.Ranged.ranged c.args.mem.now) _ c.args.offset c.args.width c.args.value c.write.new.self
    (state_of c.self.inside.model) c.write.ensures.written (sym c.must_wait.ensures ∙ c.if-must_wait.false)
    (keeps_itself (state_of c.self.inside.model)) c.write.ensures.sound
    (subst (λ (d : DeviceState). IsSoundDevice (g.M.Ranged.ranged c.args.mem.now) d) (sym c.self.view_is) c.requires.sound)

pub returns-in-ConfigWrite-clause-sound : goal.returns-in-ConfigWrite-clause-sound
returns-in-ConfigWrite-clause-sound g c =
    written_sound (g.M.Ranged.ranged c.args.mem.now) _ c.args.offset c.args.width c.args.value c.write.new.self
    (state_of c.configure.new.self) c.write.ensures.written (sym c.must_wait.ensures ∙ c.if-must_wait.false)
    c.configure.ensures.keeps c.write.ensures.sound
    (subst (λ (d : DeviceState). IsSoundDevice (g.M.Ranged.ranged c.args.mem.now) d) (sym c.self.view_is) c.requires.sound)

pub returns-in-Reset-clause-sound : goal.returns-in-Reset-clause-sound
returns-in-Reset-clause-sound g c =
    written_sound (g.M.Ranged.ranged c.args.mem.now) _ c.args.offset c.args.width c.args.value c.write.new.self
    (state_of c.self.inside.model) c.write.ensures.written (sym c.must_wait.ensures ∙ c.if-must_wait.false)
    (keeps_itself (state_of c.self.inside.model)) c.write.ensures.sound
    (subst (λ (d : DeviceState). IsSoundDevice (g.M.Ranged.ranged c.args.mem.now) d) (sym c.self.view_is) c.requires.sound)
