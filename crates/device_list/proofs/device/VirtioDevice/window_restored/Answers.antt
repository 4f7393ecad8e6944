use Rattle.std.proofs.Common.{◌∙◌, ap}
use Rattle.mmio_window.specs.declared.device_kind.DeviceKind.{DeviceKind}
use Rattle.mmio_window.specs.Saved.{window_restored}
use Rattle.device_list.specs.Device.{DeviceState}
use Rattle.device_list.specs.Model.{kind_of}
use Rattle.device_list.proofs.device.VirtioDevice.window_restored.Goals as goal

pub returns-clause-value : goal.returns-clause-value
returns-clause-value g c =
    c.restored.ensures.value
    ∙ ap (λ (k : DeviceKind). window_restored k c.args.mem.now c.args.saved.now)
    (c.kind.ensures ∙ ap (λ (d : DeviceState). kind_of d.model) c.self.view_is)
