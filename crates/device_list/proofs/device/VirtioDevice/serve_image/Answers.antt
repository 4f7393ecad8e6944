use Rattle.mmio_window.proofs.Devices.{KeepsDevice-served}
use Rattle.mmio_window.specs.Window.{queue_at}
use Rattle.block_device.specs.Device.{block_device}
use Rattle.device_list.specs.Model.{state_of}
use Rattle.device_list.proofs.Sound.{image_sound}
use Rattle.device_list.proofs.device.VirtioDevice.serve_image.Goals as goal

pub returns-clause-sound : goal.returns-clause-sound
returns-clause-sound g c =
    let served = c.serve_piece in
    image_sound c.args.mem.now served.new.mem c.args.self.now c.self.inside.window served.new.window
    (state_of c.self.inside.model) c.self.view_is c.requires.image c.requires.sound
    (KeepsDevice-served (block_device c.args.disk) c.args.budget 0 c.args.stage (queue_at 0 c.self.inside.window)
    served.result.progress c.args.mem.now served.new.mem c.self.inside.window served.new.window _ _
    served.ensures.served)
    served.ensures.sound
