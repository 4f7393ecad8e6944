use Rattle.std.proofs.Common.{◌≡◌, sym, ap, ◌∙◌}
use Rattle.mmio_window.specs.Reading.{read_value}
use Rattle.block_device.specs.Config.{config_of}
use Rattle.console_device.specs.Config as console
use Rattle.block_device.specs.declared.device.BlockDevice.{BlockDevice}
use Rattle.board.specs.Backing.{sectors_by}
use Rattle.board.specs.Image.{sectors_of}
use Rattle.board.specs.Slot.{BoardSlot, state_of}
use Rattle.board.proofs.Beside.{device_count}
use Rattle.board.proofs.slot.Slot.read_window.Goals as goal

pub returns-in-Block : goal.returns-in-Block
returns-in-Block g c = λ bytes filled.
    let slot = c.args.self.now in
    let shown : c.read.result ≡ read_value c.args.offset c.args.width (config_of c.device.result.now.extent.count)
    c.self.inside.block =
    c.read.ensures ∙ ap (λ config. read_value c.args.offset c.args.width config c.self.inside.block)
    c.config.ensures in
    let count : c.device.result.now.extent.count ≡ sectors_by slot.host (sectors_of (state_of bytes slot).extent) =
    ap (λ (d : BlockDevice). d.extent.count) c.device.ensures ∙ device_count slot.host slot.extent
    ∙ ap (λ n. sectors_by slot.host n) (sym filled) in
    rw c.in-Block.is
    (shown ∙ ap (λ n. read_value c.args.offset c.args.width (config_of n) c.self.inside.block) count
    ∙ ap (λ (s : BoardSlot). read_value c.args.offset c.args.width
    (config_of (sectors_by slot.host (sectors_of (state_of bytes slot).extent))) s.block) c.self.view_is)

pub returns-in-Console : goal.returns-in-Console
returns-in-Console g c = λ bytes filled.
    let shown : c.read-in-Console.result
    ≡ read_value c.args.offset c.args.width
    (console.config_of c.self.inside.console_device.cols c.self.inside.console_device.rows)
    c.self.inside.console =
    c.read-in-Console.ensures
    ∙ ap (λ config. read_value c.args.offset c.args.width config c.self.inside.console)
    c.config-in-Console.ensures in
    rw c.in-Console.is
    (shown ∙ ap (λ (slot : BoardSlot). read_value c.args.offset c.args.width
    (console.config_of slot.cols slot.rows) slot.console) c.self.view_is)
