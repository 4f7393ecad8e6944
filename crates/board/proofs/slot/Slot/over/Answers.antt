use Rattle.std.proofs.Common.{◌∙◌, ap, ℕ}
use Rattle.mmio_window.specs.declared.device_kind.DeviceKind.TheVariants.{Block, Console}
use Rattle.mmio_window.specs.Window.{fresh_window}
use Rattle.block_device.specs.Config.{block_features}
use Rattle.block_device.specs.declared.device.BlockDevice.{BlockDevice}
use Rattle.board.proofs.Belonging.{opened_sound}
use Rattle.board.proofs.slot.Slot.over.Goals as goal

pub invariant_of-result : goal.invariant_of-result
invariant_of-result g c =
    opened_sound _ _ c.new-2.result c.new-3.result c.in-Ok.console_device.pending c.new-4.result
    (c.new-2.ensures.value ∙ ap (λ (bits : ℕ). fresh_window Block bits 0) c.features-features.ensures
    ∙ ap (λ (d : BlockDevice). fresh_window Block (block_features d.read_only) 0) c.of_image.ensures)
    (c.new-3.ensures.value ∙ ap (λ (bits : ℕ). fresh_window Console bits 0) c.features.ensures)
    (ap (λ console. console.pending) c.in-Ok.ensures) c.new-4.ensures
