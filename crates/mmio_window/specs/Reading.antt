-- Reading a window's registers (4.2.2), by cases in the order of their table.
use Rattle.std.specs.Prelude.{ℕ, ◌-◌, ◌==◌, nat_lt, if◌then◌else◌, List, is_some}
use Rattle.std.specs.Option.{option_map_or}
use Rattle.negotiation.specs.Features.{feature_word}
use Rattle.mmio_window.specs.declared.register.Register.{Register}
use Rattle.mmio_window.specs.declared.register.Register.TheVariants.{MagicValue, Version, DeviceId, VendorId, DeviceFeatures, QueueNumMax, QueueReady, InterruptStatus, Status, ShmLenLow, ShmLenHigh, ShmBaseLow, ShmBaseHigh, ConfigGeneration}
use Rattle.mmio_window.specs.Configuration.{configuration_value, is_configuration_access}
use Rattle.mmio_window.specs.DeviceKind.{device_id_of}
use Rattle.mmio_window.specs.Interrupts.{interrupt_bits}
use Rattle.mmio_window.specs.Registers.{register_at}
use Rattle.mmio_window.specs.Window.{WindowState, registers_of, ring_at}

-- the largest size of a queue
abbrev pub queue_num_max : ℕ
queue_num_max = 256

-- what a register shows; one that can't be read shows 0
abbrev pub shown : Register → WindowState → ℕ
shown MagicValue w = 0x74726976
shown Version w = 2
shown DeviceId w = device_id_of w.kind
shown VendorId w = 0x4f424d56
shown DeviceFeatures w = feature_word w.device_features_sel w.negotiation.offered
shown QueueNumMax w = if is_some (registers_of w.queue_sel w) then queue_num_max else 0
shown QueueReady w = if is_some (ring_at w.queue_sel w) then 1 else 0
shown InterruptStatus w = interrupt_bits w.interrupts
shown Status w = w.negotiation.status
shown ShmLenLow w = 0xffff_ffff
shown ShmLenHigh w = 0xffff_ffff
shown ShmBaseLow w = 0xffff_ffff
shown ShmBaseHigh w = 0xffff_ffff
shown ConfigGeneration w = w.config_generation
shown _ w = 0

-- the offset of the configuration: below it stand the control registers
abbrev pub configuration_offset : ℕ
configuration_offset = 0x100

-- a read of a control register: they answer a width of 4 alone
abbrev pub control_value : ℕ → ℕ → WindowState → ℕ
control_value offset width w =
    if width == 4 then option_map_or (λ register. shown register w) (register_at offset) 0 else 0

-- a read of a device's configuration, which has these bytes
abbrev pub configured_value : ℕ → ℕ → List ℕ → ℕ
configured_value offset width config =
    if is_configuration_access offset width then configuration_value config
    (offset - configuration_offset) width else 0

-- a read of some width at an offset; whatever isn't answered reads 0
abbrev pub read_value : ℕ → ℕ → List ℕ → WindowState → ℕ
read_value offset width config w =
    if nat_lt offset configuration_offset then control_value offset width w
    else configured_value offset width config
