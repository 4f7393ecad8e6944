-- The table of control registers (4.2.2): each one's offset and name, in the standard's order.
use Rattle.std.specs.Prelude.{ℕ, ◌==◌, if◌then◌else◌, List, [], ◌∷◌, Option, None, Some}
use Rattle.mmio_window.specs.declared.register.Register.{Register}
use Rattle.mmio_window.specs.declared.register.Register.TheVariants.{MagicValue, Version, DeviceId, VendorId, DeviceFeatures, DeviceFeaturesSel, DriverFeatures, DriverFeaturesSel, QueueSel, QueueNumMax, QueueNum, QueueReady, QueueNotify, InterruptStatus, InterruptAck, Status, QueueDescLow, QueueDescHigh, QueueDriverLow, QueueDriverHigh, QueueDeviceLow, QueueDeviceHigh, ShmSel, ShmLenLow, ShmLenHigh, ShmBaseLow, ShmBaseHigh, ConfigGeneration}

-- the offset of each register
abbrev pub registers : List (ℕ × Register)
registers =
    (0x000, MagicValue)
    ∷ (0x004, Version)
    ∷ (0x008, DeviceId)
    ∷ (0x00c, VendorId)
    ∷ (0x010, DeviceFeatures)
    ∷ (0x014, DeviceFeaturesSel)
    ∷ (0x020, DriverFeatures)
    ∷ (0x024, DriverFeaturesSel)
    ∷ (0x030, QueueSel)
    ∷ (0x034, QueueNumMax)
    ∷ (0x038, QueueNum)
    ∷ (0x044, QueueReady)
    ∷ (0x050, QueueNotify)
    ∷ (0x060, InterruptStatus)
    ∷ (0x064, InterruptAck)
    ∷ (0x070, Status)
    ∷ (0x080, QueueDescLow)
    ∷ (0x084, QueueDescHigh)
    ∷ (0x090, QueueDriverLow)
    ∷ (0x094, QueueDriverHigh)
    ∷ (0x0a0, QueueDeviceLow)
    ∷ (0x0a4, QueueDeviceHigh)
    ∷ (0x0ac, ShmSel)
    ∷ (0x0b0, ShmLenLow)
    ∷ (0x0b4, ShmLenHigh)
    ∷ (0x0b8, ShmBaseLow)
    ∷ (0x0bc, ShmBaseHigh)
    ∷ (0x0fc, ConfigGeneration)
    ∷ []

-- the register of a table that has this offset, if any has
abbrev pub named_at : ℕ → List (ℕ × Register) → Option Register
named_at offset [] = None
named_at offset (row ∷ rows) = if offset == row.0 then Some row.1 else named_at offset rows

-- the register at an offset, if any
abbrev pub register_at : ℕ → Option Register
register_at offset = named_at offset registers
