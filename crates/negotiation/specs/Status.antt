-- The bits of the device status (2.1). The driver sets its bits one after another as it starts the device,
-- the device sets DEVICE_NEEDS_RESET, and reset alone clears them.
use Rattle.std.specs.Prelude.{◌∷◌, [], codes, ℕ, List}
use Rattle.bitflags.specs.Sets.{Row}
use Rattle.negotiation.specs.declared.status.Status.{Status}

-- the bits of a status
abbrev pub status_bits : Status → ℕ
status_bits status = status.0

-- the driver has noticed the device
abbrev pub acknowledge : ℕ
acknowledge = 1

-- the driver knows how to drive the device
abbrev pub driver : ℕ
driver = 2

-- the driver is set up and ready to drive the device
abbrev pub driver_ok : ℕ
driver_ok = 4

-- the driver has acknowledged all the features that it understands, and negotiation is complete
abbrev pub features_ok : ℕ
features_ok = 8

-- the device met an error from which it can't recover
abbrev pub device_needs_reset : ℕ
device_needs_reset = 64

-- the driver has given up on the device
abbrev pub failed : ℕ
failed = 128

-- the two bits that have no name, which neither side sets
abbrev pub unnamed : ℕ
unnamed = 48

-- the name of each bit
abbrev pub status_names : List Row
status_names =
    (codes "ACKNOWLEDGE", acknowledge)
    ∷ (codes "DRIVER", driver)
    ∷ (codes "DRIVER_OK", driver_ok)
    ∷ (codes "FEATURES_OK", features_ok)
    ∷ (codes "DEVICE_NEEDS_RESET", device_needs_reset)
    ∷ (codes "FAILED", failed)
    ∷ []
