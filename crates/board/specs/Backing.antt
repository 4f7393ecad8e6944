-- A slot's own disk: sectors of the image, or a disk that the host serves.
use Rattle.std.specs.Prelude.{◌≡◌, ℕ, ⊤, Bool, false, Option, Some, None, IfSome, IsSomeAnd, List, []}
use Rattle.std.specs.Option.{option_map}
use Rattle.guest_memory.specs.Memory.{Memory}
use Rattle.mmio_window.specs.Window.{WindowState}
use Rattle.block_device.specs.declared.device.BlockDevice.{BlockDevice}
use Rattle.block_device.specs.declared.extent.Extent.{Extent}
use Rattle.block_device.specs.Flights.{InFlight}
use Rattle.hosted_disk.specs.Disk.{HoldsFlights, HostedDisk}

-- what is in flight of a slot: nothing where its disk is of the image
abbrev pub tags_in : Option HostedDisk → List (Option InFlight)
tags_in None = []
tags_in (Some disk) = disk.tags

-- and whether its disk is on hold: one of the image never is
abbrev pub is_held : Option HostedDisk → Bool
is_held None = false
is_held (Some disk) = disk.on_hold

-- a disk on hold, or not
abbrev pub held_disk : Bool → HostedDisk → HostedDisk
held_disk on_hold disk = record disk { on_hold = on_hold }

-- the disk stays, but for whether it is on hold
abbrev pub KeepsHost : Option HostedDisk → Option HostedDisk → Type 0
KeepsHost old new = option_map (held_disk false) new ≡ option_map (held_disk false) old

-- how many sectors a disk has, where those of the image are so many
abbrev pub sectors_by : Option HostedDisk → ℕ → ℕ
sectors_by None of_image = of_image
sectors_by (Some disk) of_image = disk.device.extent.count

-- which sectors the disk's driver knows: of one that the host serves they are all that there are
abbrev pub device_extent : Option HostedDisk → Extent → Extent
device_extent None extent = extent
device_extent (Some disk) extent = record { start = 0; count = disk.device.extent.count }

-- ---- the disk as the board keeps it

-- What it has of the image, which is nothing where the host serves it; the disk that the host serves, if it does; whether it
-- refuses writes; and its identity.
pub record OwnDisk : Type 0 where
  pub extent : Extent
  pub host : Option HostedDisk
  pub read_only : Bool
  pub identity : List ℕ

-- the block device as its driver knows it
abbrev pub own_device : OwnDisk → BlockDevice
own_device own = record {
  extent = device_extent own.host own.extent;
  read_only = own.read_only;
  identity = own.identity;
}

-- and that of the image's sectors
abbrev pub device_of_image : OwnDisk → BlockDevice
device_of_image own = record { extent = own.extent; read_only = own.read_only; identity = own.identity }

-- What is in flight is held, in this memory and behind this window: nothing that the host is told lies outside the memory or
-- the disk, and each chain lies between the next used entry and the next chain of the queue.
abbrev pub HoldsHost : Memory → WindowState → Option HostedDisk → Type 0
HoldsHost m w host = IfSome host (HoldsFlights m w)

-- a disk that the host serves is of the description that the slot's disk has
abbrev pub IsServedAs : BlockDevice → Option HostedDisk → Type 0
IsServedAs device None = ⊤
IsServedAs device (Some disk) =
    disk.device ≡ record device { extent = record { start = 0; count = disk.device.extent.count } }

-- A disk that the host serves does this.
abbrev pub DoesHosted : (HostedDisk → Memory → Memory → WindowState → WindowState → HostedDisk → Type 0) → Memory → Memory
    → WindowState → WindowState → Option HostedDisk → Option HostedDisk → Type 0
DoesHosted Does m m' w w' old new = IsSomeAnd old (λ disk. IsSomeAnd new (Does disk m m' w w'))
