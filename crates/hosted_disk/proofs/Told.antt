-- A drop is what the host says by that name.
use Rattle.std.proofs.Common.{◌≡◌, Bool, true, false}
use Rattle.std.specs.Bool.{OnTrue}
use Rattle.guest_memory.specs.Memory.{Memory}
use Rattle.mmio_window.specs.Window.{WindowState}
use Rattle.block_device.specs.declared.operation.HostEvent.TheVariants.{Drop}
use Rattle.block_device.specs.Flights.{given_up}
use Rattle.hosted_disk.specs.Disk.{HostedDisk, queue_of}
use Rattle.hosted_disk.specs.Told.{DoesAsTold}

pub drop_told : (done : Bool) (disk new : HostedDisk) (m : Memory) (w w' : WindowState)
    → OnTrue done ((n : Memory) → queue_of n w' new ≡ given_up (queue_of n w disk))
    → new ≡ record disk { tags = new.tags } → OnTrue done (DoesAsTold Drop disk m m w w' new)
drop_told true disk new m w w' gives rest = record { queue = gives m; is = rest }
drop_told false disk new m w w' gives rest = tt
