-- A guest whose CPUs run on, as a slot of a board whose disk its host serves: the same windows, console and disk, and what is in
-- flight in the same tags. The slot has no further device.
use Rattle.std.specs.Prelude.{◌≡◌, Option, Some, List, [], map}
use Rattle.std.specs.Option.{option_map}
use Rattle.guest_memory.specs.declared.spec.RegionSpec.{RegionSpec}
use Rattle.guest_memory.specs.Memory.{Memory}
use Rattle.mmio_window.specs.declared.queue.Token.{Token}
use Rattle.block_device.specs.Flights as still
use Rattle.racing_hosted_disk.specs.Disk.{RacingHostedDisk}
use Rattle.block_device.specs.Tags.{InFlight}
use Rattle.racing_guest.specs.declared.reply.GuestWindow.{GuestWindow}
use Rattle.racing_guest.specs.declared.reply.GuestWindow.TheVariants as guest_window
use Rattle.racing_guest.specs.declared.spec.GuestSpec.{GuestSpec}
use Rattle.racing_guest.specs.Guest.{RacingGuest}
use Rattle.board.specs.declared.event.SlotWindow.{SlotWindow}
use Rattle.board.specs.declared.event.SlotWindow.TheVariants.{Block, Console}
use Rattle.board.specs.declared.spec.Backing.TheVariants.{Host}
use Rattle.board.specs.declared.spec.SlotSpec.{SlotSpec}
use Rattle.hosted_disk.specs.Disk.{HostedDisk}
use Rattle.board.specs.Slot.{SlotState}

abbrev pub slot_window : GuestWindow → SlotWindow
slot_window guest_window.Block = Block
slot_window guest_window.Console = Console

-- what is in flight, as block_device has it
abbrev pub in_flight : InFlight Token → still.InFlight
in_flight here = record {
  flight = record {
    token = here.flight.token;
    operation = here.flight.operation;
    status = here.flight.status;
    writable = here.flight.writable;
  };
  runs = here.runs;
}

abbrev pub tags_of : RacingHostedDisk Token → List (Option still.InFlight)
tags_of disk = map (option_map in_flight) disk.tags

abbrev pub disk_of : RacingHostedDisk Token → HostedDisk
disk_of disk = record { device = disk.device; tags = tags_of disk; on_hold = disk.on_hold }

abbrev pub slot_of : Memory → RacingGuest → SlotState
slot_of m guest = record {
  memory = m;
  extent = [];
  spare = 0;
  spare_bytes = [];
  host = Some (disk_of guest.block.disk);
  read_only = guest.block.disk.device.read_only;
  identity = guest.block.disk.device.identity;
  block = guest.block.window;
  console = guest.console.window;
  pending = guest.console.device.pending;
  cols = guest.console.device.cols;
  rows = guest.console.device.rows;
  devices = [];
}

-- Its disk begins at its first sector, as that of a new guest does. No call changes that.
abbrev pub IsOwnDisk : RacingGuest → Type 0
IsOwnDisk guest = guest.block.disk.device.extent.start ≡ 0

-- the slot of which such a guest is made
abbrev pub slot_spec : List RegionSpec → GuestSpec → SlotSpec
slot_spec regions spec = record {
  regions = regions;
  extent = record { start = 0; count = spec.sectors };
  spare = 0;
  backing = Host spec.depth;
  read_only = spec.read_only;
  cols = spec.cols;
  rows = spec.rows;
  identity = spec.identity;
}
