-- A slot's disks that its host serves: what is in flight, which events wait for that, when an operation began, and where there
-- is nothing to do for what the host says.
use Rattle.std.specs.Prelude.{◌≡◌, ◌≢◌, ℕ, ◌+◌, ◌^◌, ◌||◌, false, List, Option, None, IsSomeAnd, IsTrue, get_or}
use Rattle.std.specs.List.{slice_get}
use Rattle.std.specs.Option.{option_and_then, option_map, option_map_or}
use Rattle.block_device.specs.Flights.{InFlight}
use Rattle.block_device.specs.Tags.{taken_bits}
use Rattle.hosted_disk.specs.Disk.{HostedDisk}
use Rattle.hosted_disk.specs.Told.{has_effect}
use Rattle.device_list.specs.List.{disk_at}
use Rattle.board.specs.declared.event.EventKind.{EventKind}
use Rattle.block_device.specs.declared.operation.HostEvent.{HostEvent}
use Rattle.block_device.specs.declared.operation.HostEvent.TheVariants.{Complete, Drop, Hold, Release}
use Rattle.board.specs.Backing.{tags_in}
use Rattle.board.specs.declared.slot_disk.SlotDisk.{SlotDisk}
use Rattle.board.specs.declared.slot_disk.SlotDisk.TheVariants.{Further, Own}
use Rattle.board.specs.Units.{disk_in}
use Rattle.board.specs.Hosting.{waits_now}
use Rattle.board.specs.Slot.{BoardSlot, is_at_work, state_of}
use Rattle.board.specs.Waiting.{waits_beside}
use Rattle.session.specs.Session.{SessionState}

-- what is in flight with this tag of a disk: nothing where that isn't one that its host serves
abbrev pub flight_of : SlotDisk → ℕ → BoardSlot → Option InFlight
flight_of disk tag found = get_or (tags_in (disk_in disk found)) tag None

abbrev pub flight_at : ℕ → SlotDisk → ℕ → List BoardSlot → Option InFlight
flight_at slot disk tag slots = option_and_then (flight_of disk tag) (slice_get slots slot)

-- the disk of a slot that its host serves, if it is one
abbrev pub hosted_disk_at : ℕ → SlotDisk → List BoardSlot → Option HostedDisk
hosted_disk_at slot disk slots = option_and_then (disk_in disk) (slice_get slots slot)

-- The tags that are in flight of a disk, as a set of bits: bit n is set where tag n is. None is of a slot's own disk that is of
-- the image.
abbrev pub in_flight_at : ℕ → SlotDisk → List BoardSlot → Option ℕ
in_flight_at slot Own slots = option_map (λ found. taken_bits (tags_in found.host)) (slice_get slots slot)
in_flight_at slot (Further n) slots =
    option_map (λ disk. taken_bits disk.tags) (hosted_disk_at slot (Further n) slots)

-- An operation began with a call that ends none: other tags are in flight than before it.
abbrev pub HasAsked : ℕ → SlotDisk → SessionState → SessionState → Type 0
HasAsked slot disk old new = in_flight_at slot disk new.slots ≢ in_flight_at slot disk old.slots

-- an operation began with what the host says, by the tags in flight before and after it
abbrev pub AskedBy : HostEvent → Option ℕ → Option ℕ → Type 0
AskedBy (Complete tag verdict) before after = option_map (λ taken. taken + 2 ^ tag) after ≢ before
AskedBy Drop before after = ⊥
AskedBy Hold before after = ⊥
AskedBy Release before after = after ≢ before

-- the slot is there, and something of one of its disks is in flight
abbrev pub HasFlight : ℕ → List BoardSlot → Type 0
HasFlight slot slots = IsSomeAnd (slice_get slots slot) (λ found. IsTrue (is_at_work found))

-- Nothing is to be done for what the host says of the disk that it serves: no operation has the tag, none is in flight, the
-- disk is on hold already, or it isn't. Over an image nothing ever is.
abbrev pub IsSpare : HostEvent → Option HostedDisk → Type 0
IsSpare said host = option_map_or (has_effect said) host false ≡ false

-- the slot is there and has this disk, and nothing is to be done for what the host says of it
abbrev pub HasNothing : ℕ → SlotDisk → HostEvent → List BoardSlot → Type 0
HasNothing slot Own said slots =
    IsSomeAnd (slice_get slots slot) (λ found. IsSpare said found.host)
HasNothing slot (Further n) said slots =
    IsSomeAnd (slice_get slots slot)
    (λ found. IsSomeAnd (disk_at n found.devices) (λ disk. has_effect said disk ≡ false))

-- the slot is there, and has no such disk: each has one of its own
abbrev pub HasNoDisk : ℕ → SlotDisk → List BoardSlot → Type 0
HasNoDisk slot Own slots = ⊥
HasNoDisk slot (Further n) slots = IsSomeAnd (slice_get slots slot) (λ found. disk_at n found.devices ≡ None)

-- the slot is there, and an event of it waits for what is in flight of one of its disks
abbrev pub HoldsUp : {A : Type 0} → ℕ → EventKind A → SessionState → Type 0
HoldsUp slot what session =
    IsSomeAnd (slice_get session.slots slot)
    (λ found. IsTrue (waits_now what found.host || waits_beside what (state_of session.image found)))
