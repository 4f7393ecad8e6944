-- The list of devices: one of them changes, and the others stay.
use Rattle.std.specs.Prelude.{◌≡◌, ◌+◌, ◌==◌, ◌||◌, ◌&&◌, ℕ, All, Bool, true, false, nat_le, nat_lt, if◌then◌else◌, Option, Some, None, List, length, slice_set}
use Rattle.std.specs.List.{list_all, list_any, slice_get}
use Rattle.std.specs.Option.{option_and_then, option_map_or}
use Rattle.guest_memory.specs.Memory.{Memory}
use Rattle.chain.specs.declared.budget.Budget.{Budget}
use Rattle.chain.specs.declared.budget.Progress.{Progress}
use Rattle.chain.specs.declared.budget.Progress.TheVariants.{Done}
use Rattle.mmio_window.specs.declared.stage.Stage.{Stage}
use Rattle.mmio_window.specs.Writing.{action_of}
use Rattle.racing_window.specs.Memory.{window_fits}
use Rattle.device_list.specs.declared.spec.AddRefusal.{AddRefusal}
use Rattle.device_list.specs.declared.spec.AddRefusal.TheVariants.{TooMany, BadMtu, BadDisk, BadExtent, NoMemory}
use Rattle.device_list.specs.declared.refusal.WriteRefusal.{WriteRefusal}
use Rattle.device_list.specs.declared.refusal.WriteRefusal.TheVariants.{NoDevice, Busy}
use Rattle.device_list.specs.declared.spec.DeviceSpec.{DeviceSpec}
use Rattle.device_list.specs.declared.spec.DeviceSpec.TheVariants as spec
use Rattle.block_device.specs.declared.device.BlockDevice.{BlockDevice}
use Rattle.block_device.specs.declared.extent.Extent.{Extent}
use Rattle.device_list.specs.Card.{Card}
use Rattle.device_list.specs.Device.{DeviceServesIn, DeviceServesTo, DeviceState, IsSoundDevice, has_more_sent, notified_by}
use Rattle.hosted_disk.specs.Disk.{HostedDisk}
use Rattle.racing_service.specs.declared.service.Limits.{Limits}
use Rattle.served_memory.specs.World.{World}
use Rattle.device_list.specs.Model.{card_of, disk_of, has_bad_disk, has_bad_mtu, image_of, is_at_work, is_starving, must_wait, outgoing_of, terminal_of}
use Rattle.device_list.specs.Terminal.{Terminal}

-- each device is sound for the memory
abbrev pub AreSoundDevices : Memory → List DeviceState → Type 0
AreSoundDevices m devices = All (IsSoundDevice m) devices

-- Device n is there, and it and the memory change so; the other devices stay.
pub record At {Seen : Type 0} (Changes : Seen → Seen → DeviceState → DeviceState → Type 0) (n : ℕ) (m m' : Seen)
    (old new : List DeviceState) : Type 0 where
  pub before : DeviceState
  pub after : DeviceState
  pub there : slice_get old n ≡ Some before
  pub changes : Changes m m' before after
  pub is : new ≡ slice_set old n after

-- the devices with that of this number changed so, if there is one
abbrev pub changed_at : (DeviceState → DeviceState) → ℕ → List DeviceState → List DeviceState
changed_at change n devices = option_map_or (λ d. slice_set devices n (change d)) (slice_get devices n) devices

-- The device isn't there: nothing is served.
pub record IsNoneServed {Seen : Type 0} (progress : Progress) (m m' : Seen) (old new : List DeviceState) : Type 0 where
  pub done : progress ≡ Done
  pub memory : m' ≡ m
  pub devices : new ≡ old

abbrev pub ServesAny : Option DeviceState → Stage → Budget → Progress → ℕ → ℕ → Memory → Memory → List DeviceState
    → List DeviceState → Type 0
ServesAny None stage budget progress n q m m' old new = IsNoneServed progress m m' old new
ServesAny (Some d) stage budget progress n q m m' old new = At (DeviceServesTo stage budget progress q) n m m' old new

-- A piece of device n's service of its queue q, within a budget, and whether more is to come.
abbrev pub DevicesServeTo : Stage → Budget → Progress → ℕ → ℕ → Memory → Memory → List DeviceState
    → List DeviceState → Type 0
DevicesServeTo stage budget progress n q m m' old new =
    ServesAny (slice_get old n) stage budget progress n q m m' old new

-- and over any memory, within limits
abbrev pub ServesAnyIn : (world : World) → Option DeviceState → Stage → Limits → Progress → ℕ → ℕ → world.Seen → world.Seen
    → List DeviceState → List DeviceState → Type 0
ServesAnyIn world None stage limits progress n q m m' old new = IsNoneServed progress m m' old new
ServesAnyIn world (Some d) stage limits progress n q m m' old new =
    At (DeviceServesIn world stage limits progress q) n m m' old new

abbrev pub DevicesServeIn : (world : World) → Stage → Limits → Progress → ℕ → ℕ → world.Seen → world.Seen
    → List DeviceState → List DeviceState → Type 0
DevicesServeIn world stage limits progress n q m m' old new =
    ServesAnyIn world (slice_get old n) stage limits progress n q m m' old new

-- the network card of this number, if there is one
abbrev pub card_at : ℕ → List DeviceState → Option Card
card_at n devices = option_and_then (λ d. card_of d.model) (slice_get devices n)

-- the console of this number, if there is one
abbrev pub terminal_at : ℕ → List DeviceState → Option Terminal
terminal_at n devices = option_and_then (λ d. terminal_of d.model) (slice_get devices n)

-- What the driver of the device of this number sent that its host takes now, if any of it waits. There is no answer where
-- there is no such device, or its driver sends nothing.
abbrev pub outgoing_at : ℕ → List DeviceState → Option (Option (List ℕ))
outgoing_at n devices = option_and_then (λ d. outgoing_of d.model) (slice_get devices n)

-- the same where it is all one why there is nothing to take
abbrev pub sent_by : ℕ → List DeviceState → Option (List ℕ)
sent_by n devices = option_and_then (λ waits. waits) (outgoing_at n devices)

-- whether more waits behind what the host takes of the device of this number
abbrev pub has_more_sent_at : ℕ → List DeviceState → Bool
has_more_sent_at n devices = option_map_or has_more_sent (slice_get devices n) false

-- the disk of this number that the host serves, if there is one
abbrev pub disk_at : ℕ → List DeviceState → Option HostedDisk
disk_at n devices = option_and_then (λ d. disk_of d.model) (slice_get devices n)

-- the disk over the image of this number, if there is one
abbrev pub image_at : ℕ → List DeviceState → Option BlockDevice
image_at n devices = option_and_then (λ d. image_of d.model) (slice_get devices n)

-- whether a write at this offset of the device's window waits for what is in flight
abbrev pub waits_at : ℕ → DeviceState → Bool
waits_at offset d = must_wait offset d.model

-- the queue that a write of a device's window notifies, if it does
abbrev pub notified_at : ℕ → ℕ → ℕ → DeviceState → Option ℕ
notified_at offset width value d = notified_by (action_of offset width value d.window)

-- whether each ready queue of each device could be made ready over this memory (4.2.2)
abbrev pub devices_fit : Memory → List DeviceState → Bool
devices_fit m devices = list_all (λ d. window_fits m d.window) devices

-- Why a write isn't done to it: there is no such device, or the write waits.
abbrev pub IsWriteRefusal : ℕ → Option DeviceState → WriteRefusal → Type 0
IsWriteRefusal offset None why = why ≡ NoDevice
IsWriteRefusal offset (Some d) why = (why ≡ Busy) × (waits_at offset d ≡ true)

-- whether anything is in flight of any disk
abbrev pub are_at_work : List DeviceState → Bool
are_at_work devices = list_any (λ d. is_at_work d.model) devices

-- whether two extents have a sector in common
abbrev pub do_overlap : Extent → Extent → Bool
do_overlap one other = nat_lt one.start (other.start + other.count) && nat_lt other.start (one.start + one.count)

-- whether a device is a disk over the image that has one of these sectors
abbrev pub has_some_of : Extent → DeviceState → Bool
has_some_of extent d = option_map_or (λ disk. do_overlap extent disk.extent) (image_of d.model) false

-- whether a disk over the image is to have no sectors, one that isn't among so many spare ones, or one that another has
abbrev pub has_bad_extent : List DeviceState → ℕ → DeviceSpec → Bool
has_bad_extent devices spare (spec.Image extent read_only identity) =
    extent.count == 0 || (nat_lt spare (extent.start + extent.count) || list_any (has_some_of extent) devices)
has_bad_extent devices spare spec = false

-- Why a device isn't added to these, where it isn't for want of memory and so many sectors are spare: there are six, its
-- MTU is too low, it is no disk that there may be, or it is one over sectors that it can't have.
abbrev pub refusal_of : List DeviceState → ℕ → DeviceSpec → Option AddRefusal
refusal_of devices spare spec =
    if nat_le 6 (length devices) then Some TooMany
    else if has_bad_mtu spec then Some BadMtu
    else if has_bad_disk spec then Some BadDisk
    else if has_bad_extent devices spare spec then Some BadExtent
    else None

-- It isn't added for this: want of memory comes last.
abbrev pub IsRefusedFor : List DeviceState → ℕ → DeviceSpec → AddRefusal → Type 0
IsRefusedFor devices spare spec NoMemory = refusal_of devices spare spec ≡ None
IsRefusedFor devices spare spec why = refusal_of devices spare spec ≡ Some why

-- whether a chain of the device is on offer that waits for what its host supplies or sends
abbrev pub is_starved_at : Memory → DeviceState → Bool
is_starved_at m d = is_starving d.model m d.window
