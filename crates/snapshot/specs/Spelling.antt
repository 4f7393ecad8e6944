-- How a snapshot is spelled, byte by byte: numbers little-endian, one field behind another.
use Rattle.std.specs.Prelude.{◌≡◌, ℕ, ◌+◌, ◌^◌, ◌<◌, ◌≤◌, Bool, true, false, IfSome, if◌then◌else◌, List, [], ◌∷◌, ◌++◌, Option, Some, None, length}
use Rattle.std.specs.Int.{w16, w32, w64, to_le_bytes}
use Rattle.mmio_window.specs.declared.saved.Reached.{Reached}
use Rattle.mmio_window.specs.declared.saved.SavedNegotiation.{SavedNegotiation}
use Rattle.mmio_window.specs.declared.saved.SavedQueue.{SavedQueue}
use Rattle.mmio_window.specs.declared.saved.SavedSelectors.{SavedSelectors}
use Rattle.mmio_window.specs.declared.saved.SavedWindow.{SavedWindow}
use Rattle.mmio_window.specs.Interrupts.{interrupt_bits}
use Rattle.snapshot.specs.declared.saved.SavedDevice.{SavedDevice}
use Rattle.snapshot.specs.declared.saved.SavedSlot.{SavedSlot}

-- ---- a queue

abbrev pub served : Reached → List ℕ
served r =
    to_le_bytes w16 r.place
    ++ (to_le_bytes w16 r.pending ++ (to_le_bytes w16 r.used_count ++ to_le_bytes w16 r.ahead))

-- 0 where the queue isn't ready, and 1 and how far it is served where it is
abbrev pub reached : Option Reached → List ℕ
reached None = 0 ∷ []
reached (Some r) = 1 ∷ served r

unfoldable pub queue : SavedQueue → List ℕ
queue q =
    to_le_bytes w32 q.number
    ++ (to_le_bytes w64 q.descriptor_area
    ++ (to_le_bytes w64 q.driver_area ++ (to_le_bytes w64 q.device_area ++ reached q.reached)))

-- ---- a window

abbrev pub negotiation : SavedNegotiation → List ℕ
negotiation n = to_le_bytes w64 n.offered ++ ((n.status ∷ []) ++ to_le_bytes w64 n.accepted)

abbrev pub selectors : SavedSelectors → List ℕ
selectors s =
    to_le_bytes w32 s.device_features
    ++ (to_le_bytes w32 s.driver_features ++ (to_le_bytes w32 s.queue ++ to_le_bytes w32 s.shm))

unfoldable pub window : SavedWindow → List ℕ
window w =
    (negotiation w.negotiation ++ selectors w.selectors)
    ++ ((queue w.queue_0 ++ queue w.queue_1)
    ++ ((interrupt_bits w.interrupts ∷ []) ++ to_le_bytes w32 w.config_generation))

-- ---- the further devices

-- the type of device, what a network card and a disk are known by, and its window
unfoldable pub device : SavedDevice → List ℕ
device d =
    to_le_bytes w32 d.device_id
    ++ (d.mac ++ (to_le_bytes w16 d.mtu ++ (to_le_bytes w64 d.sectors ++ (d.identity ++ window d.window))))

-- devices one behind another
abbrev pub each : List SavedDevice → List ℕ
each [] = []
each (d ∷ ds) = device d ++ each ds

-- how many there are, and the devices: nothing where there is none
abbrev pub devices : List SavedDevice → List ℕ
devices [] = []
devices (d ∷ ds) = to_le_bytes w32 (length (d ∷ ds)) ++ each (d ∷ ds)

-- The version of a snapshot with these devices. The first has none, and only the third has what waits in them.
abbrev pub version_of : List SavedDevice → Bool → ℕ
version_of [] waits = 1
version_of (d ∷ ds) false = 2
version_of (d ∷ ds) true = 3

-- ---- a slot

-- 0 for no, and 1 for yes
abbrev pub flag : Bool → ℕ
flag b = if b then 1 else 0

-- the memory and the disk, what the guest is told of the disk and the console, whether the slot is on hold, both
-- windows, and the further devices
unfoldable pub slot : SavedSlot → List ℕ
slot s =
    (to_le_bytes w64 s.base ++ (to_le_bytes w64 s.len ++ to_le_bytes w64 s.sectors))
    ++ (((flag s.read_only ∷ []) ++ (s.identity ++ (to_le_bytes w16 s.cols ++ (to_le_bytes w16 s.rows ++ (flag s.on_hold ∷ [])))))
    ++ (window s.block ++ (window s.console ++ devices s.devices.items)))

-- ---- the snapshot

-- the eight bytes KALYUBOS as a number
abbrev pub magic : ℕ
magic = 6003089762645983563

-- the magic and the version
abbrev pub opening : ℕ → List ℕ
opening version = to_le_bytes w64 magic ++ to_le_bytes w32 version

-- how much input is pending, and the input
abbrev pub input : List ℕ → List ℕ
input pending = to_le_bytes w32 (length pending) ++ pending

-- all that stands before the pending input, of which there is so much
unfoldable pub head : SavedSlot → Bool → ℕ → List ℕ
head s waits count = opening (version_of s.devices.items waits) ++ (slot s ++ to_le_bytes w32 count)

-- all that stands before what waits in the further devices
unfoldable pub front_of : SavedSlot → List ℕ → Bool → List ℕ
front_of s pending waits = opening (version_of s.devices.items waits) ++ (slot s ++ input pending)

-- without what waits, and with it
abbrev pub snapshot : SavedSlot → List ℕ → Option (List ℕ) → List ℕ
snapshot s pending None = front_of s pending false
snapshot s pending (Some waiting) = front_of s pending true ++ waiting

-- ---- what has a spelling: each number has the size of its field

abbrev pub ReachedFits : Reached → Type 0
ReachedFits r =
    (r.place < 2 ^ 16) × ((r.pending < 2 ^ 16) × ((r.used_count < 2 ^ 16) × (r.ahead < 2 ^ 16)))

abbrev pub MayReach : Option Reached → Type 0
MayReach r = IfSome r ReachedFits

abbrev pub QueueFits : SavedQueue → Type 0
QueueFits q =
    (q.number < 2 ^ 32)
    × ((q.descriptor_area < 2 ^ 64)
    × ((q.driver_area < 2 ^ 64) × ((q.device_area < 2 ^ 64) × MayReach q.reached)))

abbrev pub NegotiationFits : SavedNegotiation → Type 0
NegotiationFits n = (n.offered < 2 ^ 64) × ((n.status < 256) × (n.accepted < 2 ^ 64))

abbrev pub SelectorsFit : SavedSelectors → Type 0
SelectorsFit s =
    (s.device_features < 2 ^ 32)
    × ((s.driver_features < 2 ^ 32) × ((s.queue < 2 ^ 32) × (s.shm < 2 ^ 32)))

abbrev pub WindowFits : SavedWindow → Type 0
WindowFits w =
    (NegotiationFits w.negotiation × SelectorsFit w.selectors)
    × ((QueueFits w.queue_0 × QueueFits w.queue_1) × (w.config_generation < 2 ^ 32))

abbrev pub DeviceFits : SavedDevice → Type 0
DeviceFits d =
    (d.device_id < 2 ^ 32)
    × ((length d.mac ≡ 6)
    × ((d.mtu < 2 ^ 16) × ((d.sectors < 2 ^ 64) × ((length d.identity ≡ 20) × WindowFits d.window))))

abbrev pub EachFits : List SavedDevice → Type 0
EachFits [] = Unit {0}
EachFits (d ∷ ds) = DeviceFits d × EachFits ds

-- six at most
abbrev pub DevicesFit : List SavedDevice → Type 0
DevicesFit ds = (length ds ≤ 6) × EachFits ds

abbrev pub SlotFits : SavedSlot → Type 0
SlotFits s =
    ((s.base < 2 ^ 64) × ((s.len < 2 ^ 64) × (s.sectors < 2 ^ 64)))
    × (((length s.identity ≡ 20) × ((s.cols < 2 ^ 16) × (s.rows < 2 ^ 16)))
    × (WindowFits s.block × (WindowFits s.console × DevicesFit s.devices.items)))

-- something waits only in further devices
abbrev pub WaitingFits : SavedSlot → Option (List ℕ) → Type 0
WaitingFits s waiting = IfSome waiting (λ bytes. 1 ≤ length s.devices.items)

-- The bytes are the snapshot of a slot with this pending input, and with this that waits in its further devices: they
-- spell all three, and each has the size of its field.
pub record IsSnapshot (bytes : List ℕ) (saved : SavedSlot) (pending : List ℕ)
    (waiting : Option (List ℕ)) : Type 0 where
  pub spelled : bytes ≡ snapshot saved pending waiting
  pub fits : SlotFits saved
  pub few : length pending ≤ 4096
  pub waits : WaitingFits saved waiting

-- ---- writing

-- a text was put behind what stood there, of at most so many bytes
pub record Puts (old new behind : List ℕ) (most : ℕ) : Type 0 where
  pub text : new ≡ old ++ behind
  pub len : length new ≤ length old + most
