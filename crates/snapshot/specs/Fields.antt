-- A snapshot as its fields, from left to right.
use Rattle.std.specs.Prelude.{ℕ, List, [], ◌∷◌, ◌++◌, Bool, Option, Some, None, is_some, length}
use Rattle.std.specs.Int.{w16, w32, w64, to_le_bytes}
use Rattle.mmio_window.specs.declared.saved.Reached.{Reached}
use Rattle.mmio_window.specs.declared.saved.SavedNegotiation.{SavedNegotiation}
use Rattle.mmio_window.specs.declared.saved.SavedQueue.{SavedQueue}
use Rattle.mmio_window.specs.declared.saved.SavedSelectors.{SavedSelectors}
use Rattle.mmio_window.specs.declared.saved.SavedWindow.{SavedWindow}
use Rattle.mmio_window.specs.Interrupts.{interrupt_bits}
use Rattle.snapshot.specs.declared.fault.Why.{Why}
use Rattle.snapshot.specs.declared.fault.Why.TheVariants.{Magic, Version, Choice, TooMuchInput}
use Rattle.snapshot.specs.declared.saved.SavedDevice.{SavedDevice}
use Rattle.snapshot.specs.declared.saved.SavedSlot.{SavedSlot}
use Rattle.snapshot.specs.Spelling.{flag, magic, version_of}

-- A field: its bytes, and what is wrong where as many bytes stand in its place that no snapshot has there.
pub record Field : Type 0 where
  pub bytes : List ℕ
  pub wrong : Why

-- the bytes of fields, one behind another
abbrev pub joined : List Field → List ℕ
joined [] = []
joined (f ∷ fs) = f.bytes ++ joined fs

-- a field of a slot: wrong bytes are a choice that there isn't
abbrev pub field : List ℕ → Field
field bytes = record { bytes = bytes; wrong = Choice }

-- ---- a queue

abbrev pub served_fields : Reached → List Field
served_fields r =
    field (to_le_bytes w16 r.place)
    ∷ field (to_le_bytes w16 r.pending)
    ∷ field (to_le_bytes w16 r.used_count)
    ∷ field (to_le_bytes w16 r.ahead)
    ∷ []

abbrev pub reached_fields : Option Reached → List Field
reached_fields None = field (0 ∷ []) ∷ []
reached_fields (Some r) = field (1 ∷ []) ∷ served_fields r

unfoldable pub queue_fields : SavedQueue → List Field
queue_fields q =
    field (to_le_bytes w32 q.number)
    ∷ field (to_le_bytes w64 q.descriptor_area)
    ∷ field (to_le_bytes w64 q.driver_area)
    ∷ field (to_le_bytes w64 q.device_area)
    ∷ reached_fields q.reached

-- ---- a window

abbrev pub negotiation_fields : SavedNegotiation → List Field
negotiation_fields n =
    field (to_le_bytes w64 n.offered) ∷ field (n.status ∷ []) ∷ field (to_le_bytes w64 n.accepted) ∷ []

abbrev pub selectors_fields : SavedSelectors → List Field
selectors_fields s =
    field (to_le_bytes w32 s.device_features)
    ∷ field (to_le_bytes w32 s.driver_features)
    ∷ field (to_le_bytes w32 s.queue)
    ∷ field (to_le_bytes w32 s.shm)
    ∷ []

unfoldable pub window_fields : SavedWindow → List Field
window_fields w =
    (negotiation_fields w.negotiation ++ selectors_fields w.selectors)
    ++ ((queue_fields w.queue_0 ++ queue_fields w.queue_1)
    ++ (field (interrupt_bits w.interrupts ∷ []) ∷ field (to_le_bytes w32 w.config_generation) ∷ []))

-- ---- the further devices

unfoldable pub device_fields : SavedDevice → List Field
device_fields d =
    field (to_le_bytes w32 d.device_id)
    ∷ field d.mac
    ∷ field (to_le_bytes w16 d.mtu)
    ∷ field (to_le_bytes w64 d.sectors)
    ∷ field d.identity
    ∷ window_fields d.window

abbrev pub each_fields : List SavedDevice → List Field
each_fields [] = []
each_fields (d ∷ ds) = device_fields d ++ each_fields ds

abbrev pub devices_fields : List SavedDevice → List Field
devices_fields [] = []
devices_fields (d ∷ ds) = field (to_le_bytes w32 (length (d ∷ ds))) ∷ each_fields (d ∷ ds)

-- ---- a slot

unfoldable pub slot_fields : SavedSlot → List Field
slot_fields s =
    field (to_le_bytes w64 s.base)
    ∷ field (to_le_bytes w64 s.len)
    ∷ field (to_le_bytes w64 s.sectors)
    ∷ field (flag s.read_only ∷ [])
    ∷ field s.identity
    ∷ field (to_le_bytes w16 s.cols)
    ∷ field (to_le_bytes w16 s.rows)
    ∷ field (flag s.on_hold ∷ [])
    ∷ (window_fields s.block ++ (window_fields s.console ++ devices_fields s.devices.items))

-- ---- the snapshot

-- the magic and the version
abbrev pub opening_fields : ℕ → List Field
opening_fields version =
    record { bytes = to_le_bytes w64 magic; wrong = Magic }
    ∷ record { bytes = to_le_bytes w32 version; wrong = Version }
    ∷ []

-- how much input is pending
abbrev pub count_field : ℕ → Field
count_field count = record { bytes = to_le_bytes w32 count; wrong = TooMuchInput }

-- all that stands before the pending input, of which there is so much
unfoldable pub head_fields : SavedSlot → Bool → ℕ → List Field
head_fields s waits count =
    opening_fields (version_of s.devices.items waits) ++ (slot_fields s ++ (count_field count ∷ []))

-- All that stands before what waits. The pending input may be any bytes, so its fault is never told.
abbrev pub front_fields : SavedSlot → List ℕ → Bool → List Field
front_fields s pending waits = head_fields s waits (length pending) ++ (field pending ∷ [])

-- what waits, of which the same is true
abbrev pub waiting_fields : Option (List ℕ) → List Field
waiting_fields None = []
waiting_fields (Some waiting) = field waiting ∷ []

-- the fields of a slot's snapshot with this pending input and this that waits
abbrev pub snapshot_fields : SavedSlot → List ℕ → Option (List ℕ) → List Field
snapshot_fields s pending waiting = front_fields s pending (is_some waiting) ++ waiting_fields waiting
