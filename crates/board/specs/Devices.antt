-- The further devices of a slot: what comes of what is done to one of them.
use Rattle.std.specs.Prelude.{◌≡◌, ◌==◌, ◌&&◌, ⊤, ℕ, Bool, true, false, if◌then◌else◌, Option, Some, None, IsSome, is_none, is_some, not, unwrap_or, List, [], ◌∷◌, ◌++◌, length, slice_set}
use Rattle.std.specs.List.{slice_get}
use Rattle.std.specs.Option.{option_and_then, option_map, option_map_or}
use Rattle.guest_memory.specs.Memory.{Memory}
use Rattle.block_device.specs.declared.operation.HostEvent.{HostEvent}
use Rattle.network_device.specs.declared.refusal.FrameRefusal.TheVariants.{Full}
use Rattle.device_list.specs.declared.refusal.ReceiveRefusal.{ReceiveRefusal}
use Rattle.device_list.specs.declared.refusal.ReceiveRefusal.TheVariants.{Frame}
use Rattle.device_list.specs.declared.spec.DeviceSpec.{DeviceSpec}
use Rattle.device_list.specs.Card.{receive_refusal}
use Rattle.device_list.specs.Device.{DeviceState, Receives, Supplies, TakesSent, Told, Writes, device_written, fresh_device, linked, received, register_of, resized, supplied, supply_taken, with_model}
use Rattle.device_list.specs.Model.{without_sent}
use Rattle.device_list.specs.List.{At, IsRefusedFor, card_at, changed_at, disk_at, has_more_sent_at, notified_at, outgoing_at, refusal_of, sent_by, terminal_at, waits_at}
use Rattle.hosted_disk.specs.Told.{has_effect}
use Rattle.board.specs.declared.event.DeviceEvent.{DeviceEvent}
use Rattle.board.specs.declared.event.DeviceEvent.TheVariants.{Plug, Read, Write, Supply, Receive, TakeSent, DropSent, SetLink, Resize, Host}
use Rattle.board.specs.declared.pause.Pause.{Pause}
use Rattle.board.specs.declared.pause.Service.TheVariants.{Further}
use Rattle.board.specs.declared.reply.Reply.{Reply}
use Rattle.board.specs.declared.reply.Reply.TheVariants.{Value, Done, Bytes, Took, BadDevice, Busy, Idle, NoMemory}
use Rattle.board.specs.Image.{Health}
use Rattle.board.specs.Outcome.{Outcome, replies, IsDetermined}
use Rattle.board.specs.Slot.{BoardSlot, SlotState}
use Rattle.board.specs.declared.refusal.PlugRefusal.{PlugRefusal}
use Rattle.board.specs.declared.refusal.PlugRefusal.TheVariants as refusal

-- what is answered for a device, if it takes such a thing
abbrev pub device_reply : {A : Type 0} → DeviceEvent A → DeviceState → Option (Reply A)
device_reply (Read offset width) d = Some (Value (register_of offset width d))
device_reply (Write offset width value) d = Some (if waits_at offset d then Busy else Done)
device_reply (Supply bytes) d = option_map Took (supply_taken bytes d)
device_reply what d = None

-- what the host is answered of a frame that the card refuses so, if it does: it is taken whole, or there is no
-- room for it now
abbrev pub received_reply : {A : Type 0} → List ℕ → Option ReceiveRefusal → Option (Reply A)
received_reply frame None = Some (Took (length frame))
received_reply frame (Some (Frame Full)) = Some (Took 0)
received_reply frame (Some why) = None

-- what the host is answered that takes it: no bytes where nothing waits
abbrev pub sent_reply : {A : Type 0} → ℕ → List DeviceState → Option (Reply A)
sent_reply n devices = option_map (λ sent. Bytes (unwrap_or sent [])) (outgoing_at n devices)

-- what the host is answered that drops it: how many bytes they were
abbrev pub dropped_reply : {A : Type 0} → ℕ → List DeviceState → Option (Reply A)
dropped_reply n devices = option_map (λ sent. Took (length (unwrap_or sent []))) (outgoing_at n devices)

-- what the host is answered that says this of a disk, if it is one: there is nothing to do, or it is done
abbrev pub told_reply : {A : Type 0} → Bool → Reply A
told_reply found = if found then Done else Idle

-- whether there is something to do at device n
abbrev pub has_effect_at : ℕ → HostEvent → List DeviceState → Option Bool
has_effect_at n said devices = option_map (has_effect said) (disk_at n devices)

-- whether a write at this offset of device n waits for what is in flight
abbrev pub waits_there : ℕ → ℕ → List DeviceState → Bool
waits_there n offset devices = option_map_or (waits_at offset) (slice_get devices n) false

-- whether the slot takes this device as the one of this number, which is the next
abbrev pub can_plug : ℕ → DeviceSpec → SlotState → Bool
can_plug n spec state = n == length state.devices && is_none (refusal_of state.devices state.spare spec)

-- whether what is done to device n waits for what is in flight
abbrev pub waits_for_disk : {A : Type 0} → DeviceEvent A → ℕ → List DeviceState → Bool
waits_for_disk (Write offset width value) n devices = waits_there n offset devices
waits_for_disk what n devices = false

-- what is answered where device n of the slot is there, or may be plugged in, and takes such a thing
abbrev pub reply_at : {A : Type 0} → ℕ → DeviceEvent A → SlotState → Option (Reply A)
reply_at n (Plug spec) state = if can_plug n spec state then Some Done else None
reply_at n (Receive frame) state = received_reply frame (receive_refusal frame (card_at n state.devices))
reply_at n TakeSent state = sent_reply n state.devices
reply_at n DropSent state = dropped_reply n state.devices
reply_at n (SetLink up) state = option_map (λ card. Done) (card_at n state.devices)
reply_at n (Resize cols rows) state = option_map (λ terminal. Done) (terminal_at n state.devices)
reply_at n (Host said) state = option_map told_reply (has_effect_at n said state.devices)
reply_at n what state = option_and_then (device_reply what) (slice_get state.devices n)

-- nothing changes
pub record StaysSo (m m' : Memory) (d d' : DeviceState) : Type 0 where
  pub memory : m' ≡ m
  pub device : d' ≡ d

-- how a device that takes it and the memory change
abbrev pub Alters : {A : Type 0} → DeviceEvent A → Memory → Memory → DeviceState → DeviceState → Type 0
Alters (Read offset width) m m' d d' = StaysSo m m' d d'
Alters (Supply bytes) m m' d d' = Supplies bytes m m' d d'
Alters what m m' d d' = ⊥

-- the memory stays, and these are the devices
pub record AreSet (wanted : List DeviceState) (m m' : Memory) (new : List DeviceState) : Type 0 where
  pub memory : m' ≡ m
  pub devices : new ≡ wanted

-- a device does this where there is a cause to, and else all stays
abbrev pub DoesIf : Bool → (Memory → Memory → DeviceState → DeviceState → Type 0) → ℕ → Memory → Memory
    → List DeviceState → List DeviceState → Type 0
DoesIf true Changes n m m' old new = At Changes n m m' old new
DoesIf false Changes n m m' old new = AreSet old m m' new

-- how the memory and the devices change
abbrev pub DoesTo : {A : Type 0} → DeviceEvent A → ℕ → Memory → Memory → List DeviceState → List DeviceState
    → Type 0
DoesTo (Plug spec) n m m' old new = AreSet (old ++ fresh_device spec ∷ []) m m' new
DoesTo (SetLink up) n m m' old new = AreSet (changed_at (linked up) n old) m m' new
DoesTo (Resize cols rows) n m m' old new = AreSet (changed_at (resized cols rows) n old) m m' new
DoesTo (Receive frame) n m m' old new =
    DoesIf (is_none (receive_refusal frame (card_at n old))) (Receives frame) n m m' old new
DoesTo TakeSent n m m' old new = DoesIf (is_some (sent_by n old)) TakesSent n m m' old new
DoesTo DropSent n m m' old new = DoesIf (is_some (sent_by n old)) TakesSent n m m' old new
DoesTo (Write offset width value) n m m' old new =
    DoesIf (not (waits_there n offset old)) (Writes offset width value) n m m' old new
DoesTo (Host said) n m m' old new =
    DoesIf (unwrap_or (has_effect_at n said old) false) (Told said) n m m' old new
DoesTo what n m m' old new = At (Alters what) n m m' old new

-- A device does its part: the devices and the memory change, and the rest of the slot stays.
pub record IsDeviceStep {A : Type 0} (n : ℕ) (what : DeviceEvent A) (state : SlotState) (reply : Reply A)
    (before after : Health) (outcome : Outcome A) : Type 0 where
  pub at : DoesTo what n state.memory outcome.state.memory state.devices outcome.state.devices
  pub is :
      outcome
      ≡ replies (record state { memory = outcome.state.memory; devices = outcome.state.devices }) reply
  pub image : after ≡ before

-- what comes of it, by what is answered: nothing where no device takes it
abbrev pub GivesByDevice : {A : Type 0} → Option (Reply A) → ℕ → DeviceEvent A → SlotState → Health → Health
    → Outcome A → Type 0
GivesByDevice None n what state before after outcome =
    IsDetermined outcome (replies state BadDevice) before after
GivesByDevice (Some reply) n what state before after outcome =
    IsDeviceStep n what state reply before after outcome

-- what comes of what is done to device n
abbrev pub GivesDevice : {A : Type 0} → ℕ → DeviceEvent A → SlotState → Health → Health → Outcome A → Type 0
GivesDevice n what state before after outcome =
    GivesByDevice (reply_at n what state) n what state before after outcome

-- ---- the service that it asks for

-- device n serves its queue q, and the event is answered so many bytes at the end, if it handed in some
abbrev pub further_service : ℕ → ℕ → Option ℕ → Pause
further_service n q taken = record { service = Further n q; taken = taken }

-- The service that what is done to device n asks for, if it does: of the queue that is notified, of that which waits for
-- what its host hands in, or of that for which there is room again, once its host took all that waited. Where the host is
-- answered the bytes that it takes, the last one is served to its end.
abbrev pub device_asks : {A : Type 0} → ℕ → DeviceEvent A → SlotState → Option Pause
device_asks n (Write offset width value) state =
    if waits_there n offset state.devices then None
    else option_map (λ q. further_service n q None)
    (option_and_then (notified_at offset width value) (slice_get state.devices n))
device_asks n (Supply bytes) state =
    option_map (λ taken. further_service n 0 (Some taken))
    (option_and_then (supply_taken bytes) (slice_get state.devices n))
device_asks n (Receive frame) state =
    if is_none (receive_refusal frame (card_at n state.devices)) then Some (further_service n 0 (Some (length frame)))
    else None
device_asks n DropSent state =
    if has_more_sent_at n state.devices then None
    else option_map (λ sent. further_service n 1 (Some (length sent))) (sent_by n state.devices)
device_asks n what state = None

-- what asks for none, whatever the slot has
abbrev pub IsAtOnce : {A : Type 0} → DeviceEvent A → Type 0
IsAtOnce (Write offset width value) = ⊥
IsAtOnce (Supply bytes) = ⊥
IsAtOnce (Receive frame) = ⊥
IsAtOnce DropSent = ⊥
IsAtOnce what = ⊤

-- the devices as that service finds them
abbrev pub devices_readied : {A : Type 0} → ℕ → DeviceEvent A → Memory → List DeviceState → List DeviceState
devices_readied n (Write offset width value) m devices = changed_at (device_written offset width value m) n devices
devices_readied n (Supply bytes) m devices = changed_at (with_model (supplied bytes)) n devices
devices_readied n (Receive frame) m devices = changed_at (with_model (received frame)) n devices
devices_readied n DropSent m devices = changed_at (with_model without_sent) n devices
devices_readied n what m devices = devices

-- ---- what takes memory

-- whether memory may be wanting for it: a device that is plugged in takes its own, and what is taken is copied
abbrev pub TakesMemoryFor : {A : Type 0} → ℕ → DeviceEvent A → SlotState → Type 0
TakesMemoryFor n (Plug spec) state = can_plug n spec state ≡ true
TakesMemoryFor n TakeSent state = IsSome (sent_by n state.devices)
TakesMemoryFor n what state = ⊥

-- there was none: nothing happens
pub record IsUnmet {A : Type 0} (n : ℕ) (what : DeviceEvent A) (state : SlotState) (before after : Health)
    (outcome : Outcome A) : Type 0 where
  pub takes : TakesMemoryFor n what state
  pub unchanged : outcome ≡ replies state NoMemory
  pub image : after ≡ before

-- which replies there may be
abbrev pub MayReplyDevice : {A : Type 0} → DeviceEvent A → Reply A → Type 0
MayReplyDevice what BadDevice = ⊤
MayReplyDevice (Plug spec) Done = ⊤
MayReplyDevice (Plug spec) NoMemory = ⊤
MayReplyDevice (Read offset width) (Value value) = ⊤
MayReplyDevice (Write offset width value) Done = ⊤
MayReplyDevice (Supply bytes) (Took taken) = ⊤
MayReplyDevice (Receive frame) (Took taken) = ⊤
MayReplyDevice TakeSent (Bytes frame) = ⊤
MayReplyDevice TakeSent NoMemory = ⊤
MayReplyDevice DropSent (Took taken) = ⊤
MayReplyDevice (SetLink up) Done = ⊤
MayReplyDevice (Resize cols rows) Done = ⊤
MayReplyDevice (Write offset width value) Busy = ⊤
MayReplyDevice (Host said) Done = ⊤
MayReplyDevice (Host said) Idle = ⊤
MayReplyDevice what answer = ⊥

-- ---- a call that plugs a device in

-- The slot has one device more, as after a reset, behind those that it had, and this is its number.
pub record IsPlugged (slot : ℕ) (spec : DeviceSpec) (number : ℕ) (old new : List BoardSlot) : Type 0 where
  pub before : BoardSlot
  pub there : slice_get old slot ≡ Some before
  pub next : number ≡ length before.devices
  pub taken : refusal_of before.devices before.spare spec ≡ None
  pub is : new ≡ slice_set old slot (record before { devices = before.devices ++ fresh_device spec ∷ [] })

-- Why it isn't plugged in: there is no such slot, or the slot doesn't take it.
abbrev pub IsPlugRefusal : DeviceSpec → Option BoardSlot → PlugRefusal → Type 0
IsPlugRefusal spec None why = why ≡ refusal.BadSlot
IsPlugRefusal spec (Some found) (refusal.Device why) = IsRefusedFor found.devices found.spare spec why
IsPlugRefusal spec (Some found) refusal.BadSlot = ⊥
