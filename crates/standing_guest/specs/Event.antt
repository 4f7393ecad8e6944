-- What a call of a guest that stands still comes to: one event of the slot that it is.
use Rattle.std.specs.Prelude.{◌≡◌, ℕ, zero, suc, ⊤, ◌++◌, IfSome, List}
use Rattle.guest_memory.specs.Memory.{Memory}
use Rattle.mmio_window.specs.declared.action.Action.{Action}
use Rattle.mmio_window.specs.declared.action.Action.TheVariants.{Notify}
use Rattle.block_device.specs.declared.operation.HostEvent.TheVariants.{Complete, Release}
use Rattle.block_device.specs.Hosting as hosting
use Rattle.racing_guest.specs.declared.reply.GuestQueue.{GuestQueue}
use Rattle.racing_guest.specs.declared.reply.GuestQueue.TheVariants as queues
use Rattle.board.specs.declared.event.EventKind.{EventKind}
use Rattle.board.specs.declared.event.EventKind.TheVariants.{Host, Input, Write}
use Rattle.board.specs.declared.event.SlotWindow.{SlotWindow}
use Rattle.board.specs.declared.event.SlotWindow.TheVariants.{Block, Console}
use Rattle.board.specs.declared.reply.Reply.{Reply}
use Rattle.board.specs.declared.reply.Reply.TheVariants.{Done, NoMemory}
use Rattle.board.specs.Machine.{IsNext, action_at}
use Rattle.board.specs.Slot.{SlotState}
use Rattle.board.specs.Within.{IsNextWithin}
use Rattle.standing_guest.specs.Rest.{WindowRests, WindowStands}

-- The call is this event: the slot is so after it, is answered so, and puts this out.
abbrev pub IsEvent : {A : Type 0} → SlotState → EventKind A → SlotState → Reply A → List ℕ → Type 0
IsEvent before what after reply output =
    IsNext before what (record { state = after; reply = reply; output = output })

-- A notification of a queue: the write of its number to QueueNotify of its window, at 0x50 (4.2.2).
abbrev pub notification : {A : Type 0} → GuestQueue → EventKind A
notification queues.Block = Write Block 0x050 4 0
notification queues.Receive = Write Console 0x050 4 0
notification queues.Transmit = Write Console 0x050 4 1

-- ---- the queue that an event serves, behind it

-- what says what is on offer in it stands as it did in the memory before the event
abbrev pub BlockStands : Memory → SlotState → Type 0
BlockStands m behind = WindowStands 0 m behind.memory behind.block

abbrev pub ReceiveStands : Memory → SlotState → Type 0
ReceiveStands m behind = WindowStands 0 m behind.memory behind.console

abbrev pub TransmitStands : Memory → SlotState → Type 0
TransmitStands m behind = WindowStands 1 m behind.memory behind.console

-- that of the queue which a write notifies
abbrev pub NotifiedStands : SlotWindow → Action → Memory → SlotState → Type 0
NotifiedStands Block (Notify zero) m behind = BlockStands m behind
NotifiedStands Console (Notify zero) m behind = ReceiveStands m behind
NotifiedStands Console (Notify (suc zero)) m behind = TransmitStands m behind
NotifiedStands window action m behind = ⊤

-- another notification of the disk's queue would find nothing
abbrev pub BlockRests : SlotState → Type 0
BlockRests state =
    IfSome state.host (λ disk. WindowRests (hosting.hosted_device disk.device) 0 state.memory state.block tt)

-- Nothing is left to be done of an event in the queue that it serves, if it serves one. Behind a completion, which wrote itself
-- before the look, that is said of the queue as the look left it.
abbrev pub IsServed : {A : Type 0} → EventKind A → SlotState → SlotState → Type 0
IsServed (Write window offset width value) before behind =
    NotifiedStands window (action_at window offset width value before) before.memory behind
IsServed (Input bytes) before behind = ReceiveStands before.memory behind
IsServed (Host (Complete tag verdict)) before behind = BlockRests behind
IsServed (Host Release) before behind = BlockStands before.memory behind
IsServed what before behind = ⊤

-- The call begins with this event. It is no more than that where nothing is left to be done behind it: so it is of each driver
-- over whose available ring the device doesn't write. Else the call goes on, as by a further notification.
pub record BeginsWith {A : Type 0} (before : SlotState) (what : EventKind A) (reply : Reply A) (after : SlotState)
    (out out' : List ℕ) : Type 0 where
  pub first : SlotState
  pub output : List ℕ
  pub event : IsEvent before what first reply output
  pub whole : IsServed what before first → (after ≡ first) × (out' ≡ out ++ output)

-- The same of a call that finds no room in an output with this limit: it begins with an event of the guest and its outlet, which
-- is refused for that, and is no more. Where it begins with another service, something was left to be done behind that.
pub record BeginsRefused {A : Type 0} (limit : ℕ) (before : SlotState) (what : EventKind A) (after : SlotState)
    (out out' : List ℕ) : Type 0 where
  pub first : SlotState
  pub reply : Reply A
  pub output : List ℕ
  pub event : IsNextWithin limit (record { state = before; waiting = out }) what reply
      (record { state = first; waiting = out ++ output })
  pub whole : (reply ≡ Done → IsServed what before first) → (reply ≡ NoMemory) × (after ≡ first) × (out' ≡ out ++ output)
