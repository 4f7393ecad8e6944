-- What the calls of a further device do to a board, and what they tell.
use Rattle.std.specs.Prelude.{◌≡◌, ◌⊎◌, ℕ, ◌<◌, ◌++◌, if◌then◌else◌, replicate, Bool, List, [], None, IsSomeAnd, drop, is_none, length, unwrap_or}
use Rattle.board.specs.declared.event.DeviceEvent.TheVariants.{DropSent}
use Rattle.board.specs.declared.event.EventKind.TheVariants.{Device}
use Rattle.board.specs.declared.reply.Reply.TheVariants.{Took}
use Rattle.session.specs.declared.told.DeviceWaits.{DeviceWaits}
use Rattle.session.specs.Devices.{device_waits_at, sent_at}
use Rattle.session.specs.Pacing.{paused_at}
use Rattle.session.specs.Session.{IsIdle, SessionState}
use Rattle.c_values.specs.declared.pending.DevicePending.{DevicePending}
use Rattle.board_ffi.specs.Codes.{code_at}
use Rattle.board_ffi.specs.Events.{PausesBehind, Takes}

-- how many bytes are taken of a frame that is taken whole or not at all
abbrev pub count_of : List ℕ → Bool → ℕ
count_of frame taken = if taken then length frame else 0

-- what the driver of a slot's device sent and the host takes now: no bytes where nothing waits
abbrev pub frame_at : ℕ → ℕ → SessionState → List ℕ
frame_at slot device session = unwrap_or (sent_at slot device session.slots) []

-- and none where a service of the slot is paused
abbrev pub frame_now : ℕ → ℕ → SessionState → List ℕ
frame_now slot device session =
    if is_none (paused_at session.paused slot) then frame_at slot device session else []

-- so many bytes stand at the front of the room
pub record IsCopied (frame room into : List ℕ) (len : ℕ) : Type 0 where
  pub len_is : len ≡ length frame
  pub copied : into ≡ frame ++ drop len room

-- so many bytes are more than the room, which stays
pub record IsLonger (frame room into : List ℕ) (len : ℕ) : Type 0 where
  pub len_is : len ≡ length frame
  pub longer : length room < len
  pub kept : into ≡ room

-- What was sent is dropped, and stands at the front of the room, and this is its length, also where the service pauses.
pub record TakesFrame (slot device : ℕ) (room into : List ℕ) (len code : ℕ) (old new : SessionState) : Type 0 where
  pub takes : Takes slot (Device device DropSent) code (Took (length (frame_at slot device old))) old new
  pub moved : (code ≡ 0) ⊎ (code ≡ 18) → IsCopied (frame_at slot device old) room into len
  pub taken : code ≡ 18 → PausesBehind slot len old new

-- What was sent is longer than the room, and this is its length. Nothing of the slot is paused, and nothing changes.
pub record IsTooShort (slot device room len : ℕ) (old new : SessionState) : Type 0 where
  pub idle : IsIdle slot old
  pub len_is : len ≡ length (frame_at slot device old)
  pub longer : room < len
  pub kept : new ≡ old

-- what waits for a device, as C has it
abbrev pub pending_of_device : DeviceWaits → DevicePending
pending_of_device waits = record {
  interrupt = waits.irq;
  starved = waits.starved;
  padding = replicate 3 0;
  frame = unwrap_or waits.sent 0;
  tags = waits.tags;
}

-- there is such a device of the slot, this waits for it, and nothing changes
pub record HasDevicePending (slot device : ℕ) (pending : DevicePending) (old new : SessionState) : Type 0 where
  pub told : IsSomeAnd (device_waits_at slot device old.slots) (λ waits. pending ≡ pending_of_device waits)
  pub kept : new ≡ old

-- there is no such slot, or no such device of it, and nothing changes
pub record IsNoDevice (slot device code : ℕ) (old new : SessionState) : Type 0 where
  pub none : device_waits_at slot device old.slots ≡ None
  pub code_is : code ≡ code_at slot (length old.slots) 6
  pub kept : new ≡ old
