-- What a call for a further device does to a guest that runs on, and what it tells.
use Rattle.std.specs.Prelude.{◌≡◌, ◌≢◌, ◌⊎◌, ◌<◌, ◌++◌, ℕ, ◌==◌, Bool, true, false, List, [], Option, Some, None, Result, Ok, Err, IfErr, IfNone, IfOk, IfSome, OnErr, OnOk, drop, if◌then◌else◌, is_some, length, replicate, unwrap_or}
use Rattle.std.specs.List.{slice_get}
use Rattle.std.specs.Option.{option_and_then, option_map, option_map_or}
use Rattle.network_device.specs.declared.refusal.FrameRefusal.TheVariants.{Full}
use Rattle.device_list.specs.declared.refusal.ReceiveRefusal.{ReceiveRefusal}
use Rattle.device_list.specs.declared.refusal.ReceiveRefusal.TheVariants.{Frame}
use Rattle.device_list.specs.declared.refusal.WriteRefusal.{WriteRefusal}
use Rattle.device_list.specs.declared.refusal.WriteRefusal.TheVariants as write
use Rattle.device_list.specs.Card.{receive_refusal}
use Rattle.device_list.specs.Device.{linked, received, register_of, resized, supplied, supply_taken, with_model}
use Rattle.device_list.specs.List.{IsWriteRefusal, card_at, changed_at, outgoing_at, sent_by, terminal_at}
use Rattle.racing_session.specs.declared.progress.Progress.{Progress}
use Rattle.racing_session.specs.declared.told.DeviceWaits.{DeviceWaits}
use Rattle.racing_session.specs.declared.told.Handed.{Handed}
use Rattle.racing_session.specs.Devices.{DropsSent, IsWrittenTo, ServesBehind, device_waits_at, with_devices}
use Rattle.racing_session.specs.Session.{RacingSession}
use Rattle.c_values.specs.declared.pending.DevicePending.{DevicePending}
use Rattle.racing_ffi.specs.Codes.{progress_code}

-- ---- registers

-- what a register of device n gets, or 6 where there is none; and nothing changes
pub record ReadsDevice (offset width value code n : ℕ) (old new : RacingSession) : Type 0 where
  pub told : option_map (register_of offset width) (slice_get old.further.devices n) ≡ (if code == 0 then Some value else None)
  pub code_is : (code ≡ 0) ⊎ (code ≡ 6)
  pub kept : new ≡ old

abbrev pub write_code : Result Progress WriteRefusal → ℕ
write_code (Ok progress) = progress_code progress
write_code (Err write.NoDevice) = 6
write_code (Err write.Busy) = 19

-- the session takes the write, and the number is that of its answer
pub record WritesDevice (stood : List ℕ) (offset width value code n : ℕ) (old new : RacingSession) : Type 0 where
  pub answer : Result Progress WriteRefusal
  pub writes : IfOk answer (IsWrittenTo stood n offset width value old new)
  pub refused : IfErr answer (IsWriteRefusal offset (slice_get old.further.devices n))
  pub kept : OnErr answer (new ≡ old)
  pub code_is : code ≡ write_code answer

-- ---- what the host hands in

-- a service that is done or left due, or 6 where nothing is taken
abbrev pub handed_code : Option Handed → ℕ
handed_code None = 6
handed_code (Some handed) = progress_code handed.progress

-- So many of these bytes were taken by device n, the first ones. The number is 6 where it takes none; then nothing changes.
pub record Supplies (stood bytes : List ℕ) (taken code n : ℕ) (old new : RacingSession) : Type 0 where
  pub handed : Option Handed
  pub takes : option_map (λ h. h.taken) handed ≡ option_and_then (supply_taken bytes) (slice_get old.further.devices n)
  pub supplied_is : IfSome handed (λ h. ServesBehind stood n (changed_at (with_model (supplied bytes)) n old.further.devices) (Some 0)
      old new h.progress)
  pub taken_is : IfSome handed (λ h. taken ≡ h.taken)
  pub kept : IfNone handed (new ≡ old)
  pub code_is : code ≡ handed_code handed

-- a frame that finds no room is no error
abbrev pub receive_code : Result Progress ReceiveRefusal → ℕ
receive_code (Ok progress) = progress_code progress
receive_code (Err (Frame Full)) = 0
receive_code (Err why) = 6

abbrev pub is_received : Result Progress ReceiveRefusal → Bool
is_received (Ok progress) = true
is_received (Err why) = false

-- The card of number n took the frame, or refused it; then nothing changes.
pub record Receives (stood frame : List ℕ) (taken : Bool) (code n : ℕ) (old new : RacingSession) : Type 0 where
  pub answer : Result Progress ReceiveRefusal
  pub received_is : IfOk answer (ServesBehind stood n (changed_at (with_model (received frame)) n old.further.devices) (Some 0) old new)
  pub fits : OnOk answer (receive_refusal frame (card_at n old.further.devices) ≡ None)
  pub refused : IfErr answer (λ why. receive_refusal frame (card_at n old.further.devices) ≡ Some why)
  pub kept : OnErr answer (new ≡ old)
  pub code_is : code ≡ receive_code answer
  pub taken_is : code ≢ 6 → taken ≡ is_received answer

-- ---- what the host takes

-- what the driver of device n sent and the host takes now: no bytes where nothing waits
abbrev pub frame_at : ℕ → RacingSession → List ℕ
frame_at n session = unwrap_or (sent_by n session.further.devices) []

-- so many bytes stand at the front of the room
pub record IsCopied (frame room into : List ℕ) (len : ℕ) : Type 0 where
  pub len_is : len ≡ length frame
  pub copied : into ≡ frame ++ drop len room

-- so many bytes are more than the room, which stays
pub record IsLonger (frame room into : List ℕ) (len : ℕ) : Type 0 where
  pub len_is : len ≡ length frame
  pub longer : length room < len
  pub kept : into ≡ room

-- What was sent is dropped, if anything waits; else nothing changes.
pub record DropsFrame (stood : List ℕ) (code n : ℕ) (old new : RacingSession) : Type 0 where
  pub handed : Option Handed
  pub waits : option_map (λ h. h.taken) handed ≡ option_map (λ sent. length sent) (sent_by n old.further.devices)
  pub dropped : IfSome handed (λ h. DropsSent stood n old new h.progress)
  pub kept : IfNone handed (new ≡ old)
  pub code_is : code ≡ option_map_or (λ h. progress_code h.progress) handed 0

-- What was sent stands at the front of the room, and is dropped. The number is 6 where the driver of device n sends nothing.
pub record TakesFrame (stood room into : List ℕ) (len code n : ℕ) (old new : RacingSession) : Type 0 where
  pub sends : (code ≡ 6) ⊎ (is_some (outgoing_at n old.further.devices) ≡ true)
  pub none : code ≡ 6 → (is_some (outgoing_at n old.further.devices) ≡ false) × (new ≡ old)
  pub moved : code ≢ 6 → IsCopied (frame_at n old) room into len
  pub drops : code ≢ 6 → DropsFrame stood code n old new

-- What was sent is longer than the room, and this is its length. Nothing changes.
pub record IsTooShort (room len n : ℕ) (old new : RacingSession) : Type 0 where
  pub len_is : len ≡ length (frame_at n old)
  pub longer : room < len
  pub kept : new ≡ old

-- ---- links, sizes, and what waits

-- the card's link is so from now on; the number is 6 where device n is none, and nothing changes then
pub record Links (up : Bool) (code n : ℕ) (old new : RacingSession) : Type 0 where
  pub code_is : code ≡ (if is_some (card_at n old.further.devices) then 0 else 6)
  pub linked_is : code ≡ 0 → new ≡ with_devices (changed_at (linked up) n old.further.devices) old
  pub kept : code ≢ 0 → new ≡ old

-- the console has this size; the number is 6 where device n is none, and nothing changes then
pub record ResizesDevice (cols rows code n : ℕ) (old new : RacingSession) : Type 0 where
  pub code_is : code ≡ (if is_some (terminal_at n old.further.devices) then 0 else 6)
  pub resized_is : code ≡ 0 → new ≡ with_devices (changed_at (resized cols rows) n old.further.devices) old
  pub kept : code ≢ 0 → new ≡ old

-- What waits for a device, as C has it. Whether it is starved isn't told, and nothing is in flight of it.
abbrev pub pending_of_device : DeviceWaits → DevicePending
pending_of_device waits = record {
  interrupt = waits.irq;
  starved = false;
  padding = replicate 3 0;
  frame = unwrap_or waits.sent 0;
  tags = 0;
}

-- what waits for device n, or 6 where there is none; and nothing changes
pub record TellsDevice (pending : DevicePending) (code n : ℕ) (old new : RacingSession) : Type 0 where
  pub told : option_map pending_of_device (device_waits_at n old) ≡ (if code == 0 then Some pending else None)
  pub code_is : (code ≡ 0) ⊎ (code ≡ 6)
  pub kept : new ≡ old
