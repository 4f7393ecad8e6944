-- What a call does to the guest behind its handle, whatever stood in that guest's memory (`stood`) and whatever it writes meanwhile.
use Rattle.std.specs.Prelude.{◌≡◌, ℕ, ◌-◌, nat_lt, ◌++◌, ◌==◌, ◌↔◌, if◌then◌else◌, false, List, Option, Some, None, MatchOption, Result, IfOk, IsSomeAnd, IsTrue, OnErr, drop, length, min, take}
use Rattle.block_device.specs.declared.operation.HostEvent.{HostEvent}
use Rattle.console_device.specs.Input.{fitting}
use Rattle.racing_hosted_disk.specs.Told.{has_effect}
use Rattle.racing_guest.specs.declared.reply.GuestWindow.{GuestWindow}
use Rattle.racing_guest.specs.declared.reply.GuestWindow.TheVariants.{Block, Console}
use Rattle.racing_guest.specs.Console.{with_size}
use Rattle.racing_guest.specs.Guest.{register, write_waits}
use Rattle.racing_session.specs.declared.progress.Progress.{Progress}
use Rattle.racing_session.specs.declared.progress.Refusal.{Refusal}
use Rattle.racing_session.specs.declared.told.Waits.{Waits}
use Rattle.racing_session.specs.Session.{GoesOn, IsSaid, IsTyped, IsWritten, RacingSession, waits_of}
use Rattle.c_values.specs.declared.pending.Pending.{Pending}
use Rattle.racing_ffi.specs.Codes.{answer_code, progress_code}
use Rattle.racing_ffi.specs.Handle.{Held}
pub use Rattle.racing_ffi.specs.Disk.{HasInFlight, IsAskedFor, IsAtRest}

-- A call on a handle: where it holds no guest it answers 1 and goes on holding none; a guest does this, and is still there.
abbrev pub Calls : Held → Held → ℕ → (RacingSession → RacingSession → Type 0) → Type 0
Calls before after code step =
    MatchOption before ((code ≡ 1) × (after ≡ None)) (λ old. IsSomeAnd after (step old))

-- the windows have numbers: 0 is the disk's and 1 the console's
abbrev pub window_of : ℕ → Option GuestWindow
window_of number = if number == 0 then Some Block else (if number == 1 then Some Console else None)

-- a call for one of them: of another number it answers 6, and changes nothing
abbrev pub AtWindow : ℕ → ℕ → (GuestWindow → RacingSession → RacingSession → Type 0) → RacingSession → RacingSession → Type 0
AtWindow number code step old new =
    MatchOption (window_of number) ((code ≡ 6) × (new ≡ old)) (λ window. step window old new)

-- and those from 2 on are the further devices', in their order
abbrev pub device_at : ℕ → Option ℕ
device_at number = if nat_lt number 2 then None else Some (number - 2)

-- a call for one of these: of another number it answers 6, and changes nothing
abbrev pub AtDevice : ℕ → ℕ → (ℕ → RacingSession → RacingSession → Type 0) → RacingSession → RacingSession → Type 0
AtDevice number code step old new = MatchOption (device_at number) ((code ≡ 6) × (new ≡ old)) (λ n. step n old new)

-- a call for any window: the disk's or the console's, or else a further device's
abbrev pub AtAnyWindow : ℕ → (GuestWindow → RacingSession → RacingSession → Type 0)
    → (ℕ → RacingSession → RacingSession → Type 0) → RacingSession → RacingSession → Type 0
AtAnyWindow number step device old new =
    MatchOption (window_of number) (device (number - 2) old new) (λ window. step window old new)

-- ---- what waits

abbrev pub pending_by : Waits → Pending
pending_by waits = record { block = waits.block_irq; console = waits.console_irq; output = waits.output }

-- it is told of the guest as the call leaves it, and of none nothing is
abbrev pub Tells : Held → Pending → Pending → Type 0
Tells guest before after = MatchOption guest (after ≡ before) (λ session. after ≡ pending_by (waits_of session))

-- ---- registers

-- what a register gets, and nothing changes
pub record Reads (offset width value code : ℕ) (window : GuestWindow) (old new : RacingSession) : Type 0 where
  pub done : code ≡ 0
  pub value_is : value ≡ register window offset width old.guest
  pub kept : new ≡ old

-- The session takes the write, and the number is that of its answer. It is busy exactly where the write waits for what is in
-- flight.
pub record Writes (stood : List ℕ) (offset width value code : ℕ) (window : GuestWindow) (old new : RacingSession) : Type 0 where
  pub answer : Result Progress Refusal
  pub writes : IsWritten stood window offset width value old new answer
  pub code_is : code ≡ answer_code answer
  pub busy : (code ≡ 19) ↔ IsTrue (write_waits window offset old.guest)

-- what is due is served
pub record Serves (stood : List ℕ) (code : ℕ) (old new : RacingSession) : Type 0 where
  pub answer : Result Progress Refusal
  pub serves : GoesOn stood old new answer
  pub code_is : code ≡ answer_code answer

-- both interrupt words, and nothing changes
pub record HasWords (block console code : ℕ) (old new : RacingSession) : Type 0 where
  pub done : code ≡ 0
  pub block_is : block ≡ (waits_of old).block_irq
  pub console_is : console ≡ (waits_of old).console_irq
  pub kept : new ≡ old

-- ---- the console

-- Bytes are typed, and so many were taken.
pub record Types (stood bytes : List ℕ) (took code : ℕ) (old new : RacingSession) : Type 0 where
  pub progress : Progress
  pub typed : IsTyped stood bytes old new progress
  pub took_is : took ≡ fitting old.guest.console.device.pending bytes
  pub code_is : code ≡ progress_code progress

-- the console has another size
pub record Resizes (cols rows code : ℕ) (old new : RacingSession) : Type 0 where
  pub done : code ≡ 0
  pub resized : new ≡ record old { guest = record old.guest { console = with_size cols rows old.guest.console } }

-- the first bytes of the output are moved out, as many as find room, and the others stay
pub record MovesOutput (into_old into_new : List ℕ) (taken code : ℕ) (old new : RacingSession) : Type 0 where
  pub done : code ≡ 0
  pub count : taken ≡ min (length old.output.bytes) (length into_old)
  pub moved : into_new ≡ take taken old.output.bytes ++ drop taken into_old
  pub left : new ≡ record old { output = record old.output { bytes = drop taken old.output.bytes } }

-- ---- the disk

-- The session is told what the host says of its disk, and the number is that of its answer. Where there is nothing to do it is 21,
-- and nothing changes.
pub record Says (stood : List ℕ) (said : HostEvent) (code : ℕ) (old new : RacingSession) : Type 0 where
  pub answer : Result Progress Refusal
  pub said_is : IfOk answer (IsSaid stood said old new)
  pub kept : OnErr answer (new ≡ old)
  pub code_is : code ≡ answer_code answer
  pub idle : (code ≡ 21) ↔ (has_effect said old.guest.block.disk ≡ false)
