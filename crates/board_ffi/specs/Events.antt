-- What a call does to a board.
use Rattle.std.specs.Prelude.{◌≡◌, ◌≢◌, ◌⊎◌, ℕ, ◌==◌, ◌||◌, ◌<◌, ◌≤◌, ◌+◌, ◌++◌, ◌↔◌, Bool, false, List, [], Option, None, Some, IsTrue, IsErrOf, IsSome, IsSomeAnd, length, min, take, drop, Result}
use Rattle.std.specs.List.{slice_get}
use Rattle.std.specs.Global.{Global}
use Rattle.guest_memory.specs.Memory.{Inside, Memory}
use Rattle.guest_memory.specs.Pages.{bits_of}
use Rattle.board.specs.declared.event.EventKind.{EventKind}
use Rattle.block_device.specs.declared.operation.HostEvent.{HostEvent}
use Rattle.block_device.specs.declared.operation.HostEvent.TheVariants as host
use Rattle.c_values.specs.Loans.{HasBits}
use Rattle.c_values.specs.Operation.{verdict_of}
use Rattle.board.specs.declared.reply.Reply.{Reply}
use Rattle.board.specs.declared.reply.Reply.TheVariants as reply
use Rattle.board.specs.declared.saved.RestoreFault.{RestoreFault}
use Rattle.board.specs.declared.saved.RestoreRefusal.{RestoreRefusal}
use Rattle.board.specs.declared.saved.RestoreRefusal.TheVariants.{Fault}
use Rattle.board.specs.declared.slot_disk.SlotDisk.{SlotDisk}
use Rattle.board.specs.declared.slot_disk.SlotDisk.TheVariants.{Own, Further}
use Rattle.board.specs.HostedDisks.{saying}
use Rattle.board.specs.Lending.{bits_in}
use Rattle.board.specs.Saved.{IsAs, IsCauseOf, IsLike, IsSnapshotOf}
use Rattle.board.specs.Slot.{BoardSlot, is_at_work}
use Rattle.session.specs.Course.{IsTaken}
use Rattle.session.specs.declared.progress.Progress.{Progress}
use Rattle.session.specs.declared.refusal.Refusal.{Refusal}
use Rattle.session.specs.declared.response.Response.{Response}
use Rattle.session.specs.Operations.{AskedBy, HasAsked, HasFlight, HasNothing, in_flight_at}
use Rattle.session.specs.Pausing.{IsCall, IsWhole, WentOn, taken_at}
use Rattle.session.specs.Session.{IsIdle, SessionState, output_of}
use Rattle.session.specs.Pacing.{Handle, paused_at}
use Rattle.session.specs.Restoring.{restore_response}
use Rattle.board_ffi.specs.Codes.{StandsFor, image_code, is_response, restore_code, went_on_code}
use Rattle.board_ffi.specs.Disk.{flight_of, rest_code}

-- The board takes a call for this event of a slot, and its response is one that the number stands for:
-- where the call is done it is this reply, and a step of the board.
pub record Takes (slot : ℕ) (what : EventKind Global) (code : ℕ) (done : Reply Global)
    (old new : SessionState) : Type 0 where
  pub response : Response Global
  pub call : IsCall old (Handle (record { slot = slot; what = what })) response new
  pub whole : IsWhole old (record { slot = slot; what = what }) response new
  pub told : StandsFor code done response
  pub code_is : IsTrue (is_response code)

-- the numbers of a call whose service is done, or pauses: 20 tells that the disk is asked for something from now on
abbrev pub is_served : ℕ → Bool
is_served code = (code == 0) || (code == 18) || (code == 20)

-- The board takes a call for an event of a slot in which its disk may come to be asked for something: it is exactly where
-- this holds.
pub record MayAsk (slot : ℕ) (what : EventKind Global) (Asks : Type 0) (code : ℕ)
    (old new : SessionState) : Type 0 where
  pub response : Response Global
  pub call : IsCall old (Handle (record { slot = slot; what = what })) response new
  pub whole : IsWhole old (record { slot = slot; what = what }) response new
  pub told : StandsFor code reply.Done response
  pub code_is : IsTrue ((code == 20) || is_response code)
  pub asks : IsTrue (is_served code) → ((code ≡ 20) ↔ Asks)

-- operations began with a write of a window: of the slot's own disk, or of the further one whose window it is, where its
-- service doesn't pause
abbrev pub HasAskedBehind : ℕ → Option ℕ → ℕ → SessionState → SessionState → Type 0
HasAskedBehind slot None code old new = HasAsked slot Own old new
HasAskedBehind slot (Some n) code old new = HasAsked slot (Further n) old new × (code ≢ 18)

-- a guest's write, of the window of the further device of this number if it is one's: its disk is asked for something where
-- operations began with it
abbrev pub Writes : ℕ → Option ℕ → EventKind Global → ℕ → SessionState → SessionState → Type 0
Writes slot device what code old new = MayAsk slot what (HasAskedBehind slot device code old new) code old new

-- operations began with what the host says of a disk
abbrev pub HasAskedBy : HostEvent → ℕ → SlotDisk → SessionState → SessionState → Type 0
HasAskedBy said slot disk old new =
    AskedBy said (in_flight_at slot disk old.slots) (in_flight_at slot disk new.slots)

-- What is in flight of a slot's disk with this tag is completed. Where nothing is, nothing changes.
pub record Completes (slot tag : ℕ) (failed : Bool) (code : ℕ) (disk : SlotDisk) (old new : SessionState) : Type 0 where
  pub completed :
      IsSome (flight_of slot disk tag old.slots) →
      MayAsk slot (saying disk (host.Complete tag (verdict_of failed)))
      (HasAskedBy (host.Complete tag (verdict_of failed)) slot disk old new) code old new
  pub code_is : flight_of slot disk tag old.slots ≡ None → code ≡ rest_code slot disk old.slots
  pub kept : flight_of slot disk tag old.slots ≡ None → new ≡ old

-- The board takes a call for what the host says of a slot's disk: it is idle exactly where there is nothing to do.
pub record Says (slot : ℕ) (said : HostEvent) (code : ℕ) (disk : SlotDisk) (old new : SessionState) : Type 0 where
  pub taken : MayAsk slot (saying disk said) (HasAskedBy said slot disk old new) code old new
  pub idle : (code ≡ 21) ↔ (IsIdle slot old × HasNothing slot disk said old.slots)

-- The service of a slot goes on, and this is told of it.
pub record GoesOn (slot code : ℕ) (old new : SessionState) : Type 0 where
  pub result : Result Progress Refusal
  pub went : WentOn Global old slot result new
  pub code_is : code ≡ went_on_code result

-- the service pauses of what was handed in, of which so many bytes were taken
abbrev pub PausesBehind : ℕ → ℕ → SessionState → SessionState → Type 0
PausesBehind slot took old new = taken_at slot new ≡ Some took

-- The first bytes of what a slot's console put out are moved out, as many as find room, and the others stay.
pub record MovesOutput (slot : ℕ) (into_old into_new : List ℕ) (taken : ℕ)
    (old new : SessionState) : Type 0 where
  pub there : slot < length old.slots
  pub count : taken ≡ min (length (output_of slot old)) (length into_old)
  pub moved : into_new ≡ take taken (output_of slot old) ++ drop taken into_old
  pub left : IsTaken old slot (length into_old) (take taken (output_of slot old)) new

-- a region holds the address, and has so many bytes from there on
pub record HasRoom (m : Memory) (addr len : ℕ) : Type 0 where
  pub holds : Inside m addr 1
  pub inside : Inside m addr len
  pub longest : (n : ℕ) → Inside m addr n → n ≤ len

-- There is such a slot, of which nothing is paused. A region of its memory holds the address, and has so many
-- bytes from there on. Nothing changes.
pub record HasMemory (slot addr len : ℕ) (old new : SessionState) : Type 0 where
  pub idle : IsIdle slot old
  pub there : IsSomeAnd (slice_get old.slots slot) (λ found. HasRoom found.memory addr len)
  pub kept : new ≡ old

-- There is such a slot, of which nothing is paused. No region of its memory holds the address. Nothing
-- changes.
pub record HasNoRegion (slot addr code : ℕ) (old new : SessionState) : Type 0 where
  pub idle : IsIdle slot old
  pub there : IsSomeAnd (slice_get old.slots slot) (λ found. ¬ Inside found.memory addr 1)
  pub bad_range : code ≡ 4
  pub kept : new ≡ old

-- The bits of the pages of a slot's memory are kept in these bytes from now on: in none, or there is one for each page.
pub record KeepsPages (slot : ℕ) (bytes : List ℕ) (old new : SessionState) : Type 0 where
  pub enough : IsSomeAnd (slice_get old.slots slot) (λ found. (bytes ≡ []) ⊎ HasBits found.memory bytes)
  pub kept : new ≡ record old { slots = bits_in slot (slice_get old.slots slot) (bits_of bytes) old.slots }

-- There is such a slot, and some page of its memory has no bit in these bytes. Nothing changes.
pub record LacksBits (slot : ℕ) (bytes : List ℕ) (old new : SessionState) : Type 0 where
  pub some : bytes ≢ []
  pub few : IsSomeAnd (slice_get old.slots slot) (λ found. ¬ HasBits found.memory bytes)
  pub kept : new ≡ old

-- a service of the slot is paused, and nothing changes
pub record IsBusy (slot code : ℕ) (old new : SessionState) : Type 0 where
  pub paused : ¬ IsIdle slot old
  pub busy : code ≡ 19
  pub kept : new ≡ old

-- the image's length, where it has bytes, and nothing changes
pub record HasImage (code len : ℕ) (old new : SessionState) : Type 0 where
  pub code_is : code ≡ image_code old.image
  pub len_is : code ≡ 0 → len ≡ length old.image
  pub kept : new ≡ old

-- as many bytes of the image as there were places, from byte start on; and nothing changes
pub record CopiesImage (start len : ℕ) (into : List ℕ) (old new : SessionState) : Type 0 where
  pub inside : start + len ≤ length old.image
  pub copied : into ≡ take len (drop start old.image)
  pub kept : new ≡ old

-- the image has no bytes, or not all of the range lies in it, and nothing changes
pub record IsOutside (start len code : ℕ) (old new : SessionState) : Type 0 where
  pub code_is : (code ≡ 4) ⊎ (code ≡ 22)
  pub outside : code ≡ 4 → length old.image < start + len
  pub no_image : (code ≡ 22) ↔ (old.image ≡ [])
  pub kept : new ≡ old

-- a service of the slot is paused, or something of one of its disks is in flight
abbrev pub IsAtWork : ℕ → SessionState → Type 0
IsAtWork slot session = (¬ IsIdle slot session) ⊎ HasFlight slot session.slots

-- The board takes a call for the restore of a slot, and the number says what came of it. What was saved of a
-- slot is taken by every slot of its description at rest, and brings it to its state.
pub record Restores (slot : ℕ) (bytes : List ℕ) (code : ℕ) (old new : SessionState) : Type 0 where
  pub result : Result (Unit {0}) RestoreRefusal
  pub code_is : code ≡ restore_code result
  pub call : IsCall {A = Global} old (Handle (record { slot = slot; what = EventKind.Restore bytes }))
      (restore_response (paused_at old.paused slot) result) new
  pub whole : IsWhole {A = Global} old (record { slot = slot; what = EventKind.Restore bytes })
      (restore_response (paused_at old.paused slot) result) new
  pub fault :
      (why : RestoreFault) → IsErrOf result (Fault why) →
      IsSomeAnd (slice_get old.slots slot) (λ found. IsCauseOf found bytes why)
  pub taken :
      (saved before after : BoardSlot) → IsSnapshotOf bytes saved → slice_get old.slots slot ≡ Some before →
      slice_get new.slots slot ≡ Some after → IsLike saved before → IsIdle slot old →
      is_at_work before ≡ false →
      (code ≡ 0) × IsAs saved before after
  pub missing : (code ≡ 3) ↔ (length old.slots ≤ slot)
  pub busy : (code ≡ 19) ↔ IsAtWork slot old
