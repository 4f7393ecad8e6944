-- What a replay comes to: the trace that it read, the run on that trace's board, and what it wrote.
use Rattle.std.specs.Prelude.{◌≡◌, ◌≢◌, ◌⊎◌, ℕ, ◌<◌, ⊤, true, All, List, [], ◌∷◌, length, map, take, Option, IfSome, Result, Ok, Err}
use Rattle.std.specs.Io.KnownBytes.{Appends, IsAtEnd, Keeps}
use Rattle.sector_cache.specs.Disk.{Disk}
use Rattle.board.specs.declared.event.Event.{Event}
use Rattle.board.specs.declared.fault.BoardFault.{BoardFault}
use Rattle.board.specs.declared.fault.BoardFault.TheVariants.{TooManySlots}
use Rattle.board.specs.declared.spec.SlotSpec.{SlotSpec}
use Rattle.board.specs.Fault.{IsAccepted, Refuses}
use Rattle.board.specs.Image.{Tells, bytes_of}
use Rattle.board.specs.Line.{HadMemory, IsRun}
use Rattle.board.specs.Slot.{BoardSlot, opened}
use Rattle.board.specs.World.{extents_of, seen}
use Rattle.trace.specs.declared.format.Format.{Format}
use Rattle.trace.specs.declared.format.Format.TheVariants.{Plain, Extended}
use Rattle.trace.specs.declared.format.Version.TheVariants.{One}
use Rattle.trace.specs.declared.fault.FaultKind.TheVariants as kind
use Rattle.trace.specs.declared.fault.TraceFault.{TraceFault}
use Rattle.replay.specs.declared.fault.ReplayFault.{ReplayFault}
use Rattle.replay.specs.declared.fault.ReplayFault.TheVariants.{Read, Trace, Board, Run, Write, NoMemory}
use Rattle.trace.specs.Asked.{is_host, is_hosted}
use Rattle.trace.specs.Sends.{AppendsFront}
use Rattle.replay.specs.Limits.{IsSmallMemory, asked_of_board}
use Rattle.replay.specs.OneSlot.{IsMachine}
use Rattle.replay.specs.Telling.{LineTelling, Told, records_in, told_text}
use Rattle.trace.specs.Reading.{IsTraceFault, IsTraceOf}
use Rattle.trace.specs.Text.{Content}

-- A run over these events on a new board of these slots, which found the image so and left it so, and in which
-- this was told. Where the host has all disks, the image's bytes stay. A board of one slot that met no refusal did
-- what the one-slot machine does.
pub record RunsOn {A : Type 0} (slots : List SlotSpec) (old new : Disk) (events : List (Event A))
    (told : List (Told A)) : Type 0 where
  pub last : List BoardSlot
  pub run : IsRun (seen (map opened slots) old) (seen last new) events [] (records_in told)
  pub telling : LineTelling (seen (map opened slots) old) (seen last new) events told
  pub extents : extents_of last ≡ extents_of (map opened slots)
  pub tells : Tells new
  pub kept : All (λ spec. is_host spec.backing ≡ true) slots → bytes_of new ≡ bytes_of old
  pub one : (spec : SlotSpec) → slots ≡ spec ∷ [] → new.failures ≡ old.failures
      → HadMemory 0 (records_in told)
      → IsMachine spec (bytes_of old) (bytes_of new) events (records_in told)

-- What was told in such a run, of whose text this holds.
pub record Recorded {A I : Type 0} (disk : I → Disk) (slots : List SlotSpec) (events : List (Event A))
    (before after : I) (Output : List ℕ → Type 0) : Type 0 where
  pub told : List (Told A)
  pub ran : Tells (disk before) → RunsOn slots (disk before) (disk after) events told
  pub output : Output (told_text (is_hosted slots) told)

-- the same over the first of the events, which may be none or all of them
pub record RecordedFront {A I : Type 0} (disk : I → Disk) (slots : List SlotSpec) (events : List (Event A))
    (before after : I) (Output : List ℕ → Type 0) : Type 0 where
  pub done : ℕ
  pub recorded : Recorded disk slots (take done events) before after Output

-- the run stopped before one of the events
pub record StopsAt {A I : Type 0} (disk : I → Disk) (slots : List SlotSpec) (events : List (Event A))
    (before after : I) (done : ℕ) (Output : List ℕ → Type 0) : Type 0 where
  pub some_left : done < length events
  pub recorded : Recorded disk slots (take done events) before after Output

-- What comes of the events, where there is a board for them: the text of the records is written, or
-- nothing where there is no memory for it, or at most its front where the writer fails.
abbrev pub AfterRun : {A I : Type 0} → (I → Disk) → List SlotSpec → List (Event A) → I → I
    → Option (List ℕ) → Option (List ℕ) → Result (Unit {0}) ReplayFault → Type 0
AfterRun disk slots events before after old new (Ok _) =
    Recorded disk slots events before after (Appends old new)
AfterRun disk slots events before after old new (Err (Run done)) =
    StopsAt disk slots events before after done (Appends old new)
AfterRun disk slots events before after old new (Err Write) =
    RecordedFront disk slots events before after (AppendsFront old new)
AfterRun disk slots events before after old new (Err NoMemory) =
    RecordedFront disk slots events before after (λ _. Keeps old new)
AfterRun disk slots events before after old new (Err _) = ⊥

-- what a trace has before its events
abbrev pub front : (A : Type 0) → Format → ℕ → List SlotSpec → Content A
front A format cache slots = record { format = format; cache = cache; slots = slots; events = [] }

-- a trace of version 1 has at most sixteen slots, whatever a board may have
pub record HasTooMany {A : Type 0} (trace : Content A) : Type 0 where
  pub version : trace.format ≡ Plain One
  pub many : 16 < length trace.slots

-- a trace that another format takes as its own does: it hasn't too many slots, and where the extended format
-- admits larger memories, none is too large for its own
pub record IsAdmittedUntil {A : Type 0} (format : Format) (trace : Content A) : Type 0 where
  pub few : ¬ HasTooMany trace
  pub small : trace.format ≢ Extended → format ≡ Extended → All (IsSmallMemory trace.format) trace.slots

-- Why there is no board for a trace: it has too many slots for its version, before any of them is looked at;
-- else it is the fault of the board that is asked for.
abbrev pub RefusesBoardOf : {A : Type 0} → ℕ → Content A → BoardFault → Type 0
RefusesBoardOf sectors trace fault =
    (HasTooMany trace × (fault ≡ TooManySlots))
    ⊎ ((¬ HasTooMany trace)
    × Refuses sectors (map (asked_of_board trace.format) trace.slots) trace.cache fault)

-- the trace was read, there is a board for it, and this came of its events
pub record Plays {I : Type 0} (A : Type 0) (disk : I → Disk) (input old new : Option (List ℕ))
    (before after : I) (outcome : Result (Unit {0}) ReplayFault) : Type 0 where
  pub trace : Content A
  pub read : IfSome input (λ bytes. IsTraceOf bytes trace)
  pub few : ¬ HasTooMany trace
  pub small : All (IsSmallMemory trace.format) trace.slots
  pub accepted : IsAccepted (disk before).sector_count trace.slots trace.cache
  pub ended : AfterRun disk trace.slots trace.events before after old new outcome

-- nothing was written, and the image is as it was
pub record IsUntouched {I : Type 0} (old new : Option (List ℕ)) (before after : I) : Type 0 where
  pub output : Keeps old new
  pub image : after ≡ before

-- the input was refused
pub record RefusesTrace {I : Type 0} (A : Type 0) (input old new : Option (List ℕ)) (before after : I)
    (fault : TraceFault) : Type 0 where
  pub untouched : IsUntouched old new before after
  pub fault_is : IfSome input (λ bytes. IsTraceFault A bytes fault)

-- the trace was read, and its board was refused
pub record RefusesBoard {I : Type 0} (A : Type 0) (disk : I → Disk) (input old new : Option (List ℕ))
    (before after : I) (fault : BoardFault) : Type 0 where
  pub untouched : IsUntouched old new before after
  pub trace : Content A
  pub read : IfSome input (λ bytes. IsTraceOf bytes trace)
  pub refused : RefusesBoardOf (disk before).sector_count trace fault

-- What a replay comes to, from the bytes that its reader told and those that its writer held before and
-- holds after, with the image as it was handed in and as it is handed back.
abbrev pub Replays : {I : Type 0} → Type 0 → (I → Disk) → Option (List ℕ) → Option (List ℕ) → Option (List ℕ)
    → I → I → Result (Unit {0}) ReplayFault → Type 0
Replays A disk input old new before after (Ok done) = Plays A disk input old new before after (Ok done)
Replays A disk input old new before after (Err Read) = IsUntouched old new before after
Replays A disk input old new before after (Err (Trace fault)) =
    RefusesTrace A input old new before after fault
Replays A disk input old new before after (Err (Board fault)) =
    RefusesBoard A disk input old new before after fault
Replays A disk input old new before after (Err fault) = Plays A disk input old new before after (Err fault)

-- what is left of the input: nothing, but where the reader failed or there was no memory to gather it
abbrev pub EndsReading : {T : Type 0} → Result T ReplayFault → Option (List ℕ) → Type 0
EndsReading (Ok _) left = IsAtEnd left
EndsReading (Err Read) left = ⊤
EndsReading (Err (Trace fault)) left = fault.kind ≢ kind.NoMemory → IsAtEnd left
EndsReading (Err _) left = IsAtEnd left
