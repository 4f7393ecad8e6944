-- What a replay over an image comes to, which hands back its image only after its end.
use Rattle.std.specs.Prelude.{ℕ, List, Option, IfSome, Result, Ok, Err}
use Rattle.std.specs.Io.KnownBytes.{Appends}
use Rattle.sector_cache.specs.Disk.{Disk}
use Rattle.board.specs.declared.event.Event.{Event}
use Rattle.board.specs.declared.spec.SlotSpec.{SlotSpec}
use Rattle.trace.specs.Asked.{is_hosted}
use Rattle.trace.specs.Reading.{IsTraceOf}
use Rattle.replay.specs.Replay.{Replays, RunsOn}
use Rattle.replay.specs.Telling.{Told, told_text}
use Rattle.trace.specs.Text.{Content}
use Rattle.replay.specs.declared.fault.ReplayFault.{ReplayFault}

-- The replay is told by `Replays`, from the bytes of its text and those that its writer held before and holds
-- after. Where it failed some image was left, which is dropped.
abbrev pub ComesTo : {I : Type 0} → Type 0 → (I → Disk) → Option (List ℕ) → Option (List ℕ) → Option (List ℕ)
    → I → Result I ReplayFault → Type 0
ComesTo A disk input old new before (Ok after) = Replays A disk input old new before after (Ok tt)
ComesTo {I} A disk input old new before (Err fault) = (after : I)
    × Replays A disk input old new before after (Err fault)

-- A run over an image, which found it so and left it so, and of whose text this holds.
pub record RanOver {A : Type 0} (slots : List SlotSpec) (events : List (Event A)) (before after : Disk)
    (Output : List ℕ → Type 0) : Type 0 where
  pub told : List (Told A)
  pub ran : RunsOn slots before after events told
  pub output : Output (told_text (is_hosted slots) told)

-- A replay that came to its end: the trace that was read, and the run of its events on its board, whose
-- records' text went out.
pub record HasRun (A : Type 0) (input old new : Option (List ℕ)) (before after : Disk) : Type 0 where
  pub trace : Content A
  pub read : IfSome input (λ bytes. IsTraceOf bytes trace)
  pub ran : RanOver trace.slots trace.events before after (Appends old new)
