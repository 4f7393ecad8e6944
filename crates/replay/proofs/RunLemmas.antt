-- What comes of a run on a new board.
use Rattle.std.proofs.Common.{◌≡◌, List, [], ◌∷◌, map, ap, subst, ◌∙◌}
use Rattle.sector_cache.specs.Disk.{Disk}
use Rattle.board.specs.declared.event.Event.{Event}
use Rattle.board.specs.declared.reply.Record.{Record}
use Rattle.board.specs.declared.spec.SlotSpec.{SlotSpec}
use Rattle.board.specs.Image.{Tells, bytes_of}
use Rattle.board.specs.Line.{HadMemory, IsRun}
use Rattle.board.specs.Slot.{BoardSlot, opened}
use Rattle.board.specs.World.{BoardState, extents_of, seen, world_of}
use Rattle.board.proofs.Runs.{line_outside}
use Rattle.replay.specs.OneSlot.{IsMachine}
use Rattle.replay.specs.Replay.{RunsOn}
use Rattle.replay.specs.Telling.{LineTelling, Told, records_in}
use Rattle.replay.proofs.OneSlotLemmas.{one_slot}
use Rattle.replay.proofs.Untouched.{untouched}

one_of : {A : Type 0} (slots : List SlotSpec) (old new : Disk) (last : List BoardSlot)
    (events : List (Event A)) (records : List (Record A))
    → IsRun (seen (map opened slots) old) (seen last new) events [] records
    → extents_of last ≡ extents_of (map opened slots) → (spec : SlotSpec) → slots ≡ spec ∷ []
    → new.failures ≡ old.failures → HadMemory 0 records
    → IsMachine spec (bytes_of old) (bytes_of new) events records
one_of slots old new last events records run extents spec one stood had =
    one_slot spec old new last events records
    (subst (λ (specs : List SlotSpec). IsRun (seen (map opened specs) old) (seen last new) events
    [] records) one run)
    (extents ∙ ap (λ (specs : List SlotSpec). extents_of (map opened specs)) one) stood had

runs : {A : Type 0} (slots : List SlotSpec) (old new : Disk) (last : List BoardSlot) (events : List (Event A))
    (told : List (Told A)) → IsRun (seen (map opened slots) old) (seen last new) events [] (records_in told)
    → LineTelling (seen (map opened slots) old) (seen last new) events told
    → extents_of last ≡ extents_of (map opened slots) → Tells new → RunsOn slots old new events told
runs slots old new last events told run telling extents tells = record {
  last = last;
  run = run;
  telling = telling;
  extents = extents;
  tells = tells;
  kept = untouched slots last (bytes_of old) (bytes_of new) extents
      (line_outside (seen (map opened slots) old) run.moves (seen last new) run.line);
  one = one_of slots old new last events (records_in told) run extents;
}

-- the run of a board that was new
pub runs_on : {A I : Type 0} (disk : I → Disk) (slots : List SlotSpec) (board after : BoardState I)
    (image : I) (events : List (Event A)) (told : List (Told A))
    → board.slots ≡ map opened slots → image ≡ after.image
    → extents_of after.slots ≡ extents_of board.slots → Tells (disk after.image)
    → IsRun (world_of disk board) (world_of disk after) events [] (records_in told)
    → LineTelling (world_of disk board) (world_of disk after) events told
    → RunsOn slots (disk board.image) (disk image) events told
runs_on disk slots board after image events told new kept extents tells run telling =
    rw kept
    (runs slots (disk board.image) (disk after.image) after.slots events told
    (subst (λ (bs : List BoardSlot). IsRun (seen bs (disk board.image)) (seen after.slots (disk after.image))
    events [] (records_in told)) new run)
    (subst (λ (bs : List BoardSlot). LineTelling (seen bs (disk board.image))
    (seen after.slots (disk after.image)) events told) new telling)
    (extents ∙ ap extents_of new) tells)
