-- While no call of the image fails a clean image stays clean; so a stop leaves what the guests see.
use Rattle.std.proofs.Common.{◌≡◌, inl, inr, ℕ, Option, Some, None, List, [], ◌∷◌, length, refl, sym, ap, ◌∙◌, arith}
use Rattle.std.specs.Prelude.{IfSome, IsSome, MatchOption, false, unwrap_or}
use Rattle.std.specs.List.{slice_get}
use Rattle.guest_memory.specs.Memory.{Memory}
use Rattle.chain.specs.Bytes.{readable_of, writable_of}
use Rattle.chain.specs.Service.{after}
use Rattle.sector_cache.specs.Disk.{Disk, LeavesContents}
use Rattle.mmio_window.specs.declared.queue.Queue.{Queue}
use Rattle.mmio_window.specs.Serving.{IsNotified}
use Rattle.mmio_window.specs.Window.{WindowState, queue_at}
use Rattle.block_device.specs.declared.device.BlockDevice.{BlockDevice}
use Rattle.block_device.specs.Device.{exact_device}
use Rattle.block_device.proofs.Durable.{exact_clean}
use Rattle.board.specs.declared.event.Event.{Event}
use Rattle.board.specs.declared.event.EventKind.{EventKind}
use Rattle.board.specs.declared.event.EventKind.TheVariants as event
use Rattle.board.specs.declared.reply.Record.{Record}
use Rattle.board.specs.declared.pause.Service.TheVariants.{Block, Receive, Transmit, Further}
use Rattle.board.specs.Durable.{IsLeftAsSeen}
use Rattle.board.specs.Image.{Health, Tells, bytes_of, disk_with}
use Rattle.board.specs.ImageDisks.{bytes_in, image_asked, image_device}
use Rattle.board.specs.Line.{IsLine, Move}
use Rattle.board.specs.Machine.{GivesOverImage, task_at, with_write}
use Rattle.board.specs.Outcome.{Outcome}
use Rattle.board.specs.Slot.{BoardSlot, SlotState}
use Rattle.board.specs.Task.{Finishes, Nothing, PutOut, Serve, Task, device_of}
use Rattle.board.proofs.AtDevice.{by_image}
use Rattle.board.proofs.FurtherDevices.{device_image}
use Rattle.board.proofs.OnHost.{failing_over_image}
use Rattle.board.specs.World.{MayGive, MayGiveOverImage, MissingStep, SlotStep, World, seen}
use Rattle.board.proofs.Chains.{kept}
use Rattle.board.proofs.Refusals.{Failed, FailedImage, Unput, Unread, Unsent, was_refused}
use Rattle.board.proofs.Runs.{line_failures, step_failures}

-- ---- a service of the disk in which no call fails

notified_clean : (device : BlockDevice) (queue : Option Queue) (old new : Memory) (before after : WindowState)
    (s t : Disk) → s.dirty ≡ false
    → IsNotified (exact_device device) 0 queue old new before after s t → t.dirty ≡ false
notified_clean device queue old new before after s t clean h =
    kept (exact_device device) (λ (m : Memory) (d : Disk). d.dirty ≡ false)
    (record {
      chain = λ start served serves stays.
          exact_clean device start.state (readable_of start.memory served.buffers)
          (length (writable_of served.buffers)) served.given stays serves.gives;
      closed = λ memory ring d stays. stays;
    })
    0 queue h.ending old new before after s t h.notified clean

-- ---- an event

same_dirty : (old new : Health) → new ≡ old → old.dirty ≡ false → new.dirty ≡ false
same_dirty old new same clean = ap (λ (h : Health). h.dirty) same ∙ clean

finished_clean : {A : Type 0} (task : Task) (state : SlotState) (old new : Health) (outcome : Outcome A)
    → old.dirty ≡ false → Finishes task state old new outcome → new.dirty ≡ false
finished_clean Nothing state old new outcome clean h = same_dirty old new h.image clean
finished_clean (Serve Block) state old new outcome clean h =
    notified_clean (device_of state) (queue_at 0 state.block) state.memory outcome.state.memory state.block
    outcome.state.block
    (disk_with state.extent old) (disk_with outcome.state.extent new) clean h.notified
finished_clean (Serve Receive) state old new outcome clean h = same_dirty old new h.image clean
finished_clean (Serve Transmit) state old new outcome clean h = same_dirty old new h.image clean
finished_clean (Serve (Further n q)) state old new outcome clean h = absurd h
finished_clean (PutOut byte) state old new outcome clean h = same_dirty old new h.image clean

served_clean : {A : Type 0} (state : SlotState) (what : EventKind A) (old new : Health) (outcome : Outcome A)
    → old.dirty ≡ false → GivesOverImage state what old new outcome → new.dirty ≡ false
served_clean state (event.Read window offset width) old new outcome clean h = same_dirty old new h.image clean
served_clean state (event.Write window offset width value) old new outcome clean h =
    finished_clean (task_at window offset width value state) (with_write window offset width value state) old
    new outcome clean h
served_clean state (event.MemRead addr len) old new outcome clean h = same_dirty old new h.image clean
served_clean state (event.MemWrite addr bytes) old new outcome clean h = same_dirty old new h.image clean
served_clean state (event.Input bytes) old new outcome clean h = same_dirty old new h.image clean
served_clean state (event.Resize cols rows) old new outcome clean h = same_dirty old new h.image clean
served_clean state (event.Restore bytes) old new outcome clean h = same_dirty old new h.image clean
served_clean state (event.Host said) old new outcome clean h = same_dirty old new h.image clean
served_clean state (event.Device n what) old new outcome clean h =
    by_image n what state old new outcome (image_asked n what state)
    (λ none given. same_dirty old new (device_image n what state old new outcome given) clean)
    (λ disk asked served. let s = served.serves in
    notified_clean (image_device disk) (queue_at 0 s.device.window) state.memory outcome.state.memory s.device.window
    s.window (disk_with (bytes_in disk state.spare_bytes) old) (disk_with (bytes_in disk outcome.state.spare_bytes) new)
    clean s.serves) h

clean_over_image : {A : Type 0} (state : SlotState) (what : EventKind A) (old new : Health)
    (outcome : Outcome A) → new.failures ≡ old.failures → old.dirty ≡ false
    → MayGiveOverImage state what old new outcome → new.dirty ≡ false
clean_over_image state what old new outcome same clean (inl h) =
    served_clean state what old new outcome clean h.alike
clean_over_image state what old new outcome same clean (inr h) =
    elim (was_refused state what old new outcome h) [
      | Failed block h ↦ absurd (omega (arith, h.failures, same))
      | FailedImage n disk asked is by h ↦ absurd (omega (arith, h.failures, same))
      | Unsent console puts h ↦ same_dirty old new h.image clean
      | Unput console puts h ↦ same_dirty old new h.image clean
      | Unread is h ↦ same_dirty old new h.image clean
    ]

given_clean : {A : Type 0} (state : SlotState) (what : EventKind A) (old new : Health) (outcome : Outcome A)
    → new.failures ≡ old.failures → old.dirty ≡ false → MayGive state what old new outcome → new.dirty ≡ false
given_clean state what old new outcome same clean h =
    elim (failing_over_image state what old new outcome h) [
      | inl given ↦ clean_over_image state what old new outcome same clean given
      | inr stood ↦ same_dirty old new stood clean
    ]

-- ---- a line

step_at_clean : {A : Type 0} (old : World) (event : Event A) (written : Record A) (new : World)
    (o : Option SlotState) → new.health.failures ≡ old.health.failures → old.health.dirty ≡ false
    → MatchOption o (MissingStep old event.slot written new)
    (λ s. SlotStep old event.slot s event.what written new) → new.health.dirty ≡ false
step_at_clean old event written new None same clean step =
    ap (λ (w : World). w.health.dirty) step.same ∙ clean
step_at_clean old event written new (Some state) same clean step =
    given_clean state event.what old.health new.health step.outcome same clean step.given

pub line_clean : {A : Type 0} (old new : World) (moves : List (Move A)) → IsLine old moves new
    → new.health.failures ≡ old.health.failures → old.health.dirty ≡ false → new.health.dirty ≡ false
line_clean old new [] is same clean = ap (λ (w : World). w.health.dirty) is ∙ clean
line_clean old new (move ∷ moves) line same clean =
    let here = step_failures old move.event move.written move.after line.0 in
    let rest = line_failures move.after moves new line.1 in
    let first : move.after.health.failures ≡ old.health.failures = omega (arith, here, rest, same) in
    line_clean move.after new moves line.1 (same ∙ sym first)
    (step_at_clean old move.event move.written move.after (slice_get old.slots move.event.slot)
    first clean line.0)

-- ---- a stop

pub contents_left : (contents : Option (List ℕ)) (left : List ℕ) → IsSome contents
    → IfSome contents (λ bytes. left ≡ bytes) → left ≡ unwrap_or contents []
contents_left None left tells same = absurd (cc)
contents_left (Some bytes) left tells same = same

pub left_as_seen : (slots : List BoardSlot) (disk : Disk) (left : List ℕ) → Tells disk → disk.dirty ≡ false
    → LeavesContents disk left → IsLeftAsSeen slots (seen slots disk) left
left_as_seen slots disk left tells clean leaves =
    let same : left ≡ bytes_of disk = contents_left disk.contents left tells (leaves clean) in
    rw same (record { disks = refl; outside = refl })
