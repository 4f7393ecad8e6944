-- A call of the block device of a guest that stands still begins with one event of its slot.
use Rattle.std.proofs.Common.{◌≡◌, ◌∙◌, ℕ, zero, suc, Bool, true, false, Option, Some, None, List, [], ◌∷◌, ◌++◌, refl, sym, ap}
use Rattle.std.specs.Prelude.{◌&&◌}
use Rattle.guest_memory.specs.Memory.{Memory}
use Rattle.chain.specs.declared.budget.Progress.TheVariants as progress
use Rattle.mmio_window.specs.declared.action.Action.{Action}
use Rattle.mmio_window.specs.declared.action.Action.TheVariants as action
use Rattle.mmio_window.specs.declared.queue.Queue.{Queue}
use Rattle.mmio_window.specs.Ready.{may_stop_queues}
use Rattle.mmio_window.specs.Soundness.{IsSound}
use Rattle.mmio_window.specs.Window.{WindowState, queue_at}
use Rattle.mmio_window.specs.Writing.{action_of, written}
use Rattle.shared_memory.specs.Sightings.{Sightings, memory}
use Rattle.block_device.specs.Tags.{is_any}
use Rattle.block_device.specs.Hosting.{wants_stable}
use Rattle.racing_service.specs.declared.stage.Stage.TheVariants.{First}
use Rattle.racing_hosted_disk.specs.declared.look.LookLimits.{LookLimits}
use Rattle.racing_guest.specs.Block as racing
use Rattle.racing_guest.specs.Block.{NotifiesBlock, NotifiesIf, RacingBlock, WritesBlock, is_notified}
use Rattle.racing_guest.specs.Guest.{IsSoundGuest, RacingGuest}
use Rattle.board.specs.declared.event.EventKind.TheVariants.{Write}
use Rattle.board.specs.declared.event.SlotWindow.TheVariants as window
use Rattle.board.specs.declared.reply.Reply.TheVariants.{Busy, Done}
use Rattle.board.specs.Hosting.{LooksAtQueue, is_block_task}
use Rattle.board.specs.Machine.{at_rest}
use Rattle.board.specs.Slot.{SlotState}
use Rattle.board.specs.Task.{Finishes, task_of}
use Rattle.board.specs.Units.{DiskUnit, unit_queue}
use Rattle.standing_guest.specs.Event.{BeginsWith, BlockStands, IsEvent, NotifiedStands}
use Rattle.standing_guest.specs.Slot.{disk_of, slot_of, tags_of}
use Rattle.standing_guest.proofs.Going.{Tags}
use Rattle.standing_guest.proofs.Looking.{looked, looks_unready}
use Rattle.standing_guest.proofs.Tags.{as_still, same_any}
use Rattle.standing_guest.proofs.Writing.{written_sound}

no_more : (out : List ℕ) → out ≡ out ++ []
no_more [] = refl
no_more (x ∷ out) = ap (λ (xs : List ℕ). x ∷ xs) (no_more out)

-- what a write leaves to be done
block_task : (what : Action) → is_block_task (task_of window.Block what) ≡ is_notified what
block_task (action.Notify zero) = refl
block_task (action.Notify (suc q)) = refl
block_task (action.ConfigWrite offset width value) = refl
block_task _ = refl

stands_by : (what : Action) (m : Memory) (behind : SlotState) → is_notified what ≡ true → NotifiedStands window.Block what m behind
    → BlockStands m behind
stands_by (action.Notify zero) m behind is stands = stands
stands_by (action.Notify (suc q)) m behind is stands = let no : false ≡ true = is in cc
stands_by (action.ConfigWrite offset width value) m behind is stands = let no : false ≡ true = is in cc
stands_by _ m behind is stands = let no : false ≡ true = is in cc

-- nothing, where it doesn't notify the device
nothing_left : (A : Type 0) (what : Action) (state : SlotState) → is_notified what ≡ false
    → Finishes {A = A} (task_of window.Block what) state at_rest at_rest (record { state = state; reply = Done; output = [] })
nothing_left A (action.Notify zero) state is = let no : true ≡ false = is in cc
nothing_left A (action.Notify (suc q)) state is = record { alike = refl; image = refl }
nothing_left A (action.ConfigWrite offset width value) state is = record { alike = refl; image = refl }
nothing_left A _ state is = record { alike = refl; image = refl }

module _ (A : Type 0) where
  -- ---- a write that waits

  pub write_waits_too : (m : Memory) (guest : RacingGuest) (offset : ℕ) (waits : Bool)
      → racing.must_wait offset guest.block ≡ waits
      → (is_any (tags_of guest.block.disk) && may_stop_queues offset) ≡ waits
  write_waits_too m guest offset waits is =
      ap (λ (b : Bool). b && may_stop_queues offset) (same_any guest.block.disk.tags) ∙ is

  pub block_busy : (m : Memory) (guest : RacingGuest) (offset width value : ℕ) → racing.must_wait offset guest.block ≡ true
      → IsEvent {A = A} (slot_of m guest) (Write window.Block offset width value) (slot_of m guest) Busy []
  block_busy m guest offset width value waits = record {
    after = at_rest;
    gives = record {
      gives = rw (write_waits_too m guest offset true waits) refl;
      image = refl;
    };
  }

  -- ---- a slot's look

  module _ (limits : LookLimits) (old new : Sightings) (guest after : RacingGuest) (block : RacingBlock)
      (sound : IsSound (memory old) block.window) (console : after.console ≡ guest.console) where
    -- the slot as its block device finds it
    abbrev pub ready : SlotState
    ready = slot_of (memory old) (record { block = block; console = guest.console })

    -- the slot, where its queue stands so
    abbrev stood : Memory → WindowState → Tags → SlotState
    stood m w tags = record ready {
      memory = m;
      block = w;
      host = Some (record (disk_of block.disk) { tags = as_still tags });
    }

    abbrev unit : DiskUnit
    unit = record { window = block.window; disk = disk_of block.disk }

    same : (m : Memory) (w : WindowState) (tags : Tags) → memory new ≡ m → after.block.window ≡ w
        → after.block.disk ≡ record block.disk { tags = tags } → slot_of (memory new) after ≡ stood m w tags
    same m w tags memories windows disks = rw (memories, windows, disks, console) refl

    pub record BeginsSlotLook : Type 0 where
      pub first : SlotState
      pub looks : LooksAtQueue ready first
      pub whole : BlockStands (memory old) first → slot_of (memory new) after ≡ first

    notified_at : (found : Option Queue) → queue_at 0 block.window ≡ found
        → NotifiesBlock false limits found old new block after.block progress.Done → BeginsSlotLook
    notified_at None at n = record {
      first = ready;
      looks = record {
        before = unit;
        after = unit;
        there = refl;
        does = record { looks = looks_unready block.disk.device (unit_queue (memory old) unit) block.disk.on_hold at; is = refl };
        is = refl;
      };
      whole = λ stands. same (memory old) block.window block.disk.tags (ap memory n.memory) (ap (λ (b : RacingBlock). b.window) n.device)
          (ap (λ (b : RacingBlock). b.disk) n.device);
    }
    notified_at (Some queue) at n =
        let disk = block.disk in
        let b = looked disk.device limits limits.budget (wants_stable block.window) First old new block.window after.block.window queue n.last
        n.disk.left disk.tags after.block.disk.tags n.wanted sound at refl tt disk.on_hold n.ending (sym n.progress_is)
        n.window n.disk.looks in
        record {
          first = stood b.memory b.window b.kept;
          looks = record {
            before = unit;
            after = record { window = b.window; disk = record (disk_of disk) { tags = as_still b.kept } };
            there = refl;
            does = record { looks = b.looks; is = refl };
            is = refl;
          };
          whole = λ stands.
              let all = b.stands stands in
              same b.memory b.window b.kept all.0 all.1
              (n.disk.is ∙ ap (λ (tags : Tags). record disk { tags = tags }) all.2);
        }

  -- ---- a write

  pub block_written : (offset width value : ℕ) (limits : LookLimits) (old new : Sightings) (guest after : RacingGuest)
      (out out' : List ℕ) → IsSoundGuest (memory old) guest → guest.block.disk.device.extent.start ≡ 0
      → racing.must_wait offset guest.block ≡ false → after.console ≡ guest.console → out' ≡ out
      → WritesBlock offset width value false limits old new guest.block after.block progress.Done
      → BeginsWith {A = A} (slot_of (memory old) guest) (Write window.Block offset width value) Done
      (slot_of (memory new) after) out out'
  block_written offset width value limits old new guest after out out' sound own free console nothing w =
      by (is_notified (action_of offset width value guest.block.window)) refl w
    where
      by : (rings : Bool) → is_notified (action_of offset width value guest.block.window) ≡ rings
          → NotifiesIf rings false limits old new
          (record guest.block { window = written offset width value (memory old) guest.block.window }) after.block progress.Done
          → BeginsWith {A = A} (slot_of (memory old) guest) (Write window.Block offset width value) Done
          (slot_of (memory new) after) out out'
      by true rings n =
          let block : RacingBlock = record guest.block { window = written offset width value (memory old) guest.block.window } in
          let action = action_of offset width value guest.block.window in
          let waits = write_waits_too (memory old) guest offset false free in
          let b = notified_at limits old new guest after block
          (written_sound offset width value (memory old) guest.block.window sound.block.window) console
          (queue_at 0 block.window) refl n in
          record {
            first = b.first;
            output = [];
            event = record {
              after = at_rest;
              gives = record { gives = rw (waits, block_task action, rings) (b.looks, refl); image = refl };
            };
            whole = λ stands. (b.whole (stands_by action (memory old) b.first rings stands), nothing ∙ no_more out);
          }
      by false rings n =
          let block : RacingBlock = record guest.block { window = written offset width value (memory old) guest.block.window } in
          let action = action_of offset width value guest.block.window in
          let waits = write_waits_too (memory old) guest offset false free in
          let first = slot_of (memory old) (record { block = block; console = guest.console }) in
          let there = same limits old new guest after block
          (written_sound offset width value (memory old) guest.block.window sound.block.window) console (memory old)
          block.window block.disk.tags (ap memory n.memory) (ap (λ (b : RacingBlock). b.window) n.device)
          (ap (λ (b : RacingBlock). b.disk) n.device) in
          record {
            first = first;
            output = [];
            event = record {
              after = at_rest;
              gives = record { gives = rw (waits, block_task action, rings) (nothing_left A action first rings); image = refl };
            };
            whole = λ stands. (there, nothing ∙ no_more out);
          }
