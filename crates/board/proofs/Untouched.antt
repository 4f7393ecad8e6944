-- An event that touches no memory: its bytes stay, and the same comes of it over any others.
use Rattle.std.proofs.Common.{◌≡◌, inl, inr, ℕ, Bool, true, false, Option, Some, None, List, refl, sym, ◌∙◌, ap, subst}
use Rattle.std.specs.Prelude.{IsSome}
use Rattle.std.specs.Option.{option_map_or}
use Rattle.guest_memory.specs.Memory.{Memory, SameRange}
use Rattle.mmio_window.specs.declared.device_kind.DeviceKind.TheVariants as kind
use Rattle.board.specs.declared.event.SlotWindow.{SlotWindow}
use Rattle.board.specs.declared.event.SlotWindow.TheVariants.{Block, Console}
use Rattle.mmio_window.specs.Window.{WindowState}
use Rattle.snapshot.specs.declared.saved.SavedSlot.{SavedSlot}
use Rattle.board.specs.declared.event.EventKind.{EventKind}
use Rattle.board.specs.declared.event.EventKind.TheVariants.{Read, Write, MemRead, Resize, Restore, Host, Device}
use Rattle.block_device.specs.declared.operation.HostEvent.{HostEvent}
use Rattle.block_device.specs.declared.operation.HostEvent.TheVariants.{Complete, Drop, Hold, Release}
use Rattle.block_device.specs.declared.operation.Verdict.{Verdict}
use Rattle.block_device.specs.Flights.{HostedQueue}
use Rattle.hosted_disk.specs.Disk.{HostedDisk}
use Rattle.hosted_disk.specs.Told.{QueueTold, has_effect}
use Rattle.board.specs.declared.reply.Reply.{Reply}
use Rattle.board.specs.declared.reply.Reply.TheVariants.{Value, NoMemory, Idle}
use Rattle.board.specs.declared.saved.RestoreFault.{RestoreFault}
use Rattle.board.specs.declared.saved.RestoreFault.TheVariants.{Snapshot, OtherSlot, BadDevice, BadBlock, BadConsole, BadDeviceWindow, BadWaiting}
use Rattle.board.specs.Hosting.{GivesOnHost, HostOrGives, OwnGives, ToldGives, is_block_task, notifies_block, told_in, waits_now}
use Rattle.board.specs.Units.{DoesAsSaid, Own, unit_queue}
use Rattle.board.specs.Image.{Health}
use Rattle.board.specs.Machine.{Gives, GivesBy, GivesOverImage, register, resized, task_at, with_write}
use Rattle.board.specs.Outcome.{IsDetermined, Outcome, does, replies}
use Rattle.device_list.specs.Device.{DeviceState}
use Rattle.device_list.specs.List.{are_at_work}
use Rattle.device_list.specs.Saved.{devices_restored}
use Rattle.board.specs.Restoring.{IsTakenUp, RestoresUnless, slot_in}
use Rattle.board.specs.Saved.{IsCauseOf, IsPrevented, Prevents, Suits, SuitsBesideDevices, block_restored, console_restored, snapshot_of}
use Rattle.board.specs.Slot.{BoardSlot, SlotState}
use Rattle.board.specs.Task.{Finishes, Nothing, PutOut, Serve, Task, puts_out}
use Rattle.board.specs.Untouched.{NeedsNoMemory, outcome_over, over_memory, serves_queue, touches_memory}
use Rattle.board.specs.World.{IsCutShort, IsRefused, MayGive, MayGiveBy, MayGiveOverImage}
use Rattle.board.proofs.Beside.{same_range}
use Rattle.board.proofs.SameRange.{block_over, window_over, written_over}
use Rattle.board.proofs.SavedDevices.{devices_over, taken_up_over}

-- memory's bytes are left as they were, and over these others the outcome is There's
abbrev Stays : {A : Type 0} → (Outcome A → Type 0) → Memory → Memory → Outcome A → Type 0
Stays There old m outcome = (outcome.state.memory ≡ old) × There (outcome_over m outcome)

determined_over : {A : Type 0} (m : Memory) (outcome wanted : Outcome A) (before after : Health)
    → IsDetermined outcome wanted before after
    → Stays (λ (o : Outcome A). IsDetermined o (outcome_over m wanted) before after) wanted.state.memory m outcome
determined_over {A} m outcome wanted before after h = (
  ap (λ (o : Outcome A). o.state.memory) h.alike,
  record { alike = ap (outcome_over m) h.alike; image = h.image },
)

-- ---- a restore

range_back : (m n : Memory) → SameRange m n → SameRange n m
range_back m n same = record { base = sym same.base; size = sym same.size; gaps = sym same.gaps }

beside_over : (old : SlotState) (m : Memory) → SameRange old.memory m → (saved : SavedSlot)
    → SuitsBesideDevices saved (slot_in old) → SuitsBesideDevices saved (slot_in (over_memory m old))
beside_over old m same saved h = record {
  base = h.base ∙ sym same.base;
  len = h.len ∙ sym same.size;
  sectors = h.sectors;
  read_only = h.read_only;
  identity = h.identity;
  block = h.block;
  console = h.console;
  on_hold = h.on_hold;
}

suits_over : (old : SlotState) (m : Memory) → SameRange old.memory m → (saved : SavedSlot)
    → Suits saved (slot_in old) → Suits saved (slot_in (over_memory m old))
suits_over old m same saved h = record {
  beside = beside_over old m same saved h.beside;
  devices = h.devices;
}

module _ (old : SlotState) (m : Memory) (same : SameRange old.memory m) where
  taken_over : (bytes : List ℕ) (new : SlotState) → IsTakenUp old bytes new
      → IsTakenUp (over_memory m old) bytes (over_memory m new)
  taken_over bytes new h = let took = h.restored.takes_up in
      let saved = h.restored.saved in
      record {
        restored = record {
          saved = saved;
          pending = h.restored.pending;
          waiting = h.restored.waiting;
          read = h.restored.read;
          takes_up = record {
            suits = suits_over old m same saved took.suits;
            block = block_over old.memory m saved.block same ∙ took.block;
            console = window_over kind.Console old.memory m saved.console same ∙ took.console;
            devices = taken_up_over old.memory m saved.devices.items h.restored.waiting old.devices same ∙ took.devices;
            is = ap (λ (slot : BoardSlot). record slot { memory = m }) took.is;
          };
        };
        extent = h.extent;
        spare = h.spare;
      }

  has_block : (saved : SavedSlot) → IsSome (block_restored old.memory saved.block)
      → IsSome (block_restored m saved.block)
  has_block saved h =
      subst (λ (w : Option WindowState). IsSome w) (sym (block_over old.memory m saved.block same)) h

  has_console : (saved : SavedSlot) → IsSome (console_restored old.memory saved.console)
      → IsSome (console_restored m saved.console)
  has_console saved h =
      subst (λ (w : Option WindowState). IsSome w) (sym (window_over kind.Console old.memory m saved.console same)) h

  has_windows : (saved : SavedSlot) → IsSome (devices_restored old.memory saved.devices.items old.devices)
      → IsSome (devices_restored m saved.devices.items old.devices)
  has_windows saved h =
      subst (λ (l : Option (List DeviceState)). IsSome l) (sym (devices_over old.memory m saved.devices.items old.devices same)) h

  prevents_over : (why : RestoreFault) (saved : SavedSlot) (waiting : Option (List ℕ))
      → Prevents (slot_in old) saved waiting why → Prevents (slot_in (over_memory m old)) saved waiting why
  prevents_over (Snapshot fault) saved waiting h = h
  prevents_over OtherSlot saved waiting h =
      λ suits. h (beside_over (over_memory m old) old.memory (range_back old.memory m same) saved suits)
  prevents_over BadDevice saved waiting h = (beside_over old m same saved h.0, h.1)
  prevents_over BadBlock saved waiting h =
      (suits_over old m same saved h.0, block_over old.memory m saved.block same ∙ h.1)
  prevents_over BadConsole saved waiting h =
      (suits_over old m same saved h.0, (has_block saved h.1.0, window_over kind.Console old.memory m saved.console same ∙ h.1.1))
  prevents_over BadDeviceWindow saved waiting h = (
    suits_over old m same saved h.0,
    (
      has_block saved h.1.0,
      (has_console saved h.1.1.0, devices_over old.memory m saved.devices.items old.devices same ∙ h.1.1.1),
    ),
  )
  prevents_over BadWaiting saved waiting h = (
    suits_over old m same saved h.0,
    (
      has_block saved h.1.0,
      (
        has_console saved h.1.1.0,
        (
          has_windows saved h.1.1.1.0,
          taken_up_over old.memory m saved.devices.items waiting old.devices same ∙ h.1.1.1.1,
        ),
      ),
    ),
  )

  prevented_over : (bytes : List ℕ) (why : RestoreFault) → IsPrevented (slot_in old) bytes why
      → IsPrevented (slot_in (over_memory m old)) bytes why
  prevented_over bytes why h = record {
    saved = h.saved;
    pending = h.pending;
    waiting = h.waiting;
    read = h.read;
    prevents = prevents_over why h.saved h.waiting h.prevents;
  }

  cause_over : (bytes : List ℕ) (why : RestoreFault) → IsCauseOf (slot_in old) bytes why
      → IsCauseOf (slot_in (over_memory m old)) bytes why
  cause_over bytes (Snapshot fault) h = h
  cause_over bytes why h = prevented_over bytes why h

  restoring_over : {A : Type 0} (works : Bool) (bytes : List ℕ) (outcome : Outcome A)
      → RestoresUnless works old bytes outcome
      → Stays (RestoresUnless works (over_memory m old) bytes) old.memory m outcome
  restoring_over {A} true bytes outcome h = (ap (λ (o : Outcome A). o.state.memory) h, ap (outcome_over m) h)
  restoring_over false bytes outcome (inl h) = (
    ap (λ (slot : BoardSlot). slot.memory) h.0.restored.takes_up.is,
    inl (taken_over bytes outcome.state h.0, ap (outcome_over m) h.1),
  )
  restoring_over {A} false bytes outcome (inr h) = (
    ap (λ (o : Outcome A). o.state.memory) h.1,
    inr (record { why = h.0.why; cause = cause_over bytes h.0.why h.0.cause }, ap (outcome_over m) h.1),
  )

-- what is saved has where the memory lies
pub saved_over : (slot : BoardSlot) (m : Memory) → SameRange slot.memory m
    → snapshot_of (record slot { memory = m }) ≡ snapshot_of slot
saved_over slot m same = rw (same.base, same.size) refl

-- ---- what a write leaves to be done

-- the slot behind a write, over the other memory
pub write_over : (window : SlotWindow) (offset width value : ℕ) (old : SlotState) (m : Memory)
    → SameRange old.memory m
    → with_write window offset width value (over_memory m old)
    ≡ over_memory m (with_write window offset width value old)
write_over Block offset width value old m same =
    ap (λ (w : WindowState). record old { memory = m; block = w })
    (written_over offset width value old.memory m old.block same)
write_over Console offset width value old m same =
    ap (λ (w : WindowState). record old { memory = m; console = w })
    (written_over offset width value old.memory m old.console same)

write_stays : (window : SlotWindow) (offset width value : ℕ) (old : SlotState)
    → (with_write window offset width value old).memory ≡ old.memory
write_stays Block offset width value old = refl
write_stays Console offset width value old = refl

-- and it leaves the same
pub task_over : (window : SlotWindow) (offset width value : ℕ) (old : SlotState) (m : Memory)
    → task_at window offset width value (over_memory m old) ≡ task_at window offset width value old
task_over Block offset width value old m = refl
task_over Console offset width value old m = refl

finishes_over : {A : Type 0} (task : Task) (state : SlotState) (m : Memory) (before after : Health)
    (outcome : Outcome A) → serves_queue task ≡ false → Finishes task state before after outcome
    → Stays (Finishes task (over_memory m state) before after) state.memory m outcome
finishes_over Nothing state m before after outcome none h =
    determined_over m outcome (does state) before after h
finishes_over (PutOut byte) state m before after outcome none h =
    determined_over m outcome (puts_out byte state) before after h
finishes_over (Serve service) state m before after outcome none h = absurd (cc (none))

cut_over : {A : Type 0} (task : Task) (state : SlotState) (m : Memory) (before after : Health)
    (outcome : Outcome A) → serves_queue task ≡ false → IsCutShort task state before after outcome
    → Stays (IsCutShort task (over_memory m state) before after) state.memory m outcome
cut_over Nothing state m before after outcome none h = absurd h
cut_over (PutOut byte) state m before after outcome none h =
    determined_over m outcome (replies state NoMemory) before after h
cut_over (Serve service) state m before after outcome none h = absurd (cc (none))

-- ---- an event over the image

gives_over : {A : Type 0} (old : SlotState) (what : EventKind A) (m : Memory) (before after : Health)
    (outcome : Outcome A) → touches_memory what old ≡ false → SameRange old.memory m
    → GivesOverImage old what before after outcome
    → Stays (GivesOverImage (over_memory m old) what before after) old.memory m outcome
gives_over old (Read Block offset width) m before after outcome none same h =
    determined_over m outcome (replies old (Value (register old Block offset width))) before after h
gives_over old (Read Console offset width) m before after outcome none same h =
    determined_over m outcome (replies old (Value (register old Console offset width))) before after h
gives_over old (Write window offset width value) m before after outcome none same h =
    let done = finishes_over (task_at window offset width value old) (with_write window offset width value old) m
    before after outcome none h in (
      done.0 ∙ write_stays window offset width value old,
      rw (write_over window offset width value old m same, task_over window offset width value old m) done.1,
    )
gives_over old (Resize cols rows) m before after outcome none same h =
    determined_over m outcome (does (resized cols rows old)) before after h
gives_over old (Restore bytes) m before after outcome none same h =
    let restoring = restoring_over old m same (are_at_work old.devices) bytes outcome h.alike in
    (restoring.0, record { alike = restoring.1; image = h.image })
gives_over old (Host said) m before after outcome none same h =
    determined_over m outcome (replies old Idle) before after h
gives_over old _ m before after outcome none same h = absurd (cc (none))

refused_over : {A : Type 0} (old : SlotState) (what : EventKind A) (m : Memory) (before after : Health)
    (outcome : Outcome A) → touches_memory what old ≡ false → SameRange old.memory m
    → IsRefused old what before after outcome
    → Stays (IsRefused (over_memory m old) what before after) old.memory m outcome
refused_over old (Write window offset width value) m before after outcome none same h =
    let cut = cut_over (task_at window offset width value old) (with_write window offset width value old) m
    before after outcome none h in (
      cut.0 ∙ write_stays window offset width value old,
      rw (write_over window offset width value old m same, task_over window offset width value old m) cut.1,
    )
refused_over old (MemRead addr len) m before after outcome none same h = absurd (cc (none))
refused_over old (Device n what) m before after outcome none same h = absurd (cc (none))
refused_over old what m before after outcome none same h = absurd h

may_over : {A : Type 0} (old : SlotState) (what : EventKind A) (m : Memory) (before after : Health)
    (outcome : Outcome A) → touches_memory what old ≡ false → SameRange old.memory m
    → MayGiveOverImage old what before after outcome
    → Stays (MayGiveOverImage (over_memory m old) what before after) old.memory m outcome
may_over old what m before after outcome none same (inl h) =
    let given = gives_over old what m before after outcome none same h.alike in
    (given.0, inl (record { alike = given.1; answered = h.answered; failures = h.failures }))
may_over old what m before after outcome none same (inr h) =
    let refused = refused_over old what m before after outcome none same h in
    (refused.0, inr refused.1)

-- ---- a disk that the host serves

-- over the other memory the event touches none, too
pub touches_over : {A : Type 0} (what : EventKind A) (old : SlotState) (m : Memory)
    → touches_memory what (over_memory m old) ≡ touches_memory what old
touches_over (Write window offset width value) old m = ap serves_queue (task_over window offset width value old m)
touches_over (Host Drop) old m = refl
touches_over _ old m = refl

-- it doesn't notify the block device
quiet_task : (task : Task) → serves_queue task ≡ false → is_block_task task ≡ false
quiet_task Nothing none = refl
quiet_task (PutOut byte) none = refl
quiet_task (Serve service) none = absurd (cc (none))

quiet : {A : Type 0} (what : EventKind A) (old : SlotState) → touches_memory what old ≡ false
    → notifies_block what old ≡ false
quiet (Write window offset width value) old none = quiet_task (task_at window offset width value old) none
quiet what old none = refl

-- and is no completion, and no release
completion_touches : {A : Type 0} (what : EventKind A) (old : SlotState) (tag : ℕ) (verdict : Verdict)
    → told_in what ≡ Some (Complete tag verdict) → touches_memory what old ≡ true
completion_touches (Host (Complete its found)) old tag verdict is = refl
completion_touches _ old tag verdict is = absurd (cc is)

release_touches : {A : Type 0} (what : EventKind A) (old : SlotState) → told_in what ≡ Some Release
    → touches_memory what old ≡ true
release_touches (Host Release) old is = refl
release_touches _ old is = absurd (cc is)

module _ {A : Type 0} (Here There : Outcome A → Type 0) (old : SlotState) (m : Memory) (what : EventKind A)
    (outcome : Outcome A) (beside : Here outcome → Stays There old.memory m outcome)
    (silent : notifies_block what old ≡ false) (silent_too : notifies_block what (over_memory m old) ≡ false) where
  replied_over : (reply : Reply A) → outcome ≡ replies old reply
      → Stays (λ (o : Outcome A). o ≡ replies (over_memory m old) reply) old.memory m outcome
  replied_over reply h = (ap (λ (o : Outcome A). o.state.memory) h, ap (outcome_over m) h)

  own_over : (waits : Bool) → OwnGives Here waits old what outcome
      → Stays (OwnGives There waits (over_memory m old) what) old.memory m outcome
  own_over true h = replied_over _ h
  own_over false h = rw silent_too (beside (rw silent at h))

  -- what the disk does for which memory has no part
  says_over : (said : HostEvent) (h : DoesAsSaid Own said old outcome.state)
      → (outcome.state.memory ≡ old.memory)
      × QueueTold said h.before.disk.device h.before.disk.on_hold (unit_queue m h.before) (unit_queue m h.after)
      → outcome ≡ does outcome.state → Stays (ToldGives true said (over_memory m old)) old.memory m outcome
  says_over said h over done = (
    over.0,
    (
      record {
        before = h.before;
        after = h.after;
        there = h.there;
        does = record { queue = over.1; is = h.does.is };
        is = ap (over_memory m) h.is;
      },
      ap (outcome_over m) done,
    ),
  )

  -- its queue then, by an equation
  queue_over : (q q' : HostedQueue) → q' ≡ q
      → (q'.memory ≡ q.memory) × ◌≡◌ {A = HostedQueue} (record q' { memory = m }) (record q { memory = m })
  queue_over q q' is =
      (ap (λ (k : HostedQueue). k.memory) is, ap (λ (k : HostedQueue). record k { memory = m }) is)

  drop_over : (effect : Bool) → ToldGives effect Drop old outcome
      → Stays (ToldGives effect Drop (over_memory m old)) old.memory m outcome
  drop_over false h = replied_over _ h
  drop_over true h = says_over Drop h.0 (queue_over _ _ h.0.does.queue) h.1

  hold_over : (effect : Bool) → ToldGives effect Hold old outcome
      → Stays (ToldGives effect Hold (over_memory m old)) old.memory m outcome
  hold_over false h = replied_over _ h
  hold_over true h = says_over Hold h.0 (queue_over _ _ h.0.does.queue) h.1

  host_over : (found : Option HostEvent) → told_in what ≡ found → touches_memory what old ≡ false
      → HostOrGives Here found old what outcome
      → Stays (HostOrGives There found (over_memory m old) what) old.memory m outcome
  host_over None is none h = own_over (waits_now what old.host) h
  host_over (Some (Complete tag verdict)) is none h =
      let touches = completion_touches what old tag verdict is in absurd (cc (touches, none))
  host_over (Some Drop) is none h = drop_over (option_map_or (has_effect Drop) old.host false) h
  host_over (Some Hold) is none h = hold_over (option_map_or (has_effect Hold) old.host false) h
  host_over (Some Release) is none h =
      let touches = release_touches what old is in absurd (cc (touches, none))

-- ---- both kinds of disks

on_host_over : {A : Type 0} (Here There : Outcome A → Type 0) (old : SlotState) (what : EventKind A)
    (m : Memory) (before after : Health) (outcome : Outcome A)
    → touches_memory what old ≡ false → (Here outcome → Stays There old.memory m outcome)
    → GivesOnHost Here old what before after outcome
    → Stays (GivesOnHost There (over_memory m old) what before after) old.memory m outcome
on_host_over Here There old what m before after outcome none beside h =
    let given = host_over Here There old m what outcome beside (quiet what old none)
    (quiet what (over_memory m old) (touches_over what old m ∙ none)) (told_in what) refl none h.gives in
    (given.0, record { gives = given.1; image = h.image })

module _ {A : Type 0} (what : EventKind A) (before after : Health) where
  given_over : (host : Option HostedDisk) (old : SlotState) (m : Memory) (outcome : Outcome A)
      → touches_memory what old ≡ false → SameRange old.memory m → GivesBy host old what before after outcome
      → Stays (GivesBy host (over_memory m old) what before after) old.memory m outcome
  given_over None old m outcome none same h = gives_over old what m before after outcome none same h
  given_over (Some disk) old m outcome none same h =
      on_host_over (GivesOverImage old what before before) (GivesOverImage (over_memory m old) what before before)
      old what m before after outcome none (gives_over old what m before before outcome none same) h

  allowed_over : (host : Option HostedDisk) (old : SlotState) (m : Memory) (outcome : Outcome A)
      → touches_memory what old ≡ false → SameRange old.memory m → MayGiveBy host old what before after outcome
      → Stays (MayGiveBy host (over_memory m old) what before after) old.memory m outcome
  allowed_over None old m outcome none same h = may_over old what m before after outcome none same h
  allowed_over (Some disk) old m outcome none same h =
      on_host_over (MayGiveOverImage old what before before)
      (MayGiveOverImage (over_memory m old) what before before)
      old what m before after outcome none (may_over old what m before before outcome none same) h

-- ---- and back

-- from what stays over any memory
module _ {A : Type 0} (what : EventKind A) (Comes : SlotState → Outcome A → Type 0)
    (over : (old : SlotState) (m : Memory) (outcome : Outcome A) → touches_memory what old ≡ false
    → SameRange old.memory m → Comes old outcome → Stays (Comes (over_memory m old)) old.memory m outcome) where
  needs_none : (old : SlotState) → touches_memory what old ≡ false → NeedsNoMemory Comes old
  needs_none old none = record {
    stays = λ outcome h. (over old old.memory outcome none (same_range old.memory) h).0;
    same = λ outcome m range is. (
      λ h. (over old m outcome none range h).1,
      λ h. subst (Comes old) (ap (λ (k : Memory). outcome_over k outcome) (sym is))
          (over (over_memory m old) old.memory (outcome_over m outcome) (touches_over what old m ∙ none)
          (range_back old.memory m range) h).1,
    );
  }

pub gives_needs_none : {A : Type 0} (old : SlotState) (what : EventKind A) (before after : Health)
    → touches_memory what old ≡ false
    → NeedsNoMemory (λ (state : SlotState) (o : Outcome A). Gives state what before after o) old
gives_needs_none {A} old what before after none =
    needs_none what (λ (state : SlotState) (o : Outcome A). Gives state what before after o)
    (λ state m outcome. given_over what before after state.host state m outcome) old none

pub may_needs_none : {A : Type 0} (old : SlotState) (what : EventKind A) (before after : Health)
    → touches_memory what old ≡ false
    → NeedsNoMemory (λ (state : SlotState) (o : Outcome A). MayGive state what before after o) old
may_needs_none {A} old what before after none =
    needs_none what (λ (state : SlotState) (o : Outcome A). MayGive state what before after o)
    (λ state m outcome. allowed_over what before after state.host state m outcome) old none
