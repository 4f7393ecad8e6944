-- What the host tells a guest that stands still begins with one event of its slot.
use Rattle.std.proofs.Common.{◌≡◌, ◌∙◌, Bool, true, false, Option, Some, None, List, [], get_or, set, refl, sym, ap}
use Rattle.std.specs.Prelude.{is_some, not}
use Rattle.std.specs.Option.{option_map}
use Rattle.guest_memory.specs.Memory.{Memory}
use Rattle.chain.specs.declared.budget.Progress.TheVariants as progress
use Rattle.mmio_window.specs.declared.queue.Queue.{Queue}
use Rattle.mmio_window.specs.declared.queue.Token.{Token}
use Rattle.mmio_window.specs.Soundness.{IsSound}
use Rattle.mmio_window.specs.Window.{WindowState, queue_at, with_reset_asked}
use Rattle.shared_memory.specs.Sightings.{Sightings, memory}
use Rattle.block_device.specs.declared.operation.HostEvent.{HostEvent}
use Rattle.block_device.specs.declared.operation.HostEvent.TheVariants.{Complete, Drop, Hold, Release}
use Rattle.block_device.specs.Flights as still_tags
use Rattle.block_device.specs.Flights.{HostedQueue}
use Rattle.block_device.specs.Hosting.{wants_stable}
use Rattle.hosted_disk.specs.Told as still
use Rattle.hosted_disk.specs.Told.{QueueTold, held_by}
use Rattle.racing_hosted_disk.specs.declared.look.LookEnding.{LookEnding}
use Rattle.racing_hosted_disk.specs.declared.look.LookEnding.TheVariants as look
use Rattle.racing_service.specs.declared.stage.Stage.TheVariants.{First, Again}
use Rattle.racing_hosted_disk.specs.declared.look.LookLimits.{LookLimits}
use Rattle.racing_hosted_disk.specs.Disk.{RacingHostedDisk}
use Rattle.racing_hosted_disk.specs.Looking.{Place}
use Rattle.block_device.specs.Tags.{freed, is_any}
use Rattle.racing_hosted_disk.specs.Told.{has_effect}
use Rattle.racing_guest.specs.Block.{IsToldBy, TellsBlock, TellsUnserved, showing}
use Rattle.racing_guest.specs.Guest.{IsSoundGuest, RacingGuest}
use Rattle.racing_guest.proofs.Telling.{with_ring_same}
use Rattle.board.specs.declared.event.EventKind.TheVariants.{Host}
use Rattle.board.specs.declared.reply.Reply.TheVariants.{Done, Idle}
use Rattle.board.specs.Hosting.{HostGives}
use Rattle.board.specs.Machine.{at_rest}
use Rattle.board.specs.Slot.{SlotState}
use Rattle.standing_guest.specs.Event.{BeginsWith, IsEvent, IsServed}
use Rattle.standing_guest.specs.Slot.{disk_of, in_flight, slot_of}
use Rattle.standing_guest.proofs.Going.{Tags, queue_of}
use Rattle.standing_guest.proofs.Landing.{is_landing, landed_closed, landed_ready, landed_sound, landed_stable, landed_window, shown_twice}
use Rattle.standing_guest.proofs.Looking.{looked, looks_unready}
use Rattle.standing_guest.proofs.Tags.{as_still, same_any, same_at, same_freed, same_set}

same_some : {X Y : Type 0} (f : X → Y) (o : Option X) → is_some (option_map f o) ≡ is_some o
same_some f None = refl
same_some f (Some x) = refl

record There {X : Type 0} (o : Option X) : Type 0 where
  pub here : X
  pub is : o ≡ Some here

some_there : {X : Type 0} (o : Option X) → is_some o ≡ true → There o
some_there None is = let no : false ≡ true = is in absurd cc
some_there (Some x) is = record { here = x; is = refl }

module _ (A : Type 0) where
  -- ---- nothing to do

  same_effect : (what : HostEvent) (guest : RacingGuest)
      → still.has_effect what (disk_of guest.block.disk) ≡ has_effect what guest.block.disk
  same_effect (Complete tag verdict) guest =
      ap is_some (same_at guest.block.disk.tags tag) ∙ same_some in_flight (get_or guest.block.disk.tags tag None)
  same_effect Drop guest = same_any guest.block.disk.tags
  same_effect Hold guest = refl
  same_effect Release guest = refl

  idle : (what : HostEvent) (m : Memory) (guest : RacingGuest) → has_effect what guest.block.disk ≡ false
      → HostGives {A = A} what (slot_of m guest) (record { state = slot_of m guest; reply = Idle; output = [] })
  idle what m guest none = rw (same_effect what guest ∙ none) refl

  pub told_nothing : (what : HostEvent) (m : Memory) (guest : RacingGuest) → has_effect what guest.block.disk ≡ false
      → IsEvent {A = A} (slot_of m guest) (Host what) (slot_of m guest) Idle []
  told_nothing what m guest none = record {
    after = at_rest;
    gives = record { gives = idle what m guest none; image = refl };
  }

  -- ---- something

  module _ (limits : LookLimits) (old new : Sightings) (guest after : RacingGuest)
      (sound : IsSound (memory old) guest.block.window) (console : after.console ≡ guest.console) where
    abbrev state : SlotState
    state = slot_of (memory old) guest

    -- where its queue stands, and the slot where it stands so
    abbrev began : HostedQueue
    began = queue_of (memory old) guest.block.window guest.block.disk.tags

    abbrev put : Memory → WindowState → Tags → Bool → SlotState
    put m w tags on_hold = record state {
      memory = m;
      block = w;
      host = Some (record { device = guest.block.disk.device; tags = as_still tags; on_hold = on_hold });
    }

    -- the slot behind that, by what becomes of its disk
    same : (m : Memory) (w : WindowState) (tags : Tags) (on_hold : Bool) → memory new ≡ m → after.block.window ≡ w
        → after.block.disk ≡ record guest.block.disk { tags = tags; on_hold = on_hold }
        → slot_of (memory new) after ≡ put m w tags on_hold
    same m w tags on_hold memories windows disks =
        let device = ap (λ (d : RacingHostedDisk Token). d.device) disks in
        let kept = ap (λ (d : RacingHostedDisk Token). d.tags) disks in
        let held = ap (λ (d : RacingHostedDisk Token). d.on_hold) disks in
        rw (memories, windows, device, kept, held, console) refl

    abbrev begins : (what : HostEvent) → Type 0
    begins what = BeginsWith {A = A} state (Host what) Done (slot_of (memory new) after) [] []

    event : (what : HostEvent) (first : SlotState)
        → HostGives {A = A} what state (record { state = first; reply = Done; output = [] })
        → IsEvent {A = A} state (Host what) first Done []
    event what first gives = record { after = at_rest; gives = record { gives = gives; image = refl } }

    -- ---- what the host says

    told_too : (what : HostEvent) (m : Memory) (w : WindowState) (tags : Tags)
        → has_effect what guest.block.disk ≡ true
        → QueueTold what guest.block.disk.device guest.block.disk.on_hold began (queue_of m w tags)
        → (IsServed {A = A} (Host what) state (put m w tags (held_by what guest.block.disk.on_hold)) → (memory new ≡ m) × (after.block.window ≡ w)
        × (after.block.disk
        ≡ record guest.block.disk { tags = tags; on_hold = held_by what guest.block.disk.on_hold }))
        → begins what
    told_too what m w tags effect told whole = record {
      first = put m w tags (held_by what guest.block.disk.on_hold);
      output = [];
      event = event what (put m w tags (held_by what guest.block.disk.on_hold)) (rw (same_effect what guest ∙ effect) (
        record {
          before = record { window = guest.block.window; disk = disk_of guest.block.disk };
          after = record {
            window = w;
            disk = record {
              device = guest.block.disk.device;
              tags = as_still tags;
              on_hold = held_by what guest.block.disk.on_hold;
            };
          };
          there = refl;
          does = record { queue = told; is = refl };
          is = refl;
        },
        refl,
      ));
      whole = λ rests.
          let all = whole rests in
          (same m w tags (held_by what guest.block.disk.on_hold) all.0 all.1 all.2, refl);
    }

    dropped_too : (w : WindowState) → is_any guest.block.disk.tags ≡ true → memory new ≡ memory old
        → w ≡ guest.block.window → after.block.window ≡ with_reset_asked w
        → after.block.disk ≡ record guest.block.disk { tags = freed guest.block.disk.tags } → begins Drop
    dropped_too w any memories windows shown disks =
        let disk = guest.block.disk in
        told_too Drop (memory old) (with_reset_asked guest.block.window) (freed disk.tags) any
        (ap (λ (tags : List (Option still_tags.InFlight)). record {
          memory = memory old;
          window = with_reset_asked guest.block.window;
          tags = tags;
        }) (sym (same_freed disk.tags)))
        (λ served. (memories, shown ∙ ap with_reset_asked windows, disks))

    held_too : not guest.block.disk.on_hold ≡ true → memory new ≡ memory old → after.block.window ≡ guest.block.window
        → after.block.disk ≡ record guest.block.disk { on_hold = true } → begins Hold
    held_too free memories windows disks =
        told_too Hold (memory old) guest.block.window guest.block.disk.tags free refl
        (λ served. (memories, windows, disks))

    -- ---- where the queue can't be served

    unserved : (what : HostEvent) → has_effect what guest.block.disk ≡ true → queue_at 0 guest.block.window ≡ None
        → TellsUnserved what old new guest.block after.block progress.Done → begins what
    unserved (Complete tag verdict) some at t =
        let disk = guest.block.disk in
        let there = some_there (get_or disk.tags tag None) some in
        let tags = set disk.tags tag None in
        let landed = queue_of (memory old) guest.block.window tags in
        told_too (Complete tag verdict) (memory old) guest.block.window tags some
        (record {
          landed = landed;
          lands = record {
            here = in_flight there.here;
            there = same_at disk.tags tag ∙ ap (option_map in_flight) there.is;
            lands = rw at (ap (λ (tags : List (Option still_tags.InFlight)). record began { tags = tags })
                (same_set disk.tags tag));
          };
          looks = looks_unready guest.block.disk.device landed disk.on_hold at;
        })
        (λ rests. (ap memory t.memory, t.window, t.disk))
    unserved Drop some at t = dropped_too guest.block.window some (ap memory t.memory) refl t.window t.disk
    unserved Hold some at t = held_too some (ap memory t.memory) t.window t.disk
    unserved Release some at t =
        told_too Release (memory old) guest.block.window guest.block.disk.tags some
        (looks_unready guest.block.disk.device began false at)
        (λ rests. (ap memory t.memory, t.window, t.disk))

    -- ---- where it can

    -- the queue stays, and so the window
    window_stays : (queue last : Queue) (ending : LookEnding) (wanted : Bool) → queue_at 0 guest.block.window ≡ Some queue
        → last ≡ queue → ending ≡ look.Idle → wanted ≡ false
        → showing guest.block.window last ending wanted ≡ guest.block.window
    window_stays queue last ending wanted at ring idle none =
        rw (ring, idle, none) (with_ring_same guest.block.window queue at)

    pub served : (what : HostEvent) (queue : Queue) → has_effect what guest.block.disk ≡ true
        → queue_at 0 guest.block.window ≡ Some queue
        → TellsBlock what false limits queue old new guest.block after.block progress.Done → begins what
    served (Complete tag verdict) queue some at t =
        let disk = guest.block.disk in
        let w = guest.block.window in
        let c = t.disk.queue in
        let there = c.landed in
        let ring = there.service.ring in
        let w1 = landed_window w ring c.before in
        let m1 = memory there.service.sightings in
        let landing = is_landing disk.device tag verdict old w queue limits.budget disk.tags there c.before sound at c.lands in
        let shown : after.block.window ≡ showing w1 t.last t.ending c.asked =
        t.window ∙ ap (showing w t.last t.ending) c.wanted_is ∙ sym (shown_twice w ring t.last t.ending c.before c.asked) in
        let b = looked disk.device limits there.service.left (wants_stable w) Again there.service.sightings new w1 after.block.window ring t.last
        t.disk.left there.tags after.block.disk.tags c.asked
        (landed_sound disk.device tag verdict old w queue limits.budget disk.tags there c.before sound at c.lands)
        (landed_ready disk.device tag verdict old w queue limits.budget disk.tags there c.before sound at c.lands)
        (landed_stable w ring c.before)
        (landed_closed disk.device tag verdict old w queue limits.budget disk.tags there c.before sound at c.lands)
        disk.on_hold t.ending (sym t.progress_is) shown c.looks in
        told_too (Complete tag verdict) b.memory b.window b.kept some
        (record {
          landed = queue_of m1 w1 there.tags;
          lands = landing;
          looks = b.looks;
        })
        (λ rests.
        let all = b.whole rests in
        (all.0, all.1, t.disk.is ∙ ap (λ (tags : Tags). record disk { tags = tags }) all.2))
    served Drop queue some at t =
        let idle = t.disk.queue in
        let stands = idle.stands in
        dropped_too (showing guest.block.window t.last t.ending t.wanted) some
        (ap (λ (p : Place Queue Token). memory p.service.sightings) stands)
        (window_stays queue t.last t.ending t.wanted at (ap (λ (p : Place Queue Token). p.service.ring) stands)
        idle.ending_is idle.unwanted) t.window
        (t.disk.is ∙ ap (λ (tags : Tags). record guest.block.disk { tags = tags })
        (ap (λ (p : Place Queue Token). p.tags) stands))
    served Hold queue some at t =
        let idle = t.disk.queue in
        let stands = idle.stands in
        held_too some
        (ap (λ (p : Place Queue Token). memory p.service.sightings) stands)
        (t.window ∙ window_stays queue t.last t.ending t.wanted at (ap (λ (p : Place Queue Token). p.service.ring) stands)
        idle.ending_is idle.unwanted)
        (t.disk.is ∙ ap (λ (tags : Tags). record guest.block.disk { tags = tags; on_hold = true })
        (ap (λ (p : Place Queue Token). p.tags) stands))
    served Release queue some at t =
        let disk = guest.block.disk in
        let w = guest.block.window in
        let b = looked disk.device limits limits.budget (wants_stable w) First old new w after.block.window queue t.last t.disk.left disk.tags
        after.block.disk.tags t.wanted sound at refl tt false t.ending (sym t.progress_is) t.window t.disk.queue in
        told_too Release b.memory b.window b.kept some b.looks
        (λ stands.
        let all = b.stands stands in
        (all.0, all.1, t.disk.is ∙ ap (λ (tags : Tags). record disk { tags = tags; on_hold = false }) all.2))

    told_by : (what : HostEvent) (found : Option Queue) → has_effect what guest.block.disk ≡ true
        → queue_at 0 guest.block.window ≡ found
        → IsToldBy what false limits found old new guest.block after.block progress.Done → begins what
    told_by what None some at t = unserved what some at t
    told_by what (Some queue) some at t = served what queue some at t

  pub told_done : (what : HostEvent) (limits : LookLimits) (old new : Sightings) (before after : RacingGuest)
      → IsSoundGuest (memory old) before → before.block.disk.device.extent.start ≡ 0
      → has_effect what before.block.disk ≡ true → after.console ≡ before.console
      → IsToldBy what false limits (queue_at 0 before.block.window) old new before.block after.block progress.Done
      → BeginsWith {A = A} (slot_of (memory old) before) (Host what) Done (slot_of (memory new) after) [] []
  told_done what limits old new before after sound own some console t =
      told_by limits old new before after sound.block.window console what (queue_at 0 before.block.window) some refl t
