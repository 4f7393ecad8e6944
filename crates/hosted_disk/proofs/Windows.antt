-- The window of a disk that the host serves stays that of its device.
use Rattle.std.proofs.Common.{◌≡◌, ℕ, Bool, true, false, List, [], Option, Some, refl, subst, sym, ap}
use Rattle.std.specs.Bool.{OnTrue, OnFalse}
use Rattle.guest_memory.specs.Memory.{Memory}
use Rattle.chain.specs.declared.budget.Budget.{Budget}
use Rattle.chain.specs.declared.budget.Progress.{Progress}
use Rattle.chain.specs.declared.budget.Progress.TheVariants as progress
use Rattle.chain.specs.declared.segment.Buffer.{Buffer}
use Rattle.chain.specs.declared.segment.Segment.{Segment}
use Rattle.chain.specs.Service.{Spent}
use Rattle.mmio_window.specs.declared.device_kind.DeviceKind.{DeviceKind}
use Rattle.mmio_window.specs.declared.queue.Queue.{Queue}
use Rattle.mmio_window.specs.declared.queue_registers.QueueRegisters.{QueueRegisters}
use Rattle.mmio_window.specs.declared.queue.Token.{Token}
use Rattle.mmio_window.specs.declared.stage.Stage.{Stage}
use Rattle.mmio_window.specs.DeviceKind.{queue_of}
use Rattle.mmio_window.specs.Serving.{after_service}
use Rattle.mmio_window.specs.Window.{WindowState, queue_at, with_registers_in, with_reset_asked, with_ring}
use Rattle.mmio_window.proofs.Devices.{KeepsDevice, KeepsDevice-self, KeepsDevice-served, KeepsDevice-trans}
use Rattle.sector_cache.specs.Disk.{Disk}
use Rattle.block_device.specs.declared.device.BlockDevice.{BlockDevice}
use Rattle.block_device.specs.declared.hosting.Flight.{Flight}
use Rattle.block_device.specs.declared.hosting.Hosted.{Hosted}
use Rattle.block_device.specs.declared.hosting.Hosted.TheVariants.{Asks, More, Done}
use Rattle.block_device.specs.declared.operation.HostEvent.{HostEvent}
use Rattle.block_device.specs.declared.operation.HostEvent.TheVariants.{Complete, Drop, Hold, Release}
use Rattle.block_device.specs.declared.operation.Verdict.{Verdict}
use Rattle.block_device.specs.Asking.{unasked_device}
use Rattle.block_device.specs.Flights.{HostedQueue, InFlight, IsLanding, IsLook, given_up, unlimited}
use Rattle.block_device.specs.Hosting.{CompletesIn, HostsTo, hosted_by}
use Rattle.block_device.proofs.Unasked.{any_disk}
use Rattle.hosted_disk.specs.Disk.{LooksUnless, LooksUnlessTo}
use Rattle.hosted_disk.specs.Told.{QueueTold}
use Rattle.hosted_disk.proofs.Looking.{IsLeftByLandings, IsLeftByLooks, landing_left, look_left, unless_left, unless_to_left}

registers_kept : (kind : DeviceKind) (change : QueueRegisters → QueueRegisters) (w : WindowState)
    → KeepsDevice w (with_registers_in (queue_of kind 0) change w)
registers_kept _ change w = record { kind = refl; offered = refl; generation = λ never. refl }

ring_kept : (w : WindowState) (ring : Queue) → KeepsDevice w (with_ring 0 w ring)
ring_kept w ring = registers_kept w.kind (λ registers. record registers { ring = Some ring }) w

spent_kept : (wanted : Bool) (w : WindowState) (ring : Queue)
    → KeepsDevice w (after_service Spent wanted (with_ring 0 w ring))
spent_kept true w ring = record {
  kind = (ring_kept w ring).kind;
  offered = (ring_kept w ring).offered;
  generation = (ring_kept w ring).generation;
}
spent_kept false w ring = ring_kept w ring

at : (before between after : WindowState) → after ≡ between → KeepsDevice before between
    → KeepsDevice before after
at before between after is keeps = subst (KeepsDevice before) (sym is) keeps

-- after a look at its queue
KeepsDevice-hosts : (device : BlockDevice) (stage : Stage) (budget : Budget) (found : Option Queue)
    (hosted : Hosted) (old new : Memory) (before after : WindowState) (buffers : List Buffer)
    (runs : List Segment) (disk : Disk)
    → HostsTo device stage budget found hosted old new before after buffers runs disk
    → KeepsDevice before after
KeepsDevice-hosts device stage budget found (Asks flight) old new before after buffers runs disk h =
    at before _ after h.window (ring_kept before _)
KeepsDevice-hosts device stage budget found More old new before after buffers runs disk h =
    KeepsDevice-served (unasked_device device) budget 0 stage found progress.More old new before after _ _ h
KeepsDevice-hosts device stage budget found Done old new before after buffers runs disk h =
    KeepsDevice-served (unasked_device device) budget 0 stage found progress.Done old new before after _ _ h

-- after a completion
KeepsDevice-completes : (flight : Flight Token) (answer : Verdict) (old new : Memory) (before after : WindowState)
    → CompletesIn flight answer old new before after → KeepsDevice before after
KeepsDevice-completes flight answer old new before after h =
    at before _ after h.window (spent_kept h.wanted before _)

-- and after a drop
KeepsDevice-asked : (w : WindowState) → KeepsDevice w (with_reset_asked w)
KeepsDevice-asked w = record { kind = refl; offered = refl; generation = λ never. refl }

pub gave_up_keeps : (m : Memory) (old new : WindowState) (tags now : List (Option InFlight))
    → ◌≡◌ {A = HostedQueue} (record { memory = m; window = new; tags = now })
    (given_up (record { memory = m; window = old; tags = tags }))
    → KeepsDevice old new
gave_up_keeps m old new tags now gives =
    at old _ new (ap (λ (q : HostedQueue). q.window) gives) (KeepsDevice-asked old)

-- ---- with many in flight

abbrev SameDevice : HostedQueue → HostedQueue → Type 0
SameDevice old new = KeepsDevice old.window new.window

keeps_device : IsLeftByLooks SameDevice
keeps_device = record {
  none = λ q. KeepsDevice-self q.window;
  both = λ a b c one other. KeepsDevice-trans a.window b.window c.window one other;
  asks = λ device stage old here new next.
      KeepsDevice-hosts device stage unlimited (queue_at 0 old.window) (Asks here.flight) old.memory new.memory
      old.window new.window next.buffers here.runs any_disk (next.asks any_disk);
  stops = λ device stage budget progress old new no_more.
      KeepsDevice-hosts device stage budget (queue_at 0 old.window) (hosted_by progress) old.memory new.memory old.window
      new.window [] [] any_disk (no_more.stops any_disk);
}

landing_keeps : IsLeftByLandings SameDevice
landing_keeps = record {
  gives = λ tag here verdict old new given.
      KeepsDevice-completes here.flight verdict old.memory new.memory old.window new.window given.completes;
  frees = λ tag old. KeepsDevice-self old.window;
}

pub looked_keeps : (device : BlockDevice) (old new : HostedQueue) → IsLook device old new
    → KeepsDevice old.window new.window
looked_keeps device old new h = look_left SameDevice keeps_device device old new h

-- after a landing, where it may have been of nothing
pub landed_keeps : (done : Bool) (tag : ℕ) (verdict : Verdict) (old new : HostedQueue)
    → OnTrue done (IsLanding tag verdict old new) → OnFalse done (new ≡ old)
    → KeepsDevice old.window new.window
landed_keeps true tag verdict old new lands same =
    landing_left SameDevice keeps_device landing_keeps tag verdict old new lands
landed_keeps false tag verdict old new lands same =
    at old.window old.window new.window (ap (λ (q : HostedQueue). q.window) same) (KeepsDevice-self old.window)

-- and after what the host says
unless_keeps : (on_hold : Bool) (device : BlockDevice) (old new : HostedQueue) → LooksUnless on_hold device old new
    → KeepsDevice old.window new.window
unless_keeps on_hold device old new h = unless_left SameDevice keeps_device on_hold device old new h

pub piece_keeps : (on_hold : Bool) (device : BlockDevice) (stage : Stage) (budget : Budget) (progress : Progress)
    (old new : HostedQueue) → LooksUnlessTo on_hold device stage budget progress old new
    → KeepsDevice old.window new.window
piece_keeps on_hold device stage budget progress old new h =
    unless_to_left SameDevice keeps_device on_hold device stage budget progress old new h

pub told_keeps : (said : HostEvent) (device : BlockDevice) (on_hold : Bool) (old new : HostedQueue)
    → QueueTold said device on_hold old new → KeepsDevice old.window new.window
told_keeps (Complete tag verdict) device on_hold old new h =
    KeepsDevice-trans old.window h.landed.window new.window
    (landing_left SameDevice keeps_device landing_keeps tag verdict old h.landed h.lands)
    (unless_keeps on_hold device h.landed new h.looks)
told_keeps Drop device on_hold old new h =
    at old.window (given_up old).window new.window (ap (λ (q : HostedQueue). q.window) h) (KeepsDevice-asked old.window)
told_keeps Hold device on_hold old new h =
    at old.window old.window new.window (ap (λ (q : HostedQueue). q.window) h) (KeepsDevice-self old.window)
told_keeps Release device on_hold old new h = looked_keeps device old new h
