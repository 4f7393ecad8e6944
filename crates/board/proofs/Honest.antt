-- An honest host serves the model's block device.
use Rattle.std.proofs.Common.{◌≡◌, ℕ, zero, suc, Option, Some, None, List, [], ◌∷◌, get_or, set, refl, sym, ◌∙◌, ap, subst}
use Rattle.std.specs.Prelude.{All}
use Rattle.std.proofs.lemmas.List.Elements.{All-head, All-tail}
use Rattle.std.proofs.lemmas.Option.{same_Some}
use Rattle.guest_memory.specs.Memory.{Memory}
use Rattle.chain.specs.declared.segment.Buffer.{Buffer}
use Rattle.mmio_window.specs.declared.device_kind.DeviceKind.{DeviceKind}
use Rattle.mmio_window.specs.declared.queue.Queue.{Queue}
use Rattle.mmio_window.specs.declared.queue_registers.QueueRegisters.{QueueRegisters}
use Rattle.mmio_window.specs.declared.stage.Stage.{Stage}
use Rattle.mmio_window.specs.declared.stage.Stage.TheVariants.{First, Next}
use Rattle.mmio_window.specs.DeviceKind.{queue_of}
use Rattle.mmio_window.specs.Queue.{entry_of, launched}
use Rattle.mmio_window.specs.Window.{WindowState, queue_at, with_registers_in, with_ring}
use Rattle.block_device.specs.declared.device.BlockDevice.{BlockDevice}
use Rattle.block_device.specs.declared.operation.Verdict.{Verdict}
use Rattle.block_device.specs.declared.request.Request.{Request}
use Rattle.block_device.specs.Asking.{IsAsked}
use Rattle.block_device.specs.Flights.{AsksNext, HostedQueue, InFlight, IsGivenIn, IsLanding, LandsBy, LookEnds, LooksFrom}
use Rattle.block_device.specs.Tags.{free_tag}
use Rattle.block_device.specs.Hosting.{CompletesIn, HasStatusAt, wants_stable}
use Rattle.block_device.specs.Operation.{operation_of, runs_for}
use Rattle.block_device.proofs.Unasked.{any_disk, honest_host_serves}
use Rattle.board.specs.declared.event.EventKind.{EventKind}
use Rattle.board.specs.declared.reply.Record.{Record}
use Rattle.board.specs.Honest.{IsFlown, IsHonestlyServed}
use Rattle.board.specs.HostedDisks.{LeavesTagOf}
use Rattle.board.specs.Units.{SlotDisk, in_flight_of, unit_queue}
use Rattle.board.specs.Line.{MayBeTold}
use Rattle.board.specs.Slot.{SlotState}
use Rattle.board.specs.Steps.{IsAnsweredBy}
use Rattle.hosted_disk.proofs.Looking.{KeepsTag, from_left, keeps_tag}
use Rattle.board.proofs.Units.{unit_tags}
use Rattle.board.proofs.Waiting.{outlasts}

-- ---- the chain as it asked

-- the request of an operation, in a look that began with this window
record Asked (device : BlockDevice) (began : WindowState) (here : InFlight) : Type 0 where
  asked : Memory
  buffers : List Buffer
  request : Request
  asks : IsAsked device asked buffers request
  status : HasStatusAt buffers here.flight
  operation : here.flight.operation ≡ operation_of (wants_stable began) request
  runs : here.runs ≡ runs_for request asked buffers

asked_now : (device : BlockDevice) (stage : Stage) (old : HostedQueue) (here : InFlight) (new : HostedQueue)
    → AsksNext device stage old here new → Asked device old.window here
asked_now device stage old here new next =
    let x = next.asks any_disk in
    record {
      asked = new.memory;
      buffers = next.buffers;
      request = x.request;
      asks = x.asks.stops.asked;
      status = x.status;
      operation = x.operation;
      runs = x.runs_are;
    }

-- a queue that stands open has no part in whether its driver can flush
stable_in : (kind : DeviceKind) (change : QueueRegisters → QueueRegisters) (w : WindowState)
    → wants_stable (with_registers_in (queue_of kind 0) change w) ≡ wants_stable w
stable_in _ change w = refl

stable_open : (w : WindowState) (ring : Queue) → wants_stable (with_ring 0 w ring) ≡ wants_stable w
stable_open w ring =
    stable_in w.kind (λ registers. record registers { ring = Some ring }) w

stable_behind : (device : BlockDevice) (stage : Stage) (old : HostedQueue) (here : InFlight) (new : HostedQueue)
    → AsksNext device stage old here new → wants_stable new.window ≡ wants_stable old.window
stable_behind device stage old here new next =
    let x = next.asks any_disk in
    ap wants_stable x.window ∙ stable_open old.window (launched x.last (entry_of here.flight.token))

asked_before : (device : BlockDevice) (before after : WindowState) (here : InFlight)
    → wants_stable after ≡ wants_stable before → Asked device after here → Asked device before here
asked_before device before after here same a = record {
  asked = a.asked;
  buffers = a.buffers;
  request = a.request;
  asks = a.asks;
  status = a.status;
  operation = a.operation ∙ ap (λ s. operation_of s a.request) same;
  runs = a.runs;
}

-- what was free and is taken was taken by this
set_found : (tags : List (Option InFlight)) (i t : ℕ) (there here : InFlight)
    → get_or (set tags i (Some there)) t None ≡ Some here → get_or tags t None ≡ None → there ≡ here
set_found [] i t there here is free = absurd (cc is)
set_found (x ∷ tags) zero zero there here is free = same_Some there here is
set_found (x ∷ tags) zero (suc t) there here is free = absurd (cc (is, free))
set_found (x ∷ tags) (suc i) zero there here is free = absurd (cc (is, free))
set_found (x ∷ tags) (suc i) (suc t) there here is free = set_found tags i t there here is free

never_taken : (tags tags' : List (Option InFlight)) (t : ℕ) (here : InFlight) → tags' ≡ tags
    → get_or tags t None ≡ None → get_or tags' t None ≡ Some here → ⊥
never_taken tags tags' t here same free is =
    let clash : None ≡ Some here = sym free ∙ (ap (λ l. get_or l t None) (sym same) ∙ is) in
    cc clash

end_tags : (found : Option ℕ) (device : BlockDevice) (stage : Stage) (old new : HostedQueue)
    → LookEnds found device stage old new → new.tags ≡ old.tags
end_tags None device stage old new h = ap (λ (q : HostedQueue). q.tags) h
end_tags (Some tag) device stage old new h = h.tags

-- the first chain of a look asked for it, or a later one
asked_by : (device : BlockDevice) (stage : Stage) (old mid new : HostedQueue) (there here : InFlight) (tag : ℕ)
    (asked : List InFlight) → AsksNext device stage old there mid → LooksFrom device Next mid asked new
    → get_or old.tags tag None ≡ None → get_or new.tags tag None ≡ Some here
    → (found : Option InFlight) → get_or mid.tags tag None ≡ found
    → (get_or mid.tags tag None ≡ None → Asked device mid.window here) → Asked device old.window here
asked_by device stage old mid new there here tag asked next looks free takes None still later =
    asked_before device old.window mid.window here (stable_behind device stage old there mid next) (later still)
asked_by device stage old mid new there here tag asked next looks free takes (Some one) is later =
    let kept = from_left (KeepsTag tag) (keeps_tag tag) device Next mid asked new looks one is in
    let same : one ≡ here = same_Some one here (sym kept ∙ takes) in
    let first : there ≡ one = set_found old.tags next.tag tag there one
    (ap (λ l. get_or l tag None) (sym next.tags) ∙ is) free in
    subst (λ (h : InFlight). Asked device old.window h) (first ∙ same) (asked_now device stage old there mid next)

-- an operation that takes a tag in a look asked in it
asked_in : (device : BlockDevice) (stage : Stage) (old : HostedQueue) (asked : List InFlight) (new : HostedQueue)
    (tag : ℕ) (here : InFlight) → LooksFrom device stage old asked new → get_or old.tags tag None ≡ None
    → get_or new.tags tag None ≡ Some here → Asked device old.window here
asked_in device stage old [] new tag here looks free takes =
    absurd (never_taken old.tags new.tags tag here
    (end_tags (free_tag old.tags) device stage old new looks) free takes)
asked_in device stage old (there ∷ asked) new tag here looks free takes =
    asked_by device stage old looks.0 new there here tag asked looks.1 looks.2 free takes
    (get_or looks.0.tags tag None) refl
    (λ still. asked_in device Next looks.0 asked new tag here looks.2 still takes)

-- ---- up to its completion

-- whatever came between, the tag is of the same operation
life_keeps : {A : Type 0} (disk : SlotDisk) (tag : ℕ) (here : InFlight) (old : SlotState) (events : List (EventKind A))
    (records : List (Record A)) (last : SlotState) → get_or (in_flight_of disk old) tag None ≡ Some here
    → All (LeavesTagOf {A = A} disk tag) events
    → IsAnsweredBy (MayBeTold 0) old events records last → get_or (in_flight_of disk last) tag None ≡ Some here
life_keeps disk tag here old [] [] last taken others course =
    ap (λ (s : SlotState). get_or (in_flight_of disk s) tag None) course ∙ taken
life_keeps disk tag here old [] (t ∷ records) last taken others course = absurd course
life_keeps disk tag here old (event ∷ events) [] last taken others course = absurd course
life_keeps {A} disk tag here old (event ∷ events) (t ∷ records) last taken others course =
    let told = course.1 in
    let Other : EventKind A → Type 0 = LeavesTagOf disk tag in
    life_keeps disk tag here told.outcome.state events records last
    (outlasts disk old tag here event told.before told.behind told.outcome taken (All-head Other event events others)
    told.given)
    (All-tail Other event events others)
    (subst (λ (s : SlotState). IsAnsweredBy (MayBeTold 0) s events records last) told.left course.2)

-- it is given back in a window that may be served
pub given_back : (found : Option Queue) (queue : Queue) (tag : ℕ) (here : InFlight) (verdict : Verdict)
    (old new : HostedQueue) → found ≡ Some queue → LandsBy found tag here verdict old new
    → IsGivenIn tag here verdict old new
given_back None queue tag here verdict old new is h = absurd (cc is)
given_back (Some found) queue tag here verdict old new is h = h

completed_here : (tag : ℕ) (here : InFlight) (verdict : Verdict) (queue : Queue) (old new : HostedQueue)
    → queue_at 0 old.window ≡ Some queue → get_or old.tags tag None ≡ Some here → IsLanding tag verdict old new
    → CompletesIn here.flight verdict old.memory new.memory old.window new.window
completed_here tag here verdict queue old new ready taken lands =
    let same : lands.here ≡ here = same_Some lands.here here (sym lands.there ∙ taken) in
    (given_back (queue_at 0 old.window) queue tag here verdict old new ready
    (subst (λ (h : InFlight). LandsBy (queue_at 0 old.window) tag h verdict old new) same lands.lands)).completes

pub honest : {A : Type 0} (disk : SlotDisk) (device : BlockDevice) (began : HostedQueue) (tag : ℕ) (here : InFlight)
    (now : SlotState) (verdict : Verdict) (new : HostedQueue)
    (flown : IsFlown A disk device began tag here now verdict new)
    → IsHonestlyServed disk device began tag here now verdict new flown
honest disk device began tag here now verdict new flown =
    let asking = unit_queue flown.asking.memory flown.first in
    let landing = unit_queue now.memory flown.last in
    let a = asked_in device First began flown.looks.asked asking tag here flown.looks.looks flown.free
    (ap (λ l. get_or l tag None) (unit_tags disk flown.asking flown.first flown.asked_of) ∙ flown.takes) in
    let taken = life_keeps disk tag here flown.asking flown.events flown.records now flown.takes flown.others
    flown.course in
    let completes = completed_here tag here verdict flown.queue landing new flown.ready
    (ap (λ l. get_or l tag None) (unit_tags disk now flown.last flown.completed_of) ∙ taken) flown.lands in
    record {
      asked = a.asked;
      buffers = a.buffers;
      request = a.request;
      asks = a.asks;
      operation = a.operation;
      runs = a.runs;
      completes = completes;
      serves = λ contents contents' found ends long stands.
          honest_host_serves device a.asked now.memory completes.given completes.queue completes.behind contents
          contents' a.buffers found here.flight verdict a.request a.asks a.status ends long stands completes.gives;
    }
