-- A look that finds a request while the queue stands open: its chain is answered and the piece goes on, or it asks, and stays
-- in flight.
use Rattle.std.proofs.Common.{◌≡◌, ◌∙◌, ℕ, Bool, true, false, Option, Some, List, [], ◌∷◌, set, refl, sym, ap, subst}
use Rattle.guest_memory.specs.Memory.{Memory}
use Rattle.chain.specs.declared.segment.Buffer.{Buffer}
use Rattle.chain.specs.Buffers.{Good}
use Rattle.chain.specs.Service.{Entry}
use Rattle.mmio_window.specs.declared.queue.Queue.{Queue}
use Rattle.mmio_window.specs.declared.queue.Queue.TheVariants.{Packed, Split}
use Rattle.mmio_window.specs.declared.queue.Token.{Token}
use Rattle.mmio_window.specs.declared.stage.Stage.{Stage}
use Rattle.mmio_window.specs.declared.stage.Stage.TheVariants.{Next}
use Rattle.mmio_window.specs.Queue.{IsTaken, entry_of, queue_kind}
use Rattle.mmio_window.specs.Serving.{site_at}
use Rattle.mmio_window.specs.Window.{WindowState, queue_at, with_ring}
use Rattle.shared_memory.specs.Sightings.{memory}
use Rattle.block_device.specs.declared.device.BlockDevice.{BlockDevice}
use Rattle.block_device.specs.declared.request.Request.{Request}
use Rattle.block_device.specs.Extent.{extent_disk}
use Rattle.block_device.specs.Flights.{AsksNext, HostedQueue}
use Rattle.block_device.specs.Hosting.{hosted_device, wants_stable}
use Rattle.racing_service.specs.declared.stage.Stage.{Stage as RacingStage}
use Rattle.racing_service.specs.Laws.{site_of}
use Rattle.racing_service.specs.Service.{IsRefusedService, LeavesOne, RunsUpTo}
use Rattle.chain_handler.proofs.Still.{one_still}
use Rattle.racing_disk.specs.Looking.{FindsOneToAnswer}
use Rattle.racing_disk.specs.Telling.{IsLeft}
use Rattle.racing_window.specs.Queue.{racing_queue}
use Rattle.racing_window.proofs.Rings.{IsQueueSound, queue_stands_still}
use Rattle.racing_hosted_disk.specs.Looking.{AsksIn}
use Rattle.block_device.specs.Tags.{InFlight, free_tag}
use Rattle.racing_hosted_disk.proofs.Standing.{told_of}
use Rattle.standing_guest.specs.Slot.{in_flight}
use Rattle.standing_guest.proofs.AnyDisk.{course_over}
use Rattle.standing_guest.proofs.Coming.{ComesTo, Here, IsOpen, Spot, answered_one, opened_site, opened_too, served_on}
use Rattle.standing_guest.proofs.Resting.{counts_launched}
use Rattle.standing_guest.proofs.Tags.{as_still, same_free, same_put}

sound_launched : (m : Memory) (queue : Queue) (entry : Entry) → IsQueueSound m queue
    → IsQueueSound m (queue_kind.launched queue entry)
sound_launched m (Split ring) entry sound = record { lies = sound.lies; some = sound.some }
sound_launched m (Packed ring) entry sound = record { some = sound.some }

module _ (device : BlockDevice) (m : Memory) (piece : Stage) (old : Spot) where
  -- It came to a chain that the device leaves on offer.
  pub record Stops (buffers : List Buffer) (at : Here) : Type 0 where
    pub comes : IsOpen device m piece old at
    pub offers : queue_kind.offers (memory at.sightings) at.ring ≡ true
    pub good : Good (memory at.sightings) buffers

  module _ {E : Type 0} (Refuses : Unit {0} → List ℕ → List Buffer → E → Type 0) (buffers : List Buffer) (entry : Entry)
      (why : E) where
    up_to : (stage : RacingStage) (now at : Here) → ComesTo device stage m piece old now
        → (up : RunsUpTo racing_queue (hosted_device device) false Refuses stage buffers entry why now at)
        → IsOpen device m piece old up.serves.at
    up_to stage now at c up =
        served_on device m piece old up.serves.between up.opened up.serves.at
        (opened_too device stage m piece old now up.opened c up.opens up.no_fault) up.serves.serves

    left_there : (a at : Here) → IsOpen device m piece old a
        → LeavesOne racing_queue (hosted_device device) false Refuses buffers entry why a at → Stops buffers at
    left_there a at o l =
        let taken = one_still a.sightings l.taken l.loads in
        let read : memory at.sightings ≡ memory l.taken = one_still l.taken at.sightings l.refuses.reads in
        let same : memory at.sightings ≡ memory a.sightings = read ∙ taken in
        let is : site_of at ≡ site_of a = rw (same, l.ring, l.state) refl in
        record {
          comes = record {
            opens = o.opens;
            course = rw is o.course;
            counts = rw l.ring o.counts;
            sound = rw (same, l.ring) o.sound;
          };
          offers = rw (same, l.ring) (sym (queue_stands_still.told a.sightings l.taken a.ring true l.loads l.told));
          good = rw read (queue_stands_still.good a.sightings l.taken a.ring buffers entry l.offered);
        }

    pub stops : (stage : RacingStage) (most : ℕ) (now at : Here) (wanted : Bool) → ComesTo device stage m piece old now
        → (s : IsRefusedService racing_queue (hosted_device device) false Refuses stage most now at buffers entry why wanted)
        → s.rounds ≡ [] → Stops buffers at
    stops stage most now at wanted c s none =
        let same : s.at ≡ now = rw none at s.serves in
        let up : RunsUpTo racing_queue (hosted_device device) false Refuses stage buffers entry why now at =
        rw (none, same) at s.leaves in
        left_there up.serves.at at (up_to stage now at c up) up.serves.leaves

  -- ---- one that asks for nothing

  pub answers_on : (stage : RacingStage) (most : ℕ) (now b : Here) (wanted : Bool) → ComesTo device stage m piece old now
      → (f : FindsOneToAnswer racing_queue device false stage most now b wanted) → f.finds.service.rounds ≡ []
      → IsOpen device m piece old b
  answers_on stage most now b wanted c f none =
      let s = f.finds.service in
      let Refuses : Unit {0} → List ℕ → List Buffer → Request → Type 0 =
      λ state readable buffers request. IsLeft device readable buffers request f.kept in
      let same : s.at ≡ now = rw none at s.serves in
      let up : RunsUpTo racing_queue (hosted_device device) false Refuses stage f.buffers f.entry f.request now f.at =
      rw (none, same) at s.leaves in
      let l = up.serves.leaves in
      let one = answered_one device up.serves.at f.at b f.buffers f.entry f.request f.kept f.len l
      (f.answered l.refuses.readable l.refuses.refuses) f.left in
      served_on device m piece old (b ∷ []) up.serves.at b (up_to Refuses f.buffers f.entry f.request stage now f.at c up)
      (one, refl)

-- ---- one that asks

module _ (device : BlockDevice) (first : Memory) (piece : Stage) (m : Memory) (w : WindowState) (queue : Queue)
    (tags tags' : List (Option (InFlight Token))) (stage : RacingStage) (most : ℕ) (stable : Bool) (here : InFlight Token)
    (now b : Here) (wanted : Bool) (ready : queue_at 0 w ≡ Some queue) (is_stable : wants_stable w ≡ stable)
    (c : ComesTo device stage first piece (site_at m queue tt) now)
    (asks : AsksIn racing_queue entry_of IsTaken device false stage most stable here now b wanted)
    (none : asks.finds.finds.service.rounds ≡ []) where
  abbrev stopped : Stops device first piece (site_at m queue tt) asks.buffers asks.finds.at
  stopped =
      stops device first piece (site_at m queue tt)
      (λ state readable buffers request. IsLeft device readable buffers request asks.finds.kept) asks.buffers
      (entry_of here.flight.token) asks.finds.request stage most now asks.finds.at wanted c asks.finds.finds.service none

  -- the slot before it
  abbrev before : HostedQueue
  before = record { memory = m; window = w; tags = as_still tags }

  -- and behind it
  abbrev behind : Here → HostedQueue
  behind b = record { memory = memory b.sightings; window = with_ring 0 w b.ring; tags = as_still tags' }

  pub asks_next : (tag : ℕ) → free_tag tags ≡ Some tag → tags' ≡ set tags tag (Some here)
      → AsksNext device piece before (in_flight here) (behind b)
  asks_next tag free put =
      let at = asks.finds.at in
      let told = told_of racing_queue IsQueueSound queue_stands_still entry_of device stage most stable IsTaken here now b
      wanted asks in
      let there = stopped in
      let entry = entry_of here.flight.token in
      let next : AsksNext device piece before (in_flight here)
      (behind (record at { ring = queue_kind.launched at.ring entry })) = record {
        tag = tag;
        free = same_free tags ∙ free;
        buffers = asks.buffers;
        asks = λ disk. record {
          queue = queue;
          ready = sym ready;
          last = at.ring;
          request = told.request;
          asks = record {
            opens = there.comes.opens;
            stops = record {
              course = course_over device (extent_disk device.extent disk) (opened_site piece (site_at m queue tt))
                  (site_of at) there.comes.course;
              offers = there.offers;
              offered = told.offered;
              taken = asks.finds.taken;
              asked = told.told.asked;
            };
            good = there.good;
          };
          window = refl;
          status = record { writable = told.place.long; status = told.place.last };
          operation = rw is_stable told.operation_is;
          runs_are = told.runs_are;
        };
        tags = ap as_still put ∙ same_put tags tag (Some here);
      } in
      subst (λ (x : Here). AsksNext device piece before (in_flight here) (behind x)) (sym asks.finds.stands) next

  -- the next piece begins behind it
  pub next_opens : IsOpen device first Next (site_at (memory b.sightings) b.ring tt) b
  next_opens =
      let at = asks.finds.at in
      let there = stopped in
      let entry = entry_of here.flight.token in
      let last : Here = record at { ring = queue_kind.launched at.ring entry } in
      let next : IsOpen device first Next (site_at (memory last.sightings) last.ring tt) last = record {
        opens = refl;
        course = record { chains = []; serves = refl };
        counts = counts_launched first (memory at.sightings) at.ring entry there.offers there.comes.counts;
        sound = sound_launched (memory at.sightings) at.ring entry there.comes.sound;
      } in
      subst (λ (x : Here). IsOpen device first Next (site_at (memory x.sightings) x.ring tt) x) (sym asks.finds.stands) next
