-- A piece of a slot's look in its course: the queue was opened without a fault, or stands open, and chains were served that ask
-- for nothing.
use Rattle.std.proofs.Common.{◌≡◌, ◌∙◌, ℕ, true, false, None, List, [], refl, ap, subst}
use Rattle.guest_memory.specs.Memory.{Memory}
use Rattle.chain.specs.declared.segment.Buffer.{Buffer}
use Rattle.chain.specs.declared.segment.Segment.{Segment}
use Rattle.chain.specs.Service.{Course, Entry, Site}
use Rattle.chain.proofs.Pieces.{courses_join}
use Rattle.mmio_window.specs.declared.queue.Queue.{Queue}
use Rattle.mmio_window.specs.declared.stage.Stage.{Stage}
use Rattle.mmio_window.specs.declared.stage.Stage.TheVariants as piece
use Rattle.mmio_window.specs.Pieces.{fault_at, opened_at}
use Rattle.mmio_window.specs.Queue.{queue_kind}
use Rattle.shared_memory.specs.Sightings.{memory}
use Rattle.block_device.specs.declared.device.BlockDevice.{BlockDevice}
use Rattle.block_device.specs.declared.request.Request.{Request}
use Rattle.block_device.specs.Hosting.{hosted_device}
use Rattle.racing_service.specs.declared.stage.Stage.{Stage as RacingStage}
use Rattle.racing_service.specs.declared.stage.Stage.TheVariants.{First, Next, Again}
use Rattle.racing_service.specs.Laws.{site_of}
use Rattle.racing_service.specs.Service as services
use Rattle.racing_service.specs.Service.{IsOpened, LeavesOne, OnlyLoads, ServesOne, ServesSome, Standing}
use Rattle.racing_service.proofs.Rounds.{all_served, same_memory}
use Rattle.racing_disk.specs.Answering.{IsAnsweredIn}
use Rattle.racing_disk.specs.Telling.{IsLeft}
use Rattle.racing_disk.proofs.Standing.{answer_served}
use Rattle.racing_window.specs.Queue.{racing_queue}
use Rattle.racing_window.proofs.Rings.{IsQueueSound, queue_stands_still}
use Rattle.standing_guest.proofs.Resting.{Counts, counts_all, counts_opened}

abbrev pub Here : Type 0
Here = Standing Queue (Unit {0})

abbrev pub Spot : Type 0
Spot = Site Queue (Unit {0})

-- where a piece takes its chains from
abbrev pub opened_site : Stage → Spot → Spot
opened_site stage old = record old { ring = opened_at stage old.memory old.ring }

module _ (device : BlockDevice) where
  -- It came to here. `m` is the memory as the event found it, by which it counts what is on offer.
  pub record IsOpen (m : Memory) (stage : Stage) (old : Spot) (now : Here) : Type 0 where
    pub opens : fault_at stage old.memory old.ring ≡ None
    pub course : Course queue_kind (hosted_device device) (opened_site stage old) (site_of now)
    pub counts : Counts m now.ring
    pub sound : IsQueueSound (memory now.sightings) now.ring

  -- It isn't opened yet.
  pub record IsUnopened (m : Memory) (stage : Stage) (old : Spot) (now : Here) : Type 0 where
    pub begins : stage ≡ piece.First
    pub same : site_of now ≡ old
    pub is : memory now.sightings ≡ m
    pub sound : IsQueueSound (memory now.sightings) now.ring

  -- what a racing look of this stage finds
  abbrev pub ComesTo : RacingStage → Memory → Stage → Spot → Here → Type 0
  ComesTo First m stage old now = IsUnopened m stage old now
  ComesTo Next m stage old now = IsOpen m stage old now
  ComesTo Again m stage old now = IsUnopened m stage old now

  -- ---- the opening

  first_opened : (m : Memory) (stage : Stage) (old : Spot) (now o : Here) → IsUnopened m stage old now
      → OnlyLoads racing_queue (hosted_device device) false now o → o.ring ≡ queue_kind.opened (memory o.sightings) now.ring
      → queue_kind.opening_fault (memory o.sightings) now.ring ≡ None → IsOpen m stage old o
  first_opened m piece.Next old now o c only ring none = let no : piece.Next ≡ piece.First = c.begins in cc
  first_opened m piece.First old now o c only ring none =
      let n = memory now.sightings in
      let same : memory o.sightings ≡ n = same_memory queue_stands_still (hosted_device device) now o only in
      let opened : o.ring ≡ queue_kind.opened n now.ring = rw same at ring in
      let calm : queue_kind.opening_fault n now.ring ≡ None = rw same at none in
      let there : IsOpen m piece.First (site_of now) o = record {
        opens = calm;
        course = record { chains = []; serves = rw (same, opened, only.state) refl };
        counts = rw (opened, ← c.is) (counts_opened n now.ring calm);
        sound = rw (same, opened) (queue_stands_still.sound_opened n n now.ring c.sound);
      } in
      subst (λ (s : Spot). IsOpen m piece.First s o) c.same there

  pub opened_too : (at : RacingStage) (m : Memory) (stage : Stage) (old : Spot) (now o : Here) → ComesTo at m stage old now
      → IsOpened racing_queue (hosted_device device) false at now o
      → services.fault_at racing_queue at (memory o.sightings) now.ring ≡ None → IsOpen m stage old o
  opened_too First m stage old now o c opens none = first_opened m stage old now o c opens.only opens.ring none
  opened_too Again m stage old now o c opens none = first_opened m stage old now o c opens.only opens.ring none
  opened_too Next m stage old now o c opens none =
      let same = same_memory queue_stands_still (hosted_device device) now o opens.only in
      let is : site_of o ≡ site_of now = rw (same, opens.ring, opens.only.state) refl in
      record {
        opens = c.opens;
        course = rw is c.course;
        counts = rw opens.ring c.counts;
        sound = rw (same, opens.ring) c.sound;
      }

  -- ---- chains

  module _ (m : Memory) (stage : Stage) (old : Spot) where
    pub served_on : (between : List Here) (now b : Here) → IsOpen m stage old now
        → ServesSome racing_queue (hosted_device device) false now between b → IsOpen m stage old b
    served_on between now b o s =
        let more = all_served queue_stands_still (hosted_device device) between now b o.sound s in
        record {
          opens = o.opens;
          course = courses_join queue_kind (hosted_device device) (opened_site stage old) (site_of now) (site_of b) o.course
              (record { chains = more.chains; serves = more.serves });
          counts = counts_all (hosted_device device) m more.chains (site_of now) (site_of b) o.counts more.serves;
          sound = more.sound;
        }

  -- A chain that is left and answered is one that is served.
  pub answered_one : (a at b : Here) (buffers : List Buffer) (entry : Entry) (request : Request) (kept : List Segment) (len : ℕ)
      → (l : LeavesOne racing_queue (hosted_device device) false
      (λ state readable buffers request. IsLeft device readable buffers request kept) buffers entry request a at)
      → IsAnsweredIn racing_queue device false at.sightings b.sightings l.refuses.readable buffers entry len at.ring b.ring
      → b.left ≡ at.left → ServesOne racing_queue (hosted_device device) false a b
  answered_one a at b buffers entry request kept len l is left = record {
    taken = l.taken;
    served = is.done;
    buffers = buffers;
    entry = entry;
    len = len;
    any = true;
    takes = l.takes;
    within = l.within;
    loads = l.loads;
    told = l.told;
    offered = l.offered;
    does = answer_served device false l.taken at.sightings is.done l.refuses.readable buffers len l.refuses.reads
        l.refuses.each_read is.answered;
    given = rw l.ring at is.given;
    past = is.past ∙ ap (λ (ring : Queue). queue_kind.past ring entry) l.ring;
    left = left ∙ l.left;
  }
