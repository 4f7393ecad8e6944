-- Looks at the queue of a disk that stands still begin as one look of hosted_disk, whether or not they find requests.
use Rattle.std.proofs.Common.{◌≡◌, ◌∙◌, ℕ, Bool, true, false, Option, Some, None, List, [], ◌∷◌, refl, ap}
use Rattle.guest_memory.specs.Memory.{Memory}
use Rattle.chain.specs.declared.budget.Budget.{Budget}
use Rattle.chain.specs.declared.budget.Progress.TheVariants as progress
use Rattle.chain.specs.Service.{Spent}
use Rattle.mmio_window.specs.declared.queue.Queue.{Queue}
use Rattle.mmio_window.specs.declared.queue.Token.{Token}
use Rattle.mmio_window.specs.declared.stage.Stage.TheVariants.{First}
use Rattle.mmio_window.specs.Queue.{IsTaken, entry_of}
use Rattle.mmio_window.specs.Serving.{site_at}
use Rattle.mmio_window.specs.Soundness.{IsSound}
use Rattle.mmio_window.specs.Window.{WindowState, queue_at}
use Rattle.shared_memory.specs.Sightings.{Sightings, memory}
use Rattle.block_device.specs.declared.device.BlockDevice.{BlockDevice}
use Rattle.block_device.specs.Extent.{extent_disk}
use Rattle.block_device.specs.Flights.{HostedQueue, LookEnds}
use Rattle.block_device.specs.Hosting.{hosted_device, wants_stable}
use Rattle.hosted_disk.specs.Disk as hosted
use Rattle.racing_service.specs.declared.service.Ending.{Ending as RacingEnding}
use Rattle.racing_service.specs.declared.stage.Stage.{Stage}
use Rattle.racing_service.specs.declared.stage.Stage.TheVariants as racing
use Rattle.racing_service.specs.Service.{IsRacingService, standing_at}
use Rattle.racing_service.specs.Service as services
use Rattle.racing_window.specs.Queue.{racing_queue}
use Rattle.racing_window.proofs.Sizes.{sound_queue}
use Rattle.racing_hosted_disk.specs.declared.look.LookEnding.{LookEnding}
use Rattle.racing_hosted_disk.specs.declared.look.LookEnding.TheVariants as look
use Rattle.racing_hosted_disk.specs.declared.look.LookLimits.{LookLimits}
use Rattle.racing_hosted_disk.specs.Looking.{AreLooks, EndsLooks, Look, LooksUnless, Place, place_at, progress_of}
use Rattle.block_device.specs.Tags.{free_tag}
use Rattle.racing_guest.specs.Block.{showing}
use Rattle.racing_guest.proofs.Telling.{with_ring_same}
use Rattle.standing_guest.specs.Rest.{WindowRests, WindowStands}
use Rattle.standing_guest.proofs.AnyDisk.{notified_over}
use Rattle.standing_guest.proofs.Beginning.{IsBegun, begins_at}
use Rattle.standing_guest.proofs.Coming.{ComesTo, IsUnopened}
use Rattle.standing_guest.proofs.Going.{Tags, queue_of}
use Rattle.standing_guest.proofs.Notifying.{by_service, first_is_left}
use Rattle.standing_guest.proofs.Requests.{goes_from}
use Rattle.standing_guest.proofs.Tags.{same_free}

-- ---- a queue that can't be served

ends_unready : (device : BlockDevice) (q : HostedQueue) (free : Option ℕ) → queue_at 0 q.window ≡ None
    → LookEnds free device First q q
ends_unready device q None at = refl
ends_unready device q (Some tag) at = record {
  ends = λ disk. rw at (record {
    ending = Spent;
    notified = (refl, record { memory = refl; window = refl; state = refl });
  });
  tags = refl;
}

pub looks_unready : (device : BlockDevice) (q : HostedQueue) (on_hold : Bool) → queue_at 0 q.window ≡ None
    → hosted.LooksUnless on_hold device q q
looks_unready device q true at = refl
looks_unready device q false at = record { asked = []; looks = ends_unready device q (free_tag q.tags) at }

-- ---- looks

module _ (device : BlockDevice) (limits : LookLimits) (budget : Budget) (stable : Bool) (stage : Stage) (old new : Sightings)
    (w w' : WindowState)
    (queue last : Queue) (left : Budget) (tags tags' : Tags) (wanted : Bool)
    (sound : IsSound (memory old) w) (at : queue_at 0 w ≡ Some queue) (is_stable : wants_stable w ≡ stable)
    (begun : IsBegun (hosted_device device) stage (standing_at old queue tt budget)) where
  abbrev before : HostedQueue
  before = queue_of (memory old) w tags

  -- the guest is so behind its call
  abbrev IsSo : Memory → WindowState → Tags → Type 0
  IsSo m v tags = (memory new ≡ m) × (w' ≡ v) × (tags' ≡ tags)

  -- what such a call begins with
  pub record BeginsLook (on_hold : Bool) : Type 0 where
    pub memory : Memory
    pub window : WindowState
    pub kept : Tags
    pub looks : hosted.LooksUnless on_hold device before (queue_of memory window kept)
    pub whole : WindowRests (hosted_device device) 0 memory window tt → IsSo memory window kept
    pub stands : WindowStands 0 (old.at old.now) memory window → IsSo memory window kept

  abbrev place : Place Queue Token
  place = place_at old queue budget tags

  abbrev behind : Place Queue Token
  behind = place_at new last left tags'

  -- ---- nothing was done

  stays : behind ≡ place → wanted ≡ false → w' ≡ showing w last look.Full wanted → IsSo (memory old) w tags
  stays is none shown =
      let ring : last ≡ queue = ap (λ (p : Place Queue Token). p.service.ring) is in (
        ap (λ (p : Place Queue Token). memory p.service.sightings) is,
        shown ∙ rw (none, ring) (with_ring_same w queue at),
        ap (λ (p : Place Queue Token). p.tags) is,
      )

  resting : (on_hold : Bool) → hosted.LooksUnless on_hold device before before → behind ≡ place → wanted ≡ false
      → w' ≡ showing w last look.Full wanted → BeginsLook on_hold
  resting on_hold looks is none shown = record {
    memory = memory old;
    window = w;
    kept = tags;
    looks = looks;
    whole = λ rests. stays is none shown;
    stands = λ stands. stays is none shown;
  }

  -- ---- no request was found

  served : (e : RacingEnding) (tag : ℕ) → free_tag tags ≡ Some tag → services.progress_of e ≡ progress.Done
      → IsRacingService racing_queue (hosted_device device) false stage limits.rounds (standing_at old queue tt budget)
      (standing_at new last tt left) e wanted
      → w' ≡ showing w last (look.Served e) wanted → tags' ≡ tags → BeginsLook false
  served e tag free done service shown kept =
      let b = by_service (hosted_device device) limits.rounds 0 first_is_left budget old new w w' tt tt sound queue last left e
      wanted at shown
      (begins_at (hosted_device device) limits.rounds (standing_at old queue tt budget) (standing_at new last tt left) wanted
      (sound_queue (memory old) w 0 queue sound at) stage begun e done service) in
      record {
        memory = b.memory;
        window = b.window;
        kept = tags;
        looks = record {
          asked = [];
          looks = rw (same_free tags, free) (record {
            ends = λ disk. notified_over device (extent_disk device.extent disk) b.met (queue_at 0 w) (memory old) b.memory w
                b.window b.state b.notified;
            tags = refl;
          });
        };
        whole = λ rests. let all = b.whole rests in (all.0, all.1, kept);
        stands = λ stands. let all = b.stands stands in (all.0, all.1, kept);
      }

  by_ending : (ending : LookEnding) (there : Place Queue Token) → there ≡ place → progress_of ending ≡ progress.Done
      → w' ≡ showing w last ending wanted
      → EndsLooks racing_queue entry_of IsTaken device false limits stable stage ending [] there behind wanted
      → BeginsLook false
  by_ending (look.Served e) there is done shown ends =
      let free : free_tag tags ≡ Some ends.tag = rw is at ends.free in
      let service : IsRacingService racing_queue (hosted_device device) false stage limits.rounds place.service behind.service e
      ends.asked = rw is at ends.service in
      let asked : wanted ≡ ends.asked = ends.wanted_is in
      served e ends.tag free done (rw (← asked) at service) shown
      (ends.tags ∙ ap (λ (p : Place Queue Token). p.tags) is)
  by_ending look.Full there is done shown ends =
      let full : free_tag tags ≡ None = rw is at ends.full in
      resting false (record { asked = []; looks = rw (same_free tags, full) refl }) (ends.stands ∙ is) ends.wanted_is shown
  by_ending look.Limited there is done shown ends = cc
  by_ending look.Idle there is done shown ends = absurd ends

  -- ---- some were found

  unopened : IsUnopened device (memory old) First (site_at (memory old) queue tt) place.service
  unopened = record { begins = refl; same = refl; is = refl; sound = sound_queue (memory old) w 0 queue sound at }

  comes : (from : Stage) → from ≡ stage
      → ComesTo device from (memory old) First (site_at (memory old) queue tt) place.service
  comes racing.First is = unopened
  comes racing.Again is = unopened
  comes racing.Next is = absurd (rw (← is) at begun)

  found : (ending : LookEnding) (l : Look Queue Token) (looks : List (Look Queue Token)) (there : Place Queue Token)
      → progress_of ending ≡ progress.Done → w' ≡ showing w last ending wanted
      → AreLooks racing_queue entry_of IsTaken device false limits stable stage place (l ∷ looks) there
      → EndsLooks racing_queue entry_of IsTaken device false limits stable stage ending (l ∷ looks) there behind wanted
      → BeginsLook false
  found ending l looks there done shown are ends =
      let goes = goes_from device limits stable (memory old) w w' new last left tags' ending wanted done shown l looks stage place
      there First (memory old) w queue (record { ready = at; later = λ ring. refl; is_stable = is_stable })
      (comes stage refl) are ends in
      record {
        memory = goes.memory;
        window = goes.window;
        kept = goes.tags;
        looks = record { asked = goes.asked; looks = goes.looks };
        whole = goes.whole;
        stands = goes.stands;
      }

  by_looks : (ending : LookEnding) (looks : List (Look Queue Token)) (there : Place Queue Token)
      → progress_of ending ≡ progress.Done → w' ≡ showing w last ending wanted
      → AreLooks racing_queue entry_of IsTaken device false limits stable stage place looks there
      → EndsLooks racing_queue entry_of IsTaken device false limits stable stage ending looks there behind wanted
      → BeginsLook false
  by_looks ending [] there done shown are ends = by_ending ending there are done shown ends
  by_looks ending (l ∷ looks) there done shown are ends = found ending l looks there done shown are ends

  pub looked : (on_hold : Bool) (ending : LookEnding) → progress_of ending ≡ progress.Done
      → w' ≡ showing w last ending wanted
      → LooksUnless racing_queue entry_of IsTaken device false limits stable on_hold stage place behind ending wanted
      → BeginsLook on_hold
  looked true ending done shown l =
      resting true refl l.stands l.unwanted (rw l.ending_is at shown)
  looked false ending done shown l = by_looks ending l.looks l.at done shown l.are l.ends
