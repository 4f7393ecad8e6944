-- Looks one after another of a disk that stands still: each request that asks is one of a slot's look, which goes on behind it.
use Rattle.std.proofs.Common.{◌≡◌, ◌∙◌, ℕ, Bool, false, Option, Some, None, List, [], refl, sym, ap}
use Rattle.guest_memory.specs.Memory.{Memory}
use Rattle.chain.specs.declared.budget.Budget.{Budget}
use Rattle.chain.specs.declared.budget.Progress.TheVariants as progress
use Rattle.chain.specs.declared.fault.Fault.{Fault}
use Rattle.chain.specs.Service.{Site}
use Rattle.sector_cache.specs.Disk.{Disk}
use Rattle.mmio_window.specs.declared.queue.Queue.{Queue}
use Rattle.mmio_window.specs.declared.queue.Token.{Token}
use Rattle.mmio_window.specs.declared.stage.Stage.{Stage}
use Rattle.mmio_window.specs.declared.stage.Stage.TheVariants as at_piece
use Rattle.mmio_window.specs.Pieces.{ServesTo}
use Rattle.mmio_window.specs.Queue.{IsTaken, entry_of}
use Rattle.mmio_window.specs.Serving.{after_service, ending_of, site_at}
use Rattle.mmio_window.specs.Window.{WindowState, queue_at, with_ring}
use Rattle.mmio_window.proofs.Pieces.{queue_stands_open, with_ring_twice}
use Rattle.shared_memory.specs.Sightings.{Sightings, memory}
use Rattle.block_device.specs.declared.device.BlockDevice.{BlockDevice}
use Rattle.block_device.specs.Asking.{unasked_device}
use Rattle.block_device.specs.Extent.{extent_disk}
use Rattle.block_device.specs.Flights as still
use Rattle.block_device.specs.Flights.{HostedQueue, LooksFrom, unlimited}
use Rattle.block_device.specs.Hosting.{hosted_device, wants_stable}
use Rattle.racing_service.specs.declared.stage.Stage.TheVariants.{Next}
use Rattle.racing_window.specs.Queue.{racing_queue}
use Rattle.racing_hosted_disk.specs.declared.look.LookEnding.{LookEnding}
use Rattle.racing_hosted_disk.specs.declared.look.LookEnding.TheVariants as look
use Rattle.racing_hosted_disk.specs.declared.look.LookLimits.{LookLimits}
use Rattle.racing_hosted_disk.specs.Looking.{EndsLooks, Place, place_at, progress_of}
use Rattle.block_device.specs.Tags.{InFlight, free_tag}
use Rattle.racing_guest.specs.Block.{fault_met, showing}
use Rattle.standing_guest.specs.Rest.{IsAtRest, OfferStands, WindowRests, WindowStands}
use Rattle.standing_guest.proofs.AnyDisk.{end_over, service_over}
use Rattle.standing_guest.proofs.Coming.{Here, IsOpen}
use Rattle.standing_guest.proofs.Ending.{Ends, ends_all}
use Rattle.standing_guest.proofs.Round.{EndsPiece}
use Rattle.standing_guest.proofs.Notifying.{first_is_left, without_fault}
use Rattle.standing_guest.proofs.Tags.{as_still, same_free}

abbrev pub Tags : Type 0
Tags = List (Option (InFlight Token))

-- the slot's queue
abbrev pub queue_of : Memory → WindowState → Tags → HostedQueue
queue_of m w tags = record { memory = m; window = w; tags = as_still tags }

-- The window shows this ring, and is that of the event but for it.
pub record Shows (start : WindowState) (stable : Bool) (w : WindowState) (queue : Queue) : Type 0 where
  pub ready : queue_at 0 w ≡ Some queue
  pub later : (ring : Queue) → with_ring 0 w ring ≡ with_ring 0 start ring
  pub is_stable : wants_stable w ≡ stable

pub shows_next : (start : WindowState) (stable : Bool) (w : WindowState) (queue ring : Queue) → Shows start stable w queue
    → Shows start stable (with_ring 0 w ring) ring
shows_next start stable w queue ring s = record {
  ready = queue_stands_open 0 w queue ring s.ready;
  later = λ next. with_ring_twice 0 w ring next ∙ s.later next;
  is_stable = s.is_stable;
}

-- what the window shows behind looks, by what is said of their end
shows_so : (start w' : WindowState) (last ring : Queue) (end ending : LookEnding) (wanted asked : Bool) (met : Option Fault)
    → w' ≡ showing start last ending wanted → end ≡ ending → fault_met end ≡ met → wanted ≡ asked → last ≡ ring
    → w' ≡ after_service (ending_of met) asked (with_ring 0 start ring)
shows_so start w' last ring end ending wanted asked met shown is fault told rings =
    shown ∙ rw (← is, fault, told, rings) refl

-- ---- a piece that ends is one over any disk

module _ (device : BlockDevice) (disk : Disk) (m n : Memory) (w : WindowState) (queue last : Queue) (met : Option Fault)
    (asked : Bool) (ready : queue_at 0 w ≡ Some queue) where
  ends_over : (piece : Stage) → EndsPiece device piece (site_at m queue tt) (site_at n last tt) (ending_of met) asked
      → ServesTo piece (unasked_device device) unlimited 0 (queue_at 0 w) progress.Done m n w
      (after_service (ending_of met) asked (with_ring 0 w last)) disk disk
  ends_over at_piece.First e = rw ready (record {
    ending = ending_of met;
    notified = record {
      last = last;
      wanted = asked;
      service = service_over device disk met (site_at m queue tt) (site_at n last tt) asked e;
      window = refl;
    };
  })
  ends_over at_piece.Next e = rw ready (record {
    ending = ending_of met;
    finished = record {
      last = last;
      wanted = asked;
      ends = end_over device disk met (site_at m queue tt) (site_at n last tt) asked e;
      window = refl;
    };
  })

module _ (device : BlockDevice) (limits : LookLimits) (stable : Bool) (first : Memory) (start w' : WindowState) (new : Sightings)
    (last : Queue) (left : Budget) (tags' : Tags) where
  -- the guest is so behind its call
  abbrev pub IsLeftSo : Memory → WindowState → Tags → Type 0
  IsLeftSo m w tags = (memory new ≡ m) × (w' ≡ w) × (tags' ≡ tags)

  -- A slot's look goes on so from a piece on, and is all where nothing is left to be done behind it.
  pub record Goes (piece : Stage) (before : HostedQueue) : Type 0 where
    pub asked : List still.InFlight
    pub memory : Memory
    pub window : WindowState
    pub tags : Tags
    pub looks : LooksFrom device piece before asked (queue_of memory window tags)
    pub whole : WindowRests (hosted_device device) 0 memory window tt → IsLeftSo memory window tags
    pub stands : WindowStands 0 first memory window → IsLeftSo memory window tags

  -- ---- the piece ends

  abbrev pub EndsSo : WindowState → Tags → Here → Option Fault → Bool → Type 0
  EndsSo w tags there met asked =
      IsLeftSo (memory there.sightings) (after_service (ending_of met) asked (with_ring 0 w there.ring)) tags

  pub ends_here : (piece : Stage) (m : Memory) (w : WindowState) (queue : Queue) (tags : Tags) (tag : ℕ) → Shows start stable w queue
      → free_tag tags ≡ Some tag → Ends device first piece (site_at m queue tt) (EndsSo w tags)
      → Goes piece (queue_of m w tags)
  ends_here piece m w queue tags tag s free e =
      let there = e.first in
      let n = memory there.sightings in
      record {
        asked = [];
        memory = n;
        window = after_service (ending_of e.met) e.asked (with_ring 0 w there.ring);
        tags = tags;
        looks = rw (same_free tags, free) (record {
          ends = λ disk. ends_over device (extent_disk device.extent disk) m n w queue there.ring e.met e.asked s.ready piece
              e.over.ends;
          tags = refl;
        });
        whole = λ rests. e.whole (λ met. without_fault 0 first_is_left w queue there.ring
            (λ queue. IsAtRest (hosted_device device) n queue tt) e.met e.asked s.ready met rests);
        stands = λ stands. e.whole (λ met. e.over.rests (ap ending_of met)
            (without_fault 0 first_is_left w queue there.ring (OfferStands first n) e.met e.asked s.ready met stands));
      }

  -- ---- no further look

  -- the piece has begun, and served no chain yet
  abbrev IsFresh : Memory → WindowState → Queue → Here → Type 0
  IsFresh m w queue a = (memory a.sightings ≡ m) × (a.ring ≡ queue) × (w ≡ with_ring 0 start queue)

  -- so it is where no tag is free
  abbrev pub FreshIfFull : Memory → WindowState → Queue → Place Queue Token → Type 0
  FreshIfFull m w queue a = free_tag a.tags ≡ None → IsFresh m w queue a.service

  module _ (ending : LookEnding) (wanted : Bool) (done : progress_of ending ≡ progress.Done)
      (shown : w' ≡ showing start last ending wanted) where
    abbrev Behind : Place Queue Token
    Behind = place_at new last left tags'

    pub no_more : (piece : Stage) (m : Memory) (w : WindowState) (queue : Queue) (a : Place Queue Token) → Shows start stable w queue
        → IsOpen device first piece (site_at m queue tt) a.service → FreshIfFull m w queue a
        → (end : LookEnding) → end ≡ ending
        → EndsLooks racing_queue entry_of IsTaken device false limits stable Next end [] a Behind wanted
        → Goes piece (queue_of m w a.tags)
    no_more piece m w queue a s c fresh (look.Served e) is ends =
        let over = ends_all device first piece (site_at m queue tt) a.service Behind.service ends.asked c limits.rounds e
        (rw (← is) at done) ends.service in
        ends_here piece m w queue a.tags ends.tag s ends.free (record {
          first = over.first;
          met = over.met;
          asked = over.asked;
          over = over.over;
          whole = λ rest.
              let all = over.whole rest in
              let shows = shows_so start w' last over.first.ring (look.Served e) ending wanted over.asked over.met shown is all.1
              (ends.wanted_is ∙ all.2) (ap (λ (site : Site Queue (Unit {0})). site.ring) all.0) in (
                ap (λ (site : Site Queue (Unit {0})). site.memory) all.0,
                shows ∙ ap (after_service (ending_of over.met) over.asked) (sym (s.later over.first.ring)),
                ends.tags,
              );
        })
    no_more piece m w queue a s c fresh look.Full is ends =
        let here = fresh ends.full in
        let ring : last ≡ queue = ap (λ (p : Place Queue Token). p.service.ring) ends.stands ∙ here.1 in
        let window : w' ≡ with_ring 0 start queue =
        shows_so start w' last queue look.Full ending wanted false None shown is refl ends.wanted_is ring in
        let so : IsLeftSo m w a.tags = (
          ap (λ (p : Place Queue Token). memory p.service.sightings) ends.stands ∙ here.0,
          window ∙ sym here.2,
          ap (λ (p : Place Queue Token). p.tags) ends.stands,
        ) in
        record {
          asked = [];
          memory = m;
          window = w;
          tags = a.tags;
          looks = rw (same_free a.tags, ends.full) refl;
          whole = λ rests. so;
          stands = λ stands. so;
        }
    no_more piece m w queue a s c fresh look.Limited is ends =
        let no : progress.More ≡ progress.Done = rw (← is) at done in cc
    no_more piece m w queue a s c fresh look.Idle is ends = absurd ends
