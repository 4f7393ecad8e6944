-- A completion of a disk that stands still is one of hosted_disk.
use Rattle.std.proofs.Common.{◌≡◌, ◌∙◌, ℕ, Bool, true, false, Option, Some, None, List, [], ◌∷◌, refl, sym, ap, subst}
use Rattle.std.specs.Prelude.{◌||◌}
use Rattle.std.specs.Option.{option_map}
use Rattle.guest_memory.specs.Memory.{Memory, SameRange}
use Rattle.guest_memory.proofs.Ranges.{put_range, same_trans}
use Rattle.chain.specs.declared.budget.Budget.{Budget}
use Rattle.chain.specs.declared.fault.Fault.{Fault}
use Rattle.chain.specs.Service.{Entry, Spent}
use Rattle.mmio_window.specs.declared.queue.Queue.{Queue}
use Rattle.mmio_window.specs.declared.queue.Queue.TheVariants.{Packed, Split}
use Rattle.mmio_window.specs.declared.queue.Token.{Token}
use Rattle.mmio_window.specs.Queue.{entry_of, landed, made_as, queue_kind, shut}
use Rattle.mmio_window.specs.Serving.{after_service, ending_of}
use Rattle.mmio_window.specs.Soundness.{IsSound}
use Rattle.mmio_window.specs.Window.{WindowState, queue_at, with_ring}
use Rattle.mmio_window.proofs.Pieces.{queue_stands_open, with_ring_twice}
use Rattle.mmio_window.proofs.Soundness.{serving_keeps_sound}
use Rattle.shared_memory.specs.Sightings.{Sightings, memory}
use Rattle.block_device.specs.declared.device.BlockDevice.{BlockDevice}
use Rattle.block_device.specs.declared.operation.Verdict.{Verdict}
use Rattle.block_device.specs.Asking.{status_by}
use Rattle.block_device.specs.Flights.{HostedQueue, IsLanding}
use Rattle.block_device.specs.Hosting.{wants_stable}
use Rattle.block_device.specs.Request.{code_of}
use Rattle.racing_service.specs.declared.stage.Stage.TheVariants.{First}
use Rattle.racing_window.specs.Queue.{racing_queue}
use Rattle.racing_window.proofs.Rings.{IsQueueSound, queue_stands_still}
use Rattle.racing_window.proofs.Sizes.{sound_queue}
use Rattle.racing_hosted_disk.specs.declared.look.LookEnding.{LookEnding}
use Rattle.racing_hosted_disk.specs.Laws.{LandsAsOne}
use Rattle.racing_hosted_disk.specs.Looking.{Place, place_at}
use Rattle.block_device.specs.Tags.{InFlight}
use Rattle.racing_hosted_disk.specs.Told.{Lands}
use Rattle.racing_hosted_disk.proofs.Standing.{lands_as_one}
use Rattle.racing_guest.specs.Block.{fault_met, showing}
use Rattle.standing_guest.specs.Slot.{in_flight}
use Rattle.standing_guest.proofs.Closing.{IsJustClosed}
use Rattle.standing_guest.proofs.Tags.{as_still, same_at, same_set}

-- ---- what the window shows of a completion, and of the looks behind it

-- the window behind a completion
abbrev pub landed_window : WindowState → Queue → Bool → WindowState
landed_window w ring wanted = after_service Spent wanted (with_ring 0 w ring)

pub shown_twice : (w : WindowState) (ring last : Queue) (ending : LookEnding) (before asked : Bool)
    → showing (landed_window w ring before) last ending asked ≡ showing w last ending (before || asked)
shown_twice w ring last ending before asked = by (fault_met ending) before asked
  where
    twice : with_ring 0 (with_ring 0 w ring) last ≡ with_ring 0 w last
    twice = with_ring_twice 0 w ring last

    by : (fault : Option Fault) (before asked : Bool)
        → after_service (ending_of fault) asked (with_ring 0 (after_service Spent before (with_ring 0 w ring)) last)
        ≡ after_service (ending_of fault) (before || asked) (with_ring 0 w last)
    by None true true = refl
    by None true false = refl
    by None false true = refl
    by None false false = refl
    by (Some fault) true true = refl
    by (Some fault) true false = refl
    by (Some fault) false true = refl
    by (Some fault) false false = refl

made_landed : (queue : Queue) (entry : Entry) → made_as (shut (landed queue entry)) ≡ made_as queue
made_landed (Split ring) entry = refl
made_landed (Packed ring) entry = refl

sound_landed : (m : Memory) (queue : Queue) (entry : Entry) → IsQueueSound m queue → IsQueueSound m (landed queue entry)
sound_landed m (Split ring) entry sound = record { lies = sound.lies; some = sound.some }
sound_landed m (Packed ring) entry sound = record { some = sound.some }

-- an interrupt leaves a sound window sound
sound_shown : (m : Memory) (w : WindowState) (wanted : Bool) → IsSound m w → IsSound m (after_service Spent wanted w)
sound_shown m w true sound = record { queue_0 = sound.queue_0; queue_1 = sound.queue_1 }
sound_shown m w false sound = sound

ready_shown : (w : WindowState) (queue ring : Queue) (wanted : Bool) → queue_at 0 w ≡ Some queue
    → queue_at 0 (landed_window w ring wanted) ≡ Some ring
ready_shown w queue ring true at = queue_stands_open 0 w queue ring at
ready_shown w queue ring false at = queue_stands_open 0 w queue ring at

-- whether the driver can flush stays
pub landed_stable : (w : WindowState) (ring : Queue) (wanted : Bool)
    → wants_stable (landed_window w ring wanted) ≡ wants_stable w
landed_stable w ring true = refl
landed_stable w ring false = refl

-- ---- a completion

module _ (device : BlockDevice) (tag : ℕ) (verdict : Verdict) (old : Sightings) (w : WindowState) (queue : Queue)
    (budget : Budget) (tags : List (Option (InFlight Token))) (there : Place Queue Token) (wanted : Bool)
    (sound : IsSound (memory old) w) (at : queue_at 0 w ≡ Some queue)
    (lands : Lands racing_queue entry_of device false tag verdict (place_at old queue budget tags) there wanted) where
  one : LandsAsOne queue_kind entry_of verdict lands.here (memory old) (memory there.service.sightings) queue
      there.service.ring wanted
  one = lands_as_one racing_queue IsQueueSound queue_stands_still entry_of device First 0 false tag verdict
      (place_at old queue budget tags) there wanted (sound_queue (memory old) w 0 queue sound at) lands

  abbrev pub landed_queue : HostedQueue
  landed_queue = record {
    memory = memory there.service.sightings;
    window = landed_window w there.service.ring wanted;
    tags = as_still there.tags;
  }

  pub is_landing : IsLanding tag verdict (record { memory = memory old; window = w; tags = as_still tags }) landed_queue
  is_landing = record {
    here = in_flight lands.here;
    there = same_at tags tag ∙ ap (option_map in_flight) lands.there;
    lands = rw at (record {
      completes = record {
        queue = queue;
        ready = at;
        given = one.given;
        behind = one.behind;
        gives = record {
          done = one.done;
          len = one.len;
          completed = record { memory = one.status; len_is = one.len_is };
          used = one.used;
          landed = one.landed;
        };
        wanted = wanted;
        closed = one.closed;
        wanted_is = one.wants;
        window = ap (λ (ring : Queue). landed_window w ring wanted) one.shut;
      };
      tags = ap as_still lands.tags ∙ same_set tags tag;
    });
  }

  pub landed_ready : queue_at 0 (landed_window w there.service.ring wanted) ≡ Some there.service.ring
  landed_ready = ready_shown w queue there.service.ring wanted at

  given_range : SameRange (memory old) one.given
  given_range =
      let m = memory old in
      let first : SameRange m one.done =
      subst (SameRange m) (sym one.status) (put_range m lands.here.flight.status (code_of (status_by verdict) ∷ [])) in
      let next : SameRange one.done one.given =
      subst (SameRange one.done) (sym one.used)
      (queue_stands_still.used_range one.done queue (entry_of lands.here.flight.token) one.len true) in
      same_trans m one.done one.given first next

  landed_range : SameRange (memory old) (memory there.service.sightings)
  landed_range =
      let last : SameRange one.given (memory there.service.sightings) =
      subst (SameRange one.given) (sym one.closed) (queue_stands_still.closed_range one.given one.behind) in
      same_trans (memory old) one.given (memory there.service.sightings) given_range last

  -- the look behind it begins behind its closing writes
  pub landed_closed : IsJustClosed (memory there.service.sightings) there.service.ring
  landed_closed = record {
    before = one.given;
    last = one.behind;
    sound = rw one.landed (sound_landed one.given queue (entry_of lands.here.flight.token)
        (queue_stands_still.in_range (memory old) one.given queue given_range
        (sound_queue (memory old) w 0 queue sound at)));
    memory = one.closed;
    shut = one.shut;
  }

  pub landed_sound : IsSound (memory there.service.sightings) (landed_window w there.service.ring wanted)
  landed_sound =
      let made : made_as there.service.ring ≡ made_as queue =
      ap made_as (one.shut ∙ ap shut one.landed) ∙ made_landed queue (entry_of lands.here.flight.token) in
      sound_shown (memory there.service.sightings) (with_ring 0 w there.service.ring) wanted
      (serving_keeps_sound (memory old) (memory there.service.sightings) w 0 queue there.service.ring sound landed_range at
      made)
