-- What is in flight is held wherever the memory lies in the same range and the queue stays; and it is where nothing is.
use Rattle.std.proofs.Common.{◌≡◌, ◌∙◌, ℕ, zero, suc, Bool, true, false, cond, List, [], ◌∷◌, Option, Some, None, get_or, replicate, refl, sym, ap, subst}
use Rattle.std.specs.Prelude.{◌&&◌, All, IfSome}
use Rattle.std.proofs.lemmas.List.Elements.{All-head, All-tail}
use Rattle.guest_memory.specs.Memory.{Memory, SameRange}
use Rattle.chain.specs.declared.fault.Fault.{Fault}
use Rattle.negotiation.specs.Negotiation.{is_live, with_needs_reset}
use Rattle.mmio_window.specs.declared.queue.Queue.{Queue}
use Rattle.mmio_window.specs.declared.queue.Token.{Token}
use Rattle.mmio_window.specs.Queue.{Fits, ahead_of, entry_of, made_as}
use Rattle.mmio_window.specs.Ready.{KeepsQueues, may_stop_queues}
use Rattle.mmio_window.specs.Serving.{after_service, ending_of}
use Rattle.mmio_window.specs.Soundness.{IsSound}
use Rattle.mmio_window.specs.Window.{WindowState, queue_at, ring_at, with_ring}
use Rattle.mmio_window.specs.Writing.{written}
use Rattle.mmio_window.proofs.Pieces.{queue_stands_open}
use Rattle.mmio_window.proofs.ReadyLemmas.{ready_queue_outlasts}
use Rattle.mmio_window.proofs.Soundness.{sound_for_the_range}
use Rattle.block_device.specs.declared.operation.Operation.{Operation}
use Rattle.block_device.specs.Operation.{LiesInside}
use Rattle.racing_service.specs.Flights.{AreAhead}
use Rattle.racing_hosted_disk.specs.Disk.{HoldsFlights, RacingHostedDisk}
use Rattle.block_device.specs.Tags.{InFlight, TagIsHeld, freed, is_any, operation_in, runs_in, tokens_of}
use Rattle.block_device.proofs.Freeing.{none_freed, none_in_flight}
use Rattle.block_device.proofs.Holding.{all_same, none_held}
use Rattle.racing_hosted_disk.proofs.Telling as telling
use Rattle.racing_guest.specs.Guest.{IsSoundGuest, RacingGuest}
use Rattle.racing_guest.specs.Block.{IsSoundBlock, RacingBlock, must_wait}

abbrev Tags : Type 0
Tags = List (Option (InFlight Token))

abbrev Ahead : Tags → Queue → Type 0
Ahead tags queue = AreAhead entry_of Fits ahead_of queue (tokens_of tags)

-- ---- nothing is in flight

none_ahead : (found : Option Queue) (tags : Tags) → is_any tags ≡ false → IfSome found (Ahead tags)
none_ahead None tags none = tt
none_ahead (Some queue) tags none = telling.none_ahead entry_of Fits ahead_of queue tags none

-- so a block device is sound whose window is
pub idle_sound : (m : Memory) (w : WindowState) (disk : RacingHostedDisk Token) → is_any disk.tags ≡ false → IsSound m w
    → IsSoundBlock m (record { window = w; disk = disk })
idle_sound m w disk none sound = record {
  window = sound;
  each = none_held disk.device.extent.count m disk.tags none;
  ahead = none_ahead (queue_at 0 w) disk.tags none;
}

pub fresh_sound : (m : Memory) (w : WindowState) (disk : RacingHostedDisk Token) (depth : ℕ)
    → disk.tags ≡ replicate depth None → IsSound m w → IsSoundBlock m (record { window = w; disk = disk })
fresh_sound m w disk depth is sound = idle_sound m w disk (ap (λ (t : Tags). is_any t) is ∙ none_in_flight _ depth) sound

pub freed_sound : (m : Memory) (w : WindowState) (disk : RacingHostedDisk Token) (tags : Tags) → disk.tags ≡ freed tags
    → IsSound m w → IsSoundBlock m (record { window = w; disk = disk })
freed_sound m w disk tags is sound = idle_sound m w disk (ap (λ (t : Tags). is_any t) is ∙ none_freed tags) sound

-- ---- another memory of the range

pub sound_still : (m n : Memory) (block : RacingBlock) → SameRange m n → IsSoundBlock m block → IsSoundBlock n block
sound_still m n block same sound = record {
  window = sound_for_the_range m n block.window sound.window same;
  each = all_same block.disk.device.extent.count m n block.disk.tags same sound.each;
  ahead = sound.ahead;
}

pub guest_still : (m n : Memory) (guest : RacingGuest) → SameRange m n → IsSoundGuest m guest → IsSoundGuest n guest
guest_still m n guest same sound = record {
  block = sound_still m n guest.block same sound.block;
  console = sound_for_the_range m n guest.console.window sound.console same;
}

-- ---- a write to the window

ahead_still : (w w' : WindowState) (tags : Tags) (found : Option Queue) → KeepsQueues w w' → queue_at 0 w ≡ found
    → IfSome found (Ahead tags) → IfSome (queue_at 0 w') (Ahead tags)
ahead_still w w' tags None keeps is ahead = rw (keeps.unserved 0 is) tt
ahead_still w w' tags (Some queue) keeps is ahead = rw (keeps.served 0 queue is) ahead

-- one that doesn't wait leaves what is in flight held
pub written_sound : (offset width value : ℕ) (m : Memory) (block : RacingBlock) → must_wait offset block ≡ false
    → IsSound m (written offset width value m block.window) → IsSoundBlock m block
    → IsSoundBlock m (record block { window = written offset width value m block.window })
written_sound offset width value m block free window sound =
    by_tags (is_any block.disk.tags) refl (may_stop_queues offset) refl free
  where
    by_tags : (any : Bool) → is_any block.disk.tags ≡ any → (stops : Bool) → may_stop_queues offset ≡ stops
        → (any && stops) ≡ false → IsSoundBlock m (record block { window = written offset width value m block.window })
    by_tags false none stops is free = idle_sound m (written offset width value m block.window) block.disk none window
    by_tags true some true is free = absurd (cc)
    by_tags true some false is free = record {
      window = window;
      each = sound.each;
      ahead = ahead_still block.window (written offset width value m block.window) block.disk.tags
          (queue_at 0 block.window) (ready_queue_outlasts offset width value m block.window is) refl sound.ahead;
    }

-- ---- a service

pub if_live : (live : Bool) (ring : Option Queue) (queue : Queue) → cond live ring None ≡ Some queue → ring ≡ Some queue
if_live true ring queue e = e
if_live false ring queue e = cc e

kept_if : (live : Bool) (ring : Option Queue) (queue : Queue) (P : Queue → Type 0) → ring ≡ Some queue → P queue
    → IfSome (cond live ring None) P
kept_if true ring queue P e p = subst (λ (o : Option Queue). IfSome o P) (sym e) p
kept_if false ring queue P e p = tt

-- what a window shows of a service leaves its queue, or the window isn't live
shown : (w : WindowState) (queue : Queue) (P : Queue → Type 0) (fault : Option Fault) (wanted : Bool)
    → queue_at 0 w ≡ Some queue → P queue → IfSome (queue_at 0 (after_service (ending_of fault) wanted w)) P
shown w queue P None true e p = subst (λ (o : Option Queue). IfSome o P) (sym e) p
shown w queue P None false e p = subst (λ (o : Option Queue). IfSome o P) (sym e) p
shown w queue P (Some fault) true e p =
    kept_if (is_live (with_needs_reset w.negotiation)) (ring_at 0 w) queue P
    (if_live (is_live w.negotiation) (ring_at 0 w) queue e) p
shown w queue P (Some fault) false e p =
    kept_if (is_live (with_needs_reset w.negotiation)) (ring_at 0 w) queue P
    (if_live (is_live w.negotiation) (ring_at 0 w) queue e) p

module _ (old new : Memory) (w w' : WindowState) (queue last : Queue) (disk : RacingHostedDisk Token) (fault : Option Fault)
    (wanted : Bool) (sound : IsSound old w) (same : SameRange old new) (ready : queue_at 0 w ≡ Some queue)
    (made : made_as last ≡ made_as queue) (is : w' ≡ after_service (ending_of fault) wanted (with_ring 0 w last)) where
  pub served_sound : HoldsFlights entry_of Fits ahead_of new last disk → IsSound new w'
      → IsSoundBlock new (record { window = w'; disk = disk })
  served_sound held window = record {
    window = window;
    each = held.each;
    ahead = subst (λ (v : WindowState). IfSome (queue_at 0 v) (Ahead disk.tags)) (sym is)
        (shown (with_ring 0 w last) last (Ahead disk.tags) fault wanted (queue_stands_open 0 w queue last ready) held.ahead);
  }

-- ---- what the host is told

at_tag : (capacity : ℕ) (m : Memory) (tags : Tags) (i : ℕ) → All (TagIsHeld capacity m) tags
    → TagIsHeld capacity m (get_or tags i None)
at_tag capacity m [] i held = tt
at_tag capacity m (tag ∷ tags) zero held = All-head (TagIsHeld capacity m) tag tags held
at_tag capacity m (tag ∷ tags) (suc i) held =
    at_tag capacity m tags i (All-tail (TagIsHeld capacity m) tag tags held)

inside_tag : (capacity : ℕ) (m : Memory) (tag : Option (InFlight Token)) (operation : Operation)
    → TagIsHeld capacity m tag → operation_in tag ≡ Some operation → LiesInside capacity m operation (runs_in tag)
inside_tag capacity m None operation held is = absurd (cc is)
inside_tag capacity m (Some here) operation held is =
    let same : here.flight.operation ≡ operation = cc is in
    subst (λ (o : Operation). LiesInside capacity m o here.runs) same held.inside

pub told_inside : (m : Memory) (block : RacingBlock) (tag : ℕ) (operation : Operation) → IsSoundBlock m block
    → operation_in (get_or block.disk.tags tag None) ≡ Some operation
    → LiesInside block.disk.device.extent.count m operation (runs_in (get_or block.disk.tags tag None))
told_inside m block tag operation sound is =
    inside_tag block.disk.device.extent.count m (get_or block.disk.tags tag None) operation
    (at_tag block.disk.device.extent.count m block.disk.tags tag sound.each) is
