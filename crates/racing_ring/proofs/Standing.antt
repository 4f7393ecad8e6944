-- What is given back to, and closed for, a guest that stands still.
use Rattle.std.proofs.Common.{◌≡◌, ◌∙◌, ℕ, ◌+◌, ◌*◌, ◌^◌, ◌%◌, ◌<◌, ◌↔◌, Bool, true, false, ap, refl, arith, mod-lt}
use Rattle.std.specs.Prelude.{IsTrue, if◌then◌else◌}
use Rattle.guest_memory.specs.Memory.{Memory, put_num}
use Rattle.chain.specs.declared.state.RingState.{RingState}
use Rattle.split_ring.specs.Ring.{LiesIn, used_entry, next_place, next_taken, with_used}
use Rattle.split_ring.specs.Kind.{split_kind}
use Rattle.split_ring.proofs.Using.{used_written}
use Rattle.shared_memory.specs.Sightings.{Sightings, Stores, memory}
use Rattle.racing_ring.specs.Split.{IsGiven, IsClosed, StoresEvent}

-- a store into the memory of a guest that stands still
pub stored_still : (old new : Sightings) (a k v : ℕ) → Stores false old new a k v → memory new ≡ put_num (memory old) a k v
stored_still old new a k v s = s.stored ∙ ap (λ (m : Memory). put_num m a k v) s.interference

pub given_still : (old new : Sightings) (ring : RingState) (head len : ℕ) → LiesIn (memory old) ring.setup
    → 0 < ring.setup.size → head < 2 ^ 32 → IsGiven false old new ring head len
    → memory new ≡ with_used (memory old) ring head len
given_still old new ring head len lies some small given =
    used_written (memory old) (memory given.between) (memory new) ring (ring.place % ring.setup.size)
    (len * 2 ^ 32 + head) head len (next_place ring) lies refl (mod-lt ring.place some)
    (stored_still old given.between (used_entry ring) 8 (len * 2 ^ 32 + head) given.entry) refl small
    (stored_still given.between new (ring.setup.device + 2) 2 (next_place ring) given.idx) refl

event_still : (b : Bool) (flagged written : Sightings) (ring : RingState) → StoresEvent b false flagged written ring
    → memory written ≡ (if b then put_num (memory flagged) (ring.setup.device + 4 + 8 * ring.setup.size) 2
    (next_taken ring) else memory flagged)
event_still false flagged written ring e = ap memory e
event_still true flagged written ring s =
    stored_still flagged written (ring.setup.device + 4 + 8 * ring.setup.size) 2 (next_taken ring) s

pub closed_still : (old new : Sightings) (ring : RingState) (wanted : Bool) → IsClosed false old new ring wanted
    → memory new ≡ split_kind.closed (memory old) ring
closed_still old new ring wanted closed =
    let c = closed.closing in
    closed.reads.interference new.now closed.reads.later (omega arith)
    ∙ event_still ring.setup.event_idx c.flagged closed.written ring c.event
    ∙ ap (λ (m : Memory). if ring.setup.event_idx then put_num m (ring.setup.device + 4 + 8 * ring.setup.size) 2
    (next_taken ring) else m) (stored_still old c.flagged ring.setup.device 2 0 c.flags)

pub wanted_still : (old new : Sightings) (ring : RingState) (wanted : Bool) → IsClosed false old new ring wanted
    → IsTrue wanted ↔ split_kind.Wants (memory new) ring
wanted_still old new ring wanted closed = closed.wants
