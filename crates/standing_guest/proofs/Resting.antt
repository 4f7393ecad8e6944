-- Behind a service of a guest that stands still its queue is at rest, where what says what is on offer stands as it did.
use Rattle.std.proofs.Common.{◌≡◌, ◌∙◌, ℕ, ◌+◌, ◌-◌, ◌%◌, ◌<◌, ◌≤◌, Bool, true, false, Option, Some, None, List, [], ◌∷◌, refl, ap, subst, arith}
use Rattle.std.specs.Prelude.{◌&&◌, ⊤, if◌then◌else◌, nat_lt}
use Rattle.std.proofs.lemmas.Bool.Decides.{nat_tests}
use Rattle.guest_memory.specs.Memory.{Memory}
use Rattle.chain.specs.declared.fault.Fault.{Fault}
use Rattle.chain.specs.declared.fault.Fault.TheVariants.{Jump}
use Rattle.chain.specs.declared.state.RingState.{RingState}
use Rattle.chain.specs.Service.{Device, Entry, IsService, Served, ServesAll, Site, Spent, Works, open_site}
use Rattle.chain.specs.Setup.{launched, shut}
use Rattle.split_ring.specs.Kind.{past}
use Rattle.split_ring.specs.Ring.{avail_idx, next_taken, on_offer}
use Rattle.mmio_window.specs.declared.queue.Queue.{Queue}
use Rattle.mmio_window.specs.declared.queue.Queue.TheVariants.{Packed, Split}
use Rattle.mmio_window.specs.Queue.{queue_kind}
use Rattle.mmio_window.specs.Serving.{site_at}
use Rattle.standing_guest.specs.Rest.{IsAtRest, OfferStands}

-- ---- the available idx, and the place of the next chain

step_ahead : (place ahead : ℕ) → ((place + 1) % 65536 + ahead) % 65536 ≡ ((place + ahead) % 65536 + 1) % 65536
step_ahead place ahead = omega arith

one_less : (idx n : ℕ) → n < 65536 → 0 < (idx + (65536 - n)) % 65536
    → (idx + (65536 - (n + 1) % 65536)) % 65536 ≡ (idx + (65536 - n)) % 65536 - 1
one_less idx n below some = omega (arith, below, some)

below_all : (place ahead : ℕ) → (place + ahead) % 65536 < 65536
below_all place ahead = omega arith

-- a chain further one less is on offer
offer_past : (m : Memory) (ring : RingState) → 0 < on_offer m ring → on_offer m (past ring) ≡ on_offer m ring - 1
offer_past m ring some =
    ap (λ (n : ℕ). (avail_idx m ring + (65536 - n)) % 65536) (step_ahead ring.place ring.ahead)
    ∙ one_less (avail_idx m ring) (next_taken ring) (below_all ring.place ring.ahead) some

-- and so it is behind one that stays in flight
ahead_one : (place ahead : ℕ) → (place + (ahead + 1)) % 65536 ≡ ((place + ahead) % 65536 + 1) % 65536
ahead_one place ahead = omega arith

offer_launched : (m : Memory) (ring : RingState) → 0 < on_offer m ring
    → on_offer m (launched 1 ring) ≡ on_offer m ring - 1
offer_launched m ring some =
    ap (λ (n : ℕ). (avail_idx m ring + (65536 - n)) % 65536) (ahead_one ring.place ring.ahead)
    ∙ one_less (avail_idx m ring) (next_taken ring) (below_all ring.place ring.ahead) some

-- ---- a service

-- so many are on offer in this memory as the service may still take, and with those in flight no more than the queue has
abbrev pub Counts : Memory → Queue → Type 0
Counts m (Split ring) = (on_offer m ring ≡ ring.pending) × (ring.ahead + ring.pending ≤ ring.setup.size)
Counts m (Packed ring) = ⊤

some_left : (takes : Bool) (pending : ℕ) → (takes && nat_lt 0 pending) ≡ true → 0 < pending
some_left true pending ready = grind (arith, nat_tests, ready)
some_left false pending ready = let no : false ≡ true = ready in cc

counts_past : (takes : Bool) (m n : Memory) (queue : Queue) (entry : Entry) → (takes && queue_kind.offers n queue) ≡ true
    → Counts m queue → Counts m (queue_kind.past queue entry)
counts_past takes m n (Split ring) entry ready counts =
    let some = some_left takes ring.pending ready in
    let offered : 0 < on_offer m ring = rw counts.0 some in
    (offer_past m ring offered ∙ ap (λ (n : ℕ). n - 1) counts.0, omega (arith, counts.1, some))
counts_past takes m n (Packed ring) entry ready counts = tt

pub counts_all : {State : Type 0} (device : Device State) (m : Memory) (chains : List (Served State)) (a b : Site Queue State)
    → Counts m a.ring → ServesAll queue_kind device a chains b → Counts m b.ring
counts_all {State} device m [] a b counts serves =
    subst (λ (site : Site Queue State). Counts m site.ring) serves counts
counts_all device m (s ∷ chains) a b counts serves =
    counts_all device m chains _ b
    (counts_past (device.takes a.state) m a.memory a.ring s.entry serves.0.ready counts) serves.1

pub counts_launched : (m n : Memory) (queue : Queue) (entry : Entry) → queue_kind.offers n queue ≡ true → Counts m queue
    → Counts m (queue_kind.launched queue entry)
counts_launched m n (Split ring) entry ready counts =
    let some = some_left true ring.pending ready in
    let offered : 0 < on_offer m ring = rw counts.0 some in
    (offer_launched m ring offered ∙ ap (λ (n : ℕ). n - 1) counts.0, omega (arith, counts.1, some))
counts_launched m n (Packed ring) entry ready counts = tt

no_jump : (jumps : Bool) (offered : ℕ) → (if jumps then Some Jump else None) ≡ None
    → offered ≡ (if jumps then 0 else offered)
no_jump true offered none = cc
no_jump false offered none = refl

few : (jumps : Bool) (n size : ℕ) → nat_lt size n ≡ jumps → (if jumps then Some Jump else None) ≡ None → n ≤ size
few true n size is none = cc
few false n size is none = grind (arith, nat_tests, is)

pub counts_opened : (m : Memory) (queue : Queue) → queue_kind.opening_fault m queue ≡ None → Counts m (queue_kind.opened m queue)
counts_opened m (Split ring) none =
    let jumps = nat_lt ring.setup.size (ring.ahead + on_offer m ring) in
    let is = no_jump jumps (on_offer m ring) none in
    let most = few jumps (ring.ahead + on_offer m ring) ring.setup.size refl none in
    (is, subst (λ (n : ℕ). ring.ahead + n ≤ ring.setup.size) is most)
counts_opened m (Packed ring) none = tt

-- ---- behind it

not_more : (n size : ℕ) → n ≤ size → nat_lt size n ≡ false
not_more n size most = grind (arith, nat_tests, most)

and_none : (takes going : Bool) → (takes && (going && false)) ≡ false
and_none true true = refl
and_none true false = refl
and_none false going = refl

rest_split : {State : Type 0} (device : Device State) (old new : Memory) (ring : RingState) (state : State)
    → Counts old (Split ring) → (device.takes state && nat_lt 0 ring.pending) ≡ false → avail_idx new ring ≡ avail_idx old ring
    → IsAtRest device new (Split (shut ring)) state
rest_split device old new ring state counts none stands =
    let same : on_offer new (shut ring) ≡ ring.pending =
    ap (λ (idx : ℕ). (idx + (65536 - next_taken ring)) % 65536) stands ∙ counts.0 in
    let calm : nat_lt ring.setup.size (ring.ahead + ring.pending) ≡ false = not_more _ ring.setup.size counts.1 in
    record {
      opens = rw (same, calm) refl;
      none = rw (same, calm) none;
    }

pub rest_at : {State : Type 0} (device : Device State) (old new : Memory) (queue : Queue) (m : Memory) (state : State)
    → Counts old queue → (device.takes state && queue_kind.offers m queue) ≡ false → OfferStands old new (queue_kind.shut queue)
    → IsAtRest device new (queue_kind.shut queue) state
rest_at device old new (Split ring) m state counts none stands = rest_split device old new ring state counts none stands
rest_at device old new (Packed ring) m state counts none stands = record {
  opens = refl;
  none = rw stands (and_none (device.takes state) (nat_lt 0 (ring.setup.size - ring.ahead)));
}

module _ {State : Type 0} (device : Device State) where
  rest_works : (opening : Option Fault) (old new : Memory) (queue : Queue) (a last : Site Queue State)
      → (opening ≡ None → Counts old a.ring) → Works queue_kind device opening a Spent last
      → OfferStands old new (queue_kind.shut last.ring) → IsAtRest device new (queue_kind.shut last.ring) last.state
  rest_works (Some fault) old new queue a last counts w stands = let no : Spent ≡ _ = w.0 in cc
  rest_works None old new queue a last counts w stands =
      let all = counts_all device old w.chains a w.at (counts refl) w.serves in
      let same : last ≡ w.at = w.stands in
      rw same (rest_at device old new w.at.ring w.at.memory w.at.state all w.ends (rw same at stands))

  pub rest_behind : (old new : Memory) (queue last : Queue) (s s' : State) (wanted : Bool)
      → IsService queue_kind device (site_at old queue s) (site_at new last s') Spent wanted → OfferStands old new last
      → IsAtRest device new last s'
  rest_behind old new queue last s s' wanted service stands =
      let closed = service.closed in
      let ring : last ≡ queue_kind.shut service.last.ring = ap (λ (site : Site Queue State). site.ring) closed in
      let state : s' ≡ service.last.state = ap (λ (site : Site Queue State). site.state) closed in
      rw (ring, state) (rest_works (queue_kind.opening_fault old queue) old new queue (open_site queue_kind device
      (site_at old queue s)) service.last (counts_opened old queue) service.works (rw ring at stands))
