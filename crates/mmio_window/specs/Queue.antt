-- A ready queue as a kind of ring, by cases: what a service of it is. Devices speak of this kind alone.
use Rattle.std.specs.Prelude.{◌≡◌, ℕ, ◌<◌, ◌≤◌, ⊤, Bool, Option, Some, None, List, sum_by, All}
use Rattle.guest_memory.specs.Memory.{Memory}
use Rattle.chain.specs.declared.segment.Buffer.{Buffer}
use Rattle.chain.specs.declared.fault.Fault.{Fault}
use Rattle.chain.specs.Service.{Entry, Kind}
use Rattle.chain.specs.Setup.{new_ring}
use Rattle.split_ring.specs.Kind as split
use Rattle.split_ring.specs.Kind.{split_kind}
use Rattle.split_ring.specs.Ring as split_ring
use Rattle.packed_ring.specs.Kind as packed
use Rattle.packed_ring.specs.Kind.{packed_kind}
use Rattle.packed_ring.specs.Ring as packed_ring
use Rattle.mmio_window.specs.declared.queue.Queue.{Queue}
use Rattle.mmio_window.specs.declared.queue.Queue.TheVariants.{Split, Packed}
use Rattle.mmio_window.specs.declared.queue.Token.{Token}
use Rattle.mmio_window.specs.declared.queue.Token.TheVariants as token

-- the queue's areas lie in the memory
abbrev pub LiesIn : Memory → Queue → Type 0
LiesIn m (Split ring) = split_ring.LiesIn m ring.setup
LiesIn m (Packed ring) = packed_ring.LiesIn m ring.setup

-- the queue as it was when it was made ready: of the same size, areas and features, at its first place
abbrev pub made_as : Queue → Queue
made_as (Split ring) = Split (new_ring ring.setup)
made_as (Packed ring) = Packed (new_ring ring.setup)

-- how much a service may still take: so many chains of a split ring, so many places of a packed one
abbrev pub left_of : Queue → ℕ
left_of (Split ring) = ring.pending
left_of (Packed ring) = ring.pending

-- the entry that a taken chain is given back by
abbrev pub entry_of : Token → Entry
entry_of (token.Split taken) = split.entry_of taken.head
entry_of (token.Packed taken) = packed.entry_of taken.id taken.length

-- the token is of the queue's kind and names the chain at its place, and the service may still take it
abbrev pub IsTaken : Queue → Token → Type 0
IsTaken (Split ring) (token.Split taken) = split.IsTaken ring taken
IsTaken (Packed ring) (token.Packed taken) = packed.IsTaken ring taken
IsTaken _ _ = ⊥

-- the token is of the queue's kind and names a chain in flight
abbrev pub IsAhead : Queue → Token → Type 0
IsAhead (Split ring) (token.Split taken) = split.IsAhead ring taken
IsAhead (Packed ring) (token.Packed taken) = packed.IsAhead ring taken
IsAhead _ _ = ⊥

-- the token is of the queue's kind, and its list fits it
abbrev pub Fits : Queue → Token → Type 0
Fits (Split ring) (token.Split taken) = Unit {0}
Fits (Packed ring) (token.Packed taken) = (0 < taken.length) × (taken.length ≤ ring.setup.size)
Fits _ _ = ⊥

-- how many places further the next chain is: those of the chains in flight
abbrev pub ahead_of : Queue → ℕ
ahead_of (Split ring) = ring.ahead
ahead_of (Packed ring) = ring.ahead

-- ---- chains in flight, each with a tag of its own

abbrev pub TagFits : Queue → Option Token → Type 0
TagFits queue None = ⊤
TagFits queue (Some token) = Fits queue token

abbrev pub tag_places : Option Token → ℕ
tag_places None = 0
tag_places (Some token) = (entry_of token).places

-- The chains of these tags are in flight: their places lie between the next used entry and the next chain.
pub record AreAhead (queue : Queue) (tags : List (Option Token)) : Type 0 where
  pub each : All (TagFits queue) tags
  pub places : sum_by tag_places tags ≤ ahead_of queue

-- No others are in flight: the next chain is as many places ahead as they have.
abbrev pub AreAll : Queue → List (Option Token) → Type 0
AreAll queue tags = sum_by tag_places tags ≡ ahead_of queue

-- ---- the kind, each part by cases

abbrev pub opening_fault : Memory → Queue → Option Fault
opening_fault m (Split ring) = split_kind.opening_fault m ring
opening_fault m (Packed ring) = packed_kind.opening_fault m ring

abbrev pub opened : Memory → Queue → Queue
opened m (Split ring) = Split (split_kind.opened m ring)
opened m (Packed ring) = Packed (packed_kind.opened m ring)

abbrev pub offers : Memory → Queue → Bool
offers m (Split ring) = split_kind.offers m ring
offers m (Packed ring) = packed_kind.offers m ring

abbrev pub Offers : Memory → Queue → List Buffer → Entry → Type 0
Offers m (Split ring) buffers entry = split_kind.Offers m ring buffers entry
Offers m (Packed ring) buffers entry = packed_kind.Offers m ring buffers entry

abbrev pub HasFault : Memory → Queue → Fault → Type 0
HasFault m (Split ring) fault = split_kind.HasFault m ring fault
HasFault m (Packed ring) fault = packed_kind.HasFault m ring fault

abbrev pub used : Memory → Queue → Entry → ℕ → Bool → Memory
used m (Split ring) entry len wrote = split_kind.used m ring entry len wrote
used m (Packed ring) entry len wrote = packed_kind.used m ring entry len wrote

abbrev pub past : Queue → Entry → Queue
past (Split ring) entry = Split (split_kind.past ring entry)
past (Packed ring) entry = Packed (packed_kind.past ring entry)

abbrev pub launched : Queue → Entry → Queue
launched (Split ring) entry = Split (split_kind.launched ring entry)
launched (Packed ring) entry = Packed (packed_kind.launched ring entry)

abbrev pub landed : Queue → Entry → Queue
landed (Split ring) entry = Split (split_kind.landed ring entry)
landed (Packed ring) entry = Packed (packed_kind.landed ring entry)

abbrev pub stopped : Queue → Queue
stopped (Split ring) = Split (split_kind.stopped ring)
stopped (Packed ring) = Packed (packed_kind.stopped ring)

abbrev pub closed : Memory → Queue → Memory
closed m (Split ring) = split_kind.closed m ring
closed m (Packed ring) = packed_kind.closed m ring

abbrev pub Wants : Memory → Queue → Type 0
Wants m (Split ring) = split_kind.Wants m ring
Wants m (Packed ring) = packed_kind.Wants m ring

abbrev pub shut : Queue → Queue
shut (Split ring) = Split (split_kind.shut ring)
shut (Packed ring) = Packed (packed_kind.shut ring)

-- a ready queue as a kind of ring
abbrev pub queue_kind : Kind Queue
queue_kind = record {
  opening_fault = opening_fault;
  opened = opened;
  offers = offers;
  Offers = Offers;
  HasFault = HasFault;
  used = used;
  past = past;
  launched = launched;
  landed = landed;
  stopped = stopped;
  closed = closed;
  Wants = Wants;
  shut = shut;
}
