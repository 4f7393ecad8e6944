-- One service of a queue (2.7.13, 2.8.14 and 2.8.21), for every kind of ring and every device: the opening,
-- chains one after another, the closing writes, and whether the driver is to be notified.
use Rattle.std.specs.Prelude.{◌≡◌, ◌↔◌, ℕ, ◌+◌, ◌≤◌, Bool, true, false, IsTrue, ◌&&◌, Option, Some, None, List, [], ◌∷◌, ◌⊎◌, length}
use Rattle.guest_memory.specs.Memory.{Memory, put}
use Rattle.chain.specs.declared.segment.Buffer.{Buffer}
use Rattle.chain.specs.declared.fault.Fault.{Fault}
use Rattle.chain.specs.Bytes.{readable_of, writable_of}

-- what a chain gives back to its ring: its id, and how many places it takes
pub record Entry : Type 0 where
  pub id : ℕ
  pub places : ℕ

-- A kind of ring. Ring is what one ring of it is seen as: its areas, what was negotiated, its place, how
-- far a service may go, and how many places it passed.
pub record Kind (Ring : Type 0) : Type 1 where
  -- the fault that an opening meets, if any, and the ring once it is opened
  pub opening_fault : Memory → Ring → Option Fault
  pub opened : Memory → Ring → Ring
  -- whether a chain is on offer
  pub offers : Memory → Ring → Bool
  -- the chain on offer has these buffers and this entry; or it has a fault
  pub Offers : Memory → Ring → List Buffer → Entry → Type 0
  pub HasFault : Memory → Ring → Fault → Type 0
  -- the memory with a used entry: how many bytes were written without a gap, and whether any was
  pub used : Memory → Ring → Entry → ℕ → Bool → Memory
  -- the ring behind an entry, and after a fault
  pub past : Ring → Entry → Ring
  -- the ring behind a chain that stays in flight, and once such a chain's entry is written: chains in flight
  -- come back in any order
  pub launched : Ring → Entry → Ring
  pub landed : Ring → Entry → Ring
  pub stopped : Ring → Ring
  -- the memory with the closing writes, whether a notification is wanted on it, and the ring once it is
  -- closed
  pub closed : Memory → Ring → Memory
  pub Wants : Memory → Ring → Type 0
  pub shut : Ring → Ring

-- what a device does with one chain: its next state, and for each place of the writable list the byte that
-- it wrote there, if any
pub record Given (State : Type 0) : Type 0 where
  pub state : State
  pub written : List (Option ℕ)

-- A device. Given a chain it sees the readable list, as it stands before the device writes, and the length
-- of the writable list.
pub record Device (State : Type 0) : Type 1 where
  -- whether it takes a chain at all
  pub takes : State → Bool
  -- what it may do with one
  pub Gives : State → List ℕ → ℕ → Given State → Type 0
  -- it may have no memory for one
  pub LacksMemory : State → List ℕ → ℕ → Type 0

-- the memory with each byte that was written put at its place's address, in the order of the places; so
-- where two addresses agree the later byte stands
abbrev pub scattered : Memory → List ℕ → List (Option ℕ) → Memory
scattered m [] written = m
scattered m (a ∷ addrs) [] = m
scattered m (a ∷ addrs) (None ∷ written) = scattered m addrs written
scattered m (a ∷ addrs) (Some x ∷ written) = scattered (put m a (x ∷ [])) addrs written

-- how many places from the first on were written without a gap
abbrev pub used_len : List (Option ℕ) → ℕ
used_len [] = 0
used_len (None ∷ written) = 0
used_len (Some x ∷ written) = 1 + used_len written

-- whether any place was written
abbrev pub wrote : List (Option ℕ) → Bool
wrote [] = false
wrote (None ∷ written) = wrote written
wrote (Some x ∷ written) = true

-- why a service ends: no chain is on offer or none is wanted; the chain on offer has a fault; or the device
-- has no memory for it
pub data Ending : Type 0 where
  Spent : Ending
  Faulted : Fault → Ending
  Refused : Ending

-- where a service stands: the memory, the ring and the device's state
pub record Site (Ring State : Type 0) : Type 0 where
  pub memory : Memory
  pub ring : Ring
  pub state : State

-- a chain that was served: its buffers, its entry, and what the device did with it
pub record Served (State : Type 0) : Type 0 where
  pub buffers : List Buffer
  pub entry : Entry
  pub given : Given State

-- The device serves the chain of these buffers on memory old with state s: with state t and memory new
-- after it, len bytes written without a gap, and any byte written or none.
pub record Does {State : Type 0} (device : Device State) (old new : Memory) (buffers : List Buffer)
    (s t : State) (len : ℕ) (any : Bool) : Type 0 where
  pub written : List (Option ℕ)
  pub gives : device.Gives s (readable_of old buffers) (length (writable_of buffers))
      (record { state = t; written = written })
  pub each : length written ≡ length (writable_of buffers)
  pub memory : new ≡ scattered old (writable_of buffers) written
  pub len_is : len ≡ used_len written
  pub any_is : any ≡ wrote written

module _ {Ring State : Type 0} (kind : Kind Ring) (device : Device State) where
  -- a chain is on offer, and the device takes one
  abbrev pub IsReady : Site Ring State → Type 0
  IsReady site = (device.takes site.state && kind.offers site.memory site.ring) ≡ true

  -- this chain is on offer, and this is what the device does with it
  pub record ServesChain (site : Site Ring State) (s : Served State) : Type 0 where
    pub ready : IsReady site
    pub offered : kind.Offers site.memory site.ring s.buffers s.entry
    pub gives : device.Gives site.state (readable_of site.memory s.buffers)
        (length (writable_of s.buffers)) s.given
    pub each : length s.given.written ≡ length (writable_of s.buffers)

  -- where the service stands after that chain: its bytes are scattered, then its used entry is written
  abbrev pub after : Site Ring State → Served State → Site Ring State
  after site s = record {
    memory = kind.used (scattered site.memory (writable_of s.buffers) s.given.written) site.ring s.entry
        (used_len s.given.written) (wrote s.given.written);
    ring = kind.past site.ring s.entry;
    state = s.given.state;
  }

  -- these chains are served one after another, each where the one before it left off
  abbrev pub ServesAll : Site Ring State → List (Served State) → Site Ring State → Type 0
  ServesAll old [] new = old ≡ new
  ServesAll old (s ∷ chains) new = ServesChain old s × ServesAll (after old s) chains new

  -- the device has no memory for the chain on offer
  pub record Leaves (site : Site Ring State) : Type 0 where
    pub ready : IsReady site
    pub buffers : List Buffer
    pub entry : Entry
    pub offered : kind.Offers site.memory site.ring buffers entry
    pub lacks_memory : device.LacksMemory site.state (readable_of site.memory buffers)
        (length (writable_of buffers))

  -- why the service goes no further than this
  abbrev pub IsEnding : Site Ring State → Ending → Type 0
  IsEnding site Spent = (device.takes site.state && kind.offers site.memory site.ring) ≡ false
  IsEnding site (Faulted fault) = IsReady site × kind.HasFault site.memory site.ring fault
  IsEnding site Refused = Leaves site

  -- where a service stands that ends: after a fault its ring is stopped
  abbrev pub stop : Site Ring State → Ending → Site Ring State
  stop site Spent = site
  stop site (Faulted fault) = record site { ring = kind.stopped site.ring }
  stop site Refused = site

  -- chains are served from here on until the service ends, and it then stands there
  pub record Runs (start : Site Ring State) (ending : Ending) (last : Site Ring State) : Type 0 where
    pub chains : List (Served State)
    pub at : Site Ring State
    pub serves : ServesAll start chains at
    pub ends : IsEnding at ending
    pub stands : last ≡ stop at ending

  -- where a service stands once its ring is opened
  abbrev pub open_site : Site Ring State → Site Ring State
  open_site site = record site { ring = kind.opened site.memory site.ring }

  -- the work between opening and closing: none after a fault of the opening
  abbrev pub Works : Option Fault → Site Ring State → Ending → Site Ring State → Type 0
  Works (Some fault) start ending last = (ending ≡ Faulted fault) × (last ≡ start)
  Works None start ending last = Runs start ending last

  -- where a service stands once its ring is closed
  abbrev pub close_site : Site Ring State → Site Ring State
  close_site site = record site { memory = kind.closed site.memory site.ring; ring = kind.shut site.ring }

  -- one service from old to new: opening, chains, closing, and whether a notification is wanted
  pub record IsService (old new : Site Ring State) (ending : Ending) (wanted : Bool) : Type 0 where
    pub last : Site Ring State
    pub works : Works (kind.opening_fault old.memory old.ring) (open_site old) ending last
    pub closed : new ≡ close_site last
    pub wanted_is : IsTrue wanted ↔ kind.Wants (kind.closed last.memory last.ring) last.ring

  -- What a service leaves that ends for want of memory: the chains before were served; the one on offer isn't
  -- touched, and the ring is closed at its place. So whether a notification is wanted turns on the chains
  -- before it alone.
  pub record IsRefusedService (old new : Site Ring State) (wanted : Bool) : Type 0 where
    pub chains : List (Served State)
    pub at : Site Ring State
    pub opens : kind.opening_fault old.memory old.ring ≡ None
    pub serves : ServesAll (open_site old) chains at
    pub leaves : Leaves at
    pub closed : new ≡ close_site at
    pub wanted_is : IsTrue wanted ↔ kind.Wants (kind.closed at.memory at.ring) at.ring

  -- a service in its course: these chains were served since its start
  pub record Course (start now : Site Ring State) : Type 0 where
    pub chains : List (Served State)
    pub serves : ServesAll start chains now

-- the ring has at most one chain at a place: the buffers and the entry, or a fault, and never both
pub record HasAtMostOneChain {Ring : Type 0} (kind : Kind Ring) : Type 0 where
  pub buffers : (m : Memory) (ring : Ring) (b c : List Buffer) (e f : Entry) → kind.Offers m ring b e
      → kind.Offers m ring c f → b ≡ c
  pub entry : (m : Memory) (ring : Ring) (b c : List Buffer) (e f : Entry) → kind.Offers m ring b e
      → kind.Offers m ring c f → e ≡ f
  pub fault : (m : Memory) (ring : Ring) (f g : Fault) → kind.HasFault m ring f
      → kind.HasFault m ring g → f ≡ g
  pub not_both : (m : Memory) (ring : Ring) (b : List Buffer) (e : Entry) (f : Fault) → kind.Offers m ring b e
      → kind.HasFault m ring f → ⊥

-- the ring has a chain or a fault at each place, whether or not that is on offer
pub record HasSomeChain {Ring : Type 0} (kind : Kind Ring) : Type 0 where
  pub some : (m : Memory) (ring : Ring)
      → ((buffers : List Buffer) × (entry : Entry) × kind.Offers m ring buffers entry)
      ⊎ ((fault : Fault) × kind.HasFault m ring fault)

-- the device has at most one answer to a chain
pub record HasAtMostOneAnswer {State : Type 0} (device : Device State) : Type 0 where
  pub given : (s : State) (readable : List ℕ) (w : ℕ) (g h : Given State) → device.Gives s readable w g
      → device.Gives s readable w h → g ≡ h

-- what a device serves it has memory for
pub record Decides {State : Type 0} (device : Device State) : Type 0 where
  pub never_both : (s : State) (readable : List ℕ) (w : ℕ) (g : Given State) → device.Gives s readable w g
      → device.LacksMemory s readable w → ⊥

-- The device is the exact one where the count of its failures stays, and that count never falls. Of chains
-- that it leaves for want of memory this says nothing.
pub record IsExactUnless {State : Type 0} (device exact : Device State) (count : State → ℕ) : Type 0 where
  pub takes : (s : State) → device.takes s ≡ exact.takes s
  pub rises : (s : State) (readable : List ℕ) (w : ℕ) (g : Given State) → device.Gives s readable w g
      → count s ≤ count g.state
  pub gives : (s : State) (readable : List ℕ) (w : ℕ) (g : Given State) → device.Gives s readable w g
      → count g.state ≡ count s → exact.Gives s readable w g
