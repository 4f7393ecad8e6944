-- Lists of descriptors linked by NEXT, in any table of them (2.7.5). A table is a function from an index
-- to a descriptor, and n is the number of its descriptors; the table may be a ring's own.
use Rattle.std.specs.Prelude.{◌≡◌, ℕ, ◌<◌, ◌≤◌, true, false, Some, None, List, [], ◌∷◌, ◌++◌, ◌⊎◌, length, map}
use Rattle.guest_memory.specs.Memory.{Memory}
use Rattle.chain.specs.Buffers.{AdmitsAll, Refuses}
use Rattle.chain.specs.declared.segment.Buffer.{Buffer}
use Rattle.chain.specs.declared.fault.Fault.{Fault}
use Rattle.chain.specs.declared.fault.Fault.TheVariants.{Index, Loop, TooMany, Nested, Range, TooLong}
use Rattle.indirect.specs.declared.descriptor.Descriptor.{Descriptor}

-- the descriptor of index i is plain, has NEXT, and refers to j as the next one
pub record Follows (t : ℕ → Descriptor) (n i j : ℕ) : Type 0 where
  pub below : i < n
  pub plain : (t i).indirect ≡ false
  pub next : (t i).next ≡ Some j

-- the first of a list of indices, and i where there is none
abbrev pub first_of : List ℕ → ℕ → ℕ
first_of [] i = i
first_of (x ∷ members) i = x

-- the members are a front of plain descriptors that begins with h, each refers to the one after it, and the
-- last refers to i; where there is no member, i is h
abbrev pub Leads : (ℕ → Descriptor) → ℕ → ℕ → List ℕ → ℕ → Type 0
Leads t n h [] i = h ≡ i
Leads t n h (x ∷ members) i = (h ≡ x) × Follows t n x (first_of members i)
    × Leads t n (first_of members i) members i

-- the buffers of some descriptors, in order
abbrev pub buffers_of : (ℕ → Descriptor) → List ℕ → List Buffer
buffers_of t members = map (λ i. (t i).buffer) members

-- a front from h leads to index i; it has count members, their buffers may stand behind those before, and
-- with them they are the buffers so far
pub record Reached (m : Memory) (before : List Buffer) (t : ℕ → Descriptor) (n h count i : ℕ)
    (buffers : List Buffer) : Type 0 where
  pub front : List ℕ
  pub leads : Leads t n h front i
  pub counted : length front ≡ count
  pub admitted : AdmitsAll m before (buffers_of t front)
  pub named : buffers ≡ before ++ buffers_of t front

-- a descriptor comes next: the members so far leave room for one more, and its index lies in the table
pub record ComesNext (n count i : ℕ) : Type 0 where
  pub room : count < n
  pub below : i < n

-- a path of 1 to n members from h: each but the last is plain and has NEXT, the last is plain and hasn't;
-- its buffers may stand behind those before, and with them they are the buffers after
pub record Resolves (m : Memory) (before : List Buffer) (t : ℕ → Descriptor) (n h : ℕ)
    (after : List Buffer) : Type 0 where
  pub front : List ℕ
  pub last : ℕ
  pub leads : Leads t n h front last
  pub comes : ComesNext n (length front) last
  pub plain : (t last).indirect ≡ false
  pub ends : (t last).next ≡ None
  pub admitted : AdmitsAll m before (buffers_of t (front ++ last ∷ []))
  pub named : after ≡ before ++ buffers_of t (front ++ last ∷ [])

-- a plain descriptor comes next, and its buffer is refused behind these
pub record NextRefused (m : Memory) (buffers : List Buffer) (t : ℕ → Descriptor) (n count i : ℕ)
    (fault : Fault) : Type 0 where
  pub comes : ComesNext n count i
  pub plain : (t i).indirect ≡ false
  pub refused : Refuses m buffers (t i).buffer fault

-- a descriptor comes next that refers to a table of its own
pub record NextIndirect (t : ℕ → Descriptor) (n count i : ℕ) : Type 0 where
  pub comes : ComesNext n count i
  pub indirect : (t i).indirect ≡ true

-- why a front of count members that leads to i can't go on in an indirect table: it has as many members as
-- the table; or i isn't an index of the table; or the descriptor that comes next refers to a table, or is
-- plain and its buffer is refused
abbrev pub StopsAt : Memory → List Buffer → (ℕ → Descriptor) → ℕ → ℕ → ℕ → Fault → Type 0
StopsAt m buffers t n count i Loop = count ≡ n
StopsAt m buffers t n count i Index = (count < n) × (n ≤ i)
StopsAt m buffers t n count i Nested = NextIndirect t n count i
StopsAt m buffers t n count i Range = NextRefused m buffers t n count i Range
StopsAt m buffers t n count i TooMany = NextRefused m buffers t n count i TooMany
StopsAt m buffers t n count i TooLong = NextRefused m buffers t n count i TooLong
StopsAt m buffers t n count i _ = ⊥

-- the fault of a table walked from h behind the buffers before: a front with buffers that may stand there
-- can't go on, and its buffers are those after
pub record FaultAt (m : Memory) (before : List Buffer) (t : ℕ → Descriptor) (n h : ℕ) (fault : Fault)
    (after : List Buffer) : Type 0 where
  pub count : ℕ
  pub at : ℕ
  pub reached : Reached m before t n h count at after
  pub stops : StopsAt m after t n count at fault

-- the walk from h behind the buffers before comes to the end of a path, or to a fault
abbrev pub WalkHasOutcome : Memory → List Buffer → (ℕ → Descriptor) → ℕ → ℕ → Type 0
WalkHasOutcome m before t n h =
    ((after : List Buffer) × Resolves m before t n h after)
    ⊎ ((fault : Fault) × (after : List Buffer) × FaultAt m before t n h fault after)
