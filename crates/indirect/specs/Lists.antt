-- The list of descriptors that a ring offers (2.7.5, 2.8.6): its buffers, or its fault. It is stated for any
-- ring: t is its table of n descriptors and h the index of the list's head. In a packed ring the next of a
-- descriptor is the one at the next position.
use Rattle.std.specs.Prelude.{◌≡◌, ℕ, ◌<◌, ◌≤◌, Bool, true, false, ◌||◌, ◌&&◌, nat_lt, is_some, None, List, [], ◌∷◌, ◌++◌, ◌⊎◌}
use Rattle.guest_memory.specs.Memory.{Memory}
use Rattle.chain.specs.Buffers.{Admits, Refuses}
use Rattle.chain.specs.declared.segment.Buffer.{Buffer}
use Rattle.chain.specs.declared.fault.Fault.{Fault}
use Rattle.chain.specs.declared.fault.Fault.TheVariants.{Index, Loop, Joined, NoIndirect}
use Rattle.chain.specs.Service.{Entry}
use Rattle.indirect.specs.declared.descriptor.Descriptor.{Descriptor}
use Rattle.indirect.specs.Walks.{Reached, ComesNext}
use Rattle.indirect.specs.Tables.{SplitTableResolves, SplitTableFails, PackedTableResolves, PackedTableFails}

-- what a kind of ring says of indirect tables
pub record TableKind : Type 1 where
  -- a descriptor that refers to a table is the only one of its list
  pub alone : Bool
  -- with the buffers of the table at an address, of a length, these before become those after
  pub HasBuffers : Memory → ℕ → ℕ → List Buffer → List Buffer → Type 0
  -- the fault of the table behind the buffers before, and the buffers that stand before it
  pub HasFault : Memory → ℕ → ℕ → List Buffer → Fault → List Buffer → Type 0

-- In a split ring plain descriptors may come before one that refers to a table (2.7.5.3.1).
abbrev pub split_tables : TableKind
split_tables = record { alone = false; HasBuffers = SplitTableResolves; HasFault = SplitTableFails }

-- In a packed ring none may (2.8.7).
abbrev pub packed_tables : TableKind
packed_tables = record { alone = true; HasBuffers = PackedTableResolves; HasFault = PackedTableFails }

-- the range has buffers as a table of this kind, or a fault
abbrev pub TableHasOutcome : TableKind → Memory → ℕ → ℕ → List Buffer → Type 0
TableHasOutcome kind m addr len before =
    ((after : List Buffer) × kind.HasBuffers m addr len before after)
    ⊎ ((fault : Fault) × (left : List Buffer) × kind.HasFault m addr len before fault left)

-- the plain descriptor d ends a list behind these buffers
pub record EndsPlain (m : Memory) (before : List Buffer) (d : Descriptor) (after : List Buffer) : Type 0 where
  pub ends : d.next ≡ None
  pub admitted : Admits m before d.buffer
  pub named : after ≡ before ++ d.buffer ∷ []

-- whether a descriptor that refers to a table is joined to others: it has NEXT, or count members come before
-- it where it has to be alone
abbrev pub is_joined : TableKind → ℕ → Descriptor → Bool
is_joined kind count d = is_some d.next || (kind.alone && nat_lt 0 count)

module _ (kind : TableKind) (negotiated : Bool) (m : Memory) where
  -- the descriptor d, which refers to a table, ends a list behind count members with these buffers
  pub record EndsInTable (before : List Buffer) (count : ℕ) (d : Descriptor)
      (after : List Buffer) : Type 0 where
    pub known : negotiated ≡ true
    pub apart : is_joined kind count d ≡ false
    pub table : kind.HasBuffers m d.buffer.segment.addr d.buffer.segment.len before after

  -- the descriptor d, which refers to a table or doesn't, ends a list
  abbrev pub EndsBy : Bool → List Buffer → ℕ → Descriptor → List Buffer → Type 0
  EndsBy false before count d after = EndsPlain m before d after
  EndsBy true before count d after = EndsInTable before count d after

  -- the table that the descriptor d refers to has a fault behind these buffers
  pub record TableFaulty (before : List Buffer) (d : Descriptor) (fault : Fault) : Type 0 where
    pub left : List Buffer
    pub table : kind.HasFault m d.buffer.segment.addr d.buffer.segment.len before fault left

  -- The fault of a descriptor d that refers to a table, behind count members with these buffers: the feature
  -- wasn't negotiated; else d is joined to others; else its table's.
  pub record TableRefused (before : List Buffer) (count : ℕ) (d : Descriptor) (fault : Fault) : Type 0 where
    pub unknown : negotiated ≡ false → fault ≡ NoIndirect
    pub joined : negotiated ≡ true → is_joined kind count d ≡ true → fault ≡ Joined
    pub faulty : negotiated ≡ true → is_joined kind count d ≡ false → TableFaulty before d fault

  module _ (t : ℕ → Descriptor) (n h : ℕ) where
    -- the list from h: count plain members with NEXT, and the last one, which ends it; these are its buffers
    pub record ListResolves (count last : ℕ) (buffers : List Buffer) : Type 0 where
      pub before : List Buffer
      pub reached : Reached m [] t n h count last before
      pub comes : ComesNext n count last
      pub ends : EndsBy (t last).indirect before count (t last) buffers

    -- the list from h has these buffers, and is given back by this entry: the one of how many members come
    -- before its last one, and of that one's index
    pub record ListOffers (entry_of : ℕ → ℕ → Entry) (buffers : List Buffer) (entry : Entry) : Type 0 where
      pub count : ℕ
      pub last : ℕ
      pub list : ListResolves count last buffers
      pub entry_is : entry ≡ entry_of count last

    -- The fault of the list from h. A front of count plain members with good buffers leads to an index, and
    -- there it can't go on: it has n members; or the index isn't below n; or the buffer of the descriptor
    -- that comes next, which is plain, is refused; or that descriptor refers to a table, which is refused.
    pub record ListFails (fault : Fault) : Type 0 where
      pub count : ℕ
      pub at : ℕ
      pub before : List Buffer
      pub reached : Reached m [] t n h count at before
      pub most : count ≤ n
      pub full : count ≡ n → fault ≡ Loop
      pub past : count < n → n ≤ at → fault ≡ Index
      pub plain : ComesNext n count at → (t at).indirect ≡ false → Refuses m before (t at).buffer fault
      pub indirect : ComesNext n count at → (t at).indirect ≡ true → TableRefused before count (t at) fault

    -- the list from h has buffers, or a fault
    abbrev pub ListHasOutcome : Type 0
    ListHasOutcome =
        ((count : ℕ) × (last : ℕ) × (buffers : List Buffer) × ListResolves count last buffers)
        ⊎ ((fault : Fault) × ListFails fault)
