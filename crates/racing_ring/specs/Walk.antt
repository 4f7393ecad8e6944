-- The walk through a descriptor table that its guest may write meanwhile.
use Rattle.std.specs.Prelude.{ℕ, Bool, List}
use Rattle.chain.specs.declared.segment.Buffer.{Buffer}
use Rattle.chain.specs.declared.fault.Fault.{Fault}
use Rattle.indirect.specs.declared.descriptor.Descriptor.{Descriptor}
use Rattle.indirect.specs.Lists.{split_tables, ListResolves, ListFails}
use Rattle.shared_memory.specs.Sightings.{Sightings, memory}
use Rattle.racing_ring.specs.Table.{IsTableSeen}

-- a walk from a head came to the end of a list: through a table each of whose descriptors is what stood there from a place
-- on, and through an indirect table as it was seen last
pub record IsWalked (begin : ℕ) (new : Sightings) (negotiated : Bool) (addr n head : ℕ) (buffers : List Buffer) : Type 0 where
  pub table : ℕ → Descriptor
  pub table_seen : IsTableSeen begin new addr n table
  pub count : ℕ
  pub last : ℕ
  pub resolves : ListResolves split_tables negotiated (memory new) table n head count last buffers

-- or to a fault
pub record IsWalkFaulty (begin : ℕ) (new : Sightings) (negotiated : Bool) (addr n head : ℕ) (fault : Fault) : Type 0 where
  pub table : ℕ → Descriptor
  pub table_seen : IsTableSeen begin new addr n table
  pub fails : ListFails split_tables negotiated (memory new) table n head fault
