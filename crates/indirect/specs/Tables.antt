-- The buffers of an indirect table, or its fault (2.7.5.3, 2.8.7).
use Rattle.std.specs.Prelude.{◌≡◌, ℕ, ◌+◌, ◌*◌, ◌/◌, ◌%◌, ◌<◌, ◌≤◌, List, ◌++◌}
use Rattle.guest_memory.specs.Memory.{Memory, Inside}
use Rattle.chain.specs.Buffers.{AdmitsAll, Refuses}
use Rattle.chain.specs.declared.segment.Buffer.{Buffer}
use Rattle.chain.specs.declared.fault.Fault.{Fault}
use Rattle.chain.specs.declared.fault.Fault.TheVariants.{Table, Range}
use Rattle.indirect.specs.Descriptors.{split_table, packed_buffer, packed_buffers}
use Rattle.indirect.specs.Walks.{Resolves, FaultAt}

-- the length of a table: 1 to 256 whole descriptors of 16 bytes
pub record IsTableLen (len : ℕ) : Type 0 where
  pub least : 0 < len
  pub most : len ≤ 4096
  pub whole : len % 16 ≡ 0

-- the range is a table: it has a table's length and lies inside the memory
pub record IsTable (m : Memory) (addr len : ℕ) : Type 0 where
  pub size : IsTableLen len
  pub inside : Inside m addr len

-- the range isn't a table: its length is none of a table, or else it isn't inside the memory
pub record IsNoTable (m : Memory) (addr len : ℕ) (fault : Fault) : Type 0 where
  pub bad_len : ¬ IsTableLen len → fault ≡ Table
  pub outside : IsTableLen len → (fault ≡ Range) × ¬ Inside m addr len

-- the split table has a path from its first descriptor, and with its buffers those before are those after
pub record SplitTableResolves (m : Memory) (addr len : ℕ) (before after : List Buffer) : Type 0 where
  pub table : IsTable m addr len
  pub path : Resolves m before (split_table m addr) (len / 16) 0 after

-- the fault of a range as a table behind the buffers before, and the buffers that stand before it;
-- Meets says what is met by going through a table
pub record TableFails (m : Memory) (addr len : ℕ) (before : List Buffer)
    (Meets : Fault → List Buffer → Type 0) (fault : Fault) (after : List Buffer) : Type 0 where
  pub no_table : ¬ IsTable m addr len → IsNoTable m addr len fault × (after ≡ before)
  pub walked : IsTable m addr len → Meets fault after

-- of a split table that is what its path meets
abbrev pub SplitTableFails : Memory → ℕ → ℕ → List Buffer → Fault → List Buffer → Type 0
SplitTableFails m addr len before fault after =
    TableFails m addr len before (FaultAt m before (split_table m addr) (len / 16) 0) fault after

-- the buffers of all descriptors of the packed table may stand behind those before, and with them they are
-- those after
pub record PackedTableResolves (m : Memory) (addr len : ℕ) (before after : List Buffer) : Type 0 where
  pub table : IsTable m addr len
  pub admitted : AdmitsAll m before (packed_buffers m addr (len / 16))
  pub named : after ≡ before ++ packed_buffers m addr (len / 16)

-- the buffer of the i-th descriptor of a packed table is refused, those of the descriptors before it aren't
pub record PackedFaultAt (m : Memory) (addr n : ℕ) (before : List Buffer) (fault : Fault)
    (after : List Buffer) : Type 0 where
  pub at : ℕ
  pub below : at < n
  pub admitted : AdmitsAll m before (packed_buffers m addr at)
  pub named : after ≡ before ++ packed_buffers m addr at
  pub refused : Refuses m after (packed_buffer m (addr + 16 * at)) fault

-- of a packed table that is the first buffer that is refused
abbrev pub PackedTableFails : Memory → ℕ → ℕ → List Buffer → Fault → List Buffer → Type 0
PackedTableFails m addr len before fault after =
    TableFails m addr len before (PackedFaultAt m addr (len / 16) before) fault after
