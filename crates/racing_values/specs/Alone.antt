-- A memory that its driver leaves alone, and a call that sees it first: a packed queue has an OUT to sector 5 on offer.
use Rattle.std.specs.Prelude.{ℕ, false, true, List, [], ◌∷◌, ◌++◌, drop, replicate, take}
use Rattle.guest_memory.specs.declared.spec.RegionSpec.{RegionSpec}
use Rattle.chain.specs.declared.segment.Buffer.{Buffer}
use Rattle.chain.specs.declared.state.RingState.{RingState}
use Rattle.chain.specs.Buffers.{buffer_of}
use Rattle.chain.specs.Service.{Entry}
use Rattle.packed_ring.specs.Kind.{entry_of}
use Rattle.shared_memory.specs.Sightings.{Sightings}
use Rattle.racing_memory.specs.Past.{Access, Stood, sightings_of}

-- one region of 56 bytes from 0x1000 on
abbrev pub regions : List RegionSpec
regions = record { base = 4096; len = 56 } ∷ []

-- The list's two descriptors (2.8.13): 16 bytes at 0x1020, with NEXT and AVAIL; and a byte at 0x1030 that the device writes, of
-- buffer id 7, with WRITE and AVAIL.
abbrev pub first : List ℕ
first = 32 ∷ 16 ∷ 0 ∷ 0 ∷ 0 ∷ 0 ∷ 0 ∷ 0 ∷ 16 ∷ 0 ∷ 0 ∷ 0 ∷ 0 ∷ 0 ∷ 129 ∷ 0 ∷ []

abbrev pub second : List ℕ
second = 48 ∷ 16 ∷ 0 ∷ 0 ∷ 0 ∷ 0 ∷ 0 ∷ 0 ∷ 1 ∷ 0 ∷ 0 ∷ 0 ∷ 7 ∷ 0 ∷ 130 ∷ 0 ∷ []

-- the header of an OUT to sector 5 (5.2.6)
abbrev pub header : List ℕ
header = 1 ∷ 0 ∷ 0 ∷ 0 ∷ 0 ∷ 0 ∷ 0 ∷ 0 ∷ 5 ∷ 0 ∷ 0 ∷ 0 ∷ 0 ∷ 0 ∷ 0 ∷ 0 ∷ []

abbrev pub bytes : List ℕ
bytes = first ++ (second ++ (header ++ replicate 8 0))

abbrev pub stood : Stood
stood = record { bytes = bytes; pages = [] }

-- the queue of two descriptors at 0x1000, before its first service
abbrev pub ring : RingState
ring = record {
  setup = record { size = 2; desc = 4096; driver = 0; device = 0; indirect = false; event_idx = false };
  place = 0;
  pending = 2;
  used_count = 0;
  ahead = 0;
}

-- what is on offer
abbrev pub buffers : List Buffer
buffers = buffer_of 4128 16 false ∷ buffer_of 4144 1 true ∷ []

abbrev pub entry : Entry
entry = entry_of 7 2

-- what the call reads: of each descriptor the word with its flags and then its address, and then the header
abbrev pub list_read : List Access
list_read = record { addr = 4112; bytes = take 8 second; stores = false }
    ∷ record { addr = 4120; bytes = drop 8 second; stores = false }
    ∷ record { addr = 4096; bytes = take 8 first; stores = false }
    ∷ record { addr = 4104; bytes = drop 8 first; stores = false }
    ∷ []

abbrev pub all_read : List Access
all_read = record { addr = 4128; bytes = header; stores = false } ∷ list_read

-- what the memory is seen as behind these accesses
abbrev pub seen_by : List Access → Sightings
seen_by past = sightings_of (record { regions = regions; stood = stood; past = past })
