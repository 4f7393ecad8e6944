-- A descriptor whose two words were read one after the other.
use Rattle.std.proofs.Common.{◌≡◌, ◌∙◌, ℕ, ◌+◌, ◌%◌, ◌≤◌, Bool, refl, sym, arith}
use Rattle.guest_memory.specs.Memory.{num}
use Rattle.indirect.specs.Descriptors.{descriptor_of}
use Rattle.packed_ring.specs.Ring.{descriptor_addr, flags_of}
use Rattle.shared_memory.specs.Sightings.{Sightings, Loads, memory}
use Rattle.shared_memory.proofs.Sightings.{loads_trans}
use Rattle.racing_ring.specs.Source.{AreFields, Source, IsSeenInTurn}
use Rattle.racing_ring.specs.Table.{IsDescriptorSeen, read_split}
use Rattle.racing_ring.specs.Packed.{IsCopied, read_descriptor}

-- the first of two reads saw the flags, and the second one the address
abbrev pub source_of : Sightings → Sightings → Source
source_of mid new = record { flags_in = memory mid; addr_in = memory new }

-- so it is where the fields of a descriptor were read
pub seen_in_turn : (races : Bool) (old new : Sightings) (at addr len third last : ℕ)
    → (f : AreFields races old new at addr len third last) → IsSeenInTurn old.now new (source_of f.between new)
seen_in_turn races old new at addr len third last f = record {
  flags_at = f.between.now;
  addr_at = new.now;
  from = f.flags_first.later;
  in_turn = f.addr_next.later;
  to = omega arith;
  flags_is = sym (f.addr_next.kept f.between.now (omega arith));
  addr_is = refl;
}

pub fields_loaded : {races : Bool} {old new : Sightings} {at addr len third last : ℕ}
    → AreFields races old new at addr len third last → Loads races old new
fields_loaded {races} {old} {new} f = loads_trans races old f.between new f.flags_first f.addr_next

-- and where both words are of the memory that was seen last
pub seen_at_last : (begin : ℕ) (new : Sightings) → begin ≤ new.now → IsSeenInTurn begin new (source_of new new)
seen_at_last begin new later = record {
  flags_at = new.now;
  addr_at = new.now;
  from = later;
  in_turn = omega arith;
  to = omega arith;
  flags_is = refl;
  addr_is = refl;
}

-- what was seen stays seen
pub turn_later : (races : Bool) (begin : ℕ) (mid new : Sightings) (source : Source) → Loads races mid new
    → IsSeenInTurn begin mid source → IsSeenInTurn begin new source
turn_later races begin mid new source loads s = record {
  flags_at = s.flags_at;
  addr_at = s.addr_at;
  from = s.from;
  in_turn = s.in_turn;
  to = omega (arith, s.to, loads.later);
  flags_is = s.flags_is ∙ sym (loads.kept s.flags_at (omega (arith, s.in_turn, s.to)));
  addr_is = s.addr_is ∙ sym (loads.kept s.addr_at s.to);
}

-- also from an earlier place on
pub turn_sooner : (begin mid : ℕ) (new : Sightings) (source : Source) → begin ≤ mid → IsSeenInTurn mid new source
    → IsSeenInTurn begin new source
turn_sooner begin mid new source sooner s = record {
  flags_at = s.flags_at;
  addr_at = s.addr_at;
  from = omega (arith, sooner, s.from);
  in_turn = s.in_turn;
  to = s.to;
  flags_is = s.flags_is;
  addr_is = s.addr_is;
}

-- a split descriptor of fields that were read
split_is : (source : Source) (a addr len flags next : ℕ) → addr ≡ num source.addr_in a 8
    → len ≡ num source.flags_in (a + 8) 4 → flags ≡ num source.flags_in (a + 12) 2
    → next ≡ num source.flags_in (a + 14) 2 → descriptor_of addr len flags next ≡ read_split source a
split_is source a addr len flags next addr_is len_is flags_is next_is = rw (next_is, flags_is, len_is, addr_is) refl

pub split_seen : {races : Bool} {old new : Sightings} {a addr len flags next : ℕ}
    → AreFields races old new a addr len flags next
    → IsDescriptorSeen old.now new a (descriptor_of addr len flags next)
split_seen {races} {old} {new} {a} {addr} {len} {flags} {next} f = record {
  source = source_of f.between new;
  seen = seen_in_turn races old new a addr len flags next f;
  is = split_is (source_of f.between new) a addr len flags next f.addr_is f.len_is f.third_is f.last_is;
}

-- and a packed one
packed_is : (source : Source) (desc n i addr len flags : ℕ)
    → addr ≡ num source.addr_in (descriptor_addr desc i) 8
    → len ≡ num source.flags_in (descriptor_addr desc i + 8) 4
    → flags ≡ flags_of source.flags_in (descriptor_addr desc i)
    → descriptor_of addr len flags ((i + 1) % n) ≡ read_descriptor source desc n i
packed_is source desc n i addr len flags addr_is len_is flags_is = rw (flags_is, len_is, addr_is) refl

pub packed_copied : {races : Bool} {old new : Sightings} {desc n i addr len id flags : ℕ}
    → AreFields races old new (descriptor_addr desc i) addr len id flags
    → IsCopied old new desc n i (descriptor_of addr len flags ((i + 1) % n)) id flags
packed_copied {races} {old} {new} {desc} {n} {i} {addr} {len} {id} {flags} f = record {
  source = source_of f.between new;
  seen = seen_in_turn races old new (descriptor_addr desc i) addr len id flags f;
  descriptor = packed_is (source_of f.between new) desc n i addr len flags f.addr_is f.len_is f.last_is;
  id_is = f.third_is;
  flags_is = f.last_is;
}
