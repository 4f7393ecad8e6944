-- Where a ring's areas lie, they lie after reads and stores.
use Rattle.std.proofs.Common.{ℕ, ◌+◌, ◌*◌, ◌<◌, Bool, arith}
use Rattle.guest_memory.specs.Memory.{Memory, Inside}
use Rattle.guest_memory.proofs.Ranges.{inside_part}
use Rattle.chain.specs.declared.setup.Setup.{Setup}
use Rattle.split_ring.specs.Ring.{LiesIn}
use Rattle.packed_ring.specs.Ring as packed
use Rattle.shared_memory.specs.Sightings.{Sightings, Loads, Stores, memory}
use Rattle.shared_memory.proofs.Sightings.{loads_range, stores_range}
use Rattle.racing_ring.specs.Lying.{packed_lies, split_lies}

-- of a split ring
pub lies_loads : (races : Bool) (old new : Sightings) (setup : Setup) → Loads races old new
    → LiesIn (memory old) setup → LiesIn (memory new) setup
lies_loads races old new setup l lies = split_lies (memory old) (memory new) setup (loads_range races old new l) lies

pub lies_stores : (races : Bool) (old new : Sightings) (a k v : ℕ) (setup : Setup) → Stores races old new a k v
    → LiesIn (memory old) setup → LiesIn (memory new) setup
lies_stores races old new a k v setup s lies =
    split_lies (memory old) (memory new) setup (stores_range races old new a k v s) lies

-- and of a packed one
pub packed_lies_loads : (races : Bool) (old new : Sightings) (setup : Setup) → Loads races old new
    → packed.LiesIn (memory old) setup → packed.LiesIn (memory new) setup
packed_lies_loads races old new setup l lies =
    packed_lies (memory old) (memory new) setup (loads_range races old new l) lies

pub packed_lies_stores : (races : Bool) (old new : Sightings) (a k v : ℕ) (setup : Setup) → Stores races old new a k v
    → packed.LiesIn (memory old) setup → packed.LiesIn (memory new) setup
packed_lies_stores races old new a k v setup s lies =
    packed_lies (memory old) (memory new) setup (stores_range races old new a k v s) lies

-- a used entry lies in the device area
pub entry_inside : (m : Memory) (setup : Setup) (i : ℕ) → LiesIn m setup → i < setup.size
    → Inside m (setup.device + 4 + 8 * i) 8
entry_inside m setup i lies below = inside_part lies.device (omega arith) (omega (arith, below))
