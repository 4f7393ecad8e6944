-- Where a ring's areas lie, they lie in a memory of the same range.
use Rattle.guest_memory.specs.Memory.{Memory, SameRange}
use Rattle.guest_memory.proofs.Ranges.{inside_same}
use Rattle.chain.specs.declared.setup.Areas.{Areas}
use Rattle.chain.specs.declared.setup.Setup.{Setup}
use Rattle.chain.specs.Setup as setups
use Rattle.split_ring.specs.Ring as split
use Rattle.packed_ring.specs.Ring as packed

pub areas_lie : (m n : Memory) (setup : Setup) (areas : Areas) → SameRange m n → setups.LiesIn m setup areas
    → setups.LiesIn n setup areas
areas_lie m n setup areas same lies = record {
  desc = inside_same m n setup.desc areas.desc same lies.desc;
  driver = inside_same m n setup.driver areas.driver same lies.driver;
  device = inside_same m n setup.device areas.device same lies.device;
}

pub split_lies : (m n : Memory) (setup : Setup) → SameRange m n → split.LiesIn m setup → split.LiesIn n setup
split_lies m n setup same lies = areas_lie m n setup (split.areas_of setup.size) same lies

pub packed_lies : (m n : Memory) (setup : Setup) → SameRange m n → packed.LiesIn m setup → packed.LiesIn n setup
packed_lies m n setup same lies = areas_lie m n setup (packed.areas_of setup.size) same lies
