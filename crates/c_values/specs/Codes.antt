-- The number that stands for an answer.
use Rattle.std.specs.Prelude.{ℕ}
use Rattle.guest_memory.specs.declared.fault.MemoryFault.{MemoryFault}
use Rattle.guest_memory.specs.declared.fault.MemoryFault.TheVariants.{NoRegions, BadSize, BadBase, NotApart, NoMemory}

-- a guest's memory that was refused
abbrev pub memory_code : MemoryFault → ℕ
memory_code NoRegions = 27
memory_code BadSize = 10
memory_code BadBase = 11
memory_code NotApart = 28
memory_code NoMemory = 5
