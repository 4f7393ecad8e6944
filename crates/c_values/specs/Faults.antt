-- The last fault of a window, as C has it.
use Rattle.std.specs.Prelude.{◌≡◌, ℕ, Option, None, Some}
use Rattle.std.specs.Option.{option_map_or}
use Rattle.chain.specs.declared.fault.Fault.{Fault}
use Rattle.chain.specs.declared.fault.Fault.TheVariants.{Jump, Index, Loop, TooMany, Table, Nested, Joined, NoIndirect, Range, TooLong}
use Rattle.mmio_window.specs.declared.fault_note.FaultNote.{FaultNote}
use Rattle.c_values.specs.declared.fault.Fault as told

-- KALYUBOS_FAULT_JUMP and those that follow it
abbrev pub fault_number : Fault → ℕ
fault_number Jump = 1
fault_number Index = 2
fault_number Loop = 3
fault_number TooMany = 4
fault_number Table = 5
fault_number Nested = 6
fault_number Joined = 7
fault_number NoIndirect = 8
fault_number Range = 9
fault_number TooLong = 10

-- KALYUBOS_NO_HEAD, where no head was read
abbrev pub no_head : ℕ
no_head = 0xffff_ffff

-- a note, or KALYUBOS_NO_FAULT until there is one
abbrev pub told_fault : Option FaultNote → told.Fault
told_fault None = record { kind = 0; queue = 0; head = no_head; place = 0 }
told_fault (Some note) = record {
  kind = fault_number note.fault;
  queue = note.queue;
  head = option_map_or (λ head. head) note.head no_head;
  place = note.place;
}

-- this is what is told of some note, or where there is none
pub record IsTold (fault : told.Fault) : Type 0 where
  pub note : Option FaultNote
  pub spelled : fault ≡ told_fault note
