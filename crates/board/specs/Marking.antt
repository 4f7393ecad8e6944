-- The events by which pages are marked.
use Rattle.std.specs.Prelude.{⊤}
use Rattle.board.specs.declared.event.EventKind.{EventKind}
use Rattle.board.specs.declared.event.EventKind.TheVariants.{MemWrite}

-- An event is for the devices, or the host writes to the guest's memory: of that it knows itself.
abbrev pub IsForDevices : {A : Type 0} → EventKind A → Type 0
IsForDevices (MemWrite addr bytes) = ⊥
IsForDevices what = ⊤
