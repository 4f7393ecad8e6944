-- The interrupt lines of a slot's windows, as its host sets them.
use Rattle.std.specs.Prelude.{ℕ, ◌+◌, ◌*◌, nat_lt, if◌then◌else◌, List, [], ◌∷◌, map, take}
use Rattle.std.specs.List.{slice_get}
use Rattle.std.specs.Option.{option_map_or}
use Rattle.mmio_window.specs.Interrupts.{interrupt_bits}
use Rattle.mmio_window.specs.Window.{WindowState}
use Rattle.board.specs.Slot.{BoardSlot}

-- a slot's windows in the order of their numbers: the disk's, the console's, and those of its further devices, six at most
abbrev pub windows_of : BoardSlot → List WindowState
windows_of slot = slot.block ∷ slot.console ∷ map (λ device. device.window) (take 6 slot.devices)

-- a line by its window's InterruptStatus (4.2.2): 1 where it is high, which it is while the word isn't 0
abbrev pub line_by : ℕ → ℕ
line_by word = if nat_lt 0 word then 1 else 0

-- the lines as a set of bits: bit n is set where the line of window n is high
abbrev pub line_bits : List WindowState → ℕ
line_bits [] = 0
line_bits (window ∷ windows) = line_by (interrupt_bits window.interrupts) + 2 * line_bits windows

abbrev pub lines_of : BoardSlot → ℕ
lines_of slot = line_bits (windows_of slot)

-- the line of a further device, and 0 where there is none of this number
abbrev pub device_line : ℕ → BoardSlot → ℕ
device_line n slot = option_map_or (λ device. line_by (interrupt_bits device.window.interrupts)) (slice_get slot.devices n) 0
