-- The lines of a slot's windows, added up by number.
use Rattle.std.proofs.Common.{arith, ◌≡◌, ℕ, List, [], ◌∷◌, refl}
use Rattle.std.specs.Prelude.{◌+◌, ◌*◌, map, take}
use Rattle.std.specs.List.{slice_get}
use Rattle.std.specs.Option.{option_map_or}
use Rattle.mmio_window.specs.Interrupts.{interrupt_bits}
use Rattle.device_list.specs.Device.{DeviceState}
use Rattle.board.specs.Slot.{BoardSlot}
use Rattle.session.specs.Windows.{device_line, line_by, line_bits, lines_of}

abbrev at : ℕ → List DeviceState → ℕ
at n ds = option_map_or (λ (d : DeviceState). line_by (interrupt_bits d.window.interrupts)) (slice_get ds n) 0

-- those of the further devices
six : (ds : List DeviceState) → line_bits (map (λ (d : DeviceState). d.window) (take 6 ds))
    ≡ at 0 ds + 2 * at 1 ds + 4 * at 2 ds + 8 * (at 3 ds + 2 * at 4 ds + 4 * at 5 ds)
six [] = refl
six (a ∷ []) = omega (arith)
six (a ∷ b ∷ []) = omega (arith)
six (a ∷ b ∷ c ∷ []) = omega (arith)
six (a ∷ b ∷ c ∷ d ∷ []) = omega (arith)
six (a ∷ b ∷ c ∷ d ∷ e ∷ []) = omega (arith)
six (a ∷ b ∷ c ∷ d ∷ e ∷ f ∷ more) = omega (arith)

pub all_lines : (slot : BoardSlot) (block console a b c d e f : ℕ) → block ≡ line_by (interrupt_bits slot.block.interrupts)
    → console ≡ line_by (interrupt_bits slot.console.interrupts) → a ≡ device_line 0 slot → b ≡ device_line 1 slot
    → c ≡ device_line 2 slot → d ≡ device_line 3 slot → e ≡ device_line 4 slot → f ≡ device_line 5 slot
    → block + 2 * console + 4 * (a + 2 * b + 4 * c + 8 * (d + 2 * e + 4 * f)) ≡ lines_of slot
all_lines slot block console a b c d e f own other first second third fourth fifth sixth =
    rw (own, other, first, second, third, fourth, fifth, sixth) (omega (arith, six slot.devices))
