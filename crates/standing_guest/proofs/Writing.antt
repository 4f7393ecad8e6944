-- A write leaves a sound window sound.
use Rattle.std.proofs.Common.{ℕ, Bool, true, false, Option, Some, None}
use Rattle.std.specs.Prelude.{◌==◌, ◌&&◌, nat_lt, if◌then◌else◌}
use Rattle.std.specs.Option.{option_map_or}
use Rattle.guest_memory.specs.Memory.{Memory}
use Rattle.mmio_window.specs.declared.register.Register.{Register}
use Rattle.mmio_window.specs.Reading.{configuration_offset}
use Rattle.mmio_window.specs.Registers.{register_at}
use Rattle.mmio_window.specs.Soundness.{IsSound}
use Rattle.mmio_window.specs.Window.{WindowState}
use Rattle.mmio_window.specs.Writing.{register_written, written}
use Rattle.mmio_window.proofs.Soundness.{IsSound-register_written}

by_cases : (value : ℕ) (m : Memory) (w : WindowState) → IsSound m w → (taken : Bool) (found : Option Register)
    → IsSound m (if taken then option_map_or (λ register. register_written register value m w) found w else w)
by_cases value m w sound false found = sound
by_cases value m w sound true None = sound
by_cases value m w sound true (Some register) = IsSound-register_written register value m w sound

pub written_sound : (offset width value : ℕ) (m : Memory) (w : WindowState) → IsSound m w
    → IsSound m (written offset width value m w)
written_sound offset width value m w sound =
    by_cases value m w sound (nat_lt offset configuration_offset && width == 4) (register_at offset)
