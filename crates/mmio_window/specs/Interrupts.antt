-- The reasons for which a device asks for its driver's attention (4.2.2), as InterruptStatus shows them and
-- InterruptACK clears them.
use Rattle.std.specs.Prelude.{ℕ, ◌+◌, ◌&&◌, false, if◌then◌else◌}
use Rattle.negotiation.specs.Sets.{lacks}
use Rattle.mmio_window.specs.declared.interrupts.Interrupts.{Interrupts}

-- no reason stands
abbrev pub no_interrupts : Interrupts
no_interrupts = record { used_buffer = false; configuration_change = false }

-- bit 0 for a used buffer, bit 1 for a change of the configuration
abbrev pub interrupt_bits : Interrupts → ℕ
interrupt_bits i = (if i.used_buffer then 1 else 0) + (if i.configuration_change then 2 else 0)

-- a write to InterruptACK clears the reasons whose bits it has
abbrev pub acknowledged : ℕ → Interrupts → Interrupts
acknowledged value i = record {
  used_buffer = i.used_buffer && lacks value 1;
  configuration_change = i.configuration_change && lacks value 2;
}
