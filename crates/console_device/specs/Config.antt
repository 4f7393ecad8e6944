-- The features (5.3.3) and the configuration space (5.3.4) of a console.
use Rattle.std.specs.Prelude.{ℕ, List, ◌+◌, ◌++◌, replicate}
use Rattle.byteorder.specs.Endian.{little_bytes}
use Rattle.mmio_window.specs.Reading.{configuration_offset}
use Rattle.negotiation.specs.Features.{console_emerg_write, console_size, device_features}

-- the features that a console offers (5.3.3): it tells its size, and takes emergency writes
abbrev pub console_features : ℕ
console_features = console_size + console_emerg_write + device_features

-- 64 bytes: the columns in 2, the rows in 2; max_nr_ports in 4 and emerg_wr in 4 are 0, and zeros follow
abbrev pub config_of : ℕ → ℕ → List ℕ
config_of cols rows = little_bytes 2 cols ++ little_bytes 2 rows ++ little_bytes 4 0
    ++ little_bytes 4 0 ++ replicate 52 0

-- where a driver writes to the console without a queue: emerg_wr (5.3.4)
abbrev pub emergency_write : ℕ
emergency_write = configuration_offset + 8
