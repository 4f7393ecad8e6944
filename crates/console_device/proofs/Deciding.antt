-- Where a limit decides what an output takes, a transmit has one service.
use Rattle.std.proofs.Common.{ℕ, Some, arith}
use Rattle.chain.specs.Service.{Decides}
use Rattle.console_device.specs.Device.{transmit_within}

pub within_decides : (limit : ℕ) → Decides (transmit_within (Some limit))
within_decides limit = record { never_both = λ out readable w g gives lacks. omega (arith, gives.1, lacks.1) }
